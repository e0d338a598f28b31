-- The three demands, of the functions of the archive that firmware calls. Each statement is about any output x that the contract of a function allows for an input i: `ByRead i x` is what
-- vuolmaset_read promises, `ByPattern` and `ByConvert` likewise. exact/specs/Terms.antt has the words, to be read beside this file. Nothing is asked of an input but what a
-- statement names: `Passes i`, it passes the checks 1 to 7; `NoEarly`, nowhere stand Async, `(` with no line break before it, `...` and kind 1. Assumes nothing.
use Rattle.std.specs.Prelude.{◌*◌, ◌≤◌, ◌≡◌, ◌↔◌}
use Rattle.rows.specs.Base.{ℕ, Bool, List, length, Tree, Forest, size, Record}
use Rattle.operators.specs.Precedence.{level, expression_level}
use Rattle.lookahead.specs.Entry.{three_way_entry}
use Rattle.rows.specs.Handed.{Inside, chosen}
use Rattle.conversion.specs.TargetRule.{Target}
use Rattle.grammar.specs.{Job.expression, Job.binding_element, Reading.plain_reading, Reading.plain_pattern, Told.ToldThreeWay, Told.ToldSubtree}
use Rattle.ecma262.specs.Derives.{Expression, BindingElement, Derived}
use Rattle.exact.specs.Terms.{Own, In, Input, TreeInput, Output, sheet, Passes, ByRead, ByPattern, ByConvert, Shown, Clean, Answered, Converted, ThreeWayAnswered, Bounded}
use Rattle.agreement.specs.Terms.{ReadAs, NoEarly}
use Rattle.exact.proofs.Demands as proved

-- DEMAND 1: any bytes, one answer; read, or refused by number and place; every lent word
-- Any two outputs that vuolmaset_read may give for the same bytes and buffers are the same.
pub read_is_fixed : {i : Input} {x y : Output} → ByRead i x → ByRead i y → x ≡ y
read_is_fixed = proved.read_is_fixed

-- So are any two of vuolmaset_pattern.
pub pattern_is_fixed : {i : Input} {x y : Output} → ByPattern i x → ByPattern i y → x ≡ y
pattern_is_fixed = proved.pattern_is_fixed

-- So are any two of vuolmaset_convert, for the same words, row and buffer.
pub convert_is_fixed : {i : TreeInput} {x y : Output} → ByConvert i x → ByConvert i y → x ≡ y
convert_is_fixed = proved.convert_is_fixed

-- So are the two numbers of vuolmaset_three_way.
pub three_way_is_fixed : (kinds flags : List ℕ) (is_ts is_jsx : Bool) (at : ℕ) {told number told' number' : ℕ} → ToldThreeWay (three_way_entry kinds flags is_ts is_jsx at) told number
    → ToldThreeWay (three_way_entry kinds flags is_ts is_jsx at) told' number' → (told ≡ told') × (number ≡ number')
three_way_is_fixed = proved.three_way_is_fixed

-- So is the number of vuolmaset_subtree.
pub subtree_is_fixed : {tree : List ℕ} {row x y : ℕ} → ToldSubtree tree row x → ToldSubtree tree row y → x ≡ y
subtree_is_fixed = proved.subtree_is_fixed

-- So is that of vuolmaset_precedence.
pub precedence_is_fixed : (kind : ℕ) {x y : ℕ} → x ≡ level kind → y ≡ level kind → x ≡ y
precedence_is_fixed = proved.precedence_is_fixed

-- So is that of vuolmaset_expression_precedence.
pub expression_precedence_is_fixed : (kind : ℕ) {x y : ℕ} → x ≡ expression_level kind → y ≡ expression_level kind → x ≡ y
expression_precedence_is_fixed = proved.expression_precedence_is_fixed

-- Whatever bytes are handed to vuolmaset_read, they are read as the definition reads them, or refused by a number from 1 to 12 at a place that is at most the number of tokens, and every word of both
-- buffers is fixed: unchanged after 1 to 7, all 0 after 8 to 12, and after 0 the rows, the records, and then 0 (`Answered`).
pub refused_by_number_and_place : {i : Input} {x : Output} → ByRead i x → Answered (expression 0) i x
refused_by_number_and_place = proved.refused_by_number_and_place

-- So it is with vuolmaset_pattern.
pub pattern_refused_by_number_and_place : {i : Input} {x : Output} → ByPattern i x → Answered (binding_element 0) i x
pattern_refused_by_number_and_place = proved.pattern_refused_by_number_and_place

-- Whatever words, row and buffer are handed to vuolmaset_convert: it is refused by 1, 4, 9, 10, 13 or 14 and no word changes, or converted as the definition converts, and every word is fixed.
pub convert_refused_by_number : {i : TreeInput} {x : Output} → ByConvert i x → Converted i x
convert_refused_by_number = proved.convert_refused_by_number

-- Whatever bytes and place are handed to vuolmaset_three_way: the first of the checks 1, 2, 5, 6, 14 that fails is the refusal, at a place that is at most the number of tokens; or the three-way
-- answer is told.
pub three_way_refused_by_number_and_place : (kinds flags : List ℕ) (is_ts is_jsx : Bool) (at : ℕ) {told number : ℕ} → ToldThreeWay (three_way_entry kinds flags is_ts is_jsx at) told number
    → ThreeWayAnswered kinds flags is_ts is_jsx at told number
three_way_refused_by_number_and_place = proved.three_way_refused_by_number_and_place

-- Whatever words and row are handed to vuolmaset_subtree: six for each row of the subtree that the row roots, and 0 where the words are no well-formed tree or have no such row.
pub subtree_counts_its_words : {tree : List ℕ} {row x : ℕ} → ToldSubtree tree row x → ((i : Inside tree row) → x ≡ 6 * size (chosen i)) × ((Inside tree row → ⊥) → x ≡ 0)
subtree_counts_its_words = proved.subtree_counts_its_words

-- DEMAND 2: clean exactly if ECMA-262 derives
-- With no exception: where vuolmaset_read returns 0 and tells no record, ECMA-262 derives the whole list as an Expression, and the rows are those of its tree.
pub clean_is_derived : {i : Input} {x : Output} → ByRead i x → x.number ≡ 0 → x.second ≡ 0 → (t : Tree) × Derived (sheet i) Expression 0 (length i.kinds) t × Clean i x t
clean_is_derived = proved.clean_is_derived

-- So every target in the tree of a clean reading is ECMA-262's: each row of a target's kind is derived as a target, over its own tokens.
pub clean_targets_are_derived : {i : Input} {x : Output} → ByRead i x → x.number ≡ 0 → x.second ≡ 0 → (t : Tree) × Clean i x t × ((u : Tree) → In u t → Own (sheet i) u)
clean_targets_are_derived = proved.clean_targets_are_derived

-- Past the checks, in a list without the early commit, vuolmaset_read is clean with a tree exactly if ECMA-262 derives the whole list as an Expression with this tree.
pub clean_exactly_if_derived : {i : Input} {x : Output} → ByRead i x → Passes i → NoEarly (sheet i) → (t : Tree) → Clean i x t ↔ Derived (sheet i) Expression 0 (length i.kinds) t
clean_exactly_if_derived = proved.clean_exactly_if_derived

-- So there it returns 0 and tells no record exactly if ECMA-262 derives the whole list as an Expression, with some tree.
pub no_error_exactly_if_derived : {i : Input} {x : Output} → ByRead i x → Passes i → NoEarly (sheet i)
    → ((x.number ≡ 0) × (x.second ≡ 0)) ↔ ((t : Tree) × Derived (sheet i) Expression 0 (length i.kinds) t)
no_error_exactly_if_derived = proved.no_error_exactly_if_derived

-- The same three of vuolmaset_pattern, of a BindingElement.
pub clean_pattern_is_derived : {i : Input} {x : Output} → ByPattern i x → x.number ≡ 0 → x.second ≡ 0
    → (t : Tree) × Derived (sheet i) BindingElement 0 (length i.kinds) t × Clean i x t
clean_pattern_is_derived = proved.clean_pattern_is_derived

pub clean_pattern_exactly_if_derived : {i : Input} {x : Output} → ByPattern i x → Passes i → NoEarly (sheet i) → (t : Tree)
    → Clean i x t ↔ Derived (sheet i) BindingElement 0 (length i.kinds) t
clean_pattern_exactly_if_derived = proved.clean_pattern_exactly_if_derived

pub no_pattern_error_exactly_if_derived : {i : Input} {x : Output} → ByPattern i x → Passes i → NoEarly (sheet i)
    → ((x.number ≡ 0) × (x.second ≡ 0)) ↔ ((t : Tree) × Derived (sheet i) BindingElement 0 (length i.kinds) t)
no_pattern_error_exactly_if_derived = proved.no_pattern_error_exactly_if_derived

-- Where the words are a well-formed tree, the row is one of its rows, and two record words are lent for each row of its subtree: vuolmaset_convert returns 0 and tells no record exactly if the subtree
-- is a target by the target rule. What the rule does not judge again stands above it (conversion, TargetRule), with four trees computed (`not_judged_again`, `given_when_read`).
pub conversion_exactly_if_target : {i : TreeInput} {x : Output} → ByConvert i x → (inside : Inside i.tree i.row) → 2 * size (chosen inside) ≤ length i.records
    → ((x.number ≡ 0) × (x.second ≡ 0)) ↔ Target (chosen inside)
conversion_exactly_if_target = proved.conversion_exactly_if_target

-- DEMAND 3: fast equals plain. With no exception: what vuolmaset_read shows as read, trees and records, the plain reader reads.
pub fast_is_plain : {i : Input} {x : Output} → ByRead i x → (trees : Forest) (said : List Record) → Shown i x trees said → ReadAs (plain_reading (sheet i)) trees said
fast_is_plain = proved.fast_is_plain

-- Past the checks, in a list without the early commit: vuolmaset_read shows just the trees and records that the plain reader reads.
pub fast_equals_plain : {i : Input} {x : Output} → ByRead i x → Passes i → NoEarly (sheet i) → (trees : Forest) (said : List Record)
    → Shown i x trees said ↔ ReadAs (plain_reading (sheet i)) trees said
fast_equals_plain = proved.fast_equals_plain

-- The same two of vuolmaset_pattern.
pub fast_pattern_is_plain : {i : Input} {x : Output} → ByPattern i x → (trees : Forest) (said : List Record) → Shown i x trees said → ReadAs (plain_pattern (sheet i)) trees said
fast_pattern_is_plain = proved.fast_pattern_is_plain

pub fast_pattern_equals_plain : {i : Input} {x : Output} → ByPattern i x → Passes i → NoEarly (sheet i) → (trees : Forest) (said : List Record)
    → Shown i x trees said ↔ ReadAs (plain_pattern (sheet i)) trees said
fast_pattern_equals_plain = proved.fast_pattern_equals_plain

-- THE WORK: productions of the definition, not steps of the code (agreement, Count: what is counted)
-- Past the checks, whether the list is read or refused, at most 4,485 productions a token are applied, at most 69 · tokens · (1 + nesting), and at most (13 · tokens + 12) · (1 + abandoned).
pub work_is_bounded : {i : Input} {x : Output} → ByRead i x → Passes i → Bounded (expression 0) i x
work_is_bounded = proved.work_is_bounded

-- The same of vuolmaset_pattern.
pub pattern_work_is_bounded : {i : Input} {x : Output} → ByPattern i x → Passes i → Bounded (binding_element 0) i x
pattern_work_is_bounded = proved.pattern_work_is_bounded
