-- The three demands, of the functions of the archive that firmware calls: from the laws to the statements of demands/specs/Demands.antt, under the same names. Assumes nothing.
use Prim.Native.Nat.{ℕ, ◌*◌, ◌≤◌}
use mathlib.Core.Path.{◌≡◌, sym, ap, ◌∙◌}
use mathlib.Core.Bool.{Bool}
use mathlib.Core.Logic.{◌↔◌}
use mathlib.Core.List.{List}
use lib.ListN.{length}
use Rattle.operators.specs.Precedence.{level, expression_level}
use Rattle.lookahead.specs.Entry.{three_way_entry}
use Rattle.rows.specs.Tree.{Tree, Forest, size}
use Rattle.rows.specs.Record.{Record}
use Rattle.rows.specs.Handed.{Inside, chosen}
use Rattle.rows.proofs.Once.{handed_once}
use Rattle.conversion.specs.TargetRule.{Target}
use Rattle.conversion.proofs.Once.{answered_once}
use Rattle.grammar.specs.Job.{expression, binding_element}
use Rattle.grammar.specs.Reading.{plain_reading, plain_pattern}
use Rattle.laws.proofs.Promises.{refusals_stand, rows_fit, records_fit}
use Rattle.ecma262.specs.Derives.{Expression, BindingElement, Derived}
use Rattle.exact.proofs.Targets.{target_rows}
use Rattle.exact.specs.Terms.{Own, In}
use Rattle.agreement.specs.Terms.{ReadAs, NoEarly}
use Rattle.agreement.proofs.Agreement.{plain_reads_too, plain_pattern_reads_too}
use Rattle.agreement.proofs.Answers.{read_agrees, pattern_agrees}
use Rattle.agreement.proofs.Steps.{whole_list, pattern}
use Rattle.exact.proofs.Entries.{clean_reading, clean_pattern, read_is_derived, pattern_is_derived, derived_is_read, derived_is_pattern, told_once, By, by_once, by_answered, by_shown, by_clean, passed, shown_read, clean_shown, shown_clean, clean_convert, by_subtree, by_three_way, by_converted, work_bounded}
use Rattle.grammar.specs.Told.{ToldThreeWay, ToldSubtree}
use Rattle.exact.specs.Terms.{Input, TreeInput, Output, sheet, Passes, ByRead, ByPattern, ByConvert, Shown, Clean, Answered, Converted, ThreeWayAnswered, Bounded}

-- the two contracts of a reading are one, by what is read
of_read : {i : Input} {x : Output} → ByRead i x → By (expression 0) i x
of_read g = record { answer = g.answer; answers = g.answers; told = g.told }

of_pattern : {i : Input} {x : Output} → ByPattern i x → By (binding_element 0) i x
of_pattern g = record { answer = g.answer; answers = g.answers; told = g.told }

-- DEMAND 1: any bytes, one answer; read, or refused by number and place; every lent word
-- Any two outputs that vuolmaset_read may give for the same bytes and buffers are the same.
pub read_is_fixed : {i : Input} {x y : Output} → ByRead i x → ByRead i y → x ≡ y
read_is_fixed g h = by_once (of_read g) (of_read h)

-- So are any two of vuolmaset_pattern.
pub pattern_is_fixed : {i : Input} {x y : Output} → ByPattern i x → ByPattern i y → x ≡ y
pattern_is_fixed g h = by_once (of_pattern g) (of_pattern h)

-- So are any two of vuolmaset_convert, for the same words, row and buffer.
pub convert_is_fixed : {i : TreeInput} {x y : Output} → ByConvert i x → ByConvert i y → x ≡ y
convert_is_fixed g h = let e = answered_once g.answers h.answers in told_once g.told h.told e.0 e.1 e.2

-- So are the two numbers of vuolmaset_three_way.
pub three_way_is_fixed : (kinds flags : List ℕ) (is_ts is_jsx : Bool) (at : ℕ) {told number told' number' : ℕ} → ToldThreeWay (three_way_entry kinds flags is_ts is_jsx at) told number
    → ToldThreeWay (three_way_entry kinds flags is_ts is_jsx at) told' number' → (told ≡ told') × (number ≡ number')
three_way_is_fixed kinds flags is_ts is_jsx at g h = (g.told_is ∙ sym h.told_is, g.number ∙ sym h.number)

-- So is the number of vuolmaset_subtree.
pub subtree_is_fixed : {tree : List ℕ} {row x y : ℕ} → ToldSubtree tree row x → ToldSubtree tree row y → x ≡ y
subtree_is_fixed g h = g.words ∙ ap length (handed_once g.handed h.handed) ∙ sym h.words

-- So is that of vuolmaset_precedence.
pub precedence_is_fixed : (kind : ℕ) {x y : ℕ} → x ≡ level kind → y ≡ level kind → x ≡ y
precedence_is_fixed kind g h = g ∙ sym h

-- So is that of vuolmaset_expression_precedence.
pub expression_precedence_is_fixed : (kind : ℕ) {x y : ℕ} → x ≡ expression_level kind → y ≡ expression_level kind → x ≡ y
expression_precedence_is_fixed kind g h = g ∙ sym h

-- Whatever bytes are handed to vuolmaset_read, they are read as the definition reads them, or refused by a number from 1 to 12 at a place that is at most the number of tokens, and every word of both
-- buffers is fixed: unchanged after 1 to 7, all 0 after 8 to 12, and after 0 the rows, the records, and then 0 (`Answered`).
pub refused_by_number_and_place : {i : Input} {x : Output} → ByRead i x → Answered (expression 0) i x
refused_by_number_and_place {i} g =
    by_answered (record { stands = λ cause e. refusals_stand.0 (sheet i) cause e; rows_fit = λ ts rs m e. rows_fit.0 (sheet i) ts rs m e; records_fit = λ ts rs m e. records_fit.0 (sheet i) ts rs m e })
    (of_read g)

-- So it is with vuolmaset_pattern.
pub pattern_refused_by_number_and_place : {i : Input} {x : Output} → ByPattern i x → Answered (binding_element 0) i x
pattern_refused_by_number_and_place {i} g =
    by_answered (record { stands = λ cause e. refusals_stand.1 (sheet i) cause e; rows_fit = λ ts rs m e. rows_fit.1 (sheet i) ts rs m e; records_fit = λ ts rs m e. records_fit.1 (sheet i) ts rs m e })
    (of_pattern g)

-- Whatever words, row and buffer are handed to vuolmaset_convert: it is refused by 1, 4, 9, 10, 13 or 14 and no word changes, or converted as the definition converts, and every word is fixed.
pub convert_refused_by_number : {i : TreeInput} {x : Output} → ByConvert i x → Converted i x
convert_refused_by_number g = by_converted g

-- Whatever bytes and place are handed to vuolmaset_three_way: the first of the checks 1, 2, 5, 6, 14 that fails is the refusal, at a place that is at most the number of tokens; or the three-way
-- answer is told.
pub three_way_refused_by_number_and_place : (kinds flags : List ℕ) (is_ts is_jsx : Bool) (at : ℕ) {told number : ℕ} → ToldThreeWay (three_way_entry kinds flags is_ts is_jsx at) told number
    → ThreeWayAnswered kinds flags is_ts is_jsx at told number
three_way_refused_by_number_and_place kinds flags is_ts is_jsx at g = by_three_way kinds flags is_ts is_jsx at g

-- Whatever words and row are handed to vuolmaset_subtree: six for each row of the subtree that the row roots, and 0 where the words are no well-formed tree or have no such row.
pub subtree_counts_its_words : {tree : List ℕ} {row x : ℕ} → ToldSubtree tree row x → ((i : Inside tree row) → x ≡ 6 * size (chosen i)) × ((Inside tree row → ⊥) → x ≡ 0)
subtree_counts_its_words g = by_subtree g

-- DEMAND 2: clean exactly if ECMA-262 derives
-- With no exception: where vuolmaset_read returns 0 and tells no record, ECMA-262 derives the whole list as an Expression, and the rows are those of its tree.
pub clean_is_derived : {i : Input} {x : Output} → ByRead i x → x.number ≡ 0 → x.second ≡ 0 → (t : Tree) × Derived (sheet i) Expression 0 (length i.kinds) t × Clean i x t
clean_is_derived {i} g z o =
    let c = by_clean (of_read g) z o in
    let d = read_is_derived (sheet i) i.rows i.records (passed (refused_by_number_and_place g) z) c.0 c.1 c.2 in
    (d.tree, d.derived, shown_clean (by_shown (of_read g) d.shows))

-- So every target in the tree of a clean reading is ECMA-262's: each row of a target's kind is derived as a target, over its own tokens.
pub clean_targets_are_derived : {i : Input} {x : Output} → ByRead i x → x.number ≡ 0 → x.second ≡ 0 → (t : Tree) × Clean i x t × ((u : Tree) → In u t → Own (sheet i) u)
clean_targets_are_derived g z o = let d = clean_is_derived g z o in (d.0, d.2, λ u a. target_rows d.1 a)

-- Past the checks, in a list without the early commit, vuolmaset_read is clean with a tree exactly if ECMA-262 derives the whole list as an Expression with this tree.
pub clean_exactly_if_derived : {i : Input} {x : Output} → ByRead i x → Passes i → NoEarly (sheet i) → (t : Tree) → Clean i x t ↔ Derived (sheet i) Expression 0 (length i.kinds) t
clean_exactly_if_derived {i} g p none t = (
  λ c. (clean_reading (sheet i) none t).0 (shown_read (refused_by_number_and_place g) (clean_shown c)),
  λ d. shown_clean (by_shown (of_read g) (derived_is_read (sheet i) i.rows i.records p none t d)),
)

-- So there it returns 0 and tells no record exactly if ECMA-262 derives the whole list as an Expression, with some tree.
pub no_error_exactly_if_derived : {i : Input} {x : Output} → ByRead i x → Passes i → NoEarly (sheet i)
    → ((x.number ≡ 0) × (x.second ≡ 0)) ↔ ((t : Tree) × Derived (sheet i) Expression 0 (length i.kinds) t)
no_error_exactly_if_derived g p none = (
  λ c. let d = clean_is_derived g c.0 c.1 in (d.0, d.1),
  λ d. let c = (clean_exactly_if_derived g p none d.0).1 d.1 in (c.number, c.no_record),
)

-- The same three of vuolmaset_pattern, of a BindingElement.
pub clean_pattern_is_derived : {i : Input} {x : Output} → ByPattern i x → x.number ≡ 0 → x.second ≡ 0
    → (t : Tree) × Derived (sheet i) BindingElement 0 (length i.kinds) t × Clean i x t
clean_pattern_is_derived {i} g z o =
    let c = by_clean (of_pattern g) z o in
    let d = pattern_is_derived (sheet i) i.rows i.records (passed (pattern_refused_by_number_and_place g) z) c.0 c.1 c.2 in
    (d.tree, d.derived, shown_clean (by_shown (of_pattern g) d.shows))

pub clean_pattern_exactly_if_derived : {i : Input} {x : Output} → ByPattern i x → Passes i → NoEarly (sheet i) → (t : Tree)
    → Clean i x t ↔ Derived (sheet i) BindingElement 0 (length i.kinds) t
clean_pattern_exactly_if_derived {i} g p none t = (
  λ c. (clean_pattern (sheet i) none t).0 (shown_read (pattern_refused_by_number_and_place g) (clean_shown c)),
  λ d. shown_clean (by_shown (of_pattern g) (derived_is_pattern (sheet i) i.rows i.records p none t d)),
)

pub no_pattern_error_exactly_if_derived : {i : Input} {x : Output} → ByPattern i x → Passes i → NoEarly (sheet i)
    → ((x.number ≡ 0) × (x.second ≡ 0)) ↔ ((t : Tree) × Derived (sheet i) BindingElement 0 (length i.kinds) t)
no_pattern_error_exactly_if_derived g p none = (
  λ c. let d = clean_pattern_is_derived g c.0 c.1 in (d.0, d.1),
  λ d. let c = (clean_pattern_exactly_if_derived g p none d.0).1 d.1 in (c.number, c.no_record),
)

-- Where the words are a well-formed tree, the row is one of its rows, and two record words are lent for each row of its subtree: vuolmaset_convert returns 0 and tells no record exactly if the subtree
-- is a target by the target rule. What the rule does not judge again stands above it (conversion, TargetRule), with four trees computed (`not_judged_again`, `given_when_read`).
pub conversion_exactly_if_target : {i : TreeInput} {x : Output} → ByConvert i x → (inside : Inside i.tree i.row) → 2 * size (chosen inside) ≤ length i.records
    → ((x.number ≡ 0) × (x.second ≡ 0)) ↔ Target (chosen inside)
conversion_exactly_if_target g inside room = clean_convert g inside room

-- DEMAND 3: fast equals plain
-- With no exception: what vuolmaset_read shows as read, trees and records, the plain reader reads.
pub fast_is_plain : {i : Input} {x : Output} → ByRead i x → (trees : Forest) (said : List Record) → Shown i x trees said → ReadAs (plain_reading (sheet i)) trees said
fast_is_plain {i} g trees said s = plain_reads_too (sheet i) trees said (shown_read (refused_by_number_and_place g) s)

-- Past the checks, in a list without the early commit: vuolmaset_read shows just the trees and records that the plain reader reads.
pub fast_equals_plain : {i : Input} {x : Output} → ByRead i x → Passes i → NoEarly (sheet i) → (trees : Forest) (said : List Record)
    → Shown i x trees said ↔ ReadAs (plain_reading (sheet i)) trees said
fast_equals_plain {i} g p none trees said =
    (fast_is_plain g trees said, λ r. by_shown (of_read g) (read_agrees (sheet i) i.rows i.records p none trees said r))

-- The same two of vuolmaset_pattern.
pub fast_pattern_is_plain : {i : Input} {x : Output} → ByPattern i x → (trees : Forest) (said : List Record) → Shown i x trees said → ReadAs (plain_pattern (sheet i)) trees said
fast_pattern_is_plain {i} g trees said s = plain_pattern_reads_too (sheet i) trees said (shown_read (pattern_refused_by_number_and_place g) s)

pub fast_pattern_equals_plain : {i : Input} {x : Output} → ByPattern i x → Passes i → NoEarly (sheet i) → (trees : Forest) (said : List Record)
    → Shown i x trees said ↔ ReadAs (plain_pattern (sheet i)) trees said
fast_pattern_equals_plain {i} g p none trees said =
    (fast_pattern_is_plain g trees said, λ r. by_shown (of_pattern g) (pattern_agrees (sheet i) i.rows i.records p none trees said r))

-- THE WORK: productions of the definition, not steps of the code (agreement, Count: what is counted)
-- Past the checks, whether the list is read or refused, at most 4,485 productions a token are applied, at most 69 · tokens · (1 + nesting), and at most (13 · tokens + 12) · (1 + abandoned).
pub work_is_bounded : {i : Input} {x : Output} → ByRead i x → Passes i → Bounded (expression 0) i x
work_is_bounded g p = work_bounded whole_list (refused_by_number_and_place g) p

-- The same of vuolmaset_pattern.
pub pattern_work_is_bounded : {i : Input} {x : Output} → ByPattern i x → Passes i → Bounded (binding_element 0) i x
pattern_work_is_bounded g p = work_bounded pattern (pattern_refused_by_number_and_place g) p
