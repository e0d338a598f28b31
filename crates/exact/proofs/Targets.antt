-- THE TARGETS OF A READING ARE THE STANDARD'S: in the tree of whatever ECMA-262 has (`Derived`), every row of a target's kind is itself such a target over its own tokens: names, parentheses,
-- members and indexes simple targets (8.6.4), arrays and objects AssignmentPatterns (13.15.5), with no CoverInitializedName left. Nothing of this is said of trees that were not read.
-- The statement: `target_rows`. Assumes nothing.
use Rattle.std.specs.Prelude.{if◌then◌else◌}
use Prim.Native.Nat.{ℕ}
use mathlib.Core.Path.{◌≡◌, refl}
use mathlib.Core.Bool.{Bool, true, false}
use mathlib.Core.List.{List}
use native.Mathlib.Omega.{arith}
use lib.Dec.{leb}
use Rattle.tokens.specs.Bool.{◌is◌}
use Rattle.rows.specs.Tree.{Tree, Forest, node, nil, cons, one, join, kind_of, first_of, end_of}
use Rattle.rows.specs.Row as Row
use Rattle.grammar.specs.Sheet.{Sheet}
use Rattle.ecma262.specs.Derives as D
use Rattle.ecma262.specs.Derives.{Nonterminal, SimpleTarget, AssignmentPattern, TierExpression, LeftToRight, ends_in_spread, array_row, object_row, Derives, covers_nothing, cover_nothing, Derived}
use Rattle.exact.specs.Terminals.{tier_row}
use Rattle.exact.proofs.Terminals.{line}
use Rattle.exact.specs.Terms.{Among, In, Own, below, here, is_pattern, is_simple, itself, later}

-- WHAT IS DERIVED
-- a row of a target's kind is derived as such a target, whatever is below it
record Stands (s : Sheet) (t : Tree) : Type 0 where
  simple : is_simple (kind_of t) ≡ true → Derives s SimpleTarget (first_of t) (end_of t) (one t)
  pattern : is_pattern (kind_of t) ≡ true → Derives s AssignmentPattern (first_of t) (end_of t) (one t)

-- so is every row of a tree
mutual
  data StandTree (s : Sheet) : Tree → Type 0 where
    row : {kind mark first end : ℕ} {kids : Forest} → Stands s (node kind mark first end kids) → StandAll s kids → StandTree s (node kind mark first end kids)

  data StandAll (s : Sheet) : Forest → Type 0 where
    none : StandAll s nil
    more : {t : Tree} {ts : Forest} → StandTree s t → StandAll s ts → StandAll s (cons t ts)

both : {s : Sheet} {ts us : Forest} → StandAll s ts → StandAll s us → StandAll s (join ts us)
unfolding join
both none b = b
both (more o a) b = more o (both a b)

-- a row that is no target
other : {s : Sheet} {kind mark first end : ℕ} {kids : Forest} → is_simple kind ≡ false → is_pattern kind ≡ false → Stands s (node kind mark first end kids)
unfolding kind_of
other a b = record { simple = λ e. let z : ◌≡◌ {A = ℕ} 0 1 = cc in absurd (omega arith); pattern = λ e. let z : ◌≡◌ {A = ℕ} 0 1 = cc in absurd (omega arith) }

simple_row : {s : Sheet} {kind mark first end : ℕ} {kids : Forest} → Derives s SimpleTarget first end (one (node kind mark first end kids)) → is_pattern kind ≡ false → Stands s (node kind mark first end kids)
unfolding kind_of first_of end_of
simple_row d b = record { simple = λ e. d; pattern = λ e. let z : ◌≡◌ {A = ℕ} 0 1 = cc in absurd (omega arith) }

pattern_row : {s : Sheet} {kind mark first end : ℕ} {kids : Forest} → Derives s AssignmentPattern first end (one (node kind mark first end kids)) → is_simple kind ≡ false → Stands s (node kind mark first end kids)
unfolding kind_of first_of end_of
pattern_row d a = record { simple = λ e. let z : ◌≡◌ {A = ℕ} 0 1 = cc in absurd (omega arith); pattern = λ e. d }

-- a literal's row, and an operation's
array_other : {s : Sheet} {mark first end : ℕ} (kids : Forest) → Stands s (node (array_row kids) mark first end kids)
unfolding array_row is_simple is_pattern
array_other {s} {mark} {first} {end} kids = go (ends_in_spread kids)
  where
    go : (b : Bool) → Stands s (node (if b then Row.ArrayRestComma else Row.Array) mark first end kids)
    go true = other refl refl
    go false = other refl refl

object_other : {s : Sheet} {mark first end : ℕ} (kids : Forest) → Stands s (node (object_row kids) mark first end kids)
unfolding object_row is_simple is_pattern
object_other {s} {mark} {first} {end} kids = go (ends_in_spread kids)
  where
    go : (b : Bool) → Stands s (node (if b then Row.ObjectRestComma else Row.Object) mark first end kids)
    go true = other refl refl
    go false = other refl refl

line_other : {s : Sheet} {x y kind mark first end : ℕ} {operators : List ℕ} {kids : Forest} → LeftToRight (TierExpression x) operators (TierExpression y) kind → Stands s (node kind mark first end kids)
unfolding tier_row is_simple is_pattern
line_other {s} {x} {mark = mark} {first} {end} {kids = kids} l = rw (line l).row_is (go (leb x 3))
  where
    go : (b : Bool) → Stands s (node (if b then Row.Logical else Row.Binary) mark first end kids)
    go true = other refl refl
    go false = other refl refl

targets : {s : Sheet} {x : Nonterminal} {i j : ℕ} {ts : Forest} → Derives s x i j ts → StandAll s ts
unfolding is_simple is_pattern join
targets (D.first_of_list a) = targets a
targets (D.next_of_list a _ c) = both (targets a) (targets c)
targets (D.elided a b) = both (targets a) (targets b)
targets (D.this _) = more (row (other refl refl) none) none
targets (D.identifier _) = more (row (other refl refl) none) none
targets (D.literal _) = more (row (other refl refl) none) none
targets (D.array a) = targets a
targets (D.object a) = targets a
targets (D.parenthesized _ b _) = more (row (other refl refl) (targets b)) none
targets (D.array_empty _ b _) = more (row (other refl refl) (targets b)) none
targets (D.array_list _ b _) = more (row (other refl refl) (targets b)) none
targets (D.array_comma _ b _ d _) = more (row (array_other _) (both (targets b) (targets d))) none
targets D.no_elision = none
targets (D.elision a _) = both (targets a) (more (row (other refl refl) none) none)
targets (D.spread _ b) = more (row (other refl refl) (targets b)) none
targets (D.plain_element a) = targets a
targets (D.spread_element a) = targets a
targets (D.object_empty _ _) = more (row (other refl refl) none) none
targets (D.object_list _ b _) = more (row (other refl refl) (targets b)) none
targets (D.object_comma _ b _ _) = more (row (object_other _) (targets b)) none
targets (D.shorthand _) = more (row (other refl refl) (more (row (other refl refl) none) none)) none
targets (D.cover_initialized _ _ c) = more (row (other refl refl) (more (row (other refl refl) none) (targets c))) none
targets (D.property a _ c) = more (row (other refl refl) (both (targets a) (targets c))) none
targets (D.spread_property a) = targets a
targets (D.literal_name _) = more (row (other refl refl) none) none
targets (D.computed_name _ b _) = more (row (other refl refl) (targets b)) none
targets (D.primary a) = targets a
targets (D.index a _ c _) = more (row (other refl refl) (both (targets a) (targets c))) none
targets (D.member a _ _) = more (row (other refl refl) (targets a)) none
targets (D.call a b) = more (row (other refl refl) (both (targets a) (targets b))) none
targets (D.linked a) = targets a
targets (D.no_arguments _ _) = none
targets (D.arguments _ b _) = targets b
targets (D.arguments_comma _ b _ _) = targets b
targets (D.left_hand_side a) = targets a
targets (D.postfix a _ _) = more (row (other refl refl) (targets a)) none
targets (D.prefix _ b) = more (row (other refl refl) (targets b)) none
targets (D.update a) = targets a
targets (D.unary _ b) = more (row (other refl refl) (targets b)) none
targets (D.no_power a) = targets a
targets (D.power a _ c) = more (row (other refl refl) (both (targets a) (targets c))) none
targets (D.no_operation _ b) = targets b
targets (D.operation a b _ d) = more (row (line_other a) (both (targets b) (targets d))) none
targets (D.head_coalesce a) = targets a
targets (D.head_or a) = targets a
targets (D.coalesce a _ c) = more (row (other refl refl) (both (targets a) (targets c))) none
targets (D.short_circuit_or a) = targets a
targets (D.short_circuit_coalesce a) = targets a
targets (D.short_circuit a) = targets a
targets (D.conditional a _ c _ e) = more (row (other refl refl) (both (targets a) (both (targets c) (targets e)))) none
targets (D.no_assignment a) = targets a
targets (D.arrow a _ _ d) = more (row (other refl refl) (both (targets a) (targets d))) none
targets (D.async_arrow a _ _ d) = more (row (other refl refl) (both (targets a) (targets d))) none
targets (D.assign a _ c) = more (row (other refl refl) (both (targets a) (targets c))) none
targets (D.compound_assign a _ c) = more (row (other refl refl) (both (targets a) (targets c))) none
targets (D.target_name a) = more (row (simple_row (D.target_name a) refl) none) none
targets (D.target_index a b c d) = more (row (simple_row (D.target_index a b c d) refl) (both (targets a) (targets c))) none
targets (D.target_member a b c) = more (row (simple_row (D.target_member a b c) refl) (targets a)) none
targets (D.target_parenthesized a b c) = more (row (simple_row (D.target_parenthesized a b c) refl) (targets b)) none
targets (D.target_simple a) = targets a
targets (D.target_pattern a) = targets a
targets (D.target_array_empty a b c) = more (row (pattern_row (D.target_array_empty a b c) refl) (targets b)) none
targets (D.target_array_rest a b c) = more (row (pattern_row (D.target_array_rest a b c) refl) (targets b)) none
targets (D.target_array_list a b c) = more (row (pattern_row (D.target_array_list a b c) refl) (targets b)) none
targets (D.target_array_comma a b c d e) = more (row (pattern_row (D.target_array_comma a b c d e) refl) (both (targets b) (targets d))) none
targets (D.target_array_list_rest a b c d e) = more (row (pattern_row (D.target_array_list_rest a b c d e) refl) (both (targets b) (targets d))) none
targets (D.target_object_empty a b) = more (row (pattern_row (D.target_object_empty a b) refl) none) none
targets (D.target_object_rest a b c) = more (row (pattern_row (D.target_object_rest a b c) refl) (targets b)) none
targets (D.target_object_list a b c) = more (row (pattern_row (D.target_object_list a b c) refl) (targets b)) none
targets (D.target_object_comma a b c d) = more (row (pattern_row (D.target_object_comma a b c d) refl) (targets b)) none
targets (D.target_object_list_rest a b c d e) = more (row (pattern_row (D.target_object_list_rest a b c d e) refl) (both (targets b) (targets d))) none
targets (D.target_element a) = targets a
targets (D.target_default a _ c) = more (row (other refl refl) (both (targets a) (targets c))) none
targets (D.target_rest _ b) = more (row (other refl refl) (targets b)) none
targets (D.target_shorthand a) = more (row (other refl refl) (more (row (simple_row (D.target_name a) refl) none) none)) none
targets (D.target_shorthand_default a _ c) = more (row (other refl refl) (more (row (simple_row (D.target_name a) refl) none) (targets c))) none
targets (D.target_property a _ c) = more (row (other refl refl) (both (targets a) (targets c))) none
targets (D.target_rest_property _ b) = more (row (other refl refl) (targets b)) none
targets (D.no_comma a) = targets a
targets (D.sequence a) = more (row (other refl refl) (targets a)) none
targets (D.first_comma a _ c) = both (targets a) (targets c)
targets (D.next_comma a _ c) = both (targets a) (targets c)
targets (D.binding_name _) = more (row (other refl refl) none) none
targets (D.binding_pattern a) = targets a
targets (D.binding_object_empty _ _) = more (row (other refl refl) none) none
targets (D.binding_object_rest _ b _) = more (row (other refl refl) (targets b)) none
targets (D.binding_object_list _ b _) = more (row (other refl refl) (targets b)) none
targets (D.binding_object_comma _ b _ _) = more (row (other refl refl) (targets b)) none
targets (D.binding_object_list_rest _ b _ d _) = more (row (other refl refl) (both (targets b) (targets d))) none
targets (D.binding_array_empty _ b _) = more (row (other refl refl) (targets b)) none
targets (D.binding_array_rest _ b _) = more (row (other refl refl) (targets b)) none
targets (D.binding_array_list _ b _) = more (row (other refl refl) (targets b)) none
targets (D.binding_array_comma _ b _ d _) = more (row (other refl refl) (both (targets b) (targets d))) none
targets (D.binding_array_list_rest _ b _ d _) = more (row (other refl refl) (both (targets b) (targets d))) none
targets (D.no_default a) = targets a
targets (D.binding_default a _ c) = more (row (other refl refl) (both (targets a) (targets c))) none
targets (D.binding_rest _ b) = more (row (other refl refl) (targets b)) none
targets (D.binding_shorthand _) = more (row (other refl refl) (more (row (other refl refl) none) none)) none
targets (D.binding_shorthand_default _ _ c) = more (row (other refl refl) (more (row (other refl refl) none) (targets c))) none
targets (D.binding_property a _ c) = more (row (other refl refl) (both (targets a) (targets c))) none
targets (D.binding_rest_property _ _) = more (row (other refl refl) (more (row (other refl refl) none) none)) none
targets D.no_parameters = none
targets (D.rest_parameter a) = targets a
targets (D.parameters a) = targets a
targets (D.parameters_comma a _) = targets a
targets (D.parameters_rest a _ c) = both (targets a) (targets c)
targets (D.arrow_formal_parameters _ b _) = targets b
targets (D.arrow_name _) = more (row (other refl refl) none) none
targets (D.arrow_parameters a) = targets a
targets (D.concise_body _ b) = targets b
targets (D.async_name _ _ _) = more (row (other refl refl) none) none
targets (D.async_parameters _ _ c) = targets c

top : {s : Sheet} {u : Tree} → StandTree s u → Stands s u
top (row o a) = o

mutual
  stands : {s : Sheet} {t u : Tree} → In u t → StandTree s t → Stands s u
  stands itself o = top o
  stands (below a) (row _ o) = stand a o

  stand : {s : Sheet} {ts : Forest} {u : Tree} → Among u ts → StandAll s ts → Stands s u
  stand (here a) (more o _) = stands a o
  stand (later a) (more _ o) = stand a o

first_stands : {s : Sheet} {t : Tree} {ts : Forest} → StandAll s (cons t ts) → StandTree s t
first_stands (more o _) = o

-- NO COVER IS LEFT
not_then : (b c : Bool) → (if b then false else c) ≡ true → c ≡ true
not_then false c e = e
not_then true c e = let z : ◌≡◌ {A = ℕ} 0 1 = cc in absurd (omega arith)

then_first : (b c : Bool) → (if b then c else false) ≡ true → b ≡ true
then_first true c e = refl
then_first false c e = e

then_second : (b c : Bool) → (if b then c else false) ≡ true → c ≡ true
then_second true c e = e
then_second false c e = let z : ◌≡◌ {A = ℕ} 0 1 = cc in absurd (omega arith)

mutual
  unfolding covers_nothing cover_nothing

  uncovered : {t u : Tree} → In u t → covers_nothing t ≡ true → covers_nothing u ≡ true
  uncovered itself e = e
  uncovered (below {kind = kind} {kids = kids} a) e = all_uncovered a (not_then (kind is Row.ShorthandInit) (cover_nothing kids) e)

  all_uncovered : {ts : Forest} {u : Tree} → Among u ts → cover_nothing ts ≡ true → covers_nothing u ≡ true
  all_uncovered (here {t = t} {ts} a) e = uncovered a (then_first (covers_nothing t) (cover_nothing ts) e)
  all_uncovered (later {t = t} {ts} a) e = all_uncovered a (then_second (covers_nothing t) (cover_nothing ts) e)

-- THE STATEMENT
pub target_rows : {s : Sheet} {x : Nonterminal} {i j : ℕ} {t u : Tree} → Derived s x i j t → In u t → Own s u
target_rows d a =
    let w = stands a (first_stands (targets d.derivation)) in
    let n = uncovered a d.no_cover in
    record { simple = λ e. record { derivation = w.simple e; no_cover = n }; pattern = λ e. record { derivation = w.pattern e; no_cover = n } }
