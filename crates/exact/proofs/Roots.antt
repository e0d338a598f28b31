-- What an expression is derived as: one tree, which is no Spread, and is an Identifier only over one name; how lists grow; and what a done reading means where no record is said.
-- Assumes nothing.
use Rattle.std.specs.Prelude.{if◌then◌else◌}
use Prim.Native.Nat.{ℕ, ◌+◌}
use mathlib.Core.Path.{◌≡◌, refl, sym}
use mathlib.Core.Bool.{Bool, true, false}
use native.Mathlib.Omega.{arith}
use lib.Dec.{leb}
use mathlib.Core.List.{List, [], ◌∷◌, ◌++◌}
use Rattle.tokens.specs.Bool.{◌is◌}
use Rattle.tokens.specs.Kind.{Comma, LBrack, LCurly}
use Rattle.rows.specs.Tree.{Tree, Forest, node, nil, cons, one, join, kind_of}
use Rattle.rows.specs.Row as Row
use Rattle.rows.proofs.Rows.{join_nil, join_assoc}
use Rattle.grammar.specs.Sheet.{Sheet, leaf, first_tree, Out, done, fail, stuck, Reading, Part, after_records, and_then, or_else, ◌>>=◌, try, yield, refuse, say}
use Rattle.ecma262.specs.Derives as D
use Rattle.ecma262.specs.Derives.{Tok, OneOf, identifiers, Links, Nonterminal, ListOf, Elided, Elision, PrimaryExpression, ArrayLiteral, ObjectLiteral, LinkedExpression, LeftHandSideExpression, UpdateExpression, UnaryExpression, TierExpression, CoalesceExpression, ShortCircuitExpression, ConditionalExpression, AssignmentExpression, Expression, ends_in_spread, array_row, object_row, Derives, AssignmentPattern, BindingPattern}
use Rattle.tokens.specs.declared.cause.Cause.{Cause}
use Rattle.rows.specs.Record.{Record}
use Rattle.conversion.specs.Conversion.{Role, Outcome, turned, refused, convert_as}
use Rattle.grammar.specs.Update.{converted_to, converted}
use Rattle.laws.proofs.Good.{Meaning, Ends, ends_done, ends_fail, ends_stuck, Reads}
use Rattle.laws.proofs.Bounds.{Nothing}
use Rattle.exact.specs.Terminals.{tier_row}
use Rattle.exact.proofs.Terminals.{line}

-- one name stands from i to j
pub record NameAt (s : Sheet) (i j : ℕ) : Type 0 where
  pub name : OneOf identifiers s i
  pub ends : j ≡ i + 1

pub record Root (s : Sheet) (i j : ℕ) (ts : Forest) : Type 0 where
  pub lone : ts ≡ one (first_tree ts)
  pub no_spread : kind_of (first_tree ts) is Row.Spread ≡ false
  pub named : kind_of (first_tree ts) is Row.Identifier ≡ true → NameAt s i j

-- true is not false
pub not_both : {b : Bool} → b ≡ true → b ≡ false → ⊥
not_both t f = let z : ◌≡◌ {A = ℕ} 0 1 = cc in omega arith

-- a row of any other kind
other : {s : Sheet} {i j : ℕ} (kind mark first end : ℕ) (kids : Forest) → kind is Row.Spread ≡ false → kind is Row.Identifier ≡ false → Root s i j (one (node kind mark first end kids))
unfolding kind_of first_tree
other kind mark first end kids a b = record { lone = refl; no_spread = a; named = λ e. absurd (not_both e b) }

-- of one of two kinds
either_other : {s : Sheet} {i j : ℕ} (b : Bool) (k l mark first end : ℕ) (kids : Forest) → k is Row.Spread ≡ false → k is Row.Identifier ≡ false → l is Row.Spread ≡ false → l is Row.Identifier ≡ false
    → Root s i j (one (node (if b then k else l) mark first end kids))
either_other true k l mark first end kids a b c d = other k mark first end kids a b
either_other false k l mark first end kids a b c d = other l mark first end kids c d

module _ {s : Sheet} where
  root_array : {i j : ℕ} {ts : Forest} → Derives s ArrayLiteral i j ts → Root s i j ts
  unfolding array_row
  root_array (D.array_empty o d c) = other _ _ _ _ _ refl refl
  root_array (D.array_list o d c) = other _ _ _ _ _ refl refl
  root_array (D.array_comma {ts = ts} {us = us} o d t e c) = either_other (ends_in_spread (join ts us)) Row.ArrayRestComma Row.Array _ _ _ _ refl refl refl refl

  root_object : {i j : ℕ} {ts : Forest} → Derives s ObjectLiteral i j ts → Root s i j ts
  unfolding object_row
  root_object (D.object_empty o c) = other _ _ _ _ _ refl refl
  root_object (D.object_list o d c) = other _ _ _ _ _ refl refl
  root_object (D.object_comma {ts = ts} o d t c) = either_other (ends_in_spread ts) Row.ObjectRestComma Row.Object _ _ _ _ refl refl refl refl

  pub root_primary : {i j : ℕ} {ts : Forest} → Derives s PrimaryExpression i j ts → Root s i j ts
  unfolding kind_of first_tree
  root_primary (D.this t) = other _ _ _ _ _ refl refl
  root_primary (D.identifier t) = record { lone = refl; no_spread = refl; named = λ e. record { name = t; ends = refl } }
  root_primary (D.literal t) = other _ _ _ _ _ refl refl
  root_primary (D.array d) = root_array d
  root_primary (D.object d) = root_object d
  root_primary (D.parenthesized o d c) = other _ _ _ _ _ refl refl

  pub root_chain : {c : Links} {i j : ℕ} {ts : Forest} → Derives s (LinkedExpression c) i j ts → Root s i j ts
  root_chain (D.primary d) = root_primary d
  root_chain (D.index d o e c) = other _ _ _ _ _ refl refl
  root_chain (D.member d o e) = other _ _ _ _ _ refl refl
  root_chain (D.call d e) = other _ _ _ _ _ refl refl

  pub root_left_hand_side : {i j : ℕ} {ts : Forest} → Derives s LeftHandSideExpression i j ts → Root s i j ts
  root_left_hand_side (D.linked d) = root_chain d

  pub root_update : {i j : ℕ} {ts : Forest} → Derives s UpdateExpression i j ts → Root s i j ts
  root_update (D.left_hand_side d) = root_left_hand_side d
  root_update (D.postfix d t l) = other _ _ _ _ _ refl refl
  root_update (D.prefix t d) = other _ _ _ _ _ refl refl

  pub root_unary : {i j : ℕ} {ts : Forest} → Derives s UnaryExpression i j ts → Root s i j ts
  root_unary (D.update d) = root_update d
  root_unary (D.unary t d) = other _ _ _ _ _ refl refl

  pub root_tier : {tier i j : ℕ} {ts : Forest} → Derives s (TierExpression tier) i j ts → Root s i j ts
  unfolding tier_row
  root_tier (D.no_power d) = root_unary d
  root_tier (D.power d t e) = other _ _ _ _ _ refl refl
  root_tier (D.no_operation l d) = root_tier d
  root_tier (D.operation {x = x} l d t e) = rw (line l).row_is (either_other (leb x 3) Row.Logical Row.Binary _ _ _ _ refl refl refl refl)

  pub root_coalesce : {i j : ℕ} {ts : Forest} → Derives s CoalesceExpression i j ts → Root s i j ts
  root_coalesce (D.coalesce d t e) = other _ _ _ _ _ refl refl

  pub root_short_circuit : {i j : ℕ} {ts : Forest} → Derives s ShortCircuitExpression i j ts → Root s i j ts
  root_short_circuit (D.short_circuit_or d) = root_tier d
  root_short_circuit (D.short_circuit_coalesce d) = root_coalesce d

  pub root_conditional : {i j : ℕ} {ts : Forest} → Derives s ConditionalExpression i j ts → Root s i j ts
  root_conditional (D.short_circuit d) = root_short_circuit d
  root_conditional (D.conditional d t e u f) = other _ _ _ _ _ refl refl

  pub root_assignment : {i j : ℕ} {ts : Forest} → Derives s AssignmentExpression i j ts → Root s i j ts
  root_assignment (D.no_assignment d) = root_conditional d
  root_assignment (D.arrow d t l e) = other _ _ _ _ _ refl refl
  root_assignment (D.async_arrow d t l e) = other _ _ _ _ _ refl refl
  root_assignment (D.assign d t e) = other _ _ _ _ _ refl refl
  root_assignment (D.compound_assign d t e) = other _ _ _ _ _ refl refl

  pub root_expression : {i j : ℕ} {ts : Forest} → Derives s Expression i j ts → Root s i j ts
  root_expression (D.no_comma d) = root_assignment d
  root_expression (D.sequence d) = other _ _ _ _ _ refl refl

-- a literal or a pattern: rows between brackets or braces
pub data Shaped (s : Sheet) (array object i j : ℕ) : Forest → Type 0 where
  in_brackets : {kids : Forest} → Tok s i LBrack → Shaped s array object i j (one (node array i i j kids))
  in_braces : {kids : Forest} → Tok s i LCurly → Shaped s array object i j (one (node object i i j kids))

module _ {s : Sheet} where
  pub array_opens : {i j : ℕ} {ts : Forest} → Derives s ArrayLiteral i j ts → Tok s i LBrack
  array_opens (D.array_empty o _ _) = o
  array_opens (D.array_list o _ _) = o
  array_opens (D.array_comma o _ _ _ _) = o

  pub object_opens : {i j : ℕ} {ts : Forest} → Derives s ObjectLiteral i j ts → Tok s i LCurly
  object_opens (D.object_empty o _) = o
  object_opens (D.object_list o _ _) = o
  object_opens (D.object_comma o _ _ _) = o

  pub target_shape : {i j : ℕ} {ts : Forest} → Derives s AssignmentPattern i j ts → Shaped s Row.TargetArray Row.TargetObject i j ts
  target_shape (D.target_array_empty o _ _) = in_brackets o
  target_shape (D.target_array_rest o _ _) = in_brackets o
  target_shape (D.target_array_list o _ _) = in_brackets o
  target_shape (D.target_array_comma o _ _ _ _) = in_brackets o
  target_shape (D.target_array_list_rest o _ _ _ _) = in_brackets o
  target_shape (D.target_object_empty o _) = in_braces o
  target_shape (D.target_object_rest o _ _) = in_braces o
  target_shape (D.target_object_list o _ _) = in_braces o
  target_shape (D.target_object_comma o _ _ _) = in_braces o
  target_shape (D.target_object_list_rest o _ _ _ _) = in_braces o

  pub binding_shape : {i j : ℕ} {ts : Forest} → Derives s BindingPattern i j ts → Shaped s Row.BindingArray Row.BindingObject i j ts
  binding_shape (D.binding_object_empty o _) = in_braces o
  binding_shape (D.binding_object_rest o _ _) = in_braces o
  binding_shape (D.binding_object_list o _ _) = in_braces o
  binding_shape (D.binding_object_comma o _ _ _) = in_braces o
  binding_shape (D.binding_object_list_rest o _ _ _ _) = in_braces o
  binding_shape (D.binding_array_empty o _ _) = in_brackets o
  binding_shape (D.binding_array_rest o _ _) = in_brackets o
  binding_shape (D.binding_array_list o _ _) = in_brackets o
  binding_shape (D.binding_array_comma o _ _ _ _) = in_brackets o
  binding_shape (D.binding_array_list_rest o _ _ _ _) = in_brackets o

-- the last of some rows
pub spread_last : (ts : Forest) (t : Tree) → ends_in_spread (join ts (one t)) ≡ kind_of t is Row.Spread
unfolding ends_in_spread join kind_of
spread_last nil (node kind mark first end kids) = refl
spread_last (cons u nil) (node kind mark first end kids) = refl
spread_last (cons u (cons v vs)) t = spread_last (cons v vs) t

-- LISTS BEGUN
-- a list of x that began at i, up to a place where an x could start
pub data Begun (s : Sheet) (x : Nonterminal) (i at : ℕ) (so_far : Forest) : Type 0 where
  none_yet : at ≡ i → so_far ≡ nil → Begun s x i at so_far
  after_comma : (p : ℕ) → Derives s (ListOf x) i p so_far → Tok s p Comma → at ≡ p + 1 → Begun s x i at so_far

pub one_more : {s : Sheet} {x : Nonterminal} {i at e : ℕ} (so_far us : Forest) → Begun s x i at so_far → Derives s x at e us → Derives s (ListOf x) i e (join so_far us)
unfolding join
one_more so_far us (none_yet q r) d = rw r (D.first_of_list (rw q at d))
one_more so_far us (after_comma p l t q) d = D.next_of_list l t (rw q at d)

-- the same, of a list with elisions
pub data BegunElided (s : Sheet) (x : Nonterminal) (i at : ℕ) (so_far : Forest) : Type 0 where
  only_holes : Derives s Elision i at so_far → BegunElided s x i at so_far
  after_list : (p : ℕ) (ts us : Forest) → Derives s (ListOf (Elided x)) i p ts → Tok s p Comma → Derives s Elision (p + 1) at us → so_far ≡ join ts us → BegunElided s x i at so_far

module _ {s : Sheet} {x : Nonterminal} {i at : ℕ} where
  pub one_hole_more : (so_far : Forest) → BegunElided s x i at so_far → Tok s at Comma → BegunElided s x i (at + 1) (join so_far (one (leaf Row.Hole at)))
  one_hole_more so_far (only_holes d) t = only_holes (D.elision d t)
  one_hole_more so_far (after_list p ts us l c d q) t = after_list p ts (join us (one (leaf Row.Hole at))) l c (D.elision d t) (rw q (join_assoc ts us (one (leaf Row.Hole at))))

  pub one_element_more : {e : ℕ} (so_far us : Forest) → BegunElided s x i at so_far → Derives s x at e us → Derives s (ListOf (Elided x)) i e (join so_far us)
  one_element_more so_far us (only_holes h) d = D.first_of_list (D.elided h d)
  one_element_more so_far us (after_list p ts vs l c h q) d = rw (q, join_assoc ts vs us) (D.next_of_list l c (D.elided h d))

pub list_and_comma : {s : Sheet} {x : Nonterminal} {i p : ℕ} (ts : Forest) → Derives s (ListOf (Elided x)) i p ts → Tok s p Comma → BegunElided s x i (p + 1) ts
list_and_comma {p = p} ts l t = after_list p ts nil l t D.no_elision (sym (join_nil ts))

-- WHAT HOLDS OF EACH ITEM OF A LIST
-- P of each item from i on
pub data Each (s : Sheet) (P : ℕ → ℕ → Forest → Type 0) (i : ℕ) : ℕ → Forest → Type 0 where
  each_one : {j : ℕ} {ts : Forest} → P i j ts → Each s P i j ts
  each_more : {p j : ℕ} {ts us : Forest} → Each s P i p ts → Tok s p Comma → P (p + 1) j us → Each s P i j (join ts us)

-- P of what follows an elision
pub data Past (s : Sheet) (P : ℕ → ℕ → Forest → Type 0) (i j : ℕ) : Forest → Type 0 where
  past : {p : ℕ} {hs ts : Forest} → Derives s Elision i p hs → P p j ts → Past s P i j (join hs ts)

-- MEANINGS where no record is said. The words of the productions again: what is said of the parts may be used freely
-- no record is said
pub record Silent (records : List Record) : Type 0 where
  pub none : records ≡ []

pub silent : Silent []
silent = record { none = refl }

pub said : {r : Record} {records : List Record} → Silent (r ∷ records) → ⊥
said f = let e = f.none in let z : ◌≡◌ {A = ℕ} 0 1 = cc in omega arith

pub silent_left : (records more : List Record) → Silent (records ++ more) → Silent records
silent_left [] more f = silent
silent_left (r ∷ records) more f = absurd (said f)

pub silent_right : (records more : List Record) → Silent (records ++ more) → Silent more
silent_right [] more f = f
silent_right (r ∷ records) more f = absurd (said f)

-- none is said, or some is
data Either (records : List Record) : Type 0 where
  none_said : Silent records → Either records
  some_said : (Silent records → ⊥) → Either records

decide : (records : List Record) → Either records
decide [] = none_said silent
decide (r ∷ records) = some_said said

-- what holds of what is done, up to where and with which trees, where no record is said
abbrev pub Means : (ℕ → Forest → Type 0) → Meaning
Means P end trees records = Silent records → P end trees

-- THE WORDS
module _ {N : Type 0} where
  module _ {P : ℕ → Forest → Type 0} where
    after : (records : List Record) {out : Out N} → (Silent records → Ends (Means P) Nothing out) → Ends (Means P) Nothing (after_records records out)
    unfolding after_records
    after records {out} h = go (decide records)
      where
        more : Ends (Means P) Nothing out → Ends (Means P) Nothing (after_records records out)
        more (ends_done end trees rest notes e p) = rw e (ends_done end trees (records ++ rest) notes refl (λ f. p (silent_right records rest f)))
        more (ends_fail cause notes e b) = rw e (ends_fail cause notes refl tt)
        more (ends_stuck e) = rw e (ends_stuck refl)

        vain : (Silent records → ⊥) → (x : Out N) → out ≡ x → Ends (Means P) Nothing (after_records records out)
        vain n (done end trees rest notes) e = rw e (ends_done end trees (records ++ rest) notes refl (λ f. absurd (n (silent_left records rest f))))
        vain n (fail cause notes) e = rw e (ends_fail cause notes refl tt)
        vain n stuck e = rw e (ends_stuck refl)

        go : Either records → Ends (Means P) Nothing (after_records records out)
        go (none_said f) = more (h f)
        go (some_said n) = vain n out refl

    -- `part ← reading`, and what follows
    pub follow : {Q : ℕ → Forest → Type 0} {reading : Reading N} {next : Part → Reading N} → Reads (Means Q) Nothing reading
        → ((part : Part) → Q part.end part.trees → Reads (Means P) Nothing (next part))
        → Reads (Means P) Nothing (reading >>= next)
    unfolding ◌>>=◌ and_then
    follow {Q} {reading} {next} r h = record { with = λ notes. go (r.with notes) }
      where
        go : {out : Out N} → Ends (Means Q) Nothing out → Ends (Means P) Nothing (and_then out next)
        go (ends_done end trees records notes e q) = rw e (after records (λ f. (h (record { end = end; trees = trees }) (q f)).with notes))
        go (ends_fail cause notes e b) = rw e (ends_fail cause notes refl tt)
        go (ends_stuck e) = rw e (ends_stuck refl)

    -- `try reading next other`
    pub trying : {Q : ℕ → Forest → Type 0} {reading other : Reading N} {next : Part → Reading N} → Reads (Means Q) Nothing reading
        → ((part : Part) → Q part.end part.trees → Reads (Means P) Nothing (next part))
        → Reads (Means P) Nothing other
        → Reads (Means P) Nothing (try reading next other)
    unfolding try or_else
    trying {Q} {reading} {other} {next} r h o = record { with = λ notes. go (r.with notes) }
      where
        go : {out : Out N} → Ends (Means Q) Nothing out → Ends (Means P) Nothing (or_else out next other)
        go (ends_done end trees records notes e q) = rw e (after records (λ f. (h (record { end = end; trees = trees }) (q f)).with notes))
        go (ends_fail cause notes e b) = rw e (o.with notes)
        go (ends_stuck e) = rw e (ends_stuck refl)

    -- `say records`
    pub saying : (records : List Record) {next : Reading N} → (Silent records → Reads (Means P) Nothing next) → Reads (Means P) Nothing (say records next)
    unfolding say
    saying records h = record { with = λ notes. after records (λ f. (h f).with notes) }

    -- `yield`
    pub giving : (end : ℕ) (trees : Forest) → P end trees → Reads {N = N} (Means P) Nothing (yield end trees)
    unfolding yield
    giving end trees p = record { with = λ notes. ends_done end trees [] notes refl (λ f. p) }

    -- `refuse`
    pub none : (cause : Cause) → Reads {N = N} (Means P) Nothing (refuse cause)
    unfolding refuse
    none cause = record { with = λ notes. ends_fail cause notes refl tt }

    -- `converted role end t`
    pub turning : (role : Role) (end : ℕ) (t : Tree) → ((t' : Tree) (records : List Record) → convert_as t role ≡ turned t' records → Silent records → P end (one t'))
        → Reads {N = N} (Means P) Nothing (converted role end t)
    unfolding converted_to
    turning role end t h = record { with = λ notes. go notes (convert_as t role) refl }
      where
        go : (notes : N) (o : Outcome Tree) → convert_as t role ≡ o → Ends (Means P) Nothing (converted_to end o notes)
        go notes (turned t' records) e = ends_done end (one t') records notes refl (λ f. h t' records e f)
        go notes (refused cause) e = ends_fail cause notes refl tt

  -- what is said may be said otherwise
  pub hence : {P Q : ℕ → Forest → Type 0} {reading : Reading N} → Reads (Means Q) Nothing reading → ((end : ℕ) (trees : Forest) → Q end trees → P end trees)
      → Reads (Means P) Nothing reading
  hence {P} {Q} r h = record { with = λ notes. go (r.with notes) }
    where
      go : {out : Out N} → Ends (Means Q) Nothing out → Ends (Means P) Nothing out
      go (ends_done end trees records notes e q) = ends_done end trees records notes e (λ f. h end trees (q f))
      go (ends_fail cause notes e f) = ends_fail cause notes e tt
      go (ends_stuck e) = ends_stuck e
