-- Laws of the table of shapes: what its numbers say of a kid at a place. Past the table, a kind over 50 has no kids, and none over 63 may be one.
-- Assumes nothing.
use Rattle.std.specs.Prelude.{if◌then◌else◌}
use Prim.Native.Nat.{ℕ, zero, suc, ◌+◌, ◌≤◌, ◌<◌}
use mathlib.Core.Path.{◌≡◌, refl, sym, ap, ◌∙◌}
use mathlib.Core.Bool.{Bool, true, false, not}
use mathlib.Core.List.{List, [], ◌∷◌}
use native.Mathlib.Omega.{arith}
use lib.Dec.{eqb, leb, ltb}
use mir.Val.{bool_byte}
use lib.ListN.{length, get_or}
use borrow.Author.Tests.{not-true, lt-ltb, le-ltb, lt-leb, leb-true, eqb-true, ne_eqb}
use Rattle.tokens.specs.Bool.{◌or◌, ◌and◌, ◌is◌, between}
use Rattle.std.specs.List.{list_all, range_with_len}
use Rattle.tokens.proofs.Table.{in_range}
use Rattle.rows.specs.Row as row
use Rattle.rows.specs.Mask.{has, bits, mask, cells, Cell}
use Rattle.trees.specs.declared.table.TheConstants.{PARAMETERS, S}
use Rattle.rows.specs.Shape.{Shape, exactly, is_left_hand_side, is_unary, is_binary, is_logical, is_assignment, is_expression, is_body, is_binding, is_parameter, is_simple_target, is_target, only, nothing, may_be, may_end, fits, least, shape_of}
use Rattle.trees.proofs.Masks.{has_mask}
use Rattle.rows.proofs.Tests.{and_left, and_right}

-- a kind over 50 has no kids
pub beyond : (kind : ℕ) → 51 ≤ kind → shape_of kind ≡ exactly []
unfolding shape_of
beyond kind h =
    rw (no 4 refl, no 5 refl, no 6 refl, no 7 refl, no 8 refl, no 10 refl, no 15 refl, no 11 refl, no 12 refl, no 13 refl, no 16 refl, no 46 refl, no 17 refl, no 47 refl, no 18 refl, no 19 refl, no 20 refl, no 21 refl, no 22 refl, no 23 refl, no 24 refl, no 25 refl, no 26 refl, no 27 refl, no 28 refl, no 29 refl, no 31 refl, no 32 refl, no 33 refl, no 34 refl, no 35 refl, no 36 refl, no 41 refl, no 42 refl, no 43 refl, no 44 refl, no 45 refl, no 48 refl, no 49 refl, no 50 refl)
  where
    no : (k : ℕ) → leb k 50 ≡ true → eqb kind k ≡ false
    no k e = ne_eqb kind k (omega (arith, leb-true k 50 e))

-- what a test says of the shape of each kind, if it says so of each in the table and of no kids
pub all_shapes : (test : Shape → Bool) → list_all (λ k. test (shape_of k)) (range_with_len 0 51) ≡ true → test (exactly []) ≡ true → (kind : ℕ) → test (shape_of kind) ≡ true
all_shapes test all none kind = go (native.Mathlib.Decide.dec_le 51 kind)
  where
    go : Dec (51 ≤ kind) → test (shape_of kind) ≡ true
    go (yes l) = ap test (beyond kind l) ∙ none
    go (no l) = in_range (λ k. test (shape_of k)) 0 51 all kind (omega arith) (omega arith)

-- how many kids stand in front and at the end, by the kinds of those that may: none of them is without kinds
abbrev pub some : ℕ → ℕ
some x = bool_byte (not (eqb x 0))

number : Shape → ℕ → ℕ
number s place = get_or (cells s) place 0

-- the kids in front: the third has two before it, the second one
pub front_three : (kind : ℕ) {c : ℕ} → Cell (shape_of kind) 3 c → (c ≡ 0 → ⊥) → Cell (shape_of kind) 0 3
unfolding number bits mask cells is_left_hand_side is_unary is_binary is_logical is_assignment is_expression is_body is_binding is_parameter is_simple_target is_target only nothing shape_of
front_three kind {c} z h =
    let n : (c is 0 or number (shape_of kind) 0 is 3) ≡ true = rw z.is (all_shapes (λ (s : Shape). number s 3 is 0 or number s 0 is 3) refl refl kind) in
    record { is = sym (eqb-true _ _ (rw (ne_eqb c 0 h) at n)) }

pub front_two : (kind : ℕ) {b c : ℕ} → Cell (shape_of kind) 3 c → c ≡ 0 → Cell (shape_of kind) 2 b → (b ≡ 0 → ⊥) → Cell (shape_of kind) 0 2
unfolding number bits mask cells is_left_hand_side is_unary is_binary is_logical is_assignment is_expression is_body is_binding is_parameter is_simple_target is_target only nothing shape_of
front_two kind {b} {c} z e y h =
    let n : (not (c is 0) or (b is 0 or number (shape_of kind) 0 is 2)) ≡ true =
    rw (z.is, y.is) (all_shapes (λ (s : Shape). not (number s 3 is 0) or (number s 2 is 0 or number s 0 is 2)) refl refl kind)
    in
    record { is = sym (eqb-true _ _ (rw (e, ne_eqb b 0 h) at n)) }

pub front_one : (kind : ℕ) {a b c f : ℕ} → Cell (shape_of kind) 3 c → c ≡ 0 → Cell (shape_of kind) 2 b → b ≡ 0 → Cell (shape_of kind) 1 a → f ≡ some a → Cell (shape_of kind) 0 f
unfolding number bits mask cells is_left_hand_side is_unary is_binary is_logical is_assignment is_expression is_body is_binding is_parameter is_simple_target is_target only nothing shape_of
front_one kind {a} {b} {c} z e y g x h =
    let n : (not (c is 0) or (not (b is 0) or number (shape_of kind) 0 is some a)) ≡ true =
    rw (z.is, y.is, x.is) (all_shapes (λ (s : Shape). not (number s 3 is 0) or (not (number s 2 is 0) or number s 0 is some (number s 1))) refl refl kind)
    in
    record { is = h ∙ sym (eqb-true _ _ (rw (e, g) at n)) }

-- and their sum is how many there are
pub front_cell : (kind : ℕ) {f a b c : ℕ} → Cell (shape_of kind) 1 a → Cell (shape_of kind) 2 b → Cell (shape_of kind) 3 c → f ≡ some a + some b + some c → Cell (shape_of kind) 0 f
unfolding number bits mask cells is_left_hand_side is_unary is_binary is_logical is_assignment is_expression is_body is_binding is_parameter is_simple_target is_target only nothing shape_of
front_cell kind x y z e =
    let n = eqb-true _ _ (all_shapes (λ (s : Shape). eqb (number s 0) (some (number s 1) + some (number s 2) + some (number s 3))) refl refl kind) in
    record { is = e ∙ rw (x.is, y.is, z.is) (sym n) }

pub ending_cell : (kind : ℕ) {e x : ℕ} → Cell (shape_of kind) 7 x → e ≡ some x → Cell (shape_of kind) 6 e
unfolding number bits mask cells is_left_hand_side is_unary is_binary is_logical is_assignment is_expression is_body is_binding is_parameter is_simple_target is_target only nothing shape_of
ending_cell kind z e =
    let n = eqb-true _ _ (all_shapes (λ (s : Shape). eqb (number s 6) (some (number s 7))) refl refl kind) in
    record { is = e ∙ rw z.is (sym n) }

-- the fixed kids are in front and at the end
pub enough : {s : Shape} {f e : ℕ} (kids : ℕ) → Cell s 0 f → Cell s 6 e → leb (f + e) kids ≡ leb (least s) kids
unfolding cells least
enough kids x y = rw (x.is, y.is)

cell_front : (s : Shape) (before : ℕ) → before < 3 → get_or (cells s) (before + 1) 0 ≡ mask (get_or s.front before nothing)
unfolding cells
cell_front s zero h = refl
cell_front s (suc zero) h = refl
cell_front s (suc (suc zero)) h = refl
cell_front s (suc (suc (suc n))) h = absurd (omega arith)

cell_ending : (s : Shape) (after : ℕ) → after < 1 → get_or (cells s) 7 0 ≡ mask (get_or s.ending after nothing)
unfolding cells
cell_ending s zero h = refl
cell_ending s (suc n) h = absurd (omega arith)

-- what is asked of a kid: of a fixed one in front, of a fixed one at the end, and of one between them
module _ {s : Shape} {f before kid : ℕ} (x : Cell s 0 f) (k : kid < 64) where
  pub in_front : {m : ℕ} (after : ℕ) → f ≤ 3 → before < f → Cell s (before + 1) m → has m kid ≡ may_be s before after kid
  unfolding cells may_be
  in_front {m} after few h y =
      let p : f ≡ length s.front = x.is in
      let l : before < length s.front = omega arith in
      ap (λ (n : ℕ). has n kid) (y.is ∙ cell_front s before (omega arith)) ∙ has_mask (get_or s.front before nothing) kid k ∙ rw (lt-ltb before (length s.front) l)

  module _ {e after : ℕ} (y : Cell s 6 e) (h : f ≤ before) where
    pub at_end : {m : ℕ} → e ≤ 1 → after < e → Cell s 7 m → has m kid ≡ may_be s before after kid
    unfolding cells may_be
    at_end few g z =
        let p : f ≡ length s.front = x.is in
        let q : e ≡ length s.ending = y.is in
        ap (λ (n : ℕ). has n kid) (z.is ∙ cell_ending s after (omega arith))
        ∙ has_mask (get_or s.ending after nothing) kid k
        ∙ rw (le-ltb before (length s.front) (omega arith), lt-ltb after (length s.ending) (omega arith))

    pub between_them : {m : ℕ} → e ≤ after → Cell s 4 m → may_be s before after kid ≡ (has m kid or (eqb after e and s.closing kid))
    unfolding cells may_be
    between_them g z =
        let p : f ≡ length s.front = x.is in
        let q : e ≡ length s.ending = y.is in
        rw (le-ltb before (length s.front) (omega arith), le-ltb after (length s.ending) (omega arith), q, z.is, has_mask s.many kid k)

pub closing_has : {s : Shape} {m kid : ℕ} → Cell s 5 m → kid < 64 → has m kid ≡ s.closing kid
unfolding cells
closing_has {s} {kid = kid} z k = ap (λ (n : ℕ). has n kid) z.is ∙ has_mask s.closing kid k

-- the sets that the last kid of a Property may be of
pub parameters_has : (kid : ℕ) → kid < 64 → has PARAMETERS kid ≡ is_parameter kid
unfolding bits mask is_parameter is_binding
parameters_has kid h = has_mask is_parameter kid h

pub assignments_has : (kid : ℕ) → kid < 64 → has S kid ≡ is_assignment kid
unfolding bits mask is_assignment is_logical is_binary is_unary is_left_hand_side
assignments_has kid h = has_mask is_assignment kid h

-- no set of these has the kind; no set of a shape has it
abbrev none_of : ℕ → List (ℕ → Bool) → Bool
none_of kid [] = true
none_of kid (kinds ∷ sets) = not (kinds kid) and none_of kid sets

abbrev none_in : ℕ → Shape → Bool
none_in kid s = none_of kid s.front and none_of kid s.ending and none_of kid (s.many ∷ s.closing ∷ [])

-- the sets that have a name
abbrev named : List (ℕ → Bool)
named = is_left_hand_side ∷ is_unary ∷ is_binary ∷ is_logical ∷ is_assignment ∷ is_expression ∷ is_body ∷ is_binding ∷ is_parameter ∷ is_simple_target ∷ is_target ∷ []

none_at : (kid : ℕ) (sets : List (ℕ → Bool)) → none_of kid sets ≡ true → (n : ℕ) → get_or sets n nothing kid ≡ false
unfolding nothing
none_at kid [] h n = refl
none_at kid (kinds ∷ sets) h zero = not-true (kinds kid) (and_left _ _ h)
none_at kid (kinds ∷ sets) h (suc n) = none_at kid sets (and_right (not (kinds kid)) _ h) n

and_none : (a : Bool) → (a and false) ≡ false
and_none true = refl
and_none false = refl

if_none : (a : Bool) {b c : Bool} → b ≡ false → c ≡ false → (if a then b else c) ≡ false
if_none true p q = p
if_none false p q = q

module _ {kid : ℕ} (h : 64 ≤ kid) where
  other : (k : ℕ) → leb k 63 ≡ true → eqb kid k ≡ false
  other k e = ne_eqb kid k (omega (arith, leb-true k 63 e))

  past : (a b : ℕ) → leb b 63 ≡ true → between a b kid ≡ false
  past a b e = rw (lt-leb kid b (omega (arith, leb-true b 63 e))) (and_none (leb a kid))

  -- it is in no set that has a name, and in none of the table's
  no_set : none_of kid named ≡ true
  unfolding is_left_hand_side is_unary is_binary is_logical is_assignment is_expression is_body is_binding is_parameter is_simple_target is_target
  no_set =
      rw (past 1 8 refl, past 16 18 refl, past 19 21 refl, other 22 refl, other 23 refl, past 24 26 refl, past 28 29 refl, other 27 refl, past 7 8 refl)
      (rw (past 30 32 refl, other 34 refl, past 40 41 refl, past 46 47 refl, past 42 43 refl))

  set : (n : ℕ) → get_or named n nothing kid ≡ false
  set n = none_at kid named no_set n

  none : (kind : ℕ) → none_in kid (shape_of kind) ≡ true
  unfolding only nothing shape_of
  none kind =
      all_shapes (none_in kid)
      (rw (set 0, set 1, set 2, set 3, set 4, set 5, set 6, set 7, set 8, set 9, set 10)
      (rw (other 1 refl, other 9 refl, other 10 refl, other 11 refl, other 12 refl, other 13 refl, other 14 refl, other 15 refl)
      (rw (other 30 refl, other 33 refl, other 35 refl, other 36 refl, other 40 refl, other 44 refl, other 45 refl, other 48 refl, other 49 refl, other 50 refl))))
      refl kind

  none_front : (kind n : ℕ) → get_or (shape_of kind).front n nothing kid ≡ false
  none_front kind n = none_at kid (shape_of kind).front (and_left _ _ (none kind)) n

  none_after : (kind : ℕ) → (none_of kid (shape_of kind).ending and none_of kid ((shape_of kind).many ∷ (shape_of kind).closing ∷ [])) ≡ true
  none_after kind = and_right (none_of kid (shape_of kind).front) _ (none kind)

  none_many : (kind n : ℕ) → get_or ((shape_of kind).many ∷ (shape_of kind).closing ∷ []) n nothing kid ≡ false
  none_many kind n = none_at kid ((shape_of kind).many ∷ (shape_of kind).closing ∷ []) (and_right (none_of kid (shape_of kind).ending) _ (none_after kind)) n

  -- so it does not fit anywhere
  nowhere : (kind before after : ℕ) → may_be (shape_of kind) before after kid ≡ false
  unfolding may_be
  nowhere kind before after =
      let s = shape_of kind in
      if_none (ltb before (length s.front)) (none_front kind before)
      (if_none (ltb after (length s.ending)) (none_at kid s.ending (and_left _ _ (none_after kind)) after)
      (rw (none_many kind 0, none_many kind 1) (and_none (after is length s.ending))))

  pub no_kid : (kind before after last : ℕ) → false ≡ fits kind before after kid last
  unfolding fits
  no_kid kind before after last = rw (nowhere kind before after)

  -- nor is it the last kid of a Property: it is no parameter and no AssignmentExpression
  pub no_end : (kind : ℕ) → false ≡ may_end kind row.Property kid
  unfolding may_end shape_of
  no_end kind = sym (if_none (kind is row.BindingObject) (none_many row.Arrow 0) (none_front row.Spread 0))

pub ruleset last_kids = (parameters_has, assignments_has, no_end)
