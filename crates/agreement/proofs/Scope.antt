-- Where the brackets that are open at a place are closed: how far a nonterminal that starts there can look.
-- The definition is `closing`; its laws follow. Assumes nothing.
use Rattle.std.specs.Prelude.{if◌then◌else◌}
use Prim.Native.Nat.{ℕ, zero, suc, ◌+◌, ◌-◌, ◌≤◌, ◌<◌, min}
use mathlib.Core.Path.{◌≡◌, refl, ◌∙◌}
use mathlib.Core.Bool.{Bool, true, false}
use native.Mathlib.Omega.{arith}
use lib.ListN.{length}
use Rattle.tokens.specs.Bool.{◌is◌}
use Rattle.tokens.specs.Kind.{Async, LParen}
use Rattle.grammar.specs.Sheet.{Sheet, token}
use Rattle.laws.proofs.Balanced.{side_of, Side, Balanced, none, skip, nest}

-- from a place with so many tokens after it: the place of the bracket that closes what is open there, `deep` brackets further out; the end where nothing closes it
unfoldable pub closes_from : Sheet → ℕ → ℕ → ℕ → ℕ
closes_from sheet zero at deep = at
closes_from sheet (suc left) at zero =
    if side_of (token sheet at) is 1 then closes_from sheet left (at + 1) 1
    else if side_of (token sheet at) is 2 then at
    else closes_from sheet left (at + 1) zero
closes_from sheet (suc left) at (suc deep) =
    if side_of (token sheet at) is 1 then closes_from sheet left (at + 1) (suc (suc deep))
    else if side_of (token sheet at) is 2 then closes_from sheet left (at + 1) deep
    else closes_from sheet left (at + 1) (suc deep)

-- the same from a place to the end of the list
unfoldable pub closing : Sheet → ℕ → ℕ → ℕ
closing sheet at deep = closes_from sheet (length sheet.kinds - at) at deep

-- the end of what is open at a place
abbrev pub scope : Sheet → ℕ → ℕ
scope sheet at = closing sheet at 0

-- where the `(` of a head that starts at a place has to stand
unfoldable pub head_start : Sheet → ℕ → ℕ
head_start sheet at = if token sheet at is Async then at + 1 else at

-- how far the head can look: to the `=>` after its brackets
unfoldable pub reach : Sheet → ℕ → ℕ
reach sheet at = min (scope sheet at) (if token sheet (head_start sheet at) is LParen then scope sheet (head_start sheet at + 1) + 1 else at)

fewer : (sheet : Sheet) (at : ℕ) → at < length sheet.kinds → length sheet.kinds - at ≡ suc (length sheet.kinds - (at + 1))
fewer sheet at l = omega arith

-- a token that opens nothing and closes nothing
pub closing_flat : (sheet : Sheet) (at deep : ℕ) → Side sheet at 0 → at < length sheet.kinds → closing sheet at deep ≡ closing sheet (at + 1) deep
unfolding closing closes_from
closing_flat sheet at zero s l = rw (fewer sheet at l, s.goes)
closing_flat sheet at (suc deep) s l = rw (fewer sheet at l, s.goes)

-- an opening token
pub closing_open : (sheet : Sheet) (at deep : ℕ) → Side sheet at 1 → at < length sheet.kinds → closing sheet at deep ≡ closing sheet (at + 1) (suc deep)
unfolding closing closes_from
closing_open sheet at zero s l = rw (fewer sheet at l, s.goes)
closing_open sheet at (suc deep) s l = rw (fewer sheet at l, s.goes)

-- a closing token
pub closing_close : (sheet : Sheet) (at deep : ℕ) → Side sheet at 2 → at < length sheet.kinds → closing sheet at (suc deep) ≡ closing sheet (at + 1) deep
unfolding closing closes_from
closing_close sheet at deep s l = rw (fewer sheet at l, s.goes)

pub closing_here : (sheet : Sheet) (at : ℕ) → Side sheet at 2 → at < length sheet.kinds → closing sheet at 0 ≡ at
unfolding closing closes_from
closing_here sheet at s l = rw (fewer sheet at l, s.goes)

-- what holds of all three ways of two tests
three : (P : ℕ → Type 0) (a b : Bool) (x y z : ℕ) → P x → P y → P z → P (if a then x else if b then y else z)
three P true b x y z p q r = p
three P false true x y z p q r = q
three P false false x y z p q r = r

three_two : (P : ℕ → ℕ → Type 0) (a b : Bool) (x y z x' y' z' : ℕ) → P x x' → P y y' → P z z' → P (if a then x else if b then y else z) (if a then x' else if b then y' else z')
three_two P true b x y z x' y' z' p q r = p
three_two P false true x y z x' y' z' p q r = q
three_two P false false x y z x' y' z' p q r = r

-- between the place and the end
record Within (at left p : ℕ) : Type 0 where
  later : at ≤ p
  inside : p ≤ at + left

from_within : (sheet : Sheet) (left at deep : ℕ) → Within at left (closes_from sheet left at deep)
unfolding closes_from
from_within sheet zero at deep = omega arith
from_within sheet (suc left) at zero =
    three (λ p. Within at (suc left) p) (side_of (token sheet at) is 1) (side_of (token sheet at) is 2) _ _ _
    (omega (arith, from_within sheet left (at + 1) 1)) (omega arith) (omega (arith, from_within sheet left (at + 1) 0))
from_within sheet (suc left) at (suc deep) =
    three (λ p. Within at (suc left) p) (side_of (token sheet at) is 1) (side_of (token sheet at) is 2) _ _ _
    (omega (arith, from_within sheet left (at + 1) (suc (suc deep)))) (omega (arith, from_within sheet left (at + 1) deep)) (omega (arith, from_within sheet left (at + 1) (suc deep)))

from_outward : (sheet : Sheet) (left at deep : ℕ) → closes_from sheet left at deep ≤ closes_from sheet left at (suc deep)
unfolding closes_from
from_outward sheet zero at deep = omega arith
from_outward sheet (suc left) at zero =
    three_two (λ p q. p ≤ q) (side_of (token sheet at) is 1) (side_of (token sheet at) is 2) _ _ _ _ _ _
    (from_outward sheet left (at + 1) 1) (omega (arith, from_within sheet left (at + 1) 0)) (from_outward sheet left (at + 1) 0)
from_outward sheet (suc left) at (suc deep) =
    three_two (λ p q. p ≤ q) (side_of (token sheet at) is 1) (side_of (token sheet at) is 2) _ _ _ _ _ _
    (from_outward sheet left (at + 1) (suc (suc deep))) (from_outward sheet left (at + 1) deep) (from_outward sheet left (at + 1) (suc deep))

-- it stands at the place or later, not past the end, and further out is not sooner
pub closing_later : (sheet : Sheet) (at deep : ℕ) → at ≤ closing sheet at deep
unfolding closing
closing_later sheet at deep = (from_within sheet _ at deep).later

pub closing_inside : (sheet : Sheet) (at deep : ℕ) → at ≤ length sheet.kinds → closing sheet at deep ≤ length sheet.kinds
unfolding closing
closing_inside sheet at deep l = omega (arith, from_within sheet (length sheet.kinds - at) at deep)

pub closing_outward : (sheet : Sheet) (at deep : ℕ) → closing sheet at deep ≤ closing sheet at (suc deep)
unfolding closing
closing_outward sheet at deep = from_outward sheet _ at deep

-- past the end nothing is open
pub scope_outside : (sheet : Sheet) (at : ℕ) → length sheet.kinds ≤ at → scope sheet at ≡ at
unfolding closing closes_from
scope_outside sheet at l = let z : length sheet.kinds - at ≡ 0 = omega arith in rw z

-- what is balanced changes nothing
pub forward : {sheet : Sheet} {i j : ℕ} → Balanced sheet i j → i ≤ j
forward none = omega arith
forward (skip s b) = omega (arith, forward b)
forward (nest s b t c) = omega (arith, forward b, forward c)

pub closing_balanced : {sheet : Sheet} {i j : ℕ} (deep : ℕ) → Balanced sheet i j → j ≤ length sheet.kinds → closing sheet i deep ≡ closing sheet j deep
closing_balanced deep none l = refl
closing_balanced {sheet} {i} deep (skip s b) l = closing_flat sheet i deep s (omega (arith, forward b)) ∙ closing_balanced deep b l
closing_balanced {sheet} {i} deep (nest {k = k} s b t c) l =
    closing_open sheet i deep s (omega (arith, forward b, forward c)) ∙ closing_balanced (suc deep) b (omega (arith, forward c)) ∙ closing_close sheet k deep t (omega (arith, forward c))
    ∙ closing_balanced deep c l

-- inside a bracket the end of what is open is not later
pub scope_in : (sheet : Sheet) (at : ℕ) → Side sheet at 1 → at < length sheet.kinds → scope sheet (at + 1) ≤ scope sheet at
scope_in sheet at s l = omega (arith, closing_open sheet at 0 s l, closing_outward sheet (at + 1) 0)
