-- How long all brackets are together: at most the number of tokens times one more than the deepest nesting.
-- `deepest` is the definition; the statements, at the end: `spans_bounded`, and `nesting_64`: after check 7 the deepest nesting is at most 64. Assumes nothing.
use Rattle.std.specs.Prelude.{if◌then◌else◌, Ok, Err}
use Prim.Native.Nat.{ℕ, zero, suc, ◌+◌, ◌-◌, ◌*◌, ◌≤◌, ◌<◌, max}
use mathlib.Core.Path.{◌≡◌, refl, sym, ap, ◌∙◌}
use mathlib.Core.Bool.{Bool, true, false}
use mathlib.Core.List.{List, [], ◌∷◌}
use native.Mathlib.Omega.{arith}
use native.Mathlib.Nat.{suc-mul}
use lib.Dec.{ltb}
use lib.ListN.{length, get_or}
use borrow.Author.Tests.{ltb-false}
use Rattle.tokens.specs.Bool.{◌or◌, ◌is◌}
use Rattle.tokens.specs.Kind.{LParen, RParen, LBrack, RBrack, LCurly, RCurly}
use Rattle.tokens.specs.Check.{depth_after, nesting, check_nesting}
use Rattle.tokens.specs.declared.cause.Cause.{Cause}
use Rattle.grammar.specs.Sheet.{Sheet, token}
use Rattle.laws.proofs.Balanced.{side_of, Side}
use Rattle.agreement.proofs.Scope.{closing, scope, closes_from, closing_flat, closing_open, closing_close, closing_here, closing_later}
use Rattle.agreement.specs.Terms.{deepest, deepest_from}

-- how many tokens stand from an opening bracket to its partner, both counted
unfoldable pub span : Sheet → ℕ → ℕ
span sheet at = if side_of (token sheet at) is 1 then scope sheet (at + 1) + 1 - at else 0

-- all brackets that open from a place on
unfoldable pub spans : Sheet → ℕ → ℕ → ℕ
spans sheet zero at = 0
spans sheet (suc left) at = span sheet at + spans sheet left (at + 1)

-- what is left of the brackets that are open at a place
unfoldable rests : Sheet → ℕ → ℕ → ℕ
rests sheet at zero = 0
rests sheet at (suc depth) = (closing sheet at depth - at) + rests sheet at depth

rests_zero : (sheet : Sheet) (at : ℕ) → rests sheet at 0 ≡ 0
unfolding rests
rests_zero sheet at = refl

-- which way a token goes
data Turn (k depth : ℕ) : Type 0 where
  opens : side_of k ≡ 1 → depth_after depth k ≡ depth + 1 → Turn k depth
  closes : side_of k ≡ 2 → depth_after depth k ≡ depth - 1 → Turn k depth
  neither : side_of k ≡ 0 → depth_after depth k ≡ depth → Turn k depth

turn : (k depth : ℕ) → Turn k depth
unfolding side_of depth_after
turn k depth = go (k is LParen or k is LBrack or k is LCurly) refl (k is RParen or k is RBrack or k is RCurly) refl
  where
    go : (a : Bool) → (k is LParen or k is LBrack or k is LCurly) ≡ a → (b : Bool) → (k is RParen or k is RBrack or k is RCurly) ≡ b → Turn k depth
    go true e b e' = opens (rw e) (rw e)
    go false e true e' = closes (rw (e, e')) (rw (e, e'))
    go false e false e' = neither (rw (e, e')) (rw (e, e'))

deeper : (sheet : Sheet) (left at depth : ℕ) → depth ≤ deepest_from sheet left at depth
unfolding deepest_from
deeper sheet zero at depth = omega arith
deeper sheet (suc left) at depth = omega arith

-- past a token
rests_flat : (sheet : Sheet) (at depth : ℕ) → Side sheet at 0 → at < length sheet.kinds → rests sheet at depth ≡ rests sheet (at + 1) depth + depth
unfolding rests
rests_flat sheet at zero s l = refl
rests_flat sheet at (suc depth) s l = omega (arith, closing_flat sheet at depth s l, closing_later sheet (at + 1) depth, rests_flat sheet at depth s l)

rests_open : (sheet : Sheet) (at depth : ℕ) → Side sheet at 1 → at < length sheet.kinds
    → rests sheet at depth + (scope sheet (at + 1) - (at + 1)) ≡ rests sheet (at + 1) (depth + 1) + depth
unfolding rests
rests_open sheet at zero s l = omega arith
rests_open sheet at (suc depth) s l =
    let q : suc depth + 1 ≡ suc (depth + 1) = omega arith in
    let c : depth + 1 ≡ suc depth = omega arith in
    rw (q, c) (omega (arith, closing_open sheet at depth s l, closing_later sheet (at + 1) (suc depth), rw c at (rests_open sheet at depth s l)))

rests_close : (sheet : Sheet) (at depth : ℕ) → Side sheet at 2 → at < length sheet.kinds → rests sheet at (suc depth) ≡ rests sheet (at + 1) depth + depth
unfolding rests
rests_close sheet at zero s l = omega (arith, closing_here sheet at s l)
rests_close sheet at (suc depth) s l = omega (arith, closing_close sheet at depth s l, closing_later sheet (at + 1) depth, rests_close sheet at depth s l)

rests_none : (sheet : Sheet) (at depth : ℕ) → at ≡ length sheet.kinds → rests sheet at depth ≡ 0
unfolding rests closing closes_from
rests_none sheet at zero e = refl
rests_none sheet at (suc depth) e = let z : length sheet.kinds - at ≡ 0 = omega arith in rw z (omega (arith, rests_none sheet at depth e))

span_is : (sheet : Sheet) (at way : ℕ) → side_of (token sheet at) ≡ way → span sheet at ≡ (if way is 1 then scope sheet (at + 1) + 1 - at else 0)
unfolding span
span_is sheet at way e = rw e

bounded : (sheet : Sheet) (left at depth most : ℕ) → at + left ≡ length sheet.kinds → deepest_from sheet left at depth ≤ most
    → spans sheet left at + rests sheet at depth ≤ left * (most + 1)
unfolding spans deepest_from
bounded sheet zero at depth most e d = omega (arith, rests_none sheet at depth (omega arith))
bounded sheet (suc left) at depth most e d =
    go (turn (token sheet at) depth) (λ next q. bounded sheet left (at + 1) next most (omega arith) (omega (arith, ap (deepest_from sheet left (at + 1)) q))) (suc-mul left (most + 1))
  where
    l : at < length sheet.kinds
    l = omega arith

    closed : (depth' : ℕ) → depth ≡ depth' → Side sheet at 2 → span sheet at ≡ 0 → depth ≤ most → (spans sheet left (at + 1) + rests sheet (at + 1) (depth' - 1) ≤ left * (most + 1))
        → suc left * (most + 1) ≡ left * (most + 1) + (most + 1) → span sheet at + spans sheet left (at + 1) + rests sheet at depth ≤ suc left * (most + 1)
    closed zero q s z le h w = rw q (omega (arith, rests_zero sheet at, rests_zero sheet (at + 1)))
    closed (suc depth') q s z le h w = let k : suc depth' - 1 ≡ depth' = omega arith in rw q (omega (arith, rests_close sheet at depth' s l, rw k at h))

    go : Turn (token sheet at) depth → ((next : ℕ) → depth_after depth (token sheet at) ≡ next → spans sheet left (at + 1) + rests sheet (at + 1) next ≤ left * (most + 1))
        → suc left * (most + 1) ≡ left * (most + 1) + (most + 1) → span sheet at + spans sheet left (at + 1) + rests sheet at depth ≤ suc left * (most + 1)
    go (opens s q) h w =
        omega (
          arith,
          h (depth + 1) q,
          span_is sheet at 1 s,
          closing_later sheet (at + 1) 0,
          rests_open sheet at depth (record { goes = s }) l,
          deeper sheet left (at + 1) (depth_after depth (token sheet at)),
        )
    go (closes s q) h w = closed depth refl (record { goes = s }) (span_is sheet at 2 s) (omega arith) (h (depth - 1) q) w
    go (neither s q) h w = omega (arith, h depth q, span_is sheet at 0 s, rests_flat sheet at depth (record { goes = s }) l)

-- THE STATEMENTS
pub spans_bounded : (sheet : Sheet) → spans sheet (length sheet.kinds) 0 ≤ length sheet.kinds * (deepest sheet + 1)
spans_bounded sheet = omega (arith, bounded sheet (length sheet.kinds) 0 0 (deepest sheet) (omega arith) (omega arith))

-- check 7 bounds the nesting
nested_64 : (sheet : Sheet) (kinds : List ℕ) (depth p q : ℕ) → ((i : ℕ) → get_or kinds i 0 ≡ token sheet (p + i)) → nesting depth q kinds ≡ Ok tt → depth ≤ 64
    → deepest_from sheet (length kinds) p depth ≤ 64
unfolding nesting deepest_from
nested_64 sheet [] depth p q same fine le = le
nested_64 sheet (k ∷ kinds) depth p q same fine le =
    let here : k ≡ token sheet p = same 0 ∙ ap (token sheet) (omega arith) in
    go (ltb 64 (depth_after depth k)) refl fine
    (λ f l. rw (sym here) (nested_64 sheet kinds (depth_after depth k) (p + 1) (suc q) (λ i. same (suc i) ∙ ap (token sheet) (omega arith)) f l))
  where
    go : (b : Bool) → ltb 64 (depth_after depth k) ≡ b → (if b then Err (Cause.Nesting q) else nesting (depth_after depth k) (suc q) kinds) ≡ Ok tt
        → (nesting (depth_after depth k) (suc q) kinds ≡ Ok tt → depth_after depth k ≤ 64 → deepest_from sheet (length kinds) (p + 1) (depth_after depth (token sheet p)) ≤ 64)
        → max depth (deepest_from sheet (length kinds) (p + 1) (depth_after depth (token sheet p))) ≤ 64
    go true e f h = let z : ◌≡◌ {A = ℕ} 0 1 = cc in absurd (omega arith)
    go false e f h = omega (arith, h f (omega (arith, ltb-false 64 (depth_after depth k) e)))

pub nesting_64 : (sheet : Sheet) → check_nesting sheet.kinds ≡ Ok tt → deepest sheet ≤ 64
unfolding check_nesting
nesting_64 sheet fine = nested_64 sheet sheet.kinds 0 0 0 (λ i. ap (token sheet) (omega arith)) fine (omega arith)
