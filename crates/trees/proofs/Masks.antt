-- Laws of sets of kinds in numbers: the bits of a mask are its kinds, and the table of shapes in numbers.
-- Assumes nothing.
use Rattle.std.specs.Prelude.{if◌then◌else◌}
use Prim.Native.Nat.{ℕ, zero, suc, ◌+◌, ◌*◌, ◌/◌, ◌%◌, ◌^◌, ◌<◌}
use mathlib.Core.Path.{◌≡◌, sym, ap, ◌∙◌}
use mathlib.Core.Bool.{Bool, true, false}
use native.Mathlib.Omega.{arith}
use native.Mathlib.Nat.{div-div-eq-div-mul, pow-succ', not-suc-le-zero, le_of_suc-le-suc, add-zero}
use lib.Dec.{eqb}
use Rattle.rows.specs.Mask.{has, bits, mask}

bit_first : (b : Bool) (x : ℕ) → has ((if b then 1 else 0) + 2 * x) 0 ≡ b
unfolding has
bit_first true x = let e : (1 + 2 * x) / 1 % 2 ≡ 1 = omega arith in rw e
bit_first false x = let e : (0 + 2 * x) / 1 % 2 ≡ 0 = omega arith in rw e

bit_next : (b : Bool) (x i : ℕ) → has ((if b then 1 else 0) + 2 * x) (suc i) ≡ has x i
unfolding has
bit_next b x i =
    let h : (b : Bool) → ((if b then 1 else 0) + 2 * x) / 2 ≡ x = λ b. elim b as (λ b. ((if b then 1 else 0) + 2 * x) / 2 ≡ x) [ true ↦ omega arith | false ↦ omega arith ] in
    ap (λ (n : ℕ). eqb (n % 2) 1) (ap (λ (n : ℕ). ((if b then 1 else 0) + 2 * x) / n) (pow-succ' 2 i) ∙ sym (div-div-eq-div-mul ((if b then 1 else 0) + 2 * x) 2 (2 ^ i)) ∙ ap (λ (n : ℕ). n / 2 ^ i) (h b))

has_bits : (kinds : ℕ → Bool) (n k i : ℕ) → i < n → has (bits kinds n k) i ≡ kinds (k + i)
unfolding bits
has_bits kinds zero k i h = absurd (not-suc-le-zero h)
has_bits kinds (suc n) k zero h = bit_first (kinds k) (bits kinds n (k + 1)) ∙ ap kinds (sym (add-zero k))
has_bits kinds (suc n) k (suc i) h =
    bit_next (kinds k) (bits kinds n (k + 1)) i
    ∙ has_bits kinds n (k + 1) i (le_of_suc-le-suc h)
    ∙ ap kinds (let e : k + 1 + i ≡ k + suc i = omega arith in e)

-- the bits of a mask are its kinds
pub has_mask : (kinds : ℕ → Bool) (k : ℕ) → k < 64 → has (mask kinds) k ≡ kinds k
unfolding mask
has_mask kinds k h = has_bits kinds 64 0 k h ∙ ap kinds (let e : 0 + k ≡ k = omega arith in e)
