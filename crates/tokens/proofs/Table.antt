-- A rule of a table, proved at all of its entries, or at each number of a range, by one test that antt computes, one after the other.
-- Assumes nothing.
use Rattle.std.proofs.Common.{◌≡◌, ℕ, zero, suc, ◌+◌, ◌-◌, ◌≤◌, ◌<◌, Bool, true, false, List, [], ◌∷◌, length, get_or, arith, ap, ◌∙◌, sym}
use mathlib.Core.Path.{subst}
use native.Mathlib.Nat.{add-zero, zero-add, add-suc, suc-add, le_of_suc-le-suc, not-suc-le-zero}
use lib.Dec.{T}
use Rattle.tokens.specs.Bool.{◌and◌}
use Rattle.std.specs.List.{list_all, range_with_len}
use Rattle.std.proofs.lemmas.List.Sums.{AllPass-from_list_all}
use Rattle.std.proofs.lemmas.List.FromFn.{length-range_with_len, get_or-range_with_len}

-- a test that passes at each of the n numbers from a on passes at any of them
pub in_range : (test : ℕ → Bool) (a n : ℕ) → list_all test (range_with_len a n) ≡ true → (k : ℕ) → a ≤ k → k < a + n → test k ≡ true
in_range test a n all k low high =
    let i : k - a < n = omega arith in
    let e : a + (k - a) ≡ k = omega arith in
    ap test (sym (get_or-range_with_len a n (k - a) 0 i ∙ e)) ∙ AllPass-from_list_all test (range_with_len a n) all (k - a) 0 (rw length-range_with_len i)

left : (a b : Bool) → T (a and b) → T a
left true b t = tt
left false b t = t

right : (a b : Bool) → T (a and b) → T b
right true b t = t
right false b t = absurd t

-- the test passes at each entry of the list with its place, counted from i
abbrev pub every : (ℕ → ℕ → Bool) → ℕ → List ℕ → Bool
every test i [] = true
every test i (x ∷ xs) = test i x and every test (suc i) xs

from : (test : ℕ → ℕ → Bool) (xs : List ℕ) (i : ℕ) → T (every test i xs) → (k : ℕ) → k < length xs → T (test (i + k) (get_or xs k 0))
from test [] i t k h = absurd (not-suc-le-zero h)
from test (x ∷ xs) i t zero h = subst (λ (m : ℕ). T (test m x)) (sym (add-zero i)) (left (test i x) (every test (suc i) xs) t)
from test (x ∷ xs) i t (suc k) h =
    subst (λ (m : ℕ). T (test m (get_or xs k 0))) (suc-add i k ∙ sym (add-suc i k))
    (from test xs (suc i) (right (test i x) (every test (suc i) xs) t) k (le_of_suc-le-suc h))

-- so it passes at each entry
pub entry : (test : ℕ → ℕ → Bool) (xs : List ℕ) → T (every test 0 xs) → (k : ℕ) → k < length xs → T (test k (get_or xs k 0))
entry test xs t k h = subst (λ (m : ℕ). T (test m (get_or xs k 0))) (zero-add k) (from test xs 0 t k h)
