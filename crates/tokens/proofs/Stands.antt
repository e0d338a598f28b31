-- A token that is not 0 stands before the end.
-- Assumes nothing.
use Prim.Native.Nat.{ℕ, suc, ◌<◌}
use mathlib.Core.Path.{◌≡◌}
use mathlib.Core.List.{List}
use native.Mathlib.Omega.{arith}
use lib.ListN.{length, get_or, get_or-eq_default}

pub stands_not : (kinds : List ℕ) (at : ℕ) → (get_or kinds at 0 ≡ 0 → ⊥) → at < length kinds
stands_not kinds at h = go (native.Mathlib.Decide.dec_lt at (length kinds))
  where
    go : Dec (at < length kinds) → at < length kinds
    go (yes l) = l
    go (no l) = absurd (h (get_or-eq_default kinds 0 (omega arith)))

pub stands : (kinds : List ℕ) {at k : ℕ} → get_or kinds at 0 ≡ suc k → at < length kinds
stands kinds {at} {k} e = stands_not kinds at (λ z. cc)
