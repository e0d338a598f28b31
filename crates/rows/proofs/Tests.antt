-- Laws of tests: what holds of both branches holds of the branch that a test picks, and what `and` says.
-- Assumes nothing.
use Rattle.std.specs.Prelude.{if◌then◌else◌}
use Prim.Native.Nat.{ℕ, ◌≤◌, ◌<◌}
use mathlib.Core.Path.{◌≡◌, refl}
use mathlib.Core.Bool.{Bool, true, false}
use native.Mathlib.Omega.{arith}
use native.Mathlib.Decide.{dec_lt}
use lib.Dec.{ltb}
use borrow.Author.Tests.{lt-ltb, le-ltb}
use Rattle.tokens.specs.Bool.{◌and◌}

-- what holds of x where m < n, and of y where not, holds of what the test picks
pub by_test : {A : Type 0} (P : A → Type 0) (m n : ℕ) {x y : A} → (m < n → P x) → (n ≤ m → P y) → P (if ltb m n then x else y)
by_test P m n {x} {y} f g = go (dec_lt m n)
  where
    go : Dec (m < n) → P (if ltb m n then x else y)
    go (yes l) = rw (lt-ltb m n l) (f l)
    go (no l) = let past : n ≤ m = omega arith in rw (le-ltb m n past) (g past)

pub and_left : (a b : Bool) → (a and b) ≡ true → a ≡ true
and_left true b h = refl
and_left false b h = h

pub and_right : (a b : Bool) → (a and b) ≡ true → b ≡ true
and_right true b h = h
and_right false b h = let e : false ≡ true = h in cc

pub and_both : (a b : Bool) → a ≡ true → b ≡ true → (a and b) ≡ true
and_both a b h k = rw (h, k)
