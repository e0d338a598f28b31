-- A check that goes through a list, seen from a place inside it: what is found from there on. One law for each way through the loop.
-- Assumes nothing.
use Rattle.std.proofs.Common.{Ok, Err}
use Prim.Native.Nat.{ℕ, ◌+◌, ◌≤◌, ◌<◌}
use mathlib.Core.Path.{◌≡◌, refl, sym, ◌∙◌}
use mathlib.Core.Bool.{Bool, true, false}
use mathlib.Core.List.{List}
use native.Mathlib.Numerals.{add-one}
use native.Mathlib.Omega.{arith}
use lib.ListN.{length, get_or, drop, drop_of_length-le}
use lib.Seq.{drop-cons}
use Rattle.tokens.specs.Check.{first_such}
use Rattle.tokens.specs.declared.cause.Cause.{Cause}

-- nothing is found before the place i
pub record Passed (test : ℕ → Bool) (cause : ℕ → Cause) (xs : List ℕ) (i : ℕ) : Type 0 where
  pub inside : i ≤ length xs
  pub same : first_such test cause 0 xs ≡ first_such test cause i (drop i xs)

module _ {test : ℕ → Bool} {cause : ℕ → Cause} {xs : List ℕ} where
  pub starts : Passed test cause xs 0
  starts = record { inside = omega arith; same = refl }

  pub finds : {i : ℕ} → Passed test cause xs i → i < length xs → test (get_or xs i 0) ≡ true → Err (cause i) ≡ first_such test cause 0 xs
  unfolding first_such
  finds {i} p h t = sym (p.same ∙ rw (drop-cons xs i 0 h, t))

  pub passes : {i : ℕ} → Passed test cause xs i → i < length xs → test (get_or xs i 0) ≡ false → Passed test cause xs (i + 1)
  unfolding first_such
  passes {i} p h t = record { inside = omega arith; same = p.same ∙ rw (drop-cons xs i 0 h, t, add-one i) }

  pub ends : {i : ℕ} → Passed test cause xs i → length xs ≤ i → Ok tt ≡ first_such test cause 0 xs
  unfolding first_such
  ends p h = sym (p.same ∙ rw (drop_of_length-le xs h))
