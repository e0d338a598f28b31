-- The way that the box takes at a place, by whether a head may open there and by the three-way answer; and a head opens before the end.
-- Assumes nothing.
use Prim.Native.Nat.{ℕ, ◌<◌}
use mathlib.Core.Path.{◌≡◌}
use mathlib.Core.Bool.{true, false, not}
use mathlib.Core.List.{List}
use native.Mathlib.Omega.{arith}
use lib.ListN.{length, get_or}
use Rattle.tokens.specs.Bool.{◌is◌}
use Rattle.tokens.proofs.Stands.{stands_not}
use Rattle.lookahead.specs.ThreeWay.{three_way}
use Rattle.lookahead.specs.declared.Tristate.{Tristate}
use Rattle.grammar.specs.Arrow.{pass}
use Rattle.grammar.specs.Reading.{way_of}
use Rattle.heads.specs.Heads.{may_open, way_at}

pub closed : (ks fs m : List ℕ) (at : ℕ) → may_open (get_or ks at 0) ≡ false → way_at ks fs m at ≡ pass
unfolding way_at
closed ks fs m at e = rw e

pub opened : (ks fs m : List ℕ) (at : ℕ) (answer : Tristate) → may_open (get_or ks at 0) ≡ true → three_way ks fs false false at ≡ answer
    → way_at ks fs m at ≡ way_of answer (not (get_or m at 0 is 0))
unfolding way_at
opened ks fs m at answer e a = rw (e, a)

pub open_stands : (ks : List ℕ) (at : ℕ) → may_open (get_or ks at 0) ≡ true → at < length ks
unfolding may_open
open_stands ks at e = stands_not ks at (λ z. let y = rw z at e in let w : ◌≡◌ {A = ℕ} 0 1 = cc in omega arith)
