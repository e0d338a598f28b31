-- A result that is known by one equation: what holds of its value holds of each value that it is said to have.
-- Assumes nothing.
use Rattle.std.specs.Prelude.{Result, Ok, Err}
use mathlib.Core.Path.{◌≡◌, subst}

module _ {D E : Type 0} {x : Result D E} where
  pub at_ok : (P : D → Type 0) {d : D} → x ≡ Ok d → P d → (d' : D) → x ≡ Ok d' → P d'
  at_ok P {d} e h d' q = let w : d ≡ d' = cc in subst P w h

  pub at_err : (P : E → Type 0) {p : E} → x ≡ Err p → P p → (p' : E) → x ≡ Err p' → P p'
  at_err P {p} e h p' q = let w : p ≡ p' = cc in subst P w h

  pub not_ok : (P : D → Type 0) {p : E} → x ≡ Err p → (d : D) → x ≡ Ok d → P d
  not_ok P e d q = absurd (cc)

  pub not_err : (P : E → Type 0) {d : D} → x ≡ Ok d → (p : E) → x ≡ Err p → P p
  not_err P e p q = absurd (cc)
