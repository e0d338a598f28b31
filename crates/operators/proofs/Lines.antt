-- A table of lines at a kind that no line has.
-- Assumes nothing.
use Rattle.std.specs.Prelude.{None}
use Prim.Native.Nat.{ℕ}
use mathlib.Core.Path.{◌≡◌, refl}
use mathlib.Core.List.{List, [], ◌∷◌}
use borrow.Author.Tests.{ne_eqb}
use Rattle.operators.specs.Operator.{Line, ◌means◌, look_up}

-- P, and the kind is that of no line: what a `match` over the lines' kinds knows in its last arm
abbrev pub Others : {A : Type 0} → Type 0 → List (Line A) → ℕ → Type 0
Others P [] k = P
Others P ((a means x) ∷ lines) k = Others (P × (k ≡ a → ⊥)) lines k

held : {A : Type 0} (P : Type 0) (lines : List (Line A)) (k : ℕ) → Others P lines k → P
held P [] k h = h
held P ((a means x) ∷ lines) k h = (held (P × (k ≡ a → ⊥)) lines k h).0

pub no_line : {A : Type 0} (P : Type 0) (lines : List (Line A)) (k : ℕ) → Others P lines k → look_up lines k ≡ None
unfolding look_up
no_line P [] k h = refl
no_line P ((a means x) ∷ lines) k h = rw (ne_eqb k a (held (P × (k ≡ a → ⊥)) lines k h).1) (no_line (P × (k ≡ a → ⊥)) lines k h)
