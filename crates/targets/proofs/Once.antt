-- One answer for each input: any two results that a contract allows coincide. One law for each public function.
-- Assumes nothing.
use Prim.Native.Nat.{ℕ}
use mathlib.Core.Path.{◌≡◌, refl, sym, ◌∙◌}
use mathlib.Core.List.{List}
use Rattle.rows.specs.Tree.{Tree}
use Rattle.rows.specs.Record.{Record}
use Rattle.conversion.specs.Conversion.{Outcome, turned, refused, Role, convert_as}
use Rattle.targets.specs.Post.{Subtree, Made, RowConverted}
use Rattle.targets.specs.Outcome.{Conversion}

made_once : {before after r₀ : List ℕ} {t : Tree} {start : ℕ} {records : List Record} {rows₁ rows₂ r₁ r₂ : List ℕ} → Made before after r₀ t start records rows₁ r₁
    → Made before after r₀ t start records rows₂ r₂ → (rows₁ ≡ rows₂) × (r₁ ≡ r₂)
made_once g h = (g.text ∙ sym h.text, g.filled.text ∙ sym h.filled.text)

-- convert_row, at any row that is the root of a tree
pub converted_once : {rows₀ r₀ : List ℕ} {root : ℕ} {role : Role} {used : ℕ} {rows₁ rows₂ r₁ r₂ : List ℕ} {x y : Conversion} → Subtree rows₀ root
    → RowConverted rows₀ r₀ root role used rows₁ r₁ x → RowConverted rows₀ r₀ root role used rows₂ r₂ y → (x ≡ y) × (rows₁ ≡ rows₂) × (r₁ ≡ r₂)
converted_once {role = role} {rows₁ = rows₁} {rows₂ = rows₂} {r₁ = r₁} {r₂ = r₂} {x = x} {y = y} s g h = go (convert_as s.tree role) refl
  where
    go : (out : Outcome Tree) → convert_as s.tree role ≡ out → (x ≡ y) × (rows₁ ≡ rows₂) × (r₁ ≡ r₂)
    go (turned t rs) q =
        let a = g.done s t rs q in
        let b = h.done s t rs q in
        let m = made_once a.1 b.1 in
        (a.0 ∙ sym b.0, m.0, m.1)
    go (refused c) q =
        let a = g.fail s c q in
        let b = h.fail s c q in
        (a.0 ∙ sym b.0, a.1 ∙ sym b.1, a.2 ∙ sym b.2)
