-- One answer for each input: any two results that a contract allows coincide.
-- Assumes nothing.
use Prim.Native.Nat.{ℕ}
use mathlib.Core.Path.{◌≡◌, refl, sym, ap, ◌∙◌}
use mathlib.Core.List.{List}
use Rattle.grammar.specs.Arrow as Grammar
use Rattle.heads.specs.Heads.{way_at, way_of, Dropped}
use Rattle.heads.specs.declared.Way.{Way}

-- the way back from the definition's ways
way_back : Grammar.Way → Way
way_back Grammar.pass = Way.Pass
way_back Grammar.attempt = Way.Attempt
way_back Grammar.commit = Way.Commit

way_known : (w : Way) → way_back (way_of w) ≡ w
unfolding way_back way_of
way_known Way.Pass = refl
way_known Way.Attempt = refl
way_known Way.Commit = refl

-- way_at
pub way_once : (kinds flags notes : List ℕ) (at : ℕ) {v w : Way} → way_of v ≡ way_at kinds flags notes at → way_of w ≡ way_at kinds flags notes at → v ≡ w
way_once kinds flags notes at {v} {w} g h = sym (way_known v) ∙ ap way_back (g ∙ sym h) ∙ way_known w

-- drop_head
pub dropped_once : {m₀ m m' : List ℕ} {at said r r' : ℕ} → Dropped m₀ at said m r → Dropped m₀ at said m' r' → (m ≡ m') × (r ≡ r')
dropped_once g h = (g.noted ∙ sym h.noted, g.records ∙ sym h.records)
