-- `primary`, 13.2: each way out of it.
-- Assumes nothing.
use Rattle.std.specs.Prelude.{Ok, Err, None}
use Prim.Native.Nat.{ℕ, ◌+◌}
use mathlib.Core.Path.{◌≡◌, refl, sym, ap, subst, ◌∙◌}
use mathlib.Core.List.{List}
use lib.ListN.{get_or}
use Rattle.tokens.specs.declared.cause.Cause.{Cause}
use Rattle.rows.specs.Tree.{node, nil, one}
use Rattle.rows.specs.Row as Row
use Rattle.grammar.specs.Sheet.{done}
use Rattle.grammar.specs.Job.{expression, primary, elements, properties}
use Rattle.build.specs.Post.{Room, Comes, Met, MetClosed, Topped}
use Rattle.heads.specs.Singles.{single_row}
use Rattle.build.specs.declared.cursor.Cursor.{Cursor}
use Rattle.build.specs.Post.{Step}
use Rattle.build.proofs.Rules.{primary_paren_fails, primary_paren_open, primary_paren, primary_array, primary_object, primary_none}
use Rattle.build.proofs.Ends.{is_fail, single}
use Rattle.build.proofs.Makes.{unmade_none, count_one, is_topped}
use Rattle.build.proofs.Steps.Inside.{closed_read}
use Rattle.parse.proofs.Steps.Binding.{met_as}
use Rattle.parse.proofs.Steps.Rest.{not_closed}
use Rattle.parse.proofs.Steps.Singles.{no_single}

module _ {ks fs r₀ s₀ m₀ : List ℕ} {c : Cursor} {y : ℕ} (room : Room ks r₀ s₀ c) (k : y ≡ get_or ks c.at 0) where
  pub primary_refuses : {r s m : List ℕ} {p : Cause} → y ≡ 18 → MetClosed ks fs r₀ s₀ m₀ r s m (expression (c.at + 1)) 19 Cause.Unexpected c.rows c.records (Err p)
      → Met ks fs r₀ s₀ m₀ r s m (primary c.at) c.rows c.records (Err p)
  primary_refuses t h =
      let f = h.closed_fail _ refl in
      is_fail refl record { comes = not_closed (λ q. primary_paren_fails (sym k ∙ t)) (λ i ts rs. primary_paren_open (sym k ∙ t)) f.why; unmade = f.unmade }

  pub primary_parens : {r₁ r s m : List ℕ} {d u : Cursor} → y ≡ 18
      → MetClosed ks fs r₀ s₀ m₀ r₁ s m (expression (c.at + 1)) 19 Cause.Unexpected c.rows c.records (Ok d)
      → Topped r₁ d Row.Paren c.at c.at d.at 1 c.rows r u
      → Met ks fs r₀ s₀ m₀ r s m (primary c.at) c.rows c.records (Ok u)
  primary_parens {m = m} {d = d} t h top =
      let g = h.closed_to _ refl in
      is_topped top (subst (λ (q : ℕ). Comes ks fs (primary c.at) m₀ (done q (one (node Row.Paren c.at c.at q g.trees)) g.records m)) (sym g.past) (primary_paren (sym k ∙ t) g.comes g.token)) g.made
      (sym (count_one _ _ (single _ (closed_read g) refl)))

  pub primary_arrays : {r s m : List ℕ} {x : Step} → y ≡ 20 → Met ks fs r₀ s₀ m₀ r s m (elements c.at (c.at + 1) Row.Array nil) c.rows c.records x
      → Met ks fs r₀ s₀ m₀ r s m (primary c.at) c.rows c.records x
  primary_arrays t h = met_as (λ out a. primary_array (sym k ∙ t) a) h

  pub primary_objects : {r s m : List ℕ} {x : Step} → y ≡ 22 → Met ks fs r₀ s₀ m₀ r s m (properties c.at (c.at + 1) Row.Object nil) c.rows c.records x
      → Met ks fs r₀ s₀ m₀ r s m (primary c.at) c.rows c.records x
  primary_objects t h = met_as (λ out a. primary_object (sym k ∙ t) a) h

  pub primary_nones : None ≡ single_row y → (y ≡ 18 → ⊥) → (y ≡ 20 → ⊥) → (y ≡ 22 → ⊥)
      → Met ks fs r₀ s₀ m₀ r₀ s₀ m₀ (primary c.at) c.rows c.records (Err (Cause.Unexpected c.at))
  primary_nones n a b d =
      let e = no_single (get_or ks c.at 0) (ap single_row (sym k) ∙ sym n) in
      is_fail refl record { comes = primary_none e.0 e.1 e.2 (λ q. a (k ∙ q)) (λ q. b (k ∙ q)) (λ q. d (k ∙ q)); unmade = unmade_none }
