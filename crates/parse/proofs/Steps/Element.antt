-- `element`, 14.3.3: each way out of it.
-- Assumes nothing.
use Rattle.std.specs.Prelude.{Ok, Err}
use Prim.Native.Nat.{ℕ, ◌+◌}
use mathlib.Core.Path.{◌≡◌, refl, sym, ◌∙◌}
use mathlib.Core.List.{List}
use native.Mathlib.Omega.{arith}
use lib.ListN.{get_or}
use Rattle.tokens.specs.declared.cause.Cause.{Cause}
use Rattle.rows.specs.Row as Row
use Rattle.rows.proofs.Rows.{count_join}
use Rattle.grammar.specs.Job.{assignment, binding, binding_element}
use Rattle.build.specs.Post.{Room, Met, Topped}
use Rattle.build.specs.declared.cursor.Cursor.{Cursor}
use Rattle.build.proofs.Rules.{element_fails, element_bare, element_init_fails, element_init}
use Rattle.build.proofs.Ends.{is_done, is_fail, single}
use Rattle.build.proofs.Makes.{made_then, unmade_after, count_one, is_topped}

module _ {ks fs r₀ s₀ m₀ : List ℕ} {c : Cursor} (room : Room ks r₀ s₀ c) where
  pub element_refused : {r s m : List ℕ} {p : Cause} → Met ks fs r₀ s₀ m₀ r s m (binding c.at) c.rows c.records (Err p)
      → Met ks fs r₀ s₀ m₀ r s m (binding_element c.at) c.rows c.records (Err p)
  element_refused h = let f = h.fail_at _ refl in is_fail refl record { comes = element_fails f.comes; unmade = f.unmade }

  pub element_stops : {r s m : List ℕ} {d : Cursor} {y : ℕ} → Met ks fs r₀ s₀ m₀ r s m (binding c.at) c.rows c.records (Ok d) → y ≡ get_or ks d.at 0 → (y ≡ 63 → ⊥)
      → Met ks fs r₀ s₀ m₀ r s m (binding_element c.at) c.rows c.records (Ok d)
  element_stops h k t =
      let a = h.done_to _ refl in
      is_done refl record { trees = a.trees; records = a.records; comes = element_bare a.comes (λ q. t (k ∙ q)); made = a.made }

  pub element_fails_after : {r₁ s₁ m₁ r s m : List ℕ} {d : Cursor} {p : Cause} {y : ℕ} → Met ks fs r₀ s₀ m₀ r₁ s₁ m₁ (binding c.at) c.rows c.records (Ok d)
      → y ≡ get_or ks d.at 0 → y ≡ 63 → Met ks fs r₁ s₁ m₁ r s m (assignment (d.at + 1)) d.rows d.records (Err p)
      → Met ks fs r₀ s₀ m₀ r s m (binding_element c.at) c.rows c.records (Err p)
  element_fails_after h k t h' =
      let a = h.done_to _ refl in
      let f = h'.fail_at _ refl in
      is_fail refl record {
        comes = element_init_fails a.comes (sym k ∙ t) f.comes;
        unmade = unmade_after (omega (arith, room)) (omega (arith, room)) a.made f.unmade;
      }

  pub element_done : {r₁ s₁ m₁ r₂ r s m : List ℕ} {d e u : Cursor} {y : ℕ} → Met ks fs r₀ s₀ m₀ r₁ s₁ m₁ (binding c.at) c.rows c.records (Ok d)
      → y ≡ get_or ks d.at 0 → y ≡ 63 → Met ks fs r₁ s₁ m₁ r₂ s m (assignment (d.at + 1)) d.rows d.records (Ok e)
      → Topped r₂ e Row.BindingDefault d.at c.at e.at 2 c.rows r u → Met ks fs r₀ s₀ m₀ r s m (binding_element c.at) c.rows c.records (Ok u)
  element_done h k t h' top =
      let a = h.done_to _ refl in
      let b = h'.done_to _ refl in
      let one_a = count_one _ _ (single _ a refl) in
      let one_b = count_one _ _ (single _ b refl) in
      is_topped top (element_init a.comes (sym k ∙ t) b.comes) (made_then a.made b.made) (omega (arith, one_a, one_b, count_join a.trees b.trees))
