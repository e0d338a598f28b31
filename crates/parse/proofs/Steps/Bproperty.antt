-- `bproperty`, 14.3.3: each way out of it.
-- Assumes nothing.
use Rattle.std.specs.Prelude.{Ok, Err}
use Prim.Native.Nat.{ℕ, ◌+◌, ◌-◌}
use mathlib.Core.Path.{◌≡◌, refl, sym, subst, ◌∙◌}
use mathlib.Core.Bool.{true, false}
use mathlib.Core.List.{List}
use native.Mathlib.Omega.{arith}
use lib.ListN.{get_or}
use Rattle.tokens.specs.declared.cause.Cause.{Cause}
use Rattle.rows.specs.Tree.{node, cons, one, join, count}
use Rattle.rows.specs.Row as Row
use Rattle.rows.proofs.Rows.{count_join}
use Rattle.grammar.specs.Sheet.{done, fail, leaf}
use Rattle.grammar.specs.Job.{assignment, key, binding_element, binding_property}
use Rattle.laws.proofs.Bounds.{bounded}
use Rattle.build.specs.Operation.{is_shorthand}
use Rattle.build.specs.Post.{Room, Comes, Met, MetInit, Leafed, Topped}
use Rattle.build.specs.declared.cursor.Cursor.{Cursor}
use Rattle.build.specs.Post.{Step}
use Rattle.build.proofs.Rules.{binding_property_shorthand, binding_property_init_fails, binding_property_init, binding_property_key_fails, binding_property_no_colon}
use Rattle.build.proofs.Rules.{binding_property_value_fails, binding_property_done}
use Rattle.build.proofs.Ends.{is_fail, single}
use Rattle.build.proofs.Makes.{made_leaf, made_then, made_top, unmade_past, unmade_after, count_one, is_topped}
use Rattle.parse.proofs.Steps.Cursors.{leafed_now}

module _ {ks fs r₀ s₀ m₀ : List ℕ} {c : Cursor} (room : Room ks r₀ s₀ c) where
  pub bproperty_shorthands : {r₁ r : List ℕ} {d u : Cursor} {y : ℕ} → true ≡ is_shorthand ks c.at → Leafed r₀ c Row.BindingName r₁ d → y ≡ get_or ks (c.at + 1) 0 → (y ≡ 63 → ⊥)
      → Topped r₁ d Row.BindingShorthand c.at c.at (c.at + 1) 1 c.rows r u
      → Met ks fs r₀ s₀ m₀ r s₀ m₀ (binding_property c.at) c.rows c.records (Ok u)
  unfolding count
  bproperty_shorthands t low k o top = is_topped top (binding_property_shorthand (sym t) (λ q. o (k ∙ q))) (made_leaf low) refl

  pub bproperty_inits : {r₁ r s m : List ℕ} {x : Step} {d : Cursor} {y : ℕ} → true ≡ is_shorthand ks c.at → Leafed r₀ c Row.BindingName r₁ d → y ≡ get_or ks (c.at + 1) 0 → y ≡ 63
      → MetInit ks fs r₁ s₀ m₀ r s m d.at Row.BindingShorthandInit c.rows d.rows d.records x
      → Met ks fs r₀ s₀ m₀ r s m (binding_property c.at) c.rows c.records x
  unfolding count join
  bproperty_inits {r = r} {m = m} {d = d} t low k o h =
      let now = leafed_now low in
      let past : d.at + 1 ≡ c.at + 2 = omega (arith, now) in
      let back : d.at - 1 ≡ c.at = omega (arith, now) in
      record {
        done_to = λ e q.
            let i = h.init_to e q in
            let over_name = subst (λ (p : ℕ). Topped i.rows i.before Row.BindingShorthandInit (c.at + 1) p e.at 2 c.rows r e) back
            (subst (λ (p : ℕ). Topped i.rows i.before Row.BindingShorthandInit p (d.at - 1) e.at 2 c.rows r e) now.at_is i.topped) in
            record {
              trees = one (node Row.BindingShorthandInit (c.at + 1) c.at e.at (cons (leaf Row.BindingName c.at) i.trees));
              records = i.records;
              comes = binding_property_init (sym t) (sym k ∙ o) (subst (λ (p : ℕ). Comes ks fs (assignment p) m₀ (done e.at i.trees i.records m)) past i.comes);
              made = made_top (made_then (made_leaf low) i.made) over_name (omega (arith, count_one _ _ (bounded i.comes.settles).single));
            };
        fail_at = λ p q.
            let f = h.init_fail p q in
            record {
              comes = binding_property_init_fails (sym t) (sym k ∙ o) (subst (λ (w : ℕ). Comes ks fs (assignment w) m₀ (fail p m)) past f.comes);
              unmade = unmade_after (omega (arith, room)) (omega (arith, room)) (made_leaf low) f.unmade;
            };
      }

  pub bproperty_refuses : {r s m : List ℕ} {p : Cause} → false ≡ is_shorthand ks c.at → Met ks fs r₀ s₀ m₀ r s m (key c.at) c.rows c.records (Err p)
      → Met ks fs r₀ s₀ m₀ r s m (binding_property c.at) c.rows c.records (Err p)
  bproperty_refuses t h = let f = h.fail_at _ refl in is_fail refl record { comes = binding_property_key_fails (sym t) f.comes; unmade = f.unmade }

  pub bproperty_opens : {r s m : List ℕ} {d : Cursor} {y : ℕ} → false ≡ is_shorthand ks c.at → Met ks fs r₀ s₀ m₀ r s m (key c.at) c.rows c.records (Ok d) → y ≡ get_or ks d.at 0
      → (y ≡ 25 → ⊥) → Met ks fs r₀ s₀ m₀ r s m (binding_property c.at) c.rows c.records (Err (Cause.Unexpected d.at))
  bproperty_opens t h k o =
      let a = h.done_to _ refl in
      is_fail refl record { comes = binding_property_no_colon (sym t) a.comes (λ q. o (k ∙ q)); unmade = unmade_past (omega (arith, room)) (omega (arith, room)) a.made }

  pub bproperty_fails_after : {r₁ s₁ m₁ r s m : List ℕ} {d : Cursor} {p : Cause} {y : ℕ} → false ≡ is_shorthand ks c.at → Met ks fs r₀ s₀ m₀ r₁ s₁ m₁ (key c.at) c.rows c.records (Ok d)
      → y ≡ get_or ks d.at 0 → y ≡ 25 → Met ks fs r₁ s₁ m₁ r s m (binding_element (d.at + 1)) d.rows d.records (Err p)
      → Met ks fs r₀ s₀ m₀ r s m (binding_property c.at) c.rows c.records (Err p)
  bproperty_fails_after t h k o h' =
      let a = h.done_to _ refl in
      let f = h'.fail_at _ refl in
      is_fail refl record {
        comes = binding_property_value_fails (sym t) a.comes (sym k ∙ o) f.comes;
        unmade = unmade_after (omega (arith, room)) (omega (arith, room)) a.made f.unmade;
      }

  pub bproperty_dones : {r₁ s₁ m₁ r₂ r s m : List ℕ} {d e u : Cursor} {y : ℕ} → false ≡ is_shorthand ks c.at → Met ks fs r₀ s₀ m₀ r₁ s₁ m₁ (key c.at) c.rows c.records (Ok d)
      → y ≡ get_or ks d.at 0 → y ≡ 25 → Met ks fs r₁ s₁ m₁ r₂ s m (binding_element (d.at + 1)) d.rows d.records (Ok e)
      → Topped r₂ e Row.Property c.at c.at e.at 2 c.rows r u → Met ks fs r₀ s₀ m₀ r s m (binding_property c.at) c.rows c.records (Ok u)
  bproperty_dones t h k o h' top =
      let a = h.done_to _ refl in
      let g = h'.done_to _ refl in
      let one_a = count_one _ _ (single _ a refl) in
      let one_g = count_one _ _ (single _ g refl) in
      is_topped top (binding_property_done (sym t) a.comes (sym k ∙ o) g.comes) (made_then a.made g.made) (omega (arith, one_a, one_g, count_join a.trees g.trees))
