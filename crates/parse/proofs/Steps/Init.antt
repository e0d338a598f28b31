-- `init`: each way out of it.
-- Assumes nothing.
use Rattle.std.specs.Prelude.{Ok, Err}
use Prim.Native.Nat.{ℕ, ◌+◌, ◌-◌}
use mathlib.Core.Path.{◌≡◌, refl, sym, ap, subst}
use mathlib.Core.List.{List}
use Rattle.tokens.specs.declared.cause.Cause.{Cause}
use Rattle.grammar.specs.Job.{assignment}
use Rattle.build.specs.Post.{Room, Met, MetInit, Topped}
use Rattle.build.specs.declared.cursor.Cursor.{Cursor}
use Rattle.build.proofs.Results.{at_ok, not_ok, not_err}

module _ {ks fs r₀ s₀ m₀ : List ℕ} {c : Cursor} {kind from : ℕ} (room : Room ks r₀ s₀ c) where
  pub init_fails : {r s m : List ℕ} {p : Cause} → Met ks fs r₀ s₀ m₀ r s m (assignment (c.at + 1)) c.rows c.records (Err p)
      → MetInit ks fs r₀ s₀ m₀ r s m c.at kind from c.rows c.records (Err p)
  init_fails {p = p} h = record { init_to = not_ok {x = Err p} _ refl; init_fail = h.fail_at }

  pub init_done : {r₁ r s m : List ℕ} {d u : Cursor} → Met ks fs r₀ s₀ m₀ r₁ s m (assignment (c.at + 1)) c.rows c.records (Ok d)
      → Topped r₁ d kind c.at (c.at - 1) d.at 2 from r u
      → MetInit ks fs r₀ s₀ m₀ r s m c.at kind from c.rows c.records (Ok u)
  init_done {r₁} {r} {d = d} {u} h top =
      let a = h.done_to _ refl in
      let end : d.at ≡ u.at = sym (ap (λ (q : Cursor). q.at) top.is) in
      let over_name = subst (λ (p : ℕ). Topped r₁ d kind c.at (c.at - 1) p 2 from r u) end top in
      record {
        init_to = at_ok {x = Ok u} _ refl (record { trees = a.trees; records = a.records; comes = rw (← end) a.comes; rows = r₁; before = d; made = a.made; topped = over_name });
        init_fail = not_err {x = Ok u} _ refl;
      }
