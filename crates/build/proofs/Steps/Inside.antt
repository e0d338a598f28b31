-- `inside`: each way out of it, and the two cases of a contract with a closing token.
-- Assumes nothing.
use Rattle.std.specs.Prelude.{Ok, Err}
use Prim.Native.Nat.{ℕ, ◌+◌}
use mathlib.Core.Path.{◌≡◌, refl, sym, ◌∙◌}
use mathlib.Core.List.{List}
use native.Mathlib.Omega.{arith}
use lib.ListN.{get_or}
use Rattle.tokens.specs.declared.cause.Cause.{Cause}
use Rattle.grammar.specs.Job.{Job, expression}
use Rattle.build.specs.Post.{cursor, Room, ReadTo, Met, ClosedTo, not_read, no_token, NotClosedAt, MetClosed, Step}
use Rattle.build.specs.declared.cursor.Cursor.{Cursor}
use Rattle.build.proofs.Results.{at_ok, at_err, not_ok, not_err}
use Rattle.build.proofs.Makes.{made_at, unmade_past}

module _ {ks fs r₀ s₀ m₀ r s m : List ℕ} {job : Job} {close : ℕ} {cause_at : ℕ → Cause} {n k : ℕ} where
  -- a step that is done, and one that fails
  is_closed : {d : Cursor} {x : Step} → x ≡ Ok d → ClosedTo ks fs r₀ s₀ m₀ r s m job close n k d → MetClosed ks fs r₀ s₀ m₀ r s m job close cause_at n k x
  is_closed e h = record { closed_to = at_ok _ e h; closed_fail = not_err _ e }

  is_not_closed : {p : Cause} {x : Step} → x ≡ Err p → NotClosedAt ks fs r₀ s₀ m₀ r s m job close cause_at n k p → MetClosed ks fs r₀ s₀ m₀ r s m job close cause_at n k x
  is_not_closed e h = record { closed_to = not_ok _ e; closed_fail = at_err _ e h }

module _ {ks fs r₀ s₀ m₀ r s m : List ℕ} {c : Cursor} {close : ℕ} (room : Room ks r₀ s₀ c) where
  pub inside_fails : {x : Step} {p : Cause} → Met ks fs r₀ s₀ m₀ r s m (expression (c.at + 1)) c.rows c.records x → x ≡ Err p
      → MetClosed ks fs r₀ s₀ m₀ r s m (expression (c.at + 1)) close Cause.Unexpected c.rows c.records x
  inside_fails h e = let f = h.fail_at _ e in is_not_closed e record { why = not_read f.comes; unmade = f.unmade }

  pub inside_opens : {x : Step} {d : Cursor} {y : ℕ} → Met ks fs r₀ s₀ m₀ r s m (expression (c.at + 1)) c.rows c.records x → x ≡ Ok d
      → y ≡ get_or ks d.at 0 → (y ≡ close → ⊥)
      → MetClosed ks fs r₀ s₀ m₀ r s m (expression (c.at + 1)) close Cause.Unexpected c.rows c.records (Err (Cause.Unexpected d.at))
  inside_opens h e k t =
      let a = h.done_to _ e in
      is_not_closed refl record { why = no_token _ _ _ a.comes (λ q. t (k ∙ q)) refl; unmade = unmade_past (omega (arith, room)) (omega (arith, room)) a.made }

  pub inside_done : {x : Step} {d : Cursor} {y : ℕ} → Met ks fs r₀ s₀ m₀ r s m (expression (c.at + 1)) c.rows c.records x → x ≡ Ok d
      → y ≡ get_or ks d.at 0 → y ≡ close
      → MetClosed ks fs r₀ s₀ m₀ r s m (expression (c.at + 1)) close Cause.Unexpected c.rows c.records (Ok (cursor (d.at + 1) d.rows d.records))
  inside_done h e k t =
      let a = h.done_to _ e in
      is_closed refl record { end = _; trees = _; records = _; comes = a.comes; token = sym k ∙ t; past = refl; made = made_at a.made refl refl }

-- what stands before the closing token, as it was read
abbrev pub closed_read : {ks fs r₀ s₀ m₀ r s m : List ℕ} {job : Job} {close n k : ℕ} {d : Cursor} (g : ClosedTo ks fs r₀ s₀ m₀ r s m job close n k d)
    → ReadTo ks fs r₀ s₀ m₀ r s m job n k (cursor g.end d.rows d.records)
closed_read g = record { trees = g.trees; records = g.records; comes = g.comes; made = made_at g.made refl refl }
