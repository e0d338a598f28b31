-- `spread`, 13.2.4: each way out of it; and `item`, which chooses between it and an assignment expression.
-- Assumes nothing.
use Rattle.std.specs.Prelude.{if◌then◌else◌, Ok, Err}
use Prim.Native.Nat.{ℕ, ◌+◌, ◌≤◌, ◌<◌}
use mathlib.Core.Path.{◌≡◌, refl, sym, subst, ◌∙◌}
use mathlib.Core.Bool.{Bool, true, false}
use mathlib.Core.List.{List}
use native.Mathlib.Omega.{arith}
use lib.ListN.{length, get_or}
use borrow.Author.Tests.{eqb-true}
use Rattle.tokens.specs.Bool.{◌is◌}
use Rattle.tokens.specs.Kind.{Dot3}
use Rattle.tokens.specs.declared.cause.Cause.{Cause}
use Rattle.tokens.proofs.Stands.{stands}
use Rattle.rows.specs.Row as Row
use Rattle.grammar.specs.Job.{assignment, spread}
use Rattle.heads.specs.Singles.{part_start}
use Rattle.build.specs.Post.{Met, Topped}
use Rattle.build.specs.declared.cursor.Cursor.{Cursor}
use Rattle.build.specs.Post.{Step}
use Rattle.build.proofs.Rules.{spread_fails, spread_done}
use Rattle.build.proofs.Ends.{is_fail, single}
use Rattle.build.proofs.Makes.{count_one, is_topped}

module _ {ks fs r₀ s₀ m₀ : List ℕ} {at n k : ℕ} where
  pub spread_refused : {r s m : List ℕ} {p : Cause} → at < length ks → Met ks fs r₀ s₀ m₀ r s m (assignment (at + 1)) n k (Err p)
      → Met ks fs r₀ s₀ m₀ r s m (spread at) n k (Err p)
  spread_refused lt h = let f = h.fail_at _ refl in is_fail refl record { comes = spread_fails lt f.comes; unmade = f.unmade }

  pub spread_read : {r₁ r s m : List ℕ} {d u : Cursor} → at < length ks → Met ks fs r₀ s₀ m₀ r₁ s m (assignment (at + 1)) n k (Ok d)
      → Topped r₁ d Row.Spread at at d.at 1 n r u → Met ks fs r₀ s₀ m₀ r s m (spread at) n k (Ok u)
  spread_read lt h top =
      let a = h.done_to _ refl in
      is_topped top (spread_done lt a.comes) a.made (sym (count_one _ _ (single _ a refl)))

-- how far the dots of a spread take
pub record Starts (ks : List ℕ) (at start : ℕ) : Type 0 where
  pub low : at ≤ start
  pub high : start ≤ at + 1
  pub inside : start ≤ length ks

pub starts : (ks : List ℕ) (at : ℕ) {start : ℕ} → start ≡ part_start ks at → at ≤ length ks → Starts ks at start
unfolding part_start
starts ks at {start} p le = go (get_or ks at 0 is Dot3) refl p
  where
    go : (b : Bool) → get_or ks at 0 is Dot3 ≡ b → start ≡ (if b then at + 1 else at) → Starts ks at start
    go true t e = let st = stands ks (eqb-true _ _ t) in record { low = omega (arith, e); high = omega (arith, e); inside = omega (arith, e, st) }
    go false t e = record { low = omega (arith, e); high = omega (arith, e); inside = omega (arith, e, le) }

start_is : (ks : List ℕ) {start : ℕ} (at : ℕ) → start ≡ part_start ks at → (b : Bool) → get_or ks at 0 is Dot3 ≡ b → start ≡ (if b then at + 1 else at)
unfolding part_start
start_is ks at p b e = p ∙ rw e refl

item_by : {ks fs r₀ s₀ m₀ r s m : List ℕ} {at n k : ℕ} {z : Step} → (get_or ks at 0 is Dot3 ≡ true → Met ks fs r₀ s₀ m₀ r s m (spread at) n k z)
    → (get_or ks at 0 is Dot3 ≡ false → Met ks fs r₀ s₀ m₀ r s m (assignment at) n k z)
    → Met ks fs r₀ s₀ m₀ r s m (if get_or ks at 0 is Dot3 then spread at else assignment at) n k z
item_by {ks} {fs} {r₀} {s₀} {m₀} {r} {s} {m} {at} {n} {k} {z} f g = go (get_or ks at 0 is Dot3) f g
  where
    go : (b : Bool) → (b ≡ true → Met ks fs r₀ s₀ m₀ r s m (spread at) n k z) → (b ≡ false → Met ks fs r₀ s₀ m₀ r s m (assignment at) n k z)
        → Met ks fs r₀ s₀ m₀ r s m (if b then spread at else assignment at) n k z
    go true f g = f refl
    go false f g = g refl

-- an element or an argument: an assignment expression, past the dots if there are any
module _ {ks fs r₀ s₀ m₀ r₁ s₁ m₁ : List ℕ} {n k start : ℕ} (at : ℕ) (p : start ≡ part_start ks at) where
  met_at : {from : ℕ} {x : Step} → Met ks fs r₀ s₀ m₀ r₁ s₁ m₁ (assignment start) n k x → start ≡ from → Met ks fs r₀ s₀ m₀ r₁ s₁ m₁ (assignment from) n k x
  met_at {x = x} h e = subst (λ (q : ℕ). Met ks fs r₀ s₀ m₀ r₁ s₁ m₁ (assignment q) n k x) e h

  pub item_fails : {c : Cause} → Met ks fs r₀ s₀ m₀ r₁ s₁ m₁ (assignment start) n k (Err c)
      → Met ks fs r₀ s₀ m₀ r₁ s₁ m₁ (if get_or ks at 0 is Dot3 then spread at else assignment at) n k (Err c)
  item_fails h = item_by (λ t. spread_refused (stands ks (eqb-true _ _ t)) (met_at h (start_is ks at p true t))) (λ t. met_at h (start_is ks at p false t))

  pub item_plain : {d : Cursor} → Met ks fs r₀ s₀ m₀ r₁ s₁ m₁ (assignment start) n k (Ok d) → start ≡ at
      → Met ks fs r₀ s₀ m₀ r₁ s₁ m₁ (if get_or ks at 0 is Dot3 then spread at else assignment at) n k (Ok d)
  item_plain h e = item_by (λ t. let q = start_is ks at p true t in absurd (omega (arith, q, e))) (λ t. met_at h e)

  pub item_spreads : {r : List ℕ} {d u : Cursor} → Met ks fs r₀ s₀ m₀ r₁ s₁ m₁ (assignment start) n k (Ok d) → (start ≡ at → ⊥) → Topped r₁ d Row.Spread at at d.at 1 n r u
      → Met ks fs r₀ s₀ m₀ r s₁ m₁ (if get_or ks at 0 is Dot3 then spread at else assignment at) n k (Ok u)
  item_spreads h some top = item_by (λ t. spread_read (stands ks (eqb-true _ _ t)) (met_at h (start_is ks at p true t)) top) (λ t. absurd (some (start_is ks at p false t)))
