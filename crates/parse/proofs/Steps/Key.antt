-- `key`, 13.2.5: each way out of it.
-- Assumes nothing.
use Rattle.std.specs.Prelude.{Ok, Err}
use Prim.Native.Nat.{ℕ, ◌+◌, ◌<◌}
use mathlib.Core.Path.{◌≡◌, refl, sym, ap, ◌∙◌}
use mathlib.Core.Bool.{Bool, true, false}
use mathlib.Core.List.{List}
use native.Mathlib.Omega.{arith}
use lib.ListN.{length, get_or}
use Rattle.tokens.specs.declared.cause.Cause.{Cause}
use Rattle.rows.specs.Row as Row
use Rattle.grammar.specs.Job.{assignment, key}
use Rattle.laws.proofs.Good.{and_left}
use Rattle.laws.proofs.Bounds.{bounded}
use Rattle.build.specs.Operation.{is_key, is_shorthand}
use Rattle.build.specs.Post.{Room, Met, Leafed, Topped}
use Rattle.build.specs.declared.cursor.Cursor.{Cursor}
use Rattle.build.proofs.Rules.{primary_name, key_word, key_none, key_fails, key_open, key_done}
use Rattle.build.proofs.Ends.{is_fail, single}
use Rattle.build.proofs.Makes.{unmade_none, unmade_past, count_one, is_topped, is_leafed}

-- a test of the token at a place
tested : {y z : ℕ} {v : Bool} → y ≡ z → v ≡ is_key y → is_key z ≡ v
tested k n = ap (λ (q : ℕ). is_key q) (sym k) ∙ sym n

-- a key stands before the end
pub key_stands : {ks r s : List ℕ} {c : Cursor} {y : ℕ} → Room ks r s c → y ≡ get_or ks c.at 0 → true ≡ is_key y → c.at < length ks
key_stands {ks} room k n = let w = bounded (key_word {ks = ks} {fs = ks} {m = ks} (tested k n)).settles in omega arith

-- so does a shorthand's name
pub shorthand_stands : {ks r s : List ℕ} {c : Cursor} → Room ks r s c → true ≡ is_shorthand ks c.at → c.at < length ks
shorthand_stands {ks} room n = let w = bounded (primary_name {ks = ks} {fs = ks} {m = ks} (and_left _ _ (sym n))).settles in omega arith

module _ {ks fs r₀ s₀ m₀ : List ℕ} {c : Cursor} {y : ℕ} (room : Room ks r₀ s₀ c) (k : y ≡ get_or ks c.at 0) where
  pub key_words : {r : List ℕ} {d : Cursor} → true ≡ is_key y → Leafed r₀ c Row.Key r d → Met ks fs r₀ s₀ m₀ r s₀ m₀ (key c.at) c.rows c.records (Ok d)
  key_words n top = is_leafed top (key_word (tested k n))

  pub key_nones : false ≡ is_key y → (y ≡ 20 → ⊥) → Met ks fs r₀ s₀ m₀ r₀ s₀ m₀ (key c.at) c.rows c.records (Err (Cause.Unexpected c.at))
  key_nones n o = is_fail refl record { comes = key_none (tested k n) (λ q. o (k ∙ q)); unmade = unmade_none }

  pub key_refuses : {r s m : List ℕ} {p : Cause} → y ≡ 20 → Met ks fs r₀ s₀ m₀ r s m (assignment (c.at + 1)) c.rows c.records (Err p)
      → Met ks fs r₀ s₀ m₀ r s m (key c.at) c.rows c.records (Err p)
  key_refuses t h = let f = h.fail_at _ refl in is_fail refl record { comes = key_fails (sym k ∙ t) f.comes; unmade = f.unmade }

  pub key_opens : {r s m : List ℕ} {d : Cursor} {z : ℕ} → y ≡ 20 → Met ks fs r₀ s₀ m₀ r s m (assignment (c.at + 1)) c.rows c.records (Ok d) → z ≡ get_or ks d.at 0
      → (z ≡ 21 → ⊥) → Met ks fs r₀ s₀ m₀ r s m (key c.at) c.rows c.records (Err (Cause.Unexpected d.at))
  key_opens t h l o =
      let a = h.done_to _ refl in
      is_fail refl record { comes = key_open (sym k ∙ t) a.comes (λ q. o (l ∙ q)); unmade = unmade_past (omega (arith, room)) (omega (arith, room)) a.made }

  pub key_dones : {r₁ r s m : List ℕ} {d u : Cursor} {z : ℕ} → y ≡ 20 → Met ks fs r₀ s₀ m₀ r₁ s m (assignment (c.at + 1)) c.rows c.records (Ok d)
      → z ≡ get_or ks d.at 0 → z ≡ 21 → Topped r₁ d Row.ComputedKey c.at c.at (d.at + 1) 1 c.rows r u → Met ks fs r₀ s₀ m₀ r s m (key c.at) c.rows c.records (Ok u)
  key_dones t h l o top =
      let a = h.done_to _ refl in
      is_topped top (key_done (sym k ∙ t) a.comes (sym l ∙ o)) a.made (sym (count_one _ _ (single _ a refl)))
