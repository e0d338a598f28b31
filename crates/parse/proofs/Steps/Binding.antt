-- `binding`, 14.3.3: each way out of it.
-- Assumes nothing.
use Rattle.std.specs.Prelude.{Ok, Err}
use Prim.Native.Nat.{ℕ, ◌+◌, ◌<◌}
use mathlib.Core.Path.{◌≡◌, refl, sym, ap, ◌∙◌}
use mathlib.Core.Bool.{true, false}
use mathlib.Core.List.{List}
use native.Mathlib.Omega.{arith}
use lib.ListN.{length, get_or}
use Rattle.tokens.specs.Token.{is_name}
use Rattle.tokens.specs.declared.cause.Cause.{Cause}
use Rattle.tokens.proofs.Stands.{stands_not}
use Rattle.rows.specs.Tree.{nil}
use Rattle.rows.specs.Row as Row
use Rattle.grammar.specs.Sheet.{Out}
use Rattle.grammar.specs.Job.{Job, binding, binding_elements, binding_properties}
use Rattle.build.specs.Post.{Comes, Met, Leafed}
use Rattle.build.specs.declared.cursor.Cursor.{Cursor}
use Rattle.build.specs.Post.{Step}
use Rattle.build.proofs.Rules.{binding_name, binding_array, binding_object, binding_none}
use Rattle.build.proofs.Ends.{is_fail}
use Rattle.build.proofs.Makes.{is_leafed, unmade_none}

-- a nonterminal that comes to all that another one comes to
pub met_as : {ks fs r₀ s₀ m₀ r s m : List ℕ} {job job' : Job} {n k : ℕ} {x : Step} → ((out : Out (List ℕ)) → Comes ks fs job m₀ out → Comes ks fs job' m₀ out)
    → Met ks fs r₀ s₀ m₀ r s m job n k x → Met ks fs r₀ s₀ m₀ r s m job' n k x
met_as f h =
    record {
      done_to = λ d e. let a = h.done_to d e in record { trees = a.trees; records = a.records; comes = f _ a.comes; made = a.made };
      fail_at = λ p e. let a = h.fail_at p e in record { comes = f _ a.comes; unmade = a.unmade };
    }

module _ {ks fs r₀ s₀ m₀ : List ℕ} {c : Cursor} {y : ℕ} (k : y ≡ get_or ks c.at 0) where
  pub binding_names : {r : List ℕ} {d : Cursor} → true ≡ is_name y → Leafed r₀ c Row.BindingName r d
      → Met ks fs r₀ s₀ m₀ r s₀ m₀ (binding c.at) c.rows c.records (Ok d)
  binding_names e top = is_leafed top (binding_name (ap is_name (sym k) ∙ sym e))

  pub binding_arrays : {r s m : List ℕ} {x : Step} → y ≡ 20 → Met ks fs r₀ s₀ m₀ r s m (binding_elements c.at (c.at + 1) nil) c.rows c.records x
      → Met ks fs r₀ s₀ m₀ r s m (binding c.at) c.rows c.records x
  binding_arrays t h = met_as (λ out. binding_array (sym k ∙ t)) h

  pub binding_objects : {r s m : List ℕ} {x : Step} → y ≡ 22 → Met ks fs r₀ s₀ m₀ r s m (binding_properties c.at (c.at + 1) nil) c.rows c.records x
      → Met ks fs r₀ s₀ m₀ r s m (binding c.at) c.rows c.records x
  binding_objects t h = met_as (λ out. binding_object (sym k ∙ t)) h

  pub binding_nones : false ≡ is_name y → (y ≡ 20 → ⊥) → (y ≡ 22 → ⊥)
      → Met ks fs r₀ s₀ m₀ r₀ s₀ m₀ (binding c.at) c.rows c.records (Err (Cause.Unexpected c.at))
  binding_nones e a b = is_fail refl record { comes = binding_none (ap is_name (sym k) ∙ sym e) (λ q. a (k ∙ q)) (λ q. b (k ∙ q)); unmade = unmade_none }

-- a name stands before the end
pub name_stands : (ks : List ℕ) {at y : ℕ} → y ≡ get_or ks at 0 → true ≡ is_name y → at < length ks
unfolding is_name
name_stands ks {at} k e = stands_not ks at (λ z. let q = sym (ap is_name (k ∙ z)) ∙ sym e in let w : ◌≡◌ {A = ℕ} 0 1 = cc in omega arith)
