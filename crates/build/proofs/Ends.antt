-- A contract's two cases: what is shown of a step that is done, or fails, is all that is asked of it. And how far a nonterminal moves the cursor.
-- Assumes nothing.
use Rattle.std.specs.Prelude.{Ok, Err}
use Prim.Native.Nat.{ℕ, ◌+◌, ◌≤◌, ◌<◌}
use mathlib.Core.Path.{◌≡◌, subst}
use mathlib.Core.List.{List}
use native.Mathlib.Omega.{arith}
use lib.ListN.{length}
use Rattle.tokens.specs.declared.cause.Cause.{Cause}
use Rattle.rows.specs.Tree.{one}
use Rattle.grammar.specs.Sheet.{sheet_of, first_tree}
use Rattle.grammar.specs.Job.{Job}
use Rattle.laws.proofs.Bounds.{Limits, Bound, bounded, limits, reads}
use Rattle.laws.proofs.Owed.{oweds}
use Rattle.build.specs.Post.{ReadTo, Refused, Met, Step}
use Rattle.build.specs.declared.cursor.Cursor.{Cursor}
use Rattle.build.proofs.Results.{at_ok, at_err, not_ok, not_err}

module _ {ks fs r₀ s₀ m₀ r s m : List ℕ} {job : Job} {n k : ℕ} where
  -- a step that is done, and one that fails; the step may be known by an equation
  pub is_done : {d : Cursor} {x : Step} → x ≡ Ok d → ReadTo ks fs r₀ s₀ m₀ r s m job n k d → Met ks fs r₀ s₀ m₀ r s m job n k x
  is_done e h = record { done_to = at_ok _ e h; fail_at = not_err _ e }

  pub is_fail : {p : Cause} {x : Step} → x ≡ Err p → Refused ks fs r₀ s₀ m₀ r s m job n k p → Met ks fs r₀ s₀ m₀ r s m job n k x
  is_fail e h = record { done_to = not_ok _ e; fail_at = at_err _ e h }

-- a nonterminal that reads a token at least, one row and one record for each token at most, moves the cursor so
pub record Moved (ks : List ℕ) (at n k : ℕ) (d : Cursor) (owe : ℕ) : Type 0 where
  pub forward : at < d.at
  pub inside : d.at ≤ length ks
  pub more : n ≤ d.rows
  pub few : d.rows + at ≤ n + d.at
  pub said : d.records + owe + at ≤ k + d.at

pub moved : {ks fs r₀ s₀ m₀ r s m : List ℕ} {job : Job} {n k : ℕ} {d : Cursor} (at : ℕ) (g : ReadTo ks fs r₀ s₀ m₀ r s m job n k d)
    → limits (sheet_of ks fs) job ≡ reads (sheet_of ks fs) at 0 0 → Moved ks at n k d (oweds g.trees)
moved {ks} {fs} {job = job} {n} {k} {d} at g e =
    let b = subst (λ (l : Limits). Bound l d.at g.trees g.records) e (bounded g.comes.settles) in
    let u = g.made.grown.used in
    let v = g.made.recorded.used in
    record { forward = omega arith; inside = omega arith; more = omega arith; few = omega arith; said = omega arith }

-- such a nonterminal gives one tree
pub single : {ks fs r₀ s₀ m₀ r s m : List ℕ} {job : Job} {n k : ℕ} {d : Cursor} (at : ℕ) (g : ReadTo ks fs r₀ s₀ m₀ r s m job n k d)
    → limits (sheet_of ks fs) job ≡ reads (sheet_of ks fs) at 0 0 → g.trees ≡ one (first_tree g.trees)
single {ks} {fs} {d = d} at g e =
    let b = subst (λ (l : Limits). Bound l d.at g.trees g.records) e (bounded g.comes.settles) in
    b.single
