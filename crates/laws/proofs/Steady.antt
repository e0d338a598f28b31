-- A reading never sticks, and how many steps it may take does not matter: each nonterminal comes to exactly one outcome, with any policy, from any
-- notes, at any bound on the steps that is at least μ. Five nonterminals start at a token that whoever asks has looked at: of those the same holds
-- where a token stands. And what a policy's notes keep is kept by every reading.
-- The statements, at the end: `settles`, `never_stuck`, `steps_do_not_matter`, `one_outcome`; and `kept`. Assumes nothing.
use Prim.Native.Nat.{ℕ, suc, ◌≤◌, ◌<◌}
use mathlib.Core.Path.{◌≡◌, refl, sym, ap, ◌∙◌}
use mathlib.Core.Bool.{true}
use mathlib.Core.List.{List}
use native.Mathlib.Omega.{arith}
use lib.ListN.{length}
use Rattle.tokens.specs.Bool.{◌or◌, ◌is◌}
use Rattle.tokens.specs.Kind.{Async, LParen}
use Rattle.tokens.specs.declared.cause.Cause.{Cause}
use Rattle.rows.specs.Tree.{Forest}
use Rattle.rows.specs.Record.{Record}
use Rattle.grammar.specs.Sheet.{Sheet, token, Out, done, fail, stuck}
use Rattle.grammar.specs.Job.{Job, assignment, value, head}
use Rattle.grammar.specs.Arrow.{Policy, assignment_of}
use Rattle.grammar.specs.Step.{read}
use Rattle.laws.specs.Settles.{μ, Settles, looked_at, Comes, comes_done, comes_fail}
use Rattle.laws.proofs.Good.{inside}
use Rattle.laws.proofs.Bounds.{limits, Bound}
use Rattle.laws.proofs.Rel.{first_noted, Ready, Whatever, Rel, both_done, both_fail, Agree, Near, forget, both_follow, both_try, both_note, both_choose, both_test, arrow_rel, related}

-- `(` or Async stands before the end
pub opens_inside : (sheet : Sheet) (at : ℕ) → token sheet at is LParen or token sheet at is Async ≡ true → at < length sheet.kinds
opens_inside sheet at e = inside sheet at (λ k. k is LParen or k is Async) refl e

-- one policy, beside itself: the notes are the same, and something about them is kept
module _ {N : Type 0} (policy : Policy N) (sheet : Sheet) (low : ℕ) (Inv : N → Type 0)
    (keep : (at : ℕ) (m : N) → low ≤ at → at < length sheet.kinds → Inv m → Inv (policy.mark at m)) where
  record Same (m m' : N) : Type 0 where
    same : m ≡ m'
    holds : Inv m

  marked : (at : ℕ) → low ≤ at → at < length sheet.kinds → (m m' : N) → Same m m' → Same (policy.mark at m) (policy.mark at m')
  marked at l i m m' s = record { same = ap (policy.mark at) s.same; holds = keep at m l i s.holds }

  assignment_same : (n f f' : ℕ) → n ≤ f → n ≤ f' → Near Same ◌≡◌ sheet low n (read policy sheet f) (read policy sheet f') → (at : ℕ) → Ready sheet low (suc n) (assignment at)
      → Agree Same ◌≡◌ Whatever (assignment_of policy sheet (read policy sheet f) at) (assignment_of policy sheet (read policy sheet f') at)
  unfolding assignment_of
  assignment_same n f f' l l' h at r =
      let past : Agree Same ◌≡◌ Whatever (read policy sheet f (value at)) (read policy sheet f' (value at)) = forget (h.with (value at) (omega arith)) in
      both_test (token sheet at is LParen or token sheet at is Async)
      (λ t. let i = opens_inside sheet at t in
      both_choose (policy.way at) (policy.way at) (λ m m' s. ap (policy.way at) s.same)
      (λ m m' s _. past.with m m' s)
      (λ m m' s _. (both_try (h.with (head at) (omega arith)) (arrow_rel (λ c. refl) sheet h policy policy at r)
      (both_note (policy.mark at) (policy.mark at) (marked at (omega arith) i) past)).with m m' s)
      (λ m m' s _. (both_follow (h.with (head at) (omega arith)) (arrow_rel (λ c. refl) sheet h policy policy at r)).with m m' s))
      (λ _. past)

  related_same : (job : Job) → low ≤ first_noted job → looked_at job ≤ length sheet.kinds → (m : N) → Inv m → (f f' : ℕ) → μ sheet job ≤ f → μ sheet job ≤ f'
      → Rel Same ◌≡◌ (Bound (limits sheet job)) (read policy sheet f job m) (read policy sheet f' job m)
  related_same job l i m k f f' le le' = related (λ c. refl) sheet low policy policy assignment_same job l i f f' le le' m m (record { same = refl; holds = k })

  -- what the notes keep, before and after
  pub data Kept (out : Out N) : Type 0 where
    kept_done : (end : ℕ) (trees : Forest) (records : List Record) (after : N) → out ≡ done end trees records after → Inv after → Kept out
    kept_fail : (cause : Cause) (after : N) → out ≡ fail cause after → Inv after → Kept out

  pub kept : (job : Job) → low ≤ first_noted job → looked_at job ≤ length sheet.kinds → (notes : N) → Inv notes → (steps : ℕ) → μ sheet job ≤ steps
      → Kept (read policy sheet steps job notes)
  kept job l i notes k steps le = go (related_same job l i notes k steps steps le le)
    where
      go : {x y : Out N} → Rel Same ◌≡◌ (Bound (limits sheet job)) x y → Kept x
      go (both_done end trees records m m' e e' b s) = kept_done end trees records m e s.holds
      go (both_fail cause cause' m m' e e' c s) = kept_fail cause m e s.holds

  pub kept_if_done : (job : Job) → low ≤ first_noted job → looked_at job ≤ length sheet.kinds → (notes : N) → Inv notes → (steps : ℕ) → μ sheet job ≤ steps
      → {end : ℕ} {trees : Forest} {records : List Record} {after : N} → read policy sheet steps job notes ≡ done end trees records after → Inv after
  kept_if_done job l i notes k steps le {after = after} e = go (kept job l i notes k steps le)
    where
      go : Kept (read policy sheet steps job notes) → Inv after
      go (kept_done _ _ _ m e' j) = let a : m ≡ after = cc in rw a at j
      go (kept_fail _ m e' j) = let z : ◌≡◌ {A = ℕ} 0 1 = cc in absurd (omega arith)

  pub kept_if_fail : (job : Job) → low ≤ first_noted job → looked_at job ≤ length sheet.kinds → (notes : N) → Inv notes → (steps : ℕ) → μ sheet job ≤ steps
      → {cause : Cause} {after : N} → read policy sheet steps job notes ≡ fail cause after → Inv after
  kept_if_fail job l i notes k steps le {after = after} e = go (kept job l i notes k steps le)
    where
      go : Kept (read policy sheet steps job notes) → Inv after
      go (kept_done _ _ _ m e' j) = let z : ◌≡◌ {A = ℕ} 0 1 = cc in absurd (omega arith)
      go (kept_fail _ m e' j) = let a : m ≡ after = cc in rw a at j

-- THE STATEMENTS
module _ {N : Type 0} (policy : Policy N) (sheet : Sheet) where
  steady : (job : Job) → looked_at job ≤ length sheet.kinds → (notes : N) (f f' : ℕ) → μ sheet job ≤ f → μ sheet job ≤ f'
      → Rel (Same policy sheet 0 (λ m. Unit {0}) (λ at m l i k. tt)) ◌≡◌ (Bound (limits sheet job)) (read policy sheet f job notes) (read policy sheet f' job notes)
  steady job i notes f f' le le' = related_same policy sheet 0 (λ m. Unit {0}) (λ at m l i k. tt) job (omega arith) i notes tt f f' le le'

  -- the bound on the steps does not matter
  pub steps_do_not_matter : (job : Job) → looked_at job ≤ length sheet.kinds → (notes : N) (f f' : ℕ) → μ sheet job ≤ f → μ sheet job ≤ f'
      → read policy sheet f job notes ≡ read policy sheet f' job notes
  steps_do_not_matter job i notes f f' le le' = go (steady job i notes f f' le le')
    where
      go : {x y : Out N} → Rel (Same policy sheet 0 (λ m. Unit {0}) (λ at m l i k. tt)) ◌≡◌ (Bound (limits sheet job)) x y → x ≡ y
      go (both_done end trees records m m' e e' b s) = let a : m ≡ m' = s.same in cc
      go (both_fail cause cause' m m' e e' c s) = let a : m ≡ m' = s.same in cc

  -- a nonterminal comes to what is read with μ steps
  pub settles_at : (job : Job) → looked_at job ≤ length sheet.kinds → (notes : N) → Settles policy sheet job notes (read policy sheet (μ sheet job) job notes)
  settles_at job i notes = record { with = λ steps le. steps_do_not_matter job i notes steps (μ sheet job) le (omega arith) }

  -- each nonterminal comes to something: it is done, or it fails
  pub settles : (job : Job) → looked_at job ≤ length sheet.kinds → (notes : N) → Comes policy sheet job notes
  settles job i notes = go (steady job i notes (μ sheet job) (μ sheet job) (omega arith) (omega arith)) (settles_at job i notes)
    where
      go : {x y : Out N} → Rel (Same policy sheet 0 (λ m. Unit {0}) (λ at m l i k. tt)) ◌≡◌ (Bound (limits sheet job)) x y → Settles policy sheet job notes x → Comes policy sheet job notes
      go (both_done end trees records m m' e e' b s) t = comes_done end trees records m (rw e at t)
      go (both_fail cause cause' m m' e e' c s) t = comes_fail cause m (rw e at t)

  -- it never sticks
  pub never_stuck : (job : Job) → looked_at job ≤ length sheet.kinds → (notes : N) (steps : ℕ) → μ sheet job ≤ steps → read policy sheet steps job notes ≡ stuck → ⊥
  never_stuck job i notes steps le e = go (steady job i notes steps steps le le)
    where
      go : {y : Out N} → Rel (Same policy sheet 0 (λ m. Unit {0}) (λ at m l i k. tt)) ◌≡◌ (Bound (limits sheet job)) (read policy sheet steps job notes) y → ⊥
      go (both_done end trees records m m' e₁ e₂ b s) = let z : ◌≡◌ {A = ℕ} 0 1 = cc in omega arith
      go (both_fail cause cause' m m' e₁ e₂ c s) = let z : ◌≡◌ {A = ℕ} 0 1 = cc in omega arith

-- and to nothing else
pub one_outcome : {N : Type 0} {policy : Policy N} {sheet : Sheet} {job : Job} {notes : N} {out out' : Out N}
    → Settles policy sheet job notes out → Settles policy sheet job notes out' → out ≡ out'
one_outcome {sheet = sheet} {job} s s' = sym (s.with (μ sheet job) (omega arith)) ∙ s'.with (μ sheet job) (omega arith)
