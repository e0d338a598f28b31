-- The work of a reading: a reader with any policy that also counts the productions that it applies, and keeps the places of the heads that it gives up. It reads what the reader reads.
-- The definition is `count`; the statement, at the end, `counts_the_same`. Assumes nothing.
use Prim.Native.Nat.{ℕ, zero, suc, ◌≤◌, ◌<◌}
use mathlib.Core.Path.{◌≡◌, refl, ap}
use native.Mathlib.Omega.{arith}
use lib.ListN.{length}
use Rattle.tokens.specs.Bool.{◌or◌, ◌is◌}
use Rattle.tokens.specs.Kind.{Async, LParen}
use Rattle.grammar.specs.Sheet.{Sheet, token, Out}
use Rattle.grammar.specs.Job.{Job, assignment, value, head}
use Rattle.grammar.specs.Arrow.{Policy, assignment_of}
use Rattle.grammar.specs.Step.{read}
use Rattle.laws.specs.Settles.{μ, looked_at}
use Rattle.laws.proofs.Bounds.{limits, Bound, bounded_at}
use Rattle.laws.proofs.Rel.{Ready, Whatever, Rel, both_done, both_fail, Agree, Near, forget, both_follow, both_try, both_note, both_choose, both_test, arrow_rel, positive, step_rel}
use Rattle.laws.proofs.Steady.{opens_inside}
use Rattle.agreement.specs.Terms.{Counted, count, counting, tick}

-- the counting reader beside a reader that takes the same ways: what the notes have in common is kept
module _ {N N' : Type 0} (policy : Policy N) (other : Policy N') (sheet : Sheet) (Sim : Counted N → N' → Type 0)
    (same_way : (at : ℕ) (m : Counted N) (m' : N') → Sim m m' → policy.way at m.notes ≡ other.way at m')
    (same_mark : (at : ℕ) → at < length sheet.kinds → (m : Counted N) (m' : N') → Sim m m' → Sim ((counting policy).mark at m) (other.mark at m'))
    (same_tick : (m : Counted N) (m' : N') → Sim m m' → Sim (tick m) m') where
  assignment_same : (n f f' : ℕ) → Near Sim ◌≡◌ sheet 0 n (count policy sheet f) (read other sheet f') → (at : ℕ) → Ready sheet 0 (suc n) (assignment at)
      → Agree Sim ◌≡◌ Whatever (assignment_of (counting policy) sheet (count policy sheet f) at) (assignment_of other sheet (read other sheet f') at)
  unfolding assignment_of
  assignment_same n f f' h at r =
      let past : Agree Sim ◌≡◌ Whatever (count policy sheet f (value at)) (read other sheet f' (value at)) = forget (h.with (value at) (omega arith)) in
      both_test (token sheet at is LParen or token sheet at is Async)
      (λ t. both_choose ((counting policy).way at) (other.way at) (same_way at)
      (λ m m' s _. past.with m m' s)
      (λ m m' s _. (both_try (h.with (head at) (omega arith)) (arrow_rel (λ c. refl) sheet h (counting policy) other at r)
      (both_note ((counting policy).mark at) (other.mark at) (same_mark at (opens_inside sheet at t)) past)).with m m' s)
      (λ m m' s _. (both_follow (h.with (head at) (omega arith)) (arrow_rel (λ c. refl) sheet h (counting policy) other at r)).with m m' s))
      (λ _. past)

  one_step : (n f f' : ℕ) → Near Sim ◌≡◌ sheet 0 n (count policy sheet f) (read other sheet f') → (job : Job) → Ready sheet 0 (suc n) job → (m : Counted N) (m' : N') → Sim m m'
      → Rel Sim ◌≡◌ Whatever (count policy sheet (suc f) job m) (read other sheet (suc f') job m')
  unfolding read count
  one_step n f f' h job r m m' s = (step_rel (λ c. refl) sheet 0 (counting policy) other h (assignment_same n f f' h) job r).with (tick m) m' (same_tick m m' s)

  with_bound : (f : ℕ) (job : Job) (m : N') {x : Out (Counted N)} → Rel Sim ◌≡◌ Whatever x (read other sheet f job m) → Rel Sim ◌≡◌ (Bound (limits sheet job)) x (read other sheet f job m)
  with_bound f job m (both_done end trees records m₁ m' e e' p s) = both_done end trees records m₁ m' e e' (bounded_at other sheet f job m e') s
  with_bound f job m (both_fail cause cause' m₁ m' e e' al s) = both_fail cause cause' m₁ m' e e' al s

  near : (n f f' : ℕ) → n ≤ f → n ≤ f' → Near Sim ◌≡◌ sheet 0 n (count policy sheet f) (read other sheet f')
  near zero f f' l l' = record { with = λ job r. absurd (omega (arith, positive sheet job)) }
  near (suc n) zero f' l l' = absurd (omega arith)
  near (suc n) (suc f) zero l l' = absurd (omega arith)
  near (suc n) (suc f) (suc f') l l' =
      record { with = λ job r. record { with = λ m m' s. with_bound (suc f') job m' (one_step n f f' (near n f f' (omega arith) (omega arith)) job r m m' s) } }

  pub counts_beside : (job : Job) → looked_at job ≤ length sheet.kinds → (f f' : ℕ) → μ sheet job ≤ f → μ sheet job ≤ f' → (m : Counted N) (m' : N') → Sim m m'
      → Rel Sim ◌≡◌ (Bound (limits sheet job)) (count policy sheet f job m) (read other sheet f' job m')
  counts_beside job i f f' le le' m m' s =
      ((near (μ sheet job) f f' le le').with job (record { later = omega arith; stands_there = i; enough = omega arith })).with m m' s

-- the notes are the reader's
pub record Same {N : Type 0} (m : Counted N) (m' : N) : Type 0 where
  pub same : m.notes ≡ m'

-- THE STATEMENT: what the counting reader comes to is what the reader comes to, with its notes
pub counts_the_same : {N : Type 0} (policy : Policy N) (sheet : Sheet) (job : Job) → looked_at job ≤ length sheet.kinds → (f f' : ℕ) → μ sheet job ≤ f → μ sheet job ≤ f' → (m : Counted N)
    → Rel Same ◌≡◌ (Bound (limits sheet job)) (count policy sheet f job m) (read policy sheet f' job m.notes)
counts_the_same policy sheet job i f f' le le' m =
    counts_beside policy policy sheet Same (λ at m m' s. ap (policy.way at) s.same) (λ at l m m' s. record { same = ap (policy.mark at) s.same }) (λ m m' s. record { same = s.same })
    job i f f' le le' m m.notes (record { same = refl })
