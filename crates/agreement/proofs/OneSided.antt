-- Where a reader with any policy reads, the plain reader reads the same: the same trees and the same records, from any notes.
-- The statement, at the end: `plain_reads`. Assumes nothing.
use Prim.Native.Nat.{ℕ, suc, ◌≤◌}
use mathlib.Core.Path.{◌≡◌, refl}
use mathlib.Core.Bool.{true, false}
use mathlib.Core.List.{List}
use native.Mathlib.Omega.{arith}
use lib.ListN.{length}
use Rattle.tokens.specs.Bool.{◌or◌, ◌is◌}
use Rattle.tokens.specs.Kind.{Async, LParen}
use Rattle.tokens.specs.declared.cause.Cause.{Cause}
use Rattle.rows.specs.Tree.{Forest}
use Rattle.rows.specs.Record.{Record}
use Rattle.grammar.specs.Sheet.{Sheet, token, Out, done, fail, stuck, and_then, or_else, ◌>>=◌, try}
use Rattle.grammar.specs.Job.{Job, assignment, value, head}
use Rattle.grammar.specs.Arrow.{Way, pass, attempt, commit, Policy, by_way, choose, noting, arrow_of, assignment_of}
use Rattle.grammar.specs.Step.{read, plenty}
use Rattle.laws.proofs.Settles.{in_plenty}
use Rattle.laws.specs.Settles.{μ, looked_at}
use Rattle.grammar.specs.Reading.{plain, whole, reading}
use Rattle.laws.proofs.Good.{came}
use Rattle.laws.proofs.Bounds.{limits, Bound}
use Rattle.laws.proofs.Rel.{Ready, Whatever}
use Rattle.laws.proofs.Steady.{never_stuck}
use Rattle.agreement.proofs.Leads.{open_ended, halt_fail, halt_dead, Led, both_done, halted, Leads, Near, Stays, forget, lead_test, led_after, arrow_led, led, whole_led}
use Rattle.laws.proofs.Readings.{Headed, balanced}
use Rattle.agreement.proofs.Covers.{covered}

module _ {N : Type 0} (policy : Policy N) (sheet : Sheet) where
  -- nothing is asked of the notes
  abbrev pub Any : N → Unit {0} → Type 0
  Any m m' = Unit {0}

  -- nor of the plain reader where of the other's outcome no use can be made
  abbrev pub Free : Out (Unit {0}) → Type 0
  Free y = Unit {0}

  stays : Stays sheet Any Free
  stays = record { reading_on = λ next l. tt; recording = λ records l. tt }

  fails : (cause : Cause) (m : N) (m' : Unit {0}) → Any m m' → Free (fail cause m')
  fails cause m m' s = tt

  module _ (n f f' : ℕ) (l : n ≤ f) (l' : n ≤ f') (h : Near sheet Any Free n (read policy sheet f) (read plain sheet f')) (at : ℕ) (r : Ready sheet 0 (suc n) (assignment at)) where
    -- the plain reader, once it has tried the head
    abbrev tried : Out (Unit {0}) → Out (Unit {0})
    tried y = or_else y (arrow_of plain sheet (read plain sheet f') at) (noting (plain.mark at) (read plain sheet f' (value at)))

    -- to pass: where the plain head is read, no use can be made of the way past it
    passing : (m : N) (y : Out (Unit {0})) → read plain sheet f' (head at) tt ≡ y → Led sheet Any Free true Whatever (read policy sheet f (value at) m) (tried y)
    unfolding or_else noting
    passing m (done end trees records after) e =
        let d : Headed sheet at end = balanced plain sheet f' (head at) tt e in
        halted (covered sheet end d.arrow policy at f d (omega arith) m) tt
    passing m (fail cause after) e = (forget (h.with (value at) (omega arith))).with m after tt
    passing m stuck e = absurd (never_stuck plain sheet (head at) (omega arith) tt f' (omega arith) e)

    -- to try
    trying : (m : N) → Led sheet Any Free false (Bound (limits sheet (head at))) (read policy sheet f (head at) m) (read plain sheet f' (head at) tt)
        → Led sheet Any Free true Whatever (or_else (read policy sheet f (head at) m) (arrow_of policy sheet (read policy sheet f) at) (noting (policy.mark at) (read policy sheet f (value at))))
        (tried (read plain sheet f' (head at) tt))
    unfolding or_else noting
    trying m (both_done end trees records m₁ m' e e' b s) =
        rw (e, e') (led_after stays records ((arrow_led sheet stays fails h policy plain at r (record { end = end; trees = trees }) records b).with m₁ m' s))
    trying m (halted (halt_fail cause m₁ e) _) = rw e (passing (policy.mark at m₁) (read plain sheet f' (head at) tt) refl)
    trying m (halted (halt_dead o end trees records m₁ e d) _) = let z : ◌≡◌ {A = ℕ} 0 1 = cc in absurd (omega arith)

    -- to commit
    committing : (m : N) → Led sheet Any Free false (Bound (limits sheet (head at))) (read policy sheet f (head at) m) (read plain sheet f' (head at) tt)
        → Led sheet Any Free true Whatever (and_then (read policy sheet f (head at) m) (arrow_of policy sheet (read policy sheet f) at)) (tried (read plain sheet f' (head at) tt))
    unfolding or_else and_then
    committing m (both_done end trees records m₁ m' e e' b s) =
        rw (e, e') (led_after stays records ((arrow_led sheet stays fails h policy plain at r (record { end = end; trees = trees }) records b).with m₁ m' s))
    committing m (halted (halt_fail cause m₁ e) _) = rw e (halted (halt_fail cause m₁ refl) tt)
    committing m (halted (halt_dead o end trees records m₁ e d) _) = let z : ◌≡◌ {A = ℕ} 0 1 = cc in absurd (omega arith)

    ways : (m : N) (w : Way)
        → Led sheet Any Free true Whatever
        (by_way w (read policy sheet f (value at)) (try (read policy sheet f (head at)) (arrow_of policy sheet (read policy sheet f) at) (noting (policy.mark at) (read policy sheet f (value at))))
        (read policy sheet f (head at) >>= arrow_of policy sheet (read policy sheet f) at) m)
        (tried (read plain sheet f' (head at) tt))
    unfolding by_way try ◌>>=◌
    ways m pass = passing m (read plain sheet f' (head at) tt) refl
    ways m attempt = trying m ((h.with (head at) (omega arith)).with m tt tt)
    ways m commit = committing m ((h.with (head at) (omega arith)).with m tt tt)

    assignment_leads : Leads sheet Any Free true Whatever (assignment_of policy sheet (read policy sheet f) at) (assignment_of plain sheet (read plain sheet f') at)
    unfolding assignment_of choose by_way try
    assignment_leads =
        lead_test (token sheet at is LParen or token sheet at is Async)
        (λ t. record { with = λ m m' s. ways m (policy.way at m) })
        (λ _. forget (h.with (value at) (omega arith)))

  -- a nonterminal, read with any policy and read plainly
  pub leads_plain : (job : Job) → looked_at job ≤ length sheet.kinds → (f f' : ℕ) → μ sheet job ≤ f → μ sheet job ≤ f' → (notes : N)
      → Led sheet Any Free (open_ended job) (Bound (limits sheet job)) (read policy sheet f job notes) (read plain sheet f' job tt)
  leads_plain job i f f' le le' notes = led sheet stays fails policy plain assignment_leads job i f f' le le' notes tt tt

  -- THE STATEMENT
  pub plain_reads : (job : Job) → looked_at job ≤ length sheet.kinds → (notes : N) {trees : Forest} {records : List Record} {after : N}
      → reading policy sheet job notes ≡ whole trees records after → reading plain sheet job tt ≡ whole trees records tt
  plain_reads job i notes e =
      (whole_led policy plain sheet job notes tt (came policy sheet job notes e)
      (leads_plain job i (plenty sheet) (plenty sheet) (in_plenty sheet job) (in_plenty sheet job) notes)).is_whole
