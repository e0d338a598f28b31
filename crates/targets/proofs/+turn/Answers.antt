-- `targets::turn` meets its contract, at the measure t.
use Prim.Native.Nat.{ℕ}
use mathlib.Core.Path.{sym, ◌∙◌}
use native.Mathlib.Omega.{arith}
use Rattle.targets.proofs.Turning.{Step, step_turned, ready_kids, alone_fits, after_fits, finish_fits, turn_alone, turn_starts, turn_again, turn_ends, still, kid_there, fits_below, falls_size, kid_ready, size_there}
use Rattle.targets.proofs.ShortCuts.{step_plain, inside_name}
use Rattle.targets.proofs.+turn.Goals as goal
use Rattle.targets.proofs.+turn.Goals.{Joined-name_at, in-Some, in_default}

-- one kid is turned: by itself, or by the call
one_step : (t : ℕ) (c : Joined-name_at t) → Step c.loop-stop.rows c.loop-stop.records c.args.root c.plan_at-of.result c.loop-stop.start c.loop-stop.stop c.match-name_at.rows c.match-name_at.records c.match-name_at.start
one_step t c =
    elim c.match-name_at.branch [
      | in-Some w ↦ step_plain w.in-Some.ensures w.turn_name.ensures w.rows-is w.records-is w.start-is
      | in_default w ↦ step_turned w.turn-start.ensures w.turn-start.auto.rows w.turn-start.auto.records w.rows-is w.records-is w.start-is
    ]

pub finish-requires : goal.finish-requires
finish-requires t c = alone_fits c.requires c.plan_at-of.ensures (sym c.is_alone.ensures ∙ c.if-is_alone.true)

pub returns-then-is_alone : goal.returns-then-is_alone
returns-then-is_alone t c = turn_alone c.plan_at-of.ensures (sym c.is_alone.ensures ∙ c.if-is_alone.true) c.finish.ensures

pub note_after-start-requires : goal.note_after-start-requires
note_after-start-requires t c = after_fits c.requires c.plan_at-of.ensures (sym c.is_alone.ensures ∙ c.if-is_alone.false)

pub loop-stop-init : goal.loop-stop-init
loop-stop-init t c = turn_starts (ready_kids c.requires c.plan_at-of.ensures (sym c.is_alone.ensures ∙ c.if-is_alone.false) c.note_after-start.ensures) (omega (arith, c.note_after-start.auto.records, c.note_after-start.ensures.begins, c.requires.inside))

pub first_row-requires : goal.first_row-requires
first_row-requires t c = still c.loop-stop.invariant

pub name_at-requires : goal.name_at-requires
name_at-requires t c = kid_there c.loop-stop.invariant c.first_row.ensures c.loop-stop-test.true

pub turn_name-requires : goal.turn_name-requires
turn_name-requires t c = inside_name (kid_there c.loop-stop.invariant c.first_row.ensures c.loop-stop-test.true) c.in-Some.ensures.order

pub turn-start-requires : goal.turn-start-requires
turn-start-requires t c = (omega (arith, falls_size c.loop-stop.invariant c.first_row.ensures c.loop-stop-test.true, c.decreases), kid_ready c.loop-stop.invariant c.first_row.ensures c.loop-stop-test.true)

pub size_before-stop-requires : goal.size_before-stop-requires
size_before-stop-requires t c = size_there c.loop-stop.invariant c.first_row.ensures c.loop-stop-test.true (one_step t c).turned

pub loop-stop-preserved : goal.loop-stop-preserved
loop-stop-preserved t c = let s = one_step t (goal.at.loop-stop-preserved t c).Joined-name_at in turn_again c.loop-stop.invariant c.first_row.ensures c.loop-stop-test.true s.turned s.same_rows s.same_records c.size_before-stop.ensures

pub finish-requires-2 : goal.finish-requires-2
finish-requires-2 t c = finish_fits c.loop-stop.invariant c.first_row.ensures c.loop-stop-test.false c.plan_at-of.ensures

pub returns : goal.returns
returns t c = turn_ends c.plan_at-of.ensures (sym c.is_alone.ensures ∙ c.if-is_alone.false) c.note_after-start.ensures c.requires.inside (omega (arith, c.note_after-start.auto.records)) c.loop-stop.invariant c.first_row.ensures c.loop-stop-test.false c.finish-2.ensures

pub overflow_sub-stop-in-loop-stop : goal.overflow_sub-stop-in-loop-stop
overflow_sub-stop-in-loop-stop t c = let s = one_step t (goal.at.overflow_sub-stop-in-loop-stop t c).Joined-name_at in omega (arith, fits_below c.loop-stop.invariant c.first_row.ensures c.loop-stop-test.true s.turned c.size_before-stop.ensures)

pub loop-stop-smaller : goal.loop-stop-smaller
loop-stop-smaller t c = let s = one_step t (goal.at.loop-stop-smaller t c).Joined-name_at in omega (arith, fits_below c.loop-stop.invariant c.first_row.ensures c.loop-stop-test.true s.turned c.size_before-stop.ensures)
