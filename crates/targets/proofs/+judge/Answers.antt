-- `targets::judge` meets its contract, at the measure t.
use mathlib.Core.Bool.{not}
use mathlib.Core.Path.{refl, sym, ap, ◌∙◌}
use native.Mathlib.Omega.{arith}
use Rattle.targets.proofs.Judging.{own_sums, judge_alone, judge_starts, kid_counted, judge_again, judge_pass, judge_ends, same_found, the_kid, size_inside, fits_below, falls_size, some_of}
use Rattle.targets.proofs.+judge.Goals as goal
use Rattle.targets.proofs.+judge.Goals.{then-is_none, else-is_none}

pub both-requires : goal.both-requires
both-requires t c = own_sums _ c.own.ensures c.requires.counted

pub returns-then-is_alone : goal.returns-then-is_alone
returns-then-is_alone t c = judge_alone c.plan_at-of.ensures c.own.ensures c.both.ensures (sym c.is_alone.ensures ∙ c.if-is_alone.true)

pub loop-end-init : goal.loop-end-init
loop-end-init t c = judge_starts c.own.ensures c.requires.counted c.both.ensures

pub name_at-requires : goal.name_at-requires
name_at-requires t c = the_kid c.loop-end.invariant c.first_row.ensures c.loop-end-test.true c.requires.rooted

pub judge-requires : goal.judge-requires
judge-requires t c = (
  omega (arith, falls_size c.loop-end.invariant c.first_row.ensures c.loop-end-test.true c.requires.rooted, c.decreases),
  (the_kid c.loop-end.invariant c.first_row.ensures c.loop-end-test.true c.requires.rooted, kid_counted c.loop-end.invariant c.first_row.ensures c.loop-end-test.true),
)

pub size_before-end-requires : goal.size_before-end-requires
size_before-end-requires t c = size_inside c.loop-end.invariant c.first_row.ensures c.loop-end-test.true c.requires.rooted

pub overflow_sub-end-in-loop-end : goal.overflow_sub-end-in-loop-end
overflow_sub-end-in-loop-end t c = (fits_below c.loop-end.invariant c.first_row.ensures c.loop-end-test.true c.requires.rooted c.size_before-end.ensures).1

pub loop-end-smaller : goal.loop-end-smaller
loop-end-smaller t c = omega (arith, fits_below c.loop-end.invariant c.first_row.ensures c.loop-end-test.true c.requires.rooted c.size_before-end.ensures)

pub loop-end-preserved : goal.loop-end-preserved
loop-end-preserved t c =
    elim c.if-is_none.branch [
      | then-is_none w ↦
          same_found w.found-is (judge_again c.loop-end.invariant c.first_row.ensures c.loop-end-test.true c.size_before-end.ensures _ refl c.requires.rooted w.judge.ensures)
      | else-is_none w ↦
          same_found w.found-is (judge_pass c.loop-end.invariant c.first_row.ensures c.loop-end-test.true c.size_before-end.ensures (some_of c.name_at.result (c.is_none.ensures ∙ ap not w.if-is_none.false) c.name_at.ensures).1)
    ]

pub returns : goal.returns
returns t c = judge_ends c.plan_at-of.ensures (sym c.is_alone.ensures ∙ c.if-is_alone.false) c.own.ensures c.both.ensures c.loop-end.invariant c.first_row.ensures c.loop-end-test.false
