-- Invariants of `waiting::follow`.
use Prim.Native.Nat.{◌-◌}
use Rattle.waiting.proofs.Groups.{Following}
use Rattle.waiting.proofs.follow.Given as goal

abbrev pub invariant-loop-rows : goal.invariant-loop-rows
invariant-loop-rows l = Following l.sheet.kinds.now l.sheet.flags.now l.initial.rows l.initial.records l.initial.group l.base l.rows l.records l.group

abbrev pub decreases-loop-rows : goal.decreases-loop-rows
decreases-loop-rows l = l.base - l.group.top
