-- Invariants of `waiting::finish_parts`.
use Rattle.waiting.proofs.Groups.{Finishing}
use Rattle.waiting.proofs.finish_parts.Given as goal

abbrev pub invariant-loop-top : goal.invariant-loop-top
invariant-loop-top l = Finishing l.kinds l.initial.rows l.fn.d l.waiting l.base l.rows l.c l.top
