-- Invariants of `operation::prefixes`.
use Rattle.build.proofs.Steps.Prefixes.{Prefixing}
use Rattle.build.proofs.operation.prefixes.Given as goal

abbrev pub invariant-loop-at : goal.invariant-loop-at
invariant-loop-at l = Prefixing l.kinds l.initial.rows l.initial.records l.fn.d l.first l.start l.from l.rows l.records l.here l.at
