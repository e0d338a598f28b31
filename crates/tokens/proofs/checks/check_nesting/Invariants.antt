-- `checks::check_nesting` meets its contract.
use Rattle.tokens.proofs.Nesting.{Nested}
use Rattle.tokens.proofs.checks.check_nesting.Given as goal

abbrev pub invariant-loop-place : goal.invariant-loop-place
invariant-loop-place l = Nested l.kinds l.depth l.place
