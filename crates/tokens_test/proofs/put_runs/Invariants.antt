-- `put_runs`: what was written is inside the list.
use Rattle.std.proofs.Common.{◌≤◌, length}
use Rattle.tokens_test.proofs.put_runs.Given as goal

abbrev pub invariant-loop-n : goal.invariant-loop-n
invariant-loop-n l = l.at ≤ length l.list
