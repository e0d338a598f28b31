-- `print_sum`: the sum stays below 2 ^ 32.
use Rattle.std.proofs.Common.{◌<◌}
use Rattle.reader_test.proofs.print_sum.Given as goal

abbrev pub invariant-loop-word : goal.invariant-loop-word
invariant-loop-word g l = l.sum < 4294967296
