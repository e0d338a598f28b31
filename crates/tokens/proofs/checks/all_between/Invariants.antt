-- `checks::all_between` meets its contract.
use Rattle.tokens.proofs.Outside.{Seen}
use Rattle.tokens.proofs.checks.all_between.Given as goal

abbrev pub invariant-loop-byte : goal.invariant-loop-byte
invariant-loop-byte l = Seen l.low l.high l.bytes l.least l.most l.byte-index
