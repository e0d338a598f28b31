-- `checks::count_brackets` meets its contract: one token more each turn.
use Rattle.std.proofs.Common.{◌≡◌}
use Rattle.tokens.specs.Check.{openings, closings}
use Rattle.tokens.proofs.checks.count_brackets.Given as goal

abbrev pub invariant-loop-k : goal.invariant-loop-k
invariant-loop-k l = (l.opened ≡ openings l.k-index l.chunk) × (l.closed ≡ closings l.k-index l.chunk)
