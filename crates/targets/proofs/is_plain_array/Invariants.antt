-- `targets::is_plain_array` meets its contract.
use Rattle.targets.proofs.Elements.{Plainly}
use Rattle.targets.proofs.is_plain_array.Given as goal

-- the kids after the row `end` are elements
abbrev pub invariant-loop-end : goal.invariant-loop-end
invariant-loop-end l = Plainly l.rows l.root l.end

-- the rows before it
abbrev pub decreases-loop-end : goal.decreases-loop-end
decreases-loop-end l = l.end
