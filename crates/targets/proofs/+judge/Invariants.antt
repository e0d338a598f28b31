-- `targets::judge` meets its contract: its only call is of itself, and the size word of the row falls.
use Prim.Native.Nat.{◌+◌, ◌*◌}
use lib.ListN.{get_or}
use Rattle.targets.proofs.Judging.{Judging}
use Rattle.targets.proofs.+judge.Given as goal

-- the size word of the row
abbrev pub decreases-judge : goal.decreases-judge
decreases-judge l = get_or l.rows.now (6 * l.root + 5) 0

-- those kids are judged that stand after the row `end`
abbrev pub invariant-loop-end : goal.invariant-loop-end
invariant-loop-end l = Judging l.rows l.root l.of l.initial.found l.end l.found

-- the rows before it
abbrev pub decreases-loop-end : goal.decreases-loop-end
decreases-loop-end l = l.end
