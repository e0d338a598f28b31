-- `walk::kids_stand` meets its contract: the loop finds the kids from the last to the first.
use Rattle.trees.proofs.Walks.{Walked}
use Rattle.trees.proofs.walk.kids_stand.Given as goal

abbrev pub invariant-loop-after : goal.invariant-loop-after
invariant-loop-after l = Walked l.words l.kind l.kids l.low l.row l.top l.after
