-- `shape::ending` meets its contract: what stands at the end is what has kinds.
use Rattle.trees.proofs.Shapes.{ending_cell}
use Rattle.trees.proofs.shape.ending.Goals as goal

pub returns-clause-is : goal.returns-clause-is
returns-clause-is c = ending_cell _ c.last.ensures c.from.ensures
