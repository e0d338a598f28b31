-- `shape::is_enough` meets its contract.
use Rattle.std.proofs.Common.{sym, ◌∙◌}
use Rattle.trees.proofs.Shapes.{enough}
use Rattle.trees.proofs.shape.is_enough.Goals as goal

pub returns-then-is_listed : goal.returns-then-is_listed
returns-then-is_listed c = rw (sym c.is_listed.ensures ∙ c.if-is_listed.true) (enough c.args.kids c.front.ensures.is c.ending.ensures.is)
