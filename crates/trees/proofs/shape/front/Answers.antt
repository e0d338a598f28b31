-- `shape::front` meets its contract: what stands in front is what has kinds.
use Rattle.trees.proofs.Shapes.{front_three, front_two, front_one}
use Rattle.trees.proofs.shape.front.Goals as goal

pub returns-then-third-ne0-clause-is : goal.returns-then-third-ne0-clause-is
returns-then-third-ne0-clause-is c = front_three _ c.third.ensures c.if-third-ne0.true

pub returns-then-second-ne0-clause-is : goal.returns-then-second-ne0-clause-is
returns-then-second-ne0-clause-is c = front_two _ c.third.ensures c.if-third-ne0.false c.second.ensures c.if-second-ne0.true

pub returns-clause-is : goal.returns-clause-is
returns-clause-is c = front_one _ c.third.ensures c.if-third-ne0.false c.second.ensures c.if-second-ne0.false c.first.ensures c.from.ensures
