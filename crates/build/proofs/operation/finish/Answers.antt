-- `operation::finish` meets its contract.
use Rattle.build.proofs.Steps.Operation.{finish_none, finish_says}
use Rattle.build.proofs.operation.finish.Goals as goal

pub returns-in-Some : goal.returns-in-Some
returns-in-Some c = finish_says _ c.requires (cc) (cc) c.over-done.ensures c.say.ensures

pub returns-in-None : goal.returns-in-None
returns-in-None c = finish_none _ c.requires (cc) (cc) c.over-done.ensures
