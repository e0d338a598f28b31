-- `targets::write_comma` meets its contract.
use Rattle.targets.proofs.Records.{written_none}
use Rattle.targets.proofs.write_comma.Goals as goal

pub returns-in-None : goal.returns-in-None
returns-in-None c = written_none (rw c.in-None.is)
