-- `targets::write_record` meets its contract.
use Rattle.targets.proofs.Records.{written_one}
use Rattle.targets.proofs.write_record.Goals as goal

pub returns : goal.returns
returns c = written_one c.requires
