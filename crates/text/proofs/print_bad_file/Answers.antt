-- `print_bad_file` meets its contract.
use Rattle.text.proofs.Laying.{prints}
use Rattle.text.proofs.print_bad_file.Goals as goal

pub returns : goal.returns
returns c = prints c.put_all.ensures
