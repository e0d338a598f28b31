-- `put_ended` meets its contract.
use Rattle.text.proofs.Laying.{adds_then, adds_past}
use Rattle.text.proofs.put_ended.Goals as goal

pub returns-in_err-after : goal.returns-in_err-after
returns-in_err-after c = adds_past _ c.from_residual.ensures c.in_err-after.ensures

pub returns : goal.returns
returns c = adds_then c.in_ok-after.ensures c.put.ensures
