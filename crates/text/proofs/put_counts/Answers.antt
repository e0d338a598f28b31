-- `put_counts` meets its contract: the line of three numbers.
use Rattle.text.proofs.Laying.{adds_then, adds_past, adds_as}
use Rattle.text.proofs.Lines.{line_three}
use Rattle.text.proofs.put_counts.Goals as goal

pub returns-in_err-first : goal.returns-in_err-first
returns-in_err-first c = adds_as (line_three _ _ _) (adds_past _ c.from_residual.ensures c.in_err-first.ensures)

pub returns-in_err-second : goal.returns-in_err-second
returns-in_err-second c = adds_as (line_three _ _ _) (adds_then c.in_ok-first.ensures (adds_past _ c.from_residual-in_err-second.ensures c.in_err-second.ensures))

pub returns : goal.returns
returns c = adds_as (line_three _ _ _) (adds_then c.in_ok-first.ensures (adds_then c.in_ok-second.ensures c.put_ended-3.ensures))
