-- `put_number` meets its contract: the digits of a tenth, and then the last digit.
use Rattle.std.proofs.Common.{sym}
use Rattle.text.proofs.Decimal.{one_digit, more_digits}
use Rattle.text.proofs.Laying.{adds_then, adds_past, adds_as}
use Rattle.text.proofs.+put_number.Goals as goal

pub returns-then-n-lt10 : goal.returns-then-n-lt10
returns-then-n-lt10 t c = adds_as (sym (one_digit _ c.if-n-lt10.true)) c.put.ensures

pub returns-in_err-last : goal.returns-in_err-last
returns-in_err-last t c = adds_as (sym (more_digits _ c.if-n-lt10.false)) (adds_past _ c.from_residual.ensures c.in_err-last.ensures)

pub returns : goal.returns
returns t c = adds_as (sym (more_digits _ c.if-n-lt10.false)) (adds_then c.in_ok-last.ensures c.put-2.ensures)
