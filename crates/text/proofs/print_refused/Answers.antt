-- `print_refused` meets its contract: the word, and the line of number and place.
use Rattle.std.proofs.Common.{sym}
use Rattle.text.specs.Text.{text}
use Rattle.text.proofs.Laying.{adds_then, adds_past, adds_as, prints}
use Rattle.text.proofs.Lines.{line_two}
use Rattle.text.proofs.print_refused.Goals as goal

pub returns-in_err-word : goal.returns-in_err-word
unfolding text
returns-in_err-word c = prints (adds_past _ c.from_residual.ensures c.in_err-word.ensures)

pub returns-in_err-first : goal.returns-in_err-first
unfolding text
returns-in_err-first c =
    rw (sym c.number.ensures)
    (prints (adds_then c.in_ok-word.ensures (adds_as (line_two _ _) (adds_past _ c.from_residual-in_err-first.ensures c.in_err-first.ensures))))

pub returns : goal.returns
unfolding text
returns c =
    rw (sym c.number.ensures, sym c.place.ensures)
    (prints (adds_then c.in_ok-word.ensures (adds_as (line_two _ _) (adds_then c.in_ok-first.ensures c.put_ended-2.ensures))))
