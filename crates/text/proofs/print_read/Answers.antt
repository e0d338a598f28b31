-- `print_read` meets its contract: the word, the counts, the rows and the records.
use Rattle.text.specs.Text.{text}
use Rattle.text.proofs.Laying.{adds_then, adds_past, prints}
use Rattle.text.proofs.print_read.Goals as goal

pub returns-in_err-word : goal.returns-in_err-word
unfolding text
returns-in_err-word c = prints (adds_past _ c.from_residual.ensures c.in_err-word.ensures)

pub returns-in_err-head : goal.returns-in_err-head
unfolding text
returns-in_err-head c = prints (adds_then c.in_ok-word.ensures (adds_past _ c.from_residual-in_err-head.ensures c.in_err-head.ensures))

pub returns-in_err-tree : goal.returns-in_err-tree
unfolding text
returns-in_err-tree c = prints (adds_then c.in_ok-word.ensures (adds_then c.in_ok-head.ensures (adds_past _ c.from_residual-in_err-tree.ensures c.in_err-tree.ensures)))

pub returns : goal.returns
unfolding text
returns c = prints (adds_then c.in_ok-word.ensures (adds_then c.in_ok-head.ensures (adds_then c.in_ok-tree.ensures c.put_lines-2.ensures)))
