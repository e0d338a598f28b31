-- `put_lines` meets its contract: one line more each turn, until a byte is lost.
use Rattle.text.proofs.Laying.{parts_none, parts_more, parts_all, parts_lost}
use Rattle.text.proofs.Lines.{lines_start, lines_go_on, lines_end}
use Rattle.text.proofs.put_lines.Goals as goal

pub loop-n-init : goal.loop-n-init
loop-n-init c = parts_none (lines_start c.args.words.now c.args.width c.args.count)

pub returns-in_err-at : goal.returns-in_err-at
returns-in_err-at c =
    parts_lost c.from_residual.ensures
    (parts_more c.loop-n.invariant (lines_go_on c.args.words.now c.args.width c.args.count c.loop-n.n c.loop-n-test.true) c.in_err-at.ensures)

pub loop-n-preserved : goal.loop-n-preserved
loop-n-preserved c = parts_more c.loop-n.invariant (lines_go_on c.args.words.now c.args.width c.args.count c.loop-n.n c.loop-n-test.true) c.in_ok-at.ensures

pub returns : goal.returns
returns c = parts_all c.loop-n.invariant (lines_end c.args.words.now c.args.width c.args.count c.loop-n.n c.loop-n-test.false)
