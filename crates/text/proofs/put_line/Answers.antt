-- `put_line` meets its contract: one number more each turn, and the last with a newline.
use Rattle.std.proofs.Common.{refl, arith}
use Rattle.text.proofs.Laying.{parts_none, parts_more, parts_all, parts_lost}
use Rattle.text.proofs.Lines.{line_starts, line_goes_on, line_ends}
use Rattle.text.proofs.put_line.Goals as goal

pub loop-i-init : goal.loop-i-init
loop-i-init c = parts_none (line_starts c.args.words.now c.args.width c.args.n)

pub returns-in_err-at : goal.returns-in_err-at
returns-in_err-at c =
    parts_lost c.from_residual.ensures
    (parts_more c.loop-i.invariant (line_goes_on c.args.words.now c.args.width c.args.n c.loop-i.i c.loop-i-test.true c.word.ensures) c.in_err-at.ensures)

pub loop-i-preserved : goal.loop-i-preserved
loop-i-preserved c = parts_more c.loop-i.invariant (line_goes_on c.args.words.now c.args.width c.args.n c.loop-i.i c.loop-i-test.true c.word.ensures) c.in_ok-at.ensures

pub returns : goal.returns
returns c =
    parts_all
    (parts_more c.loop-i.invariant (line_ends c.args.words.now c.args.width c.args.n c.loop-i.i (omega arith) c.word-2.ensures) c.put_ended-2.ensures)
    refl
