-- `put_all` meets its contract: one byte more each turn, until one is lost.
use Rattle.std.proofs.Common.{add-one, drop-cons}
use Rattle.text.proofs.Laying.{parts_more, parts_lost}
use Rattle.text.proofs.put_all.Goals as goal

pub returns-in_err-at : goal.returns-in_err-at
returns-in_err-at c = parts_lost c.from_residual.ensures (parts_more c.loop-byte.invariant (drop-cons c.args.bytes.now c.loop-byte.byte-index 0 c.loop-byte-test.true) c.in_err-at.ensures)

pub loop-byte-preserved : goal.loop-byte-preserved
loop-byte-preserved c = parts_more c.loop-byte.invariant (rw add-one (drop-cons c.args.bytes.now c.loop-byte.byte-index 0 c.loop-byte-test.true)) c.in_ok-at.ensures
