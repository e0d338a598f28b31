-- `put` meets its contract: a byte where the text ends, or the buffer is full.
use Rattle.text.proofs.Laying.{put_more, put_lost}
use Rattle.text.proofs.put.Goals as goal

pub returns-then-out-at : goal.returns-then-out-at
returns-then-out-at c = put_lost c.if-out-at.true

pub returns : goal.returns
returns c = put_more c.if-out-at.false
