-- `frame::unconverted` meets its contract: one row more each turn.
use Rattle.rows.proofs.Records.{grown_records_none}
use Rattle.reader.specs.Post.{unconverted_rows}
use Rattle.reader.proofs.Last.{lasting_fits, lasting_more}
use Rattle.reader.proofs.frame.unconverted.Goals as goal

pub loop-at-init : goal.loop-at-init
unfolding unconverted_rows
loop-at-init c = grown_records_none c.args.records.now c.args.used

pub unconverted_row-here-requires : goal.unconverted_row-here-requires
unconverted_row-here-requires c = lasting_fits c.requires c.loop-at.invariant c.loop-at.auto.records c.loop-at-test.true

pub loop-at-preserved : goal.loop-at-preserved
loop-at-preserved c = lasting_more c.args.rows.now c.loop-at.at c.loop-at.invariant c.unconverted_row-here.ensures
