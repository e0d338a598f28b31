-- `frame::unconverted` meets its contract: the records of the rows so far were added.
use Rattle.rows.specs.Post.{GrownRecords}
use Rattle.reader.specs.Post.{unconverted_rows}
use Rattle.reader.proofs.frame.unconverted.Given as goal

abbrev pub invariant-loop-at : goal.invariant-loop-at
invariant-loop-at l = GrownRecords l.initial.records l.used l.records l.here (unconverted_rows l.rows 0 l.at)
