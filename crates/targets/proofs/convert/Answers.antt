-- `targets::convert` meets its contract.
use mathlib.Core.Path.{refl}
use native.Mathlib.Omega.{arith}
use Rattle.targets.proofs.Entering.{enter_tree, enter_outside, Passed, passed, enter_room, enter_ready, enter_refused, enter_few, enter_read}
use Rattle.targets.proofs.convert.Goals as goal
use Rattle.targets.proofs.convert.Goals.{After-row_word-size}

-- the checks 1, 13 and 14 are passed
ready : (c : After-row_word-size) → Passed c.args.tree.now c.args.row
ready c = passed c.if-length-eq0.false c.if-length-gt12288.false c.well_formed-2.ensures c.if-not-well_formed.false c.if-length-row.false

pub returns-then-length-row : goal.returns-then-length-row
returns-then-length-row c = enter_outside c.if-length-eq0.false c.if-length-gt12288.false c.well_formed-2.ensures c.if-not-well_formed.false c.if-length-row.true

pub returns-then-records-size : goal.returns-then-records-size
returns-then-records-size c = enter_room (ready (goal.at.returns-then-records-size c).After-row_word-size) c.row_word-size.ensures refl c.if-records-size.true

pub returns-then-not-well_formed : goal.returns-then-not-well_formed
returns-then-not-well_formed c = enter_tree c.if-length-eq0.false c.if-length-gt12288.false c.well_formed-2.ensures c.if-not-well_formed.true

pub convert_row-requires : goal.convert_row-requires
convert_row-requires c = enter_ready (ready (goal.at.convert_row-requires c).After-row_word-size) c.row_word-size.ensures refl c.if-records-size.false

pub returns-in-Err : goal.returns-in-Err
returns-in-Err c = enter_refused (ready (goal.at.returns-in-Err c).After-row_word-size) c.row_word-size.ensures refl c.if-records-size.false c.convert_row.ensures c.in-Err.is

pub overflow_mul-count : goal.overflow_mul-count
overflow_mul-count c = omega (arith, enter_few (ready (goal.at.overflow_mul-count c).After-row_word-size) c.row_word-size.ensures refl c.if-records-size.false c.convert_row.ensures c.in-Ok.is)

pub returns-in-Ok : goal.returns-in-Ok
returns-in-Ok c = enter_read (ready (goal.at.returns-in-Ok c).After-row_word-size) c.row_word-size.ensures refl c.if-records-size.false c.convert_row.ensures c.in-Ok.is c.convert_row.auto.records c.clear_from.ensures
