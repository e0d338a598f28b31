-- `walk::kids_stand` meets its contract: the loop finds the kids from the last to the first.
use Rattle.std.proofs.Common.{◌-◌, arith}
use Rattle.trees.proofs.Walks.{walk_none, walk_more, walk_end, none_left, too_large, misplaced, kid_size, told, never}
use Rattle.trees.proofs.walk.kids_stand.Goals as goal
use Rattle.trees.proofs.walk.kids_stand.Goals.{then-top-low-2-via-then-top-low-2, then-top-low-2-via-else-top-low-2+then-not-kid_fits}

pub loop-after-init : goal.loop-after-init
loop-after-init c = walk_none c.requires.low_le_row (omega (arith, c.requires.before.inside))

pub returns-then-top-low : goal.returns-then-top-low
returns-then-top-low c = never (none_left c.loop-after.invariant c.loop-after-test.true c.if-top-low.true)

pub returns-then-top-low-2 : goal.returns-then-top-low-2
returns-then-top-low-2 c =
    let v = c.loop-after.invariant in
    let stand = c.requires.before.stand (c.loop-after.top - 1) (omega (arith, c.if-top-low.false, v.top_row)) in
    let size = kid_size c.row_word-size.ensures.is stand in
    never (elim c.then-top-low-2.branch [
      | then-top-low-2-via-then-top-low-2 w ↦ too_large v c.loop-after-test.true stand size w.if-top-low-2.true
      | then-top-low-2-via-else-top-low-2+then-not-kid_fits w ↦ misplaced v c.loop-after-test.true stand size (told w.kid_fits.ensures w.if-not-kid_fits.true stand)
    ])

pub loop-after-preserved : goal.loop-after-preserved
loop-after-preserved c =
    let v = c.loop-after.invariant in
    let stand = c.requires.before.stand (c.loop-after.top - 1) (omega (arith, c.if-top-low.false, v.top_row)) in
    walk_more v c.loop-after-test.true stand (kid_size c.row_word-size.ensures.is stand) c.if-top-low.false c.if-top-low-2.false (told c.kid_fits.ensures c.if-not-kid_fits.false stand)

pub returns : goal.returns
returns c = walk_end c.loop-after.invariant c.loop-after-test.false
