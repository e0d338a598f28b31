-- `waiting::finish_parts` meets its contract. The loop's invariant is `Finishing`.
use Rattle.waiting.proofs.Groups.{finishing_fits, finishing_place, finishing_made, finishing_stops, finishing_ends}
use Rattle.waiting.proofs.finish_parts.Goals as goal

pub otherwise-requires-clause-at_bound : goal.otherwise-requires-clause-at_bound
otherwise-requires-clause-at_bound c = finishing_place c.loop-top.invariant c.requires c.loop-top-test.true c.if-rows-top-eq-CHOICE.true

pub returns-then-rows-top-eq-CHOICE : goal.returns-then-rows-top-eq-CHOICE
returns-then-rows-top-eq-CHOICE c = finishing_stops c.loop-top.invariant c.loop-top-test.true c.if-rows-top-eq-CHOICE.true c.otherwise.ensures c.otherwise.auto.rows

pub finish_part-c-requires : goal.finish_part-c-requires
finish_part-c-requires c = finishing_fits c.loop-top.invariant c.requires c.loop-top-test.true c.if-rows-top-eq-CHOICE.false

pub loop-top-preserved : goal.loop-top-preserved
loop-top-preserved c = finishing_made c.loop-top.invariant c.loop-top-test.true c.if-rows-top-eq-CHOICE.false c.finish_part-c.ensures c.finish_part-c.auto.rows

pub returns : goal.returns
returns c = finishing_ends c.loop-top.invariant c.loop-top-test.false
