-- `waiting::follow` meets its contract. The loop's invariant is `Following`.
use Rattle.waiting.proofs.Groups.{follow_fits, follow_made, follow_waits, follow_operand, follow_level, follow_ends}
use Rattle.waiting.proofs.follow.Goals as goal

pub finish_operation-group-requires : goal.finish_operation-group-requires
finish_operation-group-requires c = follow_fits c.loop-rows.invariant c.expression_precedence-level.result (cc) c.requires (cc)

pub loop-rows-preserved : goal.loop-rows-preserved
loop-rows-preserved c = follow_made c.loop-rows.invariant c.expression_precedence-level.result (cc) (cc) c.finish_operation-group.ensures c.finish_operation-group.auto.rows c.finish_operation-group.auto.records

pub wait_operand-requires : goal.wait_operand-requires
wait_operand-requires c = follow_waits c.loop-rows.invariant c.requires

pub returns-then-level-ne0 : goal.returns-then-level-ne0
returns-then-level-ne0 c = follow_operand c.loop-rows.invariant c.expression_precedence-level.result (cc) (cc) c.if-level-ne0.true c.wait_operand.ensures c.wait_operand.auto.rows

pub after_binary-requires : goal.after_binary-requires
after_binary-requires c = follow_level c.loop-rows.invariant c.expression_precedence-level.result (cc) c.requires (cc) c.if-level-ne0.false

pub returns : goal.returns
returns c = follow_ends c.loop-rows.invariant c.expression_precedence-level.result (cc) (cc) c.if-level-ne0.false c.after_binary.ensures
