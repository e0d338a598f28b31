-- `operation::postfix` meets its contract.
use native.Mathlib.Omega.{arith}
use Rattle.std.proofs.Common.{rules}
use Rattle.build.proofs.Steps.Operation.{postfix_stays, postfix_refuses, postfix_updates, postfix_room, postfix_few, update_stands}
use Rattle.build.proofs.operation.postfix.Goals as goal

pub returns-then-not-is_update_operator : goal.returns-then-not-is_update_operator
returns-then-not-is_update_operator c = postfix_stays c.requires.operand_fits (search rules)

pub returns-then-flag_at-eq1 : goal.returns-then-flag_at-eq1
returns-then-flag_at-eq1 c = postfix_stays c.requires.operand_fits (search rules)

pub convert_row-requires : goal.convert_row-requires
convert_row-requires c = postfix_room c.requires.operand_fits

pub returns-in_err-count : goal.returns-in_err-count
returns-in_err-count c = postfix_refuses c.requires.operand_fits (search rules) c.convert_row.ensures c.in_err-count.was (search rules)

pub overflow_add-target : goal.overflow_add-target
overflow_add-target c = omega (arith, c.requires, postfix_few c.requires.operand_fits c.convert_row.ensures c.in_ok-count.was)

pub over-requires : goal.over-requires
over-requires c = omega (arith, c.requires, update_stands c.args.sheet.now.kinds.now c.args.d.at (cc), c.convert_row.auto, postfix_few c.requires.operand_fits c.convert_row.ensures c.in_ok-count.was)

pub returns : goal.returns
returns c = postfix_updates c.requires.operand_fits (search rules) c.convert_row.ensures c.in_ok-count.was c.over.ensures
