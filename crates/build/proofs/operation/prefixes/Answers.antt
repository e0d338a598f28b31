-- `operation::prefixes` meets its contract. The loop's invariant is `Prefixing`.
use native.Mathlib.Omega.{arith}
use Rattle.std.proofs.Common.{rules}
use Rattle.build.proofs.Steps.Prefixes.{prefixes_start, prefixes_done, prefixes_unary, prefixes_refuse, prefixes_update, prefixes_room, prefixes_few}
use Rattle.build.proofs.operation.prefixes.Goals as goal

pub loop-at-init : goal.loop-at-init
loop-at-init c = prefixes_start c.requires

pub convert_row-requires : goal.convert_row-requires
convert_row-requires c = prefixes_room c.requires c.loop-at.invariant

pub returns-in_err-count : goal.returns-in_err-count
returns-in_err-count c = prefixes_refuse c.requires c.loop-at.invariant c.loop-at-test.true (cc) c.convert_row.ensures c.in_err-count.was (search rules)

pub overflow_add-target : goal.overflow_add-target
overflow_add-target c = omega (arith, c.loop-at.invariant, c.requires, prefixes_few c.requires c.loop-at.invariant c.convert_row.ensures c.in_ok-count.was)

pub loop-at-preserved-then-is_update_operator : goal.loop-at-preserved-then-is_update_operator
loop-at-preserved-then-is_update_operator c = prefixes_update c.requires c.loop-at.invariant c.loop-at-test.true (cc) c.convert_row.ensures c.in_ok-count.was c.over-here.ensures c.convert_row.auto.rows c.convert_row.auto.records c.over-here.auto.rows

pub loop-at-preserved : goal.loop-at-preserved
loop-at-preserved c = prefixes_unary c.requires c.loop-at.invariant c.loop-at-test.true (cc) c.over-here-else-is_update_operator.ensures c.over-here-else-is_update_operator.auto.rows

pub returns : goal.returns
returns c = prefixes_done c.requires c.loop-at.invariant c.loop-at-test.false
