-- `waiting::wait_right` meets its contract.
use Prim.Native.Nat.{◌*◌}
use native.Mathlib.Omega.{arith}
use lib.Seq.{length-take-le}
use Rattle.waiting.proofs.Value.{assigned_room, assigned_few}
use Rattle.waiting.proofs.wait_right.Goals as goal

pub convert_row-requires : goal.convert_row-requires
convert_row-requires c = assigned_room c.requires.room c.requires.operand (omega (arith, c.requires, length-take-le (6 * c.args.left.top) c.args.rows.now (omega (arith, c.requires))))

pub overflow_add-here-2 : goal.overflow_add-here-2
overflow_add-here-2 c = omega (arith, c.requires, assigned_few c.requires.room c.requires.operand c.kind_at-plain.ensures (omega (arith, c.requires)) c.convert_row.ensures c.in_ok-count.was)
