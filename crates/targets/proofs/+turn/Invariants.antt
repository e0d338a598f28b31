-- `targets::turn` meets its contract: its only call is of itself, and the size word of the row falls.
use Prim.Native.Nat.{◌+◌, ◌*◌}
use lib.ListN.{get_or}
use Rattle.targets.proofs.Turning.{Turning}
use Rattle.targets.proofs.+turn.Given as goal

-- the size word of the row
abbrev pub decreases-turn : goal.decreases-turn
decreases-turn l = get_or l.rows.now (6 * l.root + 5) 0

-- those kids are turned that stand after the row `stop`, and their records stand from `start` on
abbrev pub invariant-loop-stop : goal.invariant-loop-stop
invariant-loop-stop l = Turning l.initial.rows l.root l.initial.records l.of l.initial.start l.rows l.records l.start l.stop

-- the rows before it
abbrev pub decreases-loop-stop : goal.decreases-loop-stop
decreases-loop-stop l = l.stop
