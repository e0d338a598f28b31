-- `targets::turn_plain_array` meets its contract.
use mathlib.Core.List.{[]}
use Rattle.std.specs.Prelude.{None}
use Rattle.roles.specs.declared.plan.Plan.TheVariants.{Array}
use Rattle.targets.proofs.Turning.{Turning}
use Rattle.targets.proofs.turn_plain_array.Given as goal

-- those kids are turned that stand after the row `stop`
abbrev pub invariant-loop-stop : goal.invariant-loop-stop
invariant-loop-stop l = Turning l.initial.rows l.root [] (Array None) 0 l.rows [] 0 l.stop

-- the rows before it
abbrev pub decreases-loop-stop : goal.decreases-loop-stop
decreases-loop-stop l = l.stop
