-- `put_lines`: the lines of the groups before the index were added.
use Rattle.std.specs.Prelude.{Some}
use Rattle.std.proofs.Common.{◌-◌}
use Rattle.text.specs.Text.{lines_from}
use Rattle.text.proofs.Laying.{Parts}
use Rattle.text.proofs.put_lines.Given as goal

abbrev pub invariant-loop-n : goal.invariant-loop-n
invariant-loop-n l = Parts (lines_from l.words l.width 0 l.count) (lines_from l.words l.width l.n (l.count - l.n)) l.initial.out l.initial.at l.out (Some l.at)
