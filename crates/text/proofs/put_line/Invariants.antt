-- `put_line`: the words of the group before the index were added, each with a space.
use Rattle.std.specs.Prelude.{Some}
use Rattle.text.specs.Text.{line_of}
use Rattle.text.proofs.Laying.{Parts}
use Rattle.text.proofs.Lines.{line_left}
use Rattle.text.proofs.put_line.Given as goal

abbrev pub invariant-loop-i : goal.invariant-loop-i
invariant-loop-i l = Parts (line_of l.words l.width l.n) (line_left l.words l.width l.n l.i) l.initial.out l.initial.at l.out (Some l.at)
