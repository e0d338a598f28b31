-- `trees::well_formed` meets its contract: every row stands, and the last is as large as all.
use Rattle.std.proofs.Common.{ℕ, ◌<◌}
use Rattle.rows.specs.Part.{Stands}
use Rattle.trees.proofs.well_formed.Given as goal

abbrev pub invariant-loop-n : goal.invariant-loop-n
invariant-loop-n l = (m : ℕ) → m < l.n → Stands l.words m
