-- `heads::way_at` meets its contract.
use native.Mathlib.Omega.{arith}
use Rattle.heads.proofs.Opens.{open_stands}
use Rattle.heads.proofs.way_at.Goals as goal

pub bounds-notes-at : goal.bounds-notes-at
bounds-notes-at c = omega (arith, open_stands c.args.sheet.now.kinds.now c.args.at (cc), c.requires)
