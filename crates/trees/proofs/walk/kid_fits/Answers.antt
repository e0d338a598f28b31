-- `trees::walk::kid_fits` meets its contract.
use Rattle.trees.proofs.Walks.{kid_fits}
use Rattle.trees.proofs.walk.kid_fits.Goals as goal

pub returns : goal.returns
returns c = kid_fits c.row_word-kid.ensures.is c.last_kind-last.ensures c.fits.ensures
