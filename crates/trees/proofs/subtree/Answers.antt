-- `trees::subtree` meets its contract: the part that ends with the row, of a well-formed tree.
use Rattle.std.proofs.Common.{refl, arith}
use Rattle.trees.proofs.Whole.{outside, inside, size_small, none_handed, own_handed}
use Rattle.trees.proofs.subtree.Goals as goal
use Rattle.trees.proofs.subtree.Goals.{then-not-well_formed-via-then-not-well_formed, then-not-well_formed-via-else-not-well_formed+then-tree-row}

pub returns-then-not-well_formed : goal.returns-then-not-well_formed
returns-then-not-well_formed c =
    none_handed (elim c.then-not-well_formed.branch [
      | then-not-well_formed-via-then-not-well_formed w ↦ (λ i. c.well_formed-2.ensures.fails w.if-not-well_formed.true i.whole)
      | then-not-well_formed-via-else-not-well_formed+then-tree-row w ↦ outside w.if-tree-row.true
    ]) refl (record { memory = refl; place = omega arith })

pub overflow_sub-low : goal.overflow_sub-low
overflow_sub-low c = omega (arith, size_small (inside (c.well_formed-2.ensures.holds c.if-not-well_formed.false) c.if-tree-row.false) c.row_word-size.ensures.is)

pub returns : goal.returns
returns c = own_handed (inside (c.well_formed-2.ensures.holds c.if-not-well_formed.false) c.if-tree-row.false) c.row_word-size.ensures.is refl (record { memory = refl; place = omega arith })
