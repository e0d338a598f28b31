-- `walk::row_stands` meets its contract: a row stands exactly if its words are in order and its kids stand.
use Rattle.std.proofs.Common.{◌∙◌, sym}
use Rattle.trees.proofs.Walks.{too_few, no_size, too_long, by_kids, never}
use Rattle.trees.proofs.walk.row_stands.Goals as goal
use Rattle.trees.proofs.walk.row_stands.Goals.{then-not-is_enough-via-then-not-is_enough, then-not-is_enough-via-else-not-is_enough+then-size-eq0, then-not-is_enough-via-else-not-is_enough+else-size-eq0+then-row-size}

pub returns-then-not-is_enough : goal.returns-then-not-is_enough
returns-then-not-is_enough c =
    let kind = c.row_word-kind.ensures.is in
    let kids = c.from-kids.ensures ∙ c.row_word.ensures.is in
    let size = c.row_word-size.ensures.is in
    never (elim c.then-not-is_enough.branch [
      | then-not-is_enough-via-then-not-is_enough w ↦ too_few kind kids (sym c.is_enough.ensures ∙ w.if-not-is_enough.true)
      | then-not-is_enough-via-else-not-is_enough+then-size-eq0 w ↦ no_size kind kids size w.if-size-eq0.true
      | then-not-is_enough-via-else-not-is_enough+else-size-eq0+then-row-size w ↦ too_long kind kids size w.if-row-size.true
    ])

pub returns : goal.returns
returns c =
    by_kids c.row_word-kind.ensures.is (c.from-kids.ensures ∙ c.row_word.ensures.is) c.row_word-size.ensures.is (sym c.is_enough.ensures ∙ c.if-not-is_enough.false) c.if-size-eq0.false c.if-row-size.false c.requires.inside c.kids_stand.ensures
