-- `trees::well_formed` meets its contract: every row stands, and the last is as large as all.
use Rattle.std.proofs.Common.{arith}
use Rattle.trees.proofs.Walks.{never}
use Rattle.trees.proofs.Whole.{no_words, too_many, no_multiple, falls, last_says}
use Rattle.trees.proofs.well_formed.Goals as goal
use Rattle.trees.proofs.well_formed.Goals.{then-length-eq0-via-then-length-eq0, then-length-eq0-via-else-length-eq0+then-length-gt-MOST_WORDS, then-length-eq0-via-else-length-eq0+else-length-gt-MOST_WORDS+then-length-ne0}

pub returns-then-length-eq0 : goal.returns-then-length-eq0
returns-then-length-eq0 c =
    never (elim c.then-length-eq0.branch [
      | then-length-eq0-via-then-length-eq0 w ↦ no_words w.if-length-eq0.true
      | then-length-eq0-via-else-length-eq0+then-length-gt-MOST_WORDS w ↦ too_many w.if-length-gt-MOST_WORDS.true
      | then-length-eq0-via-else-length-eq0+else-length-gt-MOST_WORDS+then-length-ne0 w ↦ no_multiple w.if-length-ne0.true
    ])

pub returns-then-not-row_stands : goal.returns-then-not-row_stands
returns-then-not-row_stands c = never (falls c.loop-n-test.true (c.row_stands.ensures.fails c.if-not-row_stands.true))

pub returns : goal.returns
returns c = last_says c.if-length-eq0.false c.if-length-gt-MOST_WORDS.false c.if-length-ne0.false c.row_word.ensures.is (λ m l. c.loop-n.invariant m (omega (arith, c.loop-n-test.false)))
