-- `trees::walk::last_kind` meets its contract: the row just below a row with kids is its last kid.
use mathlib.Core.Path.{◌∙◌, sym}
use Rattle.trees.proofs.Walks.{no_last, has_row_before, last_before}
use Rattle.trees.proofs.walk.last_kind.Goals as goal

pub returns : goal.returns
returns c = let pre = c.requires in
    last_before (λ e. c.if-row_word-eq0.false (c.row_word.ensures.is ∙ e)) (has_row_before (λ e. c.if-row_word-eq0.false (c.row_word.ensures.is ∙ e)) (pre)) c.row_word-2.ensures.is

pub returns-then-row_word-eq0 : goal.returns-then-row_word-eq0
returns-then-row_word-eq0 c = no_last (sym c.row_word.ensures.is ∙ c.if-row_word-eq0.true)

pub overflow_sub-row : goal.overflow_sub-row
overflow_sub-row c = has_row_before (λ e. c.if-row_word-eq0.false (c.row_word.ensures.is ∙ e)) c.requires
