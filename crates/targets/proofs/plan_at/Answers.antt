-- `targets::plan_at` meets its contract.
use native.Mathlib.Omega.{arith}
use Rattle.targets.proofs.Looking.{has_kid, plan_seen, sees_none, sees_last}
use Rattle.targets.proofs.ShortCuts.{word_inside, below_inside}
use Rattle.targets.proofs.plan_at.Goals as goal
use Rattle.targets.proofs.plan_at.Goals.{then-kids-ne0, else-kids-ne0}

pub word_at-kind-requires : goal.word_at-kind-requires
word_at-kind-requires c = word_inside 0 c.requires (omega arith)

pub word_at-mark-requires : goal.word_at-mark-requires
word_at-mark-requires c = word_inside 1 c.requires (omega arith)

pub word_at-first-requires : goal.word_at-first-requires
word_at-first-requires c = word_inside 2 c.requires (omega arith)

pub word_at-kids-requires : goal.word_at-kids-requires
word_at-kids-requires c = word_inside 4 c.requires (omega arith)

pub overflow_sub-root : goal.overflow_sub-root
overflow_sub-root c = has_kid c.requires c.word_at-kids.ensures c.if-kids-ne0.true

pub overflow_sub-root-then-kids-ne0 : goal.overflow_sub-root-then-kids-ne0
overflow_sub-root-then-kids-ne0 c = has_kid c.requires c.word_at-kids.ensures c.if-kids-ne0.true

pub word_at-below-requires : goal.word_at-below-requires
word_at-below-requires c = below_inside 0 c.requires (omega arith) (omega arith)

pub word_at-begins-requires : goal.word_at-begins-requires
word_at-begins-requires c = below_inside 2 c.requires (omega arith) (omega arith)

pub returns : goal.returns
returns c =
    plan_seen c.word_at-kind.ensures c.word_at-mark.ensures c.word_at-first.ensures c.word_at-kids.ensures
    (elim c.if-kids-ne0.branch [
      | then-kids-ne0 w ↦ sees_last c.word_at-kids.ensures w.if-kids-ne0.true w.word_at-below.ensures w.word_at-begins.ensures w.below-is w.begins-is
      | else-kids-ne0 w ↦ sees_none c.word_at-kids.ensures w.if-kids-ne0.false w.below-is w.begins-is
    ])
    c.of_kid.ensures
