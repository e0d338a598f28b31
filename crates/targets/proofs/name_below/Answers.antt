-- `targets::name_below` meets its contract.
use mathlib.Core.Path.{refl}
use native.Mathlib.Omega.{arith}
use borrow.Author.Tests.{eqb-true}
use Rattle.targets.proofs.ShortCuts.{if_found, named_first, named_last, last_low, first_low, first_room, word_inside, below_inside}
use Rattle.targets.proofs.name_below.Goals as goal

pub word_at-kind-requires : goal.word_at-kind-requires
word_at-kind-requires c = word_inside 0 c.requires (omega arith)

pub word_at-kids-requires : goal.word_at-kids-requires
word_at-kids-requires c = word_inside 4 c.requires (omega arith)

pub overflow_sub-root : goal.overflow_sub-root
overflow_sub-root c = first_low c.requires c.word_at-kind.ensures c.word_at-kids.ensures c.is_initialized.ensures c.if-is_initialized.true

pub word_at-size-requires : goal.word_at-size-requires
word_at-size-requires c = below_inside 5 c.requires (omega arith) (omega arith)

pub overflow_sub-name : goal.overflow_sub-name
overflow_sub-name c = (first_room c.requires c.word_at-kind.ensures c.word_at-kids.ensures c.is_initialized.ensures c.if-is_initialized.true c.word_at-size.ensures refl).0

pub overflow_sub-name-then-is_initialized : goal.overflow_sub-name-then-is_initialized
overflow_sub-name-then-is_initialized c = (first_room c.requires c.word_at-kind.ensures c.word_at-kids.ensures c.is_initialized.ensures c.if-is_initialized.true c.word_at-size.ensures refl).1

pub returns-then-is_initialized : goal.returns-then-is_initialized
returns-then-is_initialized c =
    if_found _ _ _ _ c.then_some.ensures
    (λ e. named_first c.word_at-kind.ensures c.word_at-kids.ensures c.is_initialized.ensures c.if-is_initialized.true c.word_at-size.ensures refl c.word_at.ensures (eqb-true _ _ e))

pub overflow_sub-root-2 : goal.overflow_sub-root-2
overflow_sub-root-2 c = last_low c.requires c.word_at-kids.ensures c.if-kids-eq0.false

pub returns : goal.returns
returns c =
    if_found _ _ _ _ c.then_some-2.ensures (λ e. named_last c.word_at-kind.ensures c.word_at-kids.ensures c.word_at-2.ensures c.ends_in_target.ensures e)

pub overflow_sub-root-3 : goal.overflow_sub-root-3
overflow_sub-root-3 c = last_low c.requires c.word_at-kids.ensures c.if-kids-eq0.false
