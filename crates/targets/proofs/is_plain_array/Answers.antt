-- `targets::is_plain_array` meets its contract.
use native.Mathlib.Omega.{arith}
use Rattle.targets.proofs.Elements.{plain_starts, plain_again, plain_fails, plain_ends, kid_word, kid_inside, kid_fits}
use Rattle.targets.proofs.is_plain_array.Goals as goal

pub loop-end-init : goal.loop-end-init
loop-end-init c = plain_starts

pub word_at-kind-requires : goal.word_at-kind-requires
word_at-kind-requires c = kid_word c.loop-end.invariant c.first_row.ensures c.loop-end-test.true c.requires

pub returns-then-not-is_element : goal.returns-then-not-is_element
returns-then-not-is_element c = plain_fails c.loop-end.invariant c.first_row.ensures c.loop-end-test.true c.word_at-kind.ensures c.is_element.ensures c.if-not-is_element.true

pub size_before-end-requires : goal.size_before-end-requires
size_before-end-requires c = kid_inside c.loop-end.invariant c.first_row.ensures c.loop-end-test.true c.requires

pub overflow_sub-end-in-loop-end : goal.overflow_sub-end-in-loop-end
overflow_sub-end-in-loop-end c = omega (arith, kid_fits c.loop-end.invariant c.first_row.ensures c.loop-end-test.true c.requires c.size_before-end.ensures)

pub loop-end-smaller : goal.loop-end-smaller
loop-end-smaller c = omega (arith, kid_fits c.loop-end.invariant c.first_row.ensures c.loop-end-test.true c.requires c.size_before-end.ensures)

pub loop-end-preserved : goal.loop-end-preserved
loop-end-preserved c = plain_again c.loop-end.invariant c.first_row.ensures c.loop-end-test.true c.word_at-kind.ensures c.is_element.ensures c.if-not-is_element.false c.size_before-end.ensures

pub returns : goal.returns
returns c = plain_ends c.loop-end.invariant c.first_row.ensures c.loop-end-test.false
