-- `targets::turn_plain_array` meets its contract.
use mathlib.Core.Path.{refl}
use mathlib.Core.List.{[]}
use native.Mathlib.Omega.{arith}
use Rattle.std.specs.Prelude.{None}
use Rattle.roles.specs.declared.plan.Plan.TheVariants.{Array}
use Rattle.targets.proofs.Turning.{Step, turn_starts, turn_again, still, kid_there, kid_element, size_there, fits_below, row_inside}
use Rattle.targets.proofs.ShortCuts.{step_plain, one_name_set, element_here, word_inside}
use Rattle.targets.proofs.Elements.{plain_kids, plain_turned}
use Rattle.targets.proofs.turn_plain_array.Goals as goal
use Rattle.targets.proofs.turn_plain_array.Goals.{After-size_before-stop}

-- one kid is turned
one_step : (c : After-size_before-stop) → Step c.loop-stop.rows [] c.args.root (Array None) 0 c.loop-stop.stop c.set_kind.new.rows [] 0
one_step c = step_plain (element_here refl c.word_at.ensures (kid_element c.loop-stop.invariant c.first_row.ensures c.loop-stop-test.true (plain_kids c.requires) c.word_at.ensures c.requires.plain)) (one_name_set c.word_at.ensures c.named_kind-kind.ensures c.set_kind.ensures) refl refl refl

pub loop-stop-init : goal.loop-stop-init
loop-stop-init c = turn_starts (plain_kids c.requires) (omega arith)

pub first_row-requires : goal.first_row-requires
first_row-requires c = still c.loop-stop.invariant

pub word_at-requires : goal.word_at-requires
word_at-requires c = word_inside 0 (kid_there c.loop-stop.invariant c.first_row.ensures c.loop-stop-test.true) (omega arith)

pub set_kind-requires : goal.set_kind-requires
set_kind-requires c = row_inside (kid_there c.loop-stop.invariant c.first_row.ensures c.loop-stop-test.true) refl

pub size_before-stop-requires : goal.size_before-stop-requires
size_before-stop-requires c =
    let s : Step c.loop-stop.rows [] c.args.root (Array None) 0 c.loop-stop.stop c.set_kind.new.rows [] 0 =
    step_plain (element_here refl c.word_at.ensures (kid_element c.loop-stop.invariant c.first_row.ensures c.loop-stop-test.true (plain_kids c.requires) c.word_at.ensures c.requires.plain)) (one_name_set c.word_at.ensures c.named_kind-kind.ensures c.set_kind.ensures) refl refl refl in
    size_there c.loop-stop.invariant c.first_row.ensures c.loop-stop-test.true s.turned

pub overflow_sub-stop-in-loop-stop-2 : goal.overflow_sub-stop-in-loop-stop-2
overflow_sub-stop-in-loop-stop-2 c = let s = one_step c in omega (arith, fits_below c.loop-stop.invariant c.first_row.ensures c.loop-stop-test.true s.turned c.size_before-stop.ensures)

pub loop-stop-smaller : goal.loop-stop-smaller
loop-stop-smaller c = let s = one_step c in omega (arith, fits_below c.loop-stop.invariant c.first_row.ensures c.loop-stop-test.true s.turned c.size_before-stop.ensures)

pub loop-stop-preserved : goal.loop-stop-preserved
loop-stop-preserved c = let s = one_step c in turn_again c.loop-stop.invariant c.first_row.ensures c.loop-stop-test.true s.turned s.same_rows s.same_records c.size_before-stop.ensures

pub set_kind-requires-2 : goal.set_kind-requires-2
set_kind-requires-2 c = row_inside (still c.loop-stop.invariant) refl

pub returns : goal.returns
returns c = plain_turned c.requires c.loop-stop.invariant c.first_row.ensures c.loop-stop-test.false c.set_kind-2.ensures
