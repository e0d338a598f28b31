-- `targets::convert_row` meets its contract.
use Rattle.std.proofs.lemmas.Result.{err_from_is_err_and}
use mathlib.Core.Path.{refl}
use native.Mathlib.Omega.{arith}
use Rattle.targets.proofs.Judging.{none_counted}
use Rattle.targets.proofs.Turning.{row_inside}
use Rattle.targets.proofs.Converting.{convert_ready, convert_fails, convert_done, convert_reference}
use Rattle.targets.proofs.ShortCuts.{word_inside}
use Rattle.targets.proofs.Elements.{plain_ready, convert_plain}
use Rattle.targets.proofs.convert_row.Goals as goal

pub word_at-kind-requires : goal.word_at-kind-requires
word_at-kind-requires c = word_inside 0 c.requires.rooted (omega arith)

pub set_kind-requires : goal.set_kind-requires
set_kind-requires c = row_inside c.requires.rooted refl

pub returns-then-is_reference : goal.returns-then-is_reference
returns-then-is_reference c = convert_reference c.args.simple c.word_at-kind.ensures c.is_reference.ensures c.if-is_reference.true c.named_kind.ensures c.set_kind.ensures

pub turn_plain_array-requires : goal.turn_plain_array-requires
turn_plain_array-requires c = plain_ready c.requires.rooted c.word_at-kind.ensures c.if-kind-eq-ARRAY.true c.is_plain_array.ensures c.if-is_plain_array.true

pub returns-then-is_plain_array : goal.returns-then-is_plain_array
returns-then-is_plain_array c = convert_plain c.args.simple c.if-not-simple.true c.word_at-kind.ensures c.if-kind-eq-ARRAY.true c.is_plain_array.ensures c.if-is_plain_array.true c.turn_plain_array.ensures

pub judge-requires : goal.judge-requires
judge-requires c = record { rooted = c.requires.rooted; counted = none_counted c.requires.rooted (omega arith) }

pub returns-in_err-count : goal.returns-in_err-count
returns-in_err-count c =
    let p = err_from_is_err_and c.from_residual.result c.from_residual.ensures.1 in
    rw (p.1, p.2) (convert_fails c.args.simple c.aimed-under.ensures c.judge.ensures c.in_err-count.was)

pub overflow_add-used : goal.overflow_add-used
overflow_add-used c = omega (arith, (convert_ready c.args.simple c.aimed-under.ensures c.judge.ensures c.requires c.in_ok-count.was).inside)

pub turn-requires : goal.turn-requires
turn-requires c = convert_ready c.args.simple c.aimed-under.ensures c.judge.ensures c.requires c.in_ok-count.was

pub returns : goal.returns
returns c = convert_done c.args.simple c.aimed-under.ensures c.judge.ensures c.in_ok-count.was c.turn.ensures
