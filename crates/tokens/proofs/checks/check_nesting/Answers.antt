-- `checks::check_nesting` meets its contract: one token more each turn.
use Rattle.tokens.proofs.Nesting.{nested_starts, nested_finds, nested_passes, nested_ends}
use Rattle.tokens.proofs.checks.check_nesting.Goals as goal

pub loop-place-init : goal.loop-place-init
loop-place-init c = nested_starts

pub returns-then-depth-gt64 : goal.returns-then-depth-gt64
returns-then-depth-gt64 c = nested_finds c.loop-place.invariant c.loop-place-test.true c.depth_after-depth.ensures c.if-depth-gt64.true

pub loop-place-preserved : goal.loop-place-preserved
loop-place-preserved c = nested_passes c.loop-place.invariant c.loop-place-test.true c.depth_after-depth.ensures c.if-depth-gt64.false

pub returns : goal.returns
returns c = nested_ends c.loop-place.invariant c.loop-place-test.false
