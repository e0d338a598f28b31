-- `checks::is_shallow` meets its contract: 32 tokens more each turn.
use Rattle.std.proofs.Common.{arith}
use Rattle.tokens.proofs.Nesting.{shallow_starts, shallow_passes, shallow_ends}
use Rattle.tokens.proofs.checks.is_shallow.Goals as goal

pub loop-chunk-init : goal.loop-chunk-init
loop-chunk-init c = shallow_starts (cc) (cc)

pub loop-chunk-preserved : goal.loop-chunk-preserved
loop-chunk-preserved c =
    let t = c.in-Some.ensures.steps in
    shallow_passes c.loop-chunk.invariant t.0 t.1.0 t.1.1 c.count_brackets-seen.ensures (omega arith) (omega arith)

pub returns : goal.returns
returns c = shallow_ends c.loop-chunk.invariant c.in-None.ensures.steps.1.0 (cc)
