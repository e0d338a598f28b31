-- `operators::kind_to_precedence` meets its contract: the table's rule is one test over its 256 entries, which antt computes.
use Rattle.std.proofs.Common.{get_or, eqb, refl, ◌∙◌, ap, arith}
use borrow.Author.Tests.{eqb-true}
use Rattle.tokens.proofs.Table.{in_range}
use Rattle.operators.specs.Precedence.{level}
use Rattle.operators.specs.declared.TheConstants.{PRECEDENCE_TABLE}
use Rattle.operators.proofs.kind_to_precedence.Goals as goal

pub returns : goal.returns
unfolding level
returns c = let k = c.from.result in
    eqb-true _ _ (in_range (λ k. eqb (get_or PRECEDENCE_TABLE k 0) (level k)) 0 256 refl k (omega arith) (omega (arith, c.ranges.k, c.from.ensures))) ∙ ap level c.from.ensures
