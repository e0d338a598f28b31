-- `operators::expression_precedence` meets its contract: in each of the four ranges of kinds by one test, which antt computes.
use Rattle.std.proofs.Common.{◌-◌, ◌*◌, ◌/◌, ◌%◌, ◌^◌, eqb, refl, ◌∙◌, arith}
use borrow.Author.Tests.{eqb-true}
use Rattle.tokens.proofs.Table.{in_range}
use Rattle.operators.specs.Precedence.{level, expression_level}
use Rattle.operators.specs.declared.TheConstants.{COALESCE_TO_IN_LEVELS, SHIFT_TO_POWER_LEVELS}
use Rattle.operators.proofs.expression_precedence.Goals as goal

-- none below `??`
pub returns-then-k-lt-QUESTION2 : goal.returns-then-k-lt-QUESTION2
unfolding expression_level level
returns-then-k-lt-QUESTION2 c = eqb-true _ _ (in_range (λ k. eqb 0 (expression_level k)) 0 38 refl c.args.k (omega arith) (omega arith))

pub returns-then-k-le-IN : goal.returns-then-k-le-IN
unfolding expression_level level
returns-then-k-le-IN c =
    c.level_at.ensures ∙ eqb-true _ _ (in_range (λ k. eqb (COALESCE_TO_IN_LEVELS / 2 ^ (4 * (k - 38)) % 16) (expression_level k)) 38 16 refl c.args.k (omega arith) (omega arith))

pub returns-then-k-le-STAR2 : goal.returns-then-k-le-STAR2
unfolding expression_level level
returns-then-k-le-STAR2 c =
    c.level_at-then-k-le-STAR2.ensures
    ∙ eqb-true _ _ (in_range (λ k. eqb (SHIFT_TO_POWER_LEVELS / 2 ^ (4 * (k - 54)) % 16) (expression_level k)) 54 9 refl c.args.k (omega arith) (omega arith))

-- none above `**`
pub returns : goal.returns
unfolding expression_level level
returns c = eqb-true _ _ (in_range (λ k. eqb 0 (expression_level k)) 63 193 refl c.args.k (omega arith) (omega (arith, c.ranges.k)))
