-- 13.16 Comma operator.
use Rattle.std.specs.Prelude.{◌+◌, if◌then◌else◌}
use Rattle.tokens.specs.Kind.{Comma}
use Rattle.grammar.specs.Sheet.{ℕ, ◌is◌, Forest, join, Sheet, token, Reading, ◌>>=◌, yield, make}
use Rattle.grammar.specs.Job.{assignment, sequence, Asks}
use Rattle.rows.specs.Row as Row

module _ {N : Type 0} (sheet : Sheet) (ask : Asks N) where
  unfoldable pub expression_of : ℕ → Reading N  -- 13.16 Expression : AssignmentExpression | Expression , AssignmentExpression
  expression_of at = do
    part ← ask (assignment at)
    if token sheet part.end is Comma then ask (sequence at part.end part.end part.trees) else yield part.end part.trees

  -- the Sequence that began at `first`, whose first comma is known: its parts so far end here
  unfoldable pub sequence_of : ℕ → ℕ → ℕ → Forest → Reading N
  sequence_of first comma at so_far =
      if token sheet at is Comma then (do
        part ← ask (assignment (at + 1))
        ask (sequence first comma part.end (join so_far part.trees)))
      else make Row.Sequence comma first at so_far
