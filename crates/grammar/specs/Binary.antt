-- 13.6 to 13.13 Binary operators, by their levels: equal levels group left, `**` right.
use Rattle.std.specs.Prelude.{◌-◌, ◌+◌, ◌∷◌, ◌++◌, if◌then◌else◌}
use Rattle.rows.specs.Base.{ltb}
use Rattle.tokens.specs.Kind.{Question2, Amp2, Star2}
use Rattle.operators.specs.Precedence.{expression_level}
use Rattle.grammar.specs.Sheet.{ℕ, Bool, not, List, [], ◌and◌, ◌or◌, ◌is◌, between, Tree, node, one, cons, kind_of, mark_of, Record, mixed_coalesce, unary_power, Sheet, token, Reading, tree, ◌>>=◌, ◌>>◌, yield, say}
use Rattle.grammar.specs.Job.{binary, operators, unary, Asks}
use Rattle.rows.specs.Row as Row

unfoldable pub operation_kind : ℕ → ℕ  -- `??`, `||` and `&&` make a Logical row, all other operators a Binary one
operation_kind operator = if between Question2 Amp2 operator then Row.Logical else Row.Binary

-- the level above which an operator's right operand reads on: an operator of the same level is left to the left operand, but for `**`
unfoldable pub right_floor : ℕ → ℕ
right_floor operator = if operator is Star2 then expression_level operator - 1 else expression_level operator

unfoldable pub is_or_and : Sheet → Tree → Bool  -- a Logical row whose own operator is `||` or `&&`
is_or_and sheet t = kind_of t is Row.Logical and not (token sheet (mark_of t) is Question2)

-- 6: `??` with a bare `||` or `&&` operand (13.13 has no such production); 7: a bare Unary left of `**` (13.6 has none)
unfoldable pub operation_records : Sheet → ℕ → Tree → Tree → List Record
operation_records sheet at left right =
    (if token sheet at is Question2 and (is_or_and sheet left or is_or_and sheet right) then mixed_coalesce at ∷ [] else [])
    ++ (if token sheet at is Star2 and kind_of left is Row.Unary then unary_power at ∷ [] else [])

module _ {N : Type 0} (sheet : Sheet) (ask : Asks N) where
  unfoldable pub binary_of : ℕ → ℕ → Reading N  -- an operand, and the operators above a level that follow it
  binary_of floor at = do
    left ← ask (unary at)
    ask (operators floor at left.end (tree left))

  unfoldable pub operators_of : ℕ → ℕ → ℕ → Tree → Reading N
  operators_of floor first at left =
      if ltb floor (expression_level (token sheet at)) then (do
        right ← ask (binary (right_floor (token sheet at)) (at + 1))
        say (operation_records sheet at left (tree right))
        ask (operators floor first right.end (node (operation_kind (token sheet at)) at first right.end (cons left right.trees))))
      else yield at (one left)
