-- 13.4 Update expressions and 13.5 unary operators.
use Rattle.std.specs.Prelude.{◌+◌, if◌then◌else◌}
use Rattle.tokens.specs.Kind.{Bang, Delete, Plus, Minus, Plus2, Minus2}
use Rattle.conversion.specs.Conversion.{Role, simple, Outcome, turned, refused, convert_as}
use Rattle.grammar.specs.Sheet.{ℕ, Bool, not, ◌and◌, ◌or◌, ◌is◌, between, Tree, one, Sheet, token, break_before, done, fail, Reading, tree, ◌>>=◌, yield, make}
use Rattle.grammar.specs.Job.{unary, postfix, left_hand_side, Asks}
use Rattle.rows.specs.Row as Row

unfoldable pub is_unary_operator : ℕ → Bool  -- 13.5 delete void typeof + - ~ !
is_unary_operator k = between Bang Delete k or k is Plus or k is Minus

unfoldable pub is_update_operator : ℕ → Bool  -- 13.4 ++ --
is_update_operator k = k is Plus2 or k is Minus2

module _ {N : Type 0} where
  unfoldable pub converted_to : ℕ → Outcome Tree → Reading N
  converted_to end (turned target records) notes = done end (one target) records notes
  converted_to end (refused cause) notes = fail cause notes

  abbrev pub converted : Role → ℕ → Tree → Reading N  -- what was read up to a place, as a target
  converted role end t = converted_to end (convert_as t role)

module _ {N : Type 0} (sheet : Sheet) (ask : Asks N) where
  -- 13.5 UnaryExpression : UpdateExpression | delete UnaryExpression | void .. | typeof .. | + .. | - .. | ~ .. | ! ..
  -- 13.4 UpdateExpression : ++ UnaryExpression | -- UnaryExpression
  unfoldable pub unary_of : ℕ → Reading N
  unary_of at =
      if is_unary_operator (token sheet at) then (do
        operand ← ask (unary (at + 1))
        make Row.Unary at at operand.end operand.trees)
      else if is_update_operator (token sheet at) then (do
        operand ← ask (unary (at + 1))
        target ← converted simple operand.end (tree operand)
        make Row.PrefixUpdate at at target.end target.trees)
      else ask (postfix at)

  -- 13.4 UpdateExpression : LeftHandSideExpression | LeftHandSideExpression [no LineTerminator here] ++ | .. --
  unfoldable pub postfix_of : ℕ → Reading N
  postfix_of at = do
    operand ← ask (left_hand_side at)
    if is_update_operator (token sheet operand.end) and not (break_before sheet operand.end)
        then (do
          target ← converted simple operand.end (tree operand)
          make Row.PostfixUpdate target.end at (target.end + 1) target.trees)
        else yield operand.end operand.trees
