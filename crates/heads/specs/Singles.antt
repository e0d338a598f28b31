-- Expressions of one token: a name, `this` or a literal from which nothing goes on.
use Rattle.std.specs.Prelude.{◌+◌, if◌then◌else◌, Option, Some, None}
use Rattle.rows.specs.Base.{ℕ, Bool, List, get_or, ◌or◌, ◌is◌, between, is_name, is_literal}
use Rattle.tokens.specs.Kind.{Async, This, Dot3, LParen, RParen, LBrack, RBrack, RCurly, Comma, Colon, Dot}
use Rattle.grammar.specs.Update.{is_update_operator}
use Rattle.rows.specs.Row as Row

unfoldable pub single_row : ℕ → Option ℕ  -- 13.2 PrimaryExpression : this | IdentifierReference | Literal; none for any other token
single_row k = if is_name k then Some Row.Identifier else if k is This then Some Row.This else if is_literal k then Some Row.Literal else None

unfoldable pub goes_on : ℕ → Bool  -- what goes on from an operand of one token
goes_on k = is_update_operator k or k is Dot or k is LBrack or k is LParen

unfoldable pub closes : ℕ → Bool  -- what nothing goes on to
closes k = between Comma Colon k or k is RParen or k is RBrack or k is RCurly

unfoldable pub single_operand : List ℕ → ℕ → Option ℕ  -- the row of an operand of one token, and none where the operand may have more
single_operand ks at = if goes_on (get_or ks (at + 1) 0) then None else single_row (get_or ks at 0)

unfoldable pub single_part : List ℕ → ℕ → Option ℕ  -- the row of an assignment expression of one token, and none where it may have more
single_part ks at = if closes (get_or ks (at + 1) 0) then (if get_or ks at 0 is Async then None else single_row (get_or ks at 0)) else None

unfoldable pub part_start : List ℕ → ℕ → ℕ  -- where the assignment expression of an element or an argument begins: past the `...` of a spread
part_start ks at = if get_or ks at 0 is Dot3 then at + 1 else at
