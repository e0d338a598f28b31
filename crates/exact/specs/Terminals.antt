-- The reader's classes of tokens and levels of operators, to be held to the standard's lists.
use Rattle.std.specs.Prelude.{◌≤◌, if◌then◌else◌, ◌≡◌}
use Rattle.rows.specs.Base.{ℕ, suc, leb, ◌is◌, ◌or◌, between, Bool, List, is_word}
use Rattle.tokens.specs.Kind.{Str, Number, Bang, Delete, Plus2, Minus2, Plus, Minus, PlusEq, Star2Eq}
use Rattle.operators.specs.Precedence.{expression_level}
use Rattle.ecma262.specs.Derives.{one_of, TierExpression, LeftToRight}
use Rattle.rows.specs.Row as Row

unfoldable pub tier_row : ℕ → ℕ  -- the row of a level: `||` and `&&`, 2 and 3, make a Logical row, the levels above a Binary one
tier_row tier = if leb tier 3 then Row.Logical else Row.Binary

unfoldable pub is_key : ℕ → Bool
is_key k = is_word k or k is Str or k is Number

unfoldable pub is_prefix : ℕ → Bool
is_prefix k = between Bang Delete k or k is Plus or k is Minus

unfoldable pub is_update : ℕ → Bool
is_update k = k is Plus2 or k is Minus2

unfoldable pub is_compound : ℕ → Bool
is_compound k = between PlusEq Star2Eq k

-- a line of 13.7 to 13.13 beside the reader's table: the operators of X are just the tokens of its level, Y is the next, and the row is that of the level
pub record Line (x : ℕ) (operators : List ℕ) (y row : ℕ) : Type 0 where
  pub low : 2 ≤ x
  pub high : x ≤ 11
  pub next : y ≡ suc x
  pub row_is : row ≡ tier_row x
  pub of_level : (k : ℕ) → one_of operators k ≡ expression_level k is x

pub record LineOf (l : ℕ) : Type 0 where  -- each level from 2 to 11 has its line
  pub operators : List ℕ
  pub is_line : LeftToRight (TierExpression l) operators (TierExpression (suc l)) (tier_row l)
