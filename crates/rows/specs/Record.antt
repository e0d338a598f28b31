-- Records: what a reading that is not clean says beside its tree. Two words each, number and place.
use Rattle.std.specs.Prelude.{◌∷◌}
use Rattle.tokens.specs.Bool.{ℕ, List, []}

pub data Record : Type 0 where  -- number, place
  says : ℕ → ℕ → Record

abbrev pub break_before_arrow : ℕ → Record  -- 1: a line break before `=>`, at that token
break_before_arrow place = says 1 place

abbrev pub rest_initializer : ℕ → Record  -- 2: a rest with an initializer, at its `=`
rest_initializer place = says 2 place

abbrev pub rest_argument : ℕ → Record  -- 3: a rest argument of a wrong kind, at the argument's first token
rest_argument place = says 3 place

abbrev pub rest_comma : ℕ → Record  -- 4: a comma after a target's rest, at the literal's first token
rest_comma place = says 4 place

abbrev pub compound_default : ℕ → Record  -- 5: a compound operator as default, at the operator
compound_default place = says 5 place

abbrev pub mixed_coalesce : ℕ → Record  -- 6: `??` with a bare `||` or `&&` operand, at the `??`
mixed_coalesce place = says 6 place

abbrev pub unary_power : ℕ → Record  -- 7: a bare Unary left of `**`, at the `**`
unary_power place = says 7 place

abbrev pub shorthand_initializer : ℕ → Record  -- 8: a ShorthandInit that was never converted, at its mark
shorthand_initializer place = says 8 place

unfoldable pub record_words : List Record → List ℕ  -- records as words
record_words [] = []
record_words (says number place ∷ records) = number ∷ place ∷ record_words records
