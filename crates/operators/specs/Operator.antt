-- The operator that a token kind stands for (RULES O6), by the five mapping functions of operator.rs; None where that cannot be reached.
use Rattle.std.specs.Prelude.{◌∷◌, if◌then◌else◌, Option, Some, None}
use Rattle.tokens.specs.Bool.{ℕ, List, [], ◌is◌}
use Rattle.operators.specs.{declared.BinaryOperator.BinaryOperator, declared.UnaryOperator.UnaryOperator, declared.LogicalOperator.LogicalOperator}
use Rattle.operators.specs.{declared.UpdateOperator.UpdateOperator, declared.AssignmentOperator.AssignmentOperator}
use Rattle.tokens.specs.Kind as Kind

infix 25 ◌means◌
pub data Line (A : Type 0) : Type 0 where  -- one line of a table: a kind, and what it means
  ◌means◌ : ℕ → A → Line A

unfoldable pub look_up : {A : Type 0} → List (Line A) → ℕ → Option A  -- what the first line for a kind says, if there is one
look_up [] k = None
look_up ((a means x) ∷ lines) k = if k is a then Some x else look_up lines k

abbrev pub binary_lines : List (Line BinaryOperator)  -- 13.6 to 13.12
binary_lines =
    (Kind.Eq2 means BinaryOperator.Equality) ∷ (Kind.Neq means BinaryOperator.Inequality) ∷ (Kind.Eq3 means BinaryOperator.StrictEquality) ∷
    (Kind.Neq2 means BinaryOperator.StrictInequality) ∷ (Kind.LAngle means BinaryOperator.LessThan) ∷ (Kind.LtEq means BinaryOperator.LessEqualThan) ∷
    (Kind.RAngle means BinaryOperator.GreaterThan) ∷ (Kind.GtEq means BinaryOperator.GreaterEqualThan) ∷
    (Kind.ShiftLeft means BinaryOperator.ShiftLeft) ∷ (Kind.ShiftRight means BinaryOperator.ShiftRight) ∷
    (Kind.ShiftRight3 means BinaryOperator.ShiftRightZeroFill) ∷ (Kind.Plus means BinaryOperator.Addition) ∷
    (Kind.Minus means BinaryOperator.Subtraction) ∷ (Kind.Star means BinaryOperator.Multiplication) ∷ (Kind.Slash means BinaryOperator.Division) ∷
    (Kind.Percent means BinaryOperator.Remainder) ∷ (Kind.Pipe means BinaryOperator.BitwiseOR) ∷ (Kind.Caret means BinaryOperator.BitwiseXOR) ∷
    (Kind.Amp means BinaryOperator.BitwiseAnd) ∷ (Kind.In means BinaryOperator.In) ∷ (Kind.Instanceof means BinaryOperator.Instanceof) ∷
    (Kind.Star2 means BinaryOperator.Exponential) ∷ []

unfoldable pub binary_operator : ℕ → Option BinaryOperator
binary_operator k = look_up binary_lines k

abbrev pub unary_lines : List (Line UnaryOperator)  -- 13.5
unary_lines =
    (Kind.Minus means UnaryOperator.UnaryNegation) ∷ (Kind.Plus means UnaryOperator.UnaryPlus) ∷ (Kind.Bang means UnaryOperator.LogicalNot) ∷
    (Kind.Tilde means UnaryOperator.BitwiseNot) ∷ (Kind.Typeof means UnaryOperator.Typeof) ∷ (Kind.Void means UnaryOperator.Void) ∷
    (Kind.Delete means UnaryOperator.Delete) ∷ []

unfoldable pub unary_operator : ℕ → Option UnaryOperator
unary_operator k = look_up unary_lines k

abbrev pub logical_lines : List (Line LogicalOperator)  -- 13.13
logical_lines =
    (Kind.Pipe2 means LogicalOperator.Or) ∷ (Kind.Amp2 means LogicalOperator.And) ∷ (Kind.Question2 means LogicalOperator.Coalesce) ∷ []

unfoldable pub logical_operator : ℕ → Option LogicalOperator
logical_operator k = look_up logical_lines k

abbrev pub update_lines : List (Line UpdateOperator)  -- 13.4
update_lines =
    (Kind.Plus2 means UpdateOperator.Increment) ∷ (Kind.Minus2 means UpdateOperator.Decrement) ∷ []

unfoldable pub update_operator : ℕ → Option UpdateOperator
update_operator k = look_up update_lines k

abbrev pub assignment_lines : List (Line AssignmentOperator)  -- 13.15
assignment_lines =
    (Kind.Eq means AssignmentOperator.Assign) ∷ (Kind.PlusEq means AssignmentOperator.Addition) ∷
    (Kind.MinusEq means AssignmentOperator.Subtraction) ∷ (Kind.StarEq means AssignmentOperator.Multiplication) ∷
    (Kind.SlashEq means AssignmentOperator.Division) ∷ (Kind.PercentEq means AssignmentOperator.Remainder) ∷
    (Kind.ShiftLeftEq means AssignmentOperator.ShiftLeft) ∷ (Kind.ShiftRightEq means AssignmentOperator.ShiftRight) ∷
    (Kind.ShiftRight3Eq means AssignmentOperator.ShiftRightZeroFill) ∷ (Kind.PipeEq means AssignmentOperator.BitwiseOR) ∷
    (Kind.CaretEq means AssignmentOperator.BitwiseXOR) ∷ (Kind.AmpEq means AssignmentOperator.BitwiseAnd) ∷
    (Kind.Amp2Eq means AssignmentOperator.LogicalAnd) ∷ (Kind.Pipe2Eq means AssignmentOperator.LogicalOr) ∷
    (Kind.Question2Eq means AssignmentOperator.LogicalNullish) ∷ (Kind.Star2Eq means AssignmentOperator.Exponential) ∷ []

unfoldable pub assignment_operator : ℕ → Option AssignmentOperator
assignment_operator k = look_up assignment_lines k
