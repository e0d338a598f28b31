-- The precedence of binary operators, from the tiers of ECMA-262 13.6 to 13.13: a tier further down binds tighter.
use Rattle.std.specs.Prelude.{◌∷◌, if◌then◌else◌}
use Rattle.tokens.specs.Bool.{ℕ, suc, Bool, false, List, [], ◌or◌, ◌is◌}
use Rattle.tokens.specs.Kind.{Question2, Pipe2, Amp2, Pipe, Caret, Amp, Eq2, Eq3, Neq, Neq2, LAngle, RAngle, LtEq, GtEq, Instanceof, In, As, Satisfies, ShiftLeft, ShiftRight, ShiftRight3, Plus, Minus, Star, Slash, Percent, Star2}

abbrev pub tiers : List (List ℕ)  -- the operators of each tier, from the loosest, level 1, to the tightest, level 12
tiers =
    -- 13.13 CoalesceExpression : CoalesceExpressionHead ?? BitwiseORExpression
    (Question2 ∷ [])
    -- 13.13 LogicalORExpression : LogicalORExpression || LogicalANDExpression
    ∷ (Pipe2 ∷ [])
    -- 13.13 LogicalANDExpression : LogicalANDExpression && BitwiseORExpression
    ∷ (Amp2 ∷ [])
    -- 13.12 BitwiseORExpression : BitwiseORExpression | BitwiseXORExpression
    ∷ (Pipe ∷ [])
    -- 13.12 BitwiseXORExpression : BitwiseXORExpression ^ BitwiseANDExpression
    ∷ (Caret ∷ [])
    -- 13.12 BitwiseANDExpression : BitwiseANDExpression & EqualityExpression
    ∷ (Amp ∷ [])
    -- 13.11 EqualityExpression : EqualityExpression == RelationalExpression, and ===, !=, !==
    ∷ (Eq2 ∷ Eq3 ∷ Neq ∷ Neq2 ∷ [])
    -- 13.10 RelationalExpression : RelationalExpression < ShiftExpression, and >, <=, >=, instanceof, in; as, satisfies of TypeScript
    ∷ (LAngle ∷ RAngle ∷ LtEq ∷ GtEq ∷ Instanceof ∷ In ∷ As ∷ Satisfies ∷ [])
    -- 13.9 ShiftExpression : ShiftExpression << AdditiveExpression, and >>, >>>
    ∷ (ShiftLeft ∷ ShiftRight ∷ ShiftRight3 ∷ [])
    -- 13.8 AdditiveExpression : AdditiveExpression + MultiplicativeExpression, and -
    ∷ (Plus ∷ Minus ∷ [])
    -- 13.7 MultiplicativeExpression : MultiplicativeExpression * ExponentiationExpression, and /, %
    ∷ (Star ∷ Slash ∷ Percent ∷ [])
    -- 13.6 ExponentiationExpression : UpdateExpression ** ExponentiationExpression
    ∷ (Star2 ∷ [])
    ∷ []

abbrev pub among : List ℕ → ℕ → Bool  -- a kind stands in a list
among [] k = false
among (a ∷ more) k = k is a or among more k

abbrev pub level_from : ℕ → List (List ℕ) → ℕ → ℕ  -- the level of the first tier that has a kind, the first tier being level l; 0 where none has it
level_from l [] k = 0
level_from l (tier ∷ tiers) k = if among tier k then l else level_from (suc l) tiers k

unfoldable pub level : ℕ → ℕ  -- the level of a kind, 0 for none
level k = level_from 1 tiers k

unfoldable pub expression_level : ℕ → ℕ  -- the level in an expression: the reader takes As and Satisfies as no operator
expression_level k = if k is As or k is Satisfies then 0 else level k
