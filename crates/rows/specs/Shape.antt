-- Well-formed trees: which kids a row of each kind has. One table gives it for all kinds.
use Rattle.std.specs.Prelude.{◌+◌, ◌∷◌, if◌then◌else◌}
use Rattle.rows.specs.Base.{ℕ, Bool, true, false, List, [], leb, ltb, length, get_or, ◌or◌, ◌and◌, ◌is◌, between, Tree, Forest, node, nil, cons, count, kind_of, kids_of}
use Rattle.rows.specs.Row.{Identifier, Paren, Array, ArrayRestComma, Object, ObjectRestComma, Hole, Spread, Shorthand, ShorthandInit, Property, Key, ComputedKey, Member, Index, Call, Unary, PrefixUpdate, PostfixUpdate, Binary, Logical, Conditional, Assign, CompoundAssign, Sequence, Arrow, AsyncArrow, BindingName, BindingArray, BindingObject, BindingRest, BindingDefault, BindingShorthand, BindingShorthandInit, TargetName, TargetParen, TargetArray, TargetObject, TargetRest, TargetDefault, TargetMember, TargetIndex, TargetProperty, TargetShorthand, TargetShorthandInit}

infixr 30 ◌∪◌
unfoldable pub is_listed : ℕ → Bool  -- the listed kinds: 1 to 36 and 40 to 50
is_listed kind = between Identifier BindingShorthandInit kind or between TargetName TargetShorthandInit kind

unfoldable pub is_left_hand_side : ℕ → Bool  -- L: what may be called, or have a member: 1 to 8, 16 to 18
is_left_hand_side kind = between Identifier ObjectRestComma kind or between Member Call kind

unfoldable pub is_unary : ℕ → Bool  -- U: an operand of a Unary: L, 19 to 21
is_unary kind = is_left_hand_side kind or between Unary PostfixUpdate kind

unfoldable pub is_binary : ℕ → Bool  -- B: an operand of a Binary: U, 22
is_binary kind = is_unary kind or kind is Binary

unfoldable pub is_logical : ℕ → Bool  -- G: an operand of a Logical, and what stands before `?`: B, 23
is_logical kind = is_binary kind or kind is Logical

unfoldable pub is_assignment : ℕ → Bool  -- S: an AssignmentExpression: G, 24 to 26, 28, 29
is_assignment kind = is_logical kind or between Conditional CompoundAssign kind or between Arrow AsyncArrow kind

unfoldable pub is_expression : ℕ → Bool  -- E: an Expression: S, 27
is_expression kind = is_assignment kind or kind is Sequence

unfoldable pub is_body : ℕ → Bool  -- the body of an arrow: S, but no 7 or 8
is_body kind = if between Object ObjectRestComma kind then false else is_assignment kind

unfoldable pub is_binding : ℕ → Bool  -- a Binding: 30 to 32
is_binding kind = between BindingName BindingObject kind

unfoldable pub is_parameter : ℕ → Bool  -- a Binding with or without an initializer: 30 to 32, 34
is_parameter kind = is_binding kind or kind is BindingDefault

unfoldable pub is_simple_target : ℕ → Bool  -- a simple target: 40, 41, 46, 47
is_simple_target kind = between TargetName TargetParen kind or between TargetMember TargetIndex kind

unfoldable pub is_target : ℕ → Bool  -- a target: a simple one, 42, 43
is_target kind = is_simple_target kind or between TargetArray TargetObject kind

unfoldable pub only : ℕ → ℕ → Bool  -- the one kind k
only k kind = kind is k

unfoldable pub nothing : ℕ → Bool  -- no kind
nothing kind = false

abbrev pub ◌∪◌ : (ℕ → Bool) → (ℕ → Bool) → ℕ → Bool  -- the kinds of two sets
◌∪◌ these those kind = these kind or those kind

-- the kids of a row, each by the kinds that it may have: fixed ones in front, then any number of the same kinds, then at most one
-- closing kid, then fixed ones at the end (the last kid first)
pub record Shape : Type 0 where
  pub front : List (ℕ → Bool)
  pub many : ℕ → Bool
  pub closing : ℕ → Bool
  pub ending : List (ℕ → Bool)

abbrev pub shape : List (ℕ → Bool) → (ℕ → Bool) → (ℕ → Bool) → List (ℕ → Bool) → Shape
shape front many closing ending = record { front = front; many = many; closing = closing; ending = ending }

abbrev pub exactly : List (ℕ → Bool) → Shape  -- these kids and no others
exactly front = shape front nothing nothing []

unfoldable pub shape_of : ℕ → Shape  -- the kids of each kind; a kind that is not here has none
shape_of kind =
    if kind is Paren then exactly (is_expression ∷ [])
    else if kind is Array then shape [] (is_assignment ∪ only Hole ∪ only Spread) nothing []
    else if kind is ArrayRestComma then shape [] (is_assignment ∪ only Hole ∪ only Spread) nothing (only Spread ∷ [])
    else if kind is Object then shape [] (only Spread ∪ only Shorthand ∪ only ShorthandInit ∪ only Property) nothing []
    else if kind is ObjectRestComma then shape [] (only Spread ∪ only Shorthand ∪ only ShorthandInit ∪ only Property) nothing (only Spread ∷ [])
    else if kind is Spread or kind is ComputedKey then exactly (is_assignment ∷ [])
    else if kind is Shorthand then exactly (only Identifier ∷ [])
    else if kind is ShorthandInit then exactly (only Identifier ∷ is_assignment ∷ [])
    else if kind is Property then exactly ((only Key ∪ only ComputedKey) ∷ (is_assignment ∪ is_parameter) ∷ [])
    else if kind is Member or kind is TargetMember then exactly (is_left_hand_side ∷ [])
    else if kind is Index or kind is TargetIndex then exactly (is_left_hand_side ∷ is_expression ∷ [])
    else if kind is Call then shape (is_left_hand_side ∷ []) (is_assignment ∪ only Spread) nothing []
    else if kind is Unary then exactly (is_unary ∷ [])
    else if kind is PrefixUpdate or kind is PostfixUpdate then exactly (is_simple_target ∷ [])
    else if kind is Binary then exactly (is_binary ∷ is_binary ∷ [])
    else if kind is Logical then exactly (is_logical ∷ is_logical ∷ [])
    else if kind is Conditional then exactly (is_logical ∷ is_assignment ∷ is_assignment ∷ [])
    else if kind is Assign then exactly (is_target ∷ is_assignment ∷ [])
    else if kind is CompoundAssign then exactly (is_simple_target ∷ is_assignment ∷ [])
    else if kind is Sequence then shape (is_assignment ∷ is_assignment ∷ []) is_assignment nothing []
    else if kind is Arrow or kind is AsyncArrow then shape [] is_parameter (only BindingRest) (is_body ∷ [])
    else if kind is BindingArray then shape [] (is_parameter ∪ only Hole) (only BindingRest) []
    else if kind is BindingObject then shape [] (only BindingShorthand ∪ only BindingShorthandInit ∪ only Property) (only BindingRest) []
    else if kind is BindingRest then exactly (is_parameter ∷ [])
    else if kind is BindingDefault then exactly (is_binding ∷ is_assignment ∷ [])
    else if kind is BindingShorthand then exactly (only BindingName ∷ [])
    else if kind is BindingShorthandInit then exactly (only BindingName ∷ is_assignment ∷ [])
    else if kind is TargetParen then exactly (is_simple_target ∷ [])
    else if kind is TargetArray then shape [] (is_target ∪ only Hole ∪ only TargetDefault) (only TargetRest) []
    else if kind is TargetObject then shape [] (only TargetProperty ∪ only TargetShorthand ∪ only TargetShorthandInit) (only TargetRest) []
    else if kind is TargetRest then exactly (is_target ∷ [])
    else if kind is TargetDefault then exactly (is_target ∷ is_assignment ∷ [])
    else if kind is TargetProperty then exactly ((only Key ∪ only ComputedKey) ∷ (is_target ∪ only TargetDefault) ∷ [])
    else if kind is TargetShorthand then exactly (only TargetName ∷ [])
    else if kind is TargetShorthandInit then exactly (only TargetName ∷ is_assignment ∷ [])
    else exactly []

unfoldable pub least : Shape → ℕ  -- the kids of the shape are at least so many
least s = length s.front + length s.ending

unfoldable pub may_be : Shape → ℕ → ℕ → ℕ → Bool  -- a kid with so many kids before it and so many after it may be of this kind
may_be s before after kid =
    if ltb before (length s.front) then get_or s.front before nothing kid
    else if ltb after (length s.ending) then get_or s.ending after nothing kid
    else s.many kid or (after is length s.ending and s.closing kid)

-- what the last kid of a kid may be: the value of a Property is an S in an Object, and a Binding or 34 in a BindingObject, in which a rest is over a bare name
unfoldable pub may_end : ℕ → ℕ → ℕ → Bool
may_end kind kid last =
    if kid is Property then (if kind is BindingObject then is_parameter last else is_assignment last)
    else if kid is BindingRest and kind is BindingObject then last is BindingName
    else true

-- a row of this kind may have a kid of kind `kid`, with so many kids before it and so many after it, its own last kid of kind `last` (0 if it has none)
unfoldable pub fits : ℕ → ℕ → ℕ → ℕ → ℕ → Bool
fits kind before after kid last = may_be (shape_of kind) before after kid and may_end kind kid last

unfoldable pub last_kind : ℕ → Forest → ℕ  -- the kind of the last tree, and `kind` if there is none
last_kind kind nil = kind
last_kind kind (cons t ts) = last_kind (kind_of t) ts

unfoldable pub all_fit : ℕ → ℕ → Forest → Bool  -- these kids of a row of this kind, with so many before them, are where they may stand
all_fit kind before nil = true
all_fit kind before (cons t ts) = fits kind before (count ts) (kind_of t) (last_kind 0 (kids_of t)) and all_fit kind (before + 1) ts

unfoldable pub is_shaped : ℕ → Forest → Bool  -- the kind is listed, and the kids are enough and where they may stand
is_shaped kind kids = is_listed kind and leb (least (shape_of kind)) (count kids) and all_fit kind 0 kids

-- listed kinds, and kids of the kinds and number that the table gives; any kind as root
unfoldable mutual
  pub well_formed : Tree → Bool
  well_formed (node kind mark first end kids) = is_shaped kind kids and all_well_formed kids

  pub all_well_formed : Forest → Bool
  all_well_formed nil = true
  all_well_formed (cons t ts) = well_formed t and all_well_formed ts
