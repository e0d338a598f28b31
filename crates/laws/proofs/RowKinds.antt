-- Names for the sets of kinds, and for the sorts of shapes, that stand in the table of shapes unnamed.
-- Assumes nothing: these are definitions.
use Prim.Native.Nat.{ℕ}
use mathlib.Core.Bool.{Bool}
use mathlib.Core.List.{[]}
use Rattle.rows.specs.Row as Row
use Rattle.rows.specs.Shape.{is_assignment, is_parameter, is_target, only, ◌∪◌, Shape, shape}

-- in an Array
abbrev pub is_element : ℕ → Bool
is_element = is_assignment ∪ only Row.Hole ∪ only Row.Spread

-- in an Object
abbrev pub is_property : ℕ → Bool
is_property = only Row.Spread ∪ only Row.Shorthand ∪ only Row.ShorthandInit ∪ only Row.Property

-- of a Property
abbrev pub is_key : ℕ → Bool
is_key = only Row.Key ∪ only Row.ComputedKey

abbrev pub is_value : ℕ → Bool
is_value = is_assignment ∪ is_parameter

-- of a Call
abbrev pub is_argument : ℕ → Bool
is_argument = is_assignment ∪ only Row.Spread

-- in a BindingArray, and in a BindingObject
abbrev pub is_binding_element : ℕ → Bool
is_binding_element = is_parameter ∪ only Row.Hole

abbrev pub is_binding_property : ℕ → Bool
is_binding_property = only Row.BindingShorthand ∪ only Row.BindingShorthandInit ∪ only Row.Property

-- in a TargetArray, in a TargetObject, and of a TargetProperty
abbrev pub is_target_element : ℕ → Bool
is_target_element = is_target ∪ only Row.Hole ∪ only Row.TargetDefault

abbrev pub is_target_property : ℕ → Bool
is_target_property = only Row.TargetProperty ∪ only Row.TargetShorthand ∪ only Row.TargetShorthandInit

abbrev pub is_target_value : ℕ → Bool
is_target_value = is_target ∪ only Row.TargetDefault

-- any number of kids of these kinds, and then at most one closing kid
abbrev pub any_closed : (ℕ → Bool) → (ℕ → Bool) → Shape
any_closed many closing = shape [] many closing []
