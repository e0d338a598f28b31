-- Names for the roles that a change gives to the kids of a row, by the number of kids after one; and one name to unfold all of conversion.
-- Assumes nothing: these are definitions.
use Prim.Native.Nat.{ℕ}
use mathlib.Core.List.{List}
use Rattle.rows.specs.Tree.{count, kind_of, first_of}
use Rattle.rows.specs.Record.{Record}
use Rattle.conversion.specs.Conversion.{Role, element, last_element, property, last_property, value, name, same, each, inner_kind, inner_kinds, seen, as_simple, as_any, as_value, as_element, as_last_element, as_property, as_last_property, as_name, change, roles, over, both, convert_as, convert_kids}

-- ArrayAssignmentPattern
abbrev pub elements : List Record → ℕ → Role
elements comma = each element (last_element comma)

-- ObjectAssignmentPattern
abbrev pub properties : List Record → ℕ → Role
properties comma = each property (last_property comma)

-- PropertyName : AssignmentElement
abbrev pub key_and_value : ℕ → Role
key_and_value = each same value

-- IdentifierReference Initializer
abbrev pub name_and_initializer : ℕ → Role
name_and_initializer = each name same

-- every step of conversion: to unfold this is to unfold them all
unfoldable pub conversion : Type 0
unfolding convert_as convert_kids change as_any as_simple as_value as_element as_last_element as_property as_last_property as_name seen roles over both count kind_of inner_kind inner_kinds first_of
conversion = Unit {0}
