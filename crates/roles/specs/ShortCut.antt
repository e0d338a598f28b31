-- What the code's short cuts ask of a row: whether it is all there is to convert, and the kind that it gets then.
use Rattle.std.specs.Prelude.{if◌then◌else◌}
use Rattle.rows.specs.Base.{ℕ, Bool, true, eqb, ◌and◌}
use Rattle.conversion.specs.Conversion.{is_reference}
use Rattle.rows.specs.Row as row

abbrev pub is_value : ℕ → Bool  -- as the value of a property, a row of this kind gets another kind and no record; as an element of an array
is_value kind = if eqb kind row.Assign then true else is_reference kind

abbrev pub is_element : ℕ → Bool
is_element kind = if eqb kind row.Hole then true else is_value kind

abbrev pub is_initialized : ℕ → ℕ → Bool  -- a shorthand with an initializer
is_initialized kind kids = eqb kind row.ShorthandInit and eqb kids 2

abbrev pub ends_in_target : ℕ → ℕ → ℕ → Bool  -- a property whose last kid is all there is to convert
ends_in_target kind kids last =
    if eqb kind row.Property then (eqb kids 2 and is_value last)
    else (eqb kind row.Shorthand and (eqb kids 1 and eqb last row.Identifier))

abbrev pub named_kind : ℕ → ℕ  -- the kind that a row gets by itself or with the one row below that turns
named_kind kind =
    if eqb kind row.Identifier then row.TargetName
    else if eqb kind row.Member then row.TargetMember
    else if eqb kind row.Index then row.TargetIndex
    else if eqb kind row.Assign then row.TargetDefault
    else if eqb kind row.Hole then row.Hole
    else if eqb kind row.Property then row.TargetProperty
    else if eqb kind row.Shorthand then row.TargetShorthand
    else row.TargetShorthandInit
