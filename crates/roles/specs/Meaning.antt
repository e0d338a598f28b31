-- What a plan says: what a row becomes, and the roles of its kids.
use Rattle.std.specs.Prelude.{◌∷◌, if◌then◌else◌, Option, Some, None}
use Rattle.rows.specs.Base.{ℕ, Bool, true, false, List, [], ◌is◌, Record, rest_argument, rest_comma, compound_default}
use Rattle.tokens.specs.declared.cause.Cause.TheVariants.{Target as NoTargetAt, Spread as NotLastAt}
use Rattle.roles.specs.declared.Seen.{Seen}
use Rattle.roles.specs.declared.plan.Plan.{Plan}
use Rattle.roles.specs.declared.plan.Plan.TheVariants.{Array, Object, Property, Shorthand, ShorthandInit, Paren, RestInArray, RestInObject, WrongRest, Keep, Compound, NoTarget, NotLast}
use Rattle.rows.specs.Row as row
use Rattle.conversion.specs.Conversion as def

abbrev pub commas : Option ℕ → List Record  -- the record of a comma after a literal's rest, or none
commas None = []
commas (Some first) = rest_comma first ∷ []

unfoldable pub kid : Plan → Bool → def.Role  -- the role of a kid, the last one or not, of a row of that plan
kid (Array comma) last = if last then def.last_element (commas comma) else def.element
kid (Object comma) last = if last then def.last_property (commas comma) else def.property
kid Property last = if last then def.value else def.same
kid Shorthand last = def.name
kid ShorthandInit last = if last then def.same else def.name
kid Paren last = def.simple
kid _ last = def.any

abbrev pub kids : Plan → ℕ → def.Role  -- of a kid with so many kids after it
kids of after = kid of (after is 0)

unfoldable pub kind : Plan → ℕ  -- the kind that the row gets
kind (Array comma) = row.TargetArray
kind (Object comma) = row.TargetObject
kind Property = row.TargetProperty
kind Shorthand = row.TargetShorthand
kind ShorthandInit = row.TargetShorthandInit
kind Paren = row.TargetParen
kind (Keep same) = same
kind (Compound mark) = row.TargetDefault
kind _ = row.TargetRest

unfoldable pub before : ℕ → Plan → List Record  -- the records before those of its kids, whose last one begins there, and those after them
before begins (RestInObject comma) = commas comma
before begins (WrongRest comma) = rest_argument begins ∷ commas comma
before begins (Compound mark) = compound_default mark ∷ []
before begins _ = []

unfoldable pub after : Plan → List Record
after (RestInArray comma) = commas comma
after _ = []

abbrev pub alone : Plan → Bool  -- no kid of the row is converted with it
alone (Keep kind) = true
alone (Compound mark) = true
alone (NoTarget place) = true
alone (NotLast place) = true
alone _ = false

unfoldable pub plan : ℕ → Plan → def.Change  -- what it becomes
plan begins (NoTarget place) = def.refuse (NoTargetAt place)
plan begins (NotLast place) = def.refuse (NotLastAt place)
plan begins (Keep same) = def.keep same []
plan begins (Compound mark) = def.keep row.TargetDefault (before begins (Compound mark))
plan begins of = def.turn (kind of) (before begins of) (kids of) (after of)

abbrev pub aim : Bool → def.Role  -- any target, or a simple one
aim true = def.simple
aim false = def.any

abbrev pub aimed : Bool → Plan  -- a plan whose only kid is to be that
aimed true = Paren
aimed false = RestInArray None

-- A rest's argument that can be converted is of a wrong kind only in an object, and only if it is an Array or Object itself
-- (proofs/Near.antt): so the code looks at the argument alone, and not through Parens.
abbrev pub seen : Seen → def.Seen
seen r =
    record {
      kind = r.kind;
      mark = r.mark;
      first = r.first;
      kids = r.kids;
      last = r.last;
      in_array = [];
      in_object = if def.is_array_or_object r.last then rest_argument r.begins ∷ [] else [];
    }
