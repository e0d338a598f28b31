-- What a plan says that is written as a number, for who keeps plans as words: what a row becomes, and the roles of its kids. By its
-- remainder by 16 it is of a kind (specs/Plan.antt), by its quotient it holds a kind, a place, or one more than the place of a literal with a
-- comma after its rest.
use Rattle.std.specs.Prelude.{◌-◌, ◌/◌, ◌%◌, ◌≡◌, ◌∷◌, if◌then◌else◌}
use Rattle.rows.specs.Base.{ℕ, Bool, true, false, List, [], leb, ◌is◌, Record, rest_argument, rest_comma, compound_default}
use Rattle.tokens.specs.declared.cause.Cause.TheVariants.{Target as NoTarget, Spread as SpreadNotLast}
use Rattle.rows.specs.Row as row
use Rattle.conversion.specs.Conversion as def
use Rattle.roles.specs.Plan as code

abbrev pub word : ℕ → ℕ  -- a number as a word of a row or of a record
word n = n % 4294967296

abbrev pub commas : ℕ → List Record  -- the record of a comma after a literal's rest, or none
commas held = if held is 0 then [] else rest_comma (word (held - 1)) ∷ []

abbrev pub kid_as : ℕ → ℕ → Bool → def.Role  -- the role of a kid, the last one or not, of a row of that plan
kid_as kind held last =
    if kind is code.Array then (if last then def.last_element (commas held) else def.element)
    else if kind is code.Object then (if last then def.last_property (commas held) else def.property)
    else if kind is code.Property then (if last then def.value else def.same)
    else if kind is code.Shorthand then def.name
    else if kind is code.ShorthandInit then (if last then def.same else def.name)
    else if kind is code.Paren then def.simple
    else def.any

abbrev pub kind_as : ℕ → ℕ → ℕ  -- the kind that the row gets
kind_as kind held =
    if kind is code.Array then row.TargetArray
    else if kind is code.Object then row.TargetObject
    else if kind is code.Property then row.TargetProperty
    else if kind is code.Shorthand then row.TargetShorthand
    else if kind is code.ShorthandInit then row.TargetShorthandInit
    else if kind is code.Paren then row.TargetParen
    else if kind is code.Keep then word held
    else if kind is code.Compound then row.TargetDefault
    else row.TargetRest

abbrev pub before_as : ℕ → ℕ → ℕ → List Record  -- the records before those of its kids, whose last one begins there, and those after them
before_as begins kind held =
    if kind is code.RestInObject then commas held
    else if kind is code.WrongRest then rest_argument begins ∷ commas held
    else if kind is code.Compound then compound_default (word held) ∷ []
    else []

abbrev pub after_as : ℕ → ℕ → List Record
after_as kind held = if kind is code.RestInArray then commas held else []

abbrev pub plan_as : ℕ → ℕ → ℕ → def.Change  -- what it becomes
plan_as begins kind held =
    if leb code.Keep kind then
    (if leb code.NoTarget kind then (if kind is code.NoTarget then def.refuse (NoTarget held) else def.refuse (SpreadNotLast held))
    else def.keep (kind_as kind held) (before_as begins kind held))
    else def.turn (kind_as kind held) (before_as begins kind held) (λ after. kid_as kind held (after is 0)) (after_as kind held)

unfoldable pub kid : ℕ → Bool → def.Role  -- the same of a number
kid of last = kid_as (of % 16) (of / 16) last

abbrev pub kids : ℕ → ℕ → def.Role  -- of a kid with so many kids after it
kids of after = kid of (after is 0)

unfoldable pub kind : ℕ → ℕ
kind of = kind_as (of % 16) (of / 16)

unfoldable pub before : ℕ → ℕ → List Record
before begins of = before_as begins (of % 16) (of / 16)

unfoldable pub after : ℕ → List Record
after of = after_as (of % 16) (of / 16)

unfoldable pub plan : ℕ → ℕ → def.Change
plan begins of = plan_as begins (of % 16) (of / 16)

abbrev pub aimed : Bool → ℕ  -- a plan whose only kid is to be that
aimed true = code.Paren
aimed false = code.RestInArray

pub record Coded (kind held of : ℕ) : Type 0 where  -- the number is of a kind and holds that
  pub kind_is : of % 16 ≡ kind
  pub held_is : of / 16 ≡ held
