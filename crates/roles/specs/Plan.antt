-- The kinds of plans by name: what a row becomes in a conversion (roles/src/plan.rt).
use Rattle.std.specs.Prelude.{ℕ}

abbrev pub Array : ℕ
Array = 0

abbrev pub Object : ℕ
Object = 1

abbrev pub Property : ℕ
Property = 2

abbrev pub Shorthand : ℕ
Shorthand = 3

abbrev pub ShorthandInit : ℕ
ShorthandInit = 4

abbrev pub Paren : ℕ
Paren = 5

abbrev pub RestInArray : ℕ
RestInArray = 6

abbrev pub RestInObject : ℕ
RestInObject = 7

abbrev pub WrongRest : ℕ  -- an object's rest over an Array or Object
WrongRest = 8

abbrev pub Keep : ℕ  -- from here on the kids stay
Keep = 9

abbrev pub Compound : ℕ
Compound = 10

abbrev pub NoTarget : ℕ  -- from here on the row is refused
NoTarget = 11
