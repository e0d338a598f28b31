-- The kinds of rows by name, as RULES R5 numbers them.
use Rattle.std.specs.Prelude.{ℕ}

abbrev pub Identifier : ℕ  -- a name that is read
Identifier = 1

abbrev pub This : ℕ
This = 2

abbrev pub Literal : ℕ
Literal = 3

abbrev pub Paren : ℕ  -- 1 kid
Paren = 4

abbrev pub Array : ℕ
Array = 5

abbrev pub ArrayRestComma : ℕ  -- an Array with a comma after its closing spread
ArrayRestComma = 6

abbrev pub Object : ℕ
Object = 7

abbrev pub ObjectRestComma : ℕ  -- an Object likewise
ObjectRestComma = 8

abbrev pub Hole : ℕ
Hole = 9

abbrev pub Spread : ℕ  -- 1 kid
Spread = 10

abbrev pub Shorthand : ℕ  -- 1 kid, an Identifier over the same token
Shorthand = 11

abbrev pub ShorthandInit : ℕ  -- 2 kids, Identifier and initializer
ShorthandInit = 12

abbrev pub Property : ℕ  -- key and value; bindings' too
Property = 13

abbrev pub Key : ℕ
Key = 14

abbrev pub ComputedKey : ℕ  -- 1 kid
ComputedKey = 15

abbrev pub Member : ℕ  -- 1 kid
Member = 16

abbrev pub Index : ℕ  -- 2 kids
Index = 17

abbrev pub Call : ℕ  -- callee and arguments
Call = 18

abbrev pub Unary : ℕ
Unary = 19

abbrev pub PrefixUpdate : ℕ
PrefixUpdate = 20

abbrev pub PostfixUpdate : ℕ
PostfixUpdate = 21

abbrev pub Binary : ℕ
Binary = 22

abbrev pub Logical : ℕ
Logical = 23

abbrev pub Conditional : ℕ  -- 3 kids
Conditional = 24

abbrev pub Assign : ℕ  -- 2 kids
Assign = 25

abbrev pub CompoundAssign : ℕ  -- 2 kids
CompoundAssign = 26

abbrev pub Sequence : ℕ
Sequence = 27

abbrev pub Arrow : ℕ  -- parameters and body
Arrow = 28

abbrev pub AsyncArrow : ℕ  -- parameters and body
AsyncArrow = 29

abbrev pub BindingName : ℕ
BindingName = 30

abbrev pub BindingArray : ℕ
BindingArray = 31

abbrev pub BindingObject : ℕ
BindingObject = 32

abbrev pub BindingRest : ℕ
BindingRest = 33

abbrev pub BindingDefault : ℕ  -- 2 kids
BindingDefault = 34

abbrev pub BindingShorthand : ℕ  -- 1 kid
BindingShorthand = 35

abbrev pub BindingShorthandInit : ℕ  -- 2 kids
BindingShorthandInit = 36

abbrev pub TargetName : ℕ
TargetName = 40

abbrev pub TargetParen : ℕ
TargetParen = 41

abbrev pub TargetArray : ℕ
TargetArray = 42

abbrev pub TargetObject : ℕ
TargetObject = 43

abbrev pub TargetRest : ℕ
TargetRest = 44

abbrev pub TargetDefault : ℕ  -- 2 kids
TargetDefault = 45

abbrev pub TargetMember : ℕ
TargetMember = 46

abbrev pub TargetIndex : ℕ
TargetIndex = 47

abbrev pub TargetProperty : ℕ
TargetProperty = 48

abbrev pub TargetShorthand : ℕ
TargetShorthand = 49

abbrev pub TargetShorthandInit : ℕ
TargetShorthandInit = 50
