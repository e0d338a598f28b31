-- The kinds of tokens by name, as RULES T4 numbers them: 1 to 78.
use Rattle.std.specs.Prelude.{ℕ}

abbrev pub Ident : ℕ  -- a name
Ident = 1

abbrev pub Async : ℕ  -- async
Async = 2

abbrev pub As : ℕ  -- as
As = 3

abbrev pub Satisfies : ℕ  -- satisfies
Satisfies = 4

abbrev pub Modifier : ℕ  -- a modifier name: abstract accessor declare out override private protected public readonly static
Modifier = 5

abbrev pub Const : ℕ  -- const
Const = 6

abbrev pub This : ℕ  -- this
This = 7

abbrev pub Null : ℕ  -- null
Null = 8

abbrev pub True : ℕ  -- true
True = 9

abbrev pub False : ℕ  -- false
False = 10

abbrev pub Str : ℕ  -- a string
Str = 11

abbrev pub Number : ℕ  -- a number
Number = 12

abbrev pub RegExp : ℕ  -- a regular expression
RegExp = 13

abbrev pub Await : ℕ  -- await
Await = 14

abbrev pub Yield : ℕ  -- yield
Yield = 15

abbrev pub Extends : ℕ  -- extends
Extends = 16

abbrev pub Reserved : ℕ  -- another reserved word
Reserved = 17

abbrev pub LParen : ℕ  -- (
LParen = 18

abbrev pub RParen : ℕ  -- )
RParen = 19

abbrev pub LBrack : ℕ  -- [
LBrack = 20

abbrev pub RBrack : ℕ  -- ]
RBrack = 21

abbrev pub LCurly : ℕ  -- {
LCurly = 22

abbrev pub RCurly : ℕ  -- }
RCurly = 23

abbrev pub Comma : ℕ  -- ,
Comma = 24

abbrev pub Colon : ℕ  -- :
Colon = 25

abbrev pub Question : ℕ  -- ?
Question = 26

abbrev pub Dot : ℕ  -- .
Dot = 27

abbrev pub Dot3 : ℕ  -- ...
Dot3 = 28

abbrev pub Arrow : ℕ  -- =>
Arrow = 29

abbrev pub Bang : ℕ  -- !
Bang = 30

abbrev pub Tilde : ℕ  -- ~
Tilde = 31

abbrev pub Typeof : ℕ  -- typeof
Typeof = 32

abbrev pub Void : ℕ  -- void
Void = 33

abbrev pub Delete : ℕ  -- delete
Delete = 34

abbrev pub New : ℕ  -- new
New = 35

abbrev pub Plus2 : ℕ  -- ++
Plus2 = 36

abbrev pub Minus2 : ℕ  -- --
Minus2 = 37

abbrev pub Question2 : ℕ  -- ??
Question2 = 38

abbrev pub Pipe2 : ℕ  -- ||
Pipe2 = 39

abbrev pub Amp2 : ℕ  -- &&
Amp2 = 40

abbrev pub Pipe : ℕ  -- |
Pipe = 41

abbrev pub Caret : ℕ  -- ^
Caret = 42

abbrev pub Amp : ℕ  -- &
Amp = 43

abbrev pub Eq2 : ℕ  -- ==
Eq2 = 44

abbrev pub Eq3 : ℕ  -- ===
Eq3 = 45

abbrev pub Neq : ℕ  -- !=
Neq = 46

abbrev pub Neq2 : ℕ  -- !==
Neq2 = 47

abbrev pub LAngle : ℕ  -- <
LAngle = 48

abbrev pub RAngle : ℕ  -- >
RAngle = 49

abbrev pub LtEq : ℕ  -- <=
LtEq = 50

abbrev pub GtEq : ℕ  -- >=
GtEq = 51

abbrev pub Instanceof : ℕ  -- instanceof
Instanceof = 52

abbrev pub In : ℕ  -- in
In = 53

abbrev pub ShiftLeft : ℕ  -- <<
ShiftLeft = 54

abbrev pub ShiftRight : ℕ  -- >>
ShiftRight = 55

abbrev pub ShiftRight3 : ℕ  -- >>>
ShiftRight3 = 56

abbrev pub Plus : ℕ  -- +
Plus = 57

abbrev pub Minus : ℕ  -- -
Minus = 58

abbrev pub Star : ℕ  -- *
Star = 59

abbrev pub Slash : ℕ  -- /
Slash = 60

abbrev pub Percent : ℕ  -- %
Percent = 61

abbrev pub Star2 : ℕ  -- **
Star2 = 62

abbrev pub Eq : ℕ  -- =
Eq = 63

abbrev pub PlusEq : ℕ  -- +=
PlusEq = 64

abbrev pub MinusEq : ℕ  -- -=
MinusEq = 65

abbrev pub StarEq : ℕ  -- *=
StarEq = 66

abbrev pub SlashEq : ℕ  -- /=
SlashEq = 67

abbrev pub PercentEq : ℕ  -- %=
PercentEq = 68

abbrev pub ShiftLeftEq : ℕ  -- <<=
ShiftLeftEq = 69

abbrev pub ShiftRightEq : ℕ  -- >>=
ShiftRightEq = 70

abbrev pub ShiftRight3Eq : ℕ  -- >>>=
ShiftRight3Eq = 71

abbrev pub PipeEq : ℕ  -- |=
PipeEq = 72

abbrev pub CaretEq : ℕ  -- ^=
CaretEq = 73

abbrev pub AmpEq : ℕ  -- &=
AmpEq = 74

abbrev pub Amp2Eq : ℕ  -- &&=
Amp2Eq = 75

abbrev pub Pipe2Eq : ℕ  -- ||=
Pipe2Eq = 76

abbrev pub Question2Eq : ℕ  -- ??=
Question2Eq = 77

abbrev pub Star2Eq : ℕ  -- **=
Star2Eq = 78
