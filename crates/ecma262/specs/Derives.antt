-- The grammar of expressions as ECMA-262 prints it (16th edition, June 2025): what is derived, from which place to which, and the rows that stand for it.
-- One constructor a production, in the order of clauses 13.2 to 13.16, 14.3.3, 15.1, 15.3 and 15.9, as far as docs/RULES.md goes: no functions but arrows, no bodies
-- in braces, classes, methods, private names, templates, `new`, `super`, `import`, `?.`, await or yield. All productions are those with [+In, ~Yield, ~Await], and in 15.9
-- with [+Await], which is the same where nothing is awaited. Where the standard reads by a cover grammar and refines afterwards, the refined grammar stands here:
-- an AssignmentPattern (13.15.5) has target rows, ArrowFormalParameters (15.3) have binding rows.
-- `Derives s x i j ts` is a derivation. An Expression of it is the standard's if no CoverInitializedName is left in it (`Derived`, at the end). Early errors that
-- need the text of a token (15.1.1 a parameter twice, 13.2.5.1 `__proto__` twice, 13.2.7.1 inside a regular expression) and those of strict mode are not judged: a kind does
-- not tell a token's text, and the code is not strict.
-- Nothing here converts, looks ahead, notes or counts steps, and no class or table of the reader is used: every terminal of every production is listed here.
-- What is shared with the reader is the numbers of tokens (tokens/specs/Kind.antt) and rows (rows/specs/Row.antt), what a tree is, and the two lists of a Sheet.
use Rattle.std.specs.Prelude.{◌+◌, ◌≡◌, ◌∷◌, ◌++◌, if◌then◌else◌}
use Rattle.rows.specs.Base.{ℕ, Bool, true, false, List, [], get_or, ◌is◌, ◌or◌, Tree, Forest, node, nil, cons, one, join, Sheet}
use Rattle.tokens.specs.Kind.{Ident, Async, As, Satisfies, Modifier, Const, This, Null, True, False, Str, Number, RegExp, Await, Yield, Extends, Reserved, LParen, RParen, LBrack, RBrack, LCurly, RCurly, Comma, Colon, Question, Dot, Dot3, Arrow, Bang, Tilde, Typeof, Void, Delete, New, Plus2, Minus2, Question2, Pipe2, Amp2, Pipe, Caret, Amp, Eq2, Eq3, Neq, Neq2, LAngle, RAngle, LtEq, GtEq, Instanceof, In, ShiftLeft, ShiftRight, ShiftRight3, Plus, Minus, Star, Slash, Percent, Star2, Eq, PlusEq, MinusEq, StarEq, SlashEq, PercentEq, ShiftLeftEq, ShiftRightEq, ShiftRight3Eq, PipeEq, CaretEq, AmpEq, Amp2Eq, Pipe2Eq, Question2Eq, Star2Eq}
use Rattle.rows.specs.Row as Row

-- THE TERMINALS
-- a token of this kind stands here
pub record Tok (s : Sheet) (at kind : ℕ) : Type 0 where
  pub kind_is : get_or s.kinds at 0 ≡ kind

-- a kind is one of some kinds
abbrev pub one_of : List ℕ → ℕ → Bool
one_of [] k = false
one_of (kind ∷ kinds) k = k is kind or one_of kinds k

-- a token of one of these kinds stands here
pub record OneOf (kinds : List ℕ) (s : Sheet) (at : ℕ) : Type 0 where
  pub holds : one_of kinds (get_or s.kinds at 0) ≡ true

-- [no LineTerminator here] before the token at a place: its flag is not 1
pub record SameLine (s : Sheet) (at : ℕ) : Type 0 where
  pub unbroken : get_or s.flags at 0 is 1 ≡ false

-- [lookahead ≠ kind]
pub record Not (s : Sheet) (at kind : ℕ) : Type 0 where
  pub other : get_or s.kinds at 0 is kind ≡ false

-- 13.1 Identifier : IdentifierName but not ReservedWord; an IdentifierReference or BindingIdentifier is an Identifier (the yield and await of [~Yield, ~Await] are left out)
abbrev pub identifiers : List ℕ
identifiers = Ident ∷ Async ∷ As ∷ Satisfies ∷ Modifier ∷ []

-- 12.7.2 ReservedWord : one of await const delete extends false in instanceof new null this true typeof void yield, and those that no production here names
abbrev pub reserved_words : List ℕ
reserved_words =
    Await ∷ Const ∷ Delete ∷ Extends ∷ False ∷ In ∷ Instanceof ∷ New ∷ Null ∷ This ∷ True ∷ Typeof ∷ Void ∷ Yield ∷ Reserved ∷ []

-- 12.7 IdentifierName : Identifier | ReservedWord; as 13.1 divides them
abbrev pub identifier_names : List ℕ
identifier_names = identifiers ++ reserved_words

-- 13.2.3 Literal : NullLiteral | BooleanLiteral | NumericLiteral | StringLiteral; and 13.2.7 RegularExpressionLiteral
abbrev pub literals : List ℕ
literals = Null ∷ True ∷ False ∷ Number ∷ Str ∷ RegExp ∷ []

-- 13.2.5 LiteralPropertyName : IdentifierName | StringLiteral | NumericLiteral
abbrev pub literal_property_names : List ℕ
literal_property_names = identifier_names ++ Str ∷ Number ∷ []

-- 13.4 one of ++ --
abbrev pub update_operators : List ℕ
update_operators = Plus2 ∷ Minus2 ∷ []

-- 13.5 one of delete void typeof + - ~ !
abbrev pub unary_operators : List ℕ
unary_operators = Delete ∷ Void ∷ Typeof ∷ Plus ∷ Minus ∷ Tilde ∷ Bang ∷ []

-- 13.15 AssignmentOperator : one of *= /= %= += -= <<= >>= >>>= &= ^= |= **=; and &&= ||= ??=
abbrev pub assignment_operators : List ℕ
assignment_operators =
    StarEq ∷ SlashEq ∷ PercentEq ∷ PlusEq ∷ MinusEq ∷ ShiftLeftEq ∷ ShiftRightEq ∷ ShiftRight3Eq ∷ AmpEq ∷ CaretEq ∷ PipeEq ∷ Star2Eq ∷ Amp2Eq ∷ Pipe2Eq ∷ Question2Eq ∷ []

-- THE NONTERMINALS
-- 13.3 MemberExpression and CallExpression go on alike
pub data Links : Type 0 where
  members calls : Links

pub data Nonterminal : Type 0 where
  -- what stands in lists: x | a list , x; and: Elision opt, x
  ListOf Elided : Nonterminal → Nonterminal
  -- 13.2
  PrimaryExpression ArrayLiteral Elision SpreadElement Element ObjectLiteral PropertyDefinition PropertyName : Nonterminal
  -- 13.3
  LinkedExpression : Links → Nonterminal
  Arguments LeftHandSideExpression : Nonterminal
  -- 13.4 and 13.5
  UpdateExpression UnaryExpression : Nonterminal
  -- 13.6 to 13.13, numbered 2 to 12 only to tell them apart; no production is one of another number
  TierExpression : ℕ → Nonterminal
  CoalesceExpressionHead CoalesceExpression ShortCircuitExpression : Nonterminal
  -- 13.14 to 13.16
  ConditionalExpression AssignmentExpression : Nonterminal
  SimpleTarget AssignmentPattern DestructuringAssignmentTarget : Nonterminal
  AssignmentElement AssignmentRestElement AssignmentProperty AssignmentRestProperty : Nonterminal
  Commas : ℕ → Nonterminal
  Expression : Nonterminal
  -- 14.3.3
  Binding BindingPattern BindingElement BindingRestElement BindingProperty BindingRestProperty : Nonterminal
  -- 15.1, 15.3 and 15.9
  FormalParameters ArrowFormalParameters ArrowParameters AsyncArrowHead ConciseBody : Nonterminal

-- 13.2.4 ElementList : Elision opt AssignmentExpression | Elision opt SpreadElement | ElementList , Elision opt AssignmentExpression
-- | ElementList , Elision opt SpreadElement
abbrev pub ElementList : Nonterminal
ElementList = ListOf (Elided Element)

-- 13.2.5 PropertyDefinitionList : PropertyDefinition | PropertyDefinitionList , PropertyDefinition
abbrev pub PropertyDefinitionList : Nonterminal
PropertyDefinitionList = ListOf PropertyDefinition

-- 13.3 ArgumentList : AssignmentExpression | ... AssignmentExpression | ArgumentList , AssignmentExpression | ArgumentList , ... AssignmentExpression
abbrev pub ArgumentList : Nonterminal
ArgumentList = ListOf Element

-- 13.15.5 AssignmentElementList : AssignmentElisionElement | AssignmentElementList , AssignmentElisionElement
-- AssignmentElisionElement : Elision opt AssignmentElement
abbrev pub AssignmentElementList : Nonterminal
AssignmentElementList = ListOf (Elided AssignmentElement)

-- 13.15.5 AssignmentPropertyList : AssignmentProperty | AssignmentPropertyList , AssignmentProperty
abbrev pub AssignmentPropertyList : Nonterminal
AssignmentPropertyList = ListOf AssignmentProperty

-- 14.3.3 BindingElementList : BindingElisionElement | BindingElementList , BindingElisionElement; BindingElisionElement : Elision opt BindingElement
abbrev pub BindingElementList : Nonterminal
BindingElementList = ListOf (Elided BindingElement)

-- 14.3.3 BindingPropertyList : BindingProperty | BindingPropertyList , BindingProperty
abbrev pub BindingPropertyList : Nonterminal
BindingPropertyList = ListOf BindingProperty

-- 15.1 FormalParameterList : FormalParameter | FormalParameterList , FormalParameter; FormalParameter : BindingElement
abbrev pub FormalParameterList : Nonterminal
FormalParameterList = ListOf BindingElement

abbrev pub MemberExpression : Nonterminal  -- 13.3
MemberExpression = LinkedExpression members

abbrev pub CallExpression : Nonterminal
CallExpression = LinkedExpression calls

abbrev pub ExponentiationExpression : Nonterminal  -- 13.6
ExponentiationExpression = TierExpression 12

abbrev pub MultiplicativeExpression : Nonterminal  -- 13.7
MultiplicativeExpression = TierExpression 11

abbrev pub AdditiveExpression : Nonterminal  -- 13.8
AdditiveExpression = TierExpression 10

abbrev pub ShiftExpression : Nonterminal  -- 13.9
ShiftExpression = TierExpression 9

abbrev pub RelationalExpression : Nonterminal  -- 13.10
RelationalExpression = TierExpression 8

abbrev pub EqualityExpression : Nonterminal  -- 13.11
EqualityExpression = TierExpression 7

abbrev pub BitwiseANDExpression : Nonterminal  -- 13.12
BitwiseANDExpression = TierExpression 6

abbrev pub BitwiseXORExpression : Nonterminal
BitwiseXORExpression = TierExpression 5

abbrev pub BitwiseORExpression : Nonterminal
BitwiseORExpression = TierExpression 4

abbrev pub LogicalANDExpression : Nonterminal  -- 13.13
LogicalANDExpression = TierExpression 3

abbrev pub LogicalORExpression : Nonterminal
LogicalORExpression = TierExpression 2

-- 13.7 to 13.13, the operators that group from the left. A line `LeftToRight X operators Y row` is the productions X : Y and X : X operator Y, one for each
-- of the operators, and the row that stands for the latter.
pub data LeftToRight : Nonterminal → List ℕ → Nonterminal → ℕ → Type 0 where
  -- 13.7 MultiplicativeExpression : ExponentiationExpression | MultiplicativeExpression MultiplicativeOperator ExponentiationExpression
  -- MultiplicativeOperator : one of * / %
  multiplicative : LeftToRight MultiplicativeExpression (Star ∷ Slash ∷ Percent ∷ []) ExponentiationExpression Row.Binary
  -- 13.8 AdditiveExpression : MultiplicativeExpression | AdditiveExpression + MultiplicativeExpression | AdditiveExpression - MultiplicativeExpression
  additive : LeftToRight AdditiveExpression (Plus ∷ Minus ∷ []) MultiplicativeExpression Row.Binary
  -- 13.9 ShiftExpression : AdditiveExpression | ShiftExpression << AdditiveExpression | ShiftExpression >> AdditiveExpression
  -- | ShiftExpression >>> AdditiveExpression
  shift : LeftToRight ShiftExpression (ShiftLeft ∷ ShiftRight ∷ ShiftRight3 ∷ []) AdditiveExpression Row.Binary
  -- 13.10 RelationalExpression : ShiftExpression | RelationalExpression < ShiftExpression | RelationalExpression > ShiftExpression
  -- | RelationalExpression <= ShiftExpression | RelationalExpression >= ShiftExpression | RelationalExpression instanceof ShiftExpression
  -- | RelationalExpression in ShiftExpression
  relational : LeftToRight RelationalExpression (LAngle ∷ RAngle ∷ LtEq ∷ GtEq ∷ Instanceof ∷ In ∷ []) ShiftExpression Row.Binary
  -- 13.11 EqualityExpression : RelationalExpression | EqualityExpression == RelationalExpression | EqualityExpression != RelationalExpression
  -- | EqualityExpression === RelationalExpression | EqualityExpression !== RelationalExpression
  equality : LeftToRight EqualityExpression (Eq2 ∷ Neq ∷ Eq3 ∷ Neq2 ∷ []) RelationalExpression Row.Binary
  -- 13.12 BitwiseANDExpression : EqualityExpression | BitwiseANDExpression & EqualityExpression
  bitwise_and : LeftToRight BitwiseANDExpression (Amp ∷ []) EqualityExpression Row.Binary
  -- BitwiseXORExpression : BitwiseANDExpression | BitwiseXORExpression ^ BitwiseANDExpression
  bitwise_xor : LeftToRight BitwiseXORExpression (Caret ∷ []) BitwiseANDExpression Row.Binary
  -- BitwiseORExpression : BitwiseXORExpression | BitwiseORExpression `|` BitwiseXORExpression
  bitwise_or : LeftToRight BitwiseORExpression (Pipe ∷ []) BitwiseXORExpression Row.Binary
  -- 13.13 LogicalANDExpression : BitwiseORExpression | LogicalANDExpression && BitwiseORExpression
  logical_and : LeftToRight LogicalANDExpression (Amp2 ∷ []) BitwiseORExpression Row.Logical
  -- LogicalORExpression : LogicalANDExpression | LogicalORExpression `||` LogicalANDExpression
  logical_or : LeftToRight LogicalORExpression (Pipe2 ∷ []) LogicalANDExpression Row.Logical

-- THE ROWS
-- a row over one token, with no kids
abbrev pub leaf : ℕ → ℕ → Tree
leaf kind at = node kind at at (at + 1) nil

-- the last of some rows is a Spread
unfoldable pub ends_in_spread : Forest → Bool
ends_in_spread nil = false
ends_in_spread (cons (node kind mark first end kids) nil) = kind is Row.Spread
ends_in_spread (cons t (cons u us)) = ends_in_spread (cons u us)

-- a literal with a comma after its closing spread has a kind of its own
unfoldable pub array_row : Forest → ℕ
array_row kids = if ends_in_spread kids then Row.ArrayRestComma else Row.Array

unfoldable pub object_row : Forest → ℕ
object_row kids = if ends_in_spread kids then Row.ObjectRestComma else Row.Object

-- THE PRODUCTIONS. `Derives s x i j ts`: from place i up to place j there stands an x, and its rows are ts. A production has its parts from left to right
-- before the arrows, each with its places, and what it makes after the last arrow: `Tok s p Comma` is a `,` at p, `Derives s x (p + 1) j us` an x from right
-- after it up to j.
pub data Derives (s : Sheet) : Nonterminal → ℕ → ℕ → Forest → Type 0 where
  -- lists: x | a list , x
  first_of_list : {x : Nonterminal} {i j : ℕ} {ts : Forest} → Derives s x i j ts → Derives s (ListOf x) i j ts
  next_of_list : {x : Nonterminal} {i p j : ℕ} {ts us : Forest} → Derives s (ListOf x) i p ts → Tok s p Comma → Derives s x (p + 1) j us
      → Derives s (ListOf x) i j (join ts us)
  -- Elision opt, x
  elided : {x : Nonterminal} {i p j : ℕ} {ts us : Forest} → Derives s Elision i p ts → Derives s x p j us → Derives s (Elided x) i j (join ts us)
  -- 13.2 PrimaryExpression : this
  this : {i : ℕ} → Tok s i This → Derives s PrimaryExpression i (i + 1) (one (leaf Row.This i))
  -- PrimaryExpression : IdentifierReference
  identifier : {i : ℕ} → OneOf identifiers s i → Derives s PrimaryExpression i (i + 1) (one (leaf Row.Identifier i))
  -- PrimaryExpression : Literal | RegularExpressionLiteral
  literal : {i : ℕ} → OneOf literals s i → Derives s PrimaryExpression i (i + 1) (one (leaf Row.Literal i))
  -- PrimaryExpression : ArrayLiteral
  array : {i j : ℕ} {ts : Forest} → Derives s ArrayLiteral i j ts → Derives s PrimaryExpression i j ts
  -- PrimaryExpression : ObjectLiteral
  object : {i j : ℕ} {ts : Forest} → Derives s ObjectLiteral i j ts → Derives s PrimaryExpression i j ts
  -- PrimaryExpression : ParenthesizedExpression; ParenthesizedExpression : ( Expression )
  parenthesized : {i p : ℕ} {ts : Forest} → Tok s i LParen → Derives s Expression (i + 1) p ts → Tok s p RParen
      → Derives s PrimaryExpression i (p + 1) (one (node Row.Paren i i (p + 1) ts))
  -- 13.2.4 ArrayLiteral : [ Elision opt ]
  array_empty : {i p : ℕ} {ts : Forest} → Tok s i LBrack → Derives s Elision (i + 1) p ts → Tok s p RBrack
      → Derives s ArrayLiteral i (p + 1) (one (node Row.Array i i (p + 1) ts))
  -- ArrayLiteral : [ ElementList ]
  array_list : {i p : ℕ} {ts : Forest} → Tok s i LBrack → Derives s ElementList (i + 1) p ts → Tok s p RBrack
      → Derives s ArrayLiteral i (p + 1) (one (node Row.Array i i (p + 1) ts))
  -- ArrayLiteral : [ ElementList , Elision opt ]
  array_comma : {i p q : ℕ} {ts us : Forest} → Tok s i LBrack → Derives s ElementList (i + 1) p ts → Tok s p Comma → Derives s Elision (p + 1) q us
      → Tok s q RBrack → Derives s ArrayLiteral i (q + 1) (one (node (array_row (join ts us)) i i (q + 1) (join ts us)))
  -- none at all, for Elision opt
  -- Elision : [empty]
  no_elision : {i : ℕ} → Derives s Elision i i nil
  -- Elision : , | Elision ,
  elision : {i p : ℕ} {ts : Forest} → Derives s Elision i p ts → Tok s p Comma → Derives s Elision i (p + 1) (join ts (one (leaf Row.Hole p)))
  -- SpreadElement : ... AssignmentExpression
  spread : {i j : ℕ} {ts : Forest} → Tok s i Dot3 → Derives s AssignmentExpression (i + 1) j ts → Derives s SpreadElement i j (one (node Row.Spread i i j ts))
  -- what an ElementList and an ArgumentList are lists of
  -- Element : AssignmentExpression
  plain_element : {i j : ℕ} {ts : Forest} → Derives s AssignmentExpression i j ts → Derives s Element i j ts
  -- Element : SpreadElement
  spread_element : {i j : ℕ} {ts : Forest} → Derives s SpreadElement i j ts → Derives s Element i j ts
  -- 13.2.5 ObjectLiteral : { }
  object_empty : {i : ℕ} → Tok s i LCurly → Tok s (i + 1) RCurly → Derives s ObjectLiteral i (i + 2) (one (node Row.Object i i (i + 2) nil))
  -- ObjectLiteral : { PropertyDefinitionList }
  object_list : {i p : ℕ} {ts : Forest} → Tok s i LCurly → Derives s PropertyDefinitionList (i + 1) p ts → Tok s p RCurly
      → Derives s ObjectLiteral i (p + 1) (one (node Row.Object i i (p + 1) ts))
  -- ObjectLiteral : { PropertyDefinitionList , }
  object_comma : {i p : ℕ} {ts : Forest} → Tok s i LCurly → Derives s PropertyDefinitionList (i + 1) p ts → Tok s p Comma → Tok s (p + 1) RCurly
      → Derives s ObjectLiteral i (p + 2) (one (node (object_row ts) i i (p + 2) ts))
  -- PropertyDefinition : IdentifierReference
  shorthand : {i : ℕ} → OneOf identifiers s i → Derives s PropertyDefinition i (i + 1) (one (node Row.Shorthand i i (i + 1) (one (leaf Row.Identifier i))))
  -- PropertyDefinition : CoverInitializedName; CoverInitializedName : IdentifierReference Initializer
  cover_initialized : {i j : ℕ} {ts : Forest} → OneOf identifiers s i → Tok s (i + 1) Eq → Derives s AssignmentExpression (i + 2) j ts
      → Derives s PropertyDefinition i j (one (node Row.ShorthandInit (i + 1) i j (cons (leaf Row.Identifier i) ts)))
  -- PropertyDefinition : PropertyName : AssignmentExpression
  property : {i p j : ℕ} {ts us : Forest} → Derives s PropertyName i p ts → Tok s p Colon → Derives s AssignmentExpression (p + 1) j us
      → Derives s PropertyDefinition i j (one (node Row.Property i i j (join ts us)))
  -- PropertyDefinition : ... AssignmentExpression
  spread_property : {i j : ℕ} {ts : Forest} → Derives s SpreadElement i j ts → Derives s PropertyDefinition i j ts
  -- PropertyName : LiteralPropertyName
  literal_name : {i : ℕ} → OneOf literal_property_names s i → Derives s PropertyName i (i + 1) (one (leaf Row.Key i))
  -- PropertyName : ComputedPropertyName; ComputedPropertyName : [ AssignmentExpression ]
  computed_name : {i p : ℕ} {ts : Forest} → Tok s i LBrack → Derives s AssignmentExpression (i + 1) p ts → Tok s p RBrack
      → Derives s PropertyName i (p + 1) (one (node Row.ComputedKey i i (p + 1) ts))
  -- 13.3 MemberExpression : PrimaryExpression
  primary : {i j : ℕ} {ts : Forest} → Derives s PrimaryExpression i j ts → Derives s MemberExpression i j ts
  -- MemberExpression : MemberExpression [ Expression ]; CallExpression : CallExpression [ Expression ]
  index : {l : Links} {i p q : ℕ} {ts us : Forest} → Derives s (LinkedExpression l) i p ts → Tok s p LBrack → Derives s Expression (p + 1) q us → Tok s q RBrack
      → Derives s (LinkedExpression l) i (q + 1) (one (node Row.Index i i (q + 1) (join ts us)))
  -- MemberExpression : MemberExpression . IdentifierName; CallExpression : CallExpression . IdentifierName
  member : {l : Links} {i p : ℕ} {ts : Forest} → Derives s (LinkedExpression l) i p ts → Tok s p Dot → OneOf identifier_names s (p + 1)
      → Derives s (LinkedExpression l) i (p + 2) (one (node Row.Member (p + 1) i (p + 2) ts))
  -- CallExpression : CallMemberExpression | CallExpression Arguments; CallMemberExpression : MemberExpression Arguments
  call : {l : Links} {i p j : ℕ} {ts us : Forest} → Derives s (LinkedExpression l) i p ts → Derives s Arguments p j us
      → Derives s CallExpression i j (one (node Row.Call i i j (join ts us)))
  -- LeftHandSideExpression : NewExpression | CallExpression; NewExpression : MemberExpression
  linked : {l : Links} {i j : ℕ} {ts : Forest} → Derives s (LinkedExpression l) i j ts → Derives s LeftHandSideExpression i j ts
  -- Arguments : ( )
  no_arguments : {i : ℕ} → Tok s i LParen → Tok s (i + 1) RParen → Derives s Arguments i (i + 2) nil
  -- Arguments : ( ArgumentList )
  arguments : {i p : ℕ} {ts : Forest} → Tok s i LParen → Derives s ArgumentList (i + 1) p ts → Tok s p RParen → Derives s Arguments i (p + 1) ts
  -- Arguments : ( ArgumentList , )
  arguments_comma : {i p : ℕ} {ts : Forest} → Tok s i LParen → Derives s ArgumentList (i + 1) p ts → Tok s p Comma → Tok s (p + 1) RParen
      → Derives s Arguments i (p + 2) ts
  -- 13.4 UpdateExpression : LeftHandSideExpression
  left_hand_side : {i j : ℕ} {ts : Forest} → Derives s LeftHandSideExpression i j ts → Derives s UpdateExpression i j ts
  -- UpdateExpression : LeftHandSideExpression [no LineTerminator here] ++ | LeftHandSideExpression [no LineTerminator here] --, of a simple target (13.4.1)
  postfix : {i p : ℕ} {ts : Forest} → Derives s SimpleTarget i p ts → OneOf update_operators s p → SameLine s p
      → Derives s UpdateExpression i (p + 1) (one (node Row.PostfixUpdate p i (p + 1) ts))
  -- UpdateExpression : ++ UnaryExpression | -- UnaryExpression, which is a simple target (13.4.1)
  prefix : {i j : ℕ} {ts : Forest} → OneOf update_operators s i → Derives s SimpleTarget (i + 1) j ts
      → Derives s UpdateExpression i j (one (node Row.PrefixUpdate i i j ts))
  -- 13.5 UnaryExpression : UpdateExpression
  update : {i j : ℕ} {ts : Forest} → Derives s UpdateExpression i j ts → Derives s UnaryExpression i j ts
  -- UnaryExpression : delete UnaryExpression | void UnaryExpression | typeof UnaryExpression | + UnaryExpression | - UnaryExpression
  -- | ~ UnaryExpression | ! UnaryExpression
  unary : {i j : ℕ} {ts : Forest} → OneOf unary_operators s i → Derives s UnaryExpression (i + 1) j ts
      → Derives s UnaryExpression i j (one (node Row.Unary i i j ts))
  -- 13.6 ExponentiationExpression : UnaryExpression
  no_power : {i j : ℕ} {ts : Forest} → Derives s UnaryExpression i j ts → Derives s ExponentiationExpression i j ts
  -- ExponentiationExpression : UpdateExpression ** ExponentiationExpression
  power : {i p j : ℕ} {ts us : Forest} → Derives s UpdateExpression i p ts → Tok s p Star2 → Derives s ExponentiationExpression (p + 1) j us
      → Derives s ExponentiationExpression i j (one (node Row.Binary p i j (join ts us)))
  -- 13.7 to 13.13, X : Y for each line of `LeftToRight`
  no_operation : {x y row i j : ℕ} {operators : List ℕ} {ts : Forest} → LeftToRight (TierExpression x) operators (TierExpression y) row
      → Derives s (TierExpression y) i j ts → Derives s (TierExpression x) i j ts
  -- 13.7 to 13.13, X : X operator Y for each operator of each line of `LeftToRight`
  operation : {x y row i p j : ℕ} {operators : List ℕ} {ts us : Forest} → LeftToRight (TierExpression x) operators (TierExpression y) row
      → Derives s (TierExpression x) i p ts → OneOf operators s p → Derives s (TierExpression y) (p + 1) j us
      → Derives s (TierExpression x) i j (one (node row p i j (join ts us)))
  -- 13.13 CoalesceExpressionHead : CoalesceExpression
  head_coalesce : {i j : ℕ} {ts : Forest} → Derives s CoalesceExpression i j ts → Derives s CoalesceExpressionHead i j ts
  -- CoalesceExpressionHead : BitwiseORExpression
  head_or : {i j : ℕ} {ts : Forest} → Derives s BitwiseORExpression i j ts → Derives s CoalesceExpressionHead i j ts
  -- CoalesceExpression : CoalesceExpressionHead ?? BitwiseORExpression
  coalesce : {i p j : ℕ} {ts us : Forest} → Derives s CoalesceExpressionHead i p ts → Tok s p Question2 → Derives s BitwiseORExpression (p + 1) j us
      → Derives s CoalesceExpression i j (one (node Row.Logical p i j (join ts us)))
  -- ShortCircuitExpression : LogicalORExpression
  short_circuit_or : {i j : ℕ} {ts : Forest} → Derives s LogicalORExpression i j ts → Derives s ShortCircuitExpression i j ts
  -- ShortCircuitExpression : CoalesceExpression
  short_circuit_coalesce : {i j : ℕ} {ts : Forest} → Derives s CoalesceExpression i j ts → Derives s ShortCircuitExpression i j ts
  -- 13.14 ConditionalExpression : ShortCircuitExpression
  short_circuit : {i j : ℕ} {ts : Forest} → Derives s ShortCircuitExpression i j ts → Derives s ConditionalExpression i j ts
  -- ConditionalExpression : ShortCircuitExpression ? AssignmentExpression : AssignmentExpression
  conditional : {i p q j : ℕ} {ts us vs : Forest} → Derives s ShortCircuitExpression i p ts → Tok s p Question → Derives s AssignmentExpression (p + 1) q us
      → Tok s q Colon → Derives s AssignmentExpression (q + 1) j vs
      → Derives s ConditionalExpression i j (one (node Row.Conditional p i j (join ts (join us vs))))
  -- 13.15 AssignmentExpression : ConditionalExpression
  no_assignment : {i j : ℕ} {ts : Forest} → Derives s ConditionalExpression i j ts → Derives s AssignmentExpression i j ts
  -- AssignmentExpression : ArrowFunction; 15.3 ArrowFunction : ArrowParameters [no LineTerminator here] => ConciseBody
  arrow : {i p j : ℕ} {ts us : Forest} → Derives s ArrowParameters i p ts → Tok s p Arrow → SameLine s p → Derives s ConciseBody (p + 1) j us
      → Derives s AssignmentExpression i j (one (node Row.Arrow p i j (join ts us)))
  -- AssignmentExpression : AsyncArrowFunction; 15.9 AsyncArrowFunction : AsyncArrowHead [no LineTerminator here] => AsyncConciseBody
  async_arrow : {i p j : ℕ} {ts us : Forest} → Derives s AsyncArrowHead i p ts → Tok s p Arrow → SameLine s p → Derives s ConciseBody (p + 1) j us
      → Derives s AssignmentExpression i j (one (node Row.AsyncArrow p i j (join ts us)))
  -- AssignmentExpression : LeftHandSideExpression = AssignmentExpression, of a simple target or an AssignmentPattern (13.15.1)
  assign : {i p j : ℕ} {ts us : Forest} → Derives s DestructuringAssignmentTarget i p ts → Tok s p Eq → Derives s AssignmentExpression (p + 1) j us
      → Derives s AssignmentExpression i j (one (node Row.Assign p i j (join ts us)))
  -- AssignmentExpression : LeftHandSideExpression AssignmentOperator AssignmentExpression | LeftHandSideExpression &&= AssignmentExpression
  -- | LeftHandSideExpression ||= AssignmentExpression | LeftHandSideExpression ??= AssignmentExpression, of a simple target (13.15.1)
  compound_assign : {i p j : ℕ} {ts us : Forest} → Derives s SimpleTarget i p ts → OneOf assignment_operators s p → Derives s AssignmentExpression (p + 1) j us
      → Derives s AssignmentExpression i j (one (node Row.CompoundAssign p i j (join ts us)))
  -- 8.6.4 what has AssignmentTargetType simple
  -- SimpleTarget : IdentifierReference
  target_name : {i : ℕ} → OneOf identifiers s i → Derives s SimpleTarget i (i + 1) (one (leaf Row.TargetName i))
  -- SimpleTarget : MemberExpression [ Expression ] | CallExpression [ Expression ]
  target_index : {l : Links} {i p q : ℕ} {ts us : Forest} → Derives s (LinkedExpression l) i p ts → Tok s p LBrack → Derives s Expression (p + 1) q us
      → Tok s q RBrack → Derives s SimpleTarget i (q + 1) (one (node Row.TargetIndex i i (q + 1) (join ts us)))
  -- SimpleTarget : MemberExpression . IdentifierName | CallExpression . IdentifierName
  target_member : {l : Links} {i p : ℕ} {ts : Forest} → Derives s (LinkedExpression l) i p ts → Tok s p Dot → OneOf identifier_names s (p + 1)
      → Derives s SimpleTarget i (p + 2) (one (node Row.TargetMember (p + 1) i (p + 2) ts))
  -- for ( Expression ), where the Expression's is simple
  -- SimpleTarget : ( SimpleTarget )
  target_parenthesized : {i p : ℕ} {ts : Forest} → Tok s i LParen → Derives s SimpleTarget (i + 1) p ts → Tok s p RParen
      → Derives s SimpleTarget i (p + 1) (one (node Row.TargetParen i i (p + 1) ts))
  -- 13.15.5 DestructuringAssignmentTarget : LeftHandSideExpression, of a simple target (13.15.5.1)
  target_simple : {i j : ℕ} {ts : Forest} → Derives s SimpleTarget i j ts → Derives s DestructuringAssignmentTarget i j ts
  -- for LeftHandSideExpression, where it is an ObjectLiteral or ArrayLiteral and covers an AssignmentPattern (13.15.5.1)
  -- DestructuringAssignmentTarget : AssignmentPattern
  target_pattern : {i j : ℕ} {ts : Forest} → Derives s AssignmentPattern i j ts → Derives s DestructuringAssignmentTarget i j ts
  -- AssignmentPattern : ArrayAssignmentPattern; ArrayAssignmentPattern : [ Elision opt ]
  target_array_empty : {i p : ℕ} {ts : Forest} → Tok s i LBrack → Derives s Elision (i + 1) p ts → Tok s p RBrack
      → Derives s AssignmentPattern i (p + 1) (one (node Row.TargetArray i i (p + 1) ts))
  -- ArrayAssignmentPattern : [ Elision opt AssignmentRestElement ]
  target_array_rest : {i p : ℕ} {ts : Forest} → Tok s i LBrack → Derives s (Elided AssignmentRestElement) (i + 1) p ts → Tok s p RBrack
      → Derives s AssignmentPattern i (p + 1) (one (node Row.TargetArray i i (p + 1) ts))
  -- ArrayAssignmentPattern : [ AssignmentElementList ]
  target_array_list : {i p : ℕ} {ts : Forest} → Tok s i LBrack → Derives s AssignmentElementList (i + 1) p ts → Tok s p RBrack
      → Derives s AssignmentPattern i (p + 1) (one (node Row.TargetArray i i (p + 1) ts))
  -- ArrayAssignmentPattern : [ AssignmentElementList , Elision opt ]
  target_array_comma : {i p q : ℕ} {ts us : Forest} → Tok s i LBrack → Derives s AssignmentElementList (i + 1) p ts → Tok s p Comma
      → Derives s Elision (p + 1) q us → Tok s q RBrack → Derives s AssignmentPattern i (q + 1) (one (node Row.TargetArray i i (q + 1) (join ts us)))
  -- ArrayAssignmentPattern : [ AssignmentElementList , Elision opt AssignmentRestElement ]
  target_array_list_rest : {i p q : ℕ} {ts us : Forest} → Tok s i LBrack → Derives s AssignmentElementList (i + 1) p ts → Tok s p Comma
      → Derives s (Elided AssignmentRestElement) (p + 1) q us → Tok s q RBrack
      → Derives s AssignmentPattern i (q + 1) (one (node Row.TargetArray i i (q + 1) (join ts us)))
  -- AssignmentPattern : ObjectAssignmentPattern; ObjectAssignmentPattern : { }
  target_object_empty : {i : ℕ} → Tok s i LCurly → Tok s (i + 1) RCurly → Derives s AssignmentPattern i (i + 2) (one (node Row.TargetObject i i (i + 2) nil))
  -- ObjectAssignmentPattern : { AssignmentRestProperty }
  target_object_rest : {i p : ℕ} {ts : Forest} → Tok s i LCurly → Derives s AssignmentRestProperty (i + 1) p ts → Tok s p RCurly
      → Derives s AssignmentPattern i (p + 1) (one (node Row.TargetObject i i (p + 1) ts))
  -- ObjectAssignmentPattern : { AssignmentPropertyList }
  target_object_list : {i p : ℕ} {ts : Forest} → Tok s i LCurly → Derives s AssignmentPropertyList (i + 1) p ts → Tok s p RCurly
      → Derives s AssignmentPattern i (p + 1) (one (node Row.TargetObject i i (p + 1) ts))
  -- ObjectAssignmentPattern : { AssignmentPropertyList , }
  target_object_comma : {i p : ℕ} {ts : Forest} → Tok s i LCurly → Derives s AssignmentPropertyList (i + 1) p ts → Tok s p Comma → Tok s (p + 1) RCurly
      → Derives s AssignmentPattern i (p + 2) (one (node Row.TargetObject i i (p + 2) ts))
  -- ObjectAssignmentPattern : { AssignmentPropertyList , AssignmentRestProperty }
  target_object_list_rest : {i p q : ℕ} {ts us : Forest} → Tok s i LCurly → Derives s AssignmentPropertyList (i + 1) p ts → Tok s p Comma
      → Derives s AssignmentRestProperty (p + 1) q us → Tok s q RCurly
      → Derives s AssignmentPattern i (q + 1) (one (node Row.TargetObject i i (q + 1) (join ts us)))
  -- AssignmentElement : DestructuringAssignmentTarget
  target_element : {i j : ℕ} {ts : Forest} → Derives s DestructuringAssignmentTarget i j ts → Derives s AssignmentElement i j ts
  -- AssignmentElement : DestructuringAssignmentTarget Initializer
  target_default : {i p j : ℕ} {ts us : Forest} → Derives s DestructuringAssignmentTarget i p ts → Tok s p Eq → Derives s AssignmentExpression (p + 1) j us
      → Derives s AssignmentElement i j (one (node Row.TargetDefault p i j (join ts us)))
  -- AssignmentRestElement : ... DestructuringAssignmentTarget
  target_rest : {i j : ℕ} {ts : Forest} → Tok s i Dot3 → Derives s DestructuringAssignmentTarget (i + 1) j ts
      → Derives s AssignmentRestElement i j (one (node Row.TargetRest i i j ts))
  -- AssignmentProperty : IdentifierReference
  target_shorthand : {i : ℕ} → OneOf identifiers s i
      → Derives s AssignmentProperty i (i + 1) (one (node Row.TargetShorthand i i (i + 1) (one (leaf Row.TargetName i))))
  -- AssignmentProperty : IdentifierReference Initializer
  target_shorthand_default : {i j : ℕ} {ts : Forest} → OneOf identifiers s i → Tok s (i + 1) Eq → Derives s AssignmentExpression (i + 2) j ts
      → Derives s AssignmentProperty i j (one (node Row.TargetShorthandInit (i + 1) i j (cons (leaf Row.TargetName i) ts)))
  -- AssignmentProperty : PropertyName : AssignmentElement
  target_property : {i p j : ℕ} {ts us : Forest} → Derives s PropertyName i p ts → Tok s p Colon → Derives s AssignmentElement (p + 1) j us
      → Derives s AssignmentProperty i j (one (node Row.TargetProperty i i j (join ts us)))
  -- AssignmentRestProperty : ... DestructuringAssignmentTarget, which is no ArrayLiteral or ObjectLiteral (13.15.5.1)
  target_rest_property : {i j : ℕ} {ts : Forest} → Tok s i Dot3 → Derives s SimpleTarget (i + 1) j ts
      → Derives s AssignmentRestProperty i j (one (node Row.TargetRest i i j ts))
  -- 13.16 Expression : AssignmentExpression
  no_comma : {i j : ℕ} {ts : Forest} → Derives s AssignmentExpression i j ts → Derives s Expression i j ts
  -- for Expression : Expression , AssignmentExpression, one row over all the parts, whose mark is the first comma: an Expression with a comma is Commas
  -- Expression : Commas
  sequence : {comma i j : ℕ} {ts : Forest} → Derives s (Commas comma) i j ts → Derives s Expression i j (one (node Row.Sequence comma i j ts))
  -- Commas : AssignmentExpression , AssignmentExpression
  first_comma : {comma i j : ℕ} {ts us : Forest} → Derives s AssignmentExpression i comma ts → Tok s comma Comma
      → Derives s AssignmentExpression (comma + 1) j us → Derives s (Commas comma) i j (join ts us)
  -- Commas : Commas , AssignmentExpression
  next_comma : {comma i p j : ℕ} {ts us : Forest} → Derives s (Commas comma) i p ts → Tok s p Comma → Derives s AssignmentExpression (p + 1) j us
      → Derives s (Commas comma) i j (join ts us)
  -- 14.3.3 what an initializer or a rest may stand with
  -- Binding : BindingIdentifier
  binding_name : {i : ℕ} → OneOf identifiers s i → Derives s Binding i (i + 1) (one (leaf Row.BindingName i))
  -- Binding : BindingPattern
  binding_pattern : {i j : ℕ} {ts : Forest} → Derives s BindingPattern i j ts → Derives s Binding i j ts
  -- BindingPattern : ObjectBindingPattern; ObjectBindingPattern : { }
  binding_object_empty : {i : ℕ} → Tok s i LCurly → Tok s (i + 1) RCurly → Derives s BindingPattern i (i + 2) (one (node Row.BindingObject i i (i + 2) nil))
  -- ObjectBindingPattern : { BindingRestProperty }
  binding_object_rest : {i p : ℕ} {ts : Forest} → Tok s i LCurly → Derives s BindingRestProperty (i + 1) p ts → Tok s p RCurly
      → Derives s BindingPattern i (p + 1) (one (node Row.BindingObject i i (p + 1) ts))
  -- ObjectBindingPattern : { BindingPropertyList }
  binding_object_list : {i p : ℕ} {ts : Forest} → Tok s i LCurly → Derives s BindingPropertyList (i + 1) p ts → Tok s p RCurly
      → Derives s BindingPattern i (p + 1) (one (node Row.BindingObject i i (p + 1) ts))
  -- ObjectBindingPattern : { BindingPropertyList , }
  binding_object_comma : {i p : ℕ} {ts : Forest} → Tok s i LCurly → Derives s BindingPropertyList (i + 1) p ts → Tok s p Comma → Tok s (p + 1) RCurly
      → Derives s BindingPattern i (p + 2) (one (node Row.BindingObject i i (p + 2) ts))
  -- ObjectBindingPattern : { BindingPropertyList , BindingRestProperty }
  binding_object_list_rest : {i p q : ℕ} {ts us : Forest} → Tok s i LCurly → Derives s BindingPropertyList (i + 1) p ts → Tok s p Comma
      → Derives s BindingRestProperty (p + 1) q us → Tok s q RCurly → Derives s BindingPattern i (q + 1) (one (node Row.BindingObject i i (q + 1) (join ts us)))
  -- BindingPattern : ArrayBindingPattern; ArrayBindingPattern : [ Elision opt ]
  binding_array_empty : {i p : ℕ} {ts : Forest} → Tok s i LBrack → Derives s Elision (i + 1) p ts → Tok s p RBrack
      → Derives s BindingPattern i (p + 1) (one (node Row.BindingArray i i (p + 1) ts))
  -- ArrayBindingPattern : [ Elision opt BindingRestElement ]
  binding_array_rest : {i p : ℕ} {ts : Forest} → Tok s i LBrack → Derives s (Elided BindingRestElement) (i + 1) p ts → Tok s p RBrack
      → Derives s BindingPattern i (p + 1) (one (node Row.BindingArray i i (p + 1) ts))
  -- ArrayBindingPattern : [ BindingElementList ]
  binding_array_list : {i p : ℕ} {ts : Forest} → Tok s i LBrack → Derives s BindingElementList (i + 1) p ts → Tok s p RBrack
      → Derives s BindingPattern i (p + 1) (one (node Row.BindingArray i i (p + 1) ts))
  -- ArrayBindingPattern : [ BindingElementList , Elision opt ]
  binding_array_comma : {i p q : ℕ} {ts us : Forest} → Tok s i LBrack → Derives s BindingElementList (i + 1) p ts → Tok s p Comma
      → Derives s Elision (p + 1) q us → Tok s q RBrack → Derives s BindingPattern i (q + 1) (one (node Row.BindingArray i i (q + 1) (join ts us)))
  -- ArrayBindingPattern : [ BindingElementList , Elision opt BindingRestElement ]
  binding_array_list_rest : {i p q : ℕ} {ts us : Forest} → Tok s i LBrack → Derives s BindingElementList (i + 1) p ts → Tok s p Comma
      → Derives s (Elided BindingRestElement) (p + 1) q us → Tok s q RBrack
      → Derives s BindingPattern i (q + 1) (one (node Row.BindingArray i i (q + 1) (join ts us)))
  -- BindingElement : SingleNameBinding | BindingPattern; SingleNameBinding : BindingIdentifier
  no_default : {i j : ℕ} {ts : Forest} → Derives s Binding i j ts → Derives s BindingElement i j ts
  -- BindingElement : SingleNameBinding | BindingPattern Initializer; SingleNameBinding : BindingIdentifier Initializer
  binding_default : {i p j : ℕ} {ts us : Forest} → Derives s Binding i p ts → Tok s p Eq → Derives s AssignmentExpression (p + 1) j us
      → Derives s BindingElement i j (one (node Row.BindingDefault p i j (join ts us)))
  -- BindingRestElement : ... BindingIdentifier | ... BindingPattern
  binding_rest : {i j : ℕ} {ts : Forest} → Tok s i Dot3 → Derives s Binding (i + 1) j ts
      → Derives s BindingRestElement i j (one (node Row.BindingRest i i j ts))
  -- BindingProperty : SingleNameBinding; SingleNameBinding : BindingIdentifier
  binding_shorthand : {i : ℕ} → OneOf identifiers s i
      → Derives s BindingProperty i (i + 1) (one (node Row.BindingShorthand i i (i + 1) (one (leaf Row.BindingName i))))
  -- BindingProperty : SingleNameBinding; SingleNameBinding : BindingIdentifier Initializer
  binding_shorthand_default : {i j : ℕ} {ts : Forest} → OneOf identifiers s i → Tok s (i + 1) Eq → Derives s AssignmentExpression (i + 2) j ts
      → Derives s BindingProperty i j (one (node Row.BindingShorthandInit (i + 1) i j (cons (leaf Row.BindingName i) ts)))
  -- BindingProperty : PropertyName : BindingElement
  binding_property : {i p j : ℕ} {ts us : Forest} → Derives s PropertyName i p ts → Tok s p Colon → Derives s BindingElement (p + 1) j us
      → Derives s BindingProperty i j (one (node Row.Property i i j (join ts us)))
  -- BindingRestProperty : ... BindingIdentifier
  binding_rest_property : {i : ℕ} → Tok s i Dot3 → OneOf identifiers s (i + 1)
      → Derives s BindingRestProperty i (i + 2) (one (node Row.BindingRest i i (i + 2) (one (leaf Row.BindingName (i + 1)))))
  -- 15.1 FormalParameters : [empty]
  no_parameters : {i : ℕ} → Derives s FormalParameters i i nil
  -- FormalParameters : FunctionRestParameter; FunctionRestParameter : BindingRestElement
  rest_parameter : {i j : ℕ} {ts : Forest} → Derives s BindingRestElement i j ts → Derives s FormalParameters i j ts
  -- FormalParameters : FormalParameterList
  parameters : {i j : ℕ} {ts : Forest} → Derives s FormalParameterList i j ts → Derives s FormalParameters i j ts
  -- FormalParameters : FormalParameterList ,
  parameters_comma : {i p : ℕ} {ts : Forest} → Derives s FormalParameterList i p ts → Tok s p Comma → Derives s FormalParameters i (p + 1) ts
  -- FormalParameters : FormalParameterList , FunctionRestParameter
  parameters_rest : {i p j : ℕ} {ts us : Forest} → Derives s FormalParameterList i p ts → Tok s p Comma → Derives s BindingRestElement (p + 1) j us
      → Derives s FormalParameters i j (join ts us)
  -- 15.3 ArrowFormalParameters : ( UniqueFormalParameters ); UniqueFormalParameters : FormalParameters
  arrow_formal_parameters : {i p : ℕ} {ts : Forest} → Tok s i LParen → Derives s FormalParameters (i + 1) p ts → Tok s p RParen
      → Derives s ArrowFormalParameters i (p + 1) ts
  -- ArrowParameters : BindingIdentifier
  arrow_name : {i : ℕ} → OneOf identifiers s i → Derives s ArrowParameters i (i + 1) (one (leaf Row.BindingName i))
  -- ArrowParameters : ArrowFormalParameters
  arrow_parameters : {i j : ℕ} {ts : Forest} → Derives s ArrowFormalParameters i j ts → Derives s ArrowParameters i j ts
  -- ConciseBody : [lookahead ≠ {] ExpressionBody; ExpressionBody : AssignmentExpression
  concise_body : {i j : ℕ} {ts : Forest} → Not s i LCurly → Derives s AssignmentExpression i j ts → Derives s ConciseBody i j ts
  -- 15.9 the head before a name, which the standard has in AsyncArrowFunction itself
  -- AsyncArrowHead : async [no LineTerminator here] AsyncArrowBindingIdentifier; AsyncArrowBindingIdentifier : BindingIdentifier
  async_name : {i : ℕ} → Tok s i Async → OneOf identifiers s (i + 1) → SameLine s (i + 1)
      → Derives s AsyncArrowHead i (i + 2) (one (leaf Row.BindingName (i + 1)))
  -- AsyncArrowHead : async [no LineTerminator here] ArrowFormalParameters
  async_parameters : {i j : ℕ} {ts : Forest} → Tok s i Async → SameLine s (i + 1) → Derives s ArrowFormalParameters (i + 1) j ts
      → Derives s AsyncArrowHead i j ts

-- 13.2.5.1 Early errors, PropertyDefinition : CoverInitializedName: no source text may be matched by this production. No ShorthandInit row is left.
unfoldable mutual
  pub covers_nothing : Tree → Bool
  covers_nothing (node kind mark first end kids) = if kind is Row.ShorthandInit then false else cover_nothing kids

  pub cover_nothing : Forest → Bool
  cover_nothing nil = true
  cover_nothing (cons t ts) = if covers_nothing t then cover_nothing ts else false

-- ECMA-262 has the tokens from i to j as this nonterminal, with this tree
pub record Derived (s : Sheet) (x : Nonterminal) (i j : ℕ) (t : Tree) : Type 0 where
  pub derivation : Derives s x i j (one t)
  pub no_cover : covers_nothing t ≡ true
