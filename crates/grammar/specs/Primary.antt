-- 13.2 Primary expressions: names, this, literals, parentheses, array and object literals.
use Rattle.std.specs.Prelude.{◌+◌, if◌then◌else◌}
use Rattle.tokens.specs.Kind.{This, Str, Number, LParen, RParen, LBrack, RBrack, LCurly, RCurly, Comma, Colon, Dot3, Eq}
use Rattle.grammar.specs.Sheet.{ℕ, not, ◌and◌, ◌or◌, ◌is◌, is_name, is_word, is_literal, Forest, nil, cons, one, join, Sheet, token, Reading, leaf, ◌>>=◌, ◌>>◌, yield, make, unexpected, want, comma_or}
use Rattle.grammar.specs.Job.{expression, assignment, elements, properties, property, key, spread, Asks}
use Rattle.rows.specs.Row as Row

module _ {N : Type 0} (sheet : Sheet) (ask : Asks N) where
  unfoldable pub parenthesized_of : ℕ → Reading N  -- 13.2.9 ParenthesizedExpression : ( Expression )
  parenthesized_of at = do
    inner ← ask (expression (at + 1))
    want sheet RParen inner.end
    make Row.Paren at at (inner.end + 1) inner.trees

  -- 13.2 PrimaryExpression : this | IdentifierReference | Literal | RegularExpressionLiteral | ArrayLiteral | ObjectLiteral | ( Expression )
  unfoldable pub primary_of : ℕ → Reading N
  primary_of at =
      if is_name (token sheet at) then yield (at + 1) (one (leaf Row.Identifier at))
      else if token sheet at is This then yield (at + 1) (one (leaf Row.This at))
      else if is_literal (token sheet at) then yield (at + 1) (one (leaf Row.Literal at))
      else if token sheet at is LParen then parenthesized_of at
      else if token sheet at is LBrack then ask (elements at (at + 1) Row.Array nil)
      else if token sheet at is LCurly then ask (properties at (at + 1) Row.Object nil)
      else unexpected at

  unfoldable pub spread_of : ℕ → Reading N  -- 13.2.4 SpreadElement : ... AssignmentExpression
  spread_of at = do
    argument ← ask (assignment (at + 1))
    make Row.Spread at at argument.end argument.trees

  -- 13.2.4 ArrayLiteral : [ Elision ] | [ ElementList ] | [ ElementList , Elision ]
  -- The literal that began at `first`, from a place where an element could start; `kind` is its kind if it closes here, and a comma is a Hole.
  unfoldable pub elements_of : ℕ → ℕ → ℕ → Forest → Reading N
  elements_of first at kind so_far =
      if token sheet at is RBrack then make kind first first (at + 1) so_far
      else if token sheet at is Comma then ask (elements first (at + 1) Row.Array (join so_far (one (leaf Row.Hole at))))
      else do
        element ← ask (if token sheet at is Dot3 then spread at else assignment at)
        comma_or sheet RBrack element.end
            (ask (elements first (element.end + 1) (if token sheet at is Dot3 then Row.ArrayRestComma else Row.Array) (join so_far element.trees)))
            (make Row.Array first first (element.end + 1) (join so_far element.trees))

  -- 13.2.5 ObjectLiteral : { } | { PropertyDefinitionList } | { PropertyDefinitionList , }
  -- The literal that began at `first`, from a place where a property could start; `kind` is its kind if it closes here.
  unfoldable pub properties_of : ℕ → ℕ → ℕ → Forest → Reading N
  properties_of first at kind so_far =
      if token sheet at is RCurly then make kind first first (at + 1) so_far
      else do
        part ← ask (if token sheet at is Dot3 then spread at else property at)
        comma_or sheet RCurly part.end
            (ask (properties first (part.end + 1) (if token sheet at is Dot3 then Row.ObjectRestComma else Row.Object) (join so_far part.trees)))
            (make Row.Object first first (part.end + 1) (join so_far part.trees))

  unfoldable pub shorthand_of : ℕ → Reading N  -- 13.2.5 PropertyDefinition : IdentifierReference | CoverInitializedName
  shorthand_of at =
      if token sheet (at + 1) is Eq then (do
        initializer ← ask (assignment (at + 2))
        make Row.ShorthandInit (at + 1) at initializer.end (cons (leaf Row.Identifier at) initializer.trees))
      else make Row.Shorthand at at (at + 1) (one (leaf Row.Identifier at))

  unfoldable pub property_of : ℕ → Reading N  -- 13.2.5 PropertyDefinition : PropertyName : AssignmentExpression, or for a name alone the shorthand
  property_of at =
      if is_name (token sheet at) and not (token sheet (at + 1) is Colon) then shorthand_of at
      else do
        name ← ask (key at)
        want sheet Colon name.end
        content ← ask (assignment (name.end + 1))
        make Row.Property at at content.end (join name.trees content.trees)

  -- 13.2.5 PropertyName : LiteralPropertyName | ComputedPropertyName; ComputedPropertyName : [ AssignmentExpression ]
  unfoldable pub key_of : ℕ → Reading N
  key_of at =
      if is_word (token sheet at) or token sheet at is Str or token sheet at is Number then yield (at + 1) (one (leaf Row.Key at))
      else if token sheet at is LBrack then (do
        inner ← ask (assignment (at + 1))
        want sheet RBrack inner.end
        make Row.ComputedKey at at (inner.end + 1) inner.trees)
      else unexpected at
