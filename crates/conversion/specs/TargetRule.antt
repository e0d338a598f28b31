-- The target rule, written from ECMA-262 alone: which rows of an expression the standard allows as the target of an assignment. 13.15.1: where the left side is an
-- ObjectLiteral or an ArrayLiteral it must cover an AssignmentPattern (13.15.5), and otherwise its AssignmentTargetType (8.6.4) must be simple. A literal of kind 6 or 8 has a
-- comma after its closing spread: no production of an AssignmentPattern has that, and so no rule here has those kinds. What it does not judge again: it goes down to the
-- targets of a literal and stops at rows whose inside was judged when they were read. An Assign as an element is an initialized element, whatever records its own left side
-- got when it was read; the kids of a Member and of an Index are not looked into; nor are keys and initializers. So the trees of `[{...[a]} = b]`, `[[...a,] = b]`, `[[a += 1]
-- = b]` and `[{a = 1}.x]` are targets by this rule, and converted as trees they give no record, though ECMA-262 has no such target: the record (3, 4, 5, 8) was given when
-- that part was read. `not_judged_again` (NotJudgedAgain) computes the four.
use Rattle.rows.specs.Base.{ℕ, Tree, Forest, node, nil, cons, one}
use Rattle.rows.specs.Row as row

pub data Simple : Tree → Type 0 where  -- AssignmentTargetType is simple
  -- IdentifierReference : Identifier
  identifier : {mark first end : ℕ} {kids : Forest} → Simple (node row.Identifier mark first end kids)
  -- MemberExpression : MemberExpression . IdentifierName, CallExpression : CallExpression . IdentifierName
  member : {mark first end : ℕ} {kids : Forest} → Simple (node row.Member mark first end kids)
  -- MemberExpression : MemberExpression [ Expression ], CallExpression : CallExpression [ Expression ]
  index : {mark first end : ℕ} {kids : Forest} → Simple (node row.Index mark first end kids)
  -- ParenthesizedExpression : ( Expression ), the AssignmentTargetType of the Expression
  parenthesized : {mark first end : ℕ} {t : Tree} → Simple t → Simple (node row.Paren mark first end (one t))

mutual
  pub data Target : Tree → Type 0 where  -- 13.15.5 DestructuringAssignmentTarget : LeftHandSideExpression, and the left side of `=`
    simple : {t : Tree} → Simple t → Target t
    -- AssignmentPattern : ArrayAssignmentPattern
    array : {mark first end : ℕ} {ts : Forest} → Elements ts → Target (node row.Array mark first end ts)
    -- AssignmentPattern : ObjectAssignmentPattern
    object : {mark first end : ℕ} {ts : Forest} → Properties ts → Target (node row.Object mark first end ts)

  -- ArrayAssignmentPattern : [ Elision opt AssignmentRestElement opt ] | [ AssignmentElementList ]
  --   | [ AssignmentElementList , Elision opt AssignmentRestElement opt ]
  pub data Elements : Forest → Type 0 where
    no_elements : Elements nil
    -- Elision
    elision : {mark first end : ℕ} {kids ts : Forest} → Elements ts → Elements (cons (node row.Hole mark first end kids) ts)
    -- AssignmentElementList
    next_element : {t : Tree} {ts : Forest} → Element t → Elements ts → Elements (cons t ts)
    -- AssignmentRestElement : ... DestructuringAssignmentTarget
    rest_element : {mark first end : ℕ} {t : Tree} → Target t → Elements (one (node row.Spread mark first end (one t)))

  pub data Element : Tree → Type 0 where  -- AssignmentElement : DestructuringAssignmentTarget Initializer opt
    bare : {t : Tree} → Target t → Element t
    -- with its Initializer it was read as an Assign, whose left side is a target already
    initialized : {mark first end : ℕ} {kids : Forest} → Element (node row.Assign mark first end kids)

  -- ObjectAssignmentPattern : { } | { AssignmentRestProperty } | { AssignmentPropertyList } | { AssignmentPropertyList , AssignmentRestProperty opt }
  pub data Properties : Forest → Type 0 where
    no_properties : Properties nil
    -- AssignmentPropertyList
    next_property : {t : Tree} {ts : Forest} → Property t → Properties ts → Properties (cons t ts)
    -- AssignmentRestProperty : ... DestructuringAssignmentTarget, which is no ArrayLiteral or ObjectLiteral (13.15.5.1)
    rest_property : {mark first end : ℕ} {t : Tree} → Simple t → Properties (one (node row.Spread mark first end (one t)))

  pub data Property : Tree → Type 0 where  -- AssignmentProperty : IdentifierReference Initializer opt | PropertyName : AssignmentElement
    reference : {mark first end mark' first' end' : ℕ} {kids : Forest}
        → Property (node row.Shorthand mark first end (one (node row.Identifier mark' first' end' kids)))
    reference_initialized : {mark first end mark' first' end' : ℕ} {kids : Forest} {initializer : Tree}
        → Property (node row.ShorthandInit mark first end (cons (node row.Identifier mark' first' end' kids) (one initializer)))
    pair : {mark first end : ℕ} {key t : Tree} → Element t → Property (node row.Property mark first end (cons key (one t)))
