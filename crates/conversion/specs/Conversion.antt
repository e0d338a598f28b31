-- Conversion (RULES C1 to C11): what was read as an expression becomes an assignment target, or is refused.
-- Each row is looked at in a role; the role says what the row becomes, and the roles of its kids. A row that is no expression, one
-- already a target included, is 9; so is a row whose kids are not as RULES R8 has them, of which a well-formed tree has none.
use Rattle.std.specs.Prelude.{◌+◌, ◌∷◌, ◌++◌, if◌then◌else◌}
use Rattle.rows.specs.Base.{ℕ, Bool, not, List, [], ◌and◌, ◌or◌, ◌is◌, between, Cause, Tree, Forest, node, nil, cons, count, kind_of, first_of, Record, rest_argument, rest_comma, compound_default, eqb}
use Rattle.tokens.specs.declared.cause.Cause.TheVariants.{Target as NoTarget, Spread as SpreadNotLast}
use Rattle.rows.specs.Row as row

pub data Outcome (A : Type 0) : Type 0 where  -- what comes of it: the converted with the records in the order found, or the first refusal
  turned : A → List Record → Outcome A
  refused : Cause → Outcome A

pub data Role : Type 0 where  -- What a row is to become. A `comma` is the record of a comma after the literal's rest: one record 4, or none.
  any : Role  -- any target: 13.15.5 DestructuringAssignmentTarget
  simple : Role  -- a simple target: 13.15.1, AssignmentTargetType simple
  element : Role  -- an element of an array that another follows: AssignmentElement, elision
  last_element : List Record → Role  -- the last element of an array: these, or AssignmentRestElement
  property : Role  -- a property of an object that another follows: AssignmentProperty
  last_property : List Record → Role  -- the last property of an object: this, or AssignmentRestProperty
  value : Role  -- the value of a property: AssignmentElement
  name : Role  -- the name of a shorthand: IdentifierReference
  same : Role  -- a key or an initializer: it stays as it is

-- what a row becomes: nothing, for a cause; another kind over the same kids, with records; or another kind over kids that are
-- converted, each in the role given by the number of kids after it, with the records before theirs and after theirs
pub data Change : Type 0 where
  refuse : Cause → Change
  keep : ℕ → List Record → Change
  turn : ℕ → List Record → (ℕ → Role) → List Record → Change

-- the role of a kid by the number of kids after it: the same for all; or one for the last kid, and one for the others
abbrev pub only : Role → ℕ → Role
only role after = role

abbrev pub each : Role → Role → ℕ → Role
each others last after = if after is 0 then last else others

abbrev pub is_array_or_object : ℕ → Bool  -- an Array or Object literal, with or without a comma after its closing spread
is_array_or_object kind = between row.Array row.ObjectRestComma kind

abbrev pub is_reference : ℕ → Bool  -- a name, a Member or an Index
is_reference kind = kind is row.Identifier or kind is row.Member or kind is row.Index

abbrev pub last_or : Tree → Forest → Tree  -- the last of some rows, or this one
last_or t nil = t
last_or t (cons u us) = last_or u us

abbrev pub last_of : Forest → Tree  -- the last of some rows; a row of nothing where there is none
last_of ts = last_or (node 0 0 0 0 nil) ts

-- the kind of what stands in Parens
unfoldable mutual
  pub inner_kind : Tree → ℕ
  inner_kind (node kind mark first end kids) = if kind is row.Paren then inner_kinds kids else kind

  pub inner_kinds : Forest → ℕ
  inner_kinds nil = 0
  inner_kinds (cons t ts) = inner_kind t

-- record 3, at the first token of a rest's argument: through Parens it must be a name, Member or Index, in arrays also Array or Object
abbrev pub array_argument : Tree → List Record
array_argument t = if is_reference (inner_kind t) or is_array_or_object (inner_kind t) then [] else rest_argument (first_of t) ∷ []

abbrev pub object_argument : Tree → List Record
object_argument t = if is_reference (inner_kind t) then [] else rest_argument (first_of t) ∷ []

-- what conversion looks at in a row: three of its words, how many kids it has, the kind of the last of them, and the record 3 that the last would give as a rest's argument
pub record Seen : Type 0 where
  pub kind : ℕ
  pub mark : ℕ
  pub first : ℕ
  pub kids : ℕ
  pub last : ℕ
  pub in_array : List Record
  pub in_object : List Record

unfoldable pub seen : Tree → Seen
seen (node kind mark first end kids) =
    record { kind = kind; mark = mark; first = first; kids = count kids; last = kind_of (last_of kids); in_array = array_argument (last_of kids); in_object = object_argument (last_of kids) }

abbrev pub is_with : Seen → ℕ → ℕ → Bool  -- the row is of a kind and has so many kids
is_with r kind kids = r.kind is kind and r.kids is kids

abbrev pub is_closed : Seen → ℕ → Bool  -- the row is of a kind, and its last kid is a Spread
is_closed r kind = r.kind is kind and r.last is row.Spread

-- 13.15.1, AssignmentTargetType simple: Name, Member and Index become targets; Paren becomes TargetParen over a simple target.
-- Paren directly over Array or Object is 9 at that Paren, and all else is 9 at that row.
unfoldable pub as_simple : Seen → Change
as_simple r =
    if r.kind is row.Identifier then keep row.TargetName []
    else if r.kind is row.Member then keep row.TargetMember []
    else if r.kind is row.Index then keep row.TargetIndex []
    else if is_with r row.Paren 1 and not (is_array_or_object r.last) then turn row.TargetParen [] (only simple) []
    else refuse (NoTarget r.first)

-- 13.15.5 DestructuringAssignmentTarget: an AssignmentPattern for an Array or Object, otherwise a simple target. A literal with a
-- comma after its closing spread hands the record of that comma to its last kid.
unfoldable pub as_any : Seen → Change
as_any r =
    if r.kind is row.Array then turn row.TargetArray [] (each element (last_element [])) []
    else if is_closed r row.ArrayRestComma then turn row.TargetArray [] (each element (last_element (rest_comma r.first ∷ []))) []
    else if r.kind is row.Object then turn row.TargetObject [] (each property (last_property [])) []
    else if is_closed r row.ObjectRestComma then turn row.TargetObject [] (each property (last_property (rest_comma r.first ∷ []))) []
    else as_simple r

-- 13.15.5 AssignmentElement : DestructuringAssignmentTarget Initializer opt
-- Assign becomes TargetDefault; CompoundAssign too, with record 5 at its operator. The left kid is a target already.
unfoldable pub as_value : Seen → Change
as_value r =
    if r.kind is row.Assign then keep row.TargetDefault []
    else if r.kind is row.CompoundAssign then keep row.TargetDefault (compound_default r.mark ∷ [])
    else as_any r

unfoldable pub as_element : Seen → Change  -- an element that another follows: a Hole stays, and a Spread is 10
as_element r =
    if r.kind is row.Hole then keep row.Hole []
    else if r.kind is row.Spread then refuse (SpreadNotLast r.first)
    else as_value r

-- 13.15.5 AssignmentRestElement : ... DestructuringAssignmentTarget. A last Spread is a rest. Arrays: record 3, argument, record 4.
unfoldable pub as_last_element : List Record → Seen → Change
as_last_element comma r = if is_with r row.Spread 1 then turn row.TargetRest r.in_array (only any) comma else as_element r

-- 13.15.5 AssignmentProperty : IdentifierReference Initializer opt, or PropertyName : AssignmentElement. A property that another follows: a Spread is 10
unfoldable pub as_property : Seen → Change
as_property r =
    if is_with r row.Shorthand 1 then turn row.TargetShorthand [] (only name) []
    else if is_with r row.ShorthandInit 2 then turn row.TargetShorthandInit [] (each name same) []
    else if is_with r row.Property 2 then turn row.TargetProperty [] (each same value) []
    else if r.kind is row.Spread then refuse (SpreadNotLast r.first)
    else refuse (NoTarget r.first)

-- 13.15.5 AssignmentRestProperty : ... DestructuringAssignmentTarget. A last Spread is a rest. Objects: record 3, record 4, argument.
unfoldable pub as_last_property : List Record → Seen → Change
as_last_property comma r = if is_with r row.Spread 1 then turn row.TargetRest (r.in_object ++ comma) (only any) [] else as_property r

unfoldable pub as_name : Seen → Change  -- the name of a shorthand
as_name r = if r.kind is row.Identifier then keep row.TargetName [] else refuse (NoTarget r.first)

unfoldable pub change : Role → Seen → Change  -- what a row becomes in a role
change any r = as_any r
change simple r = as_simple r
change element r = as_element r
change (last_element comma) r = as_last_element comma r
change property r = as_property r
change (last_property comma) r = as_last_property comma r
change value r = as_value r
change name r = as_name r
change same r = keep r.kind []

unfoldable pub roles : Change → ℕ → Role  -- the roles that a change gives the kids
roles (refuse cause) = only same
roles (keep kind records) = only same
roles (turn kind before kids after) = kids

unfoldable pub over : Change → Tree → Outcome Forest → Outcome Tree  -- a row of that change, over what came of its kids
over (refuse cause) t kids = refused cause
over (keep kind' records) (node kind mark first end kids) _ = turned (node kind' mark first end kids) records
over (turn kind' before _ after) (node kind mark first end kids) (turned kids' records) = turned (node kind' mark first end kids') (before ++ records ++ after)
over (turn kind' before _ after) (node kind mark first end kids) (refused cause) = refused cause

-- left to right, each wholly: the first refusal is given, and the records stand in order
unfoldable pub both : Outcome Tree → Outcome Forest → Outcome Forest
both (refused cause) rest = refused cause
both (turned t records) (refused cause) = refused cause
both (turned t records) (turned ts more) = turned (cons t ts) (records ++ more)

unfoldable mutual
  -- a row in a role
  pub convert_as : Tree → Role → Outcome Tree
  convert_as (node kind mark first end kids) role =
      over (change role (seen (node kind mark first end kids))) (node kind mark first end kids)
      (convert_kids kids (roles (change role (seen (node kind mark first end kids)))))

  -- kids, whose roles are given by the number of kids after one
  pub convert_kids : Forest → (ℕ → Role) → Outcome Forest
  convert_kids nil roles = turned nil []
  convert_kids (cons t ts) roles = both (convert_as t (roles (count ts))) (convert_kids ts roles)

abbrev pub convert : Tree → Outcome Tree  -- left of `=`: to any target
convert t = convert_as t any

-- What conversion and the last pass of a reading could still record of a tree (for which RULES A4 asks room): a Spread, a literal with a comma after its rest, a
-- CompoundAssign and a ShorthandInit one record each.
abbrev pub may_record : ℕ → Bool
may_record kind =
    eqb kind row.ArrayRestComma or eqb kind row.ObjectRestComma or eqb kind row.Spread or eqb kind row.ShorthandInit or eqb kind row.CompoundAssign

unfoldable mutual
  pub potential : Tree → ℕ
  potential (node kind mark first end kids) = (if may_record kind then 1 else 0) + potentials kids

  pub potentials : Forest → ℕ
  potentials nil = 0
  potentials (cons t ts) = potential t + potentials ts
