-- Well-formed trees, as something to build: a tree is Formed if each row has the kids that the table of shapes gives its kind. What is Formed is
-- well-formed (`is_well_formed`), and conversion of what is Formed is Formed, with targets where the role asks for them (`converted_formed`).
-- Assumes nothing.
use Rattle.std.specs.Prelude.{if◌then◌else◌}
use Prim.Native.Nat.{ℕ, suc, ◌+◌, ◌≤◌}
use mathlib.Core.Path.{◌≡◌, refl, sym, ap, ◌∙◌}
use mathlib.Core.Bool.{Bool, true, false, not}
use mathlib.Core.List.{List, [], ◌∷◌}
use native.Mathlib.Omega.{arith}
use native.Mathlib.Numerals.{add-one}
use lib.Dec.{eqb, leb, eqb-suc-zero}
use lib.ListN.{length, get_or}
use borrow.Author.Tests.{eqb-true, eq-eqb, lt-ltb, le-ltb, le-leb}
use Rattle.tokens.specs.Bool.{◌or◌, ◌and◌}
use Rattle.laws.proofs.Good.{and_left, and_right}
use Rattle.rows.specs.Row as Row
use Rattle.rows.specs.Tree.{Tree, Forest, node, nil, cons, one, count, kind_of, kids_of}
use Rattle.rows.specs.Record.{Record}
use Rattle.conversion.specs.Conversion.{Outcome, turned, refused, Role, any, simple, element, last_element, property, last_property, value, name, same, Change, refuse, keep, turn, is_array_or_object, last_of, seen, as_simple, as_any, as_value, as_element, as_last_element, as_property, as_last_property, as_name, change, roles, over, convert_as, convert_kids}
use Rattle.conversion.proofs.RuleHolds.{refused_turned, turned_is, cons_parts}
use Rattle.conversion.proofs.KidRoles.{elements, properties, key_and_value, name_and_initializer}
use Rattle.tokens.specs.declared.cause.Cause.{Cause}
use Rattle.rows.specs.Shape.{is_listed, is_left_hand_side, is_unary, is_binary, is_logical, is_assignment, is_expression, is_binding, is_parameter, is_body, is_simple_target, is_target, nothing, only, Shape, shape_of, least, may_be, may_end, fits, last_kind, all_fit, is_shaped, well_formed, all_well_formed}
use Rattle.laws.proofs.RowKinds.{is_key, is_value, is_target_element, is_target_property, is_target_value}
use Rattle.laws.specs.Promises.{Class, Ends, In, Kinds, in_class, of, within}

-- the kids at the end of a row: none, or one
pub data Ending (ends : Ends) : List Kinds → Forest → Type 0 where
  no_ending : Ending ends [] nil
  one_ending : {kinds : Kinds} {t : Tree} → In (within ends kinds) t → Ending ends (kinds ∷ []) (one t)

-- any number of the same kinds, then at most one of the closing kinds, then those at the end
pub data Middle (ends : Ends) (many closing : Kinds) (ending : List Kinds) : Forest → Type 0 where
  one_more : {t : Tree} {ts : Forest} → In (within ends many) t → Middle ends many closing ending ts → Middle ends many closing ending (cons t ts)
  one_closing : {t : Tree} {ts : Forest} → In (within ends closing) t → Ending ends ending ts → Middle ends many closing ending (cons t ts)
  no_more : {ts : Forest} → Ending ends ending ts → Middle ends many closing ending ts

-- after fixed ones in front
pub data Kids (ends : Ends) (many closing : Kinds) (ending : List Kinds) : List Kinds → Forest → Type 0 where
  in_front : {kinds : Kinds} {front : List Kinds} {t : Tree} {ts : Forest} → In (within ends kinds) t → Kids ends many closing ending front ts
      → Kids ends many closing ending (kinds ∷ front) (cons t ts)
  then_rest : {ts : Forest} → Middle ends many closing ending ts → Kids ends many closing ending [] ts

-- the kids of a row of a kind
abbrev pub KidsOf : ℕ → Forest → Type 0
KidsOf kind kids = Kids (may_end kind) (shape_of kind).many (shape_of kind).closing (shape_of kind).ending (shape_of kind).front kids

mutual
  pub data Formed : Tree → Type 0 where
    row_formed : {kind mark first end : ℕ} {kids : Forest} → is_listed kind ≡ true → KidsOf kind kids → AllFormed kids → Formed (node kind mark first end kids)

  pub data AllFormed : Forest → Type 0 where
    all_nil : AllFormed nil
    all_cons : {t : Tree} {ts : Forest} → Formed t → AllFormed ts → AllFormed (cons t ts)

-- among these kinds the last kid of a row does not matter, in a row of this kind
unfoldable pub free : ℕ → Kinds → Bool
free kind kinds = not (eqb kind Row.BindingObject or kinds Row.Property)

-- the table of shapes, and the sets of kinds in it: to unfold this is to unfold them all
unfoldable pub shapes : Type 0
unfolding shape_of is_listed in_class free may_end only is_left_hand_side is_unary is_binary is_logical is_assignment is_expression is_binding is_parameter is_simple_target is_target is_body kind_of kids_of last_kind
shapes = Unit {0}

ends_free : (kind : ℕ) (kinds : Kinds) (kid last : ℕ) → free kind kinds ≡ true → kinds kid ≡ true → may_end kind kid last ≡ true
unfolding free may_end
ends_free kind kinds kid last f i = go (eqb kind Row.BindingObject) refl (eqb kid Row.Property) refl (eqb kid Row.BindingRest)
  where
    go : (a : Bool) → eqb kind Row.BindingObject ≡ a → (b : Bool) → eqb kid Row.Property ≡ b → (c : Bool)
        → (if b then (if a then is_parameter last else is_assignment last) else if c and a then eqb last Row.BindingName else true) ≡ true
    go true e b q c = let n = rw e at f in let z : ◌≡◌ {A = ℕ} 0 1 = cc in absurd (omega arith)
    go false e true q c = let n = rw (e, sym (eqb-true kid Row.Property q), i) at f in let z : ◌≡◌ {A = ℕ} 0 1 = cc in absurd (omega arith)
    go false e false q true = refl
    go false e false q false = refl

pub held : (kind : ℕ) {kinds : Kinds} {t : Tree} → free kind kinds ≡ true → In (of kinds) t → In (within (may_end kind) kinds) t
unfolding in_class
held kind {kinds} {t} f i = record { holds = rw (i.holds, ends_free kind kinds (kind_of t) (last_kind 0 (kids_of t)) f i.holds) }

kind_in : {ends : Ends} {kinds : Kinds} {t : Tree} → In (within ends kinds) t → kinds (kind_of t) ≡ true
unfolding in_class
kind_in i = and_left _ _ i.holds

end_in : {ends : Ends} {kinds : Kinds} {t : Tree} → In (within ends kinds) t → ends (kind_of t) (last_kind 0 (kids_of t)) ≡ true
unfolding in_class
end_in {ends} {kinds} {t} i = and_right (kinds (kind_of t)) _ i.holds

bare : {ends : Ends} {kinds : Kinds} {t : Tree} → In (within ends kinds) t → In (of kinds) t
unfolding in_class
bare i = record { holds = kind_in i }

-- WHAT IS FORMED IS WELL-FORMED
module _ {ends : Ends} where
  ending_count : {ending : List Kinds} {ts : Forest} → Ending ends ending ts → count ts ≡ length ending
  unfolding count
  ending_count no_ending = refl
  ending_count (one_ending i) = refl

  middle_count : {many closing : Kinds} {ending : List Kinds} {ts : Forest} → Middle ends many closing ending ts → length ending ≤ count ts
  unfolding count
  middle_count (one_more i k) = omega (arith, middle_count k)
  middle_count (one_closing i k) = omega (arith, ending_count k)
  middle_count (no_more k) = omega (arith, ending_count k)

  kids_count : {many closing : Kinds} {ending front : List Kinds} {ts : Forest} → Kids ends many closing ending front ts → length front + length ending ≤ count ts
  unfolding count
  kids_count (in_front i k) = omega (arith, kids_count k)
  kids_count (then_rest k) = omega (arith, middle_count k)

pub or_right : (a : Bool) → a or true ≡ true
or_right true = refl
or_right false = refl

module _ (kind : ℕ) where
  abbrev shape : Shape
  shape = shape_of kind

  ending_fits : {ts : Forest} (before : ℕ) → length shape.front ≤ before → Ending (may_end kind) shape.ending ts → all_fit kind before ts ≡ true
  unfolding all_fit fits may_be count
  ending_fits {ts} before l k = go shape.ending refl k
    where
      go : (ending : List Kinds) → shape.ending ≡ ending → {ts : Forest} → Ending (may_end kind) ending ts → all_fit kind before ts ≡ true
      go [] e no_ending = refl
      go (kinds ∷ []) e (one_ending i) = rw (le-ltb before (length shape.front) l, e, kind_in i, end_in i)
      go (kinds ∷ (_ ∷ _)) e k = elim k [ ]

  middle_fits : {ts : Forest} (before : ℕ) → length shape.front ≤ before → Middle (may_end kind) shape.many shape.closing shape.ending ts → all_fit kind before ts ≡ true
  unfolding all_fit fits may_be
  middle_fits before l (one_more {t} {ts} i k) =
      rw (
        le-ltb before (length shape.front) l,
        le-ltb (count ts) (length shape.ending) (middle_count k),
        kind_in i,
        end_in i,
        middle_fits (before + 1) (omega arith) k,
      )
  middle_fits before l (one_closing {t} {ts} i k) =
      rw (
        le-ltb before (length shape.front) l,
        le-ltb (count ts) (length shape.ending) (omega (arith, ending_count k)),
        eq-eqb (count ts) (length shape.ending) (ending_count k),
        kind_in i,
        end_in i,
        or_right (shape.many (kind_of t)),
        ending_fits (before + 1) (omega arith) k,
      )
  middle_fits before l (no_more k) = ending_fits before l k

  -- from a number of kids on: these of the front are left
  kids_fit : {front : List Kinds} {ts : Forest} (before : ℕ) → length shape.front ≡ before + length front
      → ((i : ℕ) → get_or shape.front (before + i) nothing ≡ get_or front i nothing) → Kids (may_end kind) shape.many shape.closing shape.ending front ts → all_fit kind before ts ≡ true
  unfolding all_fit fits may_be
  kids_fit before l e (in_front {kinds} {front} {t} {ts} i k) =
      let c : get_or shape.front before nothing ≡ kinds = ap (λ j. get_or shape.front j nothing) (omega arith) ∙ e 0 in
      rw (lt-ltb before (length shape.front) (omega arith), c, kind_in i, end_in i)
      (kids_fit (before + 1) (omega arith) (λ j. ap (λ m. get_or shape.front m nothing) (omega arith) ∙ e (suc j)) k)
  kids_fit before l e (then_rest k) = middle_fits before (omega arith) k

mutual
  unfolding well_formed all_well_formed is_shaped least

  pub is_well_formed : {t : Tree} → Formed t → well_formed t ≡ true
  is_well_formed (row_formed {kind} {mark} {first} {end} {kids} l k a) =
      let f : all_fit kind 0 kids ≡ true = kids_fit kind 0 (omega arith) (λ i. ap (λ m. get_or (shape_of kind).front m nothing) (omega arith)) k in
      let c : leb (least (shape_of kind)) (count kids) ≡ true = le-leb _ _ (kids_count k) in
      rw (l, c, f, are_well_formed a)

  pub are_well_formed : {ts : Forest} → AllFormed ts → all_well_formed ts ≡ true
  are_well_formed all_nil = refl
  are_well_formed (all_cons f a) = rw (is_well_formed f, are_well_formed a)

-- CONVERSION
-- a class within another
target_value_element : (t : Tree) → In (of is_target_value) t → In (of is_target_element) t
unfolding in_class only
target_value_element t i = record { holds = go (is_target (kind_of t)) (eqb (kind_of t) Row.TargetDefault) (eqb (kind_of t) Row.Hole) i.holds }
  where
    go : (a b c : Bool) → a or b ≡ true → a or c or b ≡ true
    go true b c e = refl
    go false true c e = or_right c
    go false false c e = let z : ◌≡◌ {A = ℕ} 0 1 = cc in absurd (omega arith)

pub or_left : (a b : Bool) → a ≡ true → a or b ≡ true
or_left a b e = rw e

target_value_of : (t : Tree) → In (of is_target) t → In (of is_target_value) t
unfolding in_class only
target_value_of t i = record { holds = or_left _ _ i.holds }

target_of : (t : Tree) → In (of is_simple_target) t → In (of is_target) t
unfolding in_class is_target
target_of t i = record { holds = or_left _ _ i.holds }

-- the last of some kids: of the kinds, or a rest
pub data Last (kinds : Kinds) (t : Tree) : Type 0 where
  as_others : In (of kinds) t → Last kinds t
  as_rest : In (of (only Row.TargetRest)) t → Last kinds t

-- what stands where a role was asked
abbrev pub After : Role → Tree → Tree → Type 0
After any t t' = In (of is_target) t'
After simple t t' = In (of is_simple_target) t'
After element t t' = In (of is_target_element) t'
After (last_element comma) t t' = Last is_target_element t'
After property t t' = In (of is_target_property) t'
After (last_property comma) t t' = Last is_target_property t'
After value t t' = In (of is_target_value) t'
After name t t' = In (of (only Row.TargetName)) t'
After same t t' = t' ≡ t

-- kids, each converted in its role
data Each (each : ℕ → Role) : Forest → Forest → Type 0 where
  each_nil : Each each nil nil
  each_cons : {t t' : Tree} {ts ts' : Forest} → After (each (count ts)) t t' → Each each ts ts' → Each each (cons t ts) (cons t' ts')

-- what a change makes of a row, whose result A asks for something
data Becomes (A : Tree → Type 0) (mark first end : ℕ) (kids : Forest) (c : Change) : Type 0 where
  refuses : (cause : Cause) → c ≡ refuse cause → Becomes A mark first end kids c
  keeps : (kind : ℕ) (records : List Record) → c ≡ keep kind records → Formed (node kind mark first end kids) → A (node kind mark first end kids) → Becomes A mark first end kids c
  turns : (kind : ℕ) (before : List Record) (each : ℕ → Role) (after : List Record) → c ≡ turn kind before each after
      → ((kids' : Forest) → Each each kids kids' → AllFormed kids' → Formed (node kind mark first end kids'))
      → ((kids' : Forest) → A (node kind mark first end kids')) → Becomes A mark first end kids c

becomes_if : {A : Tree → Type 0} {mark first end : ℕ} {kids : Forest} (holds : Bool) {c d : Change} → (holds ≡ true → Becomes A mark first end kids c) → Becomes A mark first end kids d
    → Becomes A mark first end kids (if holds then c else d)
becomes_if true h g = h refl
becomes_if false h g = g

becomes_so : {A B : Tree → Type 0} {mark first end : ℕ} {kids : Forest} {c : Change} → ((t : Tree) → A t → B t) → Becomes A mark first end kids c → Becomes B mark first end kids c
becomes_so f (refuses cause e) = refuses cause e
becomes_so f (keeps kind records e k a) = keeps kind records e k (f _ a)
becomes_so f (turns kind before each after e k a) = turns kind before each after e k (λ kids'. f _ (a kids'))

-- the kids after conversion
one_kid : (kind : ℕ) {role : Role} {kinds : Kinds} {kids kids' : Forest} → free kind kinds ≡ true → ((t t' : Tree) → After role t t' → In (of kinds) t') → count kids ≡ 1
    → Each (λ after. role) kids kids' → Kids (may_end kind) nothing nothing [] (kinds ∷ []) kids'
unfolding count
one_kid kind n f e each_nil = absurd (omega arith)
one_kid kind n f e (each_cons a each_nil) = in_front (held kind n (f _ _ a)) (then_rest (no_more no_ending))
one_kid kind n f e (each_cons a (each_cons b r)) = absurd (omega arith)

list_kids : (kind : ℕ) {kinds : Kinds} (each : ℕ → Role) → free kind kinds and free kind (only Row.TargetRest) ≡ true → ((t t' : Tree) → After (each 0) t t' → Last kinds t')
    → ((n : ℕ) (t t' : Tree) → After (each (suc n)) t t' → In (of kinds) t') → {kids kids' : Forest} → Each each kids kids'
    → Middle (may_end kind) kinds (only Row.TargetRest) [] kids'
unfolding count
list_kids kind each n f g each_nil = no_more no_ending
list_kids kind {kinds} each n f g (each_cons {t} {t'} a each_nil) = go (f t t' a)
  where
    go : Last kinds t' → Middle (may_end kind) kinds (only Row.TargetRest) [] (one t')
    go (as_others i) = one_more (held kind (and_left _ _ n) i) (no_more no_ending)
    go (as_rest i) = one_closing (held kind (and_right (free kind kinds) _ n) i) no_ending
list_kids kind {kinds} each n f g (each_cons a (each_cons {ts = us} b r)) =
    one_more (held kind (and_left _ (free kind (only Row.TargetRest)) n) (g (count us) _ _ (rw (add-one (count us)) at a))) (list_kids kind each n f g (each_cons b r))

in_same : {class : Class} {t t' : Tree} → t' ≡ t → In class t → In class t'
in_same e i = rw e i

-- no row is of no kind
not_in_nothing : {ends : Ends} {t : Tree} {A : Type 0} → In (within ends nothing) t → A
unfolding nothing
not_in_nothing i = let q = kind_in i in let z : ◌≡◌ {A = ℕ} 0 1 = cc in absurd (omega arith)

-- both kids of a row of two
two_kids : {ends ends' : Ends} {a b a' b' : Kinds} {each : ℕ → Role} {kids kids' : Forest} → ((t t' : Tree) → After (each 1) t t' → In (within ends a) t → In (within ends' a') t')
    → ((t t' : Tree) → After (each 0) t t' → In (within ends b) t → In (within ends' b') t') → Kids ends nothing nothing [] (a ∷ b ∷ []) kids → Each each kids kids'
    → Kids ends' nothing nothing [] (a' ∷ b' ∷ []) kids'
unfolding count
two_kids f g (in_front i (in_front j (then_rest (no_more no_ending)))) (each_cons a (each_cons b each_nil)) = in_front (f _ _ a i) (in_front (g _ _ b j) (then_rest (no_more no_ending)))
two_kids f g (in_front i (in_front j (then_rest (one_more n m)))) e = not_in_nothing n
two_kids f g (in_front i (in_front j (then_rest (one_closing n m)))) e = not_in_nothing n

initialized_kids : {kids kids' : Forest} → Kids (may_end Row.ShorthandInit) nothing nothing [] (only Row.Identifier ∷ is_assignment ∷ []) kids → Each name_and_initializer kids kids'
    → Kids (may_end Row.TargetShorthandInit) nothing nothing [] (only Row.TargetName ∷ is_assignment ∷ []) kids'
unfolding free only is_left_hand_side is_unary is_binary is_logical is_assignment
initialized_kids k e = two_kids (λ t t' a i. held Row.TargetShorthandInit refl a) (λ t t' b j. held Row.TargetShorthandInit refl (in_same b (bare j))) k e

pair_kids : {kids kids' : Forest} → Kids (may_end Row.Property) nothing nothing [] (is_key ∷ is_value ∷ []) kids → Each key_and_value kids kids'
    → Kids (may_end Row.TargetProperty) nothing nothing [] (is_key ∷ is_target_value ∷ []) kids'
unfolding free is_simple_target is_target only
pair_kids k e = two_kids (λ t t' a i. held Row.TargetProperty refl (in_same a (bare i))) (λ t t' b j. held Row.TargetProperty refl b) k e

compound_kids : {kids : Forest} → Kids (may_end Row.CompoundAssign) nothing nothing [] (is_simple_target ∷ is_assignment ∷ []) kids
    → Kids (may_end Row.TargetDefault) nothing nothing [] (is_target ∷ is_assignment ∷ []) kids
unfolding free may_end is_simple_target is_target
compound_kids (in_front i k) = in_front (held Row.TargetDefault refl (target_of _ (bare i))) k

-- what each change makes of a row that is Formed
module _ (kind mark first end : ℕ) (kids : Forest) (k : KidsOf kind kids) (a : AllFormed kids) where
  simple_becomes : Becomes (λ t. In (of is_simple_target) t) mark first end kids (as_simple (seen (node kind mark first end kids)))
  unfolding shapes seen as_simple
  simple_becomes =
      becomes_if (eqb kind Row.Identifier) (λ e. keeps _ _ refl (row_formed refl (rw (eqb-true kind Row.Identifier e) at k) a) (record { holds = refl }))
      (becomes_if (eqb kind Row.Member) (λ e. keeps _ _ refl (row_formed refl (rw (eqb-true kind Row.Member e) at k) a) (record { holds = refl }))
      (becomes_if (eqb kind Row.Index) (λ e. keeps _ _ refl (row_formed refl (rw (eqb-true kind Row.Index e) at k) a) (record { holds = refl }))
      (becomes_if ((eqb kind Row.Paren and eqb (count kids) 1) and not (is_array_or_object (kind_of (last_of kids))))
      (λ e. turns _ _ _ _ refl
      (λ kids' c f. row_formed refl (one_kid Row.TargetParen {role = simple} refl (λ t t' i. i) (eqb-true (count kids) 1 (and_right (eqb kind Row.Paren) _ (and_left _ _ e))) c) f)
      (λ kids'. record { holds = refl }))
      (refuses _ refl))))

  any_becomes : Becomes (λ t. In (of is_target) t) mark first end kids (as_any (seen (node kind mark first end kids)))
  unfolding shapes seen as_any
  any_becomes =
      becomes_if (eqb kind Row.Array) (λ e. array [])
      (becomes_if (eqb kind Row.ArrayRestComma and eqb (kind_of (last_of kids)) Row.Spread) (λ e. array _)
      (becomes_if (eqb kind Row.Object) (λ e. object [])
      (becomes_if (eqb kind Row.ObjectRestComma and eqb (kind_of (last_of kids)) Row.Spread) (λ e. object _)
      (becomes_so target_of simple_becomes))))
    where
      array : (comma : List Record) → Becomes (λ t. In (of is_target) t) mark first end kids (turn Row.TargetArray [] (elements comma) [])
      array comma =
          turns _ _ _ _ refl (λ kids' c f. row_formed refl (then_rest (list_kids Row.TargetArray (elements comma) refl (λ t t' i. i) (λ n t t' i. rw (eqb-suc-zero n) at i) c)) f) (λ kids'. record { holds = refl })

      object : (comma : List Record) → Becomes (λ t. In (of is_target) t) mark first end kids (turn Row.TargetObject [] (properties comma) [])
      object comma =
          turns _ _ _ _ refl (λ kids' c f. row_formed refl (then_rest (list_kids Row.TargetObject (properties comma) refl (λ t t' i. i) (λ n t t' i. rw (eqb-suc-zero n) at i) c)) f) (λ kids'. record { holds = refl })

  value_becomes : Becomes (λ t. In (of is_target_value) t) mark first end kids (as_value (seen (node kind mark first end kids)))
  unfolding shapes seen as_value
  value_becomes =
      becomes_if (eqb kind Row.Assign) (λ e. keeps _ _ refl (row_formed refl (rw (eqb-true kind Row.Assign e) at k) a) (record { holds = refl }))
      (becomes_if (eqb kind Row.CompoundAssign) (λ e. keeps _ _ refl (row_formed refl (compound_kids (rw (eqb-true kind Row.CompoundAssign e) at k)) a) (record { holds = refl }))
      (becomes_so target_value_of any_becomes))

  element_becomes : Becomes (λ t. In (of is_target_element) t) mark first end kids (as_element (seen (node kind mark first end kids)))
  unfolding shapes seen as_element
  element_becomes =
      becomes_if (eqb kind Row.Hole) (λ e. keeps _ _ refl (row_formed refl (rw (eqb-true kind Row.Hole e) at k) a) (record { holds = refl }))
      (becomes_if (eqb kind Row.Spread) (λ e. refuses _ refl) (becomes_so target_value_element value_becomes))

  last_element_becomes : (comma : List Record) → Becomes (λ t. Last is_target_element t) mark first end kids (as_last_element comma (seen (node kind mark first end kids)))
  unfolding shapes seen as_last_element
  last_element_becomes comma =
      becomes_if (eqb kind Row.Spread and eqb (count kids) 1)
      (λ e. turns _ _ _ _ refl (λ kids' c f. row_formed refl (one_kid Row.TargetRest {role = any} refl (λ t t' i. i) (eqb-true (count kids) 1 (and_right (eqb kind Row.Spread) _ e)) c) f)
      (λ kids'. as_rest (record { holds = refl })))
      (becomes_so (λ t i. as_others i) element_becomes)

  property_becomes : Becomes (λ t. In (of is_target_property) t) mark first end kids (as_property (seen (node kind mark first end kids)))
  unfolding shapes seen as_property
  property_becomes =
      becomes_if (eqb kind Row.Shorthand and eqb (count kids) 1)
      (λ e. turns _ _ _ _ refl (λ kids' c f. row_formed refl (one_kid Row.TargetShorthand {role = name} refl (λ t t' i. i) (eqb-true (count kids) 1 (and_right (eqb kind Row.Shorthand) _ e)) c) f)
      (λ kids'. record { holds = refl }))
      (becomes_if (eqb kind Row.ShorthandInit and eqb (count kids) 2)
      (λ e. turns _ _ _ _ refl (λ kids' c f. row_formed refl (initialized_kids (rw (eqb-true kind Row.ShorthandInit (and_left _ _ e)) at k) c) f) (λ kids'. record { holds = refl }))
      (becomes_if (eqb kind Row.Property and eqb (count kids) 2)
      (λ e. turns _ _ _ _ refl (λ kids' c f. row_formed refl (pair_kids (rw (eqb-true kind Row.Property (and_left _ _ e)) at k) c) f) (λ kids'. record { holds = refl }))
      (becomes_if (eqb kind Row.Spread) (λ e. refuses _ refl) (refuses _ refl))))

  last_property_becomes : (comma : List Record) → Becomes (λ t. Last is_target_property t) mark first end kids (as_last_property comma (seen (node kind mark first end kids)))
  unfolding shapes seen as_last_property
  last_property_becomes comma =
      becomes_if (eqb kind Row.Spread and eqb (count kids) 1)
      (λ e. turns _ _ _ _ refl (λ kids' c f. row_formed refl (one_kid Row.TargetRest {role = any} refl (λ t t' i. i) (eqb-true (count kids) 1 (and_right (eqb kind Row.Spread) _ e)) c) f)
      (λ kids'. as_rest (record { holds = refl })))
      (becomes_so (λ t i. as_others i) property_becomes)

  name_becomes : Becomes (λ t. In (of (only Row.TargetName)) t) mark first end kids (as_name (seen (node kind mark first end kids)))
  unfolding shapes seen as_name
  name_becomes = becomes_if (eqb kind Row.Identifier) (λ e. keeps _ _ refl (row_formed refl (rw (eqb-true kind Row.Identifier e) at k) a) (record { holds = refl })) (refuses _ refl)

  becomes : is_listed kind ≡ true → (role : Role) → Becomes (After role (node kind mark first end kids)) mark first end kids (change role (seen (node kind mark first end kids)))
  unfolding change seen
  becomes l any = any_becomes
  becomes l simple = simple_becomes
  becomes l element = element_becomes
  becomes l (last_element comma) = last_element_becomes comma
  becomes l property = property_becomes
  becomes l (last_property comma) = last_property_becomes comma
  becomes l value = value_becomes
  becomes l name = name_becomes
  becomes l same = keeps _ _ refl (row_formed l k a) refl

-- conversion of what is Formed is Formed, and of the class that the role asks for
pub record Converted (role : Role) (t t' : Tree) : Type 0 where
  pub is_formed : Formed t'
  pub is_after : After role t t'

over_converted : {role : Role} {kind mark first end : ℕ} {kids : Forest} (c : Change) (o : Outcome Forest) {t' : Tree} {rs : List Record}
    → Becomes (After role (node kind mark first end kids)) mark first end kids c → over c (node kind mark first end kids) o ≡ turned t' rs
    → ((ts' : Forest) (ss : List Record) → o ≡ turned ts' ss → AllFormed ts' × Each (roles c) kids ts') → Converted role (node kind mark first end kids) t'
unfolding over roles
over_converted c o (refuses cause e) h k = absurd (refused_turned (rw e at h))
over_converted c o (keeps kind' records e f a) h k = rw (sym (turned_is (rw e at h))) (record { is_formed = f; is_after = a })
over_converted c (refused cause) (turns kind' before each after e f a) h k = absurd (refused_turned (rw e at h))
over_converted c (turned ts ss) (turns kind' before each after e f a) h k =
    let d = rw e at (k ts ss refl) in rw (sym (turned_is (rw e at h))) (record { is_formed = f ts d.1 d.0; is_after = a ts })

mutual
  unfolding convert_as convert_kids

  pub converted_formed : (t : Tree) (role : Role) {t' : Tree} {rs : List Record} → Formed t → convert_as t role ≡ turned t' rs → Converted role t t'
  converted_formed (node kind mark first end kids) role (row_formed l k a) h =
      over_converted (change role (seen (node kind mark first end kids))) (convert_kids kids (roles (change role (seen (node kind mark first end kids)))))
      (becomes kind mark first end kids k a l role) h (λ ts' ss q. kids_formed kids (roles (change role (seen (node kind mark first end kids)))) a q)

  kids_formed : (ts : Forest) (each : ℕ → Role) {ts' : Forest} {rs : List Record} → AllFormed ts → convert_kids ts each ≡ turned ts' rs → AllFormed ts' × Each each ts ts'
  kids_formed nil each all_nil h = rw (sym (turned_is h)) (all_nil, each_nil)
  kids_formed (cons t ts) each (all_cons f a) h =
      let b = cons_parts t ts each _ _ h in
      let c = converted_formed t (each (count ts)) f b.one_is in
      let d = kids_formed ts each a b.rest_is in
      rw b.made (all_cons c.is_formed d.0, each_cons c.is_after d.1)
