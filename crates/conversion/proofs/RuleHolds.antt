-- Conversion and the target rule agree on every tree: a row converts with neither refusal nor record exactly if the rule holds.
-- Assumes nothing.
use Rattle.std.specs.Prelude.{if◌then◌else◌}
use Prim.Native.Nat.{ℕ, ◌+◌}
use mathlib.Core.Path.{◌≡◌, refl, sym, ap, ◌∙◌}
use mathlib.Core.Logic.{◌↔◌}
use mathlib.Core.Bool.{Bool, true, false, not}
use mathlib.Core.List.{List, [], ◌∷◌, ◌++◌}
use native.Mathlib.Omega.{arith}
use lib.Dec.{eqb}
use borrow.Author.Tests.{eqb-true, ne_eqb}
use Rattle.tokens.specs.Bool.{◌and◌}
use Rattle.tokens.specs.declared.cause.Cause.{Cause}
use Rattle.rows.specs.Row as row
use Rattle.rows.specs.Tree.{Tree, Forest, node, nil, cons, one, count, kind_of}
use Rattle.rows.specs.Record.{Record}
use Rattle.conversion.specs.Conversion.{Outcome, turned, refused, Role, Change, refuse, keep, turn, only, each, is_array_or_object, is_reference, last_of, inner_kind, inner_kinds, array_argument, object_argument, seen, as_simple, as_any, as_value, as_element, as_last_element, as_property, as_last_property, as_name, change, roles, over, both, convert_as, convert_kids, convert}
use Rattle.conversion.proofs.KidRoles.{conversion, elements, properties, key_and_value, name_and_initializer}
use Rattle.conversion.specs.TargetRule.{Simple, identifier, member, index, parenthesized, Target, simple, array, object, Elements, no_elements, elision, next_element, rest_element, Element, bare, initialized, Properties, no_properties, next_property, rest_property, Property, reference, reference_initialized, pair}

abbrev ends_in_spread : Forest → Bool
ends_in_spread ts = eqb (kind_of (last_of ts)) row.Spread

-- a row is converted in a role with neither refusal nor record
pub record Clean (t : Tree) (role : Role) : Type 0 where
  pub made : Tree
  pub is : convert_as t role ≡ turned made []

pub record CleanKids (ts : Forest) (each : ℕ → Role) : Type 0 where
  pub made : Forest
  pub is : convert_kids ts each ≡ turned made []

-- a row that changes alike in two roles is converted alike
alike : (t : Tree) (r s : Role) → change r (seen t) ≡ change s (seen t) → convert_as t r ≡ convert_as t s
unfolding convert_as
alike (node kind mark first end kids) r s e = rw e

-- what is simple is no literal, and through Parens it is a reference
not_literal : {t : Tree} → Simple t → is_array_or_object (kind_of t) ≡ false
unfolding kind_of
not_literal identifier = refl
not_literal member = refl
not_literal index = refl
not_literal (parenthesized s) = refl

references : {t : Tree} → Simple t → is_reference (inner_kind t) ≡ true
unfolding inner_kind inner_kinds
references identifier = refl
references member = refl
references index = refl
references (parenthesized s) = references s

simple_any : {t : Tree} → Simple t → change Role.any (seen t) ≡ change Role.simple (seen t)
unfolding conversion
simple_any identifier = refl
simple_any member = refl
simple_any index = refl
simple_any (parenthesized s) = refl

simple_clean : {t : Tree} → Simple t → Clean t Role.simple
unfolding conversion
simple_clean identifier = record { made = _; is = refl }
simple_clean member = record { made = _; is = refl }
simple_clean index = record { made = _; is = refl }
simple_clean (parenthesized {mark} {first} {end} s) =
    let c = simple_clean s in
    record { made = node row.TargetParen mark first end (one c.made); is = rw (not_literal s, c.is) }

as_alike : {t : Tree} {r s : Role} → change r (seen t) ≡ change s (seen t) → Clean t s → Clean t r
as_alike {t} {r} {s} e c = record { made = c.made; is = alike t r s e ∙ c.is }

rest_kinds : {t : Tree} → Target t → array_argument t ≡ []
unfolding inner_kind
rest_kinds (simple s) = rw (references s)
rest_kinds (array d) = refl
rest_kinds (object d) = refl

-- an AssignmentElement is the same among others, and last
element_value : {t : Tree} → Element t → (change Role.element (seen t) ≡ change Role.value (seen t)) × (change (Role.last_element []) (seen t) ≡ change Role.value (seen t))
unfolding conversion
element_value (bare (simple identifier)) = (refl, refl)
element_value (bare (simple member)) = (refl, refl)
element_value (bare (simple index)) = (refl, refl)
element_value (bare (simple (parenthesized s))) = (refl, refl)
element_value (bare (array d)) = (refl, refl)
element_value (bare (object d)) = (refl, refl)
element_value initialized = (refl, refl)

target_value : {t : Tree} → Target t → change Role.value (seen t) ≡ change Role.any (seen t)
unfolding conversion
target_value (simple identifier) = refl
target_value (simple member) = refl
target_value (simple index) = refl
target_value (simple (parenthesized s)) = refl
target_value (array d) = refl
target_value (object d) = refl

last_property : {t : Tree} → Property t → change (Role.last_property []) (seen t) ≡ change Role.property (seen t)
unfolding conversion
last_property reference = refl
last_property reference_initialized = refl
last_property (pair e) = refl

-- a test, either way
pub either_way : {A : Type 0} (P : A → Type 0) (b : Bool) {x y : A} → (b ≡ true → P x) → (b ≡ false → P y) → P (if b then x else y)
either_way P true p q = p refl
either_way P false p q = q refl

cons_clean : {t : Tree} {ts : Forest} (each : ℕ → Role) → Clean t (each (count ts)) → CleanKids ts each → CleanKids (cons t ts) each
unfolding convert_kids both
cons_clean {t} {ts} each c d = record { made = cons c.made d.made; is = rw (c.is, d.is) }

-- a key or an initializer
stays : (t : Tree) → convert_as t Role.same ≡ turned t []
unfolding conversion
stays (node kind mark first end kids) = refl

mutual
  unfolding conversion

  target_clean : {t : Tree} → Target t → Clean t Role.any
  target_clean (simple s) = as_alike (simple_any s) (simple_clean s)
  target_clean (array {mark} {first} {end} d) = let c = elements_clean d in record { made = node row.TargetArray mark first end c.made; is = rw c.is }
  target_clean (object {mark} {first} {end} d) = let c = properties_clean d in record { made = node row.TargetObject mark first end c.made; is = rw c.is }

  elements_clean : {ts : Forest} → Elements ts → CleanKids ts (elements [])
  elements_clean no_elements = record { made = nil; is = refl }
  elements_clean (elision {ts = ts} d) = cons_clean (elements []) (either_way (Clean _) (eqb (count ts) 0) (λ _. record { made = _; is = refl }) (λ _. record { made = _; is = refl })) (elements_clean d)
  elements_clean (next_element {t} {ts} e d) =
      let c = element_clean e in
      cons_clean (elements []) (either_way (Clean t) (eqb (count ts) 0) (λ _. as_alike (element_value e).1 c) (λ _. as_alike (element_value e).0 c)) (elements_clean d)
  elements_clean (rest_element {mark} {first} {end} d) =
      let c = target_clean d in record { made = one (node row.TargetRest mark first end (one c.made)); is = rw (rest_kinds d, c.is) }

  element_clean : {t : Tree} → Element t → Clean t Role.value
  element_clean (bare d) = as_alike (target_value d) (target_clean d)
  element_clean initialized = record { made = _; is = refl }

  properties_clean : {ts : Forest} → Properties ts → CleanKids ts (properties [])
  properties_clean no_properties = record { made = nil; is = refl }
  properties_clean (next_property {t} {ts} e d) =
      let c = property_clean e in
      cons_clean (properties []) (either_way (Clean t) (eqb (count ts) 0) (λ _. as_alike (last_property e) c) (λ _. c)) (properties_clean d)
  properties_clean (rest_property {mark} {first} {end} {t} s) =
      let c : Clean t Role.any = as_alike (simple_any s) (simple_clean s) in
      record { made = one (node row.TargetRest mark first end (one c.made)); is = rw (references s, c.is) }

  property_clean : {t : Tree} → Property t → Clean t Role.property
  property_clean reference = record { made = _; is = refl }
  property_clean (reference_initialized {mark} {first} {end} {mark'} {first'} {end'} {kids} {initializer}) =
      record { made = node row.TargetShorthandInit mark first end (cons (node row.TargetName mark' first' end' kids) (one initializer)); is = rw (stays initializer) }
  property_clean (pair {mark} {first} {end} {key} e) =
      let c = element_clean e in record { made = node row.TargetProperty mark first end (cons key (one c.made)); is = rw (stays key, c.is) }

-- What the rule says of a row in a role.
data Slot (t : Tree) : Type 0 where
  hole : kind_of t ≡ row.Hole → Slot t
  slot : Element t → Slot t

-- the last kid: one more, or a Spread of one argument
data Last (comma : List Record) (P Q : Tree → Type 0) : Tree → Type 0 where
  one_more : {t : Tree} → P t → Last comma P Q t
  rest : {mark first end : ℕ} {t : Tree} → comma ≡ [] → Q t → Last comma P Q (node row.Spread mark first end (one t))

abbrev Ruled : Role → Tree → Type 0
Ruled Role.any t = Target t
Ruled Role.simple t = Simple t
Ruled Role.element t = Slot t
Ruled (Role.last_element comma) t = Last comma Slot Target t
Ruled Role.property t = Property t
Ruled (Role.last_property comma) t = Last comma Property Simple t
Ruled Role.value t = Element t
Ruled Role.name t = kind_of t ≡ row.Identifier
Ruled Role.same t = Unit {0}

-- each row of a forest
unfoldable RuledKids : (ℕ → Role) → Forest → Type 0
RuledKids each nil = Unit {0}
RuledKids each (cons t ts) = Ruled (each (count ts)) t × RuledKids each ts

-- a change that gives neither refusal nor record, with kids of the rule
data Step (kids : Forest) : Change → Type 0 where
  kept : {kind : ℕ} {records : List Record} → records ≡ [] → Step kids (keep kind records)
  goes : {kind : ℕ} {before : List Record} {each : ℕ → Role} {after : List Record} → before ≡ [] → after ≡ [] → RuledKids each kids → Step kids (turn kind before each after)

pub refused_turned : {A : Type 0} {c : Cause} {a : A} {rs : List Record} → ◌≡◌ {A = Outcome A} (refused c) (turned a rs) → ⊥
refused_turned e = cc

pub append_nil : (xs ys : List Record) → xs ++ ys ≡ [] → (xs ≡ []) × (ys ≡ [])
append_nil [] ys e = (refl, e)
append_nil (x ∷ xs) ys e = cc

step : (ch : Change) (kind mark first end : ℕ) (kids : Forest) (out : Outcome Forest) (t' : Tree) → over ch (node kind mark first end kids) out ≡ turned t' []
    → ((ts' : Forest) → out ≡ turned ts' [] → RuledKids (roles ch) kids) → Step kids ch
unfolding over roles
step (refuse c) kind mark first end kids out t' e h = absurd (refused_turned e)
step (keep k rs) kind mark first end kids out t' e h = kept {records = rs} (cc)
step (turn k before each after) kind mark first end kids (refused c) t' e h = absurd (refused_turned e)
step (turn k before each after) kind mark first end kids (turned ts' rs) t' e h =
    let all : before ++ rs ++ after ≡ [] = cc in
    let a = append_nil (before ++ rs) after all in
    let b = append_nil before rs a.0 in
    goes b.0 a.1 (h ts' (ap (turned ts') b.1))

-- a test, gone through
pub by_test : {A R : Type 0} (P : A → Type 0) (b : Bool) {x y : A} → P (if b then x else y) → (b ≡ true → P x → R) → (b ≡ false → P y → R) → R
by_test P true s f g = f refl s
by_test P false s f g = g refl s

pub both_true : (a b : Bool) → a and b ≡ true → (a ≡ true) × (b ≡ true)
both_true true b e = (refl, e)
both_true false b e = cc

-- exactly one kid, exactly two kids
pub one_kid : (kids : Forest) → eqb (count kids) 1 ≡ true → (t : Tree) × (kids ≡ one t)
unfolding count
one_kid nil e = cc
one_kid (cons t nil) e = (t, refl)
one_kid (cons t (cons u us)) e = let z = eqb-true (count us + 1 + 1) 1 e in absurd (omega arith)

pub two_kids : (kids : Forest) → eqb (count kids) 2 ≡ true → (t : Tree) × (u : Tree) × (kids ≡ cons t (one u))
unfolding count
two_kids nil e = cc
two_kids (cons t nil) e = cc
two_kids (cons t (cons u nil)) e = (t, u, refl)
two_kids (cons t (cons u (cons v vs))) e = let z = eqb-true (count vs + 1 + 1 + 1) 2 e in absurd (omega arith)

nothing : {kids : Forest} {c : Cause} → Step kids (refuse c) → ⊥
nothing = elim [ ]

gone : {kids : Forest} {k : ℕ} {before after : List Record} {each : ℕ → Role} → Step kids (turn k before each after)
    → (before ≡ []) × (after ≡ []) × RuledKids each kids
gone (goes b a r) = (b, a, r)

kept_none : {kids : Forest} {k : ℕ} {records : List Record} → Step kids (keep k records) → records ≡ []
kept_none (kept e) = e

module _ (k m f e : ℕ) (kids : Forest) (P : Tree → Type 0) (kind : ℕ) (each : ℕ → Role) (r : RuledKids each kids) where
  -- a row of a kind, over one kid or two of the rule
  over_one : eqb k kind and eqb (count kids) 1 ≡ true → ((t : Tree) → kids ≡ one t → Ruled (each 0) t → P (node kind m f e (one t))) → P (node k m f e kids)
  unfolding RuledKids count
  over_one is h =
      let a = both_true (eqb k kind) _ is in
      let q = one_kid kids a.1 in
      rw (eqb-true k kind a.0, q.1) (h q.0 q.1 (rw q.1 at r).0)

  over_two : eqb k kind and eqb (count kids) 2 ≡ true → ((t u : Tree) → Ruled (each 1) t → Ruled (each 0) u → P (node kind m f e (cons t (one u)))) → P (node k m f e kids)
  unfolding RuledKids count
  over_two is h =
      let a = both_true (eqb k kind) _ is in
      let q = two_kids kids a.1 in
      rw (eqb-true k kind a.0, q.2) (h q.0 q.1 (rw q.2 at r).0 (rw q.2 at r).1.0)

rule_simple : (k m f e : ℕ) (kids : Forest) → Step kids (as_simple (seen (node k m f e kids))) → Simple (node k m f e kids)
unfolding as_simple seen
rule_simple k m f e kids s =
    by_test (Step kids) (eqb k row.Identifier) s (λ is _. rw (eqb-true k _ is) identifier)
    (λ _ s. by_test (Step kids) (eqb k row.Member) s (λ is _. rw (eqb-true k _ is) member)
    (λ _ s. by_test (Step kids) (eqb k row.Index) s (λ is _. rw (eqb-true k _ is) index)
    (λ _ s. by_test (Step kids) ((eqb k row.Paren and eqb (count kids) 1) and not (is_array_or_object (kind_of (last_of kids)))) s
    (λ is s. over_one k m f e kids Simple row.Paren (only Role.simple) (gone s).2 (both_true (eqb k row.Paren and eqb (count kids) 1) _ is).0 (λ t q r. parenthesized r))
    (λ _ s. absurd (nothing s)))))

-- no rule gives a Spread but as a rest, and a rest with a comma after it is not clean
simple_no_spread : {t : Tree} → Simple t → kind_of t ≡ row.Spread → ⊥
unfolding kind_of
simple_no_spread identifier e = omega arith
simple_no_spread member e = omega arith
simple_no_spread index e = omega arith
simple_no_spread (parenthesized s) e = omega arith

element_no_spread : {t : Tree} → Element t → kind_of t ≡ row.Spread → ⊥
unfolding kind_of
element_no_spread (bare (simple s)) e = simple_no_spread s e
element_no_spread (bare (array d)) e = omega arith
element_no_spread (bare (object d)) e = omega arith
element_no_spread initialized e = omega arith

slot_no_spread : {t : Tree} → Slot t → kind_of t ≡ row.Spread → ⊥
slot_no_spread (hole h) e = omega arith
slot_no_spread (slot d) e = element_no_spread d e

property_no_spread : {t : Tree} → Property t → kind_of t ≡ row.Spread → ⊥
unfolding kind_of
property_no_spread reference e = omega arith
property_no_spread reference_initialized e = omega arith
property_no_spread (pair d) e = omega arith

last_no_spread : {t : Tree} {r : Record} {P Q : Tree → Type 0} → (P t → kind_of t ≡ row.Spread → ⊥) → Last (r ∷ []) P Q t → kind_of t ≡ row.Spread → ⊥
last_no_spread h (one_more p) e = h p e
last_no_spread h (rest c q) e = cc

no_rest_comma : (others last : Role) → ((t : Tree) → Ruled last t → kind_of t ≡ row.Spread → ⊥) → (ts : Forest) → ends_in_spread ts ≡ true → RuledKids (each others last) ts → ⊥
unfolding RuledKids kind_of count
no_rest_comma others last h nil e k = cc
no_rest_comma others last h (cons t nil) e k = h t k.0 (eqb-true _ _ e)
no_rest_comma others last h (cons t (cons u us)) e k = no_rest_comma others last h (cons u us) e k.1

-- another kid follows
pub follows : (n : ℕ) → eqb (n + 1) 0 ≡ false
follows n = ne_eqb (n + 1) 0 (λ e. omega arith)

next_slot : (t : Tree) {ts : Forest} → Slot t → Elements ts → Elements (cons t ts)
unfolding kind_of
next_slot (node k m f e kids) (hole h) d = rw h (elision d)
next_slot (node k m f e kids) (slot p) d = next_element p d

elements_ruled : (ts : Forest) → RuledKids (elements []) ts → Elements ts
unfolding RuledKids count
elements_ruled nil k = no_elements
elements_ruled (cons t nil) k = last k.0
  where
    last : {t : Tree} → Last [] Slot Target t → Elements (one t)
    last (one_more {t} p) = next_slot t p no_elements
    last (rest c q) = rest_element q
elements_ruled (cons t (cons u us)) k = next_slot t (rw (follows (count us)) at k.0) (elements_ruled (cons u us) k.1)

properties_ruled : (ts : Forest) → RuledKids (properties []) ts → Properties ts
unfolding RuledKids count
properties_ruled nil k = no_properties
properties_ruled (cons t nil) k = last k.0
  where
    last : {t : Tree} → Last [] Property Simple t → Properties (one t)
    last (one_more p) = next_property p no_properties
    last (rest c q) = rest_property q
properties_ruled (cons t (cons u us)) k = next_property (rw (follows (count us)) at k.0) (properties_ruled (cons u us) k.1)

rule_any : (k m f e : ℕ) (kids : Forest) → Step kids (as_any (seen (node k m f e kids))) → Target (node k m f e kids)
unfolding as_any seen
rule_any k m f e kids s =
    by_test (Step kids) (eqb k row.Array) s (λ is s. rw (eqb-true k _ is) (array (elements_ruled kids (gone s).2)))
    (λ _ s. by_test (Step kids) (eqb k row.ArrayRestComma and ends_in_spread kids) s
    (λ is s. absurd (no_rest_comma Role.element (Role.last_element (_ ∷ [])) (λ t l. last_no_spread slot_no_spread l) kids (both_true (eqb k row.ArrayRestComma) _ is).1 (gone s).2))
    (λ _ s. by_test (Step kids) (eqb k row.Object) s (λ is s. rw (eqb-true k _ is) (object (properties_ruled kids (gone s).2)))
    (λ _ s. by_test (Step kids) (eqb k row.ObjectRestComma and ends_in_spread kids) s
    (λ is s. absurd (no_rest_comma Role.property (Role.last_property (_ ∷ [])) (λ t l. last_no_spread property_no_spread l) kids (both_true (eqb k row.ObjectRestComma) _ is).1 (gone s).2))
    (λ _ s. simple (rule_simple k m f e kids s)))))

rule_value : (k m f e : ℕ) (kids : Forest) → Step kids (as_value (seen (node k m f e kids))) → Element (node k m f e kids)
unfolding as_value seen
rule_value k m f e kids s =
    by_test (Step kids) (eqb k row.Assign) s (λ is _. rw (eqb-true k _ is) initialized)
    (λ _ s. by_test (Step kids) (eqb k row.CompoundAssign) s (λ _ s. let z : ◌≡◌ {A = ℕ} 0 1 = cc (kept_none s) in absurd (omega arith))
    (λ _ s. bare (rule_any k m f e kids s)))

rule_element : (k m f e : ℕ) (kids : Forest) → Step kids (as_element (seen (node k m f e kids))) → Slot (node k m f e kids)
unfolding as_element seen kind_of
rule_element k m f e kids s =
    by_test (Step kids) (eqb k row.Hole) s (λ is _. hole (eqb-true k _ is))
    (λ _ s. by_test (Step kids) (eqb k row.Spread) s (λ _ s. absurd (nothing s)) (λ _ s. slot (rule_value k m f e kids s)))

rule_last_element : (comma : List Record) (k m f e : ℕ) (kids : Forest) → Step kids (as_last_element comma (seen (node k m f e kids))) → Last comma Slot Target (node k m f e kids)
unfolding as_last_element seen
rule_last_element comma k m f e kids s =
    by_test (Step kids) (eqb k row.Spread and eqb (count kids) 1) s
    (λ is s. over_one k m f e kids (Last comma Slot Target) row.Spread (only Role.any) (gone s).2 is (λ t q r. rest (gone s).1 r))
    (λ _ s. one_more (rule_element k m f e kids s))

rule_name : (k m f e : ℕ) (kids : Forest) → Step kids (as_name (seen (node k m f e kids))) → k ≡ row.Identifier
unfolding as_name seen
rule_name k m f e kids s = by_test (Step kids) (eqb k row.Identifier) s (λ is _. eqb-true k _ is) (λ _ s. absurd (nothing s))

shorthand : (m f e : ℕ) (t : Tree) → kind_of t ≡ row.Identifier → Property (node row.Shorthand m f e (one t))
unfolding kind_of
shorthand m f e (node k m' f' e' kids) is = rw is reference

shorthand_initialized : (m f e : ℕ) (t u : Tree) → kind_of t ≡ row.Identifier → Property (node row.ShorthandInit m f e (cons t (one u)))
unfolding kind_of
shorthand_initialized m f e (node k m' f' e' kids) u is = rw is reference_initialized

rule_property : (k m f e : ℕ) (kids : Forest) → Step kids (as_property (seen (node k m f e kids))) → Property (node k m f e kids)
unfolding as_property seen
rule_property k m f e kids s =
    by_test (Step kids) (eqb k row.Shorthand and eqb (count kids) 1) s
    (λ is s. over_one k m f e kids Property row.Shorthand (only Role.name) (gone s).2 is (λ t q r. shorthand m f e t r))
    (λ _ s. by_test (Step kids) (eqb k row.ShorthandInit and eqb (count kids) 2) s
    (λ is s. over_two k m f e kids Property row.ShorthandInit name_and_initializer (gone s).2 is (λ t u r _. shorthand_initialized m f e t u r))
    (λ _ s. by_test (Step kids) (eqb k row.Property and eqb (count kids) 2) s
    (λ is s. over_two k m f e kids Property row.Property key_and_value (gone s).2 is (λ t u _ r. pair r))
    (λ _ s. by_test (Step kids) (eqb k row.Spread) s (λ _ s. absurd (nothing s)) (λ _ s. absurd (nothing s)))))

-- through Parens a reference, and simple or a literal: then it is simple
simple_argument : {t : Tree} → Target t → object_argument t ≡ [] → Simple t
unfolding inner_kind
simple_argument (simple s) e = s
simple_argument (array d) e = cc
simple_argument (object d) e = cc

rule_last_property : (comma : List Record) (k m f e : ℕ) (kids : Forest) → Step kids (as_last_property comma (seen (node k m f e kids)))
    → Last comma Property Simple (node k m f e kids)
unfolding as_last_property seen
rule_last_property comma k m f e kids s =
    by_test (Step kids) (eqb k row.Spread and eqb (count kids) 1) s
    (λ is s.
    let b = append_nil (object_argument (last_of kids)) comma (gone s).0 in
    over_one k m f e kids (Last comma Property Simple) row.Spread (only Role.any) (gone s).2 is (λ t q r. rest b.1 (simple_argument r (rw q at b.0))))
    (λ _ s. one_more (rule_property k m f e kids s))

rule_of : (role : Role) (k m f e : ℕ) (kids : Forest) → Step kids (change role (seen (node k m f e kids))) → Ruled role (node k m f e kids)
unfolding change as_any as_simple as_value as_element as_last_element as_property as_last_property as_name seen kind_of
rule_of Role.any k m f e kids s = rule_any k m f e kids s
rule_of Role.simple k m f e kids s = rule_simple k m f e kids s
rule_of Role.element k m f e kids s = rule_element k m f e kids s
rule_of (Role.last_element comma) k m f e kids s = rule_last_element comma k m f e kids s
rule_of Role.property k m f e kids s = rule_property k m f e kids s
rule_of (Role.last_property comma) k m f e kids s = rule_last_property comma k m f e kids s
rule_of Role.value k m f e kids s = rule_value k m f e kids s
rule_of Role.name k m f e kids s = rule_name k m f e kids s
rule_of Role.same k m f e kids s = tt

-- what an outcome holds
pub turned_is : {A : Type 0} {a b : A} {rs ss : List Record} → turned a rs ≡ turned b ss → a ≡ b
turned_is e = cc

pub turned_records : {A : Type 0} {a b : A} {rs ss : List Record} → turned a rs ≡ turned b ss → rs ≡ ss
turned_records e = cc

-- what comes of a row and of those after it
pub record Both (x : Outcome Tree) (y : Outcome Forest) (ts' : Forest) (rs : List Record) : Type 0 where
  pub one : Tree
  pub first : List Record
  pub rest : Forest
  pub later : List Record
  pub one_is : x ≡ turned one first
  pub rest_is : y ≡ turned rest later
  pub made : ts' ≡ cons one rest
  pub records : rs ≡ first ++ later

pub both_parts : (x : Outcome Tree) (y : Outcome Forest) (ts' : Forest) (rs : List Record) → both x y ≡ turned ts' rs → Both x y ts' rs
unfolding both
both_parts (refused c) y ts' rs h = absurd (refused_turned h)
both_parts (turned t ss) (refused c) ts' rs h = absurd (refused_turned h)
both_parts (turned t ss) (turned us vs) ts' rs h =
    record {
      one = t;
      first = ss;
      rest = us;
      later = vs;
      one_is = refl;
      rest_is = refl;
      made = sym (turned_is h);
      records = sym (turned_records h);
    }

pub cons_parts : (t : Tree) (ts : Forest) (each : ℕ → Role) (ts' : Forest) (rs : List Record) → convert_kids (cons t ts) each ≡ turned ts' rs
    → Both (convert_as t (each (count ts))) (convert_kids ts each) ts' rs
unfolding convert_kids
cons_parts t ts each ts' rs h = both_parts (convert_as t (each (count ts))) (convert_kids ts each) ts' rs h

mutual
  unfolding convert_as convert_kids RuledKids

  ruled : (t : Tree) (role : Role) (t' : Tree) → convert_as t role ≡ turned t' [] → Ruled role t
  ruled (node k m f e kids) role t' h =
      rule_of role k m f e kids
      (step (change role (seen (node k m f e kids))) k m f e kids (convert_kids kids (roles (change role (seen (node k m f e kids))))) t' h
      (λ ts' q. ruled_kids kids (roles (change role (seen (node k m f e kids)))) ts' q))

  ruled_kids : (ts : Forest) (each : ℕ → Role) (ts' : Forest) → convert_kids ts each ≡ turned ts' [] → RuledKids each ts
  ruled_kids nil each ts' h = tt
  ruled_kids (cons t ts) each ts' h =
      let b = cons_parts t ts each ts' [] h in
      let none = append_nil b.first b.later (sym b.records) in
      (ruled t (each (count ts)) b.one (b.one_is ∙ ap (turned b.one) none.0), ruled_kids ts each b.rest (b.rest_is ∙ ap (turned b.rest) none.1))

-- Any target: converted with neither refusal nor record, exactly if the rule holds.
pub target_rule : (t : Tree) → ((t' : Tree) × (convert t ≡ turned t' [])) ↔ Target t
target_rule t = ((λ h. ruled t Role.any h.0 h.1), (λ d. let c = target_clean d in (c.made, c.is)))

-- A simple target likewise.
pub simple_rule : (t : Tree) → ((t' : Tree) × (convert_as t Role.simple ≡ turned t' [])) ↔ Simple t
simple_rule t = ((λ h. ruled t Role.simple h.0 h.1), (λ d. let c = simple_clean d in (c.made, c.is)))
