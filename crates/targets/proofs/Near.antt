-- The code looks at a rest's argument itself, and the definition through Parens: where the argument can be converted, both see
-- the same. In an array no argument is then of a wrong kind, in an object only an Array or Object.
-- Assumes nothing.
use Rattle.std.specs.Prelude.{if◌then◌else◌}
use Prim.Native.Nat.{ℕ}
use mathlib.Core.Path.{◌≡◌, refl, ap}
use mathlib.Core.Bool.{Bool, true, false}
use mathlib.Core.List.{List, [], ◌∷◌, ◌++◌}
use borrow.Author.Rules.{rules}
use lib.Dec.{eqb}
use borrow.Author.Tests.{eqb-true}
use Rattle.tokens.specs.Bool.{◌and◌}
use Rattle.tokens.specs.declared.cause.Cause.{Cause}
use Rattle.rows.specs.Row as row
use Rattle.rows.specs.Tree.{Tree, Forest, node, nil, cons, one, count, kind_of, first_of, kids_of}
use Rattle.rows.specs.Record.{Record, rest_argument}
use Rattle.conversion.specs.Conversion.{Outcome, turned, refused, Role, Change, refuse, keep, turn, only, is_array_or_object, is_reference, last_of, inner_kind, inner_kinds, array_argument, object_argument, seen, as_simple, as_any, as_value, as_element, as_last_element, as_property, as_last_property, as_name, change, roles, over, convert_as, convert_kids}
use Rattle.targets.specs.Post.{near}
use Rattle.conversion.proofs.RuleHolds.{by_test, both_true, one_kid, refused_turned}
use Rattle.conversion.proofs.Shapes.{cons_parts}

-- a change that is carried out
data Carried (kids : Forest) : Change → Type 0 where
  kept : {kind : ℕ} {records : List Record} → Carried kids (keep kind records)
  goes : {kind : ℕ} {before : List Record} {each : ℕ → Role} {after : List Record} (kids' : Forest) (records : List Record)
      → convert_kids kids each ≡ turned kids' records → Carried kids (turn kind before each after)

never : {kids : Forest} {c : Cause} → Carried kids (refuse c) → ⊥
never = elim [ ]

carried : (ch : Change) (k m f e : ℕ) (kids : Forest) (t' : Tree) (rs : List Record)
    → over ch (node k m f e kids) (convert_kids kids (roles ch)) ≡ turned t' rs → Carried kids ch
unfolding over roles
carried (refuse c) k m f e kids t' rs h = absurd (refused_turned h)
carried (keep kind records) k m f e kids t' rs h = kept
carried (turn kind before each after) k m f e kids t' rs h = go (convert_kids kids each) refl h
  where
    go : (out : Outcome Forest) → convert_kids kids each ≡ out → over (turn kind before each after) (node k m f e kids) out ≡ turned t' rs
        → Carried kids (turn kind before each after)
    go (refused c) q h = absurd (refused_turned h)
    go (turned kids' records) q h = goes kids' records q

-- a simple target is a reference, through Parens
inner_simple : (k m f e : ℕ) (kids : Forest)
    → ((ts' : Forest) (rs : List Record) → convert_kids kids (only Role.simple) ≡ turned ts' rs → eqb (count kids) 1 ≡ true → is_reference (inner_kinds kids) ≡ true)
    → Carried kids (as_simple (seen (node k m f e kids))) → is_reference (inner_kind (node k m f e kids)) ≡ true
unfolding as_simple seen inner_kind
inner_simple k m f e kids ih s = search rules

mutual
  unfolding convert_as change inner_kinds count

  simple_reference : (t t' : Tree) (rs : List Record) → convert_as t Role.simple ≡ turned t' rs → is_reference (inner_kind t) ≡ true
  simple_reference (node k m f e kids) t' rs h =
      inner_simple k m f e kids (λ ts' rs' q one. simple_references kids ts' rs' q one)
      (carried (as_simple (seen (node k m f e kids))) k m f e kids t' rs h)

  simple_references : (ts ts' : Forest) (rs : List Record) → convert_kids ts (only Role.simple) ≡ turned ts' rs → eqb (count ts) 1 ≡ true
      → is_reference (inner_kinds ts) ≡ true
  simple_references nil ts' rs h one = one
  simple_references (cons t ts) ts' rs h one = let q = cons_parts t ts (only Role.simple) ts' rs h in simple_reference t q.one q.first q.one_is

-- any target is an Array or Object itself, or through Parens a reference
data Argument (t : Tree) : Type 0 where
  literal : is_array_or_object (kind_of t) ≡ true → inner_kind t ≡ kind_of t → Argument t
  reference : is_array_or_object (kind_of t) ≡ false → is_reference (inner_kind t) ≡ true → Argument t

no_literal : (k m f e : ℕ) (kids : Forest) → Carried kids (as_simple (seen (node k m f e kids))) → is_array_or_object k ≡ false
unfolding as_simple seen
no_literal k m f e kids s = search rules

a_literal : (k m f e : ℕ) (kids : Forest) → is_array_or_object k ≡ true → eqb k row.Paren ≡ false → Argument (node k m f e kids)
unfolding kind_of inner_kind
a_literal k m f e kids is other = literal is (rw other)

argument : (t t' : Tree) (rs : List Record) → convert_as t Role.any ≡ turned t' rs → Argument t
unfolding convert_as change as_any seen kind_of
argument (node k m f e kids) t' rs h =
    let s = carried (as_any (seen (node k m f e kids))) k m f e kids t' rs h in
    by_test (Carried kids) (eqb k row.Array) s (λ is _. rw (eqb-true k _ is) (a_literal _ m f e kids refl refl))
    (λ _ s. by_test (Carried kids) (eqb k row.ArrayRestComma and _) s
    (λ is _. rw (eqb-true k _ (both_true (eqb k row.ArrayRestComma) _ is).0) (a_literal _ m f e kids refl refl))
    (λ _ s. by_test (Carried kids) (eqb k row.Object) s (λ is _. rw (eqb-true k _ is) (a_literal _ m f e kids refl refl))
    (λ _ s. by_test (Carried kids) (eqb k row.ObjectRestComma and _) s
    (λ is _. rw (eqb-true k _ (both_true (eqb k row.ObjectRestComma) _ is).0) (a_literal _ m f e kids refl refl))
    (λ _ s. reference (no_literal k m f e kids s) (inner_simple k m f e kids (λ ts' rs' q one. simple_references kids ts' rs' q one) s)))))

array_right : {t : Tree} → Argument t → array_argument t ≡ []
array_right a = search rules

object_right : {t : Tree} → Argument t → object_argument t ≡ (if is_array_or_object (kind_of t) then rest_argument (first_of t) ∷ [] else [])
object_right a = search rules

-- the argument of a rest that is converted
only_argument : (kids : Forest) (ts' : Forest) (rs : List Record) → convert_kids kids (only Role.any) ≡ turned ts' rs → eqb (count kids) 1 ≡ true
    → Argument (last_of kids)
only_argument kids ts' rs h single = go (one_kid kids single)
  where
    go : (t : Tree) × (kids ≡ one t) → Argument (last_of kids)
    go q =
        let r = cons_parts q.0 nil (only Role.any) ts' rs (rw q.1 at h) in
        rw q.1 (argument q.0 r.one r.first r.one_is)

-- records before the kids that are the same wherever the kids are converted
same_before : (k m f e : ℕ) (kids : Forest) (kind : ℕ) (before before' : List Record) (each : ℕ → Role) (after : List Record)
    → ((ts' : Forest) (rs : List Record) → convert_kids kids each ≡ turned ts' rs → before ≡ before')
    → over (turn kind before each after) (node k m f e kids) (convert_kids kids each) ≡ over (turn kind before' each after) (node k m f e kids) (convert_kids kids each)
unfolding over
same_before k m f e kids kind before before' each after h = search rules

alike_if : (b : Bool) (F : Change → Outcome Tree) {x x' y y' : Change} → (b ≡ true → F x ≡ F x') → F y ≡ F y' → F (if b then x else y) ≡ F (if b then x' else y')
alike_if b F p q = search rules

-- a row is converted by what the code looks at in it
pub convert_near : (t : Tree) (role : Role) → convert_as t role ≡ over (change role (near t)) t (convert_kids (kids_of t) (roles (change role (near t))))
unfolding convert_as change as_any as_simple as_value as_element as_last_element as_property as_last_property as_name seen near roles kids_of
convert_near (node k m f e kids) Role.any = refl
convert_near (node k m f e kids) Role.simple = refl
convert_near (node k m f e kids) Role.element = refl
convert_near (node k m f e kids) (Role.last_element comma) =
    alike_if (eqb k row.Spread and eqb (count kids) 1) (λ ch. over ch (node k m f e kids) (convert_kids kids (roles ch)))
    (λ is.
    same_before k m f e kids row.TargetRest _ _ (only Role.any) comma
    (λ ts' rs h. array_right (only_argument kids ts' rs h (both_true (eqb k row.Spread) _ is).1)))
    refl
convert_near (node k m f e kids) Role.property = refl
convert_near (node k m f e kids) (Role.last_property comma) =
    alike_if (eqb k row.Spread and eqb (count kids) 1) (λ ch. over ch (node k m f e kids) (convert_kids kids (roles ch)))
    (λ is.
    same_before k m f e kids row.TargetRest _ _ (only Role.any) []
    (λ ts' rs h. ap (λ (before : List Record). before ++ comma) (object_right (only_argument kids ts' rs h (both_true (eqb k row.Spread) _ is).1))))
    refl
convert_near (node k m f e kids) Role.value = refl
convert_near (node k m f e kids) Role.name = refl
convert_near (node k m f e kids) Role.same = refl
