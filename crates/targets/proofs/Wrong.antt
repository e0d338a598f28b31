-- Records stand before those of kids only where there are kids; so a rest of a wrong kind has a kid, beside which its record stands.
-- Assumes nothing.
use Rattle.std.specs.Prelude.{Option, if◌then◌else◌}
use Prim.Native.Nat.{ℕ, zero, suc, ◌<◌}
use mathlib.Core.Path.{◌≡◌, refl, sym, ap, ◌∙◌}
use mathlib.Core.Bool.{Bool, true, false, not}
use mathlib.Core.List.{List, []}
use native.Mathlib.Omega.{arith}
use borrow.Author.Rules.{rules}
use borrow.Author.Tests.{ne_eqb}
use lib.Dec.{eqb}
use Rattle.tokens.specs.Bool.{◌and◌}
use Rattle.tokens.specs.declared.cause.Cause.{Cause}
use Rattle.rows.specs.Row as row
use Rattle.rows.specs.Record.{Record}
use Rattle.rows.specs.Tree.{Tree, count, kids_of}
use Rattle.conversion.specs.Conversion as def
use Rattle.conversion.specs.Conversion.{Change, Seen, is_with, is_closed, is_array_or_object, as_simple, as_any, as_value, as_element, as_last_element, as_property, as_last_property, as_name, change}
use Rattle.roles.specs.declared.plan.Plan.{Plan}
use Rattle.roles.specs.declared.plan.Plan.TheVariants.{WrongRest}
use Rattle.roles.specs.Meaning.{plan, before}
use Rattle.targets.specs.Post.{Subtree, near, begins_of, PlanAt}

-- a change with no record before those of its kids
data Bare : Change → Type 0 where
  refusing : {cause : Cause} → Bare (def.refuse cause)
  keeping : {kind : ℕ} {records : List Record} → Bare (def.keep kind records)
  turning : {kind : ℕ} {kids : ℕ → def.Role} {after : List Record} → Bare (def.turn kind [] kids after)

-- whichever way a test goes
either : (b : Bool) {x y : Change} → Bare x → Bare y → Bare (if b then x else y)
either true p q = p
either false p q = q

simple_none : (s : Seen) → Bare (as_simple s)
unfolding as_simple
simple_none s =
    either (eqb s.kind row.Identifier) keeping
    (either (eqb s.kind row.Member) keeping
    (either (eqb s.kind row.Index) keeping (either (is_with s row.Paren 1 and not (is_array_or_object s.last)) turning refusing)))

any_none : (s : Seen) → Bare (as_any s)
unfolding as_any
any_none s =
    either (eqb s.kind row.Array) turning
    (either (is_closed s row.ArrayRestComma) turning
    (either (eqb s.kind row.Object) turning (either (is_closed s row.ObjectRestComma) turning (simple_none s))))

value_none : (s : Seen) → Bare (as_value s)
unfolding as_value
value_none s = either (eqb s.kind row.Assign) keeping (either (eqb s.kind row.CompoundAssign) keeping (any_none s))

element_none : (s : Seen) → Bare (as_element s)
unfolding as_element
element_none s = either (eqb s.kind row.Hole) keeping (either (eqb s.kind row.Spread) refusing (value_none s))

property_none : (s : Seen) → Bare (as_property s)
unfolding as_property
property_none s =
    either (is_with s row.Shorthand 1) turning
    (either (is_with s row.ShorthandInit 2) turning (either (is_with s row.Property 2) turning (either (eqb s.kind row.Spread) refusing refusing)))

name_none : (s : Seen) → Bare (as_name s)
unfolding as_name
name_none s = either (eqb s.kind row.Identifier) keeping refusing

and_false : (b c : Bool) → c ≡ false → (b and c) ≡ false
and_false true c e = e
and_false false c e = refl

no_rest : (s : Seen) → s.kids ≡ 0 → is_with s row.Spread 1 ≡ false
no_rest s k = and_false (eqb s.kind row.Spread) (eqb s.kids 1) (ne_eqb s.kids 1 (λ e. omega arith))

none : (role : def.Role) (s : Seen) → s.kids ≡ 0 → Bare (change role s)
unfolding change as_last_element as_last_property
none def.any s k = any_none s
none def.simple s k = simple_none s
none def.element s k = element_none s
none (def.last_element comma) s k = rw (no_rest s k) (element_none s)
none def.property s k = property_none s
none (def.last_property comma) s k = rw (no_rest s k) (property_none s)
none def.value s k = value_none s
none def.name s k = name_none s
none def.same s k = keeping

no_kids : (t : Tree) → count (kids_of t) ≡ 0 → (near t).kids ≡ 0
unfolding near kids_of
no_kids t z = search rules

wrong_never : (role : def.Role) (s : def.Seen) (begins : ℕ) (comma : Option ℕ) → s.kids ≡ 0 → plan begins (WrongRest comma) ≡ change role s → ⊥
unfolding plan before change as_simple as_any as_value as_element as_last_element as_property as_last_property as_name
wrong_never role s begins comma z h = search rules

pub wrong_kid : {rows : List ℕ} {root : ℕ} {role : def.Role} {of : Plan} → PlanAt rows root role of → (comma : Option ℕ) → of ≡ WrongRest comma → (h : Subtree rows root)
    → 0 < count (kids_of h.tree)
wrong_kid {role = role} p comma k h = go (count (kids_of h.tree)) refl
  where
    go : (n : ℕ) → count (kids_of h.tree) ≡ n → 0 < n
    go zero e = absurd (wrong_never role (near h.tree) (begins_of h.tree) comma (no_kids h.tree e) (ap (plan (begins_of h.tree)) (sym k) ∙ p.is h))
    go (suc n) e = omega arith
