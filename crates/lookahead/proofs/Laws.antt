-- What each three-way answer says about the next tokens, with both flags off: the facts that later proofs use.
-- Beside the definition: nothing here changes what the answer is.
-- Assumes nothing.
use Rattle.std.specs.Prelude.{if◌then◌else◌}
use Prim.Native.Nat.{ℕ, ◌+◌, ◌≤◌, ◌<◌}
use mathlib.Core.Path.{◌≡◌, refl, subst, sym, ◌∙◌}
use mathlib.Core.Bool.{Bool, true, false, not}
use mathlib.Core.List.{List}
use native.Mathlib.Omega.{arith}
use native.Mathlib.Decide.{ℕ_discrete}
use lib.Dec.{leb}
use borrow.Author.Tests.{eqb-true, eqb-false, leb-true, not-true, not-false, eq-eqb, ne_eqb, le-leb, lt-leb}
use Rattle.tokens.specs.Bool.{◌or◌, ◌and◌, ◌is◌, between}
use Rattle.tokens.specs.Kind.{Ident, Async, As, Modifier, Const, This, Null, Await, Yield, LParen, RParen, LBrack, LCurly, Comma, Colon, Question, Dot3, Arrow, LAngle, In, Eq}
use Rattle.tokens.specs.Token.{kind_at, flag_at, is_literal, is_binding_identifier, is_modifier_kind}
use Rattle.lookahead.specs.declared.Tristate.{Tristate}
use Rattle.lookahead.specs.ThreeWay.{three_way, after_open, after_paren, after_angle, no_parameters, rest_parameter, modified_name, after_name, first_parameter, names_type}
use Rattle.lookahead.specs.Cases.{First, Found, MaybeCase, Modifies, Name, Opening, Optional, TrueCase, Types, a_name, after_async, array, await, bare, close, colon, comma, const, empty_arrow, empty_body, equals, in_word, modified, modifier, name, name_close, name_comma, name_equals, object, optional, rest_ident, rest_other, this, type_const, type_name, type_parameters, typed, yield}

-- a token that opens: `(` or `<`
pub data Opener (k : ℕ) : Type 0 where
  paren : k ≡ LParen → Opener k
  angle : k ≡ LAngle → Opener k

-- what an answer says about the tokens from the opening one on
abbrev pub Says : List ℕ → ℕ → Tristate → Type 0
Says kinds p Tristate.False = Unit
Says kinds p Tristate.True = TrueCase kinds p
Says kinds p Tristate.Maybe = MaybeCase kinds p

-- what holds of both ways of a test holds of what it picks
by_test : {A : Type 0} (P : A → Type 0) (test : Bool) (x y : A) → (test ≡ true → P x) → (test ≡ false → P y) → P (if test then x else y)
by_test P true x y f g = f refl
by_test P false x y f g = g refl

either : {C : Type 0} (a b : Bool) → a or b ≡ true → (a ≡ true → C) → (b ≡ true → C) → C
either true b e f g = f refl
either false b e f g = g e

both : {C : Type 0} (a b : Bool) → a and b ≡ true → (a ≡ true → b ≡ true → C) → C
both true b e f = f refl e
both false b e f = cc

neither : {C : Type 0} (a b : Bool) → not a and not b ≡ false → (a ≡ true → C) → (b ≡ true → C) → C
neither true b e f g = f refl
neither false true e f g = g refl
neither false false e f g = cc

and_false : (a : Bool) → a and false ≡ false
and_false true = refl
and_false false = refl

or_true : (a : Bool) → a or true ≡ true
or_true true = refl
or_true false = refl

-- the classes and their tests
await_or_yield : (k : ℕ) → Await ≤ k → k ≤ Yield → Name k
await_or_yield k low high = go (ℕ_discrete k Await)
  where
    go : Dec (k ≡ Await) → Name k
    go (yes e) = await e
    go (no n) = yield (omega arith)

pub to_name : (k : ℕ) → is_binding_identifier k ≡ true → Name k
unfolding is_binding_identifier
to_name k e =
    either (between Ident Modifier k) (between Await Yield k) e
    (λ a. both (leb Ident k) (leb k Modifier) a (λ low high. name (leb-true _ _ low) (leb-true _ _ high)))
    (λ b. both (leb Await k) (leb k Yield) b (λ low high. await_or_yield k (leb-true _ _ low) (leb-true _ _ high)))

pub of_name : (k : ℕ) → Name k → is_binding_identifier k ≡ true
unfolding is_binding_identifier
of_name k (name low high) = rw (le-leb _ _ low, le-leb _ _ high)
of_name k (await e) = rw e
of_name k (yield e) = rw e

to_first : (k : ℕ) → not (is_binding_identifier k) and not (k is This) ≡ false → First k
to_first k e = neither (is_binding_identifier k) (k is This) e (λ n. a_name (to_name k n)) (λ t. this (eqb-true _ _ t))

of_first : (k : ℕ) → First k → not (is_binding_identifier k) and not (k is This) ≡ false
of_first k (a_name n) = rw (of_name k n)
of_first k (this e) = rw (eq-eqb k This e, and_false)

to_types : (k : ℕ) → names_type k ≡ true → Types k
unfolding names_type
to_types k e = either (k is Const) (is_binding_identifier k) e (λ t. type_const (eqb-true _ _ t)) (λ n. type_name (to_name k n))

of_types : (k : ℕ) → Types k → names_type k ≡ true
unfolding names_type
of_types k (type_name n) = rw (of_name k n, or_true)
of_types k (type_const e) = rw e

to_optional : (k : ℕ) → (k is Colon or k is Comma or k is Eq or k is RParen) ≡ true → Optional k
to_optional k e =
    either (k is Colon) (k is Comma or k is Eq or k is RParen) e (λ a. colon (eqb-true _ _ a))
    (λ e. either (k is Comma) (k is Eq or k is RParen) e (λ a. comma (eqb-true _ _ a))
    (λ e. either (k is Eq) (k is RParen) e (λ a. equals (eqb-true _ _ a)) (λ a. close (eqb-true _ _ a))))

of_optional : (k : ℕ) → Optional k → (k is Colon or k is Comma or k is Eq or k is RParen) ≡ true
of_optional k (colon e) = rw e
of_optional k (comma e) = rw e
of_optional k (equals e) = rw e
of_optional k (close e) = rw e

modifier_or_const : (k : ℕ) → Modifier ≤ k → k ≤ Const → Modifies k
modifier_or_const k low high = go (ℕ_discrete k Modifier)
  where
    go : Dec (k ≡ Modifier) → Modifies k
    go (yes e) = modifier e
    go (no n) = const (omega arith)

-- a modifier but no Async
to_modifies : (k : ℕ) → is_modifier_kind k ≡ true → not (k is Async) ≡ true → Modifies k
unfolding is_modifier_kind
to_modifies k e n =
    either (between Modifier Const k) (k is Async or k is In) e
    (λ a. both (leb Modifier k) (leb k Const) a (λ low high. modifier_or_const k (leb-true _ _ low) (leb-true _ _ high)))
    (λ b. either (k is Async) (k is In) b
    (λ t. let f = not-true (k is Async) n in cc)
    (λ t. in_word (eqb-true _ _ t)))

-- `(` and two words
record Modified (second third : ℕ) : Type 0 where
  by : Modifies second
  named : Name third

to_modified : (second third : ℕ) → modified_name second third ≡ true → Modified second third
unfolding modified_name
to_modified second third e =
    both (is_modifier_kind second) (not (second is Async) and is_binding_identifier third) e
    (λ m rest. both (not (second is Async)) (is_binding_identifier third) rest
    (λ n b. record { by = to_modifies second m n; named = to_name third b }))

of_modified : (second third : ℕ) → Modifies second → Name third → modified_name second third ≡ true
unfolding modified_name is_modifier_kind
of_modified second third (modifier e) n = rw (e, of_name third n)
of_modified second third (const e) n = rw (e, of_name third n)
of_modified second third (in_word e) n = rw (e, of_name third n)

-- the answer goes token by token, and so does what it says
module _ (kinds : List ℕ) (p : ℕ) (opens : kind_at kinds p ≡ LParen) where
  empty_says : (is_async : Bool) → kind_at kinds (p + 1) ≡ RParen → Says kinds p (no_parameters false is_async (kind_at kinds (p + 2)))
  unfolding no_parameters
  empty_says is_async second =
      let third = kind_at kinds (p + 2) in
      rw (and_false (third is Colon))
      (by_test (Says kinds p) (third is Arrow or third is LCurly) Tristate.True Tristate.False
      (λ t. either (third is Arrow) (third is LCurly) t
      (λ a. empty_arrow opens second (eqb-true _ _ a))
      (λ b. empty_body opens second (eqb-true _ _ b)))
      (λ _. tt))

  rest_says : kind_at kinds (p + 1) ≡ Dot3 → Says kinds p (rest_parameter (kind_at kinds (p + 2)))
  unfolding rest_parameter
  rest_says second =
      let third = kind_at kinds (p + 2) in
      by_test (Says kinds p) (third is Ident) Tristate.True (if is_literal third then Tristate.False else Tristate.Maybe)
      (λ t. rest_ident opens second (eqb-true _ _ t))
      (λ n. by_test (Says kinds p) (is_literal third) Tristate.False Tristate.Maybe (λ _. tt) (λ l. rest_other opens second (eqb-false _ _ n) l))

  after_name_says : First (kind_at kinds (p + 1)) → Says kinds p (after_name (kind_at kinds (p + 2)) (kind_at kinds (p + 3)))
  unfolding after_name
  after_name_says first =
      let third = kind_at kinds (p + 2) in
      let fourth = kind_at kinds (p + 3) in
      let more = if third is Comma or third is Eq or third is RParen then Tristate.Maybe else Tristate.False in
      let ends = fourth is Colon or fourth is Comma or fourth is Eq or fourth is RParen in
      let asked = if ends then Tristate.True else Tristate.False in
      by_test (Says kinds p) (third is Colon) Tristate.True (if third is Question then asked else more)
      (λ t. typed opens first (eqb-true _ _ t))
      (λ _. by_test (Says kinds p) (third is Question) asked more
      (λ q. by_test (Says kinds p) ends Tristate.True Tristate.False (λ o. optional opens first (eqb-true _ _ q) (to_optional fourth o)) (λ _. tt))
      (λ _. by_test (Says kinds p) (third is Comma or third is Eq or third is RParen) Tristate.Maybe Tristate.False
      (λ m. either (third is Comma) (third is Eq or third is RParen) m
      (λ a. name_comma opens first (eqb-true _ _ a))
      (λ m. either (third is Eq) (third is RParen) m
      (λ a. name_equals opens first (eqb-true _ _ a))
      (λ a. name_close opens first (eqb-true _ _ a))))
      (λ _. tt)))

  first_says : Says kinds p (first_parameter (kind_at kinds (p + 1)) (kind_at kinds (p + 2)) (kind_at kinds (p + 3)))
  unfolding first_parameter
  first_says =
      let second = kind_at kinds (p + 1) in
      let third = kind_at kinds (p + 2) in
      let fourth = kind_at kinds (p + 3) in
      let nameless = not (is_binding_identifier second) and not (second is This) in
      by_test (Says kinds p) (modified_name second third) (if third is As then Tristate.False else Tristate.True) (if nameless then Tristate.False else after_name third fourth)
      (λ t. let m = to_modified second third t in
      by_test (Says kinds p) (third is As) Tristate.False Tristate.True (λ _. tt) (λ a. modified opens m.by m.named (eqb-false _ _ a)))
      (λ _. by_test (Says kinds p) nameless Tristate.False (after_name third fourth) (λ _. tt) (λ n. after_name_says (to_first second n)))

  paren_says : (is_async : Bool) → Says kinds p (after_paren kinds false is_async p)
  unfolding after_paren
  paren_says is_async =
      let second = kind_at kinds (p + 1) in
      let third = kind_at kinds (p + 2) in
      let first = first_parameter second third (kind_at kinds (p + 3)) in
      let rest = if second is Dot3 then rest_parameter third else first in
      by_test (Says kinds p) (second is RParen) (no_parameters false is_async third) (if second is LBrack or second is LCurly then Tristate.Maybe else rest)
      (λ t. empty_says is_async (eqb-true _ _ t))
      (λ _. by_test (Says kinds p) (second is LBrack or second is LCurly) Tristate.Maybe rest
      (λ t. either (second is LBrack) (second is LCurly) t (λ a. array opens (eqb-true _ _ a)) (λ a. object opens (eqb-true _ _ a)))
      (λ _. by_test (Says kinds p) (second is Dot3) (rest_parameter third) first (λ t. rest_says (eqb-true _ _ t)) (λ _. first_says)))

angle_says : (kinds : List ℕ) (p : ℕ) → kind_at kinds p ≡ LAngle → Says kinds p (after_angle kinds false p)
unfolding after_angle
angle_says kinds p opens =
    let second = kind_at kinds (p + 1) in
    by_test (Says kinds p) (not (names_type second)) Tristate.False Tristate.Maybe
    (λ _. tt)
    (λ t. type_parameters opens (to_types second (not-false (names_type second) t)))

open_says : (kinds : List ℕ) (is_async : Bool) (p : ℕ) → Says kinds p (after_open kinds false false is_async p)
unfolding after_open
open_says kinds is_async p =
    let first = kind_at kinds p in
    by_test (Says kinds p) (first is LParen) (after_paren kinds false is_async p) (if first is LAngle then after_angle kinds false p else Tristate.False)
    (λ t. paren_says kinds p (eqb-true _ _ t) is_async)
    (λ _. by_test (Says kinds p) (first is LAngle) (after_angle kinds false p) Tristate.False (λ t. angle_says kinds p (eqb-true _ _ t)) (λ _. tt))

-- what an answer at a place says: where the opening token stands, and the tokens from there on
abbrev pub Told : List ℕ → List ℕ → ℕ → Tristate → Type 0
Told kinds flags at Tristate.False = Unit
Told kinds flags at Tristate.True = Found kinds flags at (TrueCase kinds)
Told kinds flags at Tristate.Maybe = Found kinds flags at (MaybeCase kinds)

opened : (kinds flags : List ℕ) (at p : ℕ) → Opening kinds flags at p → (answer : Tristate) → Says kinds p answer → Told kinds flags at answer
opened kinds flags at p o Tristate.False s = tt
opened kinds flags at p o Tristate.True s = record { p = p; opening = o; tokens = s }
opened kinds flags at p o Tristate.Maybe s = record { p = p; opening = o; tokens = s }

pub told : (kinds flags : List ℕ) (at : ℕ) → Told kinds flags at (three_way kinds flags false false at)
unfolding three_way
told kinds flags at =
    let eaten = after_open kinds false false true (at + 1) in
    let broken = flag_at flags (at + 1) is 1 in
    let plain = after_open kinds false false false at in
    by_test (Told kinds flags at) (kind_at kinds at is Async) (if broken then Tristate.False else eaten) plain
    (λ t. by_test (Told kinds flags at) broken Tristate.False eaten
    (λ _. tt)
    (λ b. opened kinds flags at (at + 1) (after_async (eqb-true _ _ t) (eqb-false _ _ b) refl) eaten (open_says kinds true (at + 1))))
    (λ _. opened kinds flags at at (bare refl) plain (open_says kinds false at))

-- True: one of the six cases, at the place or right after an Async there
pub true_case : (kinds flags : List ℕ) (at : ℕ) → three_way kinds flags false false at ≡ Tristate.True → Found kinds flags at (TrueCase kinds)
true_case kinds flags at e = subst (Told kinds flags at) e (told kinds flags at)

-- Maybe: one of the seven cases, at the place or right after an Async there
pub maybe_case : (kinds flags : List ℕ) (at : ℕ) → three_way kinds flags false false at ≡ Tristate.Maybe → Found kinds flags at (MaybeCase kinds)
maybe_case kinds flags at e = subst (Told kinds flags at) e (told kinds flags at)

-- any answer but False, with any flags: `(` or `<` stands at the place, or right after an Async there, with no break between them
Otherwise : List ℕ → List ℕ → ℕ → Tristate → Type 0
Otherwise kinds flags at answer = (answer ≡ Tristate.False → ⊥) → Found kinds flags at (λ p. Opener (kind_at kinds p))

opener : (kinds flags : List ℕ) (is_ts is_jsx is_async : Bool) (at p : ℕ) → Opening kinds flags at p → Otherwise kinds flags at (after_open kinds is_ts is_jsx is_async p)
unfolding after_open Otherwise
opener kinds flags is_ts is_jsx is_async at p o =
    let first = kind_at kinds p in
    by_test (Otherwise kinds flags at) (first is LParen) (after_paren kinds is_ts is_async p) (if first is LAngle then after_angle kinds is_jsx p else Tristate.False)
    (λ t _. record { p = p; opening = o; tokens = paren (eqb-true _ _ t) })
    (λ _. by_test (Otherwise kinds flags at) (first is LAngle) (after_angle kinds is_jsx p) Tristate.False
    (λ t _. record { p = p; opening = o; tokens = angle (eqb-true _ _ t) })
    (λ _ n. absurd (n refl)))

pub opens : (kinds flags : List ℕ) (is_ts is_jsx : Bool) (at : ℕ) → (three_way kinds flags is_ts is_jsx at ≡ Tristate.False → ⊥)
    → Found kinds flags at (λ p. Opener (kind_at kinds p))
unfolding three_way Otherwise
opens kinds flags is_ts is_jsx at =
    let eaten = after_open kinds is_ts is_jsx true (at + 1) in
    let broken = flag_at flags (at + 1) is 1 in
    by_test (Otherwise kinds flags at) (kind_at kinds at is Async) (if broken then Tristate.False else eaten) (after_open kinds is_ts is_jsx false at)
    (λ t. by_test (Otherwise kinds flags at) broken Tristate.False eaten
    (λ _ n. absurd (n refl))
    (λ b. opener kinds flags is_ts is_jsx true at (at + 1) (after_async (eqb-true _ _ t) (eqb-false _ _ b) refl)))
    (λ _. opener kinds flags is_ts is_jsx false at at (bare refl))

-- The other way round: each case has its answer.
-- a kind that is none of `)`, `[`, `{`, `...`
record Word (k : ℕ) : Type 0 where
  no_close : k ≡ RParen → ⊥
  no_brack : k ≡ LBrack → ⊥
  no_curly : k ≡ LCurly → ⊥
  no_dots : k ≡ Dot3 → ⊥

-- no kind below `(` is one, nor is one above `...`
low_word : (k : ℕ) → k < LParen → Word k
low_word k h = record { no_close = λ e. omega arith; no_brack = λ e. omega arith; no_curly = λ e. omega arith; no_dots = λ e. omega arith }

high_word : (k : ℕ) → Dot3 < k → Word k
high_word k h = record { no_close = λ e. omega arith; no_brack = λ e. omega arith; no_curly = λ e. omega arith; no_dots = λ e. omega arith }

first_word : (k : ℕ) → First k → Word k
first_word k (a_name (name low high)) = low_word k (omega arith)
first_word k (a_name (await a)) = low_word k (omega arith)
first_word k (a_name (yield a)) = low_word k (omega arith)
first_word k (this a) = low_word k (omega arith)

modifies_word : (k : ℕ) → Modifies k → Word k
modifies_word k (modifier a) = low_word k (omega arith)
modifies_word k (const a) = low_word k (omega arith)
modifies_word k (in_word a) = high_word k (omega arith)

module _ (kinds : List ℕ) (is_ts is_jsx is_async : Bool) (p : ℕ) (starts : kind_at kinds p ≡ LParen) where
  -- after `(` and a word the answer is that of the first parameter
  at_word : Word (kind_at kinds (p + 1)) → after_open kinds is_ts is_jsx is_async p ≡ first_parameter (kind_at kinds (p + 1)) (kind_at kinds (p + 2)) (kind_at kinds (p + 3))
  unfolding after_open after_paren
  at_word w = rw (starts, ne_eqb _ _ w.no_close, ne_eqb _ _ w.no_brack, ne_eqb _ _ w.no_curly, ne_eqb _ _ w.no_dots)

  -- after `(`, a name or This, and no name it is that of what stands after the name
  at_first : First (kind_at kinds (p + 1)) → is_binding_identifier (kind_at kinds (p + 2)) ≡ false
      → after_open kinds is_ts is_jsx is_async p ≡ after_name (kind_at kinds (p + 2)) (kind_at kinds (p + 3))
  unfolding first_parameter modified_name
  at_first f n = at_word (first_word _ f) ∙ rw (n, of_first _ f, and_false, and_false)

-- with any flags
true_opens : (kinds : List ℕ) (is_ts is_jsx is_async : Bool) (p : ℕ) → TrueCase kinds p → after_open kinds is_ts is_jsx is_async p ≡ Tristate.True
unfolding after_open after_paren no_parameters rest_parameter first_parameter after_name is_binding_identifier
true_opens kinds is_ts is_jsx is_async p (empty_arrow o s t) = rw (o, s, t)
true_opens kinds is_ts is_jsx is_async p (empty_body o s t) = rw (o, s, t)
true_opens kinds is_ts is_jsx is_async p (rest_ident o s t) = rw (o, s, t)
true_opens kinds is_ts is_jsx is_async p (modified o s t a) =
    at_word kinds is_ts is_jsx is_async p o (modifies_word _ s) ∙ rw (of_modified _ _ s t, ne_eqb _ _ a)
true_opens kinds is_ts is_jsx is_async p (typed o s t) = at_first kinds is_ts is_jsx is_async p o s (rw t) ∙ rw t
true_opens kinds is_ts is_jsx is_async p (optional o s t f) = at_first kinds is_ts is_jsx is_async p o s (rw t) ∙ rw (t, of_optional _ f)

-- without JSX
maybe_opens : (kinds : List ℕ) (is_ts is_async : Bool) (p : ℕ) → MaybeCase kinds p → after_open kinds is_ts false is_async p ≡ Tristate.Maybe
unfolding after_open after_paren after_angle rest_parameter after_name is_binding_identifier
maybe_opens kinds is_ts is_async p (array o s) = rw (o, s)
maybe_opens kinds is_ts is_async p (object o s) = rw (o, s)
maybe_opens kinds is_ts is_async p (rest_other o s i l) = rw (o, s, ne_eqb _ _ i, l)
maybe_opens kinds is_ts is_async p (name_comma o s t) = at_first kinds is_ts false is_async p o s (rw t) ∙ rw t
maybe_opens kinds is_ts is_async p (name_equals o s t) = at_first kinds is_ts false is_async p o s (rw t) ∙ rw t
maybe_opens kinds is_ts is_async p (name_close o s t) = at_first kinds is_ts false is_async p o s (rw t) ∙ rw t
maybe_opens kinds is_ts is_async p (type_parameters o s) = rw (o, of_types _ s)

-- an opening token is no Async
opener_bare : (k : ℕ) → Opener k → k is Async ≡ false
opener_bare k (paren e) = rw e
opener_bare k (angle e) = rw e

-- True has `(` at its opening token
pub true_paren : (kinds : List ℕ) (p : ℕ) → TrueCase kinds p → kind_at kinds p ≡ LParen
true_paren kinds p (empty_arrow o s t) = o
true_paren kinds p (empty_body o s t) = o
true_paren kinds p (rest_ident o s t) = o
true_paren kinds p (modified o s t a) = o
true_paren kinds p (typed o s t) = o
true_paren kinds p (optional o s t f) = o

-- Maybe has `(` or `<` there
pub maybe_opener : (kinds : List ℕ) (p : ℕ) → MaybeCase kinds p → Opener (kind_at kinds p)
maybe_opener kinds p (array o s) = paren o
maybe_opener kinds p (object o s) = paren o
maybe_opener kinds p (rest_other o s i l) = paren o
maybe_opener kinds p (name_comma o s t) = paren o
maybe_opener kinds p (name_equals o s t) = paren o
maybe_opener kinds p (name_close o s t) = paren o
maybe_opener kinds p (type_parameters o s) = angle o

-- the answer at the place is that at the opening token
from_opening : (kinds flags : List ℕ) (is_ts is_jsx : Bool) (at p : ℕ) (answer : Tristate) → Opening kinds flags at p → Opener (kind_at kinds p)
    → ((is_async : Bool) → after_open kinds is_ts is_jsx is_async p ≡ answer) → three_way kinds flags is_ts is_jsx at ≡ answer
unfolding three_way
from_opening kinds flags is_ts is_jsx at p answer (bare e) o same = rw (sym e, opener_bare _ o) (same false)
from_opening kinds flags is_ts is_jsx at p answer (after_async a b e) o same = rw (a, ne_eqb _ _ b, sym e) (same true)

pub true_told : (kinds flags : List ℕ) (is_ts is_jsx : Bool) (at : ℕ) → Found kinds flags at (TrueCase kinds) → three_way kinds flags is_ts is_jsx at ≡ Tristate.True
true_told kinds flags is_ts is_jsx at f =
    from_opening kinds flags is_ts is_jsx at f.p Tristate.True f.opening (paren (true_paren kinds f.p f.tokens))
    (λ is_async. true_opens kinds is_ts is_jsx is_async f.p f.tokens)

pub maybe_told : (kinds flags : List ℕ) (is_ts : Bool) (at : ℕ) → Found kinds flags at (MaybeCase kinds) → three_way kinds flags is_ts false at ≡ Tristate.Maybe
maybe_told kinds flags is_ts at f =
    from_opening kinds flags is_ts false at f.p Tristate.Maybe f.opening (maybe_opener kinds f.p f.tokens)
    (λ is_async. maybe_opens kinds is_ts is_async f.p f.tokens)

two_on : (at : ℕ) → at + 1 + 1 ≡ at + 2
two_on at = omega arith

three_on : (at : ℕ) → at + 1 + 2 ≡ at + 3
three_on at = omega arith

-- The early commit: Async, `(` with no break before it, `...` and a plain name are True with any flags, though the standard has a call there.
pub early_commit : (kinds flags : List ℕ) (is_ts is_jsx : Bool) (at : ℕ) → kind_at kinds at ≡ Async → (flag_at flags (at + 1) ≡ 1 → ⊥)
    → kind_at kinds (at + 1) ≡ LParen → kind_at kinds (at + 2) ≡ Dot3 → kind_at kinds (at + 3) ≡ Ident
    → three_way kinds flags is_ts is_jsx at ≡ Tristate.True
unfolding three_way after_open after_paren rest_parameter
early_commit kinds flags is_ts is_jsx at async unbroken first second third =
    rw (async, ne_eqb _ _ unbroken, first, two_on at, three_on at, second, third)

-- any other name there is Maybe: kinds 2 to 5
pub no_early_commit : (kinds flags : List ℕ) (is_ts is_jsx : Bool) (at : ℕ) → kind_at kinds at ≡ Async → (flag_at flags (at + 1) ≡ 1 → ⊥)
    → kind_at kinds (at + 1) ≡ LParen → kind_at kinds (at + 2) ≡ Dot3 → Async ≤ kind_at kinds (at + 3) → kind_at kinds (at + 3) ≤ Modifier
    → three_way kinds flags is_ts is_jsx at ≡ Tristate.Maybe
unfolding three_way after_open after_paren rest_parameter is_literal
no_early_commit kinds flags is_ts is_jsx at async unbroken first second low high =
    rw (async, ne_eqb _ _ unbroken, first, two_on at, three_on at, second, ne_eqb (kind_at kinds (at + 3)) Ident (λ e. omega arith), lt-leb Null (kind_at kinds (at + 3)) (omega arith))
