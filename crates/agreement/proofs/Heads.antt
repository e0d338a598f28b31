-- What a head begins with. Where the three-way answer is False, no head can be read, with any policy: so the plain head fails.
-- The statement, at the end: `false_fails`. Assumes nothing.
use Prim.Native.Nat.{ℕ, ◌+◌, ◌≤◌}
use mathlib.Core.Path.{◌≡◌, refl}
use mathlib.Core.Bool.{true, false, not}
use native.Mathlib.Omega.{arith}
use native.Mathlib.Decide.{ℕ_discrete}
use lib.Dec.{leb}
use borrow.Author.Tests.{eqb-false, leb-true, not-true, lt-leb}
use Rattle.tokens.specs.Kind.{Ident, Modifier, LParen, RParen, LBrack, LCurly, Comma, Dot3, Arrow, Eq}
use Rattle.tokens.specs.Token.{is_name, is_literal}
use Rattle.tokens.specs.declared.cause.Cause.{Cause}
use Rattle.lookahead.specs.declared.Tristate.{Tristate}
use Rattle.lookahead.specs.ThreeWay.{three_way}
use Rattle.lookahead.specs.Cases as Cases
use Rattle.lookahead.proofs.Laws as Laws
use Rattle.rows.specs.Tree.{Forest, nil, join}
use Rattle.grammar.specs.Sheet.{Sheet, token, break_before, Out, fail}
use Rattle.grammar.specs.Job.{Job, assignment, binding, binding_element, binding_elements, binding_properties, binding_rest, head, parameters, Asks}
use Rattle.grammar.specs.Binding.{binding_of, binding_element_of, binding_rest_of}
use Rattle.grammar.specs.Arrow.{Policy, parenthesized_head_of, head_of, parameters_of}
use Rattle.grammar.specs.Step.{step, read}
use Rattle.laws.specs.Settles.{μ}
use Rattle.laws.proofs.Good.{Meaning, Ends, ends_done, ends_fail, ends_stuck, Reads, yields, refuses, says, follows, test, token_test, so, and_left, and_right}
use Rattle.laws.proofs.Steady.{never_stuck}
use Rattle.agreement.proofs.Covers.{Nothing, nothing_said, Told, all_told}

-- an outcome that is a refusal
pub record Fails {N : Type 0} (out : Out N) : Type 0 where
  pub cause : Cause
  pub after : N
  pub fails : out ≡ fail cause after

-- the kinds 1 to 5
pub record Named (k : ℕ) : Type 0 where
  pub low : Ident ≤ k
  pub high : k ≤ Modifier

pub named : {k : ℕ} → is_name k ≡ true → Named k
unfolding is_name
named {k} e = record { low = leb-true _ _ (and_left (leb Ident k) (leb k Modifier) e); high = leb-true _ _ (and_right (leb Ident k) (leb k Modifier) e) }

-- what a binding begins with
pub data Binds (k : ℕ) : Type 0 where
  name : Named k → Binds k
  brack : k ≡ LBrack → Binds k
  curly : k ≡ LCurly → Binds k

-- what may stand after a parameter that is a name
pub data Next (k : ℕ) : Type 0 where
  next_equals : k ≡ Eq → Next k
  next_comma : k ≡ Comma → Next k
  next_close : k ≡ RParen → Next k

module _ (sheet : Sheet) where
  -- a binding, with an optional initializer: a name is all of it, or `=` stands after it
  pub data Bound (at end : ℕ) : Type 0 where
    by_name : Named (token sheet at) → end ≡ at + 1 → Bound at end
    default : Named (token sheet at) → token sheet (at + 1) ≡ Eq → Bound at end
    by_brack : token sheet at ≡ LBrack → Bound at end
    by_curly : token sheet at ≡ LCurly → Bound at end

  -- parameters, from the token after the `(`
  pub data Listed (at end : ℕ) : Type 0 where
    none : token sheet at ≡ RParen → end ≡ at + 1 → Listed at end
    rest : token sheet at ≡ Dot3 → Binds (token sheet (at + 1)) → Listed at end
    array : token sheet at ≡ LBrack → Listed at end
    object : token sheet at ≡ LCurly → Listed at end
    parameter : Named (token sheet at) → Next (token sheet (at + 1)) → Listed at end

  -- the nonterminals of which something is said
  data On : Job → Type 0 where
    on_binding : {at : ℕ} → On (binding at)
    on_element : {at : ℕ} → On (binding_element at)
    on_rest : {at : ℕ} → On (binding_rest at)
    on_head : {at : ℕ} → On (head at)
    on_parameters : {at : ℕ} {so_far : Forest} → On (parameters at so_far)

  -- how each begins
  abbrev Begins : {job : Job} → On job → Meaning
  Begins (on_binding {at}) end trees records = Bound at end
  Begins (on_element {at}) end trees records = Bound at end
  Begins (on_rest {at}) end trees records = Binds (token sheet (at + 1))
  Begins (on_head {at}) end trees records = three_way sheet.kinds sheet.flags false false at ≡ Tristate.False → ⊥
  Begins (on_parameters {at}) end trees records = Listed at end

  binds : {at end : ℕ} → Bound at end → Binds (token sheet at)
  binds (by_name n e) = name n
  binds (default n q) = name n
  binds (by_brack k) = brack k
  binds (by_curly k) = curly k

  initialized : {at end : ℕ} (further : ℕ) → Bound at end → token sheet end ≡ Eq → Bound at further
  initialized further (by_name n e) q = default n (rw e at q)
  initialized further (default n e) q = default n e
  initialized further (by_brack k) q = by_brack k
  initialized further (by_curly k) q = by_curly k

  -- an element, and what stands after it
  listed : {at end : ℕ} (further : ℕ) → Bound at end → Next (token sheet end) → Listed at further
  listed further (by_name n e) t = parameter n (rw e at t)
  listed further (default n q) t = parameter n (next_equals q)
  listed further (by_brack k) t = array k
  listed further (by_curly k) t = object k

  -- the answer at a place from what stands after the `(`
  told_true : (at : ℕ) → Cases.Found sheet.kinds sheet.flags at (Cases.TrueCase sheet.kinds) → three_way sheet.kinds sheet.flags false false at ≡ Tristate.False → ⊥
  told_true at f e = let t = Laws.true_told sheet.kinds sheet.flags false false at f in let z : ◌≡◌ {A = ℕ} 0 1 = cc in omega arith

  told_maybe : (at : ℕ) → Cases.Found sheet.kinds sheet.flags at (Cases.MaybeCase sheet.kinds) → three_way sheet.kinds sheet.flags false false at ≡ Tristate.False → ⊥
  told_maybe at f e = let t = Laws.maybe_told sheet.kinds sheet.flags false at f in let z : ◌≡◌ {A = ℕ} 0 1 = cc in omega arith

  no_literal : (k : ℕ) → Binds k → is_literal k ≡ false
  unfolding is_literal
  no_literal k (name n) = rw (lt-leb 8 k (omega (arith, n.low, n.high)))
  no_literal k (brack e) = rw e
  no_literal k (curly e) = rw e

  two_on : (p : ℕ) → p + 1 + 1 ≡ p + 2
  two_on p = omega arith

  not_false : (at p end : ℕ) → Cases.Opening sheet.kinds sheet.flags at p → token sheet p ≡ LParen → Listed (p + 1) end → token sheet end ≡ Arrow
      → three_way sheet.kinds sheet.flags false false at ≡ Tristate.False → ⊥
  not_false at p end o k (none t e) a = told_true at (record { p = p; opening = o; tokens = Cases.empty_arrow k t (rw (e, two_on p) at a) })
  not_false at p end o k (array t) a = told_maybe at (record { p = p; opening = o; tokens = Cases.array k t })
  not_false at p end o k (object t) a = told_maybe at (record { p = p; opening = o; tokens = Cases.object k t })
  not_false at p end o k (rest t b) a = go (rw (two_on p) at b) (ℕ_discrete (token sheet (p + 2)) Ident)
    where
      go : Binds (token sheet (p + 2)) → Dec (token sheet (p + 2) ≡ Ident) → three_way sheet.kinds sheet.flags false false at ≡ Tristate.False → ⊥
      go c (yes e) = told_true at (record { p = p; opening = o; tokens = Cases.rest_ident k t e })
      go c (no e) = told_maybe at (record { p = p; opening = o; tokens = Cases.rest_other k t e (no_literal _ c) })
  not_false at p end o k (parameter n t) a = go (rw (two_on p) at t)
    where
      f : Cases.First (token sheet (p + 1))
      f = Cases.a_name (Cases.name n.low n.high)

      go : Next (token sheet (p + 2)) → three_way sheet.kinds sheet.flags false false at ≡ Tristate.False → ⊥
      go (next_equals e) = told_maybe at (record { p = p; opening = o; tokens = Cases.name_equals k f e })
      go (next_comma e) = told_maybe at (record { p = p; opening = o; tokens = Cases.name_comma k f e })
      go (next_close e) = told_maybe at (record { p = p; opening = o; tokens = Cases.name_close k f e })

  -- THE PRODUCTIONS
  module _ {N : Type 0} (policy : Policy N) {ask : Asks N} (h : Told (λ job o. Begins {job = job} o) ask) where
    parenthesized_head_begins : (at p : ℕ) → Cases.Opening sheet.kinds sheet.flags at p
        → Reads (λ end trees records. three_way sheet.kinds sheet.flags false false at ≡ Tristate.False → ⊥) Nothing (parenthesized_head_of sheet ask p)
    unfolding parenthesized_head_of
    parenthesized_head_begins at p o =
        token_test sheet _ _
        (λ t. follows (h.with (parameters (p + 1) nil) on_parameters)
        (λ list rs b. token_test sheet _ _ (λ u. yields _ _ (not_false at p list.end o t.kind_is b u.kind_is)) (refuses _ tt)))
        (refuses _ tt)

    step_begins : {job : Job} (o : On job) → Reads (Begins o) Nothing (step policy sheet ask job)
    unfolding step binding_of binding_element_of binding_rest_of parameters_of head_of
    step_begins (on_binding {at}) =
        test (is_name (token sheet at)) (λ t. yields _ _ (by_name (named t) refl))
        (λ _. token_test sheet _ _ (λ t. so (nothing_said (ask (binding_elements at (at + 1) nil))) (λ end trees more c. by_brack t.kind_is))
        (token_test sheet _ _ (λ t. so (nothing_said (ask (binding_properties at (at + 1) nil))) (λ end trees more c. by_curly t.kind_is)) (refuses _ tt)))
    step_begins (on_element {at}) =
        follows (h.with (binding at) on_binding)
        (λ target rs b. token_test sheet _ _
        (λ t. follows (nothing_said (ask (assignment (target.end + 1)))) (λ initializer more c. yields _ _ (initialized _ b t.kind_is)))
        (yields _ _ b))
    step_begins (on_rest {at}) = follows (h.with (binding_element (at + 1)) on_element) (λ argument rs b. says _ (yields _ _ (binds b)))
    step_begins (on_parameters {at} {so_far}) =
        token_test sheet _ _ (λ t. yields _ _ (none t.kind_is refl))
        (token_test sheet _ _
        (λ t. follows (h.with (binding_rest at) on_rest) (λ argument rs b. token_test sheet _ _ (λ u. yields _ _ (rest t.kind_is b)) (refuses _ tt)))
        (follows (h.with (binding_element at) on_element)
        (λ element rs b. token_test sheet _ _
        (λ t. so (nothing_said (ask (parameters (element.end + 1) (join so_far element.trees)))) (λ end trees more c. listed _ b (next_comma t.kind_is)))
        (token_test sheet _ _ (λ t. yields _ _ (listed _ b (next_close t.kind_is))) (refuses _ tt)))))
    step_begins (on_head {at}) =
        token_test sheet _ _
        (λ t. test (not (break_before sheet (at + 1)))
        (λ n. parenthesized_head_begins at (at + 1) (Cases.after_async t.kind_is (eqb-false _ _ (not-true (break_before sheet (at + 1)) n)) refl))
        (λ _. refuses _ tt))
        (parenthesized_head_begins at at (Cases.bare refl))

  -- THE STATEMENT: where the answer is False a head fails
  pub false_fails : {N : Type 0} (policy : Policy N) (at : ℕ) → three_way sheet.kinds sheet.flags false false at ≡ Tristate.False → (steps : ℕ) → μ sheet (head at) ≤ steps → (notes : N)
      → Fails (read policy sheet steps (head at) notes)
  false_fails policy at f steps le notes =
      go (((all_told (λ job o. Begins {job = job} o) policy sheet (λ ask. Unit {0}) (λ steps. tt) (λ ask _ h job o. step_begins policy h o) steps).with (head at) on_head).with notes)
    where
      go : Ends (λ end trees records. three_way sheet.kinds sheet.flags false false at ≡ Tristate.False → ⊥) Nothing (read policy sheet steps (head at) notes)
          → Fails (read policy sheet steps (head at) notes)
      go (ends_done end trees records after e b) = absurd (b f)
      go (ends_fail cause after e _) = record { cause = cause; after = after; fails = e }
      go (ends_stuck e) = absurd (never_stuck policy sheet (head at) (omega arith) notes steps le e)
