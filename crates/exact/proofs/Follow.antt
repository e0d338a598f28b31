-- Brackets: whatever is derived has its brackets in pairs, and a bracket has one partner. So an expression that begins at `(` or Async and is not followed by `=>`
-- leaves no room for an arrow function's head there. And what may stand after what is derived, and before it. Assumes nothing.
use Prim.Native.Nat.{ℕ, zero, suc, ◌+◌, ◌≤◌}
use mathlib.Core.Path.{◌≡◌, refl, sym, ap, ◌∙◌, subst}
use mathlib.Core.Bool.{Bool, true, false, not}
use mathlib.Core.List.{List}
use native.Mathlib.Omega.{arith}
use native.Mathlib.Decide.{ℕ_discrete}
use lib.Dec.{leb}
use borrow.Author.Tests.{eq-eqb, le-leb, lt-ltb, eqb-true, ne_eqb, leb-false, leb-true}
use Rattle.tokens.specs.Bool.{◌is◌, ◌or◌, ◌and◌}
use Rattle.tokens.specs.Kind.{Async, LParen, Arrow, This, RParen, LBrack, RBrack, LCurly, RCurly, Comma, Colon, Dot, Plus2, Minus2}
use Rattle.tokens.specs.Token.{is_name, is_literal}
use Rattle.operators.specs.Precedence.{level, expression_level}
use Rattle.rows.specs.Tree.{Forest}
use Rattle.grammar.specs.Sheet.{Sheet, token, break_before}
use Rattle.laws.proofs.Readings as Readings
use Rattle.laws.proofs.Readings.{Headed, bare, after_async}
use Rattle.laws.proofs.Balanced as Balance
use Rattle.laws.proofs.Balanced.{side_of, Side, Balanced, none, skip, nest, partner, joined, flat, name_flat, word_flat, literal_flat, operator_flat}
use Rattle.ecma262.specs.Derives as D
use Rattle.ecma262.specs.Derives.{Tok, one_of, OneOf, identifiers, identifier_names, literals, literal_property_names, update_operators, unary_operators, assignment_operators, LeftToRight, Links, Nonterminal, PrimaryExpression, LinkedExpression, Arguments, UpdateExpression, UnaryExpression, TierExpression, CoalesceExpression, ShortCircuitExpression, SimpleTarget, DestructuringAssignmentTarget, Derives, AssignmentExpression}
use Rattle.grammar.specs.Update.{is_update_operator}
use Rattle.grammar.specs.Assignment.{is_async_name}
use Rattle.laws.proofs.Good.{and_left, and_right}
use Rattle.exact.proofs.Terminals.{Operator, line, operator, Of, as_read, literal_tokens, names, unary, updates, words}
use Rattle.exact.proofs.Roots.{not_both, Shaped, in_brackets, in_braces, array_opens, object_opens, target_shape}
use Rattle.exact.specs.Terminals.{is_prefix, is_update}

pub side : {s : Sheet} {at k : ℕ} → Tok s at k → Side s at (side_of k)
side t = Balance.side t.kind_is

module _ {s : Sheet} {at : ℕ} where
  name_side : OneOf identifiers s at → Side s at 0
  name_side t = name_flat (as_read names t).holds

  word_side : OneOf identifier_names s at → Side s at 0
  word_side t = word_flat (as_read words t).holds

  literal_side : OneOf literals s at → Side s at 0
  literal_side t = literal_flat (as_read literal_tokens t).holds

  key_side : OneOf literal_property_names s at → Side s at 0
  key_side t = flat (one_of literal_property_names) refl refl refl refl refl refl t.holds

  prefix_side : OneOf unary_operators s at → Side s at 0
  prefix_side t = flat (one_of unary_operators) refl refl refl refl refl refl t.holds

  update_side : OneOf update_operators s at → Side s at 0
  update_side t = flat (one_of update_operators) refl refl refl refl refl refl t.holds

  compound_side : OneOf assignment_operators s at → Side s at 0
  compound_side t = flat (one_of assignment_operators) refl refl refl refl refl refl t.holds

  operator_side : {x y row : ℕ} {operators : List ℕ} → LeftToRight (TierExpression x) operators (TierExpression y) row → OneOf operators s at → Side s at 0
  operator_side l t = operator_flat 0 (lt-ltb 0 (expression_level (token s at)) (omega (arith, (operator l t).level_is, (line l).low)))

module _ {s : Sheet} where
  one_token : {i : ℕ} → Side s i 0 → Balanced s i (i + 1)
  one_token t = skip t none

  token_two : (i : ℕ) → Side s (i + 1) 0 → Balanced s (i + 1) (i + 2)
  token_two i t = let e : i + 1 + 1 ≡ i + 2 = omega arith in subst (Balanced s (i + 1)) e (one_token t)

  pair : {i p : ℕ} → Side s i 1 → Balanced s (i + 1) p → Side s p 2 → Balanced s i (p + 1)
  pair t a u = nest t a u none

  pair_two : {i : ℕ} (p : ℕ) → Side s i 1 → Balanced s (i + 1) (p + 1) → Side s (p + 1) 2 → Balanced s i (p + 2)
  pair_two {i} p t a u = let e : p + 1 + 1 ≡ p + 2 = omega arith in subst (Balanced s i) e (pair t a u)

-- whatever is derived has its brackets in pairs
pub balanced : {s : Sheet} {x : Nonterminal} {i j : ℕ} {ts : Forest} → Derives s x i j ts → Balanced s i j
unfolding side_of
balanced (D.first_of_list a) = balanced a
balanced (D.next_of_list a b c) = joined (balanced a) (joined (one_token (side b)) (balanced c))
balanced (D.elided a b) = joined (balanced a) (balanced b)
balanced (D.this a) = one_token (side a)
balanced (D.identifier a) = one_token (name_side a)
balanced (D.literal a) = one_token (literal_side a)
balanced (D.array a) = balanced a
balanced (D.object a) = balanced a
balanced (D.parenthesized a b c) = pair (side a) (balanced b) (side c)
balanced (D.array_empty a b c) = pair (side a) (balanced b) (side c)
balanced (D.array_list a b c) = pair (side a) (balanced b) (side c)
balanced (D.array_comma a b c d e) = pair (side a) (joined (balanced b) (joined (one_token (side c)) (balanced d))) (side e)
balanced D.no_elision = none
balanced (D.elision a b) = joined (balanced a) (one_token (side b))
balanced (D.spread a b) = joined (one_token (side a)) (balanced b)
balanced (D.plain_element a) = balanced a
balanced (D.spread_element a) = balanced a
balanced (D.object_empty {i = i} a b) = pair_two i (side a) none (side b)
balanced (D.object_list a b c) = pair (side a) (balanced b) (side c)
balanced (D.object_comma {p = p} a b c d) = pair_two p (side a) (joined (balanced b) (one_token (side c))) (side d)
balanced (D.shorthand a) = one_token (name_side a)
balanced (D.cover_initialized {i = i} a b c) = joined (one_token (name_side a)) (joined (token_two i (side b)) (balanced c))
balanced (D.property a b c) = joined (balanced a) (joined (one_token (side b)) (balanced c))
balanced (D.spread_property a) = balanced a
balanced (D.literal_name a) = one_token (key_side a)
balanced (D.computed_name a b c) = pair (side a) (balanced b) (side c)
balanced (D.primary a) = balanced a
balanced (D.index a b c d) = joined (balanced a) (pair (side b) (balanced c) (side d))
balanced (D.member {p = p} a b c) = joined (balanced a) (joined (one_token (side b)) (token_two p (word_side c)))
balanced (D.call a b) = joined (balanced a) (balanced b)
balanced (D.linked a) = balanced a
balanced (D.no_arguments {i = i} a b) = pair_two i (side a) none (side b)
balanced (D.arguments a b c) = pair (side a) (balanced b) (side c)
balanced (D.arguments_comma {p = p} a b c d) = pair_two p (side a) (joined (balanced b) (one_token (side c))) (side d)
balanced (D.left_hand_side a) = balanced a
balanced (D.postfix a b _) = joined (balanced a) (one_token (update_side b))
balanced (D.prefix a b) = joined (one_token (update_side a)) (balanced b)
balanced (D.update a) = balanced a
balanced (D.unary a b) = joined (one_token (prefix_side a)) (balanced b)
balanced (D.no_power a) = balanced a
balanced (D.power a b c) = joined (balanced a) (joined (one_token (side b)) (balanced c))
balanced (D.no_operation _ b) = balanced b
balanced (D.operation a b c d) = joined (balanced b) (joined (one_token (operator_side a c)) (balanced d))
balanced (D.head_coalesce a) = balanced a
balanced (D.head_or a) = balanced a
balanced (D.coalesce a b c) = joined (balanced a) (joined (one_token (side b)) (balanced c))
balanced (D.short_circuit_or a) = balanced a
balanced (D.short_circuit_coalesce a) = balanced a
balanced (D.short_circuit a) = balanced a
balanced (D.conditional a b c d e) = joined (balanced a) (joined (one_token (side b)) (joined (balanced c) (joined (one_token (side d)) (balanced e))))
balanced (D.no_assignment a) = balanced a
balanced (D.arrow a b _ d) = joined (balanced a) (joined (one_token (side b)) (balanced d))
balanced (D.async_arrow a b _ d) = joined (balanced a) (joined (one_token (side b)) (balanced d))
balanced (D.assign a b c) = joined (balanced a) (joined (one_token (side b)) (balanced c))
balanced (D.compound_assign a b c) = joined (balanced a) (joined (one_token (compound_side b)) (balanced c))
balanced (D.target_name a) = one_token (name_side a)
balanced (D.target_index a b c d) = joined (balanced a) (pair (side b) (balanced c) (side d))
balanced (D.target_member {p = p} a b c) = joined (balanced a) (joined (one_token (side b)) (token_two p (word_side c)))
balanced (D.target_parenthesized a b c) = pair (side a) (balanced b) (side c)
balanced (D.target_simple a) = balanced a
balanced (D.target_pattern a) = balanced a
balanced (D.target_array_empty a b c) = pair (side a) (balanced b) (side c)
balanced (D.target_array_rest a b c) = pair (side a) (balanced b) (side c)
balanced (D.target_array_list a b c) = pair (side a) (balanced b) (side c)
balanced (D.target_array_comma a b c d e) = pair (side a) (joined (balanced b) (joined (one_token (side c)) (balanced d))) (side e)
balanced (D.target_array_list_rest a b c d e) = pair (side a) (joined (balanced b) (joined (one_token (side c)) (balanced d))) (side e)
balanced (D.target_object_empty {i = i} a b) = pair_two i (side a) none (side b)
balanced (D.target_object_rest a b c) = pair (side a) (balanced b) (side c)
balanced (D.target_object_list a b c) = pair (side a) (balanced b) (side c)
balanced (D.target_object_comma {p = p} a b c d) = pair_two p (side a) (joined (balanced b) (one_token (side c))) (side d)
balanced (D.target_object_list_rest a b c d e) = pair (side a) (joined (balanced b) (joined (one_token (side c)) (balanced d))) (side e)
balanced (D.target_element a) = balanced a
balanced (D.target_default a b c) = joined (balanced a) (joined (one_token (side b)) (balanced c))
balanced (D.target_rest a b) = joined (one_token (side a)) (balanced b)
balanced (D.target_shorthand a) = one_token (name_side a)
balanced (D.target_shorthand_default {i = i} a b c) = joined (one_token (name_side a)) (joined (token_two i (side b)) (balanced c))
balanced (D.target_property a b c) = joined (balanced a) (joined (one_token (side b)) (balanced c))
balanced (D.target_rest_property a b) = joined (one_token (side a)) (balanced b)
balanced (D.no_comma a) = balanced a
balanced (D.sequence a) = balanced a
balanced (D.first_comma a b c) = joined (balanced a) (joined (one_token (side b)) (balanced c))
balanced (D.next_comma a b c) = joined (balanced a) (joined (one_token (side b)) (balanced c))
balanced (D.binding_name a) = one_token (name_side a)
balanced (D.binding_pattern a) = balanced a
balanced (D.binding_object_empty {i = i} a b) = pair_two i (side a) none (side b)
balanced (D.binding_object_rest a b c) = pair (side a) (balanced b) (side c)
balanced (D.binding_object_list a b c) = pair (side a) (balanced b) (side c)
balanced (D.binding_object_comma {p = p} a b c d) = pair_two p (side a) (joined (balanced b) (one_token (side c))) (side d)
balanced (D.binding_object_list_rest a b c d e) = pair (side a) (joined (balanced b) (joined (one_token (side c)) (balanced d))) (side e)
balanced (D.binding_array_empty a b c) = pair (side a) (balanced b) (side c)
balanced (D.binding_array_rest a b c) = pair (side a) (balanced b) (side c)
balanced (D.binding_array_list a b c) = pair (side a) (balanced b) (side c)
balanced (D.binding_array_comma a b c d e) = pair (side a) (joined (balanced b) (joined (one_token (side c)) (balanced d))) (side e)
balanced (D.binding_array_list_rest a b c d e) = pair (side a) (joined (balanced b) (joined (one_token (side c)) (balanced d))) (side e)
balanced (D.no_default a) = balanced a
balanced (D.binding_default a b c) = joined (balanced a) (joined (one_token (side b)) (balanced c))
balanced (D.binding_rest a b) = joined (one_token (side a)) (balanced b)
balanced (D.binding_shorthand a) = one_token (name_side a)
balanced (D.binding_shorthand_default {i = i} a b c) = joined (one_token (name_side a)) (joined (token_two i (side b)) (balanced c))
balanced (D.binding_property a b c) = joined (balanced a) (joined (one_token (side b)) (balanced c))
balanced (D.binding_rest_property {i = i} a b) = joined (one_token (side a)) (token_two i (name_side b))
balanced D.no_parameters = none
balanced (D.rest_parameter a) = balanced a
balanced (D.parameters a) = balanced a
balanced (D.parameters_comma a b) = joined (balanced a) (one_token (side b))
balanced (D.parameters_rest a b c) = joined (balanced a) (joined (one_token (side b)) (balanced c))
balanced (D.arrow_formal_parameters a b c) = pair (side a) (balanced b) (side c)
balanced (D.arrow_name a) = one_token (name_side a)
balanced (D.arrow_parameters a) = balanced a
balanced (D.concise_body _ b) = balanced b
balanced (D.async_name {i = i} a b _) = joined (one_token (side a)) (token_two i (name_side b))
balanced (D.async_parameters a _ c) = joined (one_token (side a)) (balanced c)

-- WHERE NO HEAD CAN BE
-- a token is of one kind
pub same_kind : {s : Sheet} {at k l : ℕ} → Tok s at k → Tok s at l → k ≡ l
same_kind t u = sym t.kind_is ∙ u.kind_is

-- a token for which a test holds is of no kind for which it does not
pub of_kind : {s : Sheet} {at : ℕ} (test : ℕ → Bool) (k : ℕ) → test k ≡ false → test (token s at) ≡ true → Tok s at k → ⊥
of_kind test k f t u = not_both (ap test (sym u.kind_is) ∙ t) f

-- `(` at a, and its partner at e
pub record Group (s : Sheet) (a e : ℕ) : Type 0 where
  pub opens : Tok s a LParen
  pub inside : Balanced s (a + 1) e
  pub closes : Side s e 2

-- neither `=>` nor `(` follows
pub record Ends (s : Sheet) (j : ℕ) : Type 0 where
  pub no_arrow : Tok s j Arrow → ⊥
  pub no_paren : Tok s j LParen → ⊥

-- what begins here is no head: neither `(` nor Async, or a group that is not followed by `=>`
pub data Opening (s : Sheet) (i : ℕ) : Type 0 where
  other_opening : (Tok s i LParen → ⊥) → (Tok s i Async → ⊥) → Opening s i
  group_opening : (e : ℕ) → Group s i e → (Tok s (e + 1) Arrow → ⊥) → Opening s i
  async_opening : Tok s i Async → (Tok s (i + 1) LParen → ⊥) → Opening s i
  async_group_opening : (e : ℕ) → Tok s i Async → Group s (i + 1) e → (Tok s (e + 1) Arrow → ⊥) → Opening s i

-- a head that is read leaves no other group there: its `(` has one partner, and the `=>` follows it
head_closes : {s : Sheet} {i q a e : ℕ} → (h : Headed s i q) → h.starts ≡ a → Group s a e → Tok s (e + 1) Arrow
head_closes {s} {e = e} h q g =
    let p = partner h.list.inner (subst (λ (n : ℕ). Balanced s (n + 1) e) (sym q) g.inside) h.list.closer g.closes in
    record { kind_is = subst (λ (n : ℕ). token s n ≡ Arrow) (omega (arith, h.list.past, p)) h.arrow }

pub no_head : {s : Sheet} {i q : ℕ} → Opening s i → Headed s i q → ⊥
no_head {s} {i} {q} o h = go o h.opening
  where
    go : Opening s i → Readings.Opening s i h.starts → ⊥
    go (other_opening n m) (bare e) = n (record { kind_is = subst (λ (a : ℕ). token s a ≡ LParen) e h.opens })
    go (other_opening n m) (after_async t e) = m (record { kind_is = t })
    go (group_opening e g n) (bare x) = n (head_closes h x g)
    go (group_opening e g n) (after_async t x) = omega (arith, g.opens.kind_is, t)
    go (async_opening o n) (bare x) = omega (arith, o.kind_is, subst (λ (a : ℕ). token s a ≡ LParen) x h.opens)
    go (async_opening o n) (after_async t x) = n (record { kind_is = subst (λ (a : ℕ). token s a ≡ LParen) x h.opens })
    go (async_group_opening e o g n) (bare x) = omega (arith, o.kind_is, subst (λ (a : ℕ). token s a ≡ LParen) x h.opens)
    go (async_group_opening e o g n) (after_async t x) = n (head_closes h x g)

-- what an expression begins with, up to j: settled, or a group or Async or a call of Async that ends at j
data Prefix (s : Sheet) (i j : ℕ) : Type 0 where
  settled : Opening s i → Prefix s i j
  at_group : (e : ℕ) → Group s i e → j ≡ e + 1 → Prefix s i j
  at_async : Tok s i Async → j ≡ i + 1 → Prefix s i j
  at_async_group : (e : ℕ) → Tok s i Async → Group s (i + 1) e → j ≡ e + 1 → Prefix s i j

settle : {s : Sheet} {i j : ℕ} → Prefix s i j → Ends s j → Opening s i
settle (settled o) x = o
settle {s} (at_group e g q) x = group_opening e g (λ t. x.no_arrow (subst (λ (n : ℕ). Tok s n Arrow) (sym q) t))
settle {s} (at_async o q) x = async_opening o (λ t. x.no_paren (subst (λ (n : ℕ). Tok s n LParen) (sym q) t))
settle {s} (at_async_group e o g q) x = async_group_opening e o g (λ t. x.no_arrow (subst (λ (n : ℕ). Tok s n Arrow) (sym q) t))

-- the tokens that go on
pub kind_ends : {s : Sheet} {at : ℕ} (k : ℕ) → k is Arrow ≡ false → k is LParen ≡ false → Tok s at k → Ends s at
kind_ends k a b t = record { no_arrow = λ u. not_both (eq-eqb k Arrow (same_kind t u)) a; no_paren = λ u. not_both (eq-eqb k LParen (same_kind t u)) b }

pub test_ends : {s : Sheet} {at : ℕ} (test : ℕ → Bool) → test Arrow ≡ false → test LParen ≡ false → test (token s at) ≡ true → Ends s at
test_ends test a b t = record { no_arrow = of_kind test Arrow a t; no_paren = of_kind test LParen b t }

update_ends : {s : Sheet} {at : ℕ} → OneOf update_operators s at → Ends s at
update_ends t = test_ends (one_of update_operators) refl refl t.holds

pub positive_level : (l tier : ℕ) → 2 ≤ tier → l ≡ tier → leb 1 l ≡ true
positive_level zero tier h e = absurd (omega arith)
positive_level (suc l) tier h e = le-leb 1 (suc l) (omega arith)

operator_ends : {s : Sheet} {at tier : ℕ} → 2 ≤ tier → Operator s at tier → Ends s at
unfolding expression_level level
operator_ends {s} {at} {tier} h t = test_ends (λ k. leb 1 (expression_level k)) refl refl (positive_level (expression_level (token s at)) tier h t.level_is)

-- a token of a kind, or for which a test holds, opens nothing
other_kind : {s : Sheet} {i : ℕ} (k : ℕ) → k is LParen ≡ false → k is Async ≡ false → Tok s i k → Opening s i
other_kind k a b t = other_opening (λ u. not_both (eq-eqb k LParen (same_kind t u)) a) (λ u. not_both (eq-eqb k Async (same_kind t u)) b)

other_test : {s : Sheet} {i : ℕ} (test : ℕ → Bool) → test LParen ≡ false → test Async ≡ false → test (token s i) ≡ true → Opening s i
other_test test a b t = other_opening (of_kind test LParen a t) (of_kind test Async b t)

-- a call
pub arguments_group : {s : Sheet} {i j : ℕ} {ts : Forest} → Derives s Arguments i j ts → (e : ℕ) × Group s i e × (j ≡ e + 1)
unfolding side_of
arguments_group (D.no_arguments {i = i} o c) = (i + 1, record { opens = o; inside = none; closes = side c }, omega arith)
arguments_group (D.arguments {p = p} o d c) = (p, record { opens = o; inside = balanced d; closes = side c }, refl)
arguments_group (D.arguments_comma {p = p} o d t c) = (p + 1, record { opens = o; inside = joined (balanced d) (one_token (side t)); closes = side c }, omega arith)

called : {s : Sheet} {i p j : ℕ} {ts : Forest} → Prefix s i p → Derives s Arguments p j ts → Prefix s i j
called (settled o) d = settled o
called {s = s} {i} {p} {j} (at_async o q) d = let r = arguments_group d in at_async_group r.0 o (subst (λ (n : ℕ). Group s n r.0) q r.1) r.2
called {s = s} (at_group e g q) d =
    let r = arguments_group d in settled (group_opening e g (λ t. omega (arith, same_kind t (subst (λ (n : ℕ). Tok s n LParen) q r.1.opens))))
called {s = s} (at_async_group e o g q) d =
    let r = arguments_group d in settled (async_group_opening e o g (λ t. omega (arith, same_kind t (subst (λ (n : ℕ). Tok s n LParen) q r.1.opens))))

name_prefix : {s : Sheet} {i : ℕ} → OneOf identifiers s i → Prefix s i (i + 1)
unfolding is_name
name_prefix {s} {i} n = by (ℕ_discrete (token s i) Async)
  where
    by : Dec (token s i ≡ Async) → Prefix s i (i + 1)
    by (yes e) = at_async (record { kind_is = e }) refl
    by (no e) = settled (other_opening (of_kind is_name LParen refl (as_read names n).holds) (λ t. e t.kind_is))

module _ {s : Sheet} where
  primary_prefix : {i j : ℕ} {ts : Forest} → Derives s PrimaryExpression i j ts → Prefix s i j
  unfolding side_of
  primary_prefix (D.this t) = settled (other_kind _ refl refl t)
  primary_prefix (D.identifier n) = name_prefix n
  primary_prefix (D.literal t) = settled (other_test (one_of literals) refl refl t.holds)
  primary_prefix (D.array d) = settled (other_kind _ refl refl (array_opens d))
  primary_prefix (D.object d) = settled (other_kind _ refl refl (object_opens d))
  primary_prefix (D.parenthesized {p = p} o d c) = at_group p (record { opens = o; inside = balanced d; closes = side c }) refl

  chain_prefix : {c : Links} {i j : ℕ} {ts : Forest} → Derives s (LinkedExpression c) i j ts → Prefix s i j
  chain_prefix (D.primary d) = primary_prefix d
  chain_prefix (D.index d o e c) = settled (settle (chain_prefix d) (kind_ends _ refl refl o))
  chain_prefix (D.member d o e) = settled (settle (chain_prefix d) (kind_ends _ refl refl o))
  chain_prefix (D.call d e) = called (chain_prefix d) e

  target_prefix : {i j : ℕ} {ts : Forest} → Derives s SimpleTarget i j ts → Prefix s i j
  unfolding side_of
  target_prefix (D.target_name n) = name_prefix n
  target_prefix (D.target_index d o e c) = settled (settle (chain_prefix d) (kind_ends _ refl refl o))
  target_prefix (D.target_member d o e) = settled (settle (chain_prefix d) (kind_ends _ refl refl o))
  target_prefix (D.target_parenthesized {p = p} o d c) = at_group p (record { opens = o; inside = balanced d; closes = side c }) refl

  shaped_opening : {array object i j : ℕ} {ts : Forest} → Shaped s array object i j ts → Opening s i
  shaped_opening (in_brackets o) = other_kind _ refl refl o
  shaped_opening (in_braces o) = other_kind _ refl refl o

  -- what is followed by neither `=>` nor `(` begins with no head
  pub simple_opening : {i j : ℕ} {ts : Forest} → Derives s SimpleTarget i j ts → Ends s j → Opening s i
  simple_opening d x = settle (target_prefix d) x

  pub target_opening : {i j : ℕ} {ts : Forest} → Derives s DestructuringAssignmentTarget i j ts → Ends s j → Opening s i
  target_opening (D.target_simple d) x = simple_opening d x
  target_opening (D.target_pattern d) x = shaped_opening (target_shape d)

  update_opening : {i j : ℕ} {ts : Forest} → Derives s UpdateExpression i j ts → Ends s j → Opening s i
  update_opening (D.left_hand_side (D.linked d)) x = settle (chain_prefix d) x
  update_opening (D.postfix d t l) x = simple_opening d (update_ends t)
  update_opening (D.prefix t d) x = other_test (one_of update_operators) refl refl t.holds

  unary_opening : {i j : ℕ} {ts : Forest} → Derives s UnaryExpression i j ts → Ends s j → Opening s i
  unary_opening (D.update d) x = update_opening d x
  unary_opening (D.unary t d) x = other_test (one_of unary_operators) refl refl t.holds

  tier_opening : {tier i j : ℕ} {ts : Forest} → Derives s (TierExpression tier) i j ts → Ends s j → Opening s i
  tier_opening (D.no_power d) x = unary_opening d x
  tier_opening (D.power d t e) x = update_opening d (kind_ends _ refl refl t)
  tier_opening (D.no_operation l d) x = tier_opening d x
  tier_opening (D.operation l d t e) x = tier_opening d (operator_ends (line l).low (operator l t))

  coalesce_opening : {i j : ℕ} {ts : Forest} → Derives s CoalesceExpression i j ts → Opening s i
  coalesce_opening (D.coalesce (D.head_coalesce d) t e) = coalesce_opening d
  coalesce_opening (D.coalesce (D.head_or d) t e) = tier_opening d (kind_ends _ refl refl t)

  pub short_circuit_opening : {i j : ℕ} {ts : Forest} → Derives s ShortCircuitExpression i j ts → Ends s j → Opening s i
  short_circuit_opening (D.short_circuit_or d) x = tier_opening d x
  short_circuit_opening (D.short_circuit_coalesce d) x = coalesce_opening d

-- AFTER
-- what closes an AssignmentExpression: a closing bracket, a comma, a colon, or the end
abbrev pub is_closer : ℕ → Bool
is_closer k = k is 0 or k is RParen or k is RBrack or k is RCurly or k is Comma or k is Colon

pub record Closed (s : Sheet) (j : ℕ) : Type 0 where
  pub closes : is_closer (token s j) ≡ true

pub closed_by : {s : Sheet} {j : ℕ} (k : ℕ) → is_closer k ≡ true → Tok s j k → Closed s j
closed_by k e t = record { closes = ap is_closer t.kind_is ∙ e }

-- a token for which one test holds is no token of a kind for which it does not
pub test_not : (n : ℕ) (test : ℕ → Bool) (k : ℕ) → test k ≡ false → test n ≡ true → n is k ≡ false
test_not n test k f t = ne_eqb n k (λ e. not_both (ap test (sym e) ∙ t) f)

-- a test that holds of no closer does not hold of what closes
pub closed_test : {s : Sheet} {j : ℕ} (test : ℕ → Bool) → test 0 ≡ false → test RParen ≡ false → test RBrack ≡ false → test RCurly ≡ false → test Comma ≡ false → test Colon ≡ false → Closed s j
    → test (token s j) ≡ false
closed_test {s} {j} test a b c d e f x = go (test (token s j)) refl
  where
    go : (v : Bool) → test (token s j) ≡ v → v ≡ false
    go false q = refl
    go true q =
        absurd (not_both x.closes
        (rw (test_not (token s j) test 0 a q, test_not (token s j) test RParen b q, test_not (token s j) test RBrack c q, test_not (token s j) test RCurly d q, test_not (token s j) test Comma e q, test_not (token s j) test Colon f q)))

-- no link and no postfix operator follows
pub record Tail (s : Sheet) (j : ℕ) : Type 0 where
  pub no_dot : token s j is Dot ≡ false
  pub no_brack : token s j is LBrack ≡ false
  pub no_paren : token s j is LParen ≡ false
  pub no_postfix : is_update_operator (token s j) and not (break_before s j) ≡ false

pub tail_by : {s : Sheet} {j : ℕ} (test : ℕ → Bool) → test Dot ≡ false → test LBrack ≡ false → test LParen ≡ false → test Plus2 ≡ false → test Minus2 ≡ false → test (token s j) ≡ true → Tail s j
unfolding is_update_operator
tail_by {s} {j} test a b c d e t =
    record {
      no_dot = test_not (token s j) test Dot a t;
      no_brack = test_not (token s j) test LBrack b t;
      no_paren = test_not (token s j) test LParen c t;
      no_postfix = rw (test_not (token s j) test Plus2 d t, test_not (token s j) test Minus2 e t);
    }

pub tail_kind : {s : Sheet} {j : ℕ} (k : ℕ) → k is Dot ≡ false → k is LBrack ≡ false → k is LParen ≡ false → k is Plus2 ≡ false → k is Minus2 ≡ false → Tok s j k → Tail s j
unfolding is_update_operator
tail_kind k a b c d e t = record { no_dot = rw t.kind_is a; no_brack = rw t.kind_is b; no_paren = rw t.kind_is c; no_postfix = rw (t.kind_is, d, e) }

pub closed_tail : {s : Sheet} {j : ℕ} → Closed s j → Tail s j
closed_tail x = tail_by is_closer refl refl refl refl refl x.closes

pub closed_level : {s : Sheet} {j : ℕ} → Closed s j → expression_level (token s j) ≡ 0
unfolding expression_level level
closed_level {s} {j} x =
    let e : leb 1 (expression_level (token s j)) ≡ false = closed_test (λ k. leb 1 (expression_level k)) refl refl refl refl refl refl x in
    let l = leb-false 1 (expression_level (token s j)) e in omega arith

pub operator_tail : {s : Sheet} {j tier : ℕ} → 2 ≤ tier → Operator s j tier → Tail s j
unfolding expression_level level
operator_tail {s} {j} {tier} h t = tail_by (λ k. leb 1 (expression_level k)) refl refl refl refl refl (positive_level (expression_level (token s j)) tier h t.level_is)

pub closed_ends : {s : Sheet} {j : ℕ} → Closed s j → Ends s j
closed_ends x = record { no_arrow = of_kind is_closer Arrow refl x.closes; no_paren = of_kind is_closer LParen refl x.closes }

-- BEFORE
-- what begins an operand, and what begins an expression
unfoldable pub is_operand : ℕ → Bool
is_operand k = is_name k or k is This or is_literal k or k is LParen or k is LBrack or k is LCurly

unfoldable pub is_start : ℕ → Bool
is_start k = is_operand k or is_prefix k or is_update k

pub record Operand (s : Sheet) (i : ℕ) : Type 0 where
  pub begins : is_operand (token s i) ≡ true

pub record Start (s : Sheet) (i : ℕ) : Type 0 where
  pub starts : is_start (token s i) ≡ true

or_left : (a b : Bool) → a ≡ true → a or b ≡ true
or_left true b e = refl
or_left false b e = let z : ◌≡◌ {A = ℕ} 0 1 = cc in absurd (omega arith)

or_right : (a b : Bool) → b ≡ true → a or b ≡ true
or_right true b e = refl
or_right false b e = e

pub operand_kind : {s : Sheet} {i : ℕ} (k : ℕ) → is_operand k ≡ true → Tok s i k → Operand s i
operand_kind k e t = record { begins = ap is_operand t.kind_is ∙ e }

pub operand_name : {s : Sheet} {i : ℕ} → Of is_name s i → Operand s i
unfolding is_operand
operand_name n = record { begins = or_left _ _ n.holds }

operand_literal : {s : Sheet} {i : ℕ} → Of is_literal s i → Operand s i
unfolding is_operand
operand_literal {s} {i} n = record { begins = or_right (is_name (token s i)) _ (or_right (token s i is This) _ (or_left _ _ n.holds)) }

pub as_start : {s : Sheet} {i : ℕ} → Operand s i → Start s i
unfolding is_start
as_start x = record { starts = or_left _ _ x.begins }

start_prefix : {s : Sheet} {i : ℕ} → Of is_prefix s i → Start s i
unfolding is_start
start_prefix {s} {i} t = record { starts = or_right (is_operand (token s i)) _ (or_left _ _ t.holds) }

start_update : {s : Sheet} {i : ℕ} → Of is_update s i → Start s i
unfolding is_start
start_update {s} {i} t = record { starts = or_right (is_operand (token s i)) _ (or_right (is_prefix (token s i)) _ t.holds) }

module _ {s : Sheet} where
  operand_primary : {i j : ℕ} {ts : Forest} → Derives s PrimaryExpression i j ts → Operand s i
  unfolding is_operand is_name is_literal
  operand_primary (D.this t) = operand_kind _ refl t
  operand_primary (D.identifier n) = operand_name (as_read names n)
  operand_primary (D.literal t) = operand_literal (as_read literal_tokens t)
  operand_primary (D.array d) = operand_kind _ refl (array_opens d)
  operand_primary (D.object d) = operand_kind _ refl (object_opens d)
  operand_primary (D.parenthesized o d c) = operand_kind _ refl o

  pub operand_chain : {c : Links} {i j : ℕ} {ts : Forest} → Derives s (LinkedExpression c) i j ts → Operand s i
  operand_chain (D.primary d) = operand_primary d
  operand_chain (D.index d o e c) = operand_chain d
  operand_chain (D.member d o e) = operand_chain d
  operand_chain (D.call d e) = operand_chain d

  pub operand_simple : {i j : ℕ} {ts : Forest} → Derives s SimpleTarget i j ts → Operand s i
  unfolding is_operand is_name is_literal
  operand_simple (D.target_name n) = operand_name (as_read names n)
  operand_simple (D.target_index d o e c) = operand_chain d
  operand_simple (D.target_member d o e) = operand_chain d
  operand_simple (D.target_parenthesized o d c) = operand_kind _ refl o

  operand_shaped : {array object i j : ℕ} {ts : Forest} → Shaped s array object i j ts → Operand s i
  unfolding is_operand is_name is_literal
  operand_shaped (in_brackets o) = operand_kind _ refl o
  operand_shaped (in_braces o) = operand_kind _ refl o

  pub operand_target : {i j : ℕ} {ts : Forest} → Derives s DestructuringAssignmentTarget i j ts → Operand s i
  operand_target (D.target_simple d) = operand_simple d
  operand_target (D.target_pattern d) = operand_shaped (target_shape d)

  start_of_update : {i j : ℕ} {ts : Forest} → Derives s UpdateExpression i j ts → Start s i
  start_of_update (D.left_hand_side (D.linked d)) = as_start (operand_chain d)
  start_of_update (D.postfix d t l) = as_start (operand_simple d)
  start_of_update (D.prefix t d) = start_update (as_read updates t)

  start_of_unary : {i j : ℕ} {ts : Forest} → Derives s UnaryExpression i j ts → Start s i
  start_of_unary (D.update d) = start_of_update d
  start_of_unary (D.unary t d) = start_prefix (as_read unary t)

  start_of_tier : {tier i j : ℕ} {ts : Forest} → Derives s (TierExpression tier) i j ts → Start s i
  start_of_tier (D.no_power d) = start_of_unary d
  start_of_tier (D.power d t e) = start_of_update d
  start_of_tier (D.no_operation l d) = start_of_tier d
  start_of_tier (D.operation l d t e) = start_of_tier d

  start_of_coalesce : {i j : ℕ} {ts : Forest} → Derives s CoalesceExpression i j ts → Start s i
  start_of_coalesce (D.coalesce (D.head_coalesce d) t e) = start_of_coalesce d
  start_of_coalesce (D.coalesce (D.head_or d) t e) = start_of_tier d

  start_of_short_circuit : {i j : ℕ} {ts : Forest} → Derives s ShortCircuitExpression i j ts → Start s i
  start_of_short_circuit (D.short_circuit_or d) = start_of_tier d
  start_of_short_circuit (D.short_circuit_coalesce d) = start_of_coalesce d

  start_of_parameters : {i j : ℕ} {ts : Forest} → Derives s D.ArrowParameters i j ts → Start s i
  unfolding is_operand is_name is_literal
  start_of_parameters (D.arrow_name n) = as_start (operand_name (as_read names n))
  start_of_parameters (D.arrow_parameters (D.arrow_formal_parameters o d c)) = as_start (operand_kind _ refl o)

  start_of_async : {i j : ℕ} {ts : Forest} → Derives s D.AsyncArrowHead i j ts → Start s i
  unfolding is_operand is_name is_literal
  start_of_async (D.async_name t n l) = as_start (operand_kind _ refl t)
  start_of_async (D.async_parameters t l d) = as_start (operand_kind _ refl t)

  pub start_of_assignment : {i j : ℕ} {ts : Forest} → Derives s AssignmentExpression i j ts → Start s i
  start_of_assignment (D.no_assignment (D.short_circuit d)) = start_of_short_circuit d
  start_of_assignment (D.no_assignment (D.conditional d t e u f)) = start_of_short_circuit d
  start_of_assignment (D.arrow d t l e) = start_of_parameters d
  start_of_assignment (D.async_arrow d t l e) = start_of_async d
  start_of_assignment (D.assign d t e) = as_start (operand_target d)
  start_of_assignment (D.compound_assign d t e) = as_start (operand_simple d)

-- A NAME AFTER A NAME
-- where a name begins an expression that goes on, what follows the name is no name
pub record Second (s : Sheet) (i j : ℕ) : Type 0 where
  pub alone : is_name (token s i) ≡ true → is_name (token s (i + 1)) ≡ true → j ≡ i + 1

-- what does not begin with a name, and what goes on with something else than a name
no_name : {s : Sheet} {i j : ℕ} (k : ℕ) → is_name k ≡ false → Tok s i k → Second s i j
no_name k f t = record { alone = λ a b. absurd (not_both a (ap is_name t.kind_is ∙ f)) }

no_name_test : {s : Sheet} {i j : ℕ} → is_name (token s i) ≡ false → Second s i j
no_name_test f = record { alone = λ a b. absurd (not_both a f) }

goes_on : {s : Sheet} {i p j : ℕ} → Second s i p → is_name (token s p) ≡ false → Second s i j
goes_on {s} x f = record { alone = λ a b. absurd (not_both b (subst (λ (n : ℕ). is_name (token s n) ≡ false) (x.alone a b) f)) }

kind_no_name : {s : Sheet} {at : ℕ} (k : ℕ) → is_name k ≡ false → Tok s at k → is_name (token s at) ≡ false
kind_no_name k f t = ap is_name t.kind_is ∙ f

-- a token for which a test holds that holds of no name
nameless : (n : ℕ) (test : ℕ → Bool) → test 1 ≡ false → test 2 ≡ false → test 3 ≡ false → test 4 ≡ false → test 5 ≡ false → test n ≡ true → is_name n ≡ false
unfolding is_name
nameless n test a b c d e t = go (is_name (n)) refl
  where
    differs : (k : ℕ) → test k ≡ false → n ≡ k → ⊥
    differs k f q = not_both (ap test (sym q) ∙ t) f

    go : (v : Bool) → is_name (n) ≡ v → v ≡ false
    go false q = refl
    go true q =
        let l : 1 ≤ n = leb-true 1 (n) (and_left (leb 1 (n)) (leb (n) 5) q) in
        let u : n ≤ 5 = leb-true (n) 5 (and_right (leb 1 (n)) (leb (n) 5) q) in
        let n1 = differs 1 a in let n2 = differs 2 b in let n3 = differs 3 c in let n4 = differs 4 d in let n5 = differs 5 e in
        absurd (omega arith)

module _ {s : Sheet} where
  second_primary : {i j : ℕ} {ts : Forest} → Derives s PrimaryExpression i j ts → Second s i j
  unfolding is_name is_literal
  second_primary (D.this t) = no_name _ refl t
  second_primary (D.identifier n) = record { alone = λ a b. refl }
  second_primary (D.literal {i = i} t) = no_name_test (nameless (token s i) (one_of literals) refl refl refl refl refl t.holds)
  second_primary (D.array d) = no_name _ refl (array_opens d)
  second_primary (D.object d) = no_name _ refl (object_opens d)
  second_primary (D.parenthesized o d c) = no_name _ refl o

  second_chain : {c : Links} {i j : ℕ} {ts : Forest} → Derives s (LinkedExpression c) i j ts → Second s i j
  unfolding is_name
  second_chain (D.primary d) = second_primary d
  second_chain (D.index d o e c) = goes_on (second_chain d) (kind_no_name _ refl o)
  second_chain (D.member d o e) = goes_on (second_chain d) (kind_no_name _ refl o)
  second_chain (D.call d e) = goes_on (second_chain d) (kind_no_name _ refl (arguments_group e).1.opens)

  pub second_simple : {i j : ℕ} {ts : Forest} → Derives s SimpleTarget i j ts → Second s i j
  unfolding is_name
  second_simple (D.target_name n) = record { alone = λ a b. refl }
  second_simple (D.target_index d o e c) = goes_on (second_chain d) (kind_no_name _ refl o)
  second_simple (D.target_member d o e) = goes_on (second_chain d) (kind_no_name _ refl o)
  second_simple (D.target_parenthesized o d c) = no_name _ refl o

  second_shaped : {array object i j : ℕ} {ts : Forest} → Shaped s array object i j ts → Second s i j
  unfolding is_name
  second_shaped (in_brackets o) = no_name _ refl o
  second_shaped (in_braces o) = no_name _ refl o

  pub second_target : {i j : ℕ} {ts : Forest} → Derives s DestructuringAssignmentTarget i j ts → Second s i j
  second_target (D.target_simple d) = second_simple d
  second_target (D.target_pattern d) = second_shaped (target_shape d)

  second_update : {i j : ℕ} {ts : Forest} → Derives s UpdateExpression i j ts → Second s i j
  second_update (D.left_hand_side (D.linked d)) = second_chain d
  second_update (D.postfix {p = p} d t l) = goes_on (second_simple d) (nameless (token s p) (one_of update_operators) refl refl refl refl refl t.holds)
  second_update (D.prefix {i = i} t d) = no_name_test (nameless (token s i) (one_of update_operators) refl refl refl refl refl t.holds)

  second_unary : {i j : ℕ} {ts : Forest} → Derives s UnaryExpression i j ts → Second s i j
  second_unary (D.update d) = second_update d
  second_unary (D.unary {i = i} t d) = no_name_test (nameless (token s i) (one_of unary_operators) refl refl refl refl refl t.holds)

  second_tier : {tier i j : ℕ} {ts : Forest} → Derives s (TierExpression tier) i j ts → Second s i j
  unfolding is_name expression_level level
  second_tier (D.no_power d) = second_unary d
  second_tier (D.power d t e) = goes_on (second_update d) (kind_no_name _ refl t)
  second_tier (D.no_operation l d) = second_tier d
  second_tier (D.operation {p = p} l d t e) =
      goes_on (second_tier d) (nameless (token s p) (λ k. leb 1 (expression_level k)) refl refl refl refl refl (positive_level (expression_level (token s p)) _ (line l).low (operator l t).level_is))

  second_coalesce : {i j : ℕ} {ts : Forest} → Derives s CoalesceExpression i j ts → Second s i j
  unfolding is_name
  second_coalesce (D.coalesce (D.head_coalesce d) t e) = goes_on (second_coalesce d) (kind_no_name _ refl t)
  second_coalesce (D.coalesce (D.head_or d) t e) = goes_on (second_tier d) (kind_no_name _ refl t)

  pub second_short_circuit : {i j : ℕ} {ts : Forest} → Derives s ShortCircuitExpression i j ts → Second s i j
  second_short_circuit (D.short_circuit_or d) = second_tier d
  second_short_circuit (D.short_circuit_coalesce d) = second_coalesce d

-- so no async arrow function by name begins there
pub no_async_name : {s : Sheet} {i j : ℕ} → Second s i j → is_name (token s j) ≡ false → is_async_name s i ≡ false
unfolding is_async_name is_name
no_async_name {s} {i} {j} x f = go (token s i is Async) (is_name (token s (i + 1))) refl refl
  where
    go : (a b : Bool) → token s i is Async ≡ a → is_name (token s (i + 1)) ≡ b → a and b and not (break_before s (i + 1)) and token s (i + 2) is Arrow ≡ false
    go false b p q = refl
    go true false p q = refl
    go true true p q =
        let n : is_name (token s i) ≡ true = ap is_name (eqb-true (token s i) Async p) in
        absurd (not_both q (subst (λ (m : ℕ). is_name (token s m) ≡ false) (x.alone n q) f))

pub closed_no_name : {s : Sheet} {j : ℕ} → Closed s j → is_name (token s j) ≡ false
unfolding is_name
closed_no_name x = closed_test is_name refl refl refl refl refl refl x
