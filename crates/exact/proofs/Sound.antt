-- SOUND: every reading that is done with no record, under any policy, is derived.
-- What a nonterminal of the reader means is `Meant`; the statements stand at the end.
-- Assumes nothing.
use Rattle.std.specs.Prelude.{if◌then◌else◌}
use Prim.Native.Nat.{ℕ, zero, suc, ◌+◌, ◌≤◌, ◌<◌}
use mathlib.Core.Path.{◌≡◌, refl, sym, ap, ◌∙◌, subst}
use mathlib.Core.Bool.{Bool, true, false, not}
use mathlib.Core.List.{List, [], ◌∷◌, ◌++◌}
use native.Mathlib.Omega.{arith}
use native.Mathlib.Decide.{ℕ_discrete}
use lib.Dec.{ltb, leb}
use borrow.Author.Tests.{eqb-true, eqb-false, ne_eqb, eq-eqb, ltb-true, ltb-false, leb-true, le-leb}
use lib.ListN.{length}
use Rattle.tokens.specs.Bool.{◌is◌, ◌or◌, ◌and◌}
use Rattle.tokens.specs.Kind.{Async, LParen, RParen, LBrack, RBrack, LCurly, RCurly, Comma, Colon, Question, Dot3, Arrow, Question2, Star2, Eq, PlusEq, Star2Eq}
use Rattle.tokens.specs.Token.{is_name, is_word, is_literal}
use Rattle.operators.specs.Precedence.{level, expression_level}
use Rattle.rows.specs.Tree.{Tree, Forest, node, nil, cons, one, join, kind_of, mark_of, kids_of}
use Rattle.rows.specs.Row as Row
use Rattle.rows.specs.Record.{Record, mixed_coalesce, rest_initializer, break_before_arrow, shorthand_initializer}
use Rattle.rows.proofs.Rows.{join_nil, join_assoc}
use Rattle.conversion.specs.Conversion.{any, simple}
use Rattle.grammar.specs.Sheet.{Sheet, token, break_before, done, Part, first_tree, tree, leaf, ◌>>=◌, yield}
use Rattle.grammar.specs.Job as J
use Rattle.grammar.specs.Job.{Job, Asks, expression, binding_element}
use Rattle.grammar.specs.Primary.{parenthesized_of, primary_of, elements_of, properties_of, shorthand_of, property_of, key_of, spread_of}
use Rattle.grammar.specs.LeftHandSide.{left_hand_side_of, links_of, arguments_of}
use Rattle.grammar.specs.Update.{is_unary_operator, is_update_operator, converted, unary_of, postfix_of}
use Rattle.grammar.specs.Binary.{operation_kind, right_floor, is_or_and, operation_records, binary_of, operators_of}
use Rattle.grammar.specs.Assignment.{is_assignment_operator, is_async_name, value_of, assign_of, conditional_of, after_binary}
use Rattle.grammar.specs.Comma.{expression_of, sequence_of}
use Rattle.grammar.specs.Binding.{binding_of, binding_element_of, binding_elements_of, binding_properties_of, binding_shorthand_of, binding_property_of, binding_rest_of}
use Rattle.grammar.specs.Arrow.{Policy, arrow_of, assignment_of, parenthesized_head_of, head_of, parameters_of, body_of}
use Rattle.grammar.specs.Step.{step, read, plenty}
use Rattle.laws.proofs.Good.{Reads, Answers, Preserved, good, good_done, Stands, test, token_test, chooses, notes, and_left, and_right, came}
use Rattle.laws.proofs.Bounds.{Any, Nothing}
use Rattle.ecma262.specs.Derives as D
use Rattle.ecma262.specs.Derives.{Tok, OneOf, SameLine, identifiers, assignment_operators, Links, Nonterminal, PrimaryExpression, ArrayLiteral, Elision, SpreadElement, Element, ObjectLiteral, PropertyDefinition, PropertyName, LinkedExpression, LeftHandSideExpression, UpdateExpression, UnaryExpression, TierExpression, CoalesceExpressionHead, CoalesceExpression, ShortCircuitExpression, ConditionalExpression, AssignmentExpression, SimpleTarget, DestructuringAssignmentTarget, Commas, Expression, Binding, BindingPattern, BindingElement, BindingRestElement, BindingProperty, BindingRestProperty, FormalParameters, ArrowFormalParameters, ArrowParameters, AsyncArrowHead, ConciseBody, CallExpression, ends_in_spread, array_row, object_row, Derives, covers_nothing, cover_nothing, Derived}
use Rattle.grammar.specs.Reading.{unconverted, unconverteds, whole, reading}
use Rattle.exact.proofs.Terminals.{levels, is_power, is_coalesce, power_floor, other_floor, row_of_tier, Operator, line, operator, tier_up, operation, as_printed, compounds, keys, literal_tokens, names, unary, updates, words}
use Rattle.exact.specs.Terminals.{tier_row, is_key, is_prefix, is_update, is_compound}
use Rattle.exact.proofs.Roots.{NameAt, not_both, root_primary, root_chain, root_left_hand_side, root_unary, root_short_circuit, root_assignment, spread_last, Begun, none_yet, after_comma, one_more, BegunElided, only_holes, after_list, one_hole_more, one_element_more, list_and_comma, root_expression, Silent, silent, said, Means, follow, trying, saying, giving, none, turning, hence, Shaped, in_brackets, in_braces, binding_shape}
use Rattle.exact.proofs.Convert.{as_target, as_simple_target, made}

-- WHAT IS MEANT
-- the `=>` at a place and a body, after parameters
pub record Arrowed (s : Sheet) (kind i p : ℕ) (parameters : Forest) (j : ℕ) (ts : Forest) : Type 0 where
  pub line : SameLine s p
  pub inner : Forest
  pub body : Derives s ConciseBody (p + 1) j inner
  pub is_row : ts ≡ one (node kind p i j (join parameters inner))

-- what the assignment level is past a head: no arrow function with parameters in parentheses
pub data Value (s : Sheet) (i j : ℕ) (ts : Forest) : Type 0 where
  value_conditional : Derives s ConditionalExpression i j ts → Value s i j ts
  value_assign : (p : ℕ) (us vs : Forest) → Derives s DestructuringAssignmentTarget i p us → Tok s p Eq → Derives s AssignmentExpression (p + 1) j vs
      → ts ≡ one (node Row.Assign p i j (join us vs)) → Value s i j ts
  value_compound : (p : ℕ) (us vs : Forest) → Derives s SimpleTarget i p us → OneOf assignment_operators s p → Derives s AssignmentExpression (p + 1) j vs
      → ts ≡ one (node Row.CompoundAssign p i j (join us vs)) → Value s i j ts
  value_arrow : OneOf identifiers s i → Tok s (i + 1) Arrow → Arrowed s Row.Arrow i (i + 1) (one (leaf Row.BindingName i)) j ts → Value s i j ts
  value_async_arrow : Tok s i Async → OneOf identifiers s (i + 1) → SameLine s (i + 1) → Tok s (i + 2) Arrow
      → Arrowed s Row.AsyncArrow i (i + 2) (one (leaf Row.BindingName (i + 1))) j ts → Value s i j ts

-- a head: parameters in parentheses and the `=>` after them
pub data Head (s : Sheet) (i j : ℕ) (ts : Forest) : Type 0 where
  plain_head : Tok s i LParen → Derives s ArrowFormalParameters i j ts → Tok s j Arrow → Head s i j ts
  async_head : Tok s i Async → SameLine s (i + 1) → Derives s ArrowFormalParameters (i + 1) j ts → Tok s j Arrow → Head s i j ts

-- the nonterminal of what is read above a level
abbrev pub above : ℕ → Nonterminal
above zero = ShortCircuitExpression
above (suc floor) = TierExpression (suc (suc floor))

-- a derivation up to where no operator above the level follows
pub record Upto (s : Sheet) (floor i j : ℕ) (ts : Forest) : Type 0 where
  pub part : Derives s (above floor) i j ts
  pub rest : expression_level (token s j) ≤ floor

-- what stands left of operators above a level, and which operators may follow it
pub data Left (s : Sheet) (floor i at : ℕ) (ts : Forest) : Type 0 where
  left_unary : Derives s UnaryExpression i at ts → Left s floor i at ts
  left_tier : (l : ℕ) → 2 ≤ l → floor < l → l ≤ 12 → expression_level (token s at) ≤ l → expression_level (token s at) ≤ 11 → Derives s (TierExpression l) i at ts → Left s floor i at ts
  left_coalesce : floor ≡ 0 → expression_level (token s at) ≤ 1 → Derives s CoalesceExpression i at ts → Left s floor i at ts

-- the parts of a Sequence so far: the first, before its comma, or two and more
pub data Parts (s : Sheet) (i comma at : ℕ) (ts : Forest) : Type 0 where
  one_part : Derives s AssignmentExpression i comma ts → Tok s comma Comma → at ≡ comma → Parts s i comma at ts
  more_parts : Derives s (Commas comma) i at ts → Parts s i comma at ts

-- a callee, its `(`, and the arguments so far
pub record Calling (s : Sheet) (i at : ℕ) (so_far : Forest) : Type 0 where
  pub links : Links
  pub place : ℕ
  pub callee : Forest
  pub given : Forest
  pub is_callee : Derives s (LinkedExpression links) i place callee
  pub opens : Tok s place LParen
  pub begun : Begun s Element (place + 1) at given
  pub are : so_far ≡ join callee given

module _ (s : Sheet) where
  abbrev pub Meant : Job → ℕ → Forest → Type 0
  Meant (J.expression at) p ts = Derives s Expression at p ts
  Meant (J.sequence first comma at so_far) p ts = Parts s first comma at so_far → Derives s Expression first p ts
  Meant (J.assignment at) p ts = Derives s AssignmentExpression at p ts
  Meant (J.value at) p ts = Value s at p ts
  Meant (J.assign first at left) p ts = is_assignment_operator (token s at) ≡ true → Derives s ShortCircuitExpression first at (one left) → Value s first p ts
  Meant (J.conditional first at test) p ts = Tok s at Question → Derives s ShortCircuitExpression first at (one test) → Derives s ConditionalExpression first p ts
  Meant (J.binary floor at) p ts = floor ≤ 11 → Upto s floor at p ts
  Meant (J.operators floor first at left) p ts = floor ≤ 11 → Left s floor first at (one left) → Upto s floor first p ts
  Meant (J.unary at) p ts = Derives s UnaryExpression at p ts
  Meant (J.postfix at) p ts = Derives s UpdateExpression at p ts
  Meant (J.left_hand_side at) p ts = Derives s LeftHandSideExpression at p ts
  Meant (J.links first at left) p ts = (c : Links) → Derives s (LinkedExpression c) first at (one left) → Derives s LeftHandSideExpression first p ts
  Meant (J.arguments first at so_far) p ts = Calling s first at so_far → Derives s CallExpression first p ts
  Meant (J.primary at) p ts = Derives s PrimaryExpression at p ts
  Meant (J.elements first at kind so_far) p ts = Tok s first LBrack → BegunElided s Element (first + 1) at so_far → kind ≡ array_row so_far → Derives s ArrayLiteral first p ts
  Meant (J.properties first at kind so_far) p ts = Tok s first LCurly → Begun s PropertyDefinition (first + 1) at so_far → kind ≡ object_row so_far → Derives s ObjectLiteral first p ts
  Meant (J.property at) p ts = Derives s PropertyDefinition at p ts
  Meant (J.key at) p ts = Derives s PropertyName at p ts
  Meant (J.spread at) p ts = Tok s at Dot3 → Derives s SpreadElement at p ts
  Meant (J.binding at) p ts = Derives s Binding at p ts
  Meant (J.binding_element at) p ts = Derives s BindingElement at p ts
  Meant (J.binding_elements first at so_far) p ts = Tok s first LBrack → BegunElided s BindingElement (first + 1) at so_far → Derives s BindingPattern first p ts
  Meant (J.binding_properties first at so_far) p ts = Tok s first LCurly → Begun s BindingProperty (first + 1) at so_far → Derives s BindingPattern first p ts
  Meant (J.binding_property at) p ts = Derives s BindingProperty at p ts
  Meant (J.binding_rest at) p ts = Tok s at Dot3 → Derives s BindingRestElement at p ts
  Meant (J.head at) p ts = Head s at p ts
  Meant (J.parameters at so_far) p ts = (i : ℕ) → Tok s i LParen → Begun s BindingElement (i + 1) at so_far → Derives s ArrowFormalParameters i p ts
  Meant (J.body kind first at so_far) p ts = Arrowed s kind first at so_far p ts

  -- good: what is meant, where the records fit
  abbrev pub GoodMeant : Job → ℕ → Forest → List Record → Type 0
  GoodMeant job = Means (Meant job)

-- TOKENS
tok : {s : Sheet} {at kind : ℕ} → Stands s at kind → Tok s at kind
tok t = record { kind_is = t.kind_is }

tok_eq : {s : Sheet} (at kind : ℕ) → token s at is kind ≡ true → Tok s at kind
tok_eq at kind e = record { kind_is = eqb-true _ _ e }

-- a token is not there and there
clash : {s : Sheet} {at kind : ℕ} → Tok s at kind → token s at is kind ≡ false → ⊥
clash {s} {at} {kind} t e = not_both (eq-eqb _ _ t.kind_is) e

not_true : (b : Bool) → not b ≡ true → b ≡ false
not_true false e = refl
not_true true e = sym e

-- ARROWS
arrow_of_name : {s : Sheet} {i p j : ℕ} {params ts : Forest} → Derives s ArrowParameters i p params → Tok s p Arrow → Arrowed s Row.Arrow i p params j ts → Derives s AssignmentExpression i j ts
arrow_of_name d t a = rw a.is_row (D.arrow d t a.line a.body)

arrow_of_async : {s : Sheet} {i p j : ℕ} {params ts : Forest} → Derives s AsyncArrowHead i p params → Tok s p Arrow → Arrowed s Row.AsyncArrow i p params j ts → Derives s AssignmentExpression i j ts
arrow_of_async d t a = rw a.is_row (D.async_arrow d t a.line a.body)

-- what is past a head is an AssignmentExpression
pub as_assignment : {s : Sheet} {i j : ℕ} {ts : Forest} → Value s i j ts → Derives s AssignmentExpression i j ts
as_assignment (value_conditional d) = D.no_assignment d
as_assignment (value_assign p us vs d t e q) = rw q (D.assign d t e)
as_assignment (value_compound p us vs d t e q) = rw q (D.compound_assign d t e)
as_assignment (value_arrow n t a) = arrow_of_name (D.arrow_name n) t a
as_assignment (value_async_arrow t n l u a) = arrow_of_async (D.async_name t n l) u a

-- OPERATORS
-- a tier holds of every looser one
pub lower : {s : Sheet} {i j : ℕ} {ts : Forest} (l m : ℕ) → 2 ≤ l → l ≤ m → m ≤ 12 → Derives s (TierExpression m) i j ts → Derives s (TierExpression l) i j ts
lower l zero h le top d = absurd (omega arith)
lower {s} {i} {j} {ts} l (suc m) h le top d = go (ℕ_discrete (suc m) l) (λ k. lower l m h k (omega arith))
  where
    go : Dec (suc m ≡ l) → (l ≤ m → Derives s (TierExpression m) i j ts → Derives s (TierExpression l) i j ts) → Derives s (TierExpression l) i j ts
    go (yes e) f = rw e at d
    go (no e) f = f (omega arith) (tier_up (omega arith) (omega arith) d)

module _ {s : Sheet} {i at : ℕ} {ts : Forest} where
  -- what stands left of an operator of a tier
  left_of_tier : {floor : ℕ} (l : ℕ) → 2 ≤ l → l ≤ 11 → expression_level (token s at) ≡ l → Left s floor i at ts → Derives s (TierExpression l) i at ts
  left_of_tier l h k e (left_unary d) = lower l 12 h (omega arith) (omega arith) (D.no_power d)
  left_of_tier l h k e (left_tier m a b c x y d) = lower l m h (omega arith) c d
  left_of_tier l h k e (left_coalesce z x d) = absurd (omega arith)

  -- all that stands left
  whole_left : Left s 0 i at ts → Derives s ShortCircuitExpression i at ts
  whole_left (left_unary d) = D.short_circuit_or (lower 2 12 (omega arith) (omega arith) (omega arith) (D.no_power d))
  whole_left (left_tier m a b c x y d) = D.short_circuit_or (lower 2 m (omega arith) a c d)
  whole_left (left_coalesce z x d) = D.short_circuit_coalesce d

  left_stop : (floor : ℕ) → floor ≤ 11 → expression_level (token s at) ≤ floor → Left s floor i at ts → Upto s floor i at ts
  left_stop zero h e l = record { part = whole_left l; rest = e }
  left_stop (suc floor) h e (left_unary d) = record { part = lower (suc (suc floor)) 12 (omega arith) (omega arith) (omega arith) (D.no_power d); rest = e }
  left_stop (suc floor) h e (left_tier m a b c x y d) = record { part = lower (suc (suc floor)) m (omega arith) b c d; rest = e }
  left_stop (suc floor) h e (left_coalesce z x d) = absurd (omega arith)

-- a tree that is no `||` and no `&&` is a BitwiseORExpression
or_and_tier : (s : Sheet) (tier p first end : ℕ) (kids : Forest) → 2 ≤ tier → tier ≤ 3 → Operator s p tier → is_or_and s (node (tier_row tier) p first end kids) ≡ true
unfolding is_or_and kind_of mark_of tier_row expression_level level
or_and_tier s tier p first end kids h k o = rw (le-leb tier 3 k, ne_eqb (token s p) Question2 (λ e. let z : expression_level (token s p) ≡ 1 = ap expression_level e in omega (arith, o.level_is)))

bare : {s : Sheet} {tier i j : ℕ} {ts : Forest} → Derives s (TierExpression tier) i j ts → 2 ≤ tier → tier ≤ 4 → is_or_and s (first_tree ts) ≡ false
    → Derives s D.BitwiseORExpression i j ts
unfolding first_tree
bare (D.no_power d) h k e = absurd (omega arith)
bare (D.power d t f) h k e = absurd (omega arith)
bare {s} {tier} {i} {j} {ts} (D.no_operation l d) h k e = go (ℕ_discrete tier 4) (λ x. bare d (omega (arith, (line l).next)) (omega (arith, (line l).next)) e)
  where
    go : Dec (tier ≡ 4) → (suc tier ≤ 4 → Derives s (TierExpression 4) i j ts) → Derives s (TierExpression 4) i j ts
    go (yes q) f = let x : Derives s (TierExpression tier) i j ts = D.no_operation l d in rw q at x
    go (no q) f = f (omega arith)
bare {s} {tier} {i} {j} {ts} (D.operation {p = p} l d t f) h k e = go (ℕ_discrete tier 4)
  where
    go : Dec (tier ≡ 4) → Derives s (TierExpression 4) i j ts
    go (yes q) = let x : Derives s (TierExpression tier) i j ts = D.operation l d t f in subst (λ (n : ℕ). Derives s (TierExpression n) i j ts) q x
    go (no q) = absurd (not_both (or_and_tier s tier p i j _ h (omega arith) (operator l t)) (rw (line l).row_is at e))

-- the record of an operator's row, or none
pub record Unmixed (s : Sheet) (left right : Tree) : Type 0 where
  pub left_is_bare : is_or_and s left ≡ false
  pub right_is_bare : is_or_and s right ≡ false

-- a `??` that mixes is record 6
coalesce_record : (s : Sheet) (at : ℕ) (left right : Tree) → Tok s at Question2 → Silent (operation_records s at left right) → Unmixed s left right
unfolding operation_records
coalesce_record s at left right t f = go (is_or_and s left) (is_or_and s right) refl refl (rw t.kind_is at f)
  where
    go : (a b : Bool) → is_or_and s left ≡ a → is_or_and s right ≡ b → Silent ((if a or b then mixed_coalesce at ∷ [] else []) ++ []) → Unmixed s left right
    go true b x y f = absurd (said f)
    go false true x y f = absurd (said f)
    go false false x y f = record { left_is_bare = x; right_is_bare = y }

-- `**` after a bare Unary is record 7
unary_record : (s : Sheet) (at : ℕ) (left right : Tree) → Tok s at Star2 → kind_of left is Row.Unary ≡ true → Silent (operation_records s at left right) → ⊥
unfolding operation_records
unary_record s at left right t k f = said (rw (t.kind_is, k) at f)

module _ {s : Sheet} {floor i at q : ℕ} {left : Tree} where
  -- a `??` and its operands
  after_coalesce : {us : Forest} → floor ≡ 0 → Tok s at Question2 → Left s floor i at (one left) → Derives s D.LogicalORExpression (at + 1) q us → Silent (operation_records s at left (first_tree us))
      → expression_level (token s q) ≤ 1 → Left s floor i q (one (node Row.Logical at i q (cons left us)))
  unfolding join first_tree
  after_coalesce {us} z t l e f h = left_coalesce z h (go (coalesce_record s at left (first_tree us) t f) (whole_left (rw z at l)))
    where
      bare_head : Derives s ShortCircuitExpression i at (one left) → is_or_and s left ≡ false → Derives s CoalesceExpressionHead i at (one left)
      bare_head d b = by d refl
        where
          by : {ts : Forest} → Derives s ShortCircuitExpression i at ts → ts ≡ one left → Derives s CoalesceExpressionHead i at (one left)
          by (D.short_circuit_or d) q = rw q at (D.head_or (bare d (omega arith) (omega arith) (rw q b)))
          by (D.short_circuit_coalesce d) q = rw q at (D.head_coalesce d)

      go : Unmixed s left (first_tree us) → Derives s ShortCircuitExpression i at (one left) → Derives s CoalesceExpression i q (one (node Row.Logical at i q (cons left us)))
      go x d = D.coalesce (bare_head d x.left_is_bare) t (bare e (omega arith) (omega arith) x.right_is_bare)

  -- a `**` and its operands
  after_power : {us : Forest} → floor ≤ 11 → Tok s at Star2 → Left s floor i at (one left) → expression_level (token s at) ≡ 12 → Derives s D.ExponentiationExpression (at + 1) q us
      → Silent (operation_records s at left (first_tree us)) → expression_level (token s q) ≤ 11 → Left s floor i q (one (node Row.Binary at i q (cons left us)))
  unfolding join kind_of first_tree
  after_power {us} h t (left_tier m a b c x y d) l e f r = absurd (omega arith)
  after_power {us} h t (left_coalesce z x d) l e f r = absurd (omega arith)
  after_power {us} h t (left_unary d) l e f r = left_tier 12 (omega arith) (omega arith) (omega arith) (omega arith) r (by d refl)
    where
      by : {ts : Forest} → Derives s UnaryExpression i at ts → ts ≡ one left → Derives s D.ExponentiationExpression i q (one (node Row.Binary at i q (cons left us)))
      by (D.update d) x = D.power (rw x at d) t e
      by (D.unary {ts = vs} n d) x =
          let k : kind_of left is Row.Unary ≡ true = ap (λ (ts : Forest). kind_of (first_tree ts) is Row.Unary) (sym x) in
          absurd (unary_record s at left (first_tree us) t k f)

  -- an operator of one of the other tiers
  after_operator : {us : Forest} (l : ℕ) → 2 ≤ l → l ≤ 11 → floor < l → expression_level (token s at) ≡ l → Left s floor i at (one left) → Derives s (TierExpression (suc l)) (at + 1) q us
      → expression_level (token s q) ≤ l → Left s floor i q (one (node (tier_row l) at i q (cons left us)))
  unfolding join
  after_operator l h k b x d e r = left_tier l h b (omega arith) r (omega arith) (operation h k (left_of_tier l h k x d) (record { level_is = x }) e)

-- an operator that is read, its right operand, and what comes after
step_over : {s : Sheet} {floor i at q : ℕ} (left : Tree) (us : Forest) → floor ≤ 11 → floor < expression_level (token s at) → Left s floor i at (one left)
    → (right_floor (token s at) ≤ 11 → Upto s (right_floor (token s at)) (at + 1) q us) → Silent (operation_records s at left (first_tree us))
    → Left s floor i q (one (node (operation_kind (token s at)) at i q (cons left us)))
unfolding tier_row
step_over {s} {floor} {i} {at} {q} left us h lt l up f = rw (row_of_tier (token s at) (omega arith)) (go (expression_level (token s at)) refl)
  where
    over : ℕ → Type 0
    over o = Left s floor i q (one (node (tier_row o) at i q (cons left us)))

    go : (o : ℕ) → expression_level (token s at) ≡ o → over (expression_level (token s at))
    go zero e = absurd (omega arith)
    go (suc o) e = by (ℕ_discrete (suc o) 12) (ℕ_discrete (suc o) 1)
      where
        upto : (suc o ≡ 12 → ⊥) → Upto s (suc o) (at + 1) q us
        upto n = let b = levels (token s at) in let c : right_floor (token s at) ≡ suc o = other_floor (token s at) (omega arith) ∙ e in rw c at (up (omega arith))

        power : suc o ≡ 12 → over 12
        power x =
            let k : token s at ≡ Star2 = is_power (token s at) (e ∙ x) in
            let c : right_floor (token s at) ≡ 11 = ap right_floor k ∙ power_floor in
            let u : Upto s 11 (at + 1) q us = rw c at (up (omega arith)) in
            after_power h (record { kind_is = k }) l (e ∙ x) u.part f u.rest

        coalesced : suc o ≡ 1 → (suc o ≡ 12 → ⊥) → over 1
        coalesced y x =
            let u : Upto s 1 (at + 1) q us = rw y at (upto x) in
            after_coalesce (omega arith) (record { kind_is = is_coalesce (token s at) (e ∙ y) }) l u.part f u.rest

        by : Dec (suc o ≡ 12) → Dec (suc o ≡ 1) → over (expression_level (token s at))
        by (yes x) y = rw (e ∙ x) (power x)
        by (no x) (yes y) = rw (e ∙ y) (coalesced y x)
        by (no x) (no y) = let u = upto x in let b = levels (token s at) in rw e (after_operator (suc o) (omega arith) (omega arith) (omega arith) e l u.part u.rest)

-- THE PRODUCTIONS
module _ {s : Sheet} {N : Type 0} {ask : Asks N} (h : Answers Any (GoodMeant s) Nothing ask) where
  asked : (job : Job) → Reads (GoodMeant s job) Nothing (ask job)
  asked job = h.with job tt

  -- 13.16
  sound_expression : (at : ℕ) → Reads (GoodMeant s (J.expression at)) Nothing (expression_of s ask at)
  unfolding expression_of
  sound_expression at =
      follow (asked (J.assignment at))
      (λ part d. token_test s _ _
      (λ t. hence (asked (J.sequence at part.end part.end part.trees)) (λ end trees m. m (one_part d (tok t) refl)))
      (giving _ _ (D.no_comma d)))

  one_part_more : {first comma at end : ℕ} {so_far us : Forest} → Parts s first comma at so_far → Tok s at Comma → Derives s AssignmentExpression (at + 1) end us
      → Derives s (Commas comma) first end (join so_far us)
  one_part_more (one_part d t q) u e = D.first_comma d t (rw q at e)
  one_part_more (more_parts d) u e = D.next_comma d u e

  sound_sequence : (first comma at : ℕ) (so_far : Forest) → Reads (GoodMeant s (J.sequence first comma at so_far)) Nothing (sequence_of s ask first comma at so_far)
  unfolding sequence_of
  sound_sequence first comma at so_far =
      test (token s at is Comma)
      (λ t. follow (asked (J.assignment (at + 1)))
      (λ part d. hence (asked (J.sequence first comma part.end (join so_far part.trees))) (λ end trees m b. m (more_parts (one_part_more b (tok_eq at Comma t) d)))))
      (λ n. giving _ _ (λ b. all b n))
    where
      all : Parts s first comma at so_far → token s at is Comma ≡ false → Derives s Expression first at (one (node Row.Sequence comma first at so_far))
      all (one_part d t q) n = absurd (clash t (rw q at n))
      all (more_parts d) n = D.sequence d

  -- 13.15 and 13.14
  sound_conditional : (first at : ℕ) (left : Tree) → Reads (GoodMeant s (J.conditional first at left)) Nothing (conditional_of s ask first at left)
  unfolding conditional_of join
  sound_conditional first at left =
      follow (asked (J.assignment (at + 1)))
      (λ if_true d. token_test s _ _
      (λ t. follow (asked (J.assignment (if_true.end + 1)))
      (λ if_false e. giving _ _ (λ u l. D.conditional l u d (tok t) e)))
      (none _))

  operator_left : (k : ℕ) → is_assignment_operator k ≡ true → k is Eq ≡ false → is_compound k ≡ true
  unfolding is_assignment_operator is_compound
  operator_left k e n =
      let a : Eq ≤ k = leb-true Eq k (and_left (leb Eq k) (leb k Star2Eq) e) in
      let b : k ≡ Eq → ⊥ = eqb-false k Eq n in
      rw (le-leb PlusEq k (omega arith)) (and_right (leb Eq k) (leb k Star2Eq) e)

  sound_assign : (first at : ℕ) (left : Tree) → Reads (GoodMeant s (J.assign first at left)) Nothing (assign_of s ask first at left)
  unfolding assign_of first_tree
  sound_assign first at left = go (token s at is Eq) refl
    where
      go : (b : Bool) → token s at is Eq ≡ b
          → Reads (GoodMeant s (J.assign first at left)) Nothing
          (converted (if b then any else simple) at left >>= λ target. ask (J.assignment (at + 1)) >>= λ right.
          yield right.end (one (node (if b then Row.Assign else Row.CompoundAssign) at first right.end (join target.trees right.trees))))
      go true t =
          follow {Q = λ end trees. (end ≡ at) × (Derives s ShortCircuitExpression first at (one left) → Derives s DestructuringAssignmentTarget first at trees)}
          (turning any at left (λ u rs e f. (refl, λ d. (made d).with as_target u rs e f)))
          (λ target q. follow (asked (J.assignment (at + 1)))
          (λ right d. giving _ _ (λ o l. value_assign at target.trees right.trees (q.1 l) (tok_eq at Eq t) d refl)))
      go false t =
          follow {Q = λ end trees. (end ≡ at) × (Derives s ShortCircuitExpression first at (one left) → Derives s SimpleTarget first at trees)}
          (turning simple at left (λ u rs e f. (refl, λ d. (made d).with as_simple_target u rs e f)))
          (λ target q. follow (asked (J.assignment (at + 1)))
          (λ right d. giving _ _ (λ o l. value_compound at target.trees right.trees (q.1 l) (as_printed compounds (operator_left (token s at) o t)) d refl)))

  sound_after_binary : (first : ℕ) (left : Part) → Derives s ShortCircuitExpression first left.end left.trees → Reads (Means (Value s first)) Nothing (after_binary s ask first left)
  unfolding after_binary
  sound_after_binary first left d =
      let r = root_short_circuit d in
      test (kind_of (tree left) is Row.Identifier and token s left.end is Arrow)
      (λ e. hence (asked (J.body Row.Arrow first left.end (one (leaf Row.BindingName first)))) (λ end trees a. named (r.named (and_left (kind_of (tree left) is Row.Identifier) _ e)) (and_right (kind_of (tree left) is Row.Identifier) _ e) a))
      (λ _. test (is_assignment_operator (token s left.end))
      (λ e. hence (asked (J.assign first left.end (tree left))) (λ end trees m. m e (rw r.lone at d)))
      (λ _. token_test s _ _
      (λ t. hence (asked (J.conditional first left.end (tree left))) (λ end trees m. value_conditional (m (tok t) (rw r.lone at d))))
      (giving _ _ (value_conditional (D.short_circuit d)))))
    where
      named : {p end : ℕ} {trees : Forest} → NameAt s first p → token s p is Arrow ≡ true → Arrowed s Row.Arrow first p (one (leaf Row.BindingName first)) end trees → Value s first end trees
      named {p} n e a = value_arrow n.name (rw n.ends at (tok_eq {s = s} p Arrow e)) (rw n.ends at a)

  sound_value : (at : ℕ) → Reads (GoodMeant s (J.value at)) Nothing (value_of s ask at)
  unfolding value_of is_async_name
  sound_value at =
      let c = token s (at + 2) is Arrow in
      let b = not (break_before s (at + 1)) and c in
      let a = is_name (token s (at + 1)) and b in
      test (token s at is Async and a)
      (λ e. let x : a ≡ true = and_right (token s at is Async) a e in
      let y : b ≡ true = and_right (is_name (token s (at + 1))) b x in
      hence (asked (J.body Row.AsyncArrow at (at + 2) (one (leaf Row.BindingName (at + 1)))))
      (λ end trees m. value_async_arrow (tok_eq at Async (and_left (token s at is Async) a e)) (as_printed names (and_left (is_name (token s (at + 1))) b x))
      (record { unbroken = not_true (break_before s (at + 1)) (and_left (not (break_before s (at + 1))) c y) }) (tok_eq (at + 2) Arrow (and_right (not (break_before s (at + 1))) c y)) m))
      (λ _. follow (asked (J.binary 0 at)) (λ left u. sound_after_binary at left (u (omega arith)).part))

  -- 13.6 to 13.13
  sound_binary : (floor at : ℕ) → Reads (GoodMeant s (J.binary floor at)) Nothing (binary_of s ask floor at)
  unfolding binary_of
  sound_binary floor at =
      follow (asked (J.unary at)) (λ left d. hence (asked (J.operators floor at left.end (tree left))) (λ end trees m l. m l (left_unary (rw (root_unary d).lone at d))))

  sound_operators : (floor first at : ℕ) (left : Tree) → Reads (GoodMeant s (J.operators floor first at left)) Nothing (operators_of s ask floor first at left)
  unfolding operators_of
  sound_operators floor first at left =
      test (ltb floor (expression_level (token s at)))
      (λ t. follow (asked (J.binary (right_floor (token s at)) (at + 1)))
      (λ right u. saying _ (λ f. hence (asked (J.operators floor first right.end (node (operation_kind (token s at)) at first right.end (cons left right.trees))))
      (λ end trees m l d. m l (step_over left right.trees l (ltb-true _ _ t) d u f)))))
      (λ n. giving _ _ (λ l d. left_stop floor l (ltb-false _ _ n) d))

  -- 13.5 and 13.4
  sound_unary : (at : ℕ) → Reads (GoodMeant s (J.unary at)) Nothing (unary_of s ask at)
  unfolding unary_of is_unary_operator is_update_operator is_prefix is_update first_tree
  sound_unary at =
      test (is_prefix (token s at))
      (λ t. follow (asked (J.unary (at + 1))) (λ operand d. giving _ _ (D.unary (as_printed unary t) d)))
      (λ _. test (is_update (token s at))
      (λ t. follow (asked (J.unary (at + 1)))
      (λ operand d. follow {Q = λ end trees. Derives s SimpleTarget (at + 1) end trees} (turning simple operand.end (tree operand) (λ u rs e f. (made (rw (root_unary d).lone at d)).with as_simple_target u rs e f))
      (λ target e. giving _ _ (D.update (D.prefix (as_printed updates t) e)))))
      (λ _. hence (asked (J.postfix at)) (λ end trees d. D.update d)))

  sound_postfix : (at : ℕ) → Reads (GoodMeant s (J.postfix at)) Nothing (postfix_of s ask at)
  unfolding postfix_of is_update_operator is_update first_tree
  sound_postfix at =
      follow (asked (J.left_hand_side at))
      (λ operand d. test (is_update (token s operand.end) and not (break_before s operand.end))
      (λ t. let u = and_left (is_update (token s operand.end)) (not (break_before s operand.end)) t in
      let l = and_right (is_update (token s operand.end)) (not (break_before s operand.end)) t in
      follow {Q = λ end trees. (end ≡ operand.end) × Derives s SimpleTarget at operand.end trees}
      (turning simple operand.end (tree operand) (λ v rs e f. (refl, (made (rw (root_left_hand_side d).lone at d)).with as_simple_target v rs e f)))
      (λ target e. giving _ _ (rw e.0 (D.postfix e.1 (as_printed updates u) (record { unbroken = not_true _ l })))))
      (λ _. giving _ _ (D.left_hand_side d)))

  -- 13.3
  sound_left_hand_side : (at : ℕ) → Reads (GoodMeant s (J.left_hand_side at)) Nothing (left_hand_side_of s ask at)
  unfolding left_hand_side_of
  sound_left_hand_side at =
      follow (asked (J.primary at)) (λ base d. hence (asked (J.links at base.end (tree base))) (λ end trees m. m D.members (D.primary (rw (root_primary d).lone at d))))

  sound_links : (first at : ℕ) (left : Tree) → Reads (GoodMeant s (J.links first at left)) Nothing (links_of s ask first at left)
  unfolding links_of join
  sound_links first at left =
      token_test s _ _
      (λ t. test (is_word (token s (at + 1)))
      (λ u. hence (asked (J.links first (at + 2) (node Row.Member (at + 1) first (at + 2) (one left)))) (λ end trees m c d. m c (D.member d (tok t) (as_printed words u))))
      (λ _. none _))
      (token_test s _ _
      (λ t. follow (asked (J.expression (at + 1)))
      (λ inner e. token_test s _ _
      (λ u. hence (asked (J.links first (inner.end + 1) (node Row.Index first first (inner.end + 1) (cons left inner.trees)))) (λ end trees m c d. m c (D.index d (tok t) e (tok u))))
      (none _)))
      (token_test s _ _
      (λ t. follow (asked (J.arguments first (at + 1) (one left)))
      (λ call m. hence (asked (J.links first call.end (tree call)))
      (λ end trees n c d. let e = m (begin c d (tok t)) in n D.calls (rw (root_chain e).lone at e))))
      (giving _ _ (λ c d. D.linked d))))
    where
      begin : (c : Links) → Derives s (LinkedExpression c) first at (one left) → Tok s at LParen → Calling s first (at + 1) (one left)
      begin c d t = record { links = c; place = at; callee = one left; given = nil; is_callee = d; opens = t; begun = none_yet refl refl; are = sym (join_nil (one left)) }

  -- an element or an argument: AssignmentExpression or SpreadElement, by its first token
  record Item (at end : ℕ) (us : Forest) : Type 0 where
    element : Derives s Element at end us
    spreads : (ts : Forest) → ends_in_spread (join ts us) ≡ token s at is Dot3

  item : (at : ℕ) → Reads (Means (Item at)) Nothing (ask (if token s at is Dot3 then J.spread at else J.assignment at))
  unfolding kind_of
  item at = go (token s at is Dot3) refl
    where
      spread_item : {end : ℕ} {us : Forest} → token s at is Dot3 ≡ true → Derives s SpreadElement at end us → Item at end us
      spread_item e (D.spread t d) = record { element = D.spread_element (D.spread t d); spreads = λ ts. spread_last ts _ ∙ sym e }

      plain_item : {end : ℕ} {us : Forest} → token s at is Dot3 ≡ false → Derives s AssignmentExpression at end us → Item at end us
      plain_item {end} {us} e d =
          let r = root_assignment d in
          record { element = D.plain_element d; spreads = λ ts. ap (λ (vs : Forest). ends_in_spread (join ts vs)) r.lone ∙ spread_last ts (first_tree us) ∙ r.no_spread ∙ sym e }

      go : (b : Bool) → token s at is Dot3 ≡ b → Reads (Means (Item at)) Nothing (ask (if b then J.spread at else J.assignment at))
      go true e = hence (asked (J.spread at)) (λ end trees m. spread_item e (m (tok_eq at Dot3 e)))
      go false e = hence (asked (J.assignment at)) (λ end trees d. plain_item e d)

  close_call : {first at : ℕ} {so_far : Forest} → Calling s first at so_far → Tok s at RParen → Derives s CallExpression first (at + 1) (one (node Row.Call first first (at + 1) so_far))
  close_call {first} {at} {so_far} c t = go c.begun
    where
      go : Begun s Element (c.place + 1) at c.given → Derives s CallExpression first (at + 1) (one (node Row.Call first first (at + 1) so_far))
      go (none_yet q r) =
          let e : at + 1 ≡ c.place + 2 = omega arith in
          let f : so_far ≡ join c.callee nil = c.are ∙ ap (join c.callee) r in
          rw (e, f) (D.call c.is_callee (D.no_arguments c.opens (rw q at t)))
      go (after_comma p l u q) =
          let e : at + 1 ≡ p + 2 = omega arith in
          rw (e, c.are) (D.call c.is_callee (D.arguments_comma c.opens l u (rw q at t)))

  sound_arguments : (first at : ℕ) (so_far : Forest) → Reads (GoodMeant s (J.arguments first at so_far)) Nothing (arguments_of s ask first at so_far)
  unfolding arguments_of
  sound_arguments first at so_far =
      token_test s _ _ (λ t. giving _ _ (λ c. close_call c (tok t)))
      (follow (item at)
      (λ argument i. token_test s _ _
      (λ t. hence (asked (J.arguments first (argument.end + 1) (join so_far argument.trees))) (λ end trees m c. m (more c i (tok t))))
      (token_test s _ _ (λ t. giving _ _ (λ c. last c i (tok t))) (none _))))
    where
      more : {end : ℕ} {us : Forest} → Calling s first at so_far → Item at end us → Tok s end Comma → Calling s first (end + 1) (join so_far us)
      more {end} {us} c i t =
          record {
            links = c.links;
            place = c.place;
            callee = c.callee;
            given = join c.given us;
            is_callee = c.is_callee;
            opens = c.opens;
            begun = after_comma end (one_more c.given us c.begun i.element) t refl;
            are = ap (λ (ts : Forest). join ts us) c.are ∙ join_assoc c.callee c.given us;
          }

      last : {end : ℕ} {us : Forest} → Calling s first at so_far → Item at end us → Tok s end RParen → Derives s CallExpression first (end + 1) (one (node Row.Call first first (end + 1) (join so_far us)))
      last {end} {us} c i t =
          let f : join so_far us ≡ join c.callee (join c.given us) = ap (λ (ts : Forest). join ts us) c.are ∙ join_assoc c.callee c.given us in
          rw f (D.call c.is_callee (D.arguments c.opens (one_more c.given us c.begun i.element) t))

  -- 13.2
  sound_primary : (at : ℕ) → Reads (GoodMeant s (J.primary at)) Nothing (primary_of s ask at)
  unfolding primary_of parenthesized_of array_row object_row ends_in_spread
  sound_primary at =
      test (is_name (token s at)) (λ t. giving _ _ (D.identifier (as_printed names t)))
      (λ _. token_test s _ _ (λ t. giving _ _ (D.this (tok t)))
      (test (is_literal (token s at)) (λ t. giving _ _ (D.literal (as_printed literal_tokens t)))
      (λ _. token_test s _ _
      (λ t. follow (asked (J.expression (at + 1))) (λ inner d. token_test s _ _ (λ u. giving _ _ (D.parenthesized (tok t) d (tok u))) (none _)))
      (token_test s _ _ (λ t. hence (asked (J.elements at (at + 1) Row.Array nil)) (λ end trees m. D.array (m (tok t) (only_holes D.no_elision) refl)))
      (token_test s _ _ (λ t. hence (asked (J.properties at (at + 1) Row.Object nil)) (λ end trees m. D.object (m (tok t) (none_yet refl refl) refl)))
      (none _))))))

  sound_spread : (at : ℕ) → Reads (GoodMeant s (J.spread at)) Nothing (spread_of s ask at)
  unfolding spread_of
  sound_spread at = follow (asked (J.assignment (at + 1))) (λ argument d. giving _ _ (λ t. D.spread t d))

  -- holes alone end in no spread
  holes_row : {i j : ℕ} {ts : Forest} → Derives s Elision i j ts → array_row ts ≡ Row.Array
  unfolding array_row ends_in_spread kind_of
  holes_row D.no_elision = refl
  holes_row (D.elision {p = p} {ts = ts} d t) = rw (spread_last ts (leaf Row.Hole p))

  hole_row : (ts : Forest) (at : ℕ) → Row.Array ≡ array_row (join ts (one (leaf Row.Hole at)))
  unfolding array_row kind_of
  hole_row ts at = rw (spread_last ts (leaf Row.Hole at))

  sound_elements : (first at kind : ℕ) (so_far : Forest) → Reads (GoodMeant s (J.elements first at kind so_far)) Nothing (elements_of s ask first at kind so_far)
  unfolding elements_of array_row
  sound_elements first at kind so_far =
      token_test s _ _ (λ t. giving _ _ (λ o b q. rw q (close o b (tok t))))
      (token_test s _ _
      (λ t. hence (asked (J.elements first (at + 1) Row.Array (join so_far (one (leaf Row.Hole at))))) (λ end trees m o b q. m o (one_hole_more so_far b (tok t)) (hole_row so_far at)))
      (follow (item at)
      (λ element i. token_test s _ _
      (λ t. hence (asked (J.elements first (element.end + 1) (if token s at is Dot3 then Row.ArrayRestComma else Row.Array) (join so_far element.trees)))
      (λ end trees m o b q. m o (list_and_comma (join so_far element.trees) (one_element_more so_far element.trees b i.element) (tok t)) (rw (i.spreads so_far))))
      (token_test s _ _ (λ t. giving _ _ (λ o b q. D.array_list o (one_element_more so_far element.trees b i.element) (tok t))) (none _)))))
    where
      close : Tok s first LBrack → BegunElided s Element (first + 1) at so_far → Tok s at RBrack → Derives s ArrayLiteral first (at + 1) (one (node (array_row so_far) first first (at + 1) so_far))
      close o (only_holes d) t = rw (holes_row d) (D.array_empty o d t)
      close o (after_list p ts us l c d q) t = rw q (D.array_comma o l c d t)

  -- a property, or a spread, by its first token
  record Property (at end : ℕ) (us : Forest) : Type 0 where
    definition : Derives s PropertyDefinition at end us
    spreads : (ts : Forest) → ends_in_spread (join ts us) ≡ token s at is Dot3

  property_item : (at : ℕ) → Reads (Means (Property at)) Nothing (ask (if token s at is Dot3 then J.spread at else J.property at))
  unfolding kind_of is_name is_key is_word
  property_item at = go (token s at is Dot3) refl
    where
      spread_item : {end : ℕ} {us : Forest} → token s at is Dot3 ≡ true → Derives s SpreadElement at end us → Property at end us
      spread_item e (D.spread t d) = record { definition = D.spread_property (D.spread t d); spreads = λ ts. spread_last ts _ ∙ sym e }

      plain_item : {end : ℕ} {us : Forest} → token s at is Dot3 ≡ false → Derives s PropertyDefinition at end us → Property at end us
      plain_item e (D.shorthand n) = record { definition = D.shorthand n; spreads = λ ts. spread_last ts _ ∙ sym e }
      plain_item e (D.cover_initialized n t d) = record { definition = D.cover_initialized n t d; spreads = λ ts. spread_last ts _ ∙ sym e }
      plain_item e (D.property k t d) = record { definition = D.property k t d; spreads = λ ts. spread_last ts _ ∙ sym e }
      plain_item e (D.spread_property (D.spread t d)) = absurd (clash t e)

      go : (b : Bool) → token s at is Dot3 ≡ b → Reads (Means (Property at)) Nothing (ask (if b then J.spread at else J.property at))
      go true e = hence (asked (J.spread at)) (λ end trees m. spread_item e (m (tok_eq at Dot3 e)))
      go false e = hence (asked (J.property at)) (λ end trees d. plain_item e d)

  sound_properties : (first at kind : ℕ) (so_far : Forest) → Reads (GoodMeant s (J.properties first at kind so_far)) Nothing (properties_of s ask first at kind so_far)
  unfolding properties_of object_row ends_in_spread
  sound_properties first at kind so_far =
      token_test s _ _ (λ t. giving _ _ (λ o b q. rw q (close o b (tok t))))
      (follow (property_item at)
      (λ part i. token_test s _ _
      (λ t. hence (asked (J.properties first (part.end + 1) (if token s at is Dot3 then Row.ObjectRestComma else Row.Object) (join so_far part.trees)))
      (λ end trees m o b q. m o (after_comma part.end (one_more so_far part.trees b i.definition) (tok t) refl) (rw (i.spreads so_far))))
      (token_test s _ _ (λ t. giving _ _ (λ o b q. D.object_list o (one_more so_far part.trees b i.definition) (tok t))) (none _))))
    where
      close : Tok s first LCurly → Begun s PropertyDefinition (first + 1) at so_far → Tok s at RCurly → Derives s ObjectLiteral first (at + 1) (one (node (object_row so_far) first first (at + 1) so_far))
      close o (none_yet q r) t = let e : at + 1 ≡ first + 2 = omega arith in rw (e, r) (D.object_empty o (rw q at t))
      close o (after_comma p l c q) t = let e : at + 1 ≡ p + 2 = omega arith in rw e (D.object_comma o l c (rw q at t))

  sound_property : (at : ℕ) → Reads (GoodMeant s (J.property at)) Nothing (property_of s ask at)
  unfolding property_of shorthand_of
  sound_property at =
      test (is_name (token s at) and not (token s (at + 1) is Colon))
      (λ e. let n = as_printed names (and_left (is_name (token s at)) (not (token s (at + 1) is Colon)) e) in
      token_test s _ _
      (λ t. follow (asked (J.assignment (at + 2))) (λ initializer d. giving _ _ (D.cover_initialized n (tok t) d)))
      (giving _ _ (D.shorthand n)))
      (λ _. follow (asked (J.key at))
      (λ name k. token_test s _ _ (λ t. follow (asked (J.assignment (name.end + 1))) (λ content d. giving _ _ (D.property k (tok t) d))) (none _)))

  sound_key : (at : ℕ) → Reads (GoodMeant s (J.key at)) Nothing (key_of s ask at)
  unfolding key_of is_key
  sound_key at =
      test (is_key (token s at)) (λ t. giving _ _ (D.literal_name (as_printed keys t)))
      (λ _. token_test s _ _
      (λ t. follow (asked (J.assignment (at + 1))) (λ inner d. token_test s _ _ (λ u. giving _ _ (D.computed_name (tok t) d (tok u))) (none _)))
      (none _))

  -- 14.3.3
  sound_binding : (at : ℕ) → Reads (GoodMeant s (J.binding at)) Nothing (binding_of s ask at)
  unfolding binding_of
  sound_binding at =
      test (is_name (token s at)) (λ t. giving _ _ (D.binding_name (as_printed names t)))
      (λ _. token_test s _ _ (λ t. hence (asked (J.binding_elements at (at + 1) nil)) (λ end trees m. D.binding_pattern (m (tok t) (only_holes D.no_elision))))
      (token_test s _ _ (λ t. hence (asked (J.binding_properties at (at + 1) nil)) (λ end trees m. D.binding_pattern (m (tok t) (none_yet refl refl))))
      (none _)))

  sound_binding_element : (at : ℕ) → Reads (GoodMeant s (J.binding_element at)) Nothing (binding_element_of s ask at)
  unfolding binding_element_of
  sound_binding_element at =
      follow (asked (J.binding at))
      (λ target d. token_test s _ _ (λ t. follow (asked (J.assignment (target.end + 1))) (λ initializer e. giving _ _ (D.binding_default d (tok t) e)))
      (giving _ _ (D.no_default d)))

  sound_binding_rest : (at : ℕ) → Reads (GoodMeant s (J.binding_rest at)) Nothing (binding_rest_of s ask at)
  unfolding binding_rest_of kind_of first_tree
  sound_binding_rest at =
      follow (asked (J.binding_element (at + 1))) (λ argument d. saying _ (λ f. giving _ _ (λ t. rest t d f)))
    where
      rest : {end : ℕ} {trees : Forest} → Tok s at Dot3 → Derives s BindingElement (at + 1) end trees
          → Silent (if kind_of (first_tree trees) is Row.BindingDefault then rest_initializer (mark_of (first_tree trees)) ∷ [] else [])
          → Derives s BindingRestElement at end (one (node Row.BindingRest at at end trees))
      rest t (D.no_default d) f = D.binding_rest t d
      rest t (D.binding_default d u e) f = absurd (said f)

  sound_binding_elements : (first at : ℕ) (so_far : Forest) → Reads (GoodMeant s (J.binding_elements first at so_far)) Nothing (binding_elements_of s ask first at so_far)
  unfolding binding_elements_of
  sound_binding_elements first at so_far =
      token_test s _ _ (λ t. giving _ _ (λ o b. close o b (tok t)))
      (token_test s _ _
      (λ t. hence (asked (J.binding_elements first (at + 1) (join so_far (one (leaf Row.Hole at))))) (λ end trees m o b. m o (one_hole_more so_far b (tok t))))
      (token_test s _ _
      (λ t. follow (asked (J.binding_rest at)) (λ rest m. token_test s _ _ (λ u. giving _ _ (λ o b. close_rest o b (m (tok t)) (tok u))) (none _)))
      (follow (asked (J.binding_element at))
      (λ element d. token_test s _ _
      (λ t. hence (asked (J.binding_elements first (element.end + 1) (join so_far element.trees)))
      (λ end trees m o b. m o (list_and_comma (join so_far element.trees) (one_element_more so_far element.trees b d) (tok t))))
      (token_test s _ _ (λ t. giving _ _ (λ o b. D.binding_array_list o (one_element_more so_far element.trees b d) (tok t))) (none _))))))
    where
      close : Tok s first LBrack → BegunElided s BindingElement (first + 1) at so_far → Tok s at RBrack → Derives s BindingPattern first (at + 1) (one (node Row.BindingArray first first (at + 1) so_far))
      close o (only_holes d) t = D.binding_array_empty o d t
      close o (after_list p ts us l c d q) t = rw q (D.binding_array_comma o l c d t)

      close_rest : {end : ℕ} {us : Forest} → Tok s first LBrack → BegunElided s BindingElement (first + 1) at so_far → Derives s BindingRestElement at end us → Tok s end RBrack
          → Derives s BindingPattern first (end + 1) (one (node Row.BindingArray first first (end + 1) (join so_far us)))
      close_rest o (only_holes h) d t = D.binding_array_rest o (D.elided h d) t
      close_rest {us = vs} o (after_list p ts us l c h q) d t = rw (q, join_assoc ts us vs) (D.binding_array_list_rest o l c (D.elided h d) t)

  -- a binding whose row is a BindingName is a BindingIdentifier
  shaped_kind : {i j : ℕ} {ts : Forest} → Shaped s Row.BindingArray Row.BindingObject i j ts → kind_of (first_tree ts) is Row.BindingName ≡ false
  unfolding kind_of first_tree
  shaped_kind (in_brackets _) = refl
  shaped_kind (in_braces _) = refl

  bare_rest : {at end : ℕ} {ts : Forest} → Tok s at Dot3 → Derives s Binding (at + 1) end ts → kind_of (first_tree ts) is Row.BindingName ≡ true
      → Derives s BindingRestProperty at end (one (node Row.BindingRest at at end ts))
  bare_rest {at} t (D.binding_name n) k =
      let e : at + 2 ≡ at + 1 + 1 = omega arith in
      subst (λ (end : ℕ). Derives s BindingRestProperty at end (one (node Row.BindingRest at at end (one (leaf Row.BindingName (at + 1)))))) e (D.binding_rest_property t n)
  bare_rest t (D.binding_pattern d) k = absurd (not_both k (shaped_kind (binding_shape d)))

  name_only : {at end : ℕ} {us : Forest} → Derives s BindingRestElement at end us → kind_of (first_tree (kids_of (first_tree us))) is Row.BindingName ≡ true
      → Derives s BindingRestProperty at end us
  unfolding kind_of kids_of first_tree
  name_only (D.binding_rest t d) k = bare_rest t d k

  sound_binding_properties : (first at : ℕ) (so_far : Forest) → Reads (GoodMeant s (J.binding_properties first at so_far)) Nothing (binding_properties_of s ask first at so_far)
  unfolding binding_properties_of kind_of kids_of first_tree join
  sound_binding_properties first at so_far =
      token_test s _ _ (λ t. giving _ _ (λ o b. close o b (tok t)))
      (token_test s _ _
      (λ t. follow (asked (J.binding_rest at))
      (λ rest m. token_test s _ _
      (λ u. test (kind_of (first_tree (kids_of (tree rest))) is Row.BindingName) (λ k. giving _ _ (λ o b. close_rest o b (m (tok t)) k (tok u))) (λ _. none _))
      (none _)))
      (follow (asked (J.binding_property at))
      (λ part d. token_test s _ _
      (λ t. hence (asked (J.binding_properties first (part.end + 1) (join so_far part.trees)))
      (λ end trees m o b. m o (after_comma part.end (one_more so_far part.trees b d) (tok t) refl)))
      (token_test s _ _ (λ t. giving _ _ (λ o b. D.binding_object_list o (one_more so_far part.trees b d) (tok t))) (none _)))))
    where
      close : Tok s first LCurly → Begun s BindingProperty (first + 1) at so_far → Tok s at RCurly → Derives s BindingPattern first (at + 1) (one (node Row.BindingObject first first (at + 1) so_far))
      close o (none_yet q r) t = let e : at + 1 ≡ first + 2 = omega arith in rw (e, r) (D.binding_object_empty o (rw q at t))
      close o (after_comma p l c q) t = let e : at + 1 ≡ p + 2 = omega arith in rw e (D.binding_object_comma o l c (rw q at t))

      close_rest : {end : ℕ} {us : Forest} → Tok s first LCurly → Begun s BindingProperty (first + 1) at so_far → Derives s BindingRestElement at end us
          → kind_of (first_tree (kids_of (first_tree us))) is Row.BindingName ≡ true → Tok s end RCurly
          → Derives s BindingPattern first (end + 1) (one (node Row.BindingObject first first (end + 1) (join so_far us)))
      close_rest o (none_yet q r) d k t = rw r (D.binding_object_rest o (rw q at (name_only d k)) t)
      close_rest o (after_comma p l c q) d k t = D.binding_object_list_rest o l c (rw q at (name_only d k)) t

  sound_binding_property : (at : ℕ) → Reads (GoodMeant s (J.binding_property at)) Nothing (binding_property_of s ask at)
  unfolding binding_property_of binding_shorthand_of
  sound_binding_property at =
      test (is_name (token s at) and not (token s (at + 1) is Colon))
      (λ e. let n = as_printed names (and_left (is_name (token s at)) (not (token s (at + 1) is Colon)) e) in
      token_test s _ _
      (λ t. follow (asked (J.assignment (at + 2))) (λ initializer d. giving _ _ (D.binding_shorthand_default n (tok t) d)))
      (giving _ _ (D.binding_shorthand n)))
      (λ _. follow (asked (J.key at))
      (λ name k. token_test s _ _ (λ t. follow (asked (J.binding_element (name.end + 1))) (λ content d. giving _ _ (D.binding_property k (tok t) d))) (none _)))

  -- 15.1, 15.3 and 15.9
  sound_parameters : (at : ℕ) (so_far : Forest) → Reads (GoodMeant s (J.parameters at so_far)) Nothing (parameters_of s ask at so_far)
  unfolding parameters_of join
  sound_parameters at so_far =
      token_test s _ _ (λ t. giving _ _ (λ i o b. D.arrow_formal_parameters o (close b) (tok t)))
      (token_test s _ _
      (λ t. follow (asked (J.binding_rest at)) (λ rest m. token_test s _ _ (λ u. giving _ _ (λ i o b. D.arrow_formal_parameters o (close_rest b (m (tok t))) (tok u))) (none _)))
      (follow (asked (J.binding_element at))
      (λ parameter d. token_test s _ _
      (λ t. hence (asked (J.parameters (parameter.end + 1) (join so_far parameter.trees)))
      (λ end trees m i o b. m i o (after_comma parameter.end (one_more so_far parameter.trees b d) (tok t) refl)))
      (token_test s _ _ (λ t. giving _ _ (λ i o b. D.arrow_formal_parameters o (D.parameters (one_more so_far parameter.trees b d)) (tok t))) (none _)))))
    where
      close : {i : ℕ} → Begun s BindingElement i at so_far → Derives s FormalParameters i at so_far
      close (none_yet q r) = rw (q, r) D.no_parameters
      close (after_comma p l c q) = rw q (D.parameters_comma l c)

      close_rest : {i end : ℕ} {us : Forest} → Begun s BindingElement i at so_far → Derives s BindingRestElement at end us → Derives s FormalParameters i end (join so_far us)
      close_rest (none_yet q r) d = rw r (D.rest_parameter (rw q at d))
      close_rest (after_comma p l c q) d = D.parameters_rest l c (rw q at d)

  sound_parenthesized_head : (at : ℕ) → Reads (Means (λ end trees. Tok s at LParen × Derives s ArrowFormalParameters at end trees × Tok s end Arrow)) Nothing (parenthesized_head_of s ask at)
  unfolding parenthesized_head_of
  sound_parenthesized_head at =
      token_test s _ _
      (λ t. follow (asked (J.parameters (at + 1) nil)) (λ list m. token_test s _ _ (λ u. giving _ _ (tok t, m at (tok t) (none_yet refl refl), tok u)) (none _)))
      (none _)

  sound_head : (at : ℕ) → Reads (GoodMeant s (J.head at)) Nothing (head_of s ask at)
  unfolding head_of
  sound_head at =
      token_test s _ _
      (λ t. test (not (break_before s (at + 1)))
      (λ l. hence (sound_parenthesized_head (at + 1)) (λ end trees d. async_head (tok t) (record { unbroken = not_true (break_before s (at + 1)) l }) d.1 d.2))
      (λ _. none _))
      (hence (sound_parenthesized_head at) (λ end trees d. plain_head d.0 d.1 d.2))

  sound_body : (kind first at : ℕ) (so_far : Forest) → Reads (GoodMeant s (J.body kind first at so_far)) Nothing (body_of s ask kind first at so_far)
  unfolding body_of
  sound_body kind first at so_far =
      saying _ (λ f. test (not (token s (at + 1) is LCurly))
      (λ n. follow (asked (J.assignment (at + 1)))
      (λ inner d. giving _ _ (record { line = line (break_before s at) refl f; inner = inner.trees; body = D.concise_body (record { other = not_true (token s (at + 1) is LCurly) n }) d; is_row = refl })))
      (λ _. none _))
    where
      line : (b : Bool) → break_before s at ≡ b → Silent (if b then break_before_arrow at ∷ [] else []) → SameLine s at
      line true e f = absurd (said f)
      line false e f = (record { unbroken = e })

-- an arrow function from its head and body
arrow_from : {s : Sheet} {i p j : ℕ} {params ts : Forest} → Head s i p params → (token s i is Async ≡ true → Arrowed s Row.AsyncArrow i p params j ts)
    → (token s i is Async ≡ false → Arrowed s Row.Arrow i p params j ts) → Derives s AssignmentExpression i j ts
arrow_from {s = s} {i} (plain_head o d t) a b = arrow_of_name (D.arrow_parameters d) t (b (rw o.kind_is))
arrow_from {s = s} {i} (async_head o l d t) a b = arrow_of_async (D.async_parameters o l d) t (a (rw o.kind_is))

module _ {s : Sheet} {N : Type 0} {ask : Asks N} (policy : Policy N) (h : Answers Any (GoodMeant s) Nothing ask) where
  sound_arrow : (at : ℕ) (list : Part) → Head s at list.end list.trees → Reads (GoodMeant s (J.assignment at)) Nothing (arrow_of policy s ask at list)
  unfolding arrow_of
  sound_arrow at list d = go (token s at is Async) refl
    where
      go : (b : Bool) → token s at is Async ≡ b → Reads (GoodMeant s (J.assignment at)) Nothing (ask (J.body (if b then Row.AsyncArrow else Row.Arrow) at list.end list.trees))
      go true e = hence (asked h (J.body Row.AsyncArrow at list.end list.trees)) (λ end trees a. arrow_from d (λ _. a) (λ n. absurd (not_both e n)))
      go false e = hence (asked h (J.body Row.Arrow at list.end list.trees)) (λ end trees a. arrow_from d (λ n. absurd (not_both n e)) (λ _. a))

  sound_assignment : (at : ℕ) → Reads (GoodMeant s (J.assignment at)) Nothing (assignment_of policy s ask at)
  unfolding assignment_of
  sound_assignment at =
      let past : Reads (GoodMeant s (J.assignment at)) Nothing (ask (J.value at)) = hence (asked h (J.value at)) (λ end trees v. as_assignment v) in
      test (token s at is LParen or token s at is Async)
      (λ _. chooses (policy.way at) past
      (trying (asked h (J.head at)) (sound_arrow at) (notes (policy.mark at) past))
      (follow (asked h (J.head at)) (sound_arrow at)))
      (λ _. past)

  sound_step : (job : Job) → Reads (GoodMeant s job) Nothing (step policy s ask job)
  unfolding step
  sound_step (J.expression at) = sound_expression h at
  sound_step (J.sequence first comma at so_far) = sound_sequence h first comma at so_far
  sound_step (J.assignment at) = sound_assignment at
  sound_step (J.value at) = sound_value h at
  sound_step (J.assign first at left) = sound_assign h first at left
  sound_step (J.conditional first at left) = sound_conditional h first at left
  sound_step (J.binary floor at) = sound_binary h floor at
  sound_step (J.operators floor first at left) = sound_operators h floor first at left
  sound_step (J.unary at) = sound_unary h at
  sound_step (J.postfix at) = sound_postfix h at
  sound_step (J.left_hand_side at) = sound_left_hand_side h at
  sound_step (J.links first at left) = sound_links h first at left
  sound_step (J.arguments first at so_far) = sound_arguments h first at so_far
  sound_step (J.primary at) = sound_primary h at
  sound_step (J.elements first at kind so_far) = sound_elements h first at kind so_far
  sound_step (J.properties first at kind so_far) = sound_properties h first at kind so_far
  sound_step (J.property at) = sound_property h at
  sound_step (J.key at) = sound_key h at
  sound_step (J.spread at) = sound_spread h at
  sound_step (J.binding at) = sound_binding h at
  sound_step (J.binding_element at) = sound_binding_element h at
  sound_step (J.binding_elements first at so_far) = sound_binding_elements h first at so_far
  sound_step (J.binding_properties first at so_far) = sound_binding_properties h first at so_far
  sound_step (J.binding_property at) = sound_binding_property h at
  sound_step (J.binding_rest at) = sound_binding_rest h at
  sound_step (J.head at) = sound_head h at
  sound_step (J.parameters at so_far) = sound_parameters h at so_far
  sound_step (J.body kind first at so_far) = sound_body h kind first at so_far

-- THE STATEMENTS
module _ {N : Type 0} (policy : Policy N) (s : Sheet) where
  preserved : Preserved policy s Any (GoodMeant s) Nothing
  preserved = record { with = λ ask h. record { with = λ job _. sound_step policy h job } }

  -- what is done with no record means what it should
  pub sound : (steps : ℕ) (job : Job) (before : N) {end : ℕ} {trees : Forest} {after : N} → read policy s steps job before ≡ done end trees [] after → Meant s job end trees
  sound steps job before e =
      good_done policy s Any (GoodMeant s) Nothing steps (good policy s Any (GoodMeant s) Nothing preserved steps) job tt before e silent

-- CLEAN: what an entry reads with no record is derived by ECMA-262 over the whole list, with the same tree, under any policy
-- two lists that are nothing together are nothing each
pub nothing_left : (a b : List Record) → a ++ b ≡ [] → a ≡ []
nothing_left [] b e = refl
nothing_left (x ∷ a) b e = let z : ◌≡◌ {A = ℕ} 0 1 = cc in absurd (omega arith)

pub nothing_right : (a b : List Record) → a ++ b ≡ [] → b ≡ []
nothing_right [] b e = e
nothing_right (x ∷ a) b e = let z : ◌≡◌ {A = ℕ} 0 1 = cc in absurd (omega arith)

if_nothing : (b c : Bool) (r : Record) → c ≡ true → (if b then r ∷ [] else []) ≡ [] → (if b then false else c) ≡ true
if_nothing false c r h e = h
if_nothing true c r h e = let z : ◌≡◌ {A = ℕ} 0 1 = cc in absurd (omega arith)

if_first : (b c : Bool) → (if b then c else false) ≡ true → b ≡ true
if_first true c e = refl
if_first false c e = e

if_second : (b c : Bool) → (if b then c else false) ≡ true → c ≡ true
if_second true c e = e
if_second false c e = let z : ◌≡◌ {A = ℕ} 0 1 = cc in absurd (omega arith)

if_other : (b c : Bool) → (if b then false else c) ≡ true → b ≡ false
if_other false c e = refl
if_other true c e = sym e

if_rest : (b c : Bool) → (if b then false else c) ≡ true → c ≡ true
if_rest false c e = e
if_rest true c e = let z : ◌≡◌ {A = ℕ} 0 1 = cc in absurd (omega arith)

-- no record 8 is said exactly where no CoverInitializedName is left
mutual
  unfolding unconverted unconverteds covers_nothing cover_nothing

  pub uncovered : (t : Tree) → unconverted t ≡ [] → covers_nothing t ≡ true
  uncovered (node kind mark first end kids) e =
      if_nothing (kind is Row.ShorthandInit) (cover_nothing kids) (shorthand_initializer mark) (uncovereds kids (nothing_left (unconverteds kids) _ e)) (nothing_right (unconverteds kids) _ e)

  pub uncovereds : (ts : Forest) → unconverteds ts ≡ [] → cover_nothing ts ≡ true
  uncovereds nil e = refl
  uncovereds (cons t ts) e = rw (uncovered t (nothing_left (unconverted t) _ e)) (uncovereds ts (nothing_right (unconverted t) _ e))

mutual
  unfolding unconverted unconverteds covers_nothing cover_nothing

  pub says_nothing : (t : Tree) → covers_nothing t ≡ true → unconverted t ≡ []
  says_nothing (node kind mark first end kids) e =
      rw (say_nothing kids (if_rest (kind is Row.ShorthandInit) (cover_nothing kids) e), if_other (kind is Row.ShorthandInit) (cover_nothing kids) e)

  pub say_nothing : (ts : Forest) → cover_nothing ts ≡ true → unconverteds ts ≡ []
  say_nothing nil e = refl
  say_nothing (cons t ts) e = rw (says_nothing t (if_first (covers_nothing t) (cover_nothing ts) e), say_nothing ts (if_second (covers_nothing t) (cover_nothing ts) e))

-- a binding is one tree
shaped_alone : {s : Sheet} {array object i j : ℕ} {ts : Forest} → Shaped s array object i j ts → ts ≡ one (first_tree ts)
unfolding first_tree
shaped_alone (in_brackets _) = refl
shaped_alone (in_braces _) = refl

pub lone_binding : {s : Sheet} {i j : ℕ} {ts : Forest} → Derives s BindingElement i j ts → ts ≡ one (first_tree ts)
unfolding first_tree
lone_binding (D.no_default (D.binding_name n)) = refl
lone_binding (D.no_default (D.binding_pattern d)) = shaped_alone (binding_shape d)
lone_binding (D.binding_default d t e) = refl

-- ECMA-262 has the whole list as this nonterminal, with this tree alone
pub record Standard (s : Sheet) (x : Nonterminal) (trees : Forest) : Type 0 where
  pub tree : Tree
  pub is_tree : trees ≡ one tree
  pub derived : Derived s x 0 (length s.kinds) tree

standard_from : {s : Sheet} {trees : Forest} (x : Nonterminal) → trees ≡ one (first_tree trees) → Derives s x 0 (length s.kinds) trees → unconverteds trees ≡ [] → Standard s x trees
unfolding cover_nothing
standard_from {trees = trees} x q d e =
    record {
      tree = first_tree trees;
      is_tree = q;
      derived = record { derivation = rw q at d; no_cover = if_first (covers_nothing (first_tree trees)) true (ap cover_nothing (sym q) ∙ uncovereds trees e) };
    }

module _ {N : Type 0} (policy : Policy N) (s : Sheet) (notes : N) {trees : Forest} {after : N} where
  -- 13.16: a clean reading is an Expression of the standard's
  pub clean_expression : reading policy s (expression 0) notes ≡ whole trees [] after → Standard s Expression trees
  clean_expression e =
      let c = came policy s (expression 0) notes e in
      let q = nothing_left c.said (unconverteds trees) (sym c.then_unconverted) in
      let d = sound policy s (plenty s) (expression 0) notes (rw q at c.done_at_end) in
      standard_from Expression (root_expression d).lone d (nothing_right c.said (unconverteds trees) (sym c.then_unconverted))

  -- 14.3.3: a clean reading of the pattern entry is a BindingElement of the standard's
  pub clean_binding : reading policy s (binding_element 0) notes ≡ whole trees [] after → Standard s BindingElement trees
  clean_binding e =
      let c = came policy s (binding_element 0) notes e in
      let q = nothing_left c.said (unconverteds trees) (sym c.then_unconverted) in
      let d = sound policy s (plenty s) (binding_element 0) notes (rw q at c.done_at_end) in
      standard_from BindingElement (lone_binding d) d (nothing_right c.said (unconverteds trees) (sym c.then_unconverted))
