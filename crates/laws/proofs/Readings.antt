-- Brackets match: what a nonterminal reads is balanced, with any policy, and an opening bracket has one closing partner. So parentheses that are read as an arrow
-- function's parameters and as a group or as arguments end at the same place.
-- The statements: `partner`, and at the end `balanced`. Assumes nothing.
use Rattle.std.specs.Prelude.{if◌then◌else◌}
use Prim.Native.Nat.{ℕ, ◌+◌}
use mathlib.Core.Path.{◌≡◌, refl, ◌∙◌, subst}
use mathlib.Core.Bool.{Bool, true, false, not}
use mathlib.Core.List.{List}
use native.Mathlib.Omega.{arith}
use lib.Dec.{ltb}
use Rattle.tokens.specs.Bool.{◌or◌, ◌and◌, ◌is◌}
use Rattle.tokens.specs.Kind.{Async, Str, Number, LParen, LCurly, Colon, Dot3, Arrow, Eq}
use Rattle.tokens.specs.Token.{is_name, is_word, is_literal}
use Rattle.operators.specs.Precedence.{expression_level}
use Rattle.rows.specs.Row as Row
use Rattle.rows.specs.Tree.{Tree, Forest, node, nil, cons, one, join, kind_of}
use Rattle.rows.specs.Record.{Record}
use Rattle.conversion.specs.Conversion.{Role, any, simple}
use Rattle.grammar.specs.Sheet.{Sheet, token, break_before, done, tree, leaf}
use Rattle.grammar.specs.Job.{Job, expression, sequence, assignment, value, assign, conditional, binary, operators, unary, postfix, left_hand_side, links, arguments, primary, elements, properties, property, key, spread, binding, binding_element, binding_elements, binding_properties, binding_property, binding_rest, head, parameters, body, Asks}
use Rattle.grammar.specs.Assignment.{is_assignment_operator, is_async_name}
use Rattle.grammar.specs.Binary.{operation_kind, right_floor}
use Rattle.grammar.specs.Update.{is_unary_operator, is_update_operator, converted}
use Rattle.grammar.specs.Binding.{argument_of}
use Rattle.grammar.specs.Arrow.{Policy, parenthesized_head_of}
use Rattle.grammar.specs.Step.{step, read}
use Rattle.laws.proofs.Balanced as Balance
use Rattle.laws.proofs.Balanced.{side_of, Side, Balanced, none, skip, nest, partner, joined, flat, name_flat, word_flat, literal_flat, operator_flat}
use Rattle.laws.proofs.Good.{productions, wants, Any, Nothing, Meaning, Stands, Reads, Answers, Preserved, good, good_done, yields, refuses, says, follows, heads, test, token_test, converts, so, and_left, and_right}

-- balanced up to a closing bracket, and past it
pub record Closes (sheet : Sheet) (at end : ℕ) : Type 0 where
  pub close : ℕ
  pub past : end ≡ close + 1
  pub inner : Balanced sheet at close
  pub closer : Side sheet close 2

-- where a head's `(` stands: at the place, or after an Async there
pub data Opening (sheet : Sheet) (at starts : ℕ) : Type 0 where
  bare : starts ≡ at → Opening sheet at starts
  after_async : token sheet at ≡ Async → starts ≡ at + 1 → Opening sheet at starts

-- a head: its `(`, parameters up to past their `)`, and the `=>`
pub record Headed (sheet : Sheet) (at end : ℕ) : Type 0 where
  pub starts : ℕ
  pub opens : token sheet starts ≡ LParen
  pub opening : Opening sheet at starts
  pub list : Closes sheet (starts + 1) end
  pub arrow : token sheet end ≡ Arrow

-- what is closed is closed at one place
pub one_close : {sheet : Sheet} {at end end' : ℕ} → Closes sheet at end → Closes sheet at end' → end ≡ end'
one_close c c' = omega (arith, c.past, c'.past, partner c.inner c'.inner c.closer c'.closer)

pub side : {sheet : Sheet} {at k : ℕ} → Stands sheet at k → Side sheet at (side_of k)
side t = Balance.side t.kind_is

pub two : {sheet : Sheet} (i : ℕ) {j : ℕ} → Balanced sheet (i + 2) j → Balanced sheet (i + 1 + 1) j
two {sheet} i {j} b = let e : i + 2 ≡ i + 1 + 1 = omega arith in subst (λ x. Balanced sheet x j) e b

pub nested : {sheet : Sheet} {i j : ℕ} → Side sheet i 1 → Closes sheet (i + 1) j → Balanced sheet i j
nested s c = rw c.past (nest s c.inner c.closer none)

key_flat : {sheet : Sheet} {at : ℕ} → (is_word (token sheet at) or token sheet at is Str or token sheet at is Number) ≡ true → Side sheet at 0
unfolding is_word
key_flat t = flat (λ k. is_word k or k is Str or k is Number) refl refl refl refl refl refl t

pub unary_flat : {sheet : Sheet} {at : ℕ} → is_unary_operator (token sheet at) ≡ true → Side sheet at 0
unfolding is_unary_operator
unary_flat t = flat is_unary_operator refl refl refl refl refl refl t

pub update_flat : {sheet : Sheet} {at : ℕ} → is_update_operator (token sheet at) ≡ true → Side sheet at 0
unfolding is_update_operator
update_flat t = flat is_update_operator refl refl refl refl refl refl t

pub assignment_flat : {sheet : Sheet} {at : ℕ} → is_assignment_operator (token sheet at) ≡ true → Side sheet at 0
unfolding is_assignment_operator
assignment_flat t = flat is_assignment_operator refl refl refl refl refl refl t

-- What a nonterminal that is done has read. Five start at a token that whoever asks has looked at: of them it is said from the token after.
abbrev pub Shape : Sheet → Job → ℕ → Type 0
Shape sheet (expression at) end = Balanced sheet at end
Shape sheet (sequence first comma at so_far) end = Balanced sheet at end
Shape sheet (assignment at) end = Balanced sheet at end
Shape sheet (value at) end = Balanced sheet at end
Shape sheet (assign first at left) end = Balanced sheet (at + 1) end
Shape sheet (conditional first at left) end = Balanced sheet (at + 1) end
Shape sheet (binary floor at) end = Balanced sheet at end
Shape sheet (operators floor first at left) end = Balanced sheet at end
Shape sheet (unary at) end = Balanced sheet at end
Shape sheet (postfix at) end = Balanced sheet at end
Shape sheet (left_hand_side at) end = Balanced sheet at end
Shape sheet (links first at left) end = Balanced sheet at end
Shape sheet (arguments first at so_far) end = Closes sheet at end
Shape sheet (primary at) end = Balanced sheet at end
Shape sheet (elements first at kind so_far) end = Closes sheet at end
Shape sheet (properties first at kind so_far) end = Closes sheet at end
Shape sheet (property at) end = Balanced sheet at end
Shape sheet (key at) end = Balanced sheet at end
Shape sheet (spread at) end = Balanced sheet (at + 1) end
Shape sheet (binding at) end = Balanced sheet at end
Shape sheet (binding_element at) end = Balanced sheet at end
Shape sheet (binding_elements first at so_far) end = Closes sheet at end
Shape sheet (binding_properties first at so_far) end = Closes sheet at end
Shape sheet (binding_property at) end = Balanced sheet at end
Shape sheet (binding_rest at) end = Balanced sheet (at + 1) end
Shape sheet (head at) end = Headed sheet at end
Shape sheet (parameters at so_far) end = Closes sheet at end
Shape sheet (body kind first at so_far) end = Balanced sheet (at + 1) end

-- the same, of what is read and recorded too, of which nothing is said
abbrev pub Shaped : Sheet → Job → Meaning
Shaped sheet job end trees records = Shape sheet job end

-- what conversion makes of a tree ends where that ends
target : {N : Type 0} (role : Role) (at : ℕ) (left : Tree) → Reads {N = N} (λ end trees records. end ≡ at) Nothing (converted role at left)
target role at left = converts role at left (λ t records e. refl) (λ cause e. tt)

closed_here : {sheet : Sheet} {at k : ℕ} → Stands sheet at k → side_of k ≡ 2 → Closes sheet at (at + 1)
closed_here t e = record { close = _; past = refl; inner = none; closer = record { goes = (side t).goes ∙ e } }

-- a part, and then its closing bracket
closed_after : {sheet : Sheet} {at end k : ℕ} → Balanced sheet at end → Stands sheet end k → side_of k ≡ 2 → Closes sheet at (end + 1)
closed_after b t e = record { close = _; past = refl; inner = b; closer = record { goes = (side t).goes ∙ e } }

-- a part, and then the rest of a list up to its closing bracket
closed_on : {sheet : Sheet} {at middle end : ℕ} → Balanced sheet at middle → Closes sheet middle end → Closes sheet at end
closed_on b c = record { close = c.close; past = c.past; inner = joined b c.inner; closer = c.closer }

-- one token more
after : {sheet : Sheet} {at end k : ℕ} → Balanced sheet at end → Stands sheet end k → side_of k ≡ 0 → Balanced sheet at (end + 1)
after b t e = joined b (skip (record { goes = (side t).goes ∙ e }) none)

before : {sheet : Sheet} {at end k : ℕ} → Stands sheet at k → side_of k ≡ 0 → Balanced sheet (at + 1) end → Balanced sheet at end
before t e b = skip (record { goes = (side t).goes ∙ e }) b

-- brackets around a part
pub around : {sheet : Sheet} {at end k l : ℕ} → Stands sheet at k → side_of k ≡ 1 → Balanced sheet (at + 1) end → Stands sheet end l → side_of l ≡ 2 → Balanced sheet at (end + 1)
around t e b t' e' = nest (record { goes = (side t).goes ∙ e }) b (record { goes = (side t').goes ∙ e' }) none

pub around_list : {sheet : Sheet} {at end k : ℕ} → Stands sheet at k → side_of k ≡ 1 → Closes sheet (at + 1) end → Balanced sheet at end
around_list t e c = nested (record { goes = (side t).goes ∙ e }) c

-- a head is balanced
pub whole_head : {sheet : Sheet} {at end : ℕ} → Headed sheet at end → Balanced sheet at end
unfolding side_of
whole_head {sheet} {at} {end} d = go d.opening
  where
    list : Balanced sheet d.starts end
    list = nested (record { goes = rw d.opens }) d.list

    go : Opening sheet at d.starts → Balanced sheet at end
    go (bare e) = rw e at list
    go (after_async a e) = skip {i = at} (record { goes = rw a }) (rw e at list)

-- THE PRODUCTIONS
module _ {N : Type 0} (policy : Policy N) (sheet : Sheet) {ask : Asks N} (h : Answers Any (Shaped sheet) Nothing ask) where
  asked : (job : Job) → Reads (Shaped sheet job) Nothing (ask job)
  asked job = h.with job tt

  -- another part, or a spread
  or_spread : (at : ℕ) (other : Job) → Reads (λ end trees records. Balanced sheet at end) Nothing (ask other) → (dots : Bool) → token sheet at is Dot3 ≡ dots
      → Reads (λ end trees records. Balanced sheet at end) Nothing (ask (if dots then spread at else other))
  or_spread at other o true e = so (asked (spread at)) (λ end trees more c. skip (flat (λ k. k is Dot3) refl refl refl refl refl refl e) c)
  or_spread at other o false e = o

  -- a rest from its `...` on
  rest_shape : (at : ℕ) → Stands sheet at Dot3 → Reads (λ end trees records. Balanced sheet at end) Nothing (ask (binding_rest at))
  unfolding side_of
  rest_shape at t = so (asked (binding_rest at)) (λ end trees more c. before t refl c)

  -- 15.3 and 15.9
  parenthesized_head_shape : (at starts : ℕ) → Opening sheet at starts
      → Reads (Shaped sheet (head at)) Nothing (parenthesized_head_of sheet ask starts)
  unfolding productions
  parenthesized_head_shape at starts o =
      wants sheet _ _ _ tt (λ t. follows (asked (parameters (starts + 1) nil))
      (λ list rs b. wants sheet _ _ _ tt
      (λ u. yields _ _ (record { starts = starts; opens = t.kind_is; opening = o; list = b; arrow = u.kind_is }))))

  -- every production
  pub step_shape : (job : Job) → Reads (Shaped sheet job) Nothing (step policy sheet ask job)
  unfolding productions is_async_name side_of
  -- 13.16
  step_shape (expression at) =
      follows (asked (assignment at))
      (λ part rs b. token_test sheet _ _ (λ t. so (asked (sequence at part.end part.end part.trees)) (λ end trees more c. joined b c)) (yields _ _ b))
  step_shape (sequence first comma at so_far) =
      token_test sheet _ _
      (λ t. follows (asked (assignment (at + 1)))
      (λ part rs b. so (asked (sequence first comma part.end (join so_far part.trees))) (λ end trees more c. before t refl (joined b c))))
      (yields _ _ none)
  step_shape (assignment at) =
      heads policy sheet ask at (asked (value at)) (asked (head at))
      (λ list rs d. so (asked (body _ at list.end list.trees)) (λ end trees more c. joined (whole_head d) (skip (record { goes = rw d.arrow }) c)))
  step_shape (value at) =
      test (is_async_name sheet at)
      (λ t. so (asked (body Row.AsyncArrow at (at + 2) (one (leaf Row.BindingName (at + 1)))))
      (λ end trees more c.
      let named = and_right (token sheet at is Async) _ t in
      let rest = and_right (not (break_before sheet (at + 1))) _ (and_right (is_name (token sheet (at + 1))) _ named) in
      skip (flat (λ k. k is Async) refl refl refl refl refl refl (and_left (token sheet at is Async) _ t))
      (skip (name_flat (and_left (is_name (token sheet (at + 1))) _ named))
      (two at (skip (flat (λ k. k is Arrow) refl refl refl refl refl refl rest) c)))))
      (λ _. follows (asked (binary 0 at))
      (λ left rs b. test (kind_of (tree left) is Row.Identifier and token sheet left.end is Arrow)
      (λ t. so (asked (body Row.Arrow at left.end (one (leaf Row.BindingName at))))
      (λ end trees more c. joined b (skip (flat (λ k. k is Arrow) refl refl refl refl refl refl (and_right (kind_of (tree left) is Row.Identifier) _ t)) c)))
      (λ _. test (is_assignment_operator (token sheet left.end))
      (λ t. so (asked (assign at left.end (tree left))) (λ end trees more c. joined b (skip (assignment_flat t) c)))
      (λ _. token_test sheet _ _ (λ t. so (asked (conditional at left.end (tree left))) (λ end trees more c. joined b (before t refl c)))
      (yields _ _ b)))))
  step_shape (assign first at left) =
      follows (target (if token sheet at is Eq then any else simple) at left)
      (λ target rs e. follows (asked (assignment (at + 1))) (λ right more c. yields _ _ c))
  step_shape (conditional first at left) =
      follows (asked (assignment (at + 1)))
      (λ if_true rs b. wants sheet _ _ _ tt
      (λ t. follows (asked (assignment (if_true.end + 1))) (λ if_false more c. yields _ _ (joined b (before t refl c)))))
  -- 13.6 to 13.13
  step_shape (binary floor at) = follows (asked (unary at)) (λ left rs b. so (asked (operators floor at left.end (tree left))) (λ end trees more c. joined b c))
  step_shape (operators floor first at left) =
      test (ltb floor (expression_level (token sheet at)))
      (λ t. follows (asked (binary (right_floor (token sheet at)) (at + 1)))
      (λ right rs b. says _ (so (asked (operators floor first right.end (node (operation_kind (token sheet at)) at first right.end (cons left right.trees))))
      (λ end trees more c. skip (operator_flat floor t) (joined b c)))))
      (λ _. yields _ _ none)
  -- 13.5 and 13.4
  step_shape (unary at) =
      test (is_unary_operator (token sheet at))
      (λ t. follows (asked (unary (at + 1))) (λ operand rs b. yields _ _ (skip (unary_flat t) b)))
      (λ _. test (is_update_operator (token sheet at))
      (λ t. follows (asked (unary (at + 1)))
      (λ operand rs b. follows (target simple operand.end (tree operand)) (λ target more e. yields _ _ (skip (update_flat t) (rw e b)))))
      (λ _. asked (postfix at)))
  step_shape (postfix at) =
      follows (asked (left_hand_side at))
      (λ operand rs b. test (is_update_operator (token sheet operand.end) and not (break_before sheet operand.end))
      (λ t. follows (target simple operand.end (tree operand))
      (λ target more e. yields _ _ (rw e (joined b (skip (update_flat (and_left (is_update_operator (token sheet operand.end)) _ t)) none)))))
      (λ _. yields _ _ b))
  -- 13.3
  step_shape (left_hand_side at) = follows (asked (primary at)) (λ base rs b. so (asked (links at base.end (tree base))) (λ end trees more c. joined b c))
  step_shape (links first at left) =
      token_test sheet _ _
      (λ t. test (is_word (token sheet (at + 1)))
      (λ w. so (asked (links first (at + 2) (node Row.Member (at + 1) first (at + 2) (one left)))) (λ end trees more c. before t refl (skip (word_flat w) (two at c))))
      (λ _. refuses _ tt))
      (token_test sheet _ _
      (λ t. follows (asked (expression (at + 1)))
      (λ inner rs b. wants sheet _ _ _ tt
      (λ u. so (asked (links first (inner.end + 1) (node Row.Index first first (inner.end + 1) (cons left inner.trees)))) (λ end trees more c. joined (around t refl b u refl) c))))
      (token_test sheet _ _
      (λ t. follows (asked (arguments first (at + 1) (one left)))
      (λ call rs b. so (asked (links first call.end (tree call))) (λ end trees more c. joined (around_list t refl b) c)))
      (yields _ _ none)))
  step_shape (arguments first at so_far) =
      token_test sheet _ _ (λ t. yields _ _ (closed_here t refl))
      (follows (or_spread at (assignment at) (asked (assignment at)) (token sheet at is Dot3) refl)
      (λ argument rs b. token_test sheet _ _
      (λ t. so (asked (arguments first (argument.end + 1) (join so_far argument.trees))) (λ end trees more c. closed_on (after b t refl) c))
      (wants sheet _ _ _ tt (λ t. yields _ _ (closed_after b t refl)))))
  -- 13.2
  step_shape (primary at) =
      test (is_name (token sheet at)) (λ t. yields _ _ (skip (name_flat t) none))
      (λ _. token_test sheet _ _ (λ t. yields _ _ (before t refl none))
      (test (is_literal (token sheet at)) (λ t. yields _ _ (skip (literal_flat t) none))
      (λ _. token_test sheet _ _
      (λ t. follows (asked (expression (at + 1))) (λ inner rs b. wants sheet _ _ _ tt (λ u. yields _ _ (around t refl b u refl))))
      (token_test sheet _ _ (λ t. so (asked (elements at (at + 1) Row.Array nil)) (λ end trees more c. around_list t refl c))
      (wants sheet _ _ _ tt (λ t. so (asked (properties at (at + 1) Row.Object nil)) (λ end trees more c. around_list t refl c)))))))
  step_shape (elements first at kind so_far) =
      token_test sheet _ _ (λ t. yields _ _ (closed_here t refl))
      (token_test sheet _ _ (λ t. so (asked (elements first (at + 1) Row.Array (join so_far (one (leaf Row.Hole at))))) (λ end trees more c. closed_on (before t refl none) c))
      (follows (or_spread at (assignment at) (asked (assignment at)) (token sheet at is Dot3) refl)
      (λ element rs b. token_test sheet _ _
      (λ t. so (asked (elements first (element.end + 1) (if token sheet at is Dot3 then Row.ArrayRestComma else Row.Array) (join so_far element.trees)))
      (λ end trees more c. closed_on (after b t refl) c))
      (wants sheet _ _ _ tt (λ t. yields _ _ (closed_after b t refl))))))
  step_shape (properties first at kind so_far) =
      token_test sheet _ _ (λ t. yields _ _ (closed_here t refl))
      (follows (or_spread at (property at) (asked (property at)) (token sheet at is Dot3) refl)
      (λ part rs b. token_test sheet _ _
      (λ t. so (asked (properties first (part.end + 1) (if token sheet at is Dot3 then Row.ObjectRestComma else Row.Object) (join so_far part.trees)))
      (λ end trees more c. closed_on (after b t refl) c))
      (wants sheet _ _ _ tt (λ t. yields _ _ (closed_after b t refl)))))
  step_shape (property at) =
      test (is_name (token sheet at) and not (token sheet (at + 1) is Colon))
      (λ t. let n = name_flat (and_left (is_name (token sheet at)) _ t) in token_test sheet _ _
      (λ u. follows (asked (assignment (at + 2))) (λ initializer rs b. yields _ _ (skip n (before u refl (two at b)))))
      (yields _ _ (skip n none)))
      (λ _. follows (asked (key at))
      (λ name rs b. wants sheet _ _ _ tt (λ t. follows (asked (assignment (name.end + 1))) (λ content more c. yields _ _ (joined b (before t refl c))))))
  step_shape (key at) =
      test (is_word (token sheet at) or token sheet at is Str or token sheet at is Number) (λ t. yields _ _ (skip (key_flat t) none))
      (λ _. wants sheet _ _ _ tt
      (λ t. follows (asked (assignment (at + 1))) (λ inner rs b. wants sheet _ _ _ tt (λ u. yields _ _ (around t refl b u refl)))))
  step_shape (spread at) = follows (asked (assignment (at + 1))) (λ argument rs b. yields _ _ b)
  -- 14.3.3
  step_shape (binding at) =
      test (is_name (token sheet at)) (λ t. yields _ _ (skip (name_flat t) none))
      (λ _. token_test sheet _ _ (λ t. so (asked (binding_elements at (at + 1) nil)) (λ end trees more c. around_list t refl c))
      (wants sheet _ _ _ tt (λ t. so (asked (binding_properties at (at + 1) nil)) (λ end trees more c. around_list t refl c))))
  step_shape (binding_element at) =
      follows (asked (binding at))
      (λ target rs b. token_test sheet _ _
      (λ t. follows (asked (assignment (target.end + 1))) (λ initializer more c. yields _ _ (joined b (before t refl c))))
      (yields _ _ b))
  step_shape (binding_elements first at so_far) =
      token_test sheet _ _ (λ t. yields _ _ (closed_here t refl))
      (token_test sheet _ _ (λ t. so (asked (binding_elements first (at + 1) (join so_far (one (leaf Row.Hole at))))) (λ end trees more c. closed_on (before t refl none) c))
      (token_test sheet _ _ (λ t. follows (rest_shape at t) (λ rest rs b. wants sheet _ _ _ tt (λ u. yields _ _ (closed_after b u refl))))
      (follows (asked (binding_element at))
      (λ element rs b. token_test sheet _ _
      (λ t. so (asked (binding_elements first (element.end + 1) (join so_far element.trees))) (λ end trees more c. closed_on (after b t refl) c))
      (wants sheet _ _ _ tt (λ t. yields _ _ (closed_after b t refl)))))))
  step_shape (binding_properties first at so_far) =
      token_test sheet _ _ (λ t. yields _ _ (closed_here t refl))
      (token_test sheet _ _
      (λ t. follows (rest_shape at t)
      (λ rest rs b. wants sheet _ _ _ tt
      (λ u. test (kind_of (argument_of (tree rest)) is Row.BindingName) (λ _. yields _ _ (closed_after b u refl)) (λ _. refuses _ tt))))
      (follows (asked (binding_property at))
      (λ part rs b. token_test sheet _ _
      (λ t. so (asked (binding_properties first (part.end + 1) (join so_far part.trees))) (λ end trees more c. closed_on (after b t refl) c))
      (wants sheet _ _ _ tt (λ t. yields _ _ (closed_after b t refl))))))
  step_shape (binding_property at) =
      test (is_name (token sheet at) and not (token sheet (at + 1) is Colon))
      (λ t. let n = name_flat (and_left (is_name (token sheet at)) _ t) in token_test sheet _ _
      (λ u. follows (asked (assignment (at + 2))) (λ initializer rs b. yields _ _ (skip n (before u refl (two at b)))))
      (yields _ _ (skip n none)))
      (λ _. follows (asked (key at))
      (λ name rs b. wants sheet _ _ _ tt (λ t. follows (asked (binding_element (name.end + 1))) (λ content more c. yields _ _ (joined b (before t refl c))))))
  step_shape (binding_rest at) = follows (asked (binding_element (at + 1))) (λ argument rs b. says _ (yields _ _ b))
  step_shape (head at) =
      token_test sheet _ _
      (λ t. test (not (break_before sheet (at + 1))) (λ _. parenthesized_head_shape at (at + 1) (after_async t.kind_is refl)) (λ _. refuses _ tt))
      (parenthesized_head_shape at at (bare refl))
  step_shape (parameters at so_far) =
      token_test sheet _ _ (λ t. yields _ _ (closed_here t refl))
      (token_test sheet _ _ (λ t. follows (rest_shape at t) (λ rest rs b. wants sheet _ _ _ tt (λ u. yields _ _ (closed_after b u refl))))
      (follows (asked (binding_element at))
      (λ parameter rs b. token_test sheet _ _
      (λ t. so (asked (parameters (parameter.end + 1) (join so_far parameter.trees))) (λ end trees more c. closed_on (after b t refl) c))
      (wants sheet _ _ _ tt (λ t. yields _ _ (closed_after b t refl))))))
  step_shape (body kind first at so_far) =
      says _ (test (not (token sheet (at + 1) is LCurly))
      (λ _. follows (asked (assignment (at + 1))) (λ inner rs b. yields _ _ b))
      (λ _. refuses _ tt))

-- THE STATEMENT: what is done is balanced, with any policy, from any notes, at any bound on the steps
module _ {N : Type 0} (policy : Policy N) (sheet : Sheet) where
  preserved : Preserved policy sheet Any (Shaped sheet) Nothing
  preserved = record { with = λ ask h. record { with = λ job _. step_shape policy sheet h job } }

  pub all_balanced : (steps : ℕ) → Answers {N = N} Any (Shaped sheet) Nothing (read policy sheet steps)
  all_balanced steps = good policy sheet Any (Shaped sheet) Nothing preserved steps

  pub balanced : (steps : ℕ) (job : Job) (notes : N) {end : ℕ} {trees : Forest} {records : List Record} {after : N}
      → read policy sheet steps job notes ≡ done end trees records after → Shape sheet job end
  balanced steps job notes e = good_done policy sheet Any (Shaped sheet) Nothing steps (all_balanced steps) job tt notes e
