-- How much work a reading is, with any policy: from a place to another at most 13 productions a token and one more, and where it fails at most 13 a token up to where the
-- open brackets are closed; and for each head that is given up at most 13 a token of that head and 5 more.
-- The statement, at the end: `work`. Assumes nothing.
use Rattle.std.specs.Prelude.{if◌then◌else◌}
use Prim.Native.Nat.{ℕ, zero, suc, ◌+◌, ◌-◌, ◌*◌, ◌≤◌, ◌<◌, min}
use mathlib.Core.Path.{◌≡◌, refl, ◌∙◌}
use mathlib.Core.Bool.{Bool, true, false, not}
use mathlib.Core.List.{List, [], ◌∷◌}
use native.Mathlib.Omega.{arith}
use lib.Dec.{ltb}
use lib.ListN.{length}
use borrow.Author.Tests.{eqb-true, eq-eqb}
use Rattle.tokens.specs.Bool.{◌or◌, ◌and◌, ◌is◌}
use Rattle.tokens.specs.Kind.{Async, Str, Number, LParen, LCurly, Colon, Dot3, Arrow, Eq}
use Rattle.tokens.specs.Token.{is_name, is_word, is_literal}
use Rattle.tokens.specs.declared.cause.Cause.{Cause}
use Rattle.tokens.proofs.Stands.{stands}
use Rattle.operators.specs.Precedence.{expression_level}
use Rattle.rows.specs.Row as Row
use Rattle.rows.specs.Tree.{Tree, Forest, node, nil, cons, one, join, kind_of}
use Rattle.rows.specs.Record.{Record}
use Rattle.conversion.specs.Conversion.{Role, any, simple, Outcome, turned, refused, convert_as}
use Rattle.grammar.specs.Sheet.{Sheet, token, break_before, Out, done, fail, stuck, Reading, Part, tree, leaf, after_records, and_then, or_else, ◌>>=◌, try, yield, refuse, say}
use Rattle.grammar.specs.Job.{Job, expression, sequence, assignment, value, assign, conditional, binary, operators, unary, postfix, left_hand_side, links, arguments, primary, elements, properties, property, key, spread, binding, binding_element, binding_elements, binding_properties, binding_property, binding_rest, head, parameters, body, Asks}
use Rattle.grammar.specs.Comma.{expression_of, sequence_of}
use Rattle.grammar.specs.Assignment.{is_assignment_operator, assign_of, conditional_of, after_binary, is_async_name, value_of}
use Rattle.grammar.specs.Binary.{operation_kind, right_floor, binary_of, operators_of}
use Rattle.grammar.specs.Update.{is_unary_operator, is_update_operator, converted_to, converted, unary_of, postfix_of}
use Rattle.grammar.specs.LeftHandSide.{left_hand_side_of, links_of, arguments_of}
use Rattle.grammar.specs.Primary.{parenthesized_of, primary_of, spread_of, elements_of, properties_of, shorthand_of, property_of, key_of}
use Rattle.grammar.specs.Binding.{binding_of, binding_element_of, binding_rest_of, binding_elements_of, argument_of, binding_properties_of, binding_shorthand_of, binding_property_of}
use Rattle.grammar.specs.Arrow.{Way, pass, attempt, commit, Policy, by_way, choose, noting, arrow_of, assignment_of, parenthesized_head_of, head_of, parameters_of, body_of}
use Rattle.grammar.specs.Step.{step}
use Rattle.laws.specs.Settles.{place_of, rank, looked_at}
use Rattle.laws.proofs.Good.{Meaning, Stands, Ends, ends_done, ends_fail, ends_stuck, Reads, Answers, inside, and_left, and_right, both}
use Rattle.laws.proofs.Bounds.{limits, Bound, step_bound}
use Rattle.laws.proofs.Rel.{operator_inside, async_inside}
use Rattle.laws.proofs.Balanced.{side_of, Side, Balanced, none, skip, name_flat, word_flat, operator_flat, flat}
use Rattle.laws.proofs.Readings.{Closes, side, two, unary_flat, update_flat, assignment_flat, around, around_list, whole_head, Shape, Shaped, step_shape}
use Rattle.agreement.specs.Terms.{Counted, tick, counting, count}
use Rattle.agreement.proofs.Bounds.{spare}
use Rattle.agreement.proofs.Scope.{scope, head_start, reach, closing_flat, closing_here, closing_later, closing_balanced, scope_in}

-- the most that a head costs that is given up at a place
unfoldable pub price : Sheet → ℕ → ℕ
price sheet at = 13 * (reach sheet at - at) + 5

-- and all heads that were given up
unfoldable pub due : Sheet → List ℕ → ℕ
due sheet [] = 0
due sheet (at ∷ places) = price sheet at + due sheet places

-- how far a nonterminal that fails has looked at most
abbrev pub far : Sheet → Job → ℕ
far sheet (expression at) = scope sheet at
far sheet (sequence first comma at so_far) = scope sheet at
far sheet (assignment at) = scope sheet at
far sheet (value at) = scope sheet at
far sheet (assign first at left) = scope sheet (at + 1)
far sheet (conditional first at left) = scope sheet (at + 1)
far sheet (binary floor at) = scope sheet at
far sheet (operators floor first at left) = scope sheet at
far sheet (unary at) = scope sheet at
far sheet (postfix at) = scope sheet at
far sheet (left_hand_side at) = scope sheet at
far sheet (links first at left) = scope sheet at
far sheet (arguments first at so_far) = scope sheet at
far sheet (primary at) = scope sheet at
far sheet (elements first at kind so_far) = scope sheet at
far sheet (properties first at kind so_far) = scope sheet at
far sheet (property at) = scope sheet at
far sheet (key at) = scope sheet at
far sheet (spread at) = scope sheet (at + 1)
far sheet (binding at) = scope sheet at
far sheet (binding_element at) = scope sheet at
far sheet (binding_elements first at so_far) = scope sheet at
far sheet (binding_properties first at so_far) = scope sheet at
far sheet (binding_property at) = scope sheet at
far sheet (binding_rest at) = scope sheet (at + 1)
far sheet (head at) = reach sheet at
far sheet (parameters at so_far) = scope sheet at
far sheet (body kind first at so_far) = scope sheet (at + 1)

module _ {N : Type 0} (sheet : Sheet) (job : Job) (m : Counted N) where
  -- a nonterminal is done at an end with this work
  pub record Paid (end : ℕ) (m' : Counted N) : Type 0 where
    pub paid : m'.steps + due sheet m.dropped + 13 * place_of job + spare job ≤ m.steps + due sheet m'.dropped + 13 * end + 1

  -- it fails with this work
  pub record Lost (m' : Counted N) : Type 0 where
    pub lost : m'.steps + due sheet m.dropped + 13 * place_of job ≤ m.steps + due sheet m'.dropped + 13 * far sheet job + rank job

  -- it is done, with what else is known of it
  pub record Done (end : ℕ) (m' : Counted N) : Type 0 where
    pub forward : (limits sheet job).least ≤ end
    pub inside : end ≤ (limits sheet job).most
    pub paid : m'.steps + due sheet m.dropped + 13 * place_of job + spare job ≤ m.steps + due sheet m'.dropped + 13 * end + 1
    pub shape : Shape sheet job end

-- a nonterminal may be asked: it starts before the end or there, and the token that it starts at stands
pub record Here (sheet : Sheet) (job : Job) : Type 0 where
  pub within : place_of job ≤ length sheet.kinds
  pub stands_there : looked_at job ≤ length sheet.kinds

module _ {N : Type 0} where
  -- if it is done, P holds of the end and the notes; if it fails, F holds of the notes
  pub data Costs (P : ℕ → Counted N → Type 0) (F : Counted N → Type 0) (out : Out (Counted N)) : Type 0 where
    costs_done : (end : ℕ) (trees : Forest) (records : List Record) (m : Counted N) → out ≡ done end trees records m → P end m → Costs P F out
    costs_fail : (cause : Cause) (m : Counted N) → out ≡ fail cause m → F m → Costs P F out
    costs_stuck : out ≡ stuck → Costs P F out

  -- a reading does so from these notes
  pub record Spends (m : Counted N) (P : ℕ → Counted N → Type 0) (F : Counted N → Type 0) (reading : Reading (Counted N)) : Type 0 where
    pub with : Costs P F (reading m)

  -- the answers to all questions that may be asked
  pub record Near (sheet : Sheet) (ask : Asks (Counted N)) : Type 0 where
    pub with : (job : Job) → Here sheet job → (m : Counted N) → Spends m (Done sheet job m) (Lost sheet job m) (ask job)

-- THE WORDS
module _ {N : Type 0} {P : ℕ → Counted N → Type 0} {F : Counted N → Type 0} where
  after_records_costs : (records : List Record) {out : Out (Counted N)} → Costs P F out → Costs P F (after_records records out)
  unfolding after_records
  after_records_costs records (costs_done end trees more m e p) = rw e (costs_done end trees _ m refl p)
  after_records_costs records (costs_fail cause m e f) = rw e (costs_fail cause m refl f)
  after_records_costs records (costs_stuck e) = rw e (costs_stuck refl)

  yields : {m : Counted N} (end : ℕ) (trees : Forest) → P end m → Spends m P F (yield end trees)
  unfolding yield
  yields {m} end trees p = record { with = costs_done end trees [] m refl p }

  refuses : {m : Counted N} (cause : Cause) → F m → Spends m P F (refuse cause)
  unfolding refuse
  refuses {m} cause f = record { with = costs_fail cause m refl f }

  says : {m : Counted N} (records : List Record) {next : Reading (Counted N)} → Spends m P F next → Spends m P F (say records next)
  unfolding say
  says records s = record { with = after_records_costs records s.with }

  follows : {m : Counted N} {Q : ℕ → Counted N → Type 0} {G : Counted N → Type 0} {reading : Reading (Counted N)} {next : Part → Reading (Counted N)} → Spends m Q G reading
      → ((m' : Counted N) → G m' → F m')
      → ((part : Part) (m' : Counted N) → Q part.end m' → Spends m' P F (next part))
      → Spends m P F (reading >>= next)
  unfolding ◌>>=◌ and_then
  follows {m} {Q} {G} {reading} {next} s g h = record { with = go s.with }
    where
      go : {out : Out (Counted N)} → Costs Q G out → Costs P F (and_then out next)
      go (costs_done end trees records m' e q) = rw e (after_records_costs records (h (record { end = end; trees = trees }) m' q).with)
      go (costs_fail cause m' e f) = rw e (costs_fail cause m' refl (g m' f))
      go (costs_stuck e) = rw e (costs_stuck refl)

  tries : {m : Counted N} {Q : ℕ → Counted N → Type 0} {G : Counted N → Type 0} {reading other : Reading (Counted N)} {next : Part → Reading (Counted N)} → Spends m Q G reading
      → ((part : Part) (m' : Counted N) → Q part.end m' → Spends m' P F (next part))
      → ((m' : Counted N) → G m' → Spends m' P F other)
      → Spends m P F (try reading next other)
  unfolding try or_else
  tries {m} {Q} {G} {reading} {other} {next} s h o = record { with = go s.with }
    where
      go : {out : Out (Counted N)} → Costs Q G out → Costs P F (or_else out next other)
      go (costs_done end trees records m' e q) = rw e (after_records_costs records (h (record { end = end; trees = trees }) m' q).with)
      go (costs_fail cause m' e f) = rw e (o m' f).with
      go (costs_stuck e) = rw e (costs_stuck refl)

  test : {m : Counted N} (holds : Bool) {x y : Reading (Counted N)} → (holds ≡ true → Spends m P F x) → (holds ≡ false → Spends m P F y) → Spends m P F (if holds then x else y)
  test true h g = h refl
  test false h g = g refl

  token_test : {m : Counted N} (sheet : Sheet) (at kind : ℕ) {x y : Reading (Counted N)} → (Stands sheet at (suc kind) → Spends m P F x) → Spends m P F y
      → Spends m P F (if token sheet at is suc kind then x else y)
  token_test sheet at kind h g = test (token sheet at is suc kind) (λ e. h (record { kind_is = eqb-true _ _ e; here = stands sheet.kinds (eqb-true _ _ e) })) (λ e. g)

  -- a conversion changes no notes
  converts : {m : Counted N} (role : Role) (end : ℕ) (t : Tree) → P end m → F m → Spends m P F (converted role end t)
  unfolding converted_to
  converts {m} role end t p f = record { with = go (convert_as t role) }
    where
      go : (o : Outcome Tree) → Costs P F (converted_to end o m)
      go (turned t' records) = costs_done end (one t') records m refl p
      go (refused cause) = costs_fail cause m refl f

  pub so : {m : Counted N} {Q : ℕ → Counted N → Type 0} {G : Counted N → Type 0} {reading : Reading (Counted N)} → Spends m Q G reading
      → ((end : ℕ) (m' : Counted N) → Q end m' → P end m') → ((m' : Counted N) → G m' → F m') → Spends m P F reading
  so {m} {Q} {G} s p f = record { with = go s.with }
    where
      go : {out : Out (Counted N)} → Costs Q G out → Costs P F out
      go (costs_done end trees records m' e q) = costs_done end trees records m' e (p end m' q)
      go (costs_fail cause m' e g) = costs_fail cause m' e (f m' g)
      go (costs_stuck e) = costs_stuck e

  chooses : {m : Counted N} (way : Counted N → Way) {x y z : Reading (Counted N)} → Spends m P F x → Spends m P F y → Spends m P F z → Spends m P F (choose way x y z)
  unfolding choose by_way
  chooses {m} way {x} {y} {z} a b c = record { with = go (way m) }
    where
      go : (w : Way) → Costs P F (by_way w x y z m)
      go pass = a.with
      go attempt = b.with
      go commit = c.with

  notes : {m : Counted N} (change : Counted N → Counted N) {reading : Reading (Counted N)} → Spends (change m) P F reading → Spends m P F (noting change reading)
  unfolding noting
  notes change s = record { with = s.with }

-- the notes as they were, up to a place
record Still {N : Type 0} (sheet : Sheet) (m : Counted N) (at end : ℕ) (m' : Counted N) : Type 0 where
  there : end ≡ at
  same_steps : m'.steps ≡ m.steps
  same_due : due sheet m'.dropped ≡ due sheet m.dropped

-- an element of a list: a spread from its `...` on, or what the list is of
record Argued {N : Type 0} (sheet : Sheet) (at : ℕ) (m : Counted N) (end : ℕ) (m' : Counted N) : Type 0 where
  forward : at + 1 ≤ end
  inside : end ≤ length sheet.kinds
  paid : m'.steps + due sheet m.dropped + 13 * at + 1 ≤ m.steps + due sheet m'.dropped + 13 * end + 1
  level : scope sheet at ≡ scope sheet end

-- where it fails, with so much more
record Unargued {N : Type 0} (sheet : Sheet) (at more : ℕ) (m m' : Counted N) : Type 0 where
  lost : m'.steps + due sheet m.dropped + 13 * at ≤ m.steps + due sheet m'.dropped + 13 * scope sheet at + more

-- THE PRODUCTIONS
module _ {N : Type 0} (sheet : Sheet) {ask : Asks (Counted N)} (h : Near sheet ask) where
  asked : (job : Job) → Here sheet job → (m : Counted N) → Spends m (Done sheet job m) (Lost sheet job m) (ask job)
  asked job here m = h.with job here m

  up : (at : ℕ) → at ≤ scope sheet at
  up at = closing_later sheet at 0

  -- past what is balanced, past a token, and into a bracket
  lv : {i j : ℕ} → Balanced sheet i j → j ≤ length sheet.kinds → scope sheet i ≡ scope sheet j
  lv b l = closing_balanced 0 b l

  past : {at : ℕ} → Side sheet at 0 → at < length sheet.kinds → scope sheet at ≡ scope sheet (at + 1)
  past {at} s l = closing_flat sheet at 0 s l

  on : {at k : ℕ} → Stands sheet at k → side_of k ≡ 0 → scope sheet at ≡ scope sheet (at + 1)
  on {at} t e = closing_flat sheet at 0 (record { goes = (side t).goes ∙ e }) t.here

  into : {at k : ℕ} → Stands sheet at k → side_of k ≡ 1 → scope sheet (at + 1) ≤ scope sheet at
  into {at} t e = scope_in sheet at (record { goes = (side t).goes ∙ e }) t.here

  -- the tokens of an async arrow of one name stand before the end, and none of them is a bracket
  async_level : (at : ℕ) → is_async_name sheet at ≡ true → scope sheet at ≡ scope sheet (at + 2 + 1)
  unfolding is_async_name
  async_level at t =
      let i = async_inside sheet at t in
      let named = and_right (token sheet at is Async) _ t in
      let rest = and_right (not (break_before sheet (at + 1))) _ (and_right (is_name (token sheet (at + 1))) _ named) in
      lv (skip (flat (λ k. k is Async) refl refl refl refl refl refl (and_left (token sheet at is Async) _ t))
      (skip (name_flat (and_left (is_name (token sheet (at + 1))) _ named)) (two at (skip (flat (λ k. k is Arrow) refl refl refl refl refl refl rest) none)))) (omega arith)

  -- a spread from its `...` on, or what else the list is of
  argument_costs : (at : ℕ) (dots : Bool) (other : Job) → token sheet at is Dot3 ≡ dots → (m : Counted N) → Spends m (Argued sheet at m) (Unargued sheet at 12 m) (ask other)
      → Spends m (Argued sheet at m) (Unargued sheet at 12 m) (ask (if dots then spread at else other))
  argument_costs at true other e m s =
      let i = inside sheet at (λ k. k is Dot3) refl e in
      let flat_there = past (flat (λ k. k is Dot3) refl refl refl refl refl refl e) i in
      so (asked (spread at) (omega arith) m) (λ end m₂ c. omega (arith, lv c.shape c.inside)) (λ m₂ c. omega arith)
  argument_costs at false other e m s = s

  converted_still : (role : Role) (at : ℕ) (t : Tree) (m : Counted N) {F : Counted N → Type 0} → F m → Spends m (Still sheet m at) F (converted role at t)
  converted_still role at t m f = converts role at t (record { there = refl; same_steps = refl; same_due = refl }) f

  -- 13.15 and 13.14
  after_binary_costs : (at : ℕ) (left : Part) (m m₁ : Counted N) → Done sheet (binary 0 at) (tick m) left.end m₁
      → Spends m₁ (Paid sheet (value at) m) (Lost sheet (value at) m) (after_binary sheet ask at left)
  unfolding after_binary side_of is_assignment_operator
  after_binary_costs at left m m₁ b =
      let level = lv b.shape b.inside in
      test (kind_of (tree left) is Row.Identifier and token sheet left.end is Arrow)
      (λ t. let arrow = and_right (kind_of (tree left) is Row.Identifier) _ t in
      let i = inside sheet left.end (λ k. k is Arrow) refl arrow in
      let flat_there = past (flat (λ k. k is Arrow) refl refl refl refl refl refl arrow) i in
      so (asked (body Row.Arrow at left.end (one (leaf Row.BindingName at))) (omega arith) m₁) (λ end m₂ c. omega arith) (λ m₂ c. omega arith))
      (λ _. test (is_assignment_operator (token sheet left.end))
      (λ t. let i = inside sheet left.end is_assignment_operator refl t in
      let flat_there = past (assignment_flat t) i in
      so (asked (assign at left.end (tree left)) (omega arith) m₁) (λ end m₂ c. omega arith) (λ m₂ c. omega arith))
      (λ _. token_test sheet _ _
      (λ t. so (asked (conditional at left.end (tree left)) (omega arith) m₁) (λ end m₂ c. omega arith) (λ m₂ c. omega (arith, on t refl)))
      (yields _ _ (omega arith))))

  -- a shorthand: its name, and an initializer after `=`
  shorthand_level : (at : ℕ) → is_name (token sheet at) ≡ true → Stands sheet (at + 1) Eq → scope sheet at ≡ scope sheet (at + 2)
  unfolding side_of
  shorthand_level at n u = lv (skip (name_flat n) (skip (record { goes = (side u).goes }) (two at none))) (omega arith)

  -- a rest from its `...` on
  rest_costs : (at : ℕ) → Stands sheet at Dot3 → (m : Counted N) → Spends m (Argued sheet at m) (Unargued sheet at 1 m) (ask (binding_rest at))
  unfolding side_of
  rest_costs at t m =
      let flat_there = on t refl in
      so (asked (binding_rest at) (omega arith) m) (λ end m₂ c. omega (arith, lv c.shape c.inside)) (λ m₂ c. omega arith)

  -- how far a head can look
  reach_later : (at : ℕ) → at ≤ reach sheet at
  unfolding reach head_start
  reach_later at = go (token sheet at is Async)
    where
      went : (p : ℕ) → at ≤ p → (b : Bool) → at ≤ min (scope sheet at) (if b then scope sheet (p + 1) + 1 else at)
      went p l true = omega (arith, up at, up (p + 1))
      went p l false = omega (arith, up at)

      go : (b : Bool) → at ≤ min (scope sheet at) (if token sheet (if b then at + 1 else at) is LParen then scope sheet ((if b then at + 1 else at) + 1) + 1 else at)
      go true = went (at + 1) (omega arith) (token sheet (at + 1) is LParen)
      go false = went at (omega arith) (token sheet at is LParen)

  reach_bare : (at : ℕ) → token sheet at ≡ LParen → reach sheet at ≡ min (scope sheet at) (scope sheet (at + 1) + 1)
  unfolding reach head_start
  reach_bare at e = let a : token sheet at is Async ≡ false = rw e in rw (a, eq-eqb _ _ e)

  reach_async : (at : ℕ) → token sheet at ≡ Async → token sheet (at + 1) ≡ LParen → reach sheet at ≡ min (scope sheet at) (scope sheet (at + 1 + 1) + 1)
  unfolding reach head_start
  reach_async at e k = rw (e, k)

  closed_scope : {at end : ℕ} → Closes sheet at end → end ≤ length sheet.kinds → scope sheet at + 1 ≡ end
  closed_scope {at} {end} c l = omega (arith, c.past, lv c.inner (omega (arith, c.past)), closing_here sheet c.close c.closer (omega (arith, c.past)))

  parenthesized_head_costs : (at starts : ℕ) → at ≤ starts → starts ≤ length sheet.kinds → scope sheet at ≡ scope sheet starts
      → (token sheet starts ≡ LParen → reach sheet at ≡ min (scope sheet at) (scope sheet (starts + 1) + 1)) → (m : Counted N)
      → Spends (tick m) (Paid sheet (head at) m) (Lost sheet (head at) m) (parenthesized_head_of sheet ask starts)
  unfolding parenthesized_head_of side_of
  parenthesized_head_costs at starts l i level far_off m =
      token_test sheet _ _
      (λ t. let r = far_off t.kind_is in
      follows (asked (parameters (starts + 1) nil) (omega arith) (tick m)) (λ m' c. omega (arith, into t refl, reach_later at))
      (λ list m₁ b. token_test sheet _ _ (λ u. yields _ _ (omega arith))
      (refuses _ (omega (arith, closed_scope b.shape b.inside, lv (around_list t refl b.shape) b.inside, up list.end)))))
      (refuses _ (omega (arith, reach_later at)))

  -- 13.15, where a head is tried
  due_more : (at : ℕ) (places : List ℕ) → due sheet (at ∷ places) ≡ 13 * (reach sheet at - at) + 5 + due sheet places
  unfolding due price
  due_more at places = refl

  reach_inside : (at : ℕ) → reach sheet at ≤ scope sheet at
  unfolding reach
  reach_inside at = omega arith

  arrow_costs : (policy : Policy (Counted N)) (at : ℕ) (list : Part) (m m₁ : Counted N) → Done sheet (head at) (tick m) list.end m₁
      → Spends m₁ (Paid sheet (assignment at) m) (Lost sheet (assignment at) m) (arrow_of policy sheet ask at list)
  unfolding arrow_of side_of
  arrow_costs policy at list m m₁ b =
      let i = stands sheet.kinds b.shape.arrow in
      let level = lv (whole_head b.shape) (omega arith) in
      let further = past (record { goes = rw b.shape.arrow }) i in
      so (asked (body (if token sheet at is Async then Row.AsyncArrow else Row.Arrow) at list.end list.trees) (omega arith) m₁) (λ end m₂ c. omega arith) (λ m₂ c. omega arith)

  -- every production
  step_costs : (policy : Policy N) (job : Job) → Here sheet job → (m : Counted N) → Spends (tick m) (Paid sheet job m) (Lost sheet job m) (step (counting policy) sheet ask job)
  unfolding step expression_of sequence_of side_of value_of assign_of conditional_of binary_of operators_of unary_of postfix_of left_hand_side_of links_of arguments_of primary_of parenthesized_of spread_of elements_of properties_of property_of shorthand_of key_of binding_of binding_element_of binding_rest_of binding_elements_of binding_properties_of binding_property_of binding_shorthand_of parameters_of body_of head_of assignment_of is_unary_operator is_update_operator is_word
  -- 13.16
  step_costs policy (expression at) here m =
      follows (asked (assignment at) (omega arith) (tick m)) (λ m' c. omega arith)
      (λ part m₁ b. token_test sheet _ _
      (λ t. so (asked (sequence at part.end part.end part.trees) (omega arith) m₁) (λ end m₂ c. omega arith) (λ m₂ c. omega (arith, lv b.shape b.inside)))
      (yields _ _ (omega arith)))
  step_costs policy (sequence first comma at so_far) here m =
      token_test sheet _ _
      (λ t. follows (asked (assignment (at + 1)) (omega arith) (tick m)) (λ m' c. omega (arith, on t refl))
      (λ part m₁ b. so (asked (sequence first comma part.end (join so_far part.trees)) (omega arith) m₁) (λ end m₂ c. omega arith)
      (λ m₂ c. omega (arith, on t refl, lv b.shape b.inside))))
      (yields _ _ (omega arith))
  step_costs policy (assignment at) here m =
      let past_it : Spends (tick m) (Paid sheet (assignment at) m) (Lost sheet (assignment at) m) (ask (value at)) =
      so (asked (value at) (omega arith) (tick m)) (λ end m₂ c. omega arith) (λ m₂ c. omega arith) in
      test (token sheet at is LParen or token sheet at is Async)
      (λ _. chooses ((counting policy).way at)
      past_it
      (tries (asked (head at) (omega arith) (tick m)) (λ list m₁ b. arrow_costs (counting policy) at list m m₁ b)
      (λ m₁ c. notes ((counting policy).mark at) (so (asked (value at) (omega arith) ((counting policy).mark at m₁))
      (λ end m₂ d. omega (arith, due_more at m₁.dropped, reach_later at)) (λ m₂ d. omega (arith, due_more at m₁.dropped, reach_later at)))))
      (follows (asked (head at) (omega arith) (tick m)) (λ m' c. omega (arith, reach_inside at)) (λ list m₁ b. arrow_costs (counting policy) at list m m₁ b)))
      (λ _. past_it)
  step_costs policy (value at) here m =
      test (is_async_name sheet at)
      (λ t. so (asked (body Row.AsyncArrow at (at + 2) (one (leaf Row.BindingName (at + 1)))) (omega (arith, async_inside sheet at t)) (tick m)) (λ end m₂ c. omega arith)
      (λ m₂ c. omega (arith, async_level at t)))
      (λ _. follows (asked (binary 0 at) (omega arith) (tick m)) (λ m' c. omega arith) (λ left m₁ b. after_binary_costs at left m m₁ b))
  step_costs policy (assign first at left) here m =
      follows (converted_still (if token sheet at is Eq then any else simple) at left (tick m) {F = Lost sheet (assign first at left) m} (omega (arith, up (at + 1)))) (λ m' c. c)
      (λ target m₁ b. follows (asked (assignment (at + 1)) (omega arith) m₁) (λ m' c. omega arith) (λ right m₂ c. yields _ _ (omega arith)))
  step_costs policy (conditional first at left) here m =
      follows (asked (assignment (at + 1)) (omega arith) (tick m)) (λ m' c. omega arith)
      (λ if_true m₁ b. let level = lv b.shape b.inside in token_test sheet _ _
      (λ t. follows (asked (assignment (if_true.end + 1)) (omega arith) m₁) (λ m' c. omega (arith, on t refl)) (λ if_false m₂ c. yields _ _ (omega arith)))
      (refuses _ (omega (arith, up if_true.end))))
  -- 13.6 to 13.13
  step_costs policy (binary floor at) here m =
      follows (asked (unary at) (omega arith) (tick m)) (λ m' c. omega arith)
      (λ left m₁ b. so (asked (operators floor at left.end (tree left)) (omega arith) m₁) (λ end m₂ c. omega arith) (λ m₂ c. omega (arith, lv b.shape b.inside)))
  step_costs policy (operators floor first at left) here m =
      test (ltb floor (expression_level (token sheet at)))
      (λ t. let i = operator_inside sheet at floor t in let flat_there = past (operator_flat floor t) i in
      follows (asked (binary (right_floor (token sheet at)) (at + 1)) (omega arith) (tick m)) (λ m' c. omega arith)
      (λ right m₁ b. says _ (so (asked (operators floor first right.end (node (operation_kind (token sheet at)) at first right.end (cons left right.trees))) (omega arith) m₁)
      (λ end m₂ c. omega arith) (λ m₂ c. omega (arith, lv b.shape b.inside)))))
      (λ _. yields _ _ (omega arith))
  step_costs policy (unary at) here m =
      test (is_unary_operator (token sheet at))
      (λ t. let i = inside sheet at is_unary_operator refl t in let flat_there = past (unary_flat t) i in
      follows (asked (unary (at + 1)) (omega arith) (tick m)) (λ m' c. omega arith) (λ operand m₁ b. yields _ _ (omega arith)))
      (λ _. test (is_update_operator (token sheet at))
      (λ t. let i = inside sheet at is_update_operator refl t in let flat_there = past (update_flat t) i in
      follows (asked (unary (at + 1)) (omega arith) (tick m)) (λ m' c. omega arith)
      (λ operand m₁ b. follows (converted_still simple operand.end (tree operand) m₁ {F = Lost sheet (unary at) m} (omega (arith, lv b.shape b.inside, up operand.end))) (λ m' c. c)
      (λ target m₂ c. yields _ _ (omega arith))))
      (λ _. so (asked (postfix at) (omega arith) (tick m)) (λ end m₂ c. omega arith) (λ m₂ c. omega arith)))
  step_costs policy (postfix at) here m =
      follows (asked (left_hand_side at) (omega arith) (tick m)) (λ m' c. omega arith)
      (λ operand m₁ b. test (is_update_operator (token sheet operand.end) and not (break_before sheet operand.end))
      (λ t. follows (converted_still simple operand.end (tree operand) m₁ {F = Lost sheet (postfix at) m} (omega (arith, lv b.shape b.inside, up operand.end))) (λ m' c. c)
      (λ target m₂ c. yields _ _ (omega arith)))
      (λ _. yields _ _ (omega arith)))
  -- 13.3
  step_costs policy (left_hand_side at) here m =
      follows (asked (primary at) (omega arith) (tick m)) (λ m' c. omega arith)
      (λ base m₁ b. so (asked (links at base.end (tree base)) (omega arith) m₁) (λ end m₂ c. omega arith) (λ m₂ c. omega (arith, lv b.shape b.inside)))
  step_costs policy (links first at left) here m =
      token_test sheet _ _
      (λ t. test (is_word (token sheet (at + 1)))
      (λ w. let i = inside sheet (at + 1) is_word refl w in
      so (asked (links first (at + 2) (node Row.Member (at + 1) first (at + 2) (one left))) (omega arith) (tick m)) (λ end m₂ c. omega arith)
      (λ m₂ c. omega (arith, lv (skip (record { goes = (side t).goes }) (skip (word_flat w) (two at none))) (omega arith))))
      (λ _. refuses _ (omega (arith, up at))))
      (token_test sheet _ _
      (λ t. follows (asked (expression (at + 1)) (omega arith) (tick m)) (λ m' c. omega (arith, into t refl))
      (λ inner m₁ b. token_test sheet _ _
      (λ u. so (asked (links first (inner.end + 1) (node Row.Index first first (inner.end + 1) (cons left inner.trees))) (omega arith) m₁) (λ end m₂ c. omega arith)
      (λ m₂ c. omega (arith, lv (around t refl b.shape u refl) (omega arith))))
      (refuses _ (omega (arith, into t refl, lv b.shape b.inside, up inner.end)))))
      (token_test sheet _ _
      (λ t. follows (asked (arguments first (at + 1) (one left)) (omega arith) (tick m)) (λ m' c. omega (arith, into t refl))
      (λ call m₁ b. so (asked (links first call.end (tree call)) (omega arith) m₁) (λ end m₂ c. omega arith) (λ m₂ c. omega (arith, lv (around_list t refl b.shape) b.inside))))
      (yields _ _ (omega arith))))
  step_costs policy (arguments first at so_far) here m =
      token_test sheet _ _ (λ t. yields _ _ (omega arith))
      (follows (argument_costs at (token sheet at is Dot3) (assignment at) refl (tick m)
      (so (asked (assignment at) (omega arith) (tick m)) (λ end m₂ c. omega (arith, lv c.shape c.inside)) (λ m₂ c. omega arith))) (λ m' c. omega arith)
      (λ argument m₁ b. token_test sheet _ _
      (λ t. so (asked (arguments first (argument.end + 1) (join so_far argument.trees)) (omega arith) m₁) (λ end m₂ c. omega arith) (λ m₂ c. omega (arith, on t refl)))
      (token_test sheet _ _ (λ t. yields _ _ (omega arith)) (refuses _ (omega (arith, up argument.end))))))
  -- 13.2
  step_costs policy (primary at) here m =
      test (is_name (token sheet at)) (λ t. yields _ _ (omega arith))
      (λ _. token_test sheet _ _ (λ t. yields _ _ (omega arith))
      (test (is_literal (token sheet at)) (λ t. yields _ _ (omega arith))
      (λ _. token_test sheet _ _
      (λ t. follows (asked (expression (at + 1)) (omega arith) (tick m)) (λ m' c. omega (arith, into t refl))
      (λ inner m₁ b. token_test sheet _ _ (λ u. yields _ _ (omega arith)) (refuses _ (omega (arith, into t refl, lv b.shape b.inside, up inner.end)))))
      (token_test sheet _ _ (λ t. so (asked (elements at (at + 1) Row.Array nil) (omega arith) (tick m)) (λ end m₂ c. omega arith) (λ m₂ c. omega (arith, into t refl)))
      (token_test sheet _ _ (λ t. so (asked (properties at (at + 1) Row.Object nil) (omega arith) (tick m)) (λ end m₂ c. omega arith) (λ m₂ c. omega (arith, into t refl)))
      (refuses _ (omega (arith, up at))))))))
  step_costs policy (elements first at kind so_far) here m =
      token_test sheet _ _ (λ t. yields _ _ (omega arith))
      (token_test sheet _ _
      (λ t. so (asked (elements first (at + 1) Row.Array (join so_far (one (leaf Row.Hole at)))) (omega arith) (tick m)) (λ end m₂ c. omega arith) (λ m₂ c. omega (arith, on t refl)))
      (follows (argument_costs at (token sheet at is Dot3) (assignment at) refl (tick m)
      (so (asked (assignment at) (omega arith) (tick m)) (λ end m₂ c. omega (arith, lv c.shape c.inside)) (λ m₂ c. omega arith))) (λ m' c. omega arith)
      (λ element m₁ b. token_test sheet _ _
      (λ t. so (asked (elements first (element.end + 1) (if token sheet at is Dot3 then Row.ArrayRestComma else Row.Array) (join so_far element.trees)) (omega arith) m₁)
      (λ end m₂ c. omega arith) (λ m₂ c. omega (arith, on t refl)))
      (token_test sheet _ _ (λ t. yields _ _ (omega arith)) (refuses _ (omega (arith, up element.end)))))))
  step_costs policy (properties first at kind so_far) here m =
      token_test sheet _ _ (λ t. yields _ _ (omega arith))
      (follows (argument_costs at (token sheet at is Dot3) (property at) refl (tick m)
      (so (asked (property at) (omega arith) (tick m)) (λ end m₂ c. omega (arith, lv c.shape c.inside)) (λ m₂ c. omega arith))) (λ m' c. omega arith)
      (λ part m₁ b. token_test sheet _ _
      (λ t. so (asked (properties first (part.end + 1) (if token sheet at is Dot3 then Row.ObjectRestComma else Row.Object) (join so_far part.trees)) (omega arith) m₁)
      (λ end m₂ c. omega arith) (λ m₂ c. omega (arith, on t refl)))
      (token_test sheet _ _ (λ t. yields _ _ (omega arith)) (refuses _ (omega (arith, up part.end))))))
  step_costs policy (property at) here m =
      test (is_name (token sheet at) and not (token sheet (at + 1) is Colon))
      (λ n. token_test sheet _ _
      (λ t. follows (asked (assignment (at + 2)) (omega arith) (tick m)) (λ m' c. omega (arith, shorthand_level at (and_left (is_name (token sheet at)) _ n) t))
      (λ initializer m₁ b. yields _ _ (omega arith)))
      (yields _ _ (omega arith)))
      (λ _. follows (asked (key at) (omega arith) (tick m)) (λ m' c. omega arith)
      (λ name m₁ b. let level = lv b.shape b.inside in token_test sheet _ _
      (λ t. follows (asked (assignment (name.end + 1)) (omega arith) m₁) (λ m' c. omega (arith, on t refl)) (λ content m₂ c. yields _ _ (omega arith)))
      (refuses _ (omega (arith, up name.end)))))
  step_costs policy (key at) here m =
      test (is_word (token sheet at) or token sheet at is Str or token sheet at is Number) (λ t. yields _ _ (omega arith))
      (λ _. token_test sheet _ _
      (λ t. follows (asked (assignment (at + 1)) (omega arith) (tick m)) (λ m' c. omega (arith, into t refl))
      (λ inner m₁ b. token_test sheet _ _ (λ u. yields _ _ (omega arith)) (refuses _ (omega (arith, into t refl, lv b.shape b.inside, up inner.end)))))
      (refuses _ (omega (arith, up at))))
  step_costs policy (spread at) here m = follows (asked (assignment (at + 1)) (omega arith) (tick m)) (λ m' c. omega arith) (λ argument m₁ b. yields _ _ (omega arith))
  -- 14.3.3
  step_costs policy (binding at) here m =
      test (is_name (token sheet at)) (λ t. yields _ _ (omega arith))
      (λ _. token_test sheet _ _ (λ t. so (asked (binding_elements at (at + 1) nil) (omega arith) (tick m)) (λ end m₂ c. omega arith) (λ m₂ c. omega (arith, into t refl)))
      (token_test sheet _ _ (λ t. so (asked (binding_properties at (at + 1) nil) (omega arith) (tick m)) (λ end m₂ c. omega arith) (λ m₂ c. omega (arith, into t refl)))
      (refuses _ (omega (arith, up at)))))
  step_costs policy (binding_element at) here m =
      follows (asked (binding at) (omega arith) (tick m)) (λ m' c. omega arith)
      (λ target m₁ b. token_test sheet _ _
      (λ t. follows (asked (assignment (target.end + 1)) (omega arith) m₁) (λ m' c. omega (arith, on t refl, lv b.shape b.inside)) (λ initializer m₂ c. yields _ _ (omega arith)))
      (yields _ _ (omega arith)))
  step_costs policy (binding_elements first at so_far) here m =
      token_test sheet _ _ (λ t. yields _ _ (omega arith))
      (token_test sheet _ _
      (λ t. so (asked (binding_elements first (at + 1) (join so_far (one (leaf Row.Hole at)))) (omega arith) (tick m)) (λ end m₂ c. omega arith) (λ m₂ c. omega (arith, on t refl)))
      (token_test sheet _ _
      (λ t. follows (rest_costs at t (tick m)) (λ m' c. omega arith)
      (λ rest m₁ b. token_test sheet _ _ (λ u. yields _ _ (omega arith)) (refuses _ (omega (arith, up rest.end)))))
      (follows (asked (binding_element at) (omega arith) (tick m)) (λ m' c. omega arith)
      (λ element m₁ b. let level = lv b.shape b.inside in token_test sheet _ _
      (λ t. so (asked (binding_elements first (element.end + 1) (join so_far element.trees)) (omega arith) m₁) (λ end m₂ c. omega arith) (λ m₂ c. omega (arith, on t refl)))
      (token_test sheet _ _ (λ t. yields _ _ (omega arith)) (refuses _ (omega (arith, up element.end))))))))
  step_costs policy (binding_properties first at so_far) here m =
      token_test sheet _ _ (λ t. yields _ _ (omega arith))
      (token_test sheet _ _
      (λ t. follows (rest_costs at t (tick m)) (λ m' c. omega arith)
      (λ rest m₁ b. token_test sheet _ _
      (λ u. test (kind_of (argument_of (tree rest)) is Row.BindingName) (λ _. yields _ _ (omega arith)) (λ _. refuses _ (omega (arith, up rest.end))))
      (refuses _ (omega (arith, up rest.end)))))
      (follows (asked (binding_property at) (omega arith) (tick m)) (λ m' c. omega arith)
      (λ part m₁ b. let level = lv b.shape b.inside in token_test sheet _ _
      (λ t. so (asked (binding_properties first (part.end + 1) (join so_far part.trees)) (omega arith) m₁) (λ end m₂ c. omega arith) (λ m₂ c. omega (arith, on t refl)))
      (token_test sheet _ _ (λ t. yields _ _ (omega arith)) (refuses _ (omega (arith, up part.end)))))))
  step_costs policy (binding_property at) here m =
      test (is_name (token sheet at) and not (token sheet (at + 1) is Colon))
      (λ n. token_test sheet _ _
      (λ t. follows (asked (assignment (at + 2)) (omega arith) (tick m)) (λ m' c. omega (arith, shorthand_level at (and_left (is_name (token sheet at)) _ n) t))
      (λ initializer m₁ b. yields _ _ (omega arith)))
      (yields _ _ (omega arith)))
      (λ _. follows (asked (key at) (omega arith) (tick m)) (λ m' c. omega arith)
      (λ name m₁ b. let level = lv b.shape b.inside in token_test sheet _ _
      (λ t. follows (asked (binding_element (name.end + 1)) (omega arith) m₁) (λ m' c. omega (arith, on t refl)) (λ content m₂ c. yields _ _ (omega arith)))
      (refuses _ (omega (arith, up name.end)))))
  step_costs policy (binding_rest at) here m =
      follows (asked (binding_element (at + 1)) (omega arith) (tick m)) (λ m' c. omega arith) (λ argument m₁ b. says _ (yields _ _ (omega arith)))
  step_costs policy (head at) here m =
      token_test sheet _ _
      (λ t. test (not (break_before sheet (at + 1)))
      (λ _. parenthesized_head_costs at (at + 1) (omega arith) (omega arith) (on t refl) (reach_async at t.kind_is) m)
      (λ _. refuses _ (omega (arith, reach_later at))))
      (parenthesized_head_costs at at (omega arith) (omega arith) refl (reach_bare at) m)
  -- 15.3 and 15.9
  step_costs policy (parameters at so_far) here m =
      token_test sheet _ _ (λ t. yields _ _ (omega arith))
      (token_test sheet _ _
      (λ t. follows (rest_costs at t (tick m)) (λ m' c. omega arith)
      (λ rest m₁ b. token_test sheet _ _ (λ u. yields _ _ (omega arith)) (refuses _ (omega (arith, up rest.end)))))
      (follows (asked (binding_element at) (omega arith) (tick m)) (λ m' c. omega arith)
      (λ parameter m₁ b. let level = lv b.shape b.inside in token_test sheet _ _
      (λ t. so (asked (parameters (parameter.end + 1) (join so_far parameter.trees)) (omega arith) m₁) (λ end m₂ c. omega arith) (λ m₂ c. omega (arith, on t refl)))
      (token_test sheet _ _ (λ t. yields _ _ (omega arith)) (refuses _ (omega (arith, up parameter.end)))))))
  step_costs policy (body kind first at so_far) here m =
      says _ (test (not (token sheet (at + 1) is LCurly))
      (λ _. follows (asked (assignment (at + 1)) (omega arith) (tick m)) (λ m' c. omega arith) (λ inner m₁ b. yields _ _ (omega arith)))
      (λ _. refuses _ (omega (arith, up (at + 1)))))

-- THE STATEMENT, with any policy
module _ {N : Type 0} (policy : Policy N) (sheet : Sheet) where
  -- what else is known of a nonterminal that is done
  known : (Good : Job → Meaning)
      → ((ask : Asks (Counted N)) → Answers (λ job. Unit {0}) Good (λ cause. Unit {0}) ask → (job : Job) → Reads (Good job) (λ cause. Unit {0}) (step (counting policy) sheet ask job))
      → (f : ℕ) → Answers (λ job. Unit {0}) Good (λ cause. Unit {0}) (count policy sheet f)
  unfolding count
  known Good p zero = record { with = λ job _. record { with = λ m. ends_stuck refl } }
  known Good p (suc f) = record { with = λ job _. record { with = λ m. (p _ (known Good p f) job).with (tick m) } }

  all_known : (job : Job) (m : Counted N) {out : Out (Counted N)} → Costs (Paid sheet job m) (Lost sheet job m) out
      → Ends (λ end trees records. Bound (limits sheet job) end trees records × Shaped sheet job end trees records) (λ cause. Unit {0}) out → Costs (Done sheet job m) (Lost sheet job m) out
  all_known job m (costs_done end trees records m' e p) (ends_done end₁ _ _ _ e₁ b) =
      let bound = b.0 in
      let q : end₁ ≡ end = cc in
      costs_done end trees records m' e (record { forward = omega arith; inside = omega arith; paid = p.paid; shape = rw q at b.1 })
  all_known job m (costs_done end trees records m' e p) (ends_fail _ _ e₁ _) = let z : ◌≡◌ {A = ℕ} 0 1 = cc in absurd (omega arith)
  all_known job m (costs_done end trees records m' e p) (ends_stuck e₁) = let z : ◌≡◌ {A = ℕ} 0 1 = cc in absurd (omega arith)
  all_known job m (costs_fail cause m' e f) b = costs_fail cause m' e f
  all_known job m (costs_stuck e) b = costs_stuck e

  pub works : (f : ℕ) → Near {N = N} sheet (count policy sheet f)
  unfolding count
  works zero = record { with = λ job here m. record { with = costs_stuck refl } }
  works (suc f) =
      let bound = known (λ job. Bound (limits sheet job)) (λ ask a job. step_bound (counting policy) sheet a job) (suc f) in
      let shape = known (Shaped sheet) (λ ask a job. step_shape (counting policy) sheet a job) (suc f) in
      record {
        with = λ job here m. record { with = all_known job m (step_costs sheet (works f) policy job here m).with ((both (bound.with job tt) (shape.with job tt)).with m) };
      }
