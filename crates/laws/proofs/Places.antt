-- Where things stand: the place of a refusal is that of a token, or the end; and every row of a reading lies where it was read: it begins before it
-- ends, its mark is inside it, and its kids lie inside it one after the other.
-- The statements, at the end: `lies_at`, `refused_inside`; of whole readings `whole_lies`, `refusal_inside`. Assumes nothing.
use Rattle.std.specs.Prelude.{if◌then◌else◌}
use Prim.Native.Nat.{ℕ, ◌+◌, ◌≤◌, ◌<◌}
use mathlib.Core.Path.{◌≡◌, refl}
use mathlib.Core.Bool.{Bool, true, false, not}
use mathlib.Core.List.{List, []}
use native.Mathlib.Omega.{arith}
use lib.Dec.{ltb}
use lib.ListN.{length}
use Rattle.tokens.specs.Bool.{◌or◌, ◌and◌, ◌is◌}
use Rattle.tokens.specs.Kind.{Str, Number, LCurly, Comma, Colon, Dot3, Arrow, Eq}
use Rattle.tokens.specs.Token.{is_name, is_word, is_literal}
use Rattle.tokens.specs.Cause.{number, place}
use Rattle.tokens.specs.declared.cause.Cause.{Cause}
use Rattle.operators.specs.Precedence.{expression_level}
use Rattle.rows.specs.Row as Row
use Rattle.rows.specs.Tree.{Tree, Forest, node, nil, cons, one, join, count, kind_of}
use Rattle.rows.specs.Record.{Record}
use Rattle.conversion.specs.Conversion.{Outcome, turned, refused, Role, any, simple, Change, refuse, keep, turn, seen, change, roles, over, both as both_kids, convert_as, convert_kids}
use Rattle.conversion.proofs.Potentials.{Fair, refuses as refuses_first, changes}
use Rattle.grammar.specs.Sheet.{Sheet, token, break_before, done, fail, first_tree, tree, leaf}
use Rattle.grammar.specs.Job.{Job, expression, sequence, assignment, value, assign, conditional, binary, operators, unary, postfix, left_hand_side, links, arguments, primary, elements, properties, property, key, spread, binding, binding_element, binding_elements, binding_properties, binding_property, binding_rest, head, parameters, body, Asks}
use Rattle.grammar.specs.Assignment.{is_assignment_operator, is_async_name}
use Rattle.grammar.specs.Binary.{operation_kind, right_floor}
use Rattle.grammar.specs.Update.{is_unary_operator, is_update_operator, converted}
use Rattle.grammar.specs.Binding.{argument_of}
use Rattle.grammar.specs.Arrow.{Policy, parenthesized_head_of}
use Rattle.grammar.specs.Step.{step, read, plenty}
use Rattle.grammar.specs.Reading.{whole, refused as refused_whole, reading}
use Rattle.laws.proofs.Good.{productions, wants, came, Refused, failed, followed, stopped, refused_by, Meaning, Reads, Answers, good_given, good_done, good_fail, yields, refuses, says, follows, heads, test, token_test, converts, so, both, inside, and_right}
use Rattle.laws.proofs.Bounds.{Any, reads, Nothing, limits, Bound, all_bounded, bounded_at, fee, fee_comma, fee_one}
use Rattle.laws.proofs.Rel.{async_inside, operator_inside}
use Rattle.laws.specs.Promises.{Inside, Lie, Lies, next, none, row_lies}

-- the places of a row: it begins where it may, its mark is inside it, and it ends where it may
record Span (low first mark end high : ℕ) : Type 0 where
  starts : low ≤ first
  marks : first ≤ mark
  inner : mark < end
  ends : end ≤ high

row : {low high kind mark first end : ℕ} {kids : Forest} → Span low first mark end high → Lie first end kids → Lies low high (node kind mark first end kids)
row s k = row_lies s.starts s.marks s.inner s.ends k

-- wider places
record Wide (low high low' high' : ℕ) : Type 0 where
  down : low' ≤ low
  up : high ≤ high'

no_trees : {low high : ℕ} → low ≤ high → Lie low high nil
no_trees a = none a

then_lie : {low high : ℕ} {t : Tree} {ts : Forest} (middle : ℕ) → Lies low middle t → Lie middle high ts → Lie low high (cons t ts)
then_lie middle t ts = next middle t ts

lies_wide : {low high low' high' : ℕ} {t : Tree} → Lies low high t → Wide low high low' high' → Lies low' high' t
lies_wide (row_lies a b c d k) w = row (omega arith) k

lie_wide : {low high low' high' : ℕ} {ts : Forest} → Lie low high ts → Wide low high low' high' → Lie low' high' ts
lie_wide (none a) w = no_trees (omega arith)
lie_wide (next middle t ts) w = then_lie middle (lies_wide t (omega arith)) (lie_wide ts (omega arith))

lies_order : {low high : ℕ} {t : Tree} → Lies low high t → low < high
lies_order (row_lies a b c d k) = omega arith

lie_order : {low high : ℕ} {ts : Forest} → Lie low high ts → low ≤ high
lie_order (none a) = a
lie_order (next middle t ts) = omega (arith, lies_order t, lie_order ts)

lie_join : {low middle high : ℕ} {ts us : Forest} → Lie low middle ts → Lie middle high us → Lie low high (join ts us)
unfolding join
lie_join (none a) k = lie_wide k (omega arith)
lie_join (next middle t ts) k = next middle t (lie_join ts k)

lie_one : {low high : ℕ} {t : Tree} → Lies low high t → Lie low high (one t)
lie_one {low} {high} t = then_lie high t (no_trees (omega arith))

-- trees, and others further on
lie_on : {low middle from end high : ℕ} {ts us : Forest} → Lie low middle ts → Lie from end us → Wide from end middle high → Lie low high (join ts us)
lie_on k b w = lie_join k (lie_wide b w)

lie_row : {low high kind mark first end : ℕ} {kids : Forest} → Span low first mark end high → Lie first end kids → Lie low high (one (node kind mark first end kids))
lie_row s k = lie_one (row s k)

-- one tree is where all are
lie_first : {low high : ℕ} {ts : Forest} → ts ≡ one (first_tree ts) → Lie low high ts → Lies low high (first_tree ts)
lie_first {low} {high} {ts} e k = go (rw e at k)
  where
    go : {t : Tree} → Lie low high (one t) → Lies low high t
    go (next middle t (none a)) = lies_wide t (omega arith)

-- 9 and 10
record Numbered (cause : Cause) : Type 0 where
  from_nine : 9 ≤ number cause
  to_ten : number cause ≤ 10

-- what comes of a tree lies where it lay, or is refused inside it
data Stays (low high : ℕ) (o : Outcome Tree) : Type 0 where
  stays : (t : Tree) (records : List Record) → o ≡ turned t records → Lies low high t → Stays low high o
  falls : (cause : Cause) → o ≡ refused cause → low ≤ place cause → place cause < high → Numbered cause → Stays low high o

data AllStay (low high : ℕ) (o : Outcome Forest) : Type 0 where
  all_stay : (ts : Forest) (records : List Record) → o ≡ turned ts records → Lie low high ts → AllStay low high o
  one_falls : (cause : Cause) → o ≡ refused cause → low ≤ place cause → place cause < high → Numbered cause → AllStay low high o

over_stays : {low high mark first end w : ℕ} {kids : Forest} (kind : ℕ) (c : Change) {o : Outcome Forest} → low ≤ first → first ≤ mark → mark < end → end ≤ high → Lie first end kids
    → Fair (seen (node kind mark first end kids)) w c → AllStay first end o → Stays low high (over c (node kind mark first end kids) o)
unfolding over seen
over_stays kind (refuse cause) l m e h k (refuses_first p u v) s = falls cause refl (omega arith) (omega arith) (omega arith)
over_stays kind (keep kind' records) l m e h k f s = stays _ _ refl (row_lies l m e h k)
over_stays kind (turn kind' before each after) l m e h k f (all_stay ts records q k') = rw q (stays _ _ refl (row_lies l m e h k'))
over_stays kind (turn kind' before each after) l m e h k f (one_falls cause q a b u) = rw q (falls cause refl (omega arith) (omega arith) u)

both_stay : {low middle high : ℕ} {o : Outcome Tree} {o' : Outcome Forest} → Stays low middle o → middle ≤ high → AllStay middle high o' → low ≤ middle → AllStay low high (both_kids o o')
unfolding both_kids
both_stay (falls cause e a b u) l s g = rw e (one_falls cause refl a (omega arith) u)
both_stay (stays t records e k) l (one_falls cause e' a b u) g = rw (e, e') (one_falls cause refl (omega arith) b u)
both_stay {middle = middle} (stays t records e k) l (all_stay ts more e' k') g = rw (e, e') (all_stay _ _ refl (then_lie middle k k'))

mutual
  unfolding convert_as convert_kids seen

  convert_stays : (t : Tree) (role : Role) {low high : ℕ} → Lies low high t → Stays low high (convert_as t role)
  convert_stays (node kind mark first end kids) role (row_lies l m e h k) =
      over_stays kind (change role (seen (node kind mark first end kids))) l m e h k (changes (node kind mark first end kids) role)
      (kids_stay kids (roles (change role (seen (node kind mark first end kids)))) k)

  kids_stay : (ts : Forest) (each : ℕ → Role) {low high : ℕ} → Lie low high ts → AllStay low high (convert_kids ts each)
  kids_stay nil each k = all_stay nil [] refl k
  kids_stay (cons t ts) each (next middle a k) =
      both_stay (convert_stays t (each (count ts)) a) (lie_order k) (kids_stay ts each k) (omega (arith, lies_order a))

-- where a nonterminal may be asked: at a place of the list or at its end; at a token, if whoever asks has looked at it; and what it has so far lies
-- between where it began and where it is
abbrev pub Fit : Sheet → Job → Type 0
Fit sheet (expression at) = at ≤ length sheet.kinds
Fit sheet (sequence first comma at so_far) = (at ≤ length sheet.kinds) × (first ≤ comma) × (comma + fee (token sheet at) ≤ at) × Lie first at so_far
Fit sheet (assignment at) = at ≤ length sheet.kinds
Fit sheet (value at) = at ≤ length sheet.kinds
Fit sheet (assign first at left) = (at < length sheet.kinds) × Lies first at left
Fit sheet (conditional first at left) = (at < length sheet.kinds) × Lies first at left
Fit sheet (binary floor at) = at ≤ length sheet.kinds
Fit sheet (operators floor first at left) = (at ≤ length sheet.kinds) × Lies first at left
Fit sheet (unary at) = at ≤ length sheet.kinds
Fit sheet (postfix at) = at ≤ length sheet.kinds
Fit sheet (left_hand_side at) = at ≤ length sheet.kinds
Fit sheet (links first at left) = (at ≤ length sheet.kinds) × Lies first at left
Fit sheet (arguments first at so_far) = (at ≤ length sheet.kinds) × (first < at) × Lie first at so_far
Fit sheet (primary at) = at ≤ length sheet.kinds
Fit sheet (elements first at kind so_far) = (at ≤ length sheet.kinds) × (first < at) × Lie first at so_far
Fit sheet (properties first at kind so_far) = (at ≤ length sheet.kinds) × (first < at) × Lie first at so_far
Fit sheet (property at) = at ≤ length sheet.kinds
Fit sheet (key at) = at ≤ length sheet.kinds
Fit sheet (spread at) = at < length sheet.kinds
Fit sheet (binding at) = at ≤ length sheet.kinds
Fit sheet (binding_element at) = at ≤ length sheet.kinds
Fit sheet (binding_elements first at so_far) = (at ≤ length sheet.kinds) × (first < at) × Lie first at so_far
Fit sheet (binding_properties first at so_far) = (at ≤ length sheet.kinds) × (first < at) × Lie first at so_far
Fit sheet (binding_property at) = at ≤ length sheet.kinds
Fit sheet (binding_rest at) = at < length sheet.kinds
Fit sheet (head at) = at ≤ length sheet.kinds
Fit sheet (parameters at so_far) = at ≤ length sheet.kinds
Fit sheet (body kind first at so_far) = (at < length sheet.kinds) × Lie first at so_far

-- where its trees lie when it is done
abbrev pub Placed : Job → ℕ → Forest → Type 0
Placed (expression at) end trees = Lie at end trees
Placed (sequence first comma at so_far) end trees = Lie first end trees
Placed (assignment at) end trees = Lie at end trees
Placed (value at) end trees = Lie at end trees
Placed (assign first at left) end trees = Lie first end trees
Placed (conditional first at left) end trees = Lie first end trees
Placed (binary floor at) end trees = Lie at end trees
Placed (operators floor first at left) end trees = Lie first end trees
Placed (unary at) end trees = Lie at end trees
Placed (postfix at) end trees = Lie at end trees
Placed (left_hand_side at) end trees = Lie at end trees
Placed (links first at left) end trees = Lie first end trees
Placed (arguments first at so_far) end trees = Lie first end trees
Placed (primary at) end trees = Lie at end trees
Placed (elements first at kind so_far) end trees = Lie first end trees
Placed (properties first at kind so_far) end trees = Lie first end trees
Placed (property at) end trees = Lie at end trees
Placed (key at) end trees = Lie at end trees
Placed (spread at) end trees = Lie at end trees
Placed (binding at) end trees = Lie at end trees
Placed (binding_element at) end trees = Lie at end trees
Placed (binding_elements first at so_far) end trees = Lie first end trees
Placed (binding_properties first at so_far) end trees = Lie first end trees
Placed (binding_property at) end trees = Lie at end trees
Placed (binding_rest at) end trees = Lie at end trees
Placed (head at) end trees = Lie at end trees
Placed (parameters at so_far) end trees = (low : ℕ) → Lie low at so_far → Lie low end trees
Placed (body kind first at so_far) end trees = Lie first end trees

abbrev Is : Job → Meaning
Is job end trees records = Placed job end trees

lie_leaf : {low high kind : ℕ} (at : ℕ) → low ≤ at → at < high → Lie low high (one (leaf kind at))
lie_leaf at l h = lie_row (omega arith) (no_trees (omega arith))

-- THE PRODUCTIONS
module _ {N : Type 0} (policy : Policy N) (sheet : Sheet) {ask : Asks N} (g : Answers Any (λ job. Bound (limits sheet job)) Nothing ask) (h : Answers (Fit sheet) Is (Inside sheet) ask) where
  asked : (job : Job) → Fit sheet job → Reads (λ end trees records. Bound (limits sheet job) end trees records × Placed job end trees) (Inside sheet) (ask job)
  asked job fit = both (g.with job tt) (h.with job fit)

  last : (job : Job) → Fit sheet job → Reads (Is job) (Inside sheet) (ask job)
  last job fit = h.with job fit

  turn_to : (role : Role) (at : ℕ) (left : Tree) {first : ℕ} → Lies first at left → at ≤ length sheet.kinds
      → Reads {N = N} (λ end trees records. (end ≡ at) × Lie first at trees) (Inside sheet) (converted role at left)
  turn_to role at left {first} l i =
      converts role at left (λ t records e. (refl, lie_one (stayed t records e (convert_stays left role l)))) (λ cause e. fell cause e (convert_stays left role l))
    where
      stayed : (t : Tree) (records : List Record) → convert_as left role ≡ turned t records → Stays first at (convert_as left role) → Lies first at t
      stayed t records e (stays u _ e' k) = let a : u ≡ t = cc in rw a at k
      stayed t records e (falls cause e' _ _ _) = let z : ◌≡◌ {A = ℕ} 0 1 = cc in absurd (omega arith)

      inside_of : (cause : Cause) → place cause < at → Numbered cause → Inside sheet cause
      inside_of cause b u = omega arith

      fell : (cause : Cause) → convert_as left role ≡ refused cause → Stays first at (convert_as left role) → Inside sheet cause
      fell cause e (stays u _ e' k) = let z : ◌≡◌ {A = ℕ} 0 1 = cc in absurd (omega arith)
      fell cause e (falls cause' e' a b u) = let c : cause' ≡ cause = cc in rw c at (inside_of cause' b u)

  -- another part, or a spread
  or_spread : (at rows : ℕ) (other : Job) → Reads (λ end trees records. Bound (reads sheet at rows 0) end trees records × Lie at end trees) (Inside sheet) (ask other)
      → (dots : Bool) → token sheet at is Dot3 ≡ dots
      → Reads (λ end trees records. Bound (reads sheet at rows 0) end trees records × Lie at end trees) (Inside sheet) (ask (if dots then spread at else other))
  or_spread at rows other o true e =
      so (asked (spread at) (inside sheet at (λ k. k is Dot3) refl e)) (λ end trees records b. (record { within = omega arith; single = b.0.single }, b.1))
  or_spread at rows other o false e = o

  -- 15.3 and 15.9
  parenthesized_head_lies : (at : ℕ) → at ≤ length sheet.kinds → Reads (Is (head at)) (Inside sheet) (parenthesized_head_of sheet ask at)
  unfolding productions
  parenthesized_head_lies at i =
      wants sheet _ _ _ (omega arith) (λ t. follows (asked (parameters (at + 1) nil) (omega arith))
      (λ list rs b. wants sheet _ _ _ (omega arith) (λ t. yields _ _ (b.1 at (no_trees (omega arith))))))

  -- every production
  step_lies : (job : Job) → Fit sheet job → Reads (Is job) (Inside sheet) (step policy sheet ask job)
  unfolding productions is_word is_assignment_operator is_unary_operator is_update_operator fee
  -- 13.16
  step_lies (expression at) i =
      follows (asked (assignment at) i)
      (λ part rs b. token_test sheet _ _
      (λ t. last (sequence at part.end part.end part.trees) (omega arith, omega arith, omega (arith, fee_comma t.kind_is), b.1))
      (yields _ _ b.1))
  step_lies (sequence first comma at so_far) fit =
      test (token sheet at is Comma)
      (λ t. let i = inside sheet at (λ k. k is Comma) refl t in follows (asked (assignment (at + 1)) (omega arith))
      (λ part rs b. last (sequence first comma part.end (join so_far part.trees))
      (omega arith, omega arith, omega (arith, fee_one (token sheet part.end)), lie_on fit.3 b.1 (omega arith))))
      (λ f. let k = rw f at fit.2 in yields _ _ (lie_row (omega arith) fit.3))
  step_lies (assignment at) i = heads policy sheet ask at (last (value at) i) (asked (head at) i) (λ list rs b. last (body _ at list.end list.trees) (omega arith, b.1))
  step_lies (value at) i =
      test (is_async_name sheet at)
      (λ t. let j = async_inside sheet at t in last (body Row.AsyncArrow at (at + 2) (one (leaf Row.BindingName (at + 1)))) (j, lie_leaf (at + 1) (omega arith) (omega arith)))
      (λ _. follows (asked (binary 0 at) i)
      (λ left rs b. test (kind_of (tree left) is Row.Identifier and token sheet left.end is Arrow)
      (λ t. last (body Row.Arrow at left.end (one (leaf Row.BindingName at)))
      (inside sheet left.end (λ k. k is Arrow) refl (and_right (kind_of (tree left) is Row.Identifier) _ t), lie_leaf at (omega arith) (omega arith)))
      (λ _. test (is_assignment_operator (token sheet left.end))
      (λ t. last (assign at left.end (tree left)) (inside sheet left.end is_assignment_operator refl t, lie_first b.0.single b.1))
      (λ _. token_test sheet _ _ (λ t. last (conditional at left.end (tree left)) (t.here, lie_first b.0.single b.1))
      (yields _ _ b.1)))))
  step_lies (assign first at left) fit =
      let o = lies_order fit.1 in
      follows (turn_to (if token sheet at is Eq then any else simple) at left fit.1 (omega arith))
      (λ target rs b. follows (asked (assignment (at + 1)) (omega arith))
      (λ right more c. yields _ _ (lie_row (omega arith) (lie_on b.1 c.1 (omega arith)))))
  step_lies (conditional first at left) fit =
      let o = lies_order fit.1 in
      follows (asked (assignment (at + 1)) (omega arith))
      (λ if_true rs b. wants sheet _ _ _ (omega arith) (λ t. follows (asked (assignment (if_true.end + 1)) (omega arith))
      (λ if_false more c. yields _ _ (lie_row (omega arith)
      (then_lie at fit.1 (lie_join {middle = if_true.end} (lie_wide b.1 (omega arith)) (lie_wide c.1 (omega arith))))))))
  -- 13.6 to 13.13
  step_lies (binary floor at) i = follows (asked (unary at) i) (λ left rs b. last (operators floor at left.end (tree left)) (omega arith, lie_first b.0.single b.1))
  step_lies (operators floor first at left) fit =
      let o = lies_order fit.1 in
      test (ltb floor (expression_level (token sheet at)))
      (λ t. let i = operator_inside sheet at floor t in follows (asked (binary (right_floor (token sheet at)) (at + 1)) (omega arith))
      (λ right rs b. says _ (last (operators floor first right.end (node (operation_kind (token sheet at)) at first right.end (cons left right.trees)))
      (omega arith, row (omega arith) (then_lie at fit.1 (lie_wide b.1 (omega arith)))))))
      (λ _. yields _ _ (lie_one fit.1))
  -- 13.5 and 13.4
  step_lies (unary at) i =
      test (is_unary_operator (token sheet at))
      (λ t. let j = inside sheet at is_unary_operator refl t in follows (asked (unary (at + 1)) (omega arith))
      (λ operand rs b. yields _ _ (lie_row (omega arith) (lie_wide b.1 (omega arith)))))
      (λ _. test (is_update_operator (token sheet at))
      (λ t. let j = inside sheet at is_update_operator refl t in follows (asked (unary (at + 1)) (omega arith))
      (λ operand rs b. follows (turn_to simple operand.end (tree operand) (lie_first b.0.single b.1) (omega arith))
      (λ target more c. yields _ _ (lie_row (omega arith) (lie_wide c.1 (omega arith))))))
      (λ _. last (postfix at) i))
  step_lies (postfix at) i =
      follows (asked (left_hand_side at) i)
      (λ operand rs b. test (is_update_operator (token sheet operand.end) and not (break_before sheet operand.end))
      (λ t. follows (turn_to simple operand.end (tree operand) (lie_first b.0.single b.1) (omega arith))
      (λ target more c. yields _ _ (lie_row (omega arith) (lie_wide c.1 (omega arith)))))
      (λ _. yields _ _ b.1))
  -- 13.3
  step_lies (left_hand_side at) i = follows (asked (primary at) i) (λ base rs b. last (links at base.end (tree base)) (omega arith, lie_first b.0.single b.1))
  step_lies (links first at left) fit =
      let o = lies_order fit.1 in
      token_test sheet _ _
      (λ t. test (is_word (token sheet (at + 1)))
      (λ w. let j = inside sheet (at + 1) is_word refl w in last (links first (at + 2) (node Row.Member (at + 1) first (at + 2) (one left)))
      (omega arith, row (omega arith) (lie_one (lies_wide fit.1 (omega arith)))))
      (λ _. refuses _ (omega arith)))
      (token_test sheet _ _
      (λ t. follows (asked (expression (at + 1)) (omega arith))
      (λ inner rs b. wants sheet _ _ _ (omega arith)
      (λ t. last (links first (inner.end + 1) (node Row.Index first first (inner.end + 1) (cons left inner.trees)))
      (omega arith, row (omega arith) (then_lie at fit.1 (lie_wide b.1 (omega arith)))))))
      (token_test sheet _ _
      (λ t. follows (asked (arguments first (at + 1) (one left)) (omega arith, omega arith, lie_one (lies_wide fit.1 (omega arith))))
      (λ call rs b. last (links first call.end (tree call)) (omega arith, lie_first b.0.single b.1)))
      (yields _ _ (lie_one fit.1))))
  step_lies (arguments first at so_far) fit =
      token_test sheet _ _ (λ t. yields _ _ (lie_row (omega arith) (lie_wide fit.2 (omega arith))))
      (follows (or_spread at 0 (assignment at) (asked (assignment at) (omega arith)) (token sheet at is Dot3) refl)
      (λ argument rs b. token_test sheet _ _
      (λ t. last (arguments first (argument.end + 1) (join so_far argument.trees)) (omega arith, omega arith, lie_on fit.2 b.1 (omega arith)))
      (wants sheet _ _ _ (omega arith) (λ t. yields _ _ (lie_row (omega arith) (lie_on fit.2 b.1 (omega arith)))))))
  -- 13.2
  step_lies (primary at) i =
      test (is_name (token sheet at)) (λ t. yields _ _ (lie_leaf at (omega arith) (omega arith)))
      (λ _. token_test sheet _ _ (λ t. yields _ _ (lie_leaf at (omega arith) (omega arith)))
      (test (is_literal (token sheet at)) (λ t. yields _ _ (lie_leaf at (omega arith) (omega arith)))
      (λ _. token_test sheet _ _
      (λ t. follows (asked (expression (at + 1)) (omega arith))
      (λ inner rs b. wants sheet _ _ _ (omega arith) (λ t. yields _ _ (lie_row (omega arith) (lie_wide b.1 (omega arith))))))
      (token_test sheet _ _ (λ t. last (elements at (at + 1) Row.Array nil) (omega arith, omega arith, no_trees (omega arith)))
      (wants sheet _ _ _ (omega arith) (λ t. last (properties at (at + 1) Row.Object nil) (omega arith, omega arith, no_trees (omega arith))))))))
  step_lies (elements first at kind so_far) fit =
      token_test sheet _ _ (λ t. yields _ _ (lie_row (omega arith) (lie_wide fit.2 (omega arith))))
      (token_test sheet _ _
      (λ t. last (elements first (at + 1) Row.Array (join so_far (one (leaf Row.Hole at)))) (omega arith, omega arith, lie_join fit.2 (lie_leaf at (omega arith) (omega arith))))
      (follows (or_spread at 0 (assignment at) (asked (assignment at) (omega arith)) (token sheet at is Dot3) refl)
      (λ element rs b. token_test sheet _ _
      (λ t. last (elements first (element.end + 1) (if token sheet at is Dot3 then Row.ArrayRestComma else Row.Array) (join so_far element.trees))
      (omega arith, omega arith, lie_on fit.2 b.1 (omega arith)))
      (wants sheet _ _ _ (omega arith) (λ t. yields _ _ (lie_row (omega arith) (lie_on fit.2 b.1 (omega arith))))))))
  step_lies (properties first at kind so_far) fit =
      token_test sheet _ _ (λ t. yields _ _ (lie_row (omega arith) (lie_wide fit.2 (omega arith))))
      (follows (or_spread at 1 (property at) (asked (property at) (omega arith)) (token sheet at is Dot3) refl)
      (λ part rs b. token_test sheet _ _
      (λ t. last (properties first (part.end + 1) (if token sheet at is Dot3 then Row.ObjectRestComma else Row.Object) (join so_far part.trees))
      (omega arith, omega arith, lie_on fit.2 b.1 (omega arith)))
      (wants sheet _ _ _ (omega arith) (λ t. yields _ _ (lie_row (omega arith) (lie_on fit.2 b.1 (omega arith)))))))
  step_lies (property at) i =
      test (is_name (token sheet at) and not (token sheet (at + 1) is Colon))
      (λ n. token_test sheet _ _
      (λ t. follows (asked (assignment (at + 2)) (omega arith))
      (λ initializer rs b. yields _ _ (lie_row (omega arith) (then_lie (at + 1) (row (omega arith) (no_trees (omega arith))) (lie_wide b.1 (omega arith))))))
      (yields _ _ (lie_row (omega arith) (lie_leaf at (omega arith) (omega arith)))))
      (λ _. follows (asked (key at) i)
      (λ name rs b. wants sheet _ _ _ (omega arith)
      (λ t. follows (asked (assignment (name.end + 1)) (omega arith)) (λ content more c. yields _ _ (lie_row (omega arith) (lie_on b.1 c.1 (omega arith)))))))
  step_lies (key at) i =
      test (is_word (token sheet at) or token sheet at is Str or token sheet at is Number) (λ t. yields _ _ (lie_leaf at (omega arith) (omega arith)))
      (λ _. wants sheet _ _ _ (omega arith) (λ t. follows (asked (assignment (at + 1)) (omega arith))
      (λ inner rs b. wants sheet _ _ _ (omega arith) (λ t. yields _ _ (lie_row (omega arith) (lie_wide b.1 (omega arith)))))))
  step_lies (spread at) i = follows (asked (assignment (at + 1)) (omega arith)) (λ argument rs b. yields _ _ (lie_row (omega arith) (lie_wide b.1 (omega arith))))
  -- 14.3.3
  step_lies (binding at) i =
      test (is_name (token sheet at)) (λ t. yields _ _ (lie_leaf at (omega arith) (omega arith)))
      (λ _. token_test sheet _ _ (λ t. last (binding_elements at (at + 1) nil) (omega arith, omega arith, no_trees (omega arith)))
      (wants sheet _ _ _ (omega arith) (λ t. last (binding_properties at (at + 1) nil) (omega arith, omega arith, no_trees (omega arith)))))
  step_lies (binding_element at) i =
      follows (asked (binding at) i)
      (λ target rs b. token_test sheet _ _
      (λ t. follows (asked (assignment (target.end + 1)) (omega arith)) (λ initializer more c. yields _ _ (lie_row (omega arith) (lie_on b.1 c.1 (omega arith)))))
      (yields _ _ b.1))
  step_lies (binding_elements first at so_far) fit =
      token_test sheet _ _ (λ t. yields _ _ (lie_row (omega arith) (lie_wide fit.2 (omega arith))))
      (token_test sheet _ _
      (λ t. last (binding_elements first (at + 1) (join so_far (one (leaf Row.Hole at)))) (omega arith, omega arith, lie_join fit.2 (lie_leaf at (omega arith) (omega arith))))
      (token_test sheet _ _
      (λ t. follows (asked (binding_rest at) t.here) (λ rest rs b. wants sheet _ _ _ (omega arith) (λ t. yields _ _ (lie_row (omega arith) (lie_on fit.2 b.1 (omega arith))))))
      (follows (asked (binding_element at) (omega arith))
      (λ element rs b. token_test sheet _ _
      (λ t. last (binding_elements first (element.end + 1) (join so_far element.trees)) (omega arith, omega arith, lie_on fit.2 b.1 (omega arith)))
      (wants sheet _ _ _ (omega arith) (λ t. yields _ _ (lie_row (omega arith) (lie_on fit.2 b.1 (omega arith)))))))))
  step_lies (binding_properties first at so_far) fit =
      token_test sheet _ _ (λ t. yields _ _ (lie_row (omega arith) (lie_wide fit.2 (omega arith))))
      (token_test sheet _ _
      (λ t. follows (asked (binding_rest at) t.here)
      (λ rest rs b. wants sheet _ _ _ (omega arith)
      (λ t. test (kind_of (argument_of (tree rest)) is Row.BindingName) (λ _. yields _ _ (lie_row (omega arith) (lie_on fit.2 b.1 (omega arith)))) (λ _. refuses _ (omega arith)))))
      (follows (asked (binding_property at) (omega arith))
      (λ part rs b. token_test sheet _ _
      (λ t. last (binding_properties first (part.end + 1) (join so_far part.trees)) (omega arith, omega arith, lie_on fit.2 b.1 (omega arith)))
      (wants sheet _ _ _ (omega arith) (λ t. yields _ _ (lie_row (omega arith) (lie_on fit.2 b.1 (omega arith))))))))
  step_lies (binding_property at) i =
      test (is_name (token sheet at) and not (token sheet (at + 1) is Colon))
      (λ n. token_test sheet _ _
      (λ t. follows (asked (assignment (at + 2)) (omega arith))
      (λ initializer rs b. yields _ _ (lie_row (omega arith) (then_lie (at + 1) (row (omega arith) (no_trees (omega arith))) (lie_wide b.1 (omega arith))))))
      (yields _ _ (lie_row (omega arith) (lie_leaf at (omega arith) (omega arith)))))
      (λ _. follows (asked (key at) i)
      (λ name rs b. wants sheet _ _ _ (omega arith)
      (λ t. follows (asked (binding_element (name.end + 1)) (omega arith)) (λ content more c. yields _ _ (lie_row (omega arith) (lie_on b.1 c.1 (omega arith)))))))
  step_lies (binding_rest at) i = follows (asked (binding_element (at + 1)) (omega arith)) (λ argument rs b. says _ (yields _ _ (lie_row (omega arith) (lie_wide b.1 (omega arith)))))
  step_lies (head at) i =
      token_test sheet _ _
      (λ t. test (not (break_before sheet (at + 1)))
      (λ _. so (parenthesized_head_lies (at + 1) (omega arith)) (λ end trees more c. lie_wide c (omega arith)))
      (λ _. refuses _ (omega arith)))
      (parenthesized_head_lies at i)
  step_lies (parameters at so_far) i =
      token_test sheet _ _ (λ t. yields _ _ (λ low k. lie_wide k (omega arith)))
      (token_test sheet _ _
      (λ t. follows (asked (binding_rest at) t.here)
      (λ rest rs b. wants sheet _ _ _ (omega arith) (λ t. yields _ _ (λ low k. lie_on k b.1 (omega arith)))))
      (follows (asked (binding_element at) i)
      (λ parameter rs b. token_test sheet _ _
      (λ t. so (asked (parameters (parameter.end + 1) (join so_far parameter.trees)) (omega arith)) (λ end trees more c low k. c.1 low (lie_on k b.1 (omega arith))))
      (wants sheet _ _ _ (omega arith) (λ t. yields _ _ (λ low k. lie_on k b.1 (omega arith)))))))
  step_lies (body kind first at so_far) fit =
      let o = lie_order fit.1 in
      says _ (test (not (token sheet (at + 1) is LCurly))
      (λ _. follows (asked (assignment (at + 1)) (omega arith))
      (λ inner rs b. yields _ _ (lie_row (omega arith) (lie_on fit.1 b.1 (omega arith)))))
      (λ _. refuses _ (omega arith)))

-- THE STATEMENTS
module _ {N : Type 0} (policy : Policy N) (sheet : Sheet) where
  all_lie : (steps : ℕ) → Answers (Fit sheet) Is (Inside sheet) (read policy sheet steps)
  all_lie steps =
      good_given policy sheet (Fit sheet) Is (Inside sheet) (λ job. Bound (limits sheet job)) (all_bounded policy sheet)
      (λ ask g h. record { with = λ job fit. step_lies policy sheet g h job fit }) steps

  -- what a nonterminal has read lies where it was read
  pub lies_at : (steps : ℕ) (job : Job) → Fit sheet job → (notes : N) {end : ℕ} {trees : Forest} {records : List Record} {after : N}
      → read policy sheet steps job notes ≡ done end trees records after → Placed job end trees
  lies_at steps job fit notes e = good_done policy sheet (Fit sheet) Is (Inside sheet) steps (all_lie steps) job fit notes e

  -- and a refusal stands at a token, or at the end
  pub refused_inside : (steps : ℕ) (job : Job) → Fit sheet job → (notes : N) {cause : Cause} {after : N}
      → read policy sheet steps job notes ≡ fail cause after → Inside sheet cause
  refused_inside steps job fit notes e = good_fail policy sheet (Fit sheet) Is (Inside sheet) steps (all_lie steps) job fit notes e

  -- the trees of a whole reading lie in the list
  pub whole_lies : (notes : N) {trees : Forest} {records : List Record} {after : N} → reading policy sheet (expression 0) notes ≡ whole trees records after → Lie 0 (length sheet.kinds) trees
  whole_lies notes e = lies_at (plenty sheet) (expression 0) (omega arith) notes (came policy sheet (expression 0) notes e).done_at_end

  pub pattern_lies : (notes : N) {trees : Forest} {records : List Record} {after : N} → reading policy sheet (binding_element 0) notes ≡ whole trees records after
      → Lie 0 (length sheet.kinds) trees
  pattern_lies notes e = lies_at (plenty sheet) (binding_element 0) (omega arith) notes (came policy sheet (binding_element 0) notes e).done_at_end

  -- and its refusal stands at a token of the list, or at its end
  refusal_of : (job : Job) → Fit sheet job → (limits sheet job).most ≤ length sheet.kinds → (notes : N) {cause : Cause} → reading policy sheet job notes ≡ refused_whole cause → Inside sheet cause
  refusal_of job fit m notes {cause} e = go (refused_by policy sheet job notes e)
    where
      go : Refused policy sheet job notes cause → Inside sheet cause
      go (failed after d) = refused_inside (plenty sheet) job fit notes d
      go (followed end trees records after d c) = rw c (let b = bounded_at policy sheet (plenty sheet) job notes d in omega arith)
      go (stopped d c) = rw c (omega arith)

  pub refusal_inside : (notes : N) {cause : Cause} → reading policy sheet (expression 0) notes ≡ refused_whole cause → Inside sheet cause
  refusal_inside notes e = refusal_of (expression 0) (omega arith) (omega arith) notes e

  pub pattern_refusal_inside : (notes : N) {cause : Cause} → reading policy sheet (binding_element 0) notes ≡ refused_whole cause → Inside sheet cause
  pattern_refusal_inside notes e = refusal_of (binding_element 0) (omega arith) (omega arith) notes e
