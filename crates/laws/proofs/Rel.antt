-- Two readers of one grammar, with two policies and two bounds on the steps, side by side: what they come to is the same where the two
-- policies do what is alike. One lemma a production but for the one that has the policy in it; `related`, at the end, puts them together.
-- Assumes nothing.
use Rattle.std.specs.Prelude.{if◌then◌else◌}
use Prim.Native.Nat.{ℕ, zero, suc, ◌+◌, ◌-◌, ◌*◌, ◌≤◌, ◌<◌}
use mathlib.Core.Path.{◌≡◌, refl, ◌∙◌}
use mathlib.Core.Bool.{Bool, true, false, not}
use mathlib.Core.List.{List, [], ◌++◌}
use native.Mathlib.Omega.{arith}
use lib.Dec.{ltb}
use lib.ListN.{length}
use borrow.Author.Tests.{eqb-true, ltb-true}
use Rattle.tokens.specs.Bool.{◌or◌, ◌and◌, ◌is◌}
use Rattle.tokens.specs.Kind.{Async, Str, Number, LCurly, Colon, Dot3, Arrow, Eq}
use Rattle.tokens.specs.Token.{is_name, is_word, is_literal}
use Rattle.tokens.specs.declared.cause.Cause.{Cause}
use Rattle.tokens.proofs.Stands.{stands}
use Rattle.operators.specs.Precedence.{level, expression_level}
use Rattle.rows.specs.Row as Row
use Rattle.rows.specs.Tree.{Tree, Forest, node, nil, cons, one, join, kind_of}
use Rattle.rows.specs.Record.{Record}
use Rattle.conversion.specs.Conversion.{Role, any, simple, Outcome, turned, refused, convert_as}
use Rattle.grammar.specs.Sheet.{Sheet, token, break_before, Out, done, fail, Reading, Part, tree, leaf, after_records, and_then, or_else, ◌>>=◌, try, yield, refuse, say}
use Rattle.grammar.specs.Job.{Job, expression, sequence, assignment, value, assign, conditional, binary, operators, unary, postfix, left_hand_side, links, arguments, primary, elements, properties, property, key, spread, binding, binding_element, binding_elements, binding_properties, binding_property, binding_rest, head, parameters, body, Asks}
use Rattle.grammar.specs.Assignment.{is_assignment_operator, is_async_name}
use Rattle.grammar.specs.Binary.{operation_kind, right_floor}
use Rattle.grammar.specs.Update.{is_unary_operator, is_update_operator, converted_to, converted}
use Rattle.grammar.specs.Binding.{argument_of}
use Rattle.grammar.specs.Arrow.{Way, pass, attempt, commit, Policy, by_way, choose, noting, arrow_of, assignment_of, parenthesized_head_of}
use Rattle.grammar.specs.Step.{step, read}
use Rattle.laws.specs.Settles.{μ, looked_at}
pub use Rattle.laws.proofs.Settles.{positive}
use Rattle.laws.proofs.Good.{productions, Meaning, Stands, inside, and_right}
use Rattle.laws.proofs.Bounds.{limits, Bound, bounded_at}

-- the first place at which a nonterminal may note something: a head notes nothing where it begins
abbrev pub first_noted : Job → ℕ
first_noted (expression at) = at
first_noted (sequence first comma at so_far) = at
first_noted (assignment at) = at
first_noted (value at) = at
first_noted (assign first at left) = at
first_noted (conditional first at left) = at
first_noted (binary floor at) = at
first_noted (operators floor first at left) = at
first_noted (unary at) = at
first_noted (postfix at) = at
first_noted (left_hand_side at) = at
first_noted (links first at left) = at
first_noted (arguments first at so_far) = at
first_noted (primary at) = at
first_noted (elements first at kind so_far) = at
first_noted (properties first at kind so_far) = at
first_noted (property at) = at
first_noted (key at) = at
first_noted (spread at) = at
first_noted (binding at) = at
first_noted (binding_element at) = at
first_noted (binding_elements first at so_far) = at
first_noted (binding_properties first at so_far) = at
first_noted (binding_property at) = at
first_noted (binding_rest at) = at
first_noted (head at) = at + 1
first_noted (parameters at so_far) = at
first_noted (body kind first at so_far) = at

-- a nonterminal may be asked: nothing is noted before `low`, the token that it starts at stands, and so many steps are enough
pub record Ready (sheet : Sheet) (low steps : ℕ) (job : Job) : Type 0 where
  pub later : low ≤ first_noted job
  pub stands_there : looked_at job ≤ length sheet.kinds
  pub enough : μ sheet job ≤ steps

-- nothing is said
abbrev pub Whatever : Meaning
Whatever end trees records = Unit {0}

module _ {N N' : Type 0} (Sim : N → N' → Type 0) (Alike : Cause → Cause → Type 0) where
  -- two outcomes: both done with the same, of which P holds; or both failed, for causes that are alike; the notes after are similar
  pub data Rel (P : Meaning) (x : Out N) (y : Out N') : Type 0 where
    both_done : (end : ℕ) (trees : Forest) (records : List Record) (m : N) (m' : N') → x ≡ done end trees records m → y ≡ done end trees records m' → P end trees records → Sim m m'
        → Rel P x y
    both_fail : (cause cause' : Cause) (m : N) (m' : N') → x ≡ fail cause m → y ≡ fail cause' m' → Alike cause cause' → Sim m m' → Rel P x y

  -- two readings do so from similar notes
  pub record Agree (P : Meaning) (reading : Reading N) (reading' : Reading N') : Type 0 where
    pub with : (m : N) (m' : N') → Sim m m' → Rel P (reading m) (reading' m')

  -- the answers to all questions that may be asked agree
  pub record Near (sheet : Sheet) (low steps : ℕ) (ask : Asks N) (ask' : Asks N') : Type 0 where
    pub with : (job : Job) → Ready sheet low steps job → Agree (Bound (limits sheet job)) (ask job) (ask' job)

-- THE WORDS
module _ {N N' : Type 0} {Sim : N → N' → Type 0} {Alike : Cause → Cause → Type 0} where
  pub after_records_rel : (records : List Record) {x : Out N} {y : Out N'} → Rel Sim Alike Whatever x y → Rel Sim Alike Whatever (after_records records x) (after_records records y)
  unfolding after_records
  after_records_rel records (both_done end trees more m m' e e' p s) = rw (e, e') (both_done end trees (records ++ more) m m' refl refl tt s)
  after_records_rel records (both_fail cause cause' m m' e e' a s) = rw (e, e') (both_fail cause cause' m m' refl refl a s)

  -- what is said may be said otherwise
  pub known : {P Q : Meaning} {r : Reading N} {r' : Reading N'} → Agree Sim Alike Q r r'
      → ((end : ℕ) (trees : Forest) (records : List Record) → Q end trees records → P end trees records) → Agree Sim Alike P r r'
  known {P} {Q} a h = record { with = λ m m' s. go (a.with m m' s) }
    where
      go : {x : Out N} {y : Out N'} → Rel Sim Alike Q x y → Rel Sim Alike P x y
      go (both_done end trees records m m' e e' q s) = both_done end trees records m m' e e' (h end trees records q) s
      go (both_fail cause cause' m m' e e' al s) = both_fail cause cause' m m' e e' al s

  pub forget : {P : Meaning} {r : Reading N} {r' : Reading N'} → Agree Sim Alike P r r' → Agree Sim Alike Whatever r r'
  forget a = known a (λ end trees records p. tt)

  pub both_yield : (end : ℕ) (trees : Forest) → Agree Sim Alike Whatever (yield end trees) (yield end trees)
  unfolding yield
  both_yield end trees = record { with = λ m m' s. both_done end trees [] m m' refl refl tt s }

  pub both_say : (records : List Record) {r : Reading N} {r' : Reading N'} → Agree Sim Alike Whatever r r' → Agree Sim Alike Whatever (say records r) (say records r')
  unfolding say
  both_say records a = record { with = λ m m' s. after_records_rel records (a.with m m' s) }

  pub both_follow : {Q : Meaning} {r : Reading N} {r' : Reading N'} {next : Part → Reading N} {next' : Part → Reading N'} → Agree Sim Alike Q r r'
      → ((part : Part) (records : List Record) → Q part.end part.trees records → Agree Sim Alike Whatever (next part) (next' part))
      → Agree Sim Alike Whatever (r >>= next) (r' >>= next')
  unfolding ◌>>=◌ and_then
  both_follow {Q} {r} {r'} {next} {next'} a h = record { with = λ m m' s. go (a.with m m' s) }
    where
      go : {x : Out N} {y : Out N'} → Rel Sim Alike Q x y → Rel Sim Alike Whatever (and_then x next) (and_then y next')
      go (both_done end trees records m m' e e' q s) = rw (e, e') (after_records_rel records ((h (record { end = end; trees = trees }) records q).with m m' s))
      go (both_fail cause cause' m m' e e' al s) = rw (e, e') (both_fail cause cause' m m' refl refl al s)

  pub both_try : {Q : Meaning} {r other : Reading N} {r' other' : Reading N'} {next : Part → Reading N} {next' : Part → Reading N'} → Agree Sim Alike Q r r'
      → ((part : Part) (records : List Record) → Q part.end part.trees records → Agree Sim Alike Whatever (next part) (next' part))
      → Agree Sim Alike Whatever other other'
      → Agree Sim Alike Whatever (try r next other) (try r' next' other')
  unfolding try or_else
  both_try {Q} {r} {other} {r'} {other'} {next} {next'} a h o = record { with = λ m m' s. go (a.with m m' s) }
    where
      go : {x : Out N} {y : Out N'} → Rel Sim Alike Q x y → Rel Sim Alike Whatever (or_else x next other) (or_else y next' other')
      go (both_done end trees records m m' e e' q s) = rw (e, e') (after_records_rel records ((h (record { end = end; trees = trees }) records q).with m m' s))
      go (both_fail cause cause' m m' e e' al s) = rw (e, e') (o.with m m' s)

  -- both may change their notes, if what they have in common stays
  pub both_note : (change : N → N) (change' : N' → N') {r : Reading N} {r' : Reading N'} → ((m : N) (m' : N') → Sim m m' → Sim (change m) (change' m')) → Agree Sim Alike Whatever r r'
      → Agree Sim Alike Whatever (noting change r) (noting change' r')
  unfolding noting
  both_note change change' k a = record { with = λ m m' s. a.with (change m) (change' m') (k m m' s) }

  -- where both take the same way
  pub both_choose : (way : N → Way) (way' : N' → Way) {x y z : Reading N} {x' y' z' : Reading N'} → ((m : N) (m' : N') → Sim m m' → way m ≡ way' m')
      → ((m : N) (m' : N') → Sim m m' → way m ≡ pass → Rel Sim Alike Whatever (x m) (x' m'))
      → ((m : N) (m' : N') → Sim m m' → way m ≡ attempt → Rel Sim Alike Whatever (y m) (y' m'))
      → ((m : N) (m' : N') → Sim m m' → way m ≡ commit → Rel Sim Alike Whatever (z m) (z' m'))
      → Agree Sim Alike Whatever (choose way x y z) (choose way' x' y' z')
  unfolding choose by_way
  both_choose way way' {x} {y} {z} {x'} {y'} {z'} k a b c = record { with = λ m m' s. go m m' s (way m) (way' m') (k m m' s) refl }
    where
      same : (m : N) (m' : N') → Sim m m' → (w : Way) → way m ≡ w → Rel Sim Alike Whatever (by_way w x y z m) (by_way w x' y' z' m')
      same m m' s pass e = a m m' s e
      same m m' s attempt e = b m m' s e
      same m m' s commit e = c m m' s e

      go : (m : N) (m' : N') → Sim m m' → (w w' : Way) → w ≡ w' → way m ≡ w → Rel Sim Alike Whatever (by_way w x y z m) (by_way w' x' y' z' m')
      go m m' s w w' e q = rw e (same m m' s w' (q ∙ e))

  pub both_test : (holds : Bool) {x y : Reading N} {x' y' : Reading N'} → (holds ≡ true → Agree Sim Alike Whatever x x') → (holds ≡ false → Agree Sim Alike Whatever y y')
      → Agree Sim Alike Whatever (if holds then x else y) (if holds then x' else y')
  both_test true h g = h refl
  both_test false h g = g refl

  pub both_token : (sheet : Sheet) (at kind : ℕ) {x y : Reading N} {x' y' : Reading N'} → (Stands sheet at (suc kind) → Agree Sim Alike Whatever x x') → Agree Sim Alike Whatever y y'
      → Agree Sim Alike Whatever (if token sheet at is suc kind then x else y) (if token sheet at is suc kind then x' else y')
  both_token sheet at kind h g =
      both_test (token sheet at is suc kind) (λ e. h (record { kind_is = eqb-true _ _ e; here = stands sheet.kinds (eqb-true _ _ e) })) (λ e. g)

  module _ (alike : (cause : Cause) → Alike cause cause) where
    pub both_refuse : (cause : Cause) → Agree Sim Alike Whatever (refuse cause) (refuse cause)
    unfolding refuse
    both_refuse cause = record { with = λ m m' s. both_fail cause cause m m' refl refl (alike cause) s }

    pub both_convert : (role : Role) (end : ℕ) (t : Tree) → Agree Sim Alike Whatever (converted role end t) (converted role end t)
    unfolding converted_to
    both_convert role end t = record { with = λ m m' s. go m m' s (convert_as t role) }
      where
        go : (m : N) (m' : N') → Sim m m' → (o : Outcome Tree) → Rel Sim Alike Whatever (converted_to end o m) (converted_to end o m')
        go m m' s (turned t' records) = both_done end (one t') records m m' refl refl tt s
        go m m' s (refused cause) = both_fail cause cause m m' refl refl (alike cause) s

-- a token whose level is above another stands before the end
pub operator_inside : (sheet : Sheet) (at floor : ℕ) → ltb floor (expression_level (token sheet at)) ≡ true → at < length sheet.kinds
unfolding expression_level level
operator_inside sheet at floor e = go (token sheet at) refl (ltb-true floor _ e)
  where
    go : (k : ℕ) → token sheet at ≡ k → floor < expression_level k → at < length sheet.kinds
    go zero q l = absurd (omega arith)
    go (suc k) q l = stands sheet.kinds q

-- the `=>` after an async name stands before the end
pub async_inside : (sheet : Sheet) (at : ℕ) → is_async_name sheet at ≡ true → at + 2 < length sheet.kinds
unfolding is_async_name
async_inside sheet at t =
    inside sheet (at + 2) (λ k. k is Arrow) refl
    (and_right (not (break_before sheet (at + 1))) _ (and_right (is_name (token sheet (at + 1))) _ (and_right (token sheet at is Async) _ t)))

-- a head that both have read
pub arrow_rel : {N N' : Type 0} {Sim : N → N' → Type 0} {Alike : Cause → Cause → Type 0} → ((cause : Cause) → Alike cause cause) → (sheet : Sheet) {low n : ℕ} {ask : Asks N} {ask' : Asks N'}
    → Near Sim Alike sheet low n ask ask' → (A : Policy N) (B : Policy N') (at : ℕ) → Ready sheet low (suc n) (assignment at) → (list : Part) (records : List Record)
    → Bound (limits sheet (head at)) list.end list.trees records → Agree Sim Alike Whatever (arrow_of A sheet ask at list) (arrow_of B sheet ask' at list)
unfolding arrow_of
arrow_rel alike sheet h A B at r list rs b = forget (h.with (body (if token sheet at is Async then Row.AsyncArrow else Row.Arrow) at list.end list.trees) (omega arith))

-- EVERY PRODUCTION, with any two policies and any two ways to answer what is asked, from what is special to the policies
module _ {N N' : Type 0} {Sim : N → N' → Type 0} {Alike : Cause → Cause → Type 0} (alike : (cause : Cause) → Alike cause cause) (sheet : Sheet) (low : ℕ) (A : Policy N) (B : Policy N') {n : ℕ}
    {ask : Asks N} {ask' : Asks N'} (h : Near Sim Alike sheet low n ask ask')
    (assignment_rel : (at : ℕ) → Ready sheet low (suc n) (assignment at) → Agree Sim Alike Whatever (assignment_of A sheet ask at) (assignment_of B sheet ask' at)) where
  asked : (job : Job) → Ready sheet low n job → Agree Sim Alike (Bound (limits sheet job)) (ask job) (ask' job)
  asked job r = h.with job r

  last : (job : Job) → Ready sheet low n job → Agree Sim Alike Whatever (ask job) (ask' job)
  last job r = forget (h.with job r)

  no : (cause : Cause) → Agree Sim Alike Whatever (refuse cause) (refuse cause)
  no cause = both_refuse alike cause

  -- another part, or a spread
  or_spread : (at : ℕ) (other : Job) → Agree Sim Alike (λ end trees records. (at + 1 ≤ end) × (end ≤ length sheet.kinds)) (ask other) (ask' other) → (dots : Bool) → token sheet at is Dot3 ≡ dots
      → low ≤ at → 32 * (length sheet.kinds - at) + 11 ≤ n
      → Agree Sim Alike (λ end trees records. (at + 1 ≤ end) × (end ≤ length sheet.kinds)) (ask (if dots then spread at else other)) (ask' (if dots then spread at else other))
  or_spread at other o true e l le = known (asked (spread at) (omega (arith, inside sheet at (λ k. k is Dot3) refl e))) (λ end trees records b. (omega arith, omega arith))
  or_spread at other o false e l le = o

  -- 15.3 and 15.9
  parenthesized_head_rel : (at : ℕ) → low ≤ at + 1 → 32 * (length sheet.kinds - at) + 4 ≤ n + 1 → Agree Sim Alike Whatever (parenthesized_head_of sheet ask at) (parenthesized_head_of sheet ask' at)
  unfolding productions
  parenthesized_head_rel at l le =
      both_token sheet _ _ (λ t. both_follow (asked (parameters (at + 1) nil) (omega arith)) (λ list rs b. both_token sheet _ _ (λ t. both_yield _ _) (no _))) (no _)

  pub step_rel : (job : Job) → Ready sheet low (suc n) job → Agree Sim Alike Whatever (step A sheet ask job) (step B sheet ask' job)
  unfolding productions is_assignment_operator is_unary_operator is_update_operator is_async_name
  -- 13.16
  step_rel (expression at) r =
      both_follow (asked (assignment at) (omega arith))
      (λ part rs b. both_token sheet _ _ (λ t. last (sequence at part.end part.end part.trees) (omega arith)) (both_yield _ _))
  step_rel (sequence first comma at so_far) r =
      both_token sheet _ _
      (λ t. both_follow (asked (assignment (at + 1)) (omega arith)) (λ part rs b. last (sequence first comma part.end (join so_far part.trees)) (omega arith)))
      (both_yield _ _)
  step_rel (assignment at) r = assignment_rel at r
  -- 13.15 and 13.14
  step_rel (value at) r =
      both_test (is_async_name sheet at)
      (λ t. last (body Row.AsyncArrow at (at + 2) (one (leaf Row.BindingName (at + 1))))
      (omega (arith, async_inside sheet at t)))
      (λ _. both_follow (asked (binary 0 at) (omega arith))
      (λ left rs b. both_test (kind_of (tree left) is Row.Identifier and token sheet left.end is Arrow)
      (λ t. last (body Row.Arrow at left.end (one (leaf Row.BindingName at))) (omega (arith, inside sheet left.end (λ k. k is Arrow) refl (and_right (kind_of (tree left) is Row.Identifier) _ t))))
      (λ _. both_test (is_assignment_operator (token sheet left.end))
      (λ t. last (assign at left.end (tree left)) (omega (arith, inside sheet left.end is_assignment_operator refl t)))
      (λ _. both_token sheet _ _ (λ t. last (conditional at left.end (tree left)) (omega arith)) (both_yield _ _)))))
  step_rel (assign first at left) r =
      both_follow (both_convert alike (if token sheet at is Eq then any else simple) at left)
      (λ target rs b. both_follow (asked (assignment (at + 1)) (omega arith)) (λ right more c. both_yield _ _))
  step_rel (conditional first at left) r =
      both_follow (asked (assignment (at + 1)) (omega arith))
      (λ if_true rs b. both_token sheet _ _ (λ t. both_follow (asked (assignment (if_true.end + 1)) (omega arith)) (λ if_false more c. both_yield _ _)) (no _))
  -- 13.6 to 13.13
  step_rel (binary floor at) r = both_follow (asked (unary at) (omega arith)) (λ left rs b. last (operators floor at left.end (tree left)) (omega arith))
  step_rel (operators floor first at left) r =
      both_test (ltb floor (expression_level (token sheet at)))
      (λ t. let i = operator_inside sheet at floor t in both_follow (asked (binary (right_floor (token sheet at)) (at + 1)) (omega arith))
      (λ right rs b. both_say _ (last (operators floor first right.end (node (operation_kind (token sheet at)) at first right.end (cons left right.trees))) (omega arith))))
      (λ _. both_yield _ _)
  -- 13.5 and 13.4
  step_rel (unary at) r =
      both_test (is_unary_operator (token sheet at))
      (λ t. let i = inside sheet at is_unary_operator refl t in both_follow (asked (unary (at + 1)) (omega arith)) (λ operand rs b. both_yield _ _))
      (λ _. both_test (is_update_operator (token sheet at))
      (λ t. let i = inside sheet at is_update_operator refl t in both_follow (asked (unary (at + 1)) (omega arith))
      (λ operand rs b. both_follow (both_convert alike simple operand.end (tree operand)) (λ target more c. both_yield _ _)))
      (λ _. last (postfix at) (omega arith)))
  step_rel (postfix at) r =
      both_follow (asked (left_hand_side at) (omega arith))
      (λ operand rs b. both_test (is_update_operator (token sheet operand.end) and not (break_before sheet operand.end))
      (λ t. both_follow (both_convert alike simple operand.end (tree operand)) (λ target more c. both_yield _ _))
      (λ _. both_yield _ _))
  -- 13.3
  step_rel (left_hand_side at) r = both_follow (asked (primary at) (omega arith)) (λ base rs b. last (links at base.end (tree base)) (omega arith))
  step_rel (links first at left) r =
      both_token sheet _ _
      (λ t. both_test (is_word (token sheet (at + 1))) (λ w. last (links first (at + 2) (node Row.Member (at + 1) first (at + 2) (one left))) (omega arith)) (λ _. no _))
      (both_token sheet _ _
      (λ t. both_follow (asked (expression (at + 1)) (omega arith))
      (λ inner rs b. both_token sheet _ _ (λ t. last (links first (inner.end + 1) (node Row.Index first first (inner.end + 1) (cons left inner.trees))) (omega arith)) (no _)))
      (both_token sheet _ _
      (λ t. both_follow (asked (arguments first (at + 1) (one left)) (omega arith)) (λ call rs b. last (links first call.end (tree call)) (omega arith)))
      (both_yield _ _)))
  step_rel (arguments first at so_far) r =
      both_token sheet _ _ (λ t. both_yield _ _)
      (both_follow (or_spread at (assignment at) (known (asked (assignment at) (omega arith)) (λ end trees records b. (omega arith, omega arith))) (token sheet at is Dot3) refl (omega arith) (omega arith))
      (λ argument rs b. both_token sheet _ _ (λ t. last (arguments first (argument.end + 1) (join so_far argument.trees)) (omega arith))
      (both_token sheet _ _ (λ t. both_yield _ _) (no _))))
  -- 13.2
  step_rel (primary at) r =
      both_test (is_name (token sheet at)) (λ t. both_yield _ _)
      (λ _. both_token sheet _ _ (λ t. both_yield _ _)
      (both_test (is_literal (token sheet at)) (λ t. both_yield _ _)
      (λ _. both_token sheet _ _
      (λ t. both_follow (asked (expression (at + 1)) (omega arith)) (λ inner rs b. both_token sheet _ _ (λ t. both_yield _ _) (no _)))
      (both_token sheet _ _ (λ t. last (elements at (at + 1) Row.Array nil) (omega arith))
      (both_token sheet _ _ (λ t. last (properties at (at + 1) Row.Object nil) (omega arith)) (no _))))))
  step_rel (elements first at kind so_far) r =
      both_token sheet _ _ (λ t. both_yield _ _)
      (both_token sheet _ _ (λ t. last (elements first (at + 1) Row.Array (join so_far (one (leaf Row.Hole at)))) (omega arith))
      (both_follow (or_spread at (assignment at) (known (asked (assignment at) (omega arith)) (λ end trees records b. (omega arith, omega arith))) (token sheet at is Dot3) refl (omega arith) (omega arith))
      (λ element rs b. both_token sheet _ _
      (λ t. last (elements first (element.end + 1) (if token sheet at is Dot3 then Row.ArrayRestComma else Row.Array) (join so_far element.trees)) (omega arith))
      (both_token sheet _ _ (λ t. both_yield _ _) (no _)))))
  step_rel (properties first at kind so_far) r =
      both_token sheet _ _ (λ t. both_yield _ _)
      (both_follow (or_spread at (property at) (known (asked (property at) (omega arith)) (λ end trees records b. (omega arith, omega arith))) (token sheet at is Dot3) refl (omega arith) (omega arith))
      (λ part rs b. both_token sheet _ _
      (λ t. last (properties first (part.end + 1) (if token sheet at is Dot3 then Row.ObjectRestComma else Row.Object) (join so_far part.trees)) (omega arith))
      (both_token sheet _ _ (λ t. both_yield _ _) (no _))))
  step_rel (property at) r =
      both_test (is_name (token sheet at) and not (token sheet (at + 1) is Colon))
      (λ _. both_token sheet _ _ (λ t. both_follow (asked (assignment (at + 2)) (omega arith)) (λ initializer rs b. both_yield _ _)) (both_yield _ _))
      (λ _. both_follow (asked (key at) (omega arith))
      (λ name rs b. both_token sheet _ _ (λ t. both_follow (asked (assignment (name.end + 1)) (omega arith)) (λ content more c. both_yield _ _)) (no _)))
  step_rel (key at) r =
      both_test (is_word (token sheet at) or token sheet at is Str or token sheet at is Number) (λ t. both_yield _ _)
      (λ _. both_token sheet _ _
      (λ t. both_follow (asked (assignment (at + 1)) (omega arith)) (λ inner rs b. both_token sheet _ _ (λ t. both_yield _ _) (no _)))
      (no _))
  step_rel (spread at) r = both_follow (asked (assignment (at + 1)) (omega arith)) (λ argument rs b. both_yield _ _)
  -- 14.3.3
  step_rel (binding at) r =
      both_test (is_name (token sheet at)) (λ t. both_yield _ _)
      (λ _. both_token sheet _ _ (λ t. last (binding_elements at (at + 1) nil) (omega arith))
      (both_token sheet _ _ (λ t. last (binding_properties at (at + 1) nil) (omega arith)) (no _)))
  step_rel (binding_element at) r =
      both_follow (asked (binding at) (omega arith))
      (λ target rs b. both_token sheet _ _ (λ t. both_follow (asked (assignment (target.end + 1)) (omega arith)) (λ initializer more c. both_yield _ _)) (both_yield _ _))
  step_rel (binding_elements first at so_far) r =
      both_token sheet _ _ (λ t. both_yield _ _)
      (both_token sheet _ _ (λ t. last (binding_elements first (at + 1) (join so_far (one (leaf Row.Hole at)))) (omega arith))
      (both_token sheet _ _
      (λ t. both_follow (asked (binding_rest at) (omega arith)) (λ rest rs b. both_token sheet _ _ (λ t. both_yield _ _) (no _)))
      (both_follow (asked (binding_element at) (omega arith))
      (λ element rs b. both_token sheet _ _ (λ t. last (binding_elements first (element.end + 1) (join so_far element.trees)) (omega arith))
      (both_token sheet _ _ (λ t. both_yield _ _) (no _))))))
  step_rel (binding_properties first at so_far) r =
      both_token sheet _ _ (λ t. both_yield _ _)
      (both_token sheet _ _
      (λ t. both_follow (asked (binding_rest at) (omega arith))
      (λ rest rs b. both_token sheet _ _
      (λ t. both_test (kind_of (argument_of (tree rest)) is Row.BindingName) (λ _. both_yield _ _) (λ _. no _))
      (no _)))
      (both_follow (asked (binding_property at) (omega arith))
      (λ part rs b. both_token sheet _ _ (λ t. last (binding_properties first (part.end + 1) (join so_far part.trees)) (omega arith))
      (both_token sheet _ _ (λ t. both_yield _ _) (no _)))))
  step_rel (binding_property at) r =
      both_test (is_name (token sheet at) and not (token sheet (at + 1) is Colon))
      (λ _. both_token sheet _ _ (λ t. both_follow (asked (assignment (at + 2)) (omega arith)) (λ initializer rs b. both_yield _ _)) (both_yield _ _))
      (λ _. both_follow (asked (key at) (omega arith))
      (λ name rs b. both_token sheet _ _ (λ t. both_follow (asked (binding_element (name.end + 1)) (omega arith)) (λ content more c. both_yield _ _)) (no _)))
  step_rel (binding_rest at) r = both_follow (asked (binding_element (at + 1)) (omega arith)) (λ argument rs b. both_say _ (both_yield _ _))
  step_rel (head at) r =
      both_token sheet _ _
      (λ t. both_test (not (break_before sheet (at + 1))) (λ _. parenthesized_head_rel (at + 1) (omega arith) (omega arith)) (λ _. no _))
      (parenthesized_head_rel at (omega arith) (omega arith))
  step_rel (parameters at so_far) r =
      both_token sheet _ _ (λ t. both_yield _ _)
      (both_token sheet _ _
      (λ t. both_follow (asked (binding_rest at) (omega arith)) (λ rest rs b. both_token sheet _ _ (λ t. both_yield _ _) (no _)))
      (both_follow (asked (binding_element at) (omega arith))
      (λ parameter rs b. both_token sheet _ _ (λ t. last (parameters (parameter.end + 1) (join so_far parameter.trees)) (omega arith))
      (both_token sheet _ _ (λ t. both_yield _ _) (no _)))))
  step_rel (body kind first at so_far) r =
      both_say _ (both_test (not (token sheet (at + 1) is LCurly))
      (λ _. both_follow (asked (assignment (at + 1)) (omega arith)) (λ inner rs b. both_yield _ _))
      (λ _. no _))

-- THE TWO READERS, from what is special to their policies
module _ {N N' : Type 0} {Sim : N → N' → Type 0} {Alike : Cause → Cause → Type 0} (alike : (cause : Cause) → Alike cause cause) (sheet : Sheet) (low : ℕ) (A : Policy N) (B : Policy N')
    (assignment_rel : (n f f' : ℕ) → n ≤ f → n ≤ f' → Near Sim Alike sheet low n (read A sheet f) (read B sheet f') → (at : ℕ) → Ready sheet low (suc n) (assignment at)
    → Agree Sim Alike Whatever (assignment_of A sheet (read A sheet f) at) (assignment_of B sheet (read B sheet f') at)) where
  one_step : (n f f' : ℕ) → n ≤ f → n ≤ f' → Near Sim Alike sheet low n (read A sheet f) (read B sheet f') → (job : Job) → Ready sheet low (suc n) job → (m : N) (m' : N') → Sim m m'
      → Rel Sim Alike Whatever (read A sheet (suc f) job m) (read B sheet (suc f') job m')
  unfolding read
  one_step n f f' l l' h job r m m' s = (step_rel alike sheet low A B h (assignment_rel n f f' l l' h) job r).with m m' s

  -- what is known of the first is known of both
  with_bound : (f : ℕ) (job : Job) (m : N) {y : Out N'} → Rel Sim Alike Whatever (read A sheet f job m) y → Rel Sim Alike (Bound (limits sheet job)) (read A sheet f job m) y
  with_bound f job m (both_done end trees records m₁ m' e e' p s) = both_done end trees records m₁ m' e e' (bounded_at A sheet f job m e) s
  with_bound f job m (both_fail cause cause' m₁ m' e e' al s) = both_fail cause cause' m₁ m' e e' al s

  pub near : (n f f' : ℕ) → n ≤ f → n ≤ f' → Near Sim Alike sheet low n (read A sheet f) (read B sheet f')
  near zero f f' l l' = record { with = λ job r. absurd (omega (arith, positive sheet job)) }
  near (suc n) zero f' l l' = absurd (omega arith)
  near (suc n) (suc f) zero l l' = absurd (omega arith)
  near (suc n) (suc f) (suc f') l l' = record { with = λ job r. record { with = λ m m' s. with_bound (suc f) job m (one_step n f f' (omega arith) (omega arith) (near n f f' (omega arith) (omega arith)) job r m m' s) } }

  pub related : (job : Job) → low ≤ first_noted job → looked_at job ≤ length sheet.kinds → (f f' : ℕ) → μ sheet job ≤ f → μ sheet job ≤ f' → (m : N) (m' : N') → Sim m m'
      → Rel Sim Alike (Bound (limits sheet job)) (read A sheet f job m) (read B sheet f' job m')
  related job l i f f' le le' m m' s = ((near (μ sheet job) f f' le le').with job (record { later = l; stands_there = i; enough = omega arith })).with m m' s
