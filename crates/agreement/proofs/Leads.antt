-- One reader leads and another follows, over one grammar with two policies: where the leader is done, the follower is done with the same. The leader may
-- fail, or be done before a token that nothing allows after what was read, `=>` or `{`: of the follower only that is said then which stays so as it reads on.
-- One case a production but for the one that has the policy in it; `led`, at the end, puts them together. Assumes nothing.
use Rattle.std.specs.Prelude.{if◌then◌else◌}
use Prim.Native.Nat.{ℕ, zero, suc, ◌+◌, ◌-◌, ◌*◌, ◌≤◌, ◌<◌}
use mathlib.Core.Path.{◌≡◌, refl, sym, ◌∙◌}
use mathlib.Core.Bool.{Bool, true, false, not}
use mathlib.Core.List.{List, [], ◌++◌}
use native.Mathlib.Omega.{arith}
use lib.Dec.{ltb}
use lib.ListN.{length}
use borrow.Author.Tests.{eqb-true, ne_eqb}
use Rattle.tokens.specs.Bool.{◌or◌, ◌and◌, ◌is◌}
use Rattle.tokens.specs.Kind.{Async, Str, Number, RParen, RBrack, LCurly, RCurly, Comma, Colon, Dot3, Arrow, Eq}
use Rattle.tokens.specs.Token.{is_name, is_word, is_literal}
use Rattle.tokens.specs.declared.cause.Cause.{Cause}
use Rattle.tokens.proofs.Stands.{stands}
use Rattle.operators.specs.Precedence.{expression_level}
use Rattle.rows.specs.Row as Row
use Rattle.rows.specs.Tree.{Tree, Forest, node, nil, cons, one, join, kind_of}
use Rattle.rows.specs.Record.{Record}
use Rattle.conversion.specs.Conversion.{Role, any, simple, Outcome, turned, refused, convert_as}
use Rattle.grammar.specs.Sheet.{Sheet, token, break_before, Out, done, fail, Reading, Part, tree, leaf, after_records, and_then, ◌>>=◌, yield, refuse, say}
use Rattle.grammar.specs.Job.{Job, expression, sequence, assignment, value, assign, conditional, binary, operators, unary, postfix, left_hand_side, links, arguments, primary, elements, properties, property, key, spread, binding, binding_element, binding_elements, binding_properties, binding_property, binding_rest, head, parameters, body, Asks}
use Rattle.grammar.specs.Comma.{expression_of, sequence_of}
use Rattle.grammar.specs.Assignment.{is_assignment_operator, assign_of, conditional_of, after_binary, is_async_name, value_of}
use Rattle.grammar.specs.Binary.{operation_kind, right_floor, binary_of, operators_of}
use Rattle.grammar.specs.Update.{is_unary_operator, is_update_operator, converted_to, converted, unary_of, postfix_of}
use Rattle.grammar.specs.LeftHandSide.{left_hand_side_of, links_of, arguments_of}
use Rattle.grammar.specs.Primary.{parenthesized_of, primary_of, spread_of, elements_of, properties_of, shorthand_of, property_of, key_of}
use Rattle.grammar.specs.Binding.{binding_of, binding_element_of, binding_rest_of, binding_elements_of, argument_of, binding_properties_of, binding_shorthand_of, binding_property_of}
use Rattle.grammar.specs.Arrow.{Policy, arrow_of, assignment_of, parenthesized_head_of, head_of, parameters_of, body_of}
use Rattle.grammar.specs.Step.{step, read, plenty}
use Rattle.grammar.specs.Reading.{reading}
use Rattle.laws.specs.Settles.{μ, looked_at}
use Rattle.laws.proofs.Good.{Meaning, Stands, Came, whole_from, inside, and_right}
use Rattle.laws.proofs.Bounds.{limits, Bound, bounded_at}
use Rattle.agreement.specs.Terms.{ReadAs}
use Rattle.laws.proofs.Rel.{Ready, Whatever, operator_inside, async_inside, positive}

-- a token that nothing allows after an expression or a binding: `=>`, where what stands before it is no parameter, or `{`
pub data Dead (sheet : Sheet) (at : ℕ) : Type 0 where
  arrow : token sheet at ≡ Arrow → Dead sheet at
  curly : token sheet at ≡ LCurly → Dead sheet at

-- the kinds but those two
abbrev pub other : ℕ → Bool
other kind = not (kind is Arrow) and not (kind is LCurly)

-- such a token is no other
pub dead_is : (sheet : Sheet) (at kind : ℕ) → Dead sheet at → other kind ≡ true → token sheet at is kind ≡ false
dead_is sheet at kind (arrow e) o =
    ne_eqb _ _ (λ q. let k : kind ≡ Arrow = sym q ∙ e in let z : other kind ≡ false = rw k in let y : true ≡ false = sym o ∙ z in let x : ◌≡◌ {A = ℕ} 0 1 = cc in omega arith)
dead_is sheet at kind (curly e) o =
    ne_eqb _ _ (λ q. let k : kind ≡ LCurly = sym q ∙ e in let z : other kind ≡ false = rw k in let y : true ≡ false = sym o ∙ z in let x : ◌≡◌ {A = ℕ} 0 1 = cc in omega arith)

-- it stands before the end
pub dead_inside : (sheet : Sheet) (at : ℕ) → Dead sheet at → at < length sheet.kinds
dead_inside sheet at (arrow e) = stands sheet.kinds e
dead_inside sheet at (curly e) = stands sheet.kinds e

-- the nonterminals that may end before such a token: those that end in an AssignmentExpression
abbrev pub open_ended : Job → Bool
open_ended (expression at) = true
open_ended (sequence first comma at so_far) = true
open_ended (assignment at) = true
open_ended (value at) = true
open_ended (assign first at left) = true
open_ended (conditional first at left) = true
open_ended (binary floor at) = false
open_ended (operators floor first at left) = false
open_ended (unary at) = false
open_ended (postfix at) = false
open_ended (left_hand_side at) = false
open_ended (links first at left) = false
open_ended (arguments first at so_far) = false
open_ended (primary at) = false
open_ended (elements first at kind so_far) = false
open_ended (properties first at kind so_far) = false
open_ended (property at) = true
open_ended (key at) = false
open_ended (spread at) = true
open_ended (binding at) = false
open_ended (binding_element at) = true
open_ended (binding_elements first at so_far) = false
open_ended (binding_properties first at so_far) = false
open_ended (binding_property at) = true
open_ended (binding_rest at) = true
open_ended (head at) = false
open_ended (parameters at so_far) = false
open_ended (body kind first at so_far) = true

module _ {N : Type 0} (sheet : Sheet) where
  -- no use can be made of an outcome: it fails, or it is done before a token that nothing allows
  pub data Halt (loose : Bool) (x : Out N) : Type 0 where
    halt_fail : (cause : Cause) (m : N) → x ≡ fail cause m → Halt loose x
    halt_dead : loose ≡ true → (end : ℕ) (trees : Forest) (records : List Record) (m : N) → x ≡ done end trees records m → Dead sheet end → Halt loose x

  -- a reading does so from any notes
  pub record Halts (loose : Bool) (reading : Reading N) : Type 0 where
    pub with : (m : N) → Halt loose (reading m)

module _ {N N' : Type 0} (sheet : Sheet) (Sim : N → N' → Type 0) (Left : Out N' → Type 0) where
  -- What two outcomes have in common: both are done with the same, of which P holds, and the notes after are similar; or of the leader's no use can be
  -- made, and of the follower's holds what is Left.
  pub data Led (loose : Bool) (P : Meaning) (x : Out N) (y : Out N') : Type 0 where
    both_done : (end : ℕ) (trees : Forest) (records : List Record) (m : N) (m' : N') → x ≡ done end trees records m → y ≡ done end trees records m' → P end trees records → Sim m m'
        → Led loose P x y
    halted : Halt sheet loose x → Left y → Led loose P x y

  -- two readings do so from similar notes
  pub record Leads (loose : Bool) (P : Meaning) (reading : Reading N) (reading' : Reading N') : Type 0 where
    pub with : (m : N) (m' : N') → Sim m m' → Led loose P (reading m) (reading' m')

  -- the answers to all questions that may be asked; and a Sequence ends where nothing may follow
  pub record Near (steps : ℕ) (ask : Asks N) (ask' : Asks N') : Type 0 where
    pub with : (job : Job) → Ready sheet 0 steps job → Leads (open_ended job) (Bound (limits sheet job)) (ask job) (ask' job)
    pub quiet : (first comma at : ℕ) (so_far : Forest) → 1 ≤ steps → Dead sheet at → Halts sheet true (ask (sequence first comma at so_far))

  -- what is Left of a follower stays so as it reads on
  pub record Stays : Type 0 where
    pub reading_on : {y : Out N'} (next : Part → Reading N') → Left y → Left (and_then y next)
    pub recording : {y : Out N'} (records : List Record) → Left y → Left (after_records records y)

-- THE WORDS, of one reading of which no use can be made
module _ {N : Type 0} {sheet : Sheet} {loose : Bool} where
  pub halt_after : (records : List Record) {x : Out N} → Halt sheet loose x → Halt sheet loose (after_records records x)
  unfolding after_records
  halt_after records (halt_fail cause m e) = rw e (halt_fail cause m refl)
  halt_after records (halt_dead o end trees more m e d) = rw e (halt_dead o end trees (records ++ more) m refl d)

  pub halts_refuse : (cause : Cause) → Halts {N = N} sheet loose (refuse cause)
  unfolding refuse
  halts_refuse cause = record { with = λ m. halt_fail cause m refl }

  pub halts_yield : loose ≡ true → (end : ℕ) (trees : Forest) → Dead sheet end → Halts {N = N} sheet loose (yield end trees)
  unfolding yield
  halts_yield o end trees d = record { with = λ m. halt_dead o end trees [] m refl d }

  pub halts_say : (records : List Record) {r : Reading N} → Halts sheet loose r → Halts sheet loose (say records r)
  unfolding say
  halts_say records h = record { with = λ m. halt_after records (h.with m) }

-- THE WORDS, of two readings
module _ {N N' : Type 0} {sheet : Sheet} {Sim : N → N' → Type 0} {Left : Out N' → Type 0} (stays : Stays sheet Sim Left) where
  pub led_after : {loose : Bool} (records : List Record) {x : Out N} {y : Out N'} → Led sheet Sim Left loose Whatever x y
      → Led sheet Sim Left loose Whatever (after_records records x) (after_records records y)
  unfolding after_records
  led_after records (both_done end trees more m m' e e' p s) = rw (e, e') (both_done end trees (records ++ more) m m' refl refl tt s)
  led_after records (halted h l) = halted (halt_after records h) (stays.recording records l)

  pub lead_say : {loose : Bool} (records : List Record) {r : Reading N} {r' : Reading N'} → Leads sheet Sim Left loose Whatever r r'
      → Leads sheet Sim Left loose Whatever (say records r) (say records r')
  unfolding say
  lead_say records a = record { with = λ m m' s. led_after records (a.with m m' s) }

  -- `part ← reading`, and what follows: also where the part ends before a token that nothing allows
  pub lead_follow : {loose loose' : Bool} {Q : Meaning} {r : Reading N} {r' : Reading N'} {next : Part → Reading N} {next' : Part → Reading N'} → Leads sheet Sim Left loose Q r r'
      → ((part : Part) (records : List Record) → Q part.end part.trees records → Leads sheet Sim Left loose' Whatever (next part) (next' part))
      → (loose ≡ true → (part : Part) → Dead sheet part.end → Halts sheet loose' (next part))
      → Leads sheet Sim Left loose' Whatever (r >>= next) (r' >>= next')
  unfolding ◌>>=◌ and_then
  lead_follow {loose} {loose'} {Q} {r} {r'} {next} {next'} a h d = record { with = λ m m' s. go (a.with m m' s) }
    where
      no_use : {x : Out N} → Halt sheet loose x → Halt sheet loose' (and_then x next)
      no_use (halt_fail cause m e) = rw e (halt_fail cause m refl)
      no_use (halt_dead o end trees records m e k) = rw e (halt_after records ((d o (record { end = end; trees = trees }) k).with m))

      go : {x : Out N} {y : Out N'} → Led sheet Sim Left loose Q x y → Led sheet Sim Left loose' Whatever (and_then x next) (and_then y next')
      go (both_done end trees records m m' e e' q s) = rw (e, e') (led_after records ((h (record { end = end; trees = trees }) records q).with m m' s))
      go (halted k l) = halted (no_use k) (stays.reading_on next' l)

module _ {N N' : Type 0} {sheet : Sheet} {Sim : N → N' → Type 0} {Left : Out N' → Type 0} {loose : Bool} where
  -- what is said may be said otherwise
  pub known : {P Q : Meaning} {r : Reading N} {r' : Reading N'} → Leads sheet Sim Left loose Q r r'
      → ((end : ℕ) (trees : Forest) (records : List Record) → Q end trees records → P end trees records) → Leads sheet Sim Left loose P r r'
  known {P} {Q} a h = record { with = λ m m' s. go (a.with m m' s) }
    where
      go : {x : Out N} {y : Out N'} → Led sheet Sim Left loose Q x y → Led sheet Sim Left loose P x y
      go (both_done end trees records m m' e e' q s) = both_done end trees records m m' e e' (h end trees records q) s
      go (halted k l) = halted k l

  pub forget : {P : Meaning} {r : Reading N} {r' : Reading N'} → Leads sheet Sim Left loose P r r' → Leads sheet Sim Left loose Whatever r r'
  forget a = known a (λ end trees records p. tt)

  pub lead_yield : (end : ℕ) (trees : Forest) → Leads sheet Sim Left loose Whatever (yield end trees) (yield end trees)
  unfolding yield
  lead_yield end trees = record { with = λ m m' s. both_done end trees [] m m' refl refl tt s }

  pub lead_test : (holds : Bool) {x y : Reading N} {x' y' : Reading N'} → (holds ≡ true → Leads sheet Sim Left loose Whatever x x') → (holds ≡ false → Leads sheet Sim Left loose Whatever y y')
      → Leads sheet Sim Left loose Whatever (if holds then x else y) (if holds then x' else y')
  lead_test true h g = h refl
  lead_test false h g = g refl

  pub lead_token : (at kind : ℕ) {x y : Reading N} {x' y' : Reading N'} → (Stands sheet at (suc kind) → Leads sheet Sim Left loose Whatever x x') → Leads sheet Sim Left loose Whatever y y'
      → Leads sheet Sim Left loose Whatever (if token sheet at is suc kind then x else y) (if token sheet at is suc kind then x' else y')
  lead_token at kind h g =
      lead_test (token sheet at is suc kind) (λ e. h (record { kind_is = eqb-true _ _ e; here = stands sheet.kinds (eqb-true _ _ e) })) (λ e. g)

  -- both fail alike from similar notes, if that is Left
  module _ (fails : (cause : Cause) (m : N) (m' : N') → Sim m m' → Left (fail cause m')) where
    pub lead_refuse : (cause : Cause) → Leads sheet Sim Left loose Whatever (refuse cause) (refuse cause)
    unfolding refuse
    lead_refuse cause = record { with = λ m m' s. halted (halt_fail cause m refl) (fails cause m m' s) }

    pub lead_convert : (role : Role) (end : ℕ) (t : Tree) → Leads sheet Sim Left loose Whatever (converted role end t) (converted role end t)
    unfolding converted_to
    lead_convert role end t = record { with = λ m m' s. go m m' s (convert_as t role) }
      where
        go : (m : N) (m' : N') → Sim m m' → (o : Outcome Tree) → Led sheet Sim Left loose Whatever (converted_to end o m) (converted_to end o m')
        go m m' s (turned t' records) = both_done end (one t') records m m' refl refl tt s
        go m m' s (refused cause) = halted (halt_fail cause m refl) (fails cause m m' s)

-- THE PRODUCTIONS
module _ {N N' : Type 0} {Sim : N → N' → Type 0} {Left : Out N' → Type 0} (sheet : Sheet) (stays : Stays sheet Sim Left)
    (fails : (cause : Cause) (m : N) (m' : N') → Sim m m' → Left (fail cause m')) {n : ℕ} {ask : Asks N} {ask' : Asks N'} (h : Near sheet Sim Left n ask ask') where
  asked : (job : Job) → Ready sheet 0 n job → Leads sheet Sim Left (open_ended job) (Bound (limits sheet job)) (ask job) (ask' job)
  asked job r = h.with job r

  last : (job : Job) → Ready sheet 0 n job → Leads sheet Sim Left (open_ended job) Whatever (ask job) (ask' job)
  last job r = forget (h.with job r)

  no : {loose : Bool} (cause : Cause) → Leads sheet Sim Left loose Whatever (refuse cause) (refuse cause)
  no cause = lead_refuse fails cause

  -- a part that ends before no such token, and what follows
  then_on : {loose : Bool} {Q : Meaning} {r : Reading N} {r' : Reading N'} {next : Part → Reading N} {next' : Part → Reading N'} → Leads sheet Sim Left false Q r r'
      → ((part : Part) (records : List Record) → Q part.end part.trees records → Leads sheet Sim Left loose Whatever (next part) (next' part))
      → Leads sheet Sim Left loose Whatever (r >>= next) (r' >>= next')
  then_on a k = lead_follow stays a k (λ o part d. let y : ◌≡◌ {A = ℕ} 0 1 = cc in absurd (omega arith))

  -- a spread from its `...` on, or what else the list is of
  argument_led : (at : ℕ) (dots : Bool) (other : Job) → token sheet at is Dot3 ≡ dots → 32 * (length sheet.kinds - at) + 11 ≤ n
      → Leads sheet Sim Left true (λ end trees records. (at + 1 ≤ end) × (end ≤ length sheet.kinds)) (ask other) (ask' other)
      → Leads sheet Sim Left true (λ end trees records. (at + 1 ≤ end) × (end ≤ length sheet.kinds)) (ask (if dots then spread at else other)) (ask' (if dots then spread at else other))
  argument_led at true other e le a = known (asked (spread at) (omega (arith, inside sheet at (λ k. k is Dot3) refl e))) (λ end trees records b. (omega arith, omega arith))
  argument_led at false other e le a = a

  -- 15.3 and 15.9
  parenthesized_head_led : (at : ℕ) → 32 * (length sheet.kinds - at) + 4 ≤ n + 1 → Leads sheet Sim Left false Whatever (parenthesized_head_of sheet ask at) (parenthesized_head_of sheet ask' at)
  unfolding parenthesized_head_of
  parenthesized_head_led at le =
      lead_token _ _ (λ t. then_on (asked (parameters (at + 1) nil) (omega arith)) (λ list rs b. lead_token _ _ (λ t. lead_yield _ _) (no _))) (no _)

  -- a head that both have read
  pub arrow_led : (A : Policy N) (B : Policy N') (at : ℕ) → Ready sheet 0 (suc n) (assignment at) → (list : Part) (records : List Record)
      → Bound (limits sheet (head at)) list.end list.trees records → Leads sheet Sim Left true Whatever (arrow_of A sheet ask at list) (arrow_of B sheet ask' at list)
  unfolding arrow_of
  arrow_led A B at r list rs b = last (body (if token sheet at is Async then Row.AsyncArrow else Row.Arrow) at list.end list.trees) (omega arith)

  -- every production, where that of the assignment level is given
  step_led : (A : Policy N) (B : Policy N')
      → ((at : ℕ) → Ready sheet 0 (suc n) (assignment at) → Leads sheet Sim Left true Whatever (assignment_of A sheet ask at) (assignment_of B sheet ask' at))
      → (job : Job) → Ready sheet 0 (suc n) job → Leads sheet Sim Left (open_ended job) Whatever (step A sheet ask job) (step B sheet ask' job)
  unfolding step expression_of sequence_of value_of after_binary is_assignment_operator assign_of conditional_of binary_of operators_of unary_of is_unary_operator is_update_operator postfix_of left_hand_side_of links_of arguments_of primary_of parenthesized_of spread_of elements_of properties_of property_of shorthand_of key_of binding_of binding_element_of binding_rest_of binding_elements_of binding_properties_of binding_property_of binding_shorthand_of head_of parameters_of body_of
  -- 13.16
  step_led A B assigns (expression at) r =
      lead_follow stays (asked (assignment at) (omega arith))
      (λ part rs b. lead_token _ _ (λ t. last (sequence at part.end part.end part.trees) (omega arith)) (lead_yield _ _))
      (λ o part d. rw (dead_is sheet part.end Comma d refl) (halts_yield refl _ _ d))
  step_led A B assigns (sequence first comma at so_far) r =
      lead_token _ _
      (λ t. lead_follow stays (asked (assignment (at + 1)) (omega arith)) (λ part rs b. last (sequence first comma part.end (join so_far part.trees)) (omega arith))
      (λ o part d. h.quiet first comma part.end (join so_far part.trees) (omega arith) d))
      (lead_yield _ _)
  step_led A B assigns (assignment at) r = assigns at r
  -- 13.15 and 13.14
  step_led A B assigns (value at) r =
      lead_test (is_async_name sheet at)
      (λ t. last (body Row.AsyncArrow at (at + 2) (one (leaf Row.BindingName (at + 1))))
      (omega (arith, async_inside sheet at t)))
      (λ _. then_on (asked (binary 0 at) (omega arith))
      (λ left rs b. lead_test (kind_of (tree left) is Row.Identifier and token sheet left.end is Arrow)
      (λ t. last (body Row.Arrow at left.end (one (leaf Row.BindingName at))) (omega (arith, inside sheet left.end (λ k. k is Arrow) refl (and_right (kind_of (tree left) is Row.Identifier) _ t))))
      (λ _. lead_test (is_assignment_operator (token sheet left.end))
      (λ t. last (assign at left.end (tree left)) (omega (arith, inside sheet left.end is_assignment_operator refl t)))
      (λ _. lead_token _ _ (λ t. last (conditional at left.end (tree left)) (omega arith)) (lead_yield _ _)))))
  step_led A B assigns (assign first at left) r =
      then_on (lead_convert fails (if token sheet at is Eq then any else simple) at left)
      (λ target rs b. lead_follow stays (asked (assignment (at + 1)) (omega arith)) (λ right more c. lead_yield _ _) (λ o right d. halts_yield refl _ _ d))
  step_led A B assigns (conditional first at left) r =
      lead_follow stays (asked (assignment (at + 1)) (omega arith))
      (λ if_true rs b. lead_token _ _ (λ t. lead_follow stays (asked (assignment (if_true.end + 1)) (omega arith)) (λ if_false more c. lead_yield _ _) (λ o if_false d. halts_yield refl _ _ d)) (no _))
      (λ o if_true d. rw (dead_is sheet if_true.end Colon d refl) (halts_refuse _))
  -- 13.6 to 13.13
  step_led A B assigns (binary floor at) r = then_on (asked (unary at) (omega arith)) (λ left rs b. last (operators floor at left.end (tree left)) (omega arith))
  step_led A B assigns (operators floor first at left) r =
      lead_test (ltb floor (expression_level (token sheet at)))
      (λ t. let i = operator_inside sheet at floor t in then_on (asked (binary (right_floor (token sheet at)) (at + 1)) (omega arith))
      (λ right rs b. lead_say stays _ (last (operators floor first right.end (node (operation_kind (token sheet at)) at first right.end (cons left right.trees))) (omega arith))))
      (λ _. lead_yield _ _)
  -- 13.5 and 13.4
  step_led A B assigns (unary at) r =
      lead_test (is_unary_operator (token sheet at))
      (λ t. let i = inside sheet at is_unary_operator refl t in then_on (asked (unary (at + 1)) (omega arith)) (λ operand rs b. lead_yield _ _))
      (λ _. lead_test (is_update_operator (token sheet at))
      (λ t. let i = inside sheet at is_update_operator refl t in then_on (asked (unary (at + 1)) (omega arith))
      (λ operand rs b. then_on (lead_convert fails simple operand.end (tree operand)) (λ target more c. lead_yield _ _)))
      (λ _. last (postfix at) (omega arith)))
  step_led A B assigns (postfix at) r =
      then_on (asked (left_hand_side at) (omega arith))
      (λ operand rs b. lead_test (is_update_operator (token sheet operand.end) and not (break_before sheet operand.end))
      (λ t. then_on (lead_convert fails simple operand.end (tree operand)) (λ target more c. lead_yield _ _))
      (λ _. lead_yield _ _))
  -- 13.3
  step_led A B assigns (left_hand_side at) r = then_on (asked (primary at) (omega arith)) (λ base rs b. last (links at base.end (tree base)) (omega arith))
  step_led A B assigns (links first at left) r =
      lead_token _ _
      (λ t. lead_test (is_word (token sheet (at + 1))) (λ w. last (links first (at + 2) (node Row.Member (at + 1) first (at + 2) (one left))) (omega arith)) (λ _. no _))
      (lead_token _ _
      (λ t. lead_follow stays (asked (expression (at + 1)) (omega arith))
      (λ inner rs b. lead_token _ _ (λ t. last (links first (inner.end + 1) (node Row.Index first first (inner.end + 1) (cons left inner.trees))) (omega arith)) (no _))
      (λ o inner d. rw (dead_is sheet inner.end RBrack d refl) (halts_refuse _)))
      (lead_token _ _
      (λ t. then_on (asked (arguments first (at + 1) (one left)) (omega arith)) (λ call rs b. last (links first call.end (tree call)) (omega arith)))
      (lead_yield _ _)))
  step_led A B assigns (arguments first at so_far) r =
      lead_token _ _ (λ t. lead_yield _ _)
      (lead_follow stays (argument_led at (token sheet at is Dot3) (assignment at) refl (omega arith) (known (asked (assignment at) (omega arith)) (λ end trees records b. (omega arith, omega arith))))
      (λ argument rs b. lead_token _ _ (λ t. last (arguments first (argument.end + 1) (join so_far argument.trees)) (omega arith))
      (lead_token _ _ (λ t. lead_yield _ _) (no _)))
      (λ o argument d. rw (dead_is sheet argument.end Comma d refl, dead_is sheet argument.end RParen d refl) (halts_refuse _)))
  -- 13.2
  step_led A B assigns (primary at) r =
      lead_test (is_name (token sheet at)) (λ t. lead_yield _ _)
      (λ _. lead_token _ _ (λ t. lead_yield _ _)
      (lead_test (is_literal (token sheet at)) (λ t. lead_yield _ _)
      (λ _. lead_token _ _
      (λ t. lead_follow stays (asked (expression (at + 1)) (omega arith)) (λ inner rs b. lead_token _ _ (λ t. lead_yield _ _) (no _))
      (λ o inner d. rw (dead_is sheet inner.end RParen d refl) (halts_refuse _)))
      (lead_token _ _ (λ t. last (elements at (at + 1) Row.Array nil) (omega arith))
      (lead_token _ _ (λ t. last (properties at (at + 1) Row.Object nil) (omega arith)) (no _))))))
  step_led A B assigns (elements first at kind so_far) r =
      lead_token _ _ (λ t. lead_yield _ _)
      (lead_token _ _ (λ t. last (elements first (at + 1) Row.Array (join so_far (one (leaf Row.Hole at)))) (omega arith))
      (lead_follow stays (argument_led at (token sheet at is Dot3) (assignment at) refl (omega arith) (known (asked (assignment at) (omega arith)) (λ end trees records b. (omega arith, omega arith))))
      (λ element rs b. lead_token _ _
      (λ t. last (elements first (element.end + 1) (if token sheet at is Dot3 then Row.ArrayRestComma else Row.Array) (join so_far element.trees)) (omega arith))
      (lead_token _ _ (λ t. lead_yield _ _) (no _)))
      (λ o element d. rw (dead_is sheet element.end Comma d refl, dead_is sheet element.end RBrack d refl) (halts_refuse _))))
  step_led A B assigns (properties first at kind so_far) r =
      lead_token _ _ (λ t. lead_yield _ _)
      (lead_follow stays (argument_led at (token sheet at is Dot3) (property at) refl (omega arith) (known (asked (property at) (omega arith)) (λ end trees records b. (omega arith, omega arith))))
      (λ part rs b. lead_token _ _
      (λ t. last (properties first (part.end + 1) (if token sheet at is Dot3 then Row.ObjectRestComma else Row.Object) (join so_far part.trees)) (omega arith))
      (lead_token _ _ (λ t. lead_yield _ _) (no _)))
      (λ o part d. rw (dead_is sheet part.end Comma d refl, dead_is sheet part.end RCurly d refl) (halts_refuse _)))
  step_led A B assigns (property at) r =
      lead_test (is_name (token sheet at) and not (token sheet (at + 1) is Colon))
      (λ _. lead_token _ _ (λ t. lead_follow stays (asked (assignment (at + 2)) (omega arith)) (λ initializer rs b. lead_yield _ _) (λ o initializer d. halts_yield refl _ _ d)) (lead_yield _ _))
      (λ _. then_on (asked (key at) (omega arith))
      (λ name rs b. lead_token _ _ (λ t. lead_follow stays (asked (assignment (name.end + 1)) (omega arith)) (λ content more c. lead_yield _ _) (λ o content d. halts_yield refl _ _ d)) (no _)))
  step_led A B assigns (key at) r =
      lead_test (is_word (token sheet at) or token sheet at is Str or token sheet at is Number) (λ t. lead_yield _ _)
      (λ _. lead_token _ _
      (λ t. lead_follow stays (asked (assignment (at + 1)) (omega arith)) (λ inner rs b. lead_token _ _ (λ t. lead_yield _ _) (no _))
      (λ o inner d. rw (dead_is sheet inner.end RBrack d refl) (halts_refuse _)))
      (no _))
  step_led A B assigns (spread at) r = lead_follow stays (asked (assignment (at + 1)) (omega arith)) (λ argument rs b. lead_yield _ _) (λ o argument d. halts_yield refl _ _ d)
  -- 14.3.3
  step_led A B assigns (binding at) r =
      lead_test (is_name (token sheet at)) (λ t. lead_yield _ _)
      (λ _. lead_token _ _ (λ t. last (binding_elements at (at + 1) nil) (omega arith))
      (lead_token _ _ (λ t. last (binding_properties at (at + 1) nil) (omega arith)) (no _)))
  step_led A B assigns (binding_element at) r =
      then_on (asked (binding at) (omega arith))
      (λ target rs b. lead_token _ _ (λ t. lead_follow stays (asked (assignment (target.end + 1)) (omega arith)) (λ initializer more c. lead_yield _ _) (λ o initializer d. halts_yield refl _ _ d)) (lead_yield _ _))
  step_led A B assigns (binding_elements first at so_far) r =
      lead_token _ _ (λ t. lead_yield _ _)
      (lead_token _ _ (λ t. last (binding_elements first (at + 1) (join so_far (one (leaf Row.Hole at)))) (omega arith))
      (lead_token _ _
      (λ t. lead_follow stays (asked (binding_rest at) (omega arith)) (λ rest rs b. lead_token _ _ (λ t. lead_yield _ _) (no _))
      (λ o rest d. rw (dead_is sheet rest.end RBrack d refl) (halts_refuse _)))
      (lead_follow stays (asked (binding_element at) (omega arith))
      (λ element rs b. lead_token _ _ (λ t. last (binding_elements first (element.end + 1) (join so_far element.trees)) (omega arith))
      (lead_token _ _ (λ t. lead_yield _ _) (no _)))
      (λ o element d. rw (dead_is sheet element.end Comma d refl, dead_is sheet element.end RBrack d refl) (halts_refuse _)))))
  step_led A B assigns (binding_properties first at so_far) r =
      lead_token _ _ (λ t. lead_yield _ _)
      (lead_token _ _
      (λ t. lead_follow stays (asked (binding_rest at) (omega arith))
      (λ rest rs b. lead_token _ _
      (λ t. lead_test (kind_of (argument_of (tree rest)) is Row.BindingName) (λ _. lead_yield _ _) (λ _. no _))
      (no _))
      (λ o rest d. rw (dead_is sheet rest.end RCurly d refl) (halts_refuse _)))
      (lead_follow stays (asked (binding_property at) (omega arith))
      (λ part rs b. lead_token _ _ (λ t. last (binding_properties first (part.end + 1) (join so_far part.trees)) (omega arith))
      (lead_token _ _ (λ t. lead_yield _ _) (no _)))
      (λ o part d. rw (dead_is sheet part.end Comma d refl, dead_is sheet part.end RCurly d refl) (halts_refuse _))))
  step_led A B assigns (binding_property at) r =
      lead_test (is_name (token sheet at) and not (token sheet (at + 1) is Colon))
      (λ _. lead_token _ _ (λ t. lead_follow stays (asked (assignment (at + 2)) (omega arith)) (λ initializer rs b. lead_yield _ _) (λ o initializer d. halts_yield refl _ _ d)) (lead_yield _ _))
      (λ _. then_on (asked (key at) (omega arith))
      (λ name rs b. lead_token _ _ (λ t. lead_follow stays (asked (binding_element (name.end + 1)) (omega arith)) (λ content more c. lead_yield _ _) (λ o content d. halts_yield refl _ _ d)) (no _)))
  step_led A B assigns (binding_rest at) r =
      lead_follow stays (asked (binding_element (at + 1)) (omega arith)) (λ argument rs b. lead_say stays _ (lead_yield _ _)) (λ o argument d. halts_say _ (halts_yield refl _ _ d))
  step_led A B assigns (head at) r =
      lead_token _ _
      (λ t. lead_test (not (break_before sheet (at + 1))) (λ _. parenthesized_head_led (at + 1) (omega arith)) (λ _. no _))
      (parenthesized_head_led at (omega arith))
  step_led A B assigns (parameters at so_far) r =
      lead_token _ _ (λ t. lead_yield _ _)
      (lead_token _ _
      (λ t. lead_follow stays (asked (binding_rest at) (omega arith)) (λ rest rs b. lead_token _ _ (λ t. lead_yield _ _) (no _))
      (λ o rest d. rw (dead_is sheet rest.end RParen d refl) (halts_refuse _)))
      (lead_follow stays (asked (binding_element at) (omega arith))
      (λ parameter rs b. lead_token _ _ (λ t. last (parameters (parameter.end + 1) (join so_far parameter.trees)) (omega arith))
      (lead_token _ _ (λ t. lead_yield _ _) (no _)))
      (λ o parameter d. rw (dead_is sheet parameter.end Comma d refl, dead_is sheet parameter.end RParen d refl) (halts_refuse _))))
  step_led A B assigns (body kind first at so_far) r =
      lead_say stays _ (lead_test (not (token sheet (at + 1) is LCurly))
      (λ _. lead_follow stays (asked (assignment (at + 1)) (omega arith)) (λ inner rs b. lead_yield _ _) (λ o inner d. halts_yield refl _ _ d))
      (λ _. no _))

-- a Sequence ends where nothing may follow
sequence_quiet : {N : Type 0} (policy : Policy N) (sheet : Sheet) (steps : ℕ) (first comma at : ℕ) (so_far : Forest) → 1 ≤ steps → Dead sheet at
    → Halts sheet true (read policy sheet steps (sequence first comma at so_far))
unfolding read step sequence_of
sequence_quiet policy sheet zero first comma at so_far l d = absurd (omega arith)
sequence_quiet policy sheet (suc steps) first comma at so_far l d =
    let h : Halts sheet true (sequence_of sheet (read policy sheet steps) first comma at so_far) = rw (dead_is sheet at Comma d refl) (halts_yield refl at _ d) in
    record { with = λ m. h.with m }

-- THE TWO READERS, from what is special to their policies
module _ {N N' : Type 0} {Sim : N → N' → Type 0} {Left : Out N' → Type 0} (sheet : Sheet) (stays : Stays sheet Sim Left)
    (fails : (cause : Cause) (m : N) (m' : N') → Sim m m' → Left (fail cause m')) (A : Policy N) (B : Policy N')
    (assignment_led : (n f f' : ℕ) → n ≤ f → n ≤ f' → Near sheet Sim Left n (read A sheet f) (read B sheet f') → (at : ℕ) → Ready sheet 0 (suc n) (assignment at)
    → Leads sheet Sim Left true Whatever (assignment_of A sheet (read A sheet f) at) (assignment_of B sheet (read B sheet f') at)) where
  one_step : (n f f' : ℕ) → n ≤ f → n ≤ f' → Near sheet Sim Left n (read A sheet f) (read B sheet f') → (job : Job) → Ready sheet 0 (suc n) job → (m : N) (m' : N') → Sim m m'
      → Led sheet Sim Left (open_ended job) Whatever (read A sheet (suc f) job m) (read B sheet (suc f') job m')
  unfolding read
  one_step n f f' l l' h job r m m' s = (step_led sheet stays fails h A B (assignment_led n f f' l l' h) job r).with m m' s

  -- what is known of the first is known of both
  with_bound : (f : ℕ) (job : Job) (m : N) {loose : Bool} {y : Out N'} → Led sheet Sim Left loose Whatever (read A sheet f job m) y
      → Led sheet Sim Left loose (Bound (limits sheet job)) (read A sheet f job m) y
  with_bound f job m (both_done end trees records m₁ m' e e' p s) = both_done end trees records m₁ m' e e' (bounded_at A sheet f job m e) s
  with_bound f job m (halted k l) = halted k l

  pub near : (n f f' : ℕ) → n ≤ f → n ≤ f' → Near sheet Sim Left n (read A sheet f) (read B sheet f')
  near zero f f' l l' = record { with = λ job r. absurd (omega (arith, positive sheet job)); quiet = λ first comma at so_far p d. absurd (omega arith) }
  near (suc n) zero f' l l' = absurd (omega arith)
  near (suc n) (suc f) zero l l' = absurd (omega arith)
  near (suc n) (suc f) (suc f') l l' =
      record {
        with = λ job r. record { with = λ m m' s. with_bound (suc f) job m (one_step n f f' (omega arith) (omega arith) (near n f f' (omega arith) (omega arith)) job r m m' s) };
        quiet = λ first comma at so_far p d. sequence_quiet A sheet (suc f) first comma at so_far (omega arith) d;
      }

  -- what the leader comes to, and what the follower comes to
  pub led : (job : Job) → looked_at job ≤ length sheet.kinds → (f f' : ℕ) → μ sheet job ≤ f → μ sheet job ≤ f' → (m : N) (m' : N') → Sim m m'
      → Led sheet Sim Left (open_ended job) (Bound (limits sheet job)) (read A sheet f job m) (read B sheet f' job m')
  led job i f f' le le' m m' s = ((near (μ sheet job) f f' le le').with job (record { later = omega arith; stands_there = i; enough = omega arith })).with m m' s

-- of a whole list: what the leader reads, the follower reads
pub whole_led : {N N' : Type 0} {Sim : N → N' → Type 0} {Left : Out N' → Type 0} {loose : Bool} {P : Meaning} (A : Policy N) (B : Policy N') (sheet : Sheet) (job : Job) (m : N) (m' : N')
    {trees : Forest} {records : List Record} {after : N} → Came A sheet job m trees records after
    → Led sheet Sim Left loose P (read A sheet (plenty sheet) job m) (read B sheet (plenty sheet) job m') → ReadAs (reading B sheet job m') trees records
whole_led A B sheet job m m' {trees} c (both_done end ts rs _ after' e₁ e₂ b s) =
    let d = c.done_at_end in
    let t = c.then_unconverted in
    let w : read B sheet (plenty sheet) job m' ≡ done (length sheet.kinds) trees c.said after' = cc in
    record { after = after'; is_whole = rw t (whole_from B sheet job m' w) }
whole_led A B sheet job m m' c (halted (halt_fail cause _ e₁) _) = let d = c.done_at_end in let z : ◌≡◌ {A = ℕ} 0 1 = cc in absurd (omega arith)
whole_led A B sheet job m m' c (halted (halt_dead o end ts rs _ e₁ k) _) =
    let d = c.done_at_end in
    let a : end ≡ length sheet.kinds = cc in
    absurd (omega (arith, dead_inside sheet end k))
