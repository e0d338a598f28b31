-- Where an arrow function's head could be read, the way past it, if it is read at all, ends right before that head's `=>`: a group or a call covers the same brackets.
-- There nothing allows a `=>`: so to pass over a head that can be read never helps.
-- The statement, at the end: `covered`, with any policy. Assumes nothing.
use Rattle.std.specs.Prelude.{if◌then◌else◌}
use Prim.Native.Nat.{ℕ, zero, suc, ◌+◌, ◌≤◌}
use mathlib.Core.Path.{◌≡◌, refl}
use mathlib.Core.Bool.{true, false}
use native.Mathlib.Omega.{arith}
use lib.Dec.{ltb}
use borrow.Author.Tests.{ltb-true}
use Rattle.tokens.specs.Bool.{◌is◌}
use Rattle.tokens.specs.Kind.{LParen, Dot3, Arrow}
use Rattle.tokens.specs.Token.{is_name, is_literal}
use Rattle.tokens.specs.declared.cause.Cause.{Cause}
use Rattle.operators.specs.Precedence.{level, expression_level}
use Rattle.rows.specs.Row as Row
use Rattle.rows.specs.Tree.{Tree, Forest, one, join, kind_of}
use Rattle.grammar.specs.Sheet.{Sheet, token, done, fail, stuck, Out, Reading, Part, first_tree, tree}
use Rattle.grammar.specs.Job.{Job, expression, assignment, value, binary, operators, unary, postfix, left_hand_side, links, arguments, primary, spread, Asks}
use Rattle.grammar.specs.Assignment.{is_assignment_operator, after_binary, is_async_name, value_of}
use Rattle.grammar.specs.Binary.{binary_of, operators_of}
use Rattle.grammar.specs.Update.{is_unary_operator, is_update_operator, unary_of, postfix_of}
use Rattle.grammar.specs.LeftHandSide.{left_hand_side_of, links_of, arguments_of}
use Rattle.grammar.specs.Primary.{parenthesized_of, primary_of}
use Rattle.grammar.specs.Arrow.{Policy}
use Rattle.grammar.specs.Step.{step, read}
use Rattle.laws.specs.Settles.{μ}
use Rattle.laws.proofs.Good.{Meaning, Ends, ends_done, ends_fail, ends_stuck, Reads, Answers, yields, refuses, follows, test, token_test, both}
use Rattle.laws.proofs.Steady.{never_stuck}
use Rattle.agreement.proofs.Leads.{arrow, Halt, halt_fail, halt_dead}
use Rattle.laws.proofs.Balanced.{side_of}
use Rattle.laws.proofs.Readings.{Closes, Opening, bare, after_async, Headed, one_close, Shaped, all_balanced}

-- of a refusal nothing is said
abbrev pub Nothing : Cause → Type 0
Nothing cause = Unit {0}

-- nothing is said of a reading
pub nothing_said : {N : Type 0} (reading : Reading N) → Reads (λ end trees records. Unit {0}) Nothing reading
nothing_said {N} reading = record { with = λ notes. go (reading notes) refl }
  where
    go : {notes : N} (out : Out N) → reading notes ≡ out → Ends (λ end trees records. Unit {0}) Nothing (reading notes)
    go (done end trees records after) e = ends_done end trees records after e tt
    go (fail cause after) e = ends_fail cause after e tt
    go stuck e = ends_stuck e

-- OF SOME NONTERMINALS ONLY: those that are On, each with what is known where it is done
module _ {N : Type 0} {On : Job → Type 0} (Good : (job : Job) → On job → Meaning) where
  pub record Told (ask : Asks N) : Type 0 where
    pub with : (job : Job) (o : On job) → Reads (Good job o) Nothing (ask job)

  -- every reading is so, if every production makes such answers out of such answers; something else may be known of all answers
  pub all_told : (policy : Policy N) (sheet : Sheet) (Given : Asks N → Type 0) → ((steps : ℕ) → Given (read policy sheet steps))
      → ((ask : Asks N) → Given ask → Told ask → (job : Job) (o : On job) → Reads (Good job o) Nothing (step policy sheet ask job)) → (steps : ℕ) → Told (read policy sheet steps)
  unfolding read
  all_told policy sheet Given g p zero = record { with = λ job o. record { with = λ notes. ends_stuck refl } }
  all_told policy sheet Given g p (suc steps) = record { with = λ job o. record { with = λ notes. (p _ (g steps) (all_told policy sheet Given g p steps) job o).with notes } }

-- a head that ends at this place, where its `=>` stands
module _ (sheet : Sheet) (q : ℕ) (arrow_there : token sheet q ≡ Arrow) where
  -- ends before the `=>`, and is no lone name
  pub record Over (end : ℕ) (trees : Forest) : Type 0 where
    pub there : end ≡ q
    pub no_name : kind_of (first_tree trees) is Row.Identifier ≡ false

  -- a group up to the `=>`, or what is called before the brackets
  data Base (end : ℕ) (trees : Forest) : Type 0 where
    group : Over end trees → Base end trees
    callee : token sheet end ≡ LParen → Closes sheet (end + 1) q → Base end trees

  -- what is read so far, up to here
  data Linked (at : ℕ) (left : Tree) : Type 0 where
    ended : at ≡ q → kind_of left is Row.Identifier ≡ false → Linked at left
    calls : token sheet at ≡ LParen → Closes sheet (at + 1) q → Linked at left

  -- the nonterminals on the way past the head, each with what is known where it is asked; the others are not asked
  data On : Job → Type 0 where
    on_value : {at : ℕ} → Headed sheet at q → On (value at)
    on_binary : {floor at : ℕ} → Headed sheet at q → On (binary floor at)
    on_operators : {floor first at : ℕ} {left : Tree} → at ≡ q → kind_of left is Row.Identifier ≡ false → On (operators floor first at left)
    on_unary : {at : ℕ} → Headed sheet at q → On (unary at)
    on_postfix : {at : ℕ} → Headed sheet at q → On (postfix at)
    on_left_hand_side : {at : ℕ} → Headed sheet at q → On (left_hand_side at)
    on_links : {first at : ℕ} {left : Tree} → Linked at left → On (links first at left)
    on_arguments : {first at : ℕ} {so_far : Forest} → On (arguments first at so_far)
    on_primary : {at : ℕ} → Headed sheet at q → On (primary at)

  -- what is known where it is done
  abbrev Ended : {job : Job} → On job → Meaning
  Ended (on_value d) end trees records = end ≡ q
  Ended (on_binary d) end trees records = Over end trees
  Ended (on_operators e n) end trees records = Over end trees
  Ended (on_unary d) end trees records = Over end trees
  Ended (on_postfix d) end trees records = Over end trees
  Ended (on_left_hand_side d) end trees records = Over end trees
  Ended (on_links l) end trees records = Over end trees
  Ended on_arguments end trees records = kind_of (first_tree trees) ≡ Row.Call
  Ended (on_primary d) end trees records = Base end trees

  -- THE PRODUCTIONS
  module _ {N : Type 0} (policy : Policy N) {ask : Asks N} (g : Answers (λ job. Unit {0}) (Shaped sheet) Nothing ask) (h : Told (λ job o. Ended {job = job} o) ask) where
    -- the way past it is no async arrow of one name
    no_async_name : {at : ℕ} (d : Headed sheet at q) → Opening sheet at d.starts → is_async_name sheet at ≡ false
    unfolding is_async_name is_name
    no_async_name {at} d (bare e) = let k : token sheet at ≡ LParen = rw e at d.opens in rw k
    no_async_name {at} d (after_async a e) = let k : token sheet (at + 1) ≡ LParen = rw e at d.opens in rw (a, k)

    unary_over : {at : ℕ} (d : Headed sheet at q) → Opening sheet at d.starts → Reads (λ end trees records. Over end trees) Nothing (unary_of sheet ask at)
    unfolding unary_of is_unary_operator is_update_operator
    unary_over {at} d (bare e) = let k : token sheet at ≡ LParen = rw e at d.opens in rw k (h.with (postfix at) (on_postfix d))
    unary_over {at} d (after_async a e) = rw a (h.with (postfix at) (on_postfix d))

    linked : (base : Part) → Base base.end base.trees → Linked base.end (tree base)
    linked base (group b) = ended b.there b.no_name
    linked base (callee k c) = calls k c

    primary_over : {at : ℕ} (d : Headed sheet at q) → Opening sheet at d.starts → Reads (λ end trees records. Base end trees) Nothing (primary_of sheet ask at)
    unfolding primary_of parenthesized_of is_name is_literal first_tree kind_of side_of
    primary_over {at} d (bare e) =
        let k : token sheet at ≡ LParen = rw e at d.opens in
        let c : Closes sheet (at + 1) q = rw e at d.list in
        rw k (follows (g.with (expression (at + 1)) tt)
        (λ inner rs b. token_test sheet _ _
        (λ u. yields _ _ (group (record { there = one_close (record { close = inner.end; past = refl; inner = b; closer = record { goes = rw u.kind_is } }) c; no_name = refl })))
        (refuses _ tt)))
    primary_over {at} d (after_async a e) = rw a (yields _ _ (callee (rw e at d.opens) (rw e at d.list)))

    step_over : {job : Job} (o : On job) → Reads (Ended o) Nothing (step policy sheet ask job)
    unfolding step value_of after_binary is_assignment_operator binary_of operators_of expression_level level first_tree postfix_of is_update_operator left_hand_side_of links_of arguments_of kind_of
    step_over (on_value {at} d) =
        rw (no_async_name d d.opening) (follows (h.with (binary 0 at) (on_binary d))
        (λ left rs b. let k : token sheet left.end ≡ Arrow = rw b.there arrow_there in rw (b.no_name, k) (yields _ _ b.there)))
    step_over (on_binary {floor} {at} d) =
        follows (h.with (unary at) (on_unary d)) (λ left rs b. h.with (operators floor at left.end (tree left)) (on_operators b.there b.no_name))
    step_over (on_operators {floor} {first} {at} e n) =
        test (ltb floor (expression_level (token sheet at)))
        (λ t. let k : token sheet at ≡ Arrow = rw e arrow_there in let l = ltb-true floor 0 (rw k at t) in absurd (omega arith))
        (λ _. yields _ _ (record { there = e; no_name = n }))
    step_over (on_unary d) = unary_over d d.opening
    step_over (on_postfix {at} d) =
        follows (h.with (left_hand_side at) (on_left_hand_side d))
        (λ operand rs b. let k : token sheet operand.end ≡ Arrow = rw b.there arrow_there in rw k (yields _ _ (record { there = b.there; no_name = b.no_name })))
    step_over (on_left_hand_side {at} d) =
        follows (h.with (primary at) (on_primary d)) (λ base rs b. h.with (links at base.end (tree base)) (on_links (linked base b)))
    step_over (on_links {first} {at} {left} (ended e n)) = let k : token sheet at ≡ Arrow = rw e arrow_there in rw k (yields _ _ (record { there = e; no_name = n }))
    step_over (on_links {first} {at} {left} (calls k c)) =
        rw k (follows (both (g.with (arguments first (at + 1) (one left)) tt) (h.with (arguments first (at + 1) (one left)) on_arguments))
        (λ call rs b. h.with (links first call.end (tree call)) (on_links (ended (one_close b.0 c) (rw b.1)))))
    step_over (on_arguments {first} {at} {so_far}) =
        token_test sheet _ _ (λ t. yields _ _ refl)
        (follows (nothing_said (ask (if token sheet at is Dot3 then spread at else assignment at)))
        (λ argument rs b. token_test sheet _ _ (λ t. h.with (arguments first (argument.end + 1) (join so_far argument.trees)) on_arguments)
        (token_test sheet _ _ (λ t. yields _ _ refl) (refuses _ tt))))
    step_over (on_primary d) = primary_over d d.opening

  -- THE STATEMENT: no use can be made of the way past a head that ends here
  pub covered : {N : Type 0} (policy : Policy N) (at steps : ℕ) → Headed sheet at q → μ sheet (value at) ≤ steps → (notes : N) → Halt sheet true (read policy sheet steps (value at) notes)
  covered {N} policy at steps d le notes =
      go (((all_told (λ job o. Ended {job = job} o) policy sheet (Answers (λ job. Unit {0}) (Shaped sheet) Nothing) (all_balanced policy sheet)
      (λ ask g h job o. step_over policy g h o) steps).with (value at) (on_value d)).with notes)
    where
      go : Ends (λ end trees records. end ≡ q) Nothing (read policy sheet steps (value at) notes) → Halt sheet true (read policy sheet steps (value at) notes)
      go (ends_done end trees records after e t) = halt_dead refl end trees records after e (arrow (rw t arrow_there))
      go (ends_fail cause after e _) = halt_fail cause after e
      go (ends_stuck e) = absurd (never_stuck policy sheet (value at) (omega arith) notes steps le e)
