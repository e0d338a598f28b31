-- What the way past a head can read. Where the three-way answer is True, no use can be made of it, with any policy: it fails, or it ends before a `{` or a `=>`, which
-- nothing allows there. The early commit is excepted: Async, `(` with no break before it, `...`, and a plain name.
-- The statement, at the end: `true_halts`. Assumes nothing.
use Prim.Native.Nat.{ℕ, ◌+◌, ◌≤◌}
use mathlib.Core.Path.{◌≡◌, refl, sym, ◌∙◌}
use mathlib.Core.Bool.{Bool, true, false, not}
use mathlib.Core.List.{List, [], ◌∷◌}
use native.Mathlib.Omega.{arith}
use native.Mathlib.Decide.{ℕ_discrete}
use lib.Dec.{ltb}
use borrow.Author.Tests.{eqb-true, eqb-false, ltb-true, ltb-false, not-true, ne_eqb}
use Rattle.tokens.specs.Bool.{◌or◌, ◌and◌, ◌is◌}
use Rattle.tokens.specs.Kind.{Ident, Async, As, Satisfies, Modifier, Const, This, Await, Yield, LParen, RParen, LBrack, LCurly, Comma, Colon, Question, Dot, Dot3, Arrow, In, Eq}
use Rattle.tokens.specs.Token.{is_name, is_literal, flag_at}
use Rattle.operators.specs.Precedence.{among, level, expression_level}
use Rattle.lookahead.specs.declared.Tristate.{Tristate}
use Rattle.lookahead.specs.ThreeWay.{three_way}
use Rattle.lookahead.specs.Cases as Cases
use Rattle.lookahead.proofs.Laws as Laws
use Rattle.rows.specs.Row as Row
use Rattle.rows.specs.Tree.{Tree, Forest, one, kind_of}
use Rattle.grammar.specs.Sheet.{Sheet, token, break_before, Part, tree}
use Rattle.grammar.specs.Job.{Job, expression, assignment, value, conditional, binary, operators, unary, postfix, left_hand_side, links, arguments, primary, head, Asks}
use Rattle.grammar.specs.Comma.{expression_of}
use Rattle.grammar.specs.Assignment.{is_assignment_operator, conditional_of, after_binary, is_async_name, value_of}
use Rattle.grammar.specs.Binary.{binary_of, operators_of}
use Rattle.grammar.specs.Update.{is_unary_operator, is_update_operator, unary_of, postfix_of}
use Rattle.grammar.specs.LeftHandSide.{left_hand_side_of, links_of, arguments_of}
use Rattle.grammar.specs.Primary.{parenthesized_of, primary_of}
use Rattle.grammar.specs.Arrow.{Policy, assignment_of, parenthesized_head_of, head_of}
use Rattle.grammar.specs.Step.{step, read}
use Rattle.laws.specs.Settles.{μ}
use Rattle.laws.proofs.Good.{Meaning, Ends, ends_done, ends_fail, ends_stuck, Reads, yields, refuses, follows, tries, test, token_test, chooses, notes, so, and_left, and_right}
use Rattle.laws.proofs.Steady.{never_stuck}
use Rattle.agreement.specs.Terms.{Early}
use Rattle.agreement.proofs.Leads.{Dead, curly, Halt, halt_fail, halt_dead}
use Rattle.laws.proofs.Balanced.{side_of, none}
use Rattle.laws.proofs.Readings.{Closes, after_async}
use Rattle.agreement.proofs.Covers.{Nothing, Told, all_told, covered}

-- KINDS IN LISTS
-- a test that all kinds of a list pass
abbrev every : (ℕ → Bool) → List ℕ → Bool
every holds [] = true
every holds (k ∷ more) = holds k and every holds more

every_one : (holds : ℕ → Bool) (list : List ℕ) (k : ℕ) → among list k ≡ true → every holds list ≡ true → holds k ≡ true
every_one holds [] k e a = let z : ◌≡◌ {A = ℕ} 0 1 = cc in absurd (omega arith)
every_one holds (l ∷ more) k e a = go (k is l) refl e (λ t. every_one holds more k t (and_right (holds l) (every holds more) a))
  where
    go : (b : Bool) → k is l ≡ b → (b or among more k) ≡ true → (among more k ≡ true → holds k ≡ true) → holds k ≡ true
    go true q t f = let w : k ≡ l = eqb-true k l q in rw w (and_left (holds l) (every holds more) a)
    go false q t f = f t

none_of : (holds : ℕ → Bool) (list : List ℕ) (k : ℕ) → among list k ≡ true → every (λ l. not (holds l)) list ≡ true → holds k ≡ false
none_of holds list k e a = not-true (holds k) (every_one (λ l. not (holds l)) list k e a)

-- two lists that have nothing in common
clash : (list list' : List ℕ) (k : ℕ) → among list k ≡ true → among list' k ≡ true → every (λ l. not (among list' l)) list ≡ true → ⊥
clash list list' k e e' a = let f : among list' k ≡ false = none_of (among list') list k e a in let y : true ≡ false = sym e' ∙ f in let z : ◌≡◌ {A = ℕ} 0 1 = cc in omega arith

-- tokens that begin no expression, of those that may stand first in a head or after a `?` there
abbrev begins_nothing : List ℕ
begins_nothing = Const ∷ Await ∷ Yield ∷ RParen ∷ Comma ∷ Colon ∷ Dot3 ∷ In ∷ Eq ∷ []

-- names and `this`: an expression of one token
abbrev words : List ℕ
words = Ident ∷ Async ∷ As ∷ Satisfies ∷ Modifier ∷ This ∷ []

-- tokens that no expression goes on with: names, and `:`
abbrev mute : List ℕ
mute = Ident ∷ Async ∷ As ∷ Satisfies ∷ Modifier ∷ Await ∷ Yield ∷ Colon ∷ []

-- tokens that no operand or operation goes on with
abbrev quiet : List ℕ
quiet = Ident ∷ Async ∷ As ∷ Satisfies ∷ Modifier ∷ Await ∷ Yield ∷ Colon ∷ Question ∷ LCurly ∷ []

-- all tokens that the way past a head is looked at from
abbrev firsts : List ℕ
firsts = Ident ∷ Async ∷ As ∷ Satisfies ∷ Modifier ∷ This ∷ LParen ∷ Const ∷ Await ∷ Yield ∷ RParen ∷ Comma ∷ Colon ∷ Dot3 ∷ In ∷ Eq ∷ []

-- the names, kinds 1 to 5
abbrev names : List ℕ
names = Ident ∷ Async ∷ As ∷ Satisfies ∷ Modifier ∷ []

named : (k : ℕ) → Ident ≤ k → k ≤ Modifier → among names k ≡ true
named k low high = go (ℕ_discrete k Ident) (ℕ_discrete k Async) (ℕ_discrete k As) (ℕ_discrete k Satisfies)
  where
    go : Dec (k ≡ Ident) → Dec (k ≡ Async) → Dec (k ≡ As) → Dec (k ≡ Satisfies) → among names k ≡ true
    go (yes e) _ _ _ = rw e
    go (no _) (yes e) _ _ = rw e
    go (no _) (no _) (yes e) _ = rw e
    go (no _) (no _) (no _) (yes e) = rw e
    go (no a) (no b) (no c) (no d) = let e : k ≡ Modifier = omega arith in rw e

name_word : (k : ℕ) → Ident ≤ k → k ≤ Modifier → among words k ≡ true
name_word k low high = every_one (among words) names k (named k low high) refl

name_mute : (k : ℕ) → Cases.Name k → among mute k ≡ true
name_mute k (Cases.name low high) = every_one (among mute) names k (named k low high) refl
name_mute k (Cases.await e) = rw e
name_mute k (Cases.yield e) = rw e

-- a word that may open a head is Async
only_async : (k : ℕ) → among words k ≡ true → (k is LParen or k is Async) ≡ true → k ≡ Async
only_async k w t = go (rw (none_of (λ l. l is LParen) words k w refl) at t)
  where
    go : (k is Async) ≡ true → k ≡ Async
    go e = eqb-true _ _ e

no_and : (a b : Bool) → b ≡ false → a and b ≡ false
no_and true b e = e
no_and false b e = refl

module _ (sheet : Sheet) where
  -- an expression cannot begin here, or is one word here, and nothing can go on with it
  data Blocked (at : ℕ) : Type 0 where
    cannot : among begins_nothing (token sheet at) ≡ true → Blocked at
    stops : among words (token sheet at) ≡ true → among mute (token sheet (at + 1)) ≡ true → (token sheet at ≡ Async → token sheet (at + 1) ≡ Colon) → Blocked at
    asks : among words (token sheet at) ≡ true → token sheet (at + 1) ≡ Question → among begins_nothing (token sheet (at + 2)) ≡ true → Blocked at

  -- arguments: blocked, or none, and then `{`
  data Args (at : ℕ) : Type 0 where
    some : Blocked at → (token sheet at ≡ RParen → ⊥) → (token sheet at ≡ Dot3 → ⊥) → Args at
    no_args : token sheet at ≡ RParen → token sheet (at + 1) ≡ LCurly → Args at

  -- from where the way past a head goes
  data Goes (at : ℕ) : Type 0 where
    blocked : Blocked at → Goes at
    group : token sheet at ≡ LParen → Blocked (at + 1) → Goes at
    call : token sheet at ≡ Async → token sheet (at + 1) ≡ LParen → Args (at + 1 + 1) → Goes at

  -- what follows an operand so far: nothing that goes on, or a call
  data Linked (at : ℕ) : Type 0 where
    rests : among quiet (token sheet at) ≡ true → Linked at
    invokes : token sheet at ≡ LParen → Args (at + 1) → Linked at

  -- an expression of one word, and nothing that goes on
  record OneWord (at end : ℕ) : Type 0 where
    word : among words (token sheet at) ≡ true
    ends : end ≡ at + 1
    then_mute : among mute (token sheet (at + 1)) ≡ true

  -- an operand of one word
  record OneToken (at end : ℕ) : Type 0 where
    word : among words (token sheet at) ≡ true
    ends : end ≡ at + 1

  -- an operation ends after one word, or before a `{`
  data Low (at end : ℕ) : Type 0 where
    low_word : OneToken at end → among quiet (token sheet (at + 1)) ≡ true → Low at end
    low_dead : among words (token sheet at) ≡ true → token sheet (at + 1) ≡ LParen → token sheet end ≡ LCurly → Low at end

  -- the way past a head ends so too
  data High (at end : ℕ) : Type 0 where
    high_word : OneWord at end → High at end
    high_dead : among words (token sheet at) ≡ true → token sheet (at + 1) ≡ LParen → token sheet end ≡ LCurly → High at end

  -- the links of an operand: none, or a call before a `{`
  data Went (at end : ℕ) : Type 0 where
    stayed : among quiet (token sheet at) ≡ true → end ≡ at → Went at end
    called : token sheet at ≡ LParen → token sheet end ≡ LCurly → Went at end

  -- the nonterminals that are asked, each with what is known there
  data On : Job → Type 0 where
    on_expression : {at : ℕ} → Blocked at → On (expression at)
    on_assignment : {at : ℕ} → Blocked at → On (assignment at)
    on_value : {at : ℕ} → Goes at → On (value at)
    on_conditional : {first at : ℕ} {left : Tree} → among begins_nothing (token sheet (at + 1)) ≡ true → On (conditional first at left)
    on_binary : {floor at : ℕ} → Goes at → On (binary floor at)
    on_operators : {floor first at : ℕ} {left : Tree} → among quiet (token sheet at) ≡ true → On (operators floor first at left)
    on_unary : {at : ℕ} → Goes at → On (unary at)
    on_postfix : {at : ℕ} → Goes at → On (postfix at)
    on_left_hand_side : {at : ℕ} → Goes at → On (left_hand_side at)
    on_links : {first at : ℕ} {left : Tree} → Linked at → On (links first at left)
    on_arguments : {first at : ℕ} {so_far : Forest} → Args at → On (arguments first at so_far)
    on_primary : {at : ℕ} → Goes at → On (primary at)
    on_head : {at : ℕ} → token sheet at ≡ Async → (token sheet (at + 1) ≡ LParen → ⊥) → On (head at)

  -- and what is known where it is done
  abbrev Ended : {job : Job} → On job → Meaning
  Ended (on_expression {at} b) end trees records = OneWord at end
  Ended (on_assignment {at} b) end trees records = OneWord at end
  Ended (on_value {at} g) end trees records = High at end
  Ended (on_conditional c) end trees records = ⊥
  Ended (on_binary {floor} {at} g) end trees records = Low at end
  Ended (on_operators {floor} {first} {at} q) end trees records = end ≡ at
  Ended (on_unary {at} g) end trees records = Low at end
  Ended (on_postfix {at} g) end trees records = Low at end
  Ended (on_left_hand_side {at} g) end trees records = Low at end
  Ended (on_links {first} {at} l) end trees records = Went at end
  Ended (on_arguments s) end trees records = token sheet end ≡ LCurly
  Ended (on_primary {at} g) end trees records = OneToken at end
  Ended (on_head a n) end trees records = ⊥

  -- what a test says of the tokens there
  mute_not : (holds : ℕ → Bool) → every (λ k. not (holds k)) mute ≡ true → {at end : ℕ} → OneWord at end → holds (token sheet end) ≡ false
  mute_not holds a {at} w = rw w.ends (none_of holds mute (token sheet (at + 1)) w.then_mute a)

  low_quiet : {at end : ℕ} → Low at end → among quiet (token sheet end) ≡ true
  low_quiet (low_word w q) = rw w.ends q
  low_quiet (low_dead w p d) = rw d

  low_not : (holds : ℕ → Bool) → every (λ k. not (holds k)) quiet ≡ true → {at end : ℕ} → Low at end → holds (token sheet end) ≡ false
  low_not holds a {at} {end} l = none_of holds quiet (token sheet end) (low_quiet l) a

  word_first : (k : ℕ) → among words k ≡ true → among firsts k ≡ true
  word_first k e = every_one (among firsts) words k e refl

  goes_first : {at : ℕ} → Goes at → among firsts (token sheet at) ≡ true
  goes_first {at} (blocked (cannot c)) = every_one (among firsts) begins_nothing (token sheet at) c refl
  goes_first {at} (blocked (stops w m a)) = word_first (token sheet at) w
  goes_first {at} (blocked (asks w q c)) = word_first (token sheet at) w
  goes_first (group p b) = rw p
  goes_first (call a p s) = rw a

  goes_not : (holds : ℕ → Bool) → every (λ k. not (holds k)) firsts ≡ true → {at : ℕ} → Goes at → holds (token sheet at) ≡ false
  goes_not holds a {at} g = none_of holds firsts (token sheet at) (goes_first g) a

  no_bracket : {C : Type 0} {k : ℕ} (list : List ℕ) → among list k ≡ true → every (λ l. not (l is LParen)) list ≡ true → k ≡ LParen → C
  no_bracket {k = k} list e a p = let f = none_of (λ l. l is LParen) list k e a in absurd (eqb-false k LParen f p)

  -- it is no async arrow of one name
  no_async_name : {at : ℕ} → Goes at → is_async_name sheet at ≡ false
  unfolding is_async_name is_name
  no_async_name {at} (blocked (cannot c)) = rw (none_of (λ k. k is Async) begins_nothing (token sheet at) c refl)
  no_async_name {at} (blocked (stops w m a)) = go (ℕ_discrete (token sheet at) Async)
    where
      go : Dec (token sheet at ≡ Async) → is_async_name sheet at ≡ false
      go (yes e) = rw (e, a e)
      go (no n) = rw (ne_eqb _ _ n)
  no_async_name {at} (blocked (asks w q c)) = rw q (no_and (token sheet at is Async) false refl)
  no_async_name {at} (group p b) = rw p
  no_async_name {at} (call a p s) = rw (a, p)

  -- a word is not followed by brackets here
  high_blocked : {at end : ℕ} → Blocked at → High at end → OneWord at end
  high_blocked b (high_word w) = w
  high_blocked {at} (cannot c) (high_dead w p d) = absurd (clash words begins_nothing (token sheet at) w c refl)
  high_blocked (stops w m a) (high_dead _ p d) = no_bracket mute m refl p
  high_blocked (asks w q c) (high_dead _ p d) = absurd (let z : ◌≡◌ {A = ℕ} Question LParen = sym q ∙ p in omega arith)

  headless : {at : ℕ} → Blocked at → (token sheet at is LParen or token sheet at is Async) ≡ true → On (head at)
  headless {at} (cannot c) t =
      let f = none_of (λ k. k is LParen or k is Async) begins_nothing (token sheet at) c refl in
      let y : true ≡ false = sym t ∙ f in
      let z : ◌≡◌ {A = ℕ} 0 1 = cc in
      absurd (omega arith)
  headless {at} (stops w m a) t = on_head (only_async (token sheet at) w t) (λ p. no_bracket mute m refl p)
  headless {at} (asks w q c) t = on_head (only_async (token sheet at) w t) (λ p. let z : ◌≡◌ {A = ℕ} Question LParen = sym q ∙ p in omega arith)

  linked : {at end : ℕ} → Goes at → OneToken at end → Linked end
  linked {at} (blocked (cannot c)) w = absurd (clash words begins_nothing (token sheet at) w.word c refl)
  linked {at} (blocked (stops _ m a)) w = rests (rw w.ends (every_one (among quiet) mute (token sheet (at + 1)) m refl))
  linked {at} (blocked (asks _ q c)) w = rests (rw (w.ends, q) refl)
  linked (group p b) w = no_bracket words w.word refl p
  linked {at} {end} (call a p s) w = rw w.ends (invokes p s)

  went : {at middle end : ℕ} → OneToken at middle → Went middle end → Low at end
  went {at} {middle} w (stayed q e) = low_word (record { word = w.word; ends = e ∙ w.ends }) (rw w.ends at q)
  went {at} {middle} w (called p d) = low_dead w.word (rw w.ends at p) d

  still : {middle end : ℕ} → token sheet middle ≡ LCurly → Went middle end → token sheet end ≡ LCurly
  still d (stayed q e) = rw e d
  still d (called _ d') = d'

  -- THE PRODUCTIONS
  module _ {N : Type 0} (policy : Policy N) {ask : Asks N} (h : Told (λ job o. Ended {job = job} o) ask) where
    valued : (at : ℕ) → Blocked at → Reads (λ end trees records. OneWord at end) Nothing (ask (value at))
    valued at b = so (h.with (value at) (on_value (blocked b))) (λ end trees records r. high_blocked b r)

    no_head : (at : ℕ) → On (head at) → Reads (λ end trees records. ⊥) Nothing (ask (head at))
    no_head at (on_head a n) = h.with (head at) (on_head a n)

    -- after one word, or before the `{`
    after_binary_ended : (at : ℕ) (left : Part) → Goes at → Low at left.end → Reads (λ end trees records. High at end) Nothing (after_binary sheet ask at left)
    unfolding after_binary is_assignment_operator
    after_binary_ended at left g (low_dead w p d) = rw (d, no_and (kind_of (tree left) is Row.Identifier) false refl) (yields _ _ (high_dead w p d))
    after_binary_ended at left (blocked (cannot c)) (low_word w q) = absurd (clash words begins_nothing (token sheet at) w.word c refl)
    after_binary_ended at left (blocked (stops _ m a)) (low_word t q) =
        let w : OneWord at left.end = record { word = t.word; ends = t.ends; then_mute = m } in
        rw (mute_not (λ k. k is Arrow) refl w, no_and (kind_of (tree left) is Row.Identifier) false refl, mute_not is_assignment_operator refl w, mute_not (λ k. k is Question) refl w)
        (yields _ _ (high_word w))
    after_binary_ended at left (blocked (asks _ k c)) (low_word w q) =
        let asked : token sheet left.end ≡ Question = rw w.ends k in
        let e : left.end + 1 ≡ at + 2 = omega (arith, w.ends) in
        rw (asked, no_and (kind_of (tree left) is Row.Identifier) false refl) (so (h.with (conditional at left.end (tree left)) (on_conditional (rw e c))) (λ end trees records z. absurd z))
    after_binary_ended at left (group p b) (low_word w q) = no_bracket words w.word refl p
    after_binary_ended at left (call a p s) (low_word w q) = no_bracket quiet q refl p

    word_primary : (at : ℕ) → among words (token sheet at) ≡ true → Reads (λ end trees records. OneToken at end) Nothing (primary_of sheet ask at)
    unfolding primary_of is_name
    word_primary at w =
        test (is_name (token sheet at)) (λ _. yields _ _ (record { word = w; ends = refl }))
        (λ n. rw (rw n at (every_one (λ k. is_name k or k is This) words (token sheet at) w refl)) (yields _ _ (record { word = w; ends = refl })))

    primary_ended : (at : ℕ) → Goes at → Reads (λ end trees records. OneToken at end) Nothing (primary_of sheet ask at)
    unfolding primary_of parenthesized_of is_name is_literal
    primary_ended at (blocked (cannot c)) =
        let k = token sheet at in
        rw (
          none_of is_name begins_nothing k c refl,
          none_of (λ l. l is This) begins_nothing k c refl,
          none_of is_literal begins_nothing k c refl,
          none_of (λ l. l is LParen) begins_nothing k c refl,
          none_of (λ l. l is LBrack) begins_nothing k c refl,
          none_of (λ l. l is LCurly) begins_nothing k c refl,
        )
        (refuses _ tt)
    primary_ended at (blocked (stops w m a)) = word_primary at w
    primary_ended at (blocked (asks w q c)) = word_primary at w
    primary_ended at (group p b) = rw p (follows (h.with (expression (at + 1)) (on_expression b)) (λ inner rs w. rw (mute_not (λ k. k is RParen) refl w) (refuses _ tt)))
    primary_ended at (call a p s) = word_primary at (rw a)

    step_ended : {job : Job} (o : On job) → Reads (Ended o) Nothing (step policy sheet ask job)
    unfolding step expression_of assignment_of head_of parenthesized_head_of conditional_of value_of binary_of operators_of expression_level level unary_of is_unary_operator is_update_operator postfix_of left_hand_side_of links_of arguments_of
    step_ended (on_expression {at} b) = follows (h.with (assignment at) (on_assignment b)) (λ part rs w. rw (mute_not (λ k. k is Comma) refl w) (yields _ _ w))
    step_ended (on_assignment {at} b) =
        test (token sheet at is LParen or token sheet at is Async)
        (λ t. let n = no_head at (headless b t) in chooses (policy.way at) (valued at b)
        (tries n (λ part rs z. absurd z) (notes (policy.mark at) (valued at b)))
        (follows n (λ part rs z. absurd z)))
        (λ _. valued at b)
    step_ended (on_value {at} g) = rw (no_async_name g) (follows (h.with (binary 0 at) (on_binary g)) (λ left rs l. after_binary_ended at left g l))
    step_ended (on_conditional {first} {at} c) =
        follows (h.with (assignment (at + 1)) (on_assignment (cannot c))) (λ part rs w. absurd (clash words begins_nothing (token sheet (at + 1)) w.word c refl))
    step_ended (on_binary {floor} {at} g) =
        follows (h.with (unary at) (on_unary g)) (λ left rs l. so (h.with (operators floor at left.end (tree left)) (on_operators (low_quiet l))) (λ end trees records e. rw e l))
    step_ended (on_operators {floor} {first} {at} q) =
        test (ltb floor (expression_level (token sheet at)))
        (λ t. let z = ltb-false 0 (expression_level (token sheet at)) (none_of (λ k. ltb 0 (expression_level k)) quiet (token sheet at) q refl) in
        let l = ltb-true floor (expression_level (token sheet at)) t in absurd (omega arith))
        (λ _. yields _ _ refl)
    step_ended (on_unary {at} g) = rw (goes_not is_unary_operator refl g, goes_not is_update_operator refl g) (h.with (postfix at) (on_postfix g))
    step_ended (on_postfix {at} g) = follows (h.with (left_hand_side at) (on_left_hand_side g)) (λ operand rs l. rw (low_not is_update_operator refl l) (yields _ _ l))
    step_ended (on_left_hand_side {at} g) =
        follows (h.with (primary at) (on_primary g)) (λ base rs w. so (h.with (links at base.end (tree base)) (on_links (linked g w))) (λ end trees records r. went w r))
    step_ended (on_links {first} {at} (rests q)) =
        rw (none_of (λ k. k is Dot) quiet (token sheet at) q refl, none_of (λ k. k is LBrack) quiet (token sheet at) q refl, none_of (λ k. k is LParen) quiet (token sheet at) q refl)
        (yields _ _ (stayed q refl))
    step_ended (on_links {first} {at} {left} (invokes p s)) =
        rw p (follows (h.with (arguments first (at + 1) (one left)) (on_arguments s))
        (λ part rs d. so (h.with (links first part.end (tree part)) (on_links (rests (rw d)))) (λ end trees records r. called p (still d r))))
    step_ended (on_arguments (no_args p d)) = rw p (yields _ _ d)
    step_ended (on_arguments {first} {at} (some b c d)) =
        rw (ne_eqb _ _ c, ne_eqb _ _ d)
        (follows (h.with (assignment at) (on_assignment b)) (λ argument rs w. rw (mute_not (λ k. k is Comma) refl w, mute_not (λ k. k is RParen) refl w) (refuses _ tt)))
    step_ended (on_primary {at} g) = primary_ended at g
    step_ended (on_head {at} a n) =
        rw a (test (not (break_before sheet (at + 1))) (λ _. token_test sheet _ _ (λ t. absurd (n t.kind_is)) (refuses _ tt)) (λ _. refuses _ tt))

  goes_halts : {N : Type 0} (policy : Policy N) (at steps : ℕ) → Goes at → μ sheet (value at) ≤ steps → (notes : N) → (OneWord at (at + 1) → ⊥)
      → Halt sheet true (read policy sheet steps (value at) notes)
  goes_halts policy at steps g le notes n =
      go (((all_told (λ job o. Ended {job = job} o) policy sheet (λ ask. Unit {0}) (λ steps. tt) (λ ask _ h job o. step_ended policy h o) steps).with (value at) (on_value g)).with notes)
    where
      dead : (end : ℕ) → High at end → Dead sheet end
      dead end (high_word w) = absurd (n (record { word = w.word; ends = refl; then_mute = w.then_mute }))
      dead end (high_dead w p d) = curly d

      go : Ends (λ end trees records. High at end) Nothing (read policy sheet steps (value at) notes) → Halt sheet true (read policy sheet steps (value at) notes)
      go (ends_done end trees records after e w) = halt_dead refl end trees records after e (dead end w)
      go (ends_fail cause after e _) = halt_fail cause after e
      go (ends_stuck e) = absurd (never_stuck policy sheet (value at) (omega arith) notes steps le e)

  -- THE CASES OF TRUE
  -- after `(` an expression is blocked
  optional_blocked : (k : ℕ) → Cases.Optional k → among begins_nothing k ≡ true
  optional_blocked k (Cases.colon e) = rw e
  optional_blocked k (Cases.comma e) = rw e
  optional_blocked k (Cases.equals e) = rw e
  optional_blocked k (Cases.close e) = rw e

  two_on : (p : ℕ) → p + 1 + 1 ≡ p + 2
  two_on p = omega arith

  three_on : (p : ℕ) → p + 1 + 2 ≡ p + 3
  three_on p = omega arith

  typed_blocked : (p : ℕ) → Cases.First (token sheet (p + 1)) → token sheet (p + 2) ≡ Colon → Blocked (p + 1)
  typed_blocked p (Cases.a_name (Cases.name low high)) t = stops (name_word _ low high) (rw (two_on p, t)) (λ _. rw (two_on p) t)
  typed_blocked p (Cases.a_name (Cases.await e)) t = cannot (rw e)
  typed_blocked p (Cases.a_name (Cases.yield e)) t = cannot (rw e)
  typed_blocked p (Cases.this e) t = stops (rw e) (rw (two_on p, t)) (λ _. rw (two_on p) t)

  question_blocked : (p : ℕ) → Cases.First (token sheet (p + 1)) → token sheet (p + 2) ≡ Question → Cases.Optional (token sheet (p + 3)) → Blocked (p + 1)
  question_blocked p (Cases.a_name (Cases.name low high)) t o = asks (name_word _ low high) (rw (two_on p) t) (rw (three_on p) (optional_blocked _ o))
  question_blocked p (Cases.a_name (Cases.await e)) t o = cannot (rw e)
  question_blocked p (Cases.a_name (Cases.yield e)) t o = cannot (rw e)
  question_blocked p (Cases.this e) t o = asks (rw e) (rw (two_on p) t) (rw (three_on p) (optional_blocked _ o))

  modified_blocked : (p : ℕ) → Cases.Modifies (token sheet (p + 1)) → Cases.Name (token sheet (p + 2)) → Blocked (p + 1)
  modified_blocked p (Cases.modifier e) n = stops (rw e) (rw (two_on p) (name_mute _ n)) (λ a. absurd (let z : ◌≡◌ {A = ℕ} Modifier Async = sym e ∙ a in omega arith))
  modified_blocked p (Cases.const e) n = cannot (rw e)
  modified_blocked p (Cases.in_word e) n = cannot (rw e)

  true_blocked : (p : ℕ) → Cases.TrueCase sheet.kinds p → Blocked (p + 1)
  true_blocked p (Cases.empty_arrow k s t) = cannot (rw s)
  true_blocked p (Cases.empty_body k s t) = cannot (rw s)
  true_blocked p (Cases.rest_ident k s t) = cannot (rw s)
  true_blocked p (Cases.modified k s t a) = modified_blocked p s t
  true_blocked p (Cases.typed k s t) = typed_blocked p s t
  true_blocked p (Cases.optional k s t o) = question_blocked p s t o

  -- a kind that may stand first in `(` is neither `)` nor `...`
  first_not : (k l : ℕ) → Cases.First k → RParen ≤ l → k ≡ l → ⊥
  first_not k l (Cases.a_name (Cases.name low high)) le e = omega arith
  first_not k l (Cases.a_name (Cases.await a)) le e = omega arith
  first_not k l (Cases.a_name (Cases.yield a)) le e = omega arith
  first_not k l (Cases.this a) le e = omega arith

  modifies_not : (k l : ℕ) → Cases.Modifies k → RParen ≤ l → l ≤ Dot3 → k ≡ l → ⊥
  modifies_not k l (Cases.modifier a) le le' e = omega arith
  modifies_not k l (Cases.const a) le le' e = omega arith
  modifies_not k l (Cases.in_word a) le le' e = omega arith

module _ {N : Type 0} (policy : Policy N) (sheet : Sheet) (at steps : ℕ) (not_early : Early sheet at → ⊥) (le : μ sheet (value at) ≤ steps) (notes : N) where
  -- after Async and `(`
  arguments_halt : token sheet at ≡ Async → token sheet (at + 1) ≡ LParen → Args sheet (at + 1 + 1) → Halt sheet true (read policy sheet steps (value at) notes)
  arguments_halt a k s = goes_halts sheet policy at steps (call a k s) le notes (λ w. no_bracket sheet mute w.then_mute refl k)

  called_halts : token sheet at ≡ Async → (flag_at sheet.flags (at + 1) ≡ 1 → ⊥) → Cases.TrueCase sheet.kinds (at + 1) → Halt sheet true (read policy sheet steps (value at) notes)
  unfolding side_of
  called_halts a u (Cases.empty_arrow k s t) =
      let list : Closes sheet (at + 1 + 1) (at + 1 + 2) = record { close = at + 1 + 1; past = omega arith; inner = none; closer = record { goes = rw s } } in
      covered sheet (at + 1 + 2) t policy at steps (record { starts = at + 1; opens = k; opening = after_async a refl; list = list; arrow = t }) le notes
  called_halts a u (Cases.empty_body k s t) = arguments_halt a k (no_args s (rw (two_on sheet (at + 1)) t))
  called_halts a u (Cases.rest_ident k s t) =
      absurd (not_early (record { async = a; opens = k; unbroken = ne_eqb _ _ u; dots = rw (two_on sheet at) at s; name = rw (three_on sheet at) at t }))
  called_halts a u (Cases.modified k s t n) =
      arguments_halt a k (some (modified_blocked sheet (at + 1) s t) (modifies_not sheet _ RParen s (omega arith) (omega arith)) (modifies_not sheet _ Dot3 s (omega arith) (omega arith)))
  called_halts a u (Cases.typed k s t) = arguments_halt a k (some (typed_blocked sheet (at + 1) s t) (first_not sheet _ RParen s (omega arith)) (first_not sheet _ Dot3 s (omega arith)))
  called_halts a u (Cases.optional k s t o) =
      arguments_halt a k (some (question_blocked sheet (at + 1) s t o) (first_not sheet _ RParen s (omega arith)) (first_not sheet _ Dot3 s (omega arith)))

  -- THE STATEMENT: where the answer is True, no use can be made of the way past the head
  pub true_halts : three_way sheet.kinds sheet.flags false false at ≡ Tristate.True → Halt sheet true (read policy sheet steps (value at) notes)
  true_halts t = let f = Laws.true_case sheet.kinds sheet.flags at t in go f.p f.opening f.tokens
    where
      go : (p : ℕ) → Cases.Opening sheet.kinds sheet.flags at p → Cases.TrueCase sheet.kinds p → Halt sheet true (read policy sheet steps (value at) notes)
      go p (Cases.bare e) c =
          let c' : Cases.TrueCase sheet.kinds at = rw e at c in
          let k = Laws.true_paren sheet.kinds at c' in
          goes_halts sheet policy at steps (group k (true_blocked sheet at c')) le notes (λ w. no_bracket sheet words w.word refl k)
      go p (Cases.after_async a u e) c = called_halts a u (rw e at c)
