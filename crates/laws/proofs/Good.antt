-- The induction over the grammar: if every production makes good answers out of good answers of what it asks, then every reading is good.
-- A law of the grammar says what is Good of a nonterminal that is done, and what is Bad of one that fails, and has one short lemma a
-- production, made of the words below as the production is made of its own.
-- Assumes nothing.
use Rattle.std.specs.Prelude.{if◌then◌else◌}
use Prim.Native.Nat.{ℕ, zero, suc, ◌<◌}
use mathlib.Core.Path.{◌≡◌, refl, sym, ap, ◌∙◌}
use mathlib.Core.Bool.{Bool, true, false}
use mathlib.Core.List.{List, [], ◌++◌}
use native.Mathlib.Omega.{arith}
use lib.ListN.{length}
use borrow.Author.Tests.{eqb-true, eq-eqb}
use Rattle.tokens.specs.Kind.{Async, LParen}
use Rattle.rows.specs.Row as Row
use Rattle.tokens.specs.Bool.{◌or◌, ◌is◌, ◌and◌}
use Rattle.tokens.proofs.Stands.{stands}
use Rattle.tokens.specs.declared.cause.Cause.{Cause}
use Rattle.rows.specs.Tree.{Tree, Forest, one}
use Rattle.rows.specs.Record.{Record}
use Rattle.conversion.specs.Conversion.{Role, Outcome, turned, refused, convert_as}
use Rattle.grammar.specs.Sheet.{Sheet, token, Out, done, fail, stuck, Reading, Part, after_records, and_then, or_else, ◌>>=◌, try, yield, refuse, say}
use Rattle.grammar.specs.Job.{Job, value, head, body, Asks}
use Rattle.grammar.specs.Comma.{expression_of, sequence_of}
use Rattle.grammar.specs.Assignment.{assign_of, conditional_of, after_binary, value_of}
use Rattle.grammar.specs.Binary.{binary_of, operators_of}
use Rattle.grammar.specs.Update.{converted_to, converted, unary_of, postfix_of}
use Rattle.grammar.specs.LeftHandSide.{left_hand_side_of, links_of, arguments_of}
use Rattle.grammar.specs.Primary.{parenthesized_of, primary_of, spread_of, elements_of, properties_of, shorthand_of, property_of, key_of}
use Rattle.grammar.specs.Binding.{binding_of, binding_element_of, binding_rest_of, binding_elements_of, binding_properties_of, binding_shorthand_of, binding_property_of}
use Rattle.grammar.specs.Arrow.{Way, pass, attempt, commit, Policy, by_way, choose, noting, arrow_of, assignment_of, parenthesized_head_of, head_of, parameters_of, body_of}
use Rattle.grammar.specs.Step.{step, read, plenty}
use Rattle.grammar.specs.Reading.{unconverteds, whole, refused as refused_whole, at_end, reading}

-- every production: to unfold this is to unfold them all
unfoldable pub productions : Type 0
unfolding step expression_of sequence_of assignment_of arrow_of value_of after_binary assign_of conditional_of binary_of operators_of unary_of postfix_of left_hand_side_of links_of arguments_of primary_of parenthesized_of elements_of properties_of property_of shorthand_of key_of spread_of binding_of binding_element_of binding_elements_of binding_properties_of binding_property_of binding_shorthand_of binding_rest_of head_of parenthesized_head_of parameters_of body_of
productions = Unit {0}

-- what may be said of what is done: up to where, the trees, the records
abbrev pub Meaning : Type 1
Meaning = ℕ → Forest → List Record → Type 0

-- a token of this kind stands here
pub record Stands (sheet : Sheet) (at kind : ℕ) : Type 0 where
  pub kind_is : token sheet at ≡ kind
  pub here : at < length sheet.kinds

module _ {N : Type 0} where
  -- if it is done, P holds of it; if it fails, F holds of the cause
  pub data Ends (P : Meaning) (F : Cause → Type 0) (out : Out N) : Type 0 where
    ends_done : (end : ℕ) (trees : Forest) (records : List Record) (notes : N) → out ≡ done end trees records notes → P end trees records → Ends P F out
    ends_fail : (cause : Cause) (notes : N) → out ≡ fail cause notes → F cause → Ends P F out
    ends_stuck : out ≡ stuck → Ends P F out

  -- a reading ends so with any notes
  pub record Reads (P : Meaning) (F : Cause → Type 0) (reading : Reading N) : Type 0 where
    pub with : (notes : N) → Ends P F (reading notes)

  -- the answers to all questions that are fit to ask are good
  pub record Answers (Fit : Job → Type 0) (Good : Job → Meaning) (Bad : Cause → Type 0) (ask : Asks N) : Type 0 where
    pub with : (job : Job) → Fit job → Reads (Good job) Bad (ask job)

-- any nonterminal may be asked; and of a refusal nothing is said
abbrev pub Any : Job → Type 0
Any job = Unit {0}

abbrev pub Nothing : Cause → Type 0
Nothing cause = Unit {0}

-- THE PRINCIPLE, for any policy, sheet and notion of good
module _ {N : Type 0} (policy : Policy N) (sheet : Sheet) (Fit : Job → Type 0) (Good : Job → Meaning) (Bad : Cause → Type 0) where
  -- every production makes good answers out of good answers
  pub record Preserved : Type 0 where
    pub with : (ask : Asks N) → Answers Fit Good Bad ask → Answers Fit Good Bad (step policy sheet ask)

  -- the same where something else is known of every answer already
  pub good_given : (Given : Job → Meaning) → ((steps : ℕ) → Answers {N = N} Any Given Nothing (read policy sheet steps))
      → ((ask : Asks N) → Answers Any Given Nothing ask → Answers Fit Good Bad ask → Answers Fit Good Bad (step policy sheet ask))
      → (steps : ℕ) → Answers Fit Good Bad (read policy sheet steps)
  unfolding read
  good_given Given g p zero = record { with = λ job fit. record { with = λ notes. ends_stuck refl } }
  good_given Given g p (suc steps) = record { with = λ job fit. record { with = λ notes. ((p _ (g steps) (good_given Given g p steps)).with job fit).with notes } }

  pub good : Preserved → (steps : ℕ) → Answers Fit Good Bad (read policy sheet steps)
  unfolding read
  good p zero = record { with = λ job fit. record { with = λ notes. ends_stuck refl } }
  good p (suc steps) = record { with = λ job fit. record { with = λ notes. ((p.with _ (good p steps)).with job fit).with notes } }

  -- the same of what it comes to
  pub good_done : (steps : ℕ) → Answers Fit Good Bad (read policy sheet steps) → (job : Job) → Fit job → (notes : N) {end : ℕ} {trees : Forest} {records : List Record} {after : N}
      → read policy sheet steps job notes ≡ done end trees records after → Good job end trees records
  good_done steps a job fit notes {end} {trees} {records} e = go ((a.with job fit).with notes)
    where
      go : Ends (Good job) Bad (read policy sheet steps job notes) → Good job end trees records
      go (ends_done q ts rs _ e' g) =
          let a : q ≡ end = cc in let b : ts ≡ trees = cc in let c : rs ≡ records = cc in
          rw (a, b, c) at g
      go (ends_fail cause _ e' b) = let z : ◌≡◌ {A = ℕ} 0 1 = cc in absurd (omega arith)
      go (ends_stuck e') = let z : ◌≡◌ {A = ℕ} 0 1 = cc in absurd (omega arith)

  pub good_fail : (steps : ℕ) → Answers Fit Good Bad (read policy sheet steps) → (job : Job) → Fit job → (notes : N) {cause : Cause} {after : N}
      → read policy sheet steps job notes ≡ fail cause after → Bad cause
  good_fail steps a job fit notes {cause} e = go ((a.with job fit).with notes)
    where
      go : Ends (Good job) Bad (read policy sheet steps job notes) → Bad cause
      go (ends_done q ts rs _ e' g) = let z : ◌≡◌ {A = ℕ} 0 1 = cc in absurd (omega arith)
      go (ends_fail c _ e' b) = let a : c ≡ cause = cc in rw a at b
      go (ends_stuck e') = let z : ◌≡◌ {A = ℕ} 0 1 = cc in absurd (omega arith)

-- a token that passes a test which 0 does not pass stands before the end
pub inside : (sheet : Sheet) (at : ℕ) (holds : ℕ → Bool) → holds 0 ≡ false → holds (token sheet at) ≡ true → at < length sheet.kinds
inside sheet at holds z e = go (token sheet at) refl
  where
    go : (k : ℕ) → token sheet at ≡ k → at < length sheet.kinds
    go zero q = let b : holds (token sheet at) ≡ holds 0 = ap holds q in let f : true ≡ false = sym e ∙ b ∙ z in let y : ◌≡◌ {A = ℕ} 0 1 = cc in absurd (omega arith)
    go (suc k) q = stands sheet.kinds q

-- both halves of a joined test
pub and_left : (a b : Bool) → a and b ≡ true → a ≡ true
and_left true b e = refl
and_left false b e = e

pub and_right : (a b : Bool) → a and b ≡ true → b ≡ true
and_right true b e = e
and_right false b e = let z : ◌≡◌ {A = ℕ} 0 1 = cc in absurd (omega arith)

-- a whole reading is one that is done at the end of the list, and then come the records 8
pub record Came {N : Type 0} (policy : Policy N) (sheet : Sheet) (job : Job) (notes : N) (trees : Forest) (records : List Record) (after : N) : Type 0 where
  pub said : List Record
  pub done_at_end : read policy sheet (plenty sheet) job notes ≡ done (length sheet.kinds) trees said after
  pub then_unconverted : records ≡ said ++ unconverteds trees

pub came : {N : Type 0} (policy : Policy N) (sheet : Sheet) (job : Job) (notes : N) {trees : Forest} {records : List Record} {after : N}
    → reading policy sheet job notes ≡ whole trees records after → Came policy sheet job notes trees records after
unfolding reading at_end
came {N} policy sheet job notes {trees} {records} {after} e = go (read policy sheet (plenty sheet) job notes) refl e
  where
    at_place : (end : ℕ) (ts : Forest) (rs : List Record) (m : N) → read policy sheet (plenty sheet) job notes ≡ done end ts rs m → (b : Bool) → end is length sheet.kinds ≡ b
        → (if b then whole ts (rs ++ unconverteds ts) m else refused_whole (Cause.Unexpected end)) ≡ whole trees records after → Came policy sheet job notes trees records after
    at_place end ts rs m d true t e =
        let a : end ≡ length sheet.kinds = eqb-true _ _ t in
        let b : ts ≡ trees = cc in
        let c : m ≡ after = cc in
        record { said = rs; done_at_end = cc; then_unconverted = cc }
    at_place end ts rs m d false t e = let z : ◌≡◌ {A = ℕ} 0 1 = cc in absurd (omega arith)

    go : (out : Out N) → read policy sheet (plenty sheet) job notes ≡ out → at_end (length sheet.kinds) out ≡ whole trees records after
        → Came policy sheet job notes trees records after
    go (done end ts rs m) d e = at_place end ts rs m d (end is length sheet.kinds) refl e
    go (fail cause m) d e = let z : ◌≡◌ {A = ℕ} 0 1 = cc in absurd (omega arith)
    go stuck d e = let z : ◌≡◌ {A = ℕ} 0 1 = cc in absurd (omega arith)

-- and the other way round
pub whole_from : {N : Type 0} (policy : Policy N) (sheet : Sheet) (job : Job) (notes : N) {trees : Forest} {said : List Record} {after : N}
    → read policy sheet (plenty sheet) job notes ≡ done (length sheet.kinds) trees said after → reading policy sheet job notes ≡ whole trees (said ++ unconverteds trees) after
unfolding reading at_end
whole_from policy sheet job notes e = rw (e, eq-eqb (length sheet.kinds) (length sheet.kinds) refl)

-- a whole reading that is refused: the nonterminal failed, or something stands after it
pub data Refused {N : Type 0} (policy : Policy N) (sheet : Sheet) (job : Job) (notes : N) (cause : Cause) : Type 0 where
  failed : (after : N) → read policy sheet (plenty sheet) job notes ≡ fail cause after → Refused policy sheet job notes cause
  followed : (end : ℕ) (trees : Forest) (records : List Record) (after : N) → read policy sheet (plenty sheet) job notes ≡ done end trees records after
      → cause ≡ Cause.Unexpected end → Refused policy sheet job notes cause
  stopped : read policy sheet (plenty sheet) job notes ≡ stuck → cause ≡ Cause.Unexpected 0 → Refused policy sheet job notes cause

pub refused_by : {N : Type 0} (policy : Policy N) (sheet : Sheet) (job : Job) (notes : N) {cause : Cause} → reading policy sheet job notes ≡ refused_whole cause
    → Refused policy sheet job notes cause
unfolding reading at_end
refused_by {N} policy sheet job notes {cause} e = go (read policy sheet (plenty sheet) job notes) refl e
  where
    at_place : (end : ℕ) (ts : Forest) (rs : List Record) (m : N) → read policy sheet (plenty sheet) job notes ≡ done end ts rs m → (b : Bool)
        → (if b then whole ts (rs ++ unconverteds ts) m else refused_whole (Cause.Unexpected end)) ≡ refused_whole cause → Refused policy sheet job notes cause
    at_place end ts rs m d true e = let z : ◌≡◌ {A = ℕ} 0 1 = cc in absurd (omega arith)
    at_place end ts rs m d false e = let a : cause ≡ Cause.Unexpected end = cc in followed end ts rs m d a

    go : (out : Out N) → read policy sheet (plenty sheet) job notes ≡ out → at_end (length sheet.kinds) out ≡ refused_whole cause → Refused policy sheet job notes cause
    go (done end ts rs m) d e = at_place end ts rs m d (end is length sheet.kinds) e
    go (fail c m) d e = let a : c ≡ cause = cc in failed m (rw a at d)
    go stuck d e = let a : cause ≡ Cause.Unexpected 0 = cc in stopped d a

-- THE WORDS: one for each word that the productions are written in
module _ {N : Type 0} {F : Cause → Type 0} where
  after_records_ends : {P : Meaning} (records : List Record) {out : Out N} → Ends (λ end trees more. P end trees (records ++ more)) F out
      → Ends P F (after_records records out)
  unfolding after_records
  after_records_ends records (ends_done end trees more notes e p) = rw e (ends_done end trees (records ++ more) notes refl p)
  after_records_ends records (ends_fail cause notes e f) = rw e (ends_fail cause notes refl f)
  after_records_ends records (ends_stuck e) = rw e (ends_stuck refl)

  module _ {P : Meaning} where
    -- `yield`
    pub yields : (end : ℕ) (trees : Forest) → P end trees [] → Reads {N = N} P F (yield end trees)
    unfolding yield
    yields end trees p = record { with = λ notes. ends_done end trees [] notes refl p }

    -- `refuse`
    pub refuses : (cause : Cause) → F cause → Reads {N = N} P F (refuse cause)
    unfolding refuse
    refuses cause f = record { with = λ notes. ends_fail cause notes refl f }

    -- `say records`
    pub says : (records : List Record) {next : Reading N} → Reads (λ end trees more. P end trees (records ++ more)) F next → Reads P F (say records next)
    unfolding say
    says records r = record { with = λ notes. after_records_ends records (r.with notes) }

    -- `part ← reading`, and what follows
    pub follows : {Q : Meaning} {reading : Reading N} {next : Part → Reading N} → Reads Q F reading
        → ((part : Part) (records : List Record) → Q part.end part.trees records
        → Reads (λ end trees more. P end trees (records ++ more)) F (next part))
        → Reads P F (reading >>= next)
    unfolding ◌>>=◌ and_then
    follows {Q} {reading} {next} r h = record { with = λ notes. go (r.with notes) }
      where
        go : {out : Out N} → Ends Q F out → Ends P F (and_then out next)
        go (ends_done end trees records notes e q) = rw e (after_records_ends records ((h (record { end = end; trees = trees }) records q).with notes))
        go (ends_fail cause notes e f) = rw e (ends_fail cause notes refl f)
        go (ends_stuck e) = rw e (ends_stuck refl)

    -- `try reading next other`
    pub tries : {Q : Meaning} {G : Cause → Type 0} {reading other : Reading N} {next : Part → Reading N} → Reads Q G reading
        → ((part : Part) (records : List Record) → Q part.end part.trees records
        → Reads (λ end trees more. P end trees (records ++ more)) F (next part))
        → Reads P F other
        → Reads P F (try reading next other)
    unfolding try or_else
    tries {Q} {G} {reading} {other} {next} r h o = record { with = λ notes. go (r.with notes) }
      where
        go : {out : Out N} → Ends Q G out → Ends P F (or_else out next other)
        go (ends_done end trees records notes e q) = rw e (after_records_ends records ((h (record { end = end; trees = trees }) records q).with notes))
        go (ends_fail cause notes e f) = rw e (o.with notes)
        go (ends_stuck e) = rw e (ends_stuck refl)

    -- `if holds then .. else ..`
    pub test : (holds : Bool) {x y : Reading N} → (holds ≡ true → Reads P F x) → (holds ≡ false → Reads P F y) → Reads P F (if holds then x else y)
    test true h g = h refl
    test false h g = g refl

    -- `if token sheet at is kind then .. else ..`
    pub token_test : (sheet : Sheet) (at kind : ℕ) {x y : Reading N} → (Stands sheet at (suc kind) → Reads P F x) → Reads P F y
        → Reads P F (if token sheet at is suc kind then x else y)
    token_test sheet at kind h g = test (token sheet at is suc kind) (λ e. h (record { kind_is = eqb-true _ _ e; here = stands sheet.kinds (eqb-true _ _ e) })) (λ e. g)

    -- `want sheet kind at`: the token must stand here
    pub wants : (sheet : Sheet) (at kind : ℕ) (cause : Cause) {x : Reading N} → F cause → (Stands sheet at (suc kind) → Reads P F x) → Reads P F (if token sheet at is suc kind then x else refuse cause)
    wants sheet at kind cause f h = token_test sheet at kind h (refuses _ f)

    -- `choose way`
    pub chooses : (way : N → Way) {x y z : Reading N} → Reads P F x → Reads P F y → Reads P F z → Reads P F (choose way x y z)
    unfolding choose by_way
    chooses way {x} {y} {z} a b c = record { with = λ notes. go notes (way notes) }
      where
        go : (notes : N) (w : Way) → Ends P F (by_way w x y z notes)
        go notes pass = a.with notes
        go notes attempt = b.with notes
        go notes commit = c.with notes

    -- `noting change`
    pub notes : (change : N → N) {reading : Reading N} → Reads P F reading → Reads P F (noting change reading)
    unfolding noting
    notes change r = record { with = λ m. r.with (change m) }

    -- `converted role end t`
    pub converts : (role : Role) (end : ℕ) (t : Tree) → ((t' : Tree) (records : List Record) → convert_as t role ≡ turned t' records → P end (one t') records)
        → ((cause : Cause) → convert_as t role ≡ refused cause → F cause) → Reads {N = N} P F (converted role end t)
    unfolding converted_to
    converts role end t h g = record { with = λ notes. go notes (convert_as t role) refl }
      where
        go : (notes : N) (o : Outcome Tree) → convert_as t role ≡ o → Ends P F (converted_to end o notes)
        go notes (turned t' records) e = ends_done end (one t') records notes refl (h t' records e)
        go notes (refused cause) e = ends_fail cause notes refl (g cause e)

  -- what is said may be said otherwise
  pub so : {P Q : Meaning} {reading : Reading N} → Reads Q F reading → ((end : ℕ) (trees : Forest) (records : List Record) → Q end trees records → P end trees records)
      → Reads P F reading
  so {P} {Q} r h = record { with = λ notes. go (r.with notes) }
    where
      go : {out : Out N} → Ends Q F out → Ends P F out
      go (ends_done end trees records notes e q) = ends_done end trees records notes e (h end trees records q)
      go (ends_fail cause notes e f) = ends_fail cause notes e f
      go (ends_stuck e) = ends_stuck e

-- 13.15: a value, or a head and the body after it, whether the head is tried or must be
pub heads : {N : Type 0} {F : Cause → Type 0} {P Q : Meaning} (policy : Policy N) (sheet : Sheet) (ask : Asks N) (at : ℕ) → Reads P F (ask (value at)) → Reads Q F (ask (head at))
    → ((list : Part) (records : List Record) → Q list.end list.trees records
    → Reads (λ end trees more. P end trees (records ++ more)) F (ask (body (if token sheet at is Async then Row.AsyncArrow else Row.Arrow) at list.end list.trees)))
    → Reads P F (assignment_of policy sheet ask at)
unfolding productions
heads policy sheet ask at v h b =
    test (token sheet at is LParen or token sheet at is Async) (λ _. chooses (policy.way at) v (tries h b (notes (policy.mark at) v)) (follows h b)) (λ _. v)

-- what is known in two ways is known together
pub both : {N : Type 0} {F G : Cause → Type 0} {P Q : Meaning} {reading : Reading N} → Reads P F reading → Reads Q G reading
    → Reads (λ end trees records. P end trees records × Q end trees records) G reading
both {N} {F} {G} {P} {Q} r s = record { with = λ notes. go (r.with notes) (s.with notes) }
  where
    go : {out : Out N} → Ends P F out → Ends Q G out → Ends (λ end trees records. P end trees records × Q end trees records) G out
    go (ends_done end trees records notes e p) (ends_done end' trees' records' notes' e' q) =
        let a : end' ≡ end = cc in let b : trees' ≡ trees = cc in let c : records' ≡ records = cc in
        ends_done end trees records notes e (p, rw (a, b, c) at q)
    go (ends_done end trees records notes e p) (ends_fail cause notes' e' f) = ends_fail cause notes' e' f
    go (ends_done end trees records notes e p) (ends_stuck e') = ends_stuck e'
    go (ends_fail cause notes e f) (ends_done end trees records notes' e' q) = let z : ◌≡◌ {A = ℕ} 0 1 = cc in absurd (omega arith)
    go (ends_fail cause notes e f) (ends_fail cause' notes' e' g) = ends_fail cause' notes' e' g
    go (ends_fail cause notes e f) (ends_stuck e') = ends_stuck e'
    go (ends_stuck e) (ends_done end trees records notes' e' q) = ends_stuck e
    go (ends_stuck e) (ends_fail cause' notes' e' g) = ends_stuck e
    go (ends_stuck e) (ends_stuck e') = ends_stuck e
