-- The work is bounded. What is counted: the productions of the definition that a reading applies, one for each nonterminal asked for, in heads that are given up too. Not counted: the steps of the
-- code (its calls and loop turns), what a conversion costs inside (it is part of the production that converts), the checks before the reading, and the last pass over the rows for the records 8.
-- A reader with any policy applies at most (13 · tokens + 12) · (1 + heads given up) productions. The box's reader gives up no head twice: at most (13 · tokens + 12) · (1 + abandoned),
-- and at most 69 · tokens · (1 + deepest nesting), which after check 7 is at most 4,485 · tokens; and it never sticks, whether the list is read or refused.
-- The statements, at the end: `any_work`, `box_work`, of a counting reader that is done or fails; of a whole list `list_work`, `read_work`, `checked_work`. Assumes nothing.
use Rattle.std.specs.Prelude.{if◌then◌else◌, Ok}
use Prim.Native.Nat.{ℕ, zero, suc, ◌+◌, ◌-◌, ◌*◌, ◌≤◌, ◌<◌, min}
use mathlib.Core.Path.{◌≡◌, refl, sym, ap, ◌∙◌}
use mathlib.Core.Bool.{Bool, true, false}
use mathlib.Core.List.{List, [], ◌∷◌}
use native.Mathlib.Omega.{arith}
use native.Mathlib.Decide.{ℕ_discrete}
use native.Mathlib.Nat.{mul-suc, suc-mul, mul-le-mul_right, mul-le-mul_left, zero-mul, mul-zero, mul-add, mul_comm}
use lib.Dec.{ltb}
use lib.ListN.{length, get_or-eq_default}
use borrow.Author.Tests.{eq-eqb, ne_eqb, lt-ltb, le-ltb, eqb-true}
use Rattle.tokens.specs.Bool.{◌is◌}
use Rattle.tokens.specs.Kind.{Async, LParen}
use Rattle.tokens.specs.Check.{check_nesting}
use Rattle.rows.specs.Tree.{Forest}
use Rattle.rows.specs.Record.{Record}
use Rattle.grammar.specs.Sheet.{Sheet, token, Out, done, fail}
use Rattle.grammar.specs.Job.{Job, expression, binding_element}
use Rattle.grammar.specs.Arrow.{Policy}
use Rattle.grammar.specs.Step.{read, plenty}
use Rattle.laws.proofs.Settles.{in_plenty}
use Rattle.laws.specs.Settles.{μ, looked_at}
use Rattle.grammar.specs.Reading.{box, cleared, noted_places, whole, reading}
use Rattle.laws.proofs.Good.{Came, came}
use Rattle.laws.proofs.Bounds.{limits, Bound}
use Rattle.laws.proofs.Rel.{Rel, both_done, both_fail}
use Rattle.laws.proofs.Abandoned.{Alike, together}
use Rattle.laws.specs.Promises.{Log, logging, times, Once}
use Rattle.laws.proofs.Balanced.{side_of}
use Rattle.agreement.proofs.Bounds.{BoxWork}
use Rattle.agreement.proofs.Scope.{scope, head_start, reach, closing_later, closing_inside, scope_outside}
use Rattle.agreement.proofs.Count.{counts_beside, Same, counts_the_same}
use Rattle.agreement.specs.Terms.{Counted, fresh, count, deepest, Ended, ended_done, ended_fail}
use Rattle.agreement.proofs.Nesting.{span, spans, spans_bounded, nesting_64}
use Rattle.agreement.proofs.Work.{price, due, Costs, costs_done, costs_fail, costs_stuck, Spends, so, works}

-- HEADS GIVEN UP, EACH
-- a head costs no more than the list
reach_within : (sheet : Sheet) (at : ℕ) → reach sheet at - at ≤ length sheet.kinds
unfolding reach
reach_within sheet at = go (native.Mathlib.Decide.dec_lt (length sheet.kinds) at)
  where
    go : Dec (length sheet.kinds < at) → reach sheet at - at ≤ length sheet.kinds
    go (yes l) = omega (arith, scope_outside sheet at (omega arith))
    go (no l) = omega (arith, closing_inside sheet at 0 (omega arith))

due_length : (sheet : Sheet) (places : List ℕ) → due sheet places ≤ (13 * length sheet.kinds + 12) * length places
unfolding due price
due_length sheet [] = omega arith
due_length sheet (at ∷ places) = omega (arith, due_length sheet places, reach_within sheet at, mul-suc (13 * length sheet.kinds + 12) (length places))

-- HEADS GIVEN UP, ALL PLACES ONCE
-- a sum over all places before a place
unfoldable sum_to : (ℕ → ℕ) → ℕ → ℕ
sum_to g zero = 0
sum_to g (suc n) = sum_to g n + g n

-- and over those of a list that stand before it
unfoldable sum_below : (ℕ → ℕ) → ℕ → List ℕ → ℕ
sum_below g n [] = 0
sum_below g n (p ∷ places) = (if ltb p n then g p else 0) + sum_below g n places

-- places that all stand before a place
pub data Below (n : ℕ) : List ℕ → Type 0 where
  none : Below n []
  more : {p : ℕ} {places : List ℕ} → p < n → Below n places → Below n (p ∷ places)

-- what a list has at one place
sum_step : (g : ℕ → ℕ) (n : ℕ) (places : List ℕ) → sum_below g (suc n) places ≡ sum_below g n places + times n places * g n
unfolding sum_below times
sum_step g n [] = omega arith
sum_step g n (p ∷ places) = go (ℕ_discrete p n) (native.Mathlib.Decide.dec_lt p n) (sum_step g n places)
  where
    plus : (k l : ℕ) → k ≡ l → k * g n ≡ l * g n
    plus k l e = ap (λ k. k * g n) e

    go : Dec (p ≡ n) → Dec (p < n) → sum_below g (suc n) places ≡ sum_below g n places + times n places * g n
        → (if ltb p (suc n) then g p else 0) + sum_below g (suc n) places ≡ (if ltb p n then g p else 0) + sum_below g n places + ((if p is n then 1 else 0) + times n places) * g n
    go (yes e) _ h =
        rw (e, lt-ltb n (suc n) (omega arith), le-ltb n n (omega arith), eq-eqb n n refl)
        (omega (arith, h, suc-mul (times n places) (g n), plus (1 + times n places) (suc (times n places)) (omega arith)))
    go (no e) (yes l) h =
        rw (ne_eqb p n e, lt-ltb p (suc n) (omega arith), lt-ltb p n l) (omega (arith, h, plus (0 + times n places) (times n places) (omega arith)))
    go (no e) (no l) h =
        rw (ne_eqb p n e, le-ltb p (suc n) (omega arith), le-ltb p n (omega arith)) (omega (arith, h, plus (0 + times n places) (times n places) (omega arith)))

sum_none : (g : ℕ → ℕ) (places : List ℕ) → sum_below g 0 places ≡ 0
unfolding sum_below
sum_none g [] = refl
sum_none g (p ∷ places) = rw (le-ltb p 0 (omega arith)) (omega (arith, sum_none g places))

-- where no place stands twice, a list has no more than all places
sum_once : (g : ℕ → ℕ) (n : ℕ) (places : List ℕ) → ((p : ℕ) → times p places ≤ 1) → sum_below g n places ≤ sum_to g n
unfolding sum_to
sum_once g zero places once = omega (arith, sum_none g places)
sum_once g (suc n) places once =
    omega (arith, sum_step g n places, sum_once g n places once, mul-le-mul_right (g n) (once n), suc-mul 0 (g n), zero-mul (g n))

due_below : (sheet : Sheet) (n : ℕ) (places : List ℕ) → Below n places → due sheet places ≡ sum_below (price sheet) n places
unfolding due sum_below
due_below sheet n [] none = refl
due_below sheet n (p ∷ places) (more l b) = rw (lt-ltb p n l) (omega (arith, due_below sheet n places b))

-- a head costs no more than its brackets
bracket_span : (sheet : Sheet) (at : ℕ) → token sheet at ≡ LParen → span sheet at ≡ scope sheet (at + 1) + 1 - at
unfolding span side_of
bracket_span sheet at e = rw e

price_span : (sheet : Sheet) (at : ℕ) → price sheet at ≤ 13 * span sheet at + 13 * span sheet (at + 1) + 18
unfolding price reach head_start
price_span sheet at = go (token sheet at is Async)
  where
    bare : (b : Bool) → token sheet at is LParen ≡ b → 13 * (min (scope sheet at) (if b then scope sheet (at + 1) + 1 else at) - at) + 5 ≤ 13 * span sheet at + 13 * span sheet (at + 1) + 18
    bare true e = omega (arith, bracket_span sheet at (eqb-true _ _ e), closing_later sheet (at + 1) 0)
    bare false e = omega arith

    after : (b : Bool) → token sheet (at + 1) is LParen ≡ b
        → 13 * (min (scope sheet at) (if b then scope sheet (at + 1 + 1) + 1 else at) - at) + 5 ≤ 13 * span sheet at + 13 * span sheet (at + 1) + 18
    after true e = omega (arith, bracket_span sheet (at + 1) (eqb-true _ _ e), closing_later sheet (at + 1 + 1) 0)
    after false e = omega arith

    go : (a : Bool) → 13 * (min (scope sheet at) (if token sheet (if a then at + 1 else at) is LParen then scope sheet ((if a then at + 1 else at) + 1) + 1 else at) - at) + 5
        ≤ 13 * span sheet at + 13 * span sheet (at + 1) + 18
    go true = after (token sheet (at + 1) is LParen) refl
    go false = bare (token sheet at is LParen) refl

sum_price : (sheet : Sheet) (n : ℕ) → sum_to (price sheet) n ≤ 13 * sum_to (span sheet) n + 13 * sum_to (λ p. span sheet (p + 1)) n + 18 * n
unfolding sum_to
sum_price sheet zero = omega arith
sum_price sheet (suc n) = omega (arith, sum_price sheet n, price_span sheet n)

sum_next : (g : ℕ → ℕ) (n : ℕ) → sum_to (λ p. g (p + 1)) n + g 0 ≡ sum_to g n + g n
unfolding sum_to
sum_next g zero = omega arith
sum_next g (suc n) = let e : g (n + 1) ≡ g (suc n) = ap g (omega arith) in omega (arith, sum_next g n)

sum_spans : (sheet : Sheet) (left at : ℕ) → spans sheet left at + sum_to (span sheet) at ≡ sum_to (span sheet) (at + left)
unfolding spans sum_to
sum_spans sheet zero at = let e : at + 0 ≡ at = omega arith in rw e (omega arith)
sum_spans sheet (suc left) at =
    let e : at + 1 ≡ suc at = omega arith in
    let q : at + suc left ≡ suc at + left = omega arith in
    rw (e, q) (omega (arith, sum_spans sheet left (suc at)))

span_end : (sheet : Sheet) → span sheet (length sheet.kinds) ≡ 0
unfolding span side_of
span_end sheet = rw (get_or-eq_default sheet.kinds 0 {n = length sheet.kinds} (omega arith))

-- all heads together, each given up once
pub due_once : (sheet : Sheet) (places : List ℕ) → ((p : ℕ) → times p places ≤ 1) → Below (length sheet.kinds) places
    → due sheet places ≤ 26 * (length sheet.kinds * (deepest sheet + 1)) + 18 * length sheet.kinds
unfolding sum_to
due_once sheet places once below =
    let n = length sheet.kinds in
    let z : 0 + n ≡ n = omega arith in
    omega (
      arith,
      due_below sheet n places below,
      sum_once (price sheet) n places once,
      sum_price sheet n,
      sum_next (span sheet) n,
      span_end sheet,
      rw z at (sum_spans sheet n 0),
      spans_bounded sheet,
    )

-- THE STATEMENTS
-- what an entry reads: one Expression, or one binding with an optional initializer
pub data Start : Job → Type 0 where
  whole_list : Start (expression 0)
  pattern : Start (binding_element 0)

-- what a reading has cost, by what was given up
record Spent {N : Type 0} (sheet : Sheet) (m : Counted N) : Type 0 where
  spent : m.steps ≤ 13 * length sheet.kinds + 12 + due sheet m.dropped

raw_work : {N : Type 0} (policy : Policy N) (sheet : Sheet) (job : Job) → Start job → (notes : N) (f : ℕ) → Spends (fresh notes) (λ end m. Spent sheet m) (Spent sheet) (count policy sheet f job)
raw_work policy sheet job whole_list notes f =
    so ((works policy sheet f).with (expression 0) (omega arith) (fresh notes)) (λ end m p. omega arith) (λ m p. omega (arith, closing_inside sheet 0 0 (omega arith)))
raw_work policy sheet job pattern notes f =
    so ((works policy sheet f).with (binding_element 0) (omega arith) (fresh notes)) (λ end m p. omega arith) (λ m p. omega (arith, closing_inside sheet 0 0 (omega arith)))

-- a reader with any policy, at any bound on its steps: so many productions, unless the bound was too small for it (`costs_stuck`)
pub record AnyWork {N : Type 0} (sheet : Sheet) (m : Counted N) : Type 0 where
  pub by_heads : m.steps ≤ (13 * length sheet.kinds + 12) * (1 + length m.dropped)

pub any_work : {N : Type 0} (policy : Policy N) (sheet : Sheet) (job : Job) → Start job → (notes : N) (f : ℕ)
    → Costs (λ end m. AnyWork sheet m) (AnyWork sheet) (count policy sheet f job (fresh notes))
any_work {N} policy sheet job start notes f = (so (raw_work policy sheet job start notes f) (λ end m p. multiplied m p) multiplied).with
  where
    multiplied : (m : Counted N) → Spent sheet m → AnyWork sheet m
    multiplied m spent =
        let k = 13 * length sheet.kinds + 12 in
        record { by_heads = omega (arith, due_length sheet m.dropped, mul-add k 1 (length m.dropped), mul-suc k 0, mul-zero k) }

module _ (sheet : Sheet) where
  -- any list, read or refused: how it ended, and the productions that were applied for it
  pub record ListWork (job : Job) : Type 0 where
    pub after : Counted (List ℕ)
    pub ended : Ended sheet job after
    pub work : BoxWork sheet after

  -- a list that is read: the numbers of the answer, and the productions that were applied for it
  pub record ReadWork (job : Job) (trees : Forest) (notes : List ℕ) : Type 0 where
    pub said : List Record
    pub after : Counted (List ℕ)
    pub counted : count (box sheet) sheet (μ sheet job) job (fresh cleared) ≡ done (length sheet.kinds) trees said after
    pub same_notes : after.notes ≡ notes
    pub by_abandoned : after.steps ≤ (13 * length sheet.kinds + 12) * (1 + noted_places notes)
    pub by_nesting : after.steps ≤ 69 * (length sheet.kinds * (1 + deepest sheet))

module _ (sheet : Sheet) (some_tokens : 1 ≤ length sheet.kinds) (small : length sheet.kinds ≤ 2048) where
  -- beside the reader that logs each head that it gives up
  record Logs (m : Counted (List ℕ)) (log : Log) : Type 0 where
    same : m.notes ≡ log.notes
    places : m.dropped ≡ log.places
    below : Below (length sheet.kinds) m.dropped

  logged : (job : Job) → looked_at job ≤ length sheet.kinds
      → Rel Logs ◌≡◌ (Bound (limits sheet job)) (count (box sheet) sheet (μ sheet job) job (fresh cleared)) (read (logging sheet) sheet (μ sheet job) job (record { notes = cleared; places = [] }))
  logged job i =
      counts_beside (box sheet) (logging sheet) sheet Logs (λ at m log s. ap ((box sheet).way at) s.same)
      (λ at l m log s. record { same = ap ((box sheet).mark at) s.same; places = ap (λ (ps : List ℕ). at ∷ ps) s.places; below = more l s.below })
      (λ m log s. record { same = s.same; places = s.places; below = s.below })
      job i (μ sheet job) (μ sheet job) (omega arith) (omega arith) (fresh cleared) (record { notes = cleared; places = [] }) (record { same = refl; places = refl; below = none })

  bounded : (m : Counted (List ℕ)) (notes : List ℕ) (log : Log) → Logs m log → Alike sheet notes log → Spent sheet m → BoxWork sheet m
  bounded m notes log s a spent =
      let n = length sheet.kinds in
      let k = 13 * n + 12 in
      let same_notes : notes ≡ m.notes = sym a.same ∙ sym s.same in
      let o : Once m.notes m.dropped = rw (sym same_notes, s.places) a.log_once in
      record {
        once = o;
        by_abandoned = omega (arith, due_length sheet m.dropped, mul-add k 1 (noted_places m.notes), mul-suc k 0, mul-zero k, ap (λ d. k * d) o.counted);
        by_nesting =
            omega (arith, due_once sheet m.dropped o.once s.below, mul-add n 1 (deepest sheet), mul-add n (deepest sheet) 1, mul-suc n 0, mul-zero n);
      }

  starts : {job : Job} → Start job → looked_at job ≤ length sheet.kinds
  starts whole_list = omega arith
  starts pattern = omega arith

  -- at most so many productions where the counting reader is done, and where it fails; that it is one of the two says `list_work`
  pub box_work : (job : Job) → Start job → Costs (λ end m. BoxWork sheet m) (BoxWork sheet) (count (box sheet) sheet (μ sheet job) job (fresh cleared))
  box_work job start = go (raw_work (box sheet) sheet job start cleared (μ sheet job)).with (logged job (starts start)) (together sheet job (starts start) small (μ sheet job) (omega arith))
    where
      go : {x : Out (Counted (List ℕ))} {y : Out Log} {z : Out (List ℕ)} → Costs (λ end m. Spent sheet m) (Spent sheet) x
          → Rel Logs ◌≡◌ (Bound (limits sheet job)) x y → Rel (Alike sheet) ◌≡◌ (Bound (limits sheet job)) z y → Costs (λ end m. BoxWork sheet m) (BoxWork sheet) x
      go (costs_done _ _ _ m₂ e₂ c) (both_done end trees records m log e e' b s) (both_done _ _ _ notes log₁ e₁ e₁' b₁ a) =
          let q : log₁ ≡ log = cc in let w : m₂ ≡ m = cc in costs_done end trees records m e (bounded m notes log s (rw q at a) (rw w at c))
      go (costs_fail _ m₂ e₂ c) (both_fail cause cause' m log e e' b s) (both_fail _ _ notes log₁ e₁ e₁' b₁ a) =
          let q : log₁ ≡ log = cc in let w : m₂ ≡ m = cc in costs_fail cause m e (bounded m notes log s (rw q at a) (rw w at c))
      go (costs_done _ _ _ _ e₂ c) (both_done _ _ _ _ _ e e' b s) (both_fail _ _ _ _ e₁ e₁' b₁ a) = let w : ◌≡◌ {A = ℕ} 0 1 = cc in absurd (omega arith)
      go (costs_done _ _ _ _ e₂ c) (both_fail _ _ _ _ e e' b s) r = let w : ◌≡◌ {A = ℕ} 0 1 = cc in absurd (omega arith)
      go (costs_fail _ _ e₂ c) (both_done _ _ _ _ _ e e' b s) r = let w : ◌≡◌ {A = ℕ} 0 1 = cc in absurd (omega arith)
      go (costs_fail _ _ e₂ c) (both_fail _ _ _ _ e e' b s) (both_done _ _ _ _ _ e₁ e₁' b₁ a) = let w : ◌≡◌ {A = ℕ} 0 1 = cc in absurd (omega arith)
      go (costs_stuck e₂) (both_done _ _ _ _ _ e e' b s) r = let w : ◌≡◌ {A = ℕ} 0 1 = cc in absurd (omega arith)
      go (costs_stuck e₂) (both_fail _ _ _ _ e e' b s) r = let w : ◌≡◌ {A = ℕ} 0 1 = cc in absurd (omega arith)

  -- THE WORK OF A WHOLE LIST, read or refused
  pub list_work : (job : Job) → Start job → ListWork sheet job
  list_work job start =
      go (box_work job start) (counts_the_same (box sheet) sheet job (starts start) (μ sheet job) (plenty sheet) (omega arith) (in_plenty sheet job) (fresh cleared))
    where
      go : Costs (λ end m. BoxWork sheet m) (BoxWork sheet) (count (box sheet) sheet (μ sheet job) job (fresh cleared))
          → Rel Same ◌≡◌ (Bound (limits sheet job)) (count (box sheet) sheet (μ sheet job) job (fresh cleared)) (read (box sheet) sheet (plenty sheet) job cleared)
          → ListWork sheet job
      go (costs_done _ _ _ m e₁ w) (both_done end trees said m₂ m' e₂ e₃ b s) =
          let v : m ≡ m₂ = cc in
          record { after = m₂; ended = ended_done end trees said e₂ (e₃ ∙ ap (done end trees said) (sym s.same)); work = rw v at w }
      go (costs_fail _ m e₁ w) (both_fail cause cause' m₂ m' e₂ e₃ c s) =
          let v : m ≡ m₂ = cc in
          record { after = m₂; ended = ended_fail cause e₂ (e₃ ∙ (λ i. fail (sym c i) (sym s.same i))); work = rw v at w }
      go (costs_done _ _ _ _ e₁ w) (both_fail _ _ _ _ e₂ e₃ c s) = let z : ◌≡◌ {A = ℕ} 0 1 = cc in absurd (omega arith)
      go (costs_fail _ _ e₁ w) (both_done _ _ _ _ _ e₂ e₃ b s) = let z : ◌≡◌ {A = ℕ} 0 1 = cc in absurd (omega arith)
      go (costs_stuck e₁) (both_done _ _ _ _ _ e₂ e₃ b s) = let z : ◌≡◌ {A = ℕ} 0 1 = cc in absurd (omega arith)
      go (costs_stuck e₁) (both_fail _ _ _ _ e₂ e₃ c s) = let z : ◌≡◌ {A = ℕ} 0 1 = cc in absurd (omega arith)

  -- of one that is read
  pub read_work : (job : Job) → Start job → {trees : Forest} {records : List Record} {notes : List ℕ} → reading (box sheet) sheet job cleared ≡ whole trees records notes → ReadWork sheet job trees notes
  read_work job start {trees} {records} {notes} e = let l = list_work job start in ends l.after l.work (came (box sheet) sheet job cleared e) l.ended
    where
      ends : (after : Counted (List ℕ)) → BoxWork sheet after → Came (box sheet) sheet job cleared trees records notes → Ended sheet job after → ReadWork sheet job trees notes
      ends after w c (ended_done end ts said k r) =
          let d = c.done_at_end in
          let y : after.notes ≡ notes = cc in
          record { said = said; after = after; counted = cc; same_notes = y; by_abandoned = rw (sym y) w.by_abandoned; by_nesting = w.by_nesting }
      ends after w c (ended_fail cause k r) = let d = c.done_at_end in let z : ◌≡◌ {A = ℕ} 0 1 = cc in absurd (omega arith)

  -- after check 7 at most 4,485 productions a token
  pub checked_work : check_nesting sheet.kinds ≡ Ok tt → (m : Counted (List ℕ)) → m.steps ≤ 69 * (length sheet.kinds * (1 + deepest sheet)) → m.steps ≤ 4485 * length sheet.kinds
  checked_work fine m by_nesting =
      let n = length sheet.kinds in
      omega (arith, by_nesting, mul-le-mul_left n (deep fine), mul_comm n 65)
    where
      deep : check_nesting sheet.kinds ≡ Ok tt → 1 + deepest sheet ≤ 65
      deep fine = omega (arith, nesting_64 sheet fine)
