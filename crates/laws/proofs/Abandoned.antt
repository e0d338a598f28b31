-- No place is abandoned twice. The box's reader with a log of the places whose heads it gave up reads the same, refuses the same and has the same
-- notes; in its log no place stands twice, exactly the noted places stand in it, and so the number of abandoned heads is the number of noted places.
-- The notes stay of length 2,048, each 0 or 1.
-- The statements, at the end: `logs_the_same`, `refuses_the_same`, `notes_stay`. Assumes nothing.
use Rattle.std.specs.Prelude.{if◌then◌else◌}
use Prim.Native.Nat.{ℕ, zero, suc, ◌+◌, ◌≤◌, ◌<◌}
use mathlib.Core.Path.{◌≡◌, refl, sym, ap, ◌∙◌}
use mathlib.Core.Bool.{Bool, true, false, not}
use mathlib.Core.List.{List, [], ◌∷◌, ◌++◌}
use native.Mathlib.Omega.{arith}
use native.Mathlib.Decide.{ℕ_discrete}
use lib.ListN.{length, get_or, set, replicate, length-set, length-replicate, get_or-eq_default}
use lib.Seq.{get_or-set_same, get_or-set_other}
use borrow.Author.Tests.{eqb-true, not-false, eq-eqb, ne_eqb}
use Rattle.tokens.specs.Bool.{◌or◌, ◌is◌}
use Rattle.tokens.specs.Kind.{Async, LParen}
use Rattle.tokens.specs.declared.cause.Cause.{Cause}
use Rattle.lookahead.specs.ThreeWay.{three_way}
use Rattle.lookahead.specs.declared.Tristate.{Tristate}
use Rattle.rows.specs.Tree.{Forest}
use Rattle.rows.specs.Record.{Record}
use Rattle.grammar.specs.Sheet.{Sheet, token, Out, done, fail, or_else, try}
use Rattle.grammar.specs.Job.{Job, assignment, value, head}
use Rattle.grammar.specs.Arrow.{attempt, noting, arrow_of, assignment_of}
use Rattle.grammar.specs.Step.{read, plenty}
use Rattle.laws.proofs.Settles.{in_plenty}
use Rattle.laws.specs.Settles.{μ, looked_at}
use Rattle.grammar.specs.Reading.{way_of, box, cleared, noted_places, unconverteds, whole, refused, at_end, reading}
use Rattle.laws.proofs.Good.{Came, came, whole_from}
use Rattle.laws.proofs.Bounds.{limits, Bound}
use Rattle.laws.proofs.Rel.{Ready, Whatever, Rel, both_done, both_fail, Agree, Near, forget, after_records_rel, both_follow, both_choose, both_test, arrow_rel, related}
use Rattle.laws.proofs.Steady.{opens_inside, kept_if_done, kept_if_fail}
use Rattle.laws.specs.Promises.{Fine, Log, Logged, Once, logging, times}

fine_set : {notes : List ℕ} (at : ℕ) → Fine notes → Fine (set notes at 1)
fine_set {notes} at f = record { long = length-set notes at 1 ∙ f.long; each = λ place. go place (ℕ_discrete place at) (native.Mathlib.Decide.dec_lt at (length notes)) }
  where
    go : (place : ℕ) → Dec (place ≡ at) → Dec (at < length notes) → get_or (set notes at 1) place 0 ≤ 1
    go place (yes e) (yes l) = rw (e, get_or-set_same notes at 1 0 l) (omega arith)
    go place (yes e) (no l) = rw (get_or-eq_default (set notes at 1) 0 {n = place} (simp length-set (omega arith))) (omega arith)
    go place (no e) l = rw (get_or-set_other notes at place 1 0 e) (f.each place)

noted_set : (notes : List ℕ) (at : ℕ) → at < length notes → get_or notes at 0 ≡ 0 → noted_places (set notes at 1) ≡ noted_places notes + 1
unfolding noted_places
noted_set [] at l z = absurd (omega arith)
noted_set (note ∷ notes) zero l z = omega arith
noted_set (note ∷ notes) (suc at) l z = omega (arith, noted_set notes at (omega arith) z)

-- what the box's reader and the logging one have in common
pub record Alike (sheet : Sheet) (notes : List ℕ) (log : Log) : Type 0 where
  pub same : log.notes ≡ notes
  pub log_once : Once notes log.places
  pub room : length sheet.kinds ≤ length notes

-- a place that is not noted is logged
alike_mark : {sheet : Sheet} {notes : List ℕ} {log : Log} (at : ℕ) → at < length sheet.kinds → get_or notes at 0 ≡ 0 → Alike sheet notes log
    → Alike sheet (set notes at 1) (record { notes = set log.notes at 1; places = at ∷ log.places })
unfolding times
alike_mark {sheet} {notes} {log} at i z a =
    record {
      same = ap (λ m. set m at 1) a.same;
      log_once =
          record {
            once = λ place. go place (ℕ_discrete at place);
            noted = λ place. went place (ℕ_discrete at place);
            counted = omega (arith, noted_set notes at (omega arith) z, a.log_once.counted);
          };
      room = simp length-set a.room;
    }
  where
    l : at < length notes
    l = omega (arith, a.room)

    went : (place : ℕ) → Dec (at ≡ place) → (if at is place then 1 else 0) + times place log.places ≡ get_or (set notes at 1) place 0
    went place (yes e) = rw (sym e, eq-eqb at at refl, get_or-set_same notes at 1 0 l) (omega (arith, a.log_once.noted at))
    went place (no e) = rw (ne_eqb at place e, get_or-set_other notes at place 1 0 (λ q. e (sym q))) (omega (arith, a.log_once.noted place))

    go : (place : ℕ) → Dec (at ≡ place) → (if at is place then 1 else 0) + times place log.places ≤ 1
    go place (yes e) = rw (sym e, eq-eqb at at refl) (omega (arith, a.log_once.noted at))
    go place (no e) = rw (ne_eqb at place e) (omega (arith, a.log_once.once place))

-- a head is tried only where nothing is noted
unnoted : (three : Tristate) (noted : Bool) → way_of three noted ≡ attempt → noted ≡ false
unfolding way_of
unnoted Tristate.False noted e = let z : ◌≡◌ {A = ℕ} 0 1 = cc in absurd (omega arith)
unnoted Tristate.True noted e = let z : ◌≡◌ {A = ℕ} 0 1 = cc in absurd (omega arith)
unnoted Tristate.Maybe true e = let z : ◌≡◌ {A = ℕ} 0 1 = cc in absurd (omega arith)
unnoted Tristate.Maybe false e = refl

attempted : (sheet : Sheet) (at : ℕ) (m : List ℕ) → (box sheet).way at m ≡ attempt → get_or m at 0 ≡ 0
attempted sheet at m e = eqb-true _ _ (not-false _ (unnoted (three_way sheet.kinds sheet.flags false false at) (not (get_or m at 0 is 0)) e))

-- a head notes nothing where it begins
head_keeps : (sheet : Sheet) (at f : ℕ) (m : List ℕ) → μ sheet (head at) ≤ f → {cause : Cause} {after : List ℕ} → read (box sheet) sheet f (head at) m ≡ fail cause after
    → get_or after at 0 ≡ get_or m at 0
head_keeps sheet at f m le e =
    kept_if_fail (box sheet) sheet (at + 1) (λ m'. get_or m' at 0 ≡ get_or m at 0) (λ at' m' l i k. get_or-set_other m' at' at 1 0 (omega arith) ∙ k)
    (head at) (omega arith) (omega arith) m refl f le e

assignment_logged : (sheet : Sheet) (n f f' : ℕ) → n ≤ f → n ≤ f' → Near (Alike sheet) ◌≡◌ sheet 0 n (read (box sheet) sheet f) (read (logging sheet) sheet f') → (at : ℕ)
    → Ready sheet 0 (suc n) (assignment at)
    → Agree (Alike sheet) ◌≡◌ Whatever (assignment_of (box sheet) sheet (read (box sheet) sheet f) at) (assignment_of (logging sheet) sheet (read (logging sheet) sheet f') at)
unfolding assignment_of try or_else noting
assignment_logged sheet n f f' l l' h at r =
    both_test (token sheet at is LParen or token sheet at is Async)
    (λ t. both_choose ((box sheet).way at) ((logging sheet).way at) (λ m c s. ap ((box sheet).way at) (sym s.same))
    (λ m c s e. past.with m c s)
    (λ m c s e. trying (opens_inside sheet at t) m c (attempted sheet at m e) ((h.with (head at) (omega arith)).with m c s))
    (λ m c s e. (both_follow (h.with (head at) (omega arith)) (arrow_rel (λ c. refl) sheet h (box sheet) (logging sheet) at r)).with m c s))
    (λ _. past)
  where
    past : Agree (Alike sheet) ◌≡◌ Whatever (read (box sheet) sheet f (value at)) (read (logging sheet) sheet f' (value at))
    past = forget (h.with (value at) (omega arith))

    trying : at < length sheet.kinds → (m : List ℕ) (c : Log) → get_or m at 0 ≡ 0
        → Rel (Alike sheet) ◌≡◌ (Bound (limits sheet (head at))) (read (box sheet) sheet f (head at) m) (read (logging sheet) sheet f' (head at) c)
        → Rel (Alike sheet) ◌≡◌ Whatever
        (or_else (read (box sheet) sheet f (head at) m) (arrow_of (box sheet) sheet (read (box sheet) sheet f) at) (noting ((box sheet).mark at) (read (box sheet) sheet f (value at))))
        (or_else (read (logging sheet) sheet f' (head at) c) (arrow_of (logging sheet) sheet (read (logging sheet) sheet f') at)
        (noting ((logging sheet).mark at) (read (logging sheet) sheet f' (value at))))
    trying i m c z (both_done end trees records m₁ c₁ e e' b s) =
        rw (e, e') (after_records_rel records ((arrow_rel (λ c. refl) sheet h (box sheet) (logging sheet) at r (record { end = end; trees = trees }) records b).with m₁ c₁ s))
    trying i m c z (both_fail cause cause' m₁ c₁ e e' a s) =
        let k : get_or m₁ at 0 ≡ 0 = head_keeps sheet at f m (omega arith) e ∙ z in
        rw (e, e') (past.with (set m₁ at 1) _ (alike_mark at i k s))

all_clear : (size place : ℕ) → ◌≡◌ {A = ℕ} (get_or (replicate size 0) place 0) 0
all_clear zero place = refl
all_clear (suc size) zero = refl
all_clear (suc size) (suc place) = all_clear size place

none_noted : (size : ℕ) → noted_places (replicate size 0) ≡ 0
unfolding noted_places
none_noted zero = refl
none_noted (suc size) = omega (arith, none_noted size)

pub fine_cleared : Fine cleared
fine_cleared = record { long = length-replicate {A = ℕ} 2048 0; each = λ place. rw (all_clear 2048 place) (omega arith) }

alike_start : (sheet : Sheet) → length sheet.kinds ≤ 2048 → Alike sheet cleared (record { notes = cleared; places = [] })
unfolding times
alike_start sheet le =
    record {
      same = refl;
      log_once = record { once = λ place. omega arith; noted = λ place. sym (all_clear 2048 place); counted = sym (none_noted 2048) };
      room = rw (length-replicate {A = ℕ} 2048 0) le;
    }

log_is : (log : Log) {notes : List ℕ} → log.notes ≡ notes → log ≡ record { notes = notes; places = log.places }
log_is log e = ap {B = Log} (λ notes. record { notes = notes; places = log.places }) e

same_refusal : {N N' : Type 0} (holds : Bool) (trees : Forest) (records : List Record) (notes : N) (notes' : N') (cause : Cause) {cause' : Cause}
    → (if holds then whole trees records notes else refused cause) ≡ refused cause' → (if holds then whole trees records notes' else refused cause) ≡ refused cause'
same_refusal true trees records notes notes' cause e = let z : ◌≡◌ {A = ℕ} 0 1 = cc in absurd (omega arith)
same_refusal false trees records notes notes' cause {cause'} e = let c : cause ≡ cause' = cc in ap refused c

module _ (sheet : Sheet) (job : Job) (there : looked_at job ≤ length sheet.kinds) (small : length sheet.kinds ≤ 2048) where
  -- the two side by side, whether it is read or refused
  pub together : (steps : ℕ) → μ sheet job ≤ steps
      → Rel (Alike sheet) ◌≡◌ (Bound (limits sheet job)) (read (box sheet) sheet steps job cleared) (read (logging sheet) sheet steps job (record { notes = cleared; places = [] }))
  together steps enough =
      related (λ c. refl) sheet 0 (box sheet) (logging sheet) (assignment_logged sheet) job (omega arith) there steps steps enough enough
      cleared (record { notes = cleared; places = [] }) (alike_start sheet small)

  pub logs_the_same : {trees : Forest} {records : List Record} {notes : List ℕ} → reading (box sheet) sheet job cleared ≡ whole trees records notes → Logged sheet job trees records notes
  unfolding reading at_end
  logs_the_same {trees} {records} {notes} e = go (together (plenty sheet) (in_plenty sheet job)) (came (box sheet) sheet job cleared e)
    where
      go : Rel (Alike sheet) ◌≡◌ (Bound (limits sheet job)) (read (box sheet) sheet (plenty sheet) job cleared)
          (read (logging sheet) sheet (plenty sheet) job (record { notes = cleared; places = [] }))
          → Came (box sheet) sheet job cleared trees records notes → Logged sheet job trees records notes
      go (both_done end ts rs m log e₁ e₂ b s) c =
          let d = c.done_at_end in
          let t = c.then_unconverted in
          let n : end ≡ length sheet.kinds = cc in
          let q : ts ≡ trees = cc in
          let p : rs ≡ c.said = cc in
          let a : log ≡ record { notes = notes; places = log.places } = log_is log (s.same ∙ cc) in
          let w : read (logging sheet) sheet (plenty sheet) job (record { notes = cleared; places = [] })
          ≡ done (length sheet.kinds) trees c.said (record { notes = notes; places = log.places }) = cc in
          record {
            places = log.places;
            reads_too = rw t (whole_from (logging sheet) sheet job (record { notes = cleared; places = [] }) w);
            log_once = let y : m ≡ notes = cc in rw y at s.log_once;
          }
      go (both_fail cause cause' m log e₁ e₂ a s) c = let d = c.done_at_end in let z : ◌≡◌ {A = ℕ} 0 1 = cc in absurd (omega arith)

  -- and it refuses the same
  pub refuses_the_same : {cause : Cause} → reading (box sheet) sheet job cleared ≡ refused cause → reading (logging sheet) sheet job (record { notes = cleared; places = [] }) ≡ refused cause
  unfolding reading at_end
  refuses_the_same {cause} e = go (together (plenty sheet) (in_plenty sheet job)) e
    where
      go : {x : Out (List ℕ)} {y : Out Log} → Rel (Alike sheet) ◌≡◌ (Bound (limits sheet job)) x y → at_end (length sheet.kinds) x ≡ refused cause → at_end (length sheet.kinds) y ≡ refused cause
      go (both_done end ts rs m log e₁ e₂ b s) q = rw e₂ (same_refusal (end is length sheet.kinds) ts (rs ++ unconverteds ts) m log (Cause.Unexpected end) (rw e₁ at q))
      go (both_fail cause₁ cause₂ m log e₁ e₂ a s) q = rw (e₂, sym a) (let c : cause₁ ≡ cause = cc in ap refused c)

-- notes that cover 2,048 places, each 0 or 1, stay so
module _ (sheet : Sheet) (job : Job) (there : looked_at job ≤ length sheet.kinds) where
  pub notes_stay : {notes : List ℕ} → Fine notes → {end : ℕ} {trees : Forest} {records : List Record} {after : List ℕ}
      → read (box sheet) sheet (plenty sheet) job notes ≡ done end trees records after → Fine after
  notes_stay {notes} f e = kept_if_done (box sheet) sheet 0 Fine (λ at m l i k. fine_set at k) job (omega arith) there notes f (plenty sheet) (in_plenty sheet job) e

  pub notes_stay_whole : {trees : Forest} {records : List Record} {notes : List ℕ} → reading (box sheet) sheet job cleared ≡ whole trees records notes → Fine notes
  notes_stay_whole e = notes_stay fine_cleared (came (box sheet) sheet job cleared e).done_at_end
