-- Sound notes: at each noted place the plain head fails. A reader asks an answer and notes the heads that failed. If the answer is right and the notes are sound, it reads what
-- the plain reader reads, and the notes stay sound. So what a head comes to does not depend on the notes.
-- The statements, at the end: `follows_plain`, `stays_sound`, `same_head`. Assumes nothing.
use Prim.Native.Nat.{ℕ, zero, suc, ◌≤◌}
use mathlib.Core.Path.{◌≡◌, refl, sym, ◌∙◌}
use mathlib.Core.Bool.{Bool, true, false, not}
use mathlib.Core.List.{List}
use native.Mathlib.Omega.{arith}
use native.Mathlib.Decide.{ℕ_discrete}
use lib.ListN.{length, get_or, set, replicate}
use lib.Seq.{get_or-set_other}
use borrow.Author.Tests.{eq-eqb}
use Rattle.tokens.specs.Bool.{◌or◌, ◌is◌}
use Rattle.tokens.specs.Kind.{Async, LParen}
use Rattle.tokens.specs.declared.cause.Cause.{Cause}
use Rattle.lookahead.specs.declared.Tristate.{Tristate}
use Rattle.rows.specs.Tree.{Forest}
use Rattle.rows.specs.Record.{Record}
use Rattle.grammar.specs.Sheet.{Sheet, token, Out, done, fail, stuck, after_records, and_then, or_else, ◌>>=◌, try}
use Rattle.grammar.specs.Job.{Job, assignment, value, head}
use Rattle.grammar.specs.Arrow.{by_way, choose, noting, arrow_of, assignment_of}
use Rattle.grammar.specs.Step.{read}
use Rattle.laws.specs.Settles.{μ, Settles, looked_at}
use Rattle.grammar.specs.Reading.{way_of, cleared, plain}
use Rattle.laws.proofs.Bounds.{limits, Bound}
use Rattle.laws.proofs.Rel.{Ready, Whatever}
use Rattle.laws.proofs.Steady.{steps_do_not_matter}
use Rattle.agreement.proofs.Asking.{asking}
use Rattle.agreement.proofs.Leads.{open_ended, Halt, halt_fail, halt_dead, Led, both_done, halted, Leads, Near, Stays, forget, lead_test, led_after, arrow_led, led}
use Rattle.agreement.proofs.Heads.{Fails}

-- the plain head fails at a place
pub record HeadFails (sheet : Sheet) (at : ℕ) : Type 0 where
  pub cause : Cause
  pub settles : Settles plain sheet (head at) tt (fail cause tt)

-- sound notes: it fails at each noted place
pub record Sound (sheet : Sheet) (notes : List ℕ) : Type 0 where
  pub with : (at : ℕ) → (get_or notes at 0 ≡ 0 → ⊥) → HeadFails sheet at

-- what fails once fails with any bound on the steps
pub head_fails : (sheet : Sheet) (at steps : ℕ) → μ sheet (head at) ≤ steps → Fails (read plain sheet steps (head at) tt) → HeadFails sheet at
head_fails sheet at steps le f =
    record { cause = f.cause; settles = record { with = λ more le'. steps_do_not_matter plain sheet (head at) (omega arith) tt more steps le' le ∙ f.fails } }

-- a place may be noted where the plain head fails
pub sound_mark : {sheet : Sheet} {notes : List ℕ} (at : ℕ) → Sound sheet notes → HeadFails sheet at → Sound sheet (set notes at 1)
sound_mark {sheet} {notes} at s h = record { with = λ place n. go place n (ℕ_discrete place at) }
  where
    go : (place : ℕ) → (get_or (set notes at 1) place 0 ≡ 0 → ⊥) → Dec (place ≡ at) → HeadFails sheet place
    go place n (yes e) = rw e h
    go place n (no e) = s.with place (λ z. n (get_or-set_other notes at place 1 0 e ∙ z))

all_clear : (size place : ℕ) → ◌≡◌ {A = ℕ} (get_or (replicate size 0) place 0) 0
all_clear zero place = refl
all_clear (suc size) zero = refl
all_clear (suc size) (suc place) = all_clear size place

-- no note is sound
pub sound_cleared : (sheet : Sheet) → Sound sheet cleared
sound_cleared sheet = record { with = λ at n. absurd (n (all_clear 2048 at)) }

-- An answer is right: where it is False the plain head fails; where it is True no use can be made of the plain way past the head: it fails, or is done before a token
-- that nothing allows there.
pub record Right (sheet : Sheet) (answer : ℕ → Tristate) : Type 0 where
  pub false_right : (at : ℕ) → answer at ≡ Tristate.False → HeadFails sheet at
  pub true_right : (at : ℕ) → answer at ≡ Tristate.True → (steps : ℕ) → μ sheet (value at) ≤ steps → Halt sheet true (read plain sheet steps (value at) tt)

-- such a reader fails, with sound notes
pub record FailsSoundly (sheet : Sheet) (out : Out (List ℕ)) : Type 0 where
  pub cause : Cause
  pub after : List ℕ
  pub fails : out ≡ fail cause after
  pub sound : Sound sheet after

module _ (sheet : Sheet) (answer : ℕ → Tristate) (right : Right sheet answer) where
  -- of the notes beside the plain reader, which has none: they are sound
  abbrev pub Sim : Unit {0} → List ℕ → Type 0
  Sim m notes = Sound sheet notes

  stays : Stays sheet Sim (FailsSoundly sheet)
  unfolding and_then after_records
  stays =
      record {
        reading_on = λ next l. record { cause = l.cause; after = l.after; fails = rw l.fails; sound = l.sound };
        recording = λ records l. record { cause = l.cause; after = l.after; fails = rw l.fails; sound = l.sound };
      }

  fails : (cause : Cause) (m : Unit {0}) (notes : List ℕ) → Sim m notes → FailsSoundly sheet (fail cause notes)
  fails cause m notes s = record { cause = cause; after = notes; fails = refl; sound = s }

  module _ (n f f' : ℕ) (l : n ≤ f) (l' : n ≤ f') (h : Near sheet Sim (FailsSoundly sheet) n (read plain sheet f) (read (asking answer) sheet f')) (at : ℕ) (r : Ready sheet 0 (suc n) (assignment at)) where
    -- the plain reader tries the head
    abbrev tried : Out (Unit {0})
    tried = or_else (read plain sheet f (head at) tt) (arrow_of plain sheet (read plain sheet f) at) (noting (plain.mark at) (read plain sheet f (value at)))

    -- to pass, where the plain head fails
    passing : (notes : List ℕ) → Sound sheet notes → HeadFails sheet at → Led sheet Sim (FailsSoundly sheet) true Whatever tried (read (asking answer) sheet f' (value at) notes)
    unfolding or_else noting
    passing notes s k = rw (k.settles.with f (omega arith)) ((forget (h.with (value at) (omega arith))).with tt notes s)

    -- to try
    trying : (notes : List ℕ) → Led sheet Sim (FailsSoundly sheet) false (Bound (limits sheet (head at))) (read plain sheet f (head at) tt) (read (asking answer) sheet f' (head at) notes)
        → Led sheet Sim (FailsSoundly sheet) true Whatever tried
        (or_else (read (asking answer) sheet f' (head at) notes) (arrow_of (asking answer) sheet (read (asking answer) sheet f') at) (noting ((asking answer).mark at) (read (asking answer) sheet f' (value at))))
    unfolding or_else noting
    trying notes (both_done end trees records m m' e e' b s) =
        rw (e, e') (led_after stays records ((arrow_led sheet stays fails h plain (asking answer) at r (record { end = end; trees = trees }) records b).with m m' s))
    trying notes (halted (halt_fail cause m e) k) =
        let failed = head_fails sheet at f (omega arith) (record { cause = cause; after = m; fails = e }) in
        rw (e, k.fails) ((forget (h.with (value at) (omega arith))).with m (set k.after at 1) (sound_mark at k.sound failed))
    trying notes (halted (halt_dead o end trees records m e d) k) = let z : ◌≡◌ {A = ℕ} 0 1 = cc in absurd (omega arith)

    -- to commit, where no use can be made of the way past the head
    committing : (notes : List ℕ) → ((m : Unit {0}) → Halt sheet true (read plain sheet f (value at) m))
        → Led sheet Sim (FailsSoundly sheet) false (Bound (limits sheet (head at))) (read plain sheet f (head at) tt) (read (asking answer) sheet f' (head at) notes)
        → Led sheet Sim (FailsSoundly sheet) true Whatever tried (and_then (read (asking answer) sheet f' (head at) notes) (arrow_of (asking answer) sheet (read (asking answer) sheet f') at))
    unfolding or_else noting and_then
    committing notes v (both_done end trees records m m' e e' b s) =
        rw (e, e') (led_after stays records ((arrow_led sheet stays fails h plain (asking answer) at r (record { end = end; trees = trees }) records b).with m m' s))
    committing notes v (halted (halt_fail cause m e) k) = rw (e, k.fails) (halted (v m) (fails k.cause m k.after k.sound))
    committing notes v (halted (halt_dead o end trees records m e d) k) = let z : ◌≡◌ {A = ℕ} 0 1 = cc in absurd (omega arith)

    ways : (notes : List ℕ) → Sound sheet notes → (told : Tristate) → answer at ≡ told → (noted : Bool) → not (get_or notes at 0 is 0) ≡ noted
        → Led sheet Sim (FailsSoundly sheet) true Whatever tried
        (by_way (way_of told noted) (read (asking answer) sheet f' (value at))
        (try (read (asking answer) sheet f' (head at)) (arrow_of (asking answer) sheet (read (asking answer) sheet f') at) (noting ((asking answer).mark at) (read (asking answer) sheet f' (value at))))
        (read (asking answer) sheet f' (head at) >>= arrow_of (asking answer) sheet (read (asking answer) sheet f') at) notes)
    unfolding by_way way_of try ◌>>=◌
    ways notes s Tristate.False t noted e = passing notes s (right.false_right at t)
    ways notes s Tristate.True t noted e =
        committing notes (λ m. right.true_right at t f (omega arith)) ((h.with (head at) (omega arith)).with tt notes s)
    ways notes s Tristate.Maybe t true e =
        passing notes s (s.with at (λ z. let y : not (get_or notes at 0 is 0) ≡ false = rw (eq-eqb _ _ z) in let x : true ≡ false = sym e ∙ y in let w : ◌≡◌ {A = ℕ} 0 1 = cc in omega arith))
    ways notes s Tristate.Maybe t false e = trying notes ((h.with (head at) (omega arith)).with tt notes s)

    assignment_leads : Leads sheet Sim (FailsSoundly sheet) true Whatever (assignment_of plain sheet (read plain sheet f) at) (assignment_of (asking answer) sheet (read (asking answer) sheet f') at)
    unfolding assignment_of choose by_way try
    assignment_leads =
        lead_test (token sheet at is LParen or token sheet at is Async)
        (λ t. record { with = λ m notes s. ways notes s (answer at) refl (not (get_or notes at 0 is 0)) refl })
        (λ _. forget (h.with (value at) (omega arith)))

  -- THE STATEMENTS
  -- a nonterminal, read plainly and by the reader that asks, from sound notes
  pub follows_plain : (job : Job) → looked_at job ≤ length sheet.kinds → (f f' : ℕ) → μ sheet job ≤ f → μ sheet job ≤ f' → (notes : List ℕ) → Sound sheet notes
      → Led sheet Sim (FailsSoundly sheet) (open_ended job) (Bound (limits sheet job)) (read plain sheet f job tt) (read (asking answer) sheet f' job notes)
  follows_plain job i f f' le le' notes s = led sheet stays fails plain (asking answer) assignment_leads job i f f' le le' tt notes s

  -- sound notes stay sound, where a nonterminal is done and where it fails
  abbrev pub SoundAfter : Out (List ℕ) → Type 0
  SoundAfter (done end trees records after) = Sound sheet after
  SoundAfter (fail cause after) = Sound sheet after
  SoundAfter stuck = ⊥

  pub stays_sound : (job : Job) → looked_at job ≤ length sheet.kinds → (steps : ℕ) → μ sheet job ≤ steps → (notes : List ℕ) → Sound sheet notes
      → SoundAfter (read (asking answer) sheet steps job notes)
  stays_sound job i steps le notes s = go (follows_plain job i steps steps le le notes s)
    where
      go : {x : Out (Unit {0})} {y : Out (List ℕ)} {loose : Bool} → Led sheet Sim (FailsSoundly sheet) loose (Bound (limits sheet job)) x y → SoundAfter y
      go (both_done _ _ _ m m' _ e b k) = rw e k
      go (halted _ k) = rw k.fails k.sound

  -- two outcomes, but for the notes and the cause of a refusal
  pub data Same {N N' : Type 0} (x : Out N) (y : Out N') : Type 0 where
    same_done : (end : ℕ) (trees : Forest) (records : List Record) (m : N) (m' : N') → x ≡ done end trees records m → y ≡ done end trees records m' → Same x y
    same_fail : Fails x → Fails y → Same x y

  -- what a head comes to does not depend on the notes: it is what the plain head comes to
  pub same_head : (at : ℕ) (f f' : ℕ) → μ sheet (head at) ≤ f → μ sheet (head at) ≤ f' → (notes : List ℕ) → Sound sheet notes
      → Same (read plain sheet f (head at) tt) (read (asking answer) sheet f' (head at) notes)
  same_head at f f' le le' notes s = go (follows_plain (head at) (omega arith) f f' le le' notes s)
    where
      go : {x : Out (Unit {0})} {y : Out (List ℕ)} → Led sheet Sim (FailsSoundly sheet) false (Bound (limits sheet (head at))) x y → Same x y
      go (both_done end trees records m m' e e' b k) = same_done end trees records m m' e e'
      go (halted (halt_fail cause m e) k) = same_fail (record { cause = cause; after = m; fails = e }) (record { cause = k.cause; after = k.after; fails = k.fails })
      go (halted (halt_dead o end trees records m e d) k) = let z : ◌≡◌ {A = ℕ} 0 1 = cc in absurd (omega arith)
