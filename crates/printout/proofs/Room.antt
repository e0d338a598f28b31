-- The text of what the reader gives has at most 180,244 bytes.
-- Assumes nothing.
use Rattle.std.specs.Prelude.{Ok, Err}
use Rattle.std.proofs.Common.{◌≡◌, ℕ, suc, ◌≤◌, List, [], ◌∷◌, length, get_or, refl, sym, ap, ◌∙◌, arith}
use Rattle.tokens.specs.{Cause.place, Check.Checked, declared.cause.Answer.Answer, declared.cause.Cause.Cause, declared.cause.Counts.Counts}
use Rattle.rows.specs.Tree.{sizes}
use Rattle.grammar.specs.{Job.expression, Sheet.sheet_of}
use Rattle.grammar.specs.Reading.{Whole, whole, refused, reading, box, cleared, noted_places}
use Rattle.grammar.specs.Lent.{checks, answered, checked, entry, read_entry}
use Rattle.grammar.proofs.Checked.{ready, check_numbers}
use Rattle.laws.proofs.Bounds as Bounds
use Rattle.laws.proofs.Places as Places
use Rattle.laws.proofs.Abandoned as Abandoned
use Rattle.text.specs.Text.{text}
use Rattle.text.proofs.Room.{Words, Few, read_room, refused_room}

-- no more places are noted than there are notes
noted_few : (notes : List ℕ) → ((i : ℕ) → get_or notes i 0 ≤ 1) → noted_places notes ≤ length notes
unfolding noted_places
noted_few [] h = omega arith
noted_few (note ∷ notes) h = omega (arith, h 0, noted_few notes (λ i. h (suc i)))

-- what is read has at most 2,048 rows, records and abandoned heads
few_by : (ks fs r s : List ℕ) (x : Checked) (w : Whole (List ℕ)) → checks (sheet_of ks fs) r s ≡ x → reading (box (sheet_of ks fs)) (sheet_of ks fs) (expression 0) cleared ≡ w
    → (counts : Counts) → (checked r s x (answered r s w)).answer ≡ Answer.Read counts → Few counts
unfolding checked answered
few_by ks fs r s (Err cause) w e f counts g = let z : ◌≡◌ {A = ℕ} 0 1 = cc in absurd (omega arith)
few_by ks fs r s (Ok tt) (refused cause) e f counts g = let z : ◌≡◌ {A = ℕ} 0 1 = cc in absurd (omega arith)
few_by ks fs r s (Ok tt) (whole trees said notes) e f counts g =
    let few = (ready ks fs r s e).short in
    let room = Bounds.room (box (sheet_of ks fs)) (sheet_of ks fs) cleared f in
    let fine = Abandoned.notes_stay_whole (sheet_of ks fs) (expression 0) (omega arith) f in
    let z : record { rows = sizes trees; records = length said; abandoned = noted_places notes } ≡ counts = cc in
    record {
      rows_few = omega (arith, few, room.rows, ap (λ (c : Counts). c.rows) z);
      records_few = omega (arith, few, room.records_too, ap (λ (c : Counts). c.records) z);
      abandoned_few = omega (arith, fine.long, noted_few notes fine.each, ap (λ (c : Counts). c.abandoned) z);
    }

pub few : (ks fs r s : List ℕ) (counts : Counts) → (read_entry (sheet_of ks fs) r s).answer ≡ Answer.Read counts → Few counts
unfolding entry
few ks fs r s counts e = few_by ks fs r s _ _ refl refl counts e

-- a refusal's place is one of the list, or its end
low_by : (ks fs r s : List ℕ) (x : Checked) (w : Whole (List ℕ)) → checks (sheet_of ks fs) r s ≡ x → reading (box (sheet_of ks fs)) (sheet_of ks fs) (expression 0) cleared ≡ w
    → length ks ≤ 4096 → (cause : Cause) → (checked r s x (answered r s w)).answer ≡ Answer.Refused cause → place cause ≤ 4096
unfolding checked answered
low_by ks fs r s (Err other) w e f k cause g =
    let z : other ≡ cause = cc in
    omega (arith, (check_numbers (sheet_of ks fs) r s other e).there, ap place z)
low_by ks fs r s (Ok tt) (refused other) e f k cause g =
    let z : other ≡ cause = cc in
    omega (arith, (Places.refusal_inside (box (sheet_of ks fs)) (sheet_of ks fs) cleared f).there, ap place z)
low_by ks fs r s (Ok tt) (whole trees said notes) e f k cause g = let z : ◌≡◌ {A = ℕ} 0 1 = cc in absurd (omega arith)

pub low_place : (ks fs r s : List ℕ) → length ks ≤ 4096 → (cause : Cause) → (read_entry (sheet_of ks fs) r s).answer ≡ Answer.Refused cause → place cause ≤ 4096
unfolding entry
low_place ks fs r s k cause e = low_by ks fs r s _ _ refl refl k cause e

-- so its text is short
by_answer : (x : Answer) (rows records : List ℕ) → ((counts : Counts) → x ≡ Answer.Read counts → Few counts) → ((cause : Cause) → x ≡ Answer.Refused cause → place cause ≤ 4096)
    → Words rows → Words records → length (text x rows records) ≤ 180244
by_answer (Answer.Read counts) rows records f g r s = read_room counts rows records (f counts refl) r s
by_answer (Answer.Refused cause) rows records f g r s = omega (arith, refused_room cause rows records (omega (arith, g cause refl)))

pub reading_room : (ks fs r₀ s₀ : List ℕ) (x : Answer) (r s : List ℕ) → length ks ≤ 4096 → x ≡ (read_entry (sheet_of ks fs) r₀ s₀).answer → Words r → Words s
    → length (text x r s) ≤ 180244
reading_room ks fs r₀ s₀ x r s k e =
    by_answer x r s (λ counts f. few ks fs r₀ s₀ counts (sym e ∙ f)) (λ cause f. low_place ks fs r₀ s₀ k cause (sym e ∙ f))
