-- The checks of a list: the number and the place of each refusal, and what is known where a list passes them.
-- Assumes nothing.
use Rattle.std.specs.Prelude.{if◌then◌else◌, Ok, Err}
use Prim.Native.Nat.{ℕ, zero, suc, ◌+◌, ◌*◌, ◌≤◌}
use mathlib.Core.Path.{◌≡◌, refl, sym}
use mathlib.Core.Bool.{Bool, true, false}
use mathlib.Core.List.{List, [], ◌∷◌}
use native.Mathlib.Omega.{arith}
use lib.Dec.{ltb}
use lib.ListN.{length}
use borrow.Author.Tests.{eqb-true, eqb-false, ltb-false}
use Rattle.tokens.specs.Bool.{◌or◌, ◌is◌}
use Rattle.tokens.specs.Cause.{number, place}
use Rattle.tokens.specs.Check.{Checked, ◌and_then◌, check_length, check_flag_length, first_such, check_flags, check_kinds, depth_after, nesting, check_nesting}
use Rattle.tokens.specs.declared.cause.Cause.{Cause}
use Rattle.lookahead.specs.Entry.{check_place}
use Rattle.grammar.specs.Sheet.{Sheet, sheet_of}
use Rattle.grammar.specs.Lent.{check_room, check_row_room, check_record_room, checks, Ready}

refused_fine : (cause : Cause) → ◌≡◌ {A = Checked} (Err cause) (Ok tt) → ⊥
refused_fine cause e = cc

-- WHAT PASSES
-- a test that refuses nothing, and one that lets pass
refuses_none : (t : Bool) (cause : Cause) → ◌≡◌ {A = Checked} (if t then Err cause else Ok tt) (Ok tt) → t ≡ false
refuses_none true cause e = absurd (refused_fine cause e)
refuses_none false cause e = refl

lets_pass : (t : Bool) (cause : Cause) → ◌≡◌ {A = Checked} (if t then Ok tt else Err cause) (Ok tt) → t ≡ true
lets_pass true cause e = refl
lets_pass false cause e = absurd (refused_fine cause e)

neither : (a b : Bool) → a or b ≡ false → (a ≡ false) × (b ≡ false)
neither true b e = cc
neither false b e = (refl, e)

both_fine : (a b : Checked) → a and_then b ≡ Ok tt → (a ≡ Ok tt) × (b ≡ Ok tt)
both_fine (Ok fine) b e = (refl, e)
both_fine (Err cause) b e = absurd (refused_fine cause e)

-- each check of a list passes
pub record EachFine (sheet : Sheet) (rows records : List ℕ) : Type 0 where
  pub length_fine : check_length sheet.kinds ≡ Ok tt
  pub flag_length_fine : check_flag_length sheet.kinds sheet.flags ≡ Ok tt
  pub row_room_fine : check_row_room sheet.kinds rows ≡ Ok tt
  pub record_room_fine : check_record_room sheet.kinds records ≡ Ok tt
  pub nesting_fine : check_nesting sheet.kinds ≡ Ok tt

pub each_fine : (sheet : Sheet) (rows records : List ℕ) → checks sheet rows records ≡ Ok tt → EachFine sheet rows records
unfolding checks
each_fine sheet rows records e =
    let a = both_fine (check_length sheet.kinds) _ e in
    let b = both_fine (check_flag_length sheet.kinds sheet.flags) _ a.1 in
    let c = both_fine (check_row_room sheet.kinds rows) _ b.1 in
    let d = both_fine (check_record_room sheet.kinds records) _ c.1 in
    let f = both_fine (check_flags sheet.flags) _ d.1 in
    let g = both_fine (check_kinds sheet.kinds) _ f.1 in
    record { length_fine = a.0; flag_length_fine = b.0; row_room_fine = c.0; record_room_fine = d.0; nesting_fine = g.1 }

positive : (n : ℕ) → (n ≡ 0 → ⊥) → 1 ≤ n
positive zero f = absurd (f refl)
positive (suc n) f = omega arith

pub some_tokens : (ks : List ℕ) → check_length ks ≡ Ok tt → 1 ≤ length ks
unfolding check_length
some_tokens ks e = positive (length ks) (eqb-false _ _ (neither (length ks is 0) (ltb 2048 (length ks)) (refuses_none _ (Cause.Length 0) e)).0)

pub short_enough : (ks : List ℕ) → check_length ks ≡ Ok tt → length ks ≤ 2048
unfolding check_length
short_enough ks e = ltb-false _ _ (neither (length ks is 0) (ltb 2048 (length ks)) (refuses_none _ (Cause.Length 0) e)).1

as_long : (ks fs : List ℕ) → check_flag_length ks fs ≡ Ok tt → length fs ≡ length ks
unfolding check_flag_length
as_long ks fs e = eqb-true _ _ (lets_pass (length fs is length ks) (Cause.FlagLength 0) e)

room_enough : (ks words : List ℕ) (each : ℕ) (cause : Cause) → check_room ks words each cause ≡ Ok tt → each * length ks ≤ length words
room_enough ks words each cause e = ltb-false _ _ (refuses_none (ltb (length words) (each * length ks)) cause e)

pub ready : (ks fs r s : List ℕ) → checks (sheet_of ks fs) r s ≡ Ok tt → Ready ks r s
unfolding check_row_room check_record_room
ready ks fs r s e =
    let p = each_fine (sheet_of ks fs) r s e in
    record {
      short = short_enough ks p.length_fine;
      wide = room_enough ks r 6 (Cause.RowRoom 0) p.row_room_fine;
      deep = room_enough ks s 2 (Cause.RecordRoom 0) p.record_room_fine;
    }

-- WHAT REFUSES
-- a refusal of a check: from 1 to high, at one of so many places or at their end
pub record Numbered (most high : ℕ) (cause : Cause) : Type 0 where
  pub from_one : 1 ≤ number cause
  pub to_high : number cause ≤ high
  pub there : place cause ≤ most

-- a check that refuses only so
record Says (most high : ℕ) (x : Checked) : Type 0 where
  says : (cause : Cause) → x ≡ Err cause → Numbered most high cause

module _ {most high : ℕ} where
  says_fine : Says most high (Ok tt)
  says_fine = record { says = λ cause e. absurd (refused_fine cause (sym e)) }

  says_cause : (cause : Cause) → Numbered most high cause → Says most high (Err cause)
  says_cause cause n = record { says = λ other e. let z : cause ≡ other = cc in rw z at n }

  says_if : (t : Bool) {a b : Checked} → Says most high a → Says most high b → Says most high (if t then a else b)
  says_if true f g = f
  says_if false f g = g

  says_then : (a : Checked) {b : Checked} → Says most high a → (a ≡ Ok tt → Says most high b) → Says most high (a and_then b)
  says_then (Ok fine) f g = g refl
  says_then (Err cause) f g = f

  says_such : (test : ℕ → Bool) (cause : ℕ → Cause) → ((p : ℕ) → p ≤ most → Numbered most high (cause p)) → (p : ℕ) (xs : List ℕ) → p + length xs ≤ most → Says most high (first_such test cause p xs)
  unfolding first_such
  says_such test cause at p [] l = says_fine
  says_such test cause at p (x ∷ xs) l = says_if (test x) (says_cause (cause p) (at p (omega arith))) (says_such test cause at (suc p) xs (omega arith))

  says_nesting : 7 ≤ high → (depth p : ℕ) (xs : List ℕ) → p + length xs ≤ most → Says most high (nesting depth p xs)
  unfolding nesting
  says_nesting h depth p [] l = says_fine
  says_nesting h depth p (x ∷ xs) l =
      says_if (ltb 64 (depth_after depth x)) (says_cause (Cause.Nesting p) (record { from_one = omega arith; to_high = omega arith; there = omega arith }))
      (says_nesting h (depth_after depth x) (suc p) xs (omega arith))

  -- the checks whose place is 0
  says_zero : (t : Bool) (cause : Cause) → 1 ≤ number cause → number cause ≤ high → place cause ≡ 0 → Says most high (if t then Err cause else Ok tt)
  says_zero t cause a b z = says_if t (says_cause cause (record { from_one = a; to_high = b; there = omega arith })) says_fine

-- the checks that two entries share, whatever their highest number
module _ {high : ℕ} (six : 6 ≤ high) (ks : List ℕ) where
  says_length : Says (length ks) high (check_length ks)
  unfolding check_length
  says_length = says_zero (length ks is 0 or ltb 2048 (length ks)) (Cause.Length 0) (omega arith) (omega arith) refl

  says_flag_length : (fs : List ℕ) → Says (length ks) high (check_flag_length ks fs)
  unfolding check_flag_length
  says_flag_length fs = says_if (length fs is length ks) says_fine (says_cause (Cause.FlagLength 0) (record { from_one = omega arith; to_high = omega arith; there = omega arith }))

  says_flags : (fs : List ℕ) → length fs ≡ length ks → Says (length ks) high (check_flags fs)
  unfolding check_flags
  says_flags fs e = says_such _ Cause.Flag (λ p l. record { from_one = omega arith; to_high = omega arith; there = l }) 0 fs (omega arith)

  says_kinds : Says (length ks) high (check_kinds ks)
  unfolding check_kinds
  says_kinds = says_such _ Cause.Kind (λ p l. record { from_one = omega arith; to_high = omega arith; there = l }) 0 ks (omega arith)

says_room : (ks words : List ℕ) (each : ℕ) (cause : Cause) → 1 ≤ number cause → number cause ≤ 7 → place cause ≡ 0 → Says (length ks) 7 (check_room ks words each cause)
says_room ks words each = says_zero (ltb (length words) (each * length ks))

says_open : (ks : List ℕ) → Says (length ks) 7 (check_nesting ks)
unfolding check_nesting
says_open ks = says_nesting (omega arith) 0 0 ks (omega arith)

says_place : (ks : List ℕ) (at : ℕ) → Says (length ks) 14 (check_place ks at)
unfolding check_place
says_place ks at = says_if (ltb at (length ks)) says_fine (says_cause (Cause.Outside 0) (record { from_one = omega arith; to_high = omega arith; there = omega arith }))

-- whatever check refuses a list first: 1 to 7, at a place of the list or at its end
pub check_numbers : (sheet : Sheet) (rows records : List ℕ) (cause : Cause) → checks sheet rows records ≡ Err cause → Numbered (length sheet.kinds) 7 cause
unfolding checks check_row_room check_record_room
check_numbers sheet rows records cause e =
    (says_then (check_length sheet.kinds) (says_length (omega arith) sheet.kinds)
    (λ _. says_then (check_flag_length sheet.kinds sheet.flags) (says_flag_length (omega arith) sheet.kinds sheet.flags)
    (λ f. says_then (check_row_room sheet.kinds rows) (says_room sheet.kinds rows 6 (Cause.RowRoom 0) (omega arith) (omega arith) refl)
    (λ _. says_then (check_record_room sheet.kinds records) (says_room sheet.kinds records 2 (Cause.RecordRoom 0) (omega arith) (omega arith) refl)
    (λ _. says_then (check_flags sheet.flags) (says_flags (omega arith) sheet.kinds sheet.flags (as_long sheet.kinds sheet.flags f))
    (λ _. says_then (check_kinds sheet.kinds) (says_kinds (omega arith) sheet.kinds) (λ _. says_open sheet.kinds))))))).says cause e

-- and in the three-way entry: 1 to 14
pub three_way_numbers : (ks fs : List ℕ) (at : ℕ) (cause : Cause)
    → check_length ks and_then check_flag_length ks fs and_then check_flags fs and_then check_kinds ks and_then check_place ks at ≡ Err cause → Numbered (length ks) 14 cause
three_way_numbers ks fs at cause e =
    (says_then (check_length ks) (says_length (omega arith) ks)
    (λ _. says_then (check_flag_length ks fs) (says_flag_length (omega arith) ks fs)
    (λ f. says_then (check_flags fs) (says_flags (omega arith) ks fs (as_long ks fs f))
    (λ _. says_then (check_kinds ks) (says_kinds (omega arith) ks) (λ _. says_place ks at))))).says cause e
