-- P1 to P10 and G1 to G7 of docs/RULES.md of the reader's entry, exact to the last word of both buffers.
-- Assumes nothing.
use Rattle.std.specs.Prelude.{Ok}
use Prim.Native.Nat.{ℕ, ◌+◌, ◌*◌}
use mathlib.Core.Path.{◌≡◌, refl, ap, ◌∙◌}
use mathlib.Core.List.{List, [], ◌∷◌}
use native.Mathlib.Nat.{sub-zero}
use lib.ListN.{length, replicate, length-replicate}
use Rattle.tokens.specs.Check.{check_length, check_flag_length, first_such, check_flags, check_kinds, depth_after, nesting, check_nesting}
use Rattle.grammar.specs.Sheet.{Sheet}
use Rattle.grammar.specs.Reading.{Whole, whole, refused, box_reading, answer_of}
use Rattle.laws.proofs.Sheets as Said
use Rattle.laws.proofs.Sheets.{Case, row_words, said_words, sheet_of, sheets, All}
use Rattle.grammar.specs.Lent.{check_row_room, check_record_room, checks, padded, answered, checked, entry, read_entry}

-- a list that passes the checks is read
past_checks : (sheet : Sheet) (rows records : List ℕ) → checks sheet rows records ≡ Ok tt → read_entry sheet rows records ≡ answered rows records (box_reading sheet)
unfolding entry checked
past_checks sheet rows records fine = rw fine

-- both buffers hold the words of what was read, and then 0
words_and_zeros : (rows records : List ℕ) (read : Whole (List ℕ)) → answered rows records read
    ≡ record { answer = answer_of read; rows = padded (row_words read) (length rows); records = padded (said_words read) (length records) }
unfolding answered padded
words_and_zeros rows records (whole trees said notes) = refl
words_and_zeros rows records (refused cause) = rw (sub-zero (length rows), sub-zero (length records))

-- two words more than asked are lent for each buffer, all 7
abbrev pub rows_lent : Case → List ℕ
rows_lent case = replicate (6 * length case.kinds + 2) 7

abbrev pub records_lent : Case → List ℕ
records_lent case = replicate (2 * length case.kinds + 2) 7

-- a case gives its answer, and its words and then 0
abbrev pub Holds : Case → Type 0
Holds case =
    let tokens = length case.kinds in
    read_entry (sheet_of case) (rows_lent case) (records_lent case)
    ≡ record { answer = case.answer; rows = padded case.rows (6 * tokens + 2); records = padded case.records (2 * tokens + 2) }

-- the case passes the checks
abbrev Passes : Case → Type 0
Passes case = checks (sheet_of case) (rows_lent case) (records_lent case) ≡ Ok tt

passes : All Passes sheets
unfolding checks check_row_room check_record_room check_length check_flag_length first_such check_flags check_kinds depth_after nesting check_nesting
passes = (refl, (refl, (refl, (refl, (refl, (refl, (refl, (refl, (refl, (refl, (refl, (refl, (refl, (refl, (refl, (refl, (refl, tt)))))))))))))))))

holds : (case : Case) → Passes case → Said.Holds case → Holds case
holds case fine same =
    let tokens = length case.kinds in
    let wide = length-replicate {A = ℕ} (6 * tokens + 2) 7 in
    let deep = length-replicate {A = ℕ} (2 * tokens + 2) 7 in
    past_checks (sheet_of case) (rows_lent case) (records_lent case) fine
    ∙ words_and_zeros _ _ (box_reading (sheet_of case))
    ∙ rw (wide, deep) (ap (λ (c : Case). record { answer = c.answer; rows = padded c.rows (6 * tokens + 2); records = padded c.records (2 * tokens + 2) }) same)

all_hold : (cases : List Case) → All Passes cases → All Said.Holds cases → All Holds cases
all_hold [] fine same = tt
all_hold (case ∷ cases) fine same = (holds case fine.0 same.0, all_hold cases fine.1 same.1)

pub sheets_hold : All Holds sheets
sheets_hold = all_hold sheets passes Said.sheets_hold
