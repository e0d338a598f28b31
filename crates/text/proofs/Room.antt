-- How long a text can be: no answer that a reading gives has more than 180,244 bytes.
-- Assumes nothing.
use Prim.Native.Nat.{ℕ, zero, suc, ◌+◌, ◌*◌, ◌/◌, ◌%◌, ◌^◌, ◌≤◌, ◌<◌}
use mathlib.Core.Path.{◌≡◌, refl, ap, ◌∙◌}
use mathlib.Core.Bool.{Bool, true, false}
use mathlib.Core.List.{List, [], ◌∷◌, ◌++◌}
use native.Mathlib.Omega.{arith}
use lib.Dec.{ltb}
use lib.ListN.{length, get_or, length-append}
use borrow.Author.Tests.{ltb-true, ltb-false}
use Rattle.tokens.specs.Cause.{number, place}
use Rattle.tokens.specs.declared.cause.Answer.{Answer}
use Rattle.tokens.specs.declared.cause.Cause.{Cause}
use Rattle.tokens.specs.declared.cause.Cause.TheVariants.{Length, FlagLength, RowRoom, RecordRoom, Flag, Kind, Nesting, Unexpected, Target, Spread, RestName, RestLast, Tree, Outside}
use Rattle.tokens.specs.declared.cause.Counts.{Counts}
use Rattle.text.specs.Text.{decimal, space, newline, line, words_from, line_of, lines_from, text}
use Rattle.text.proofs.Decimal.{one_digit, more_digits}
use Rattle.text.proofs.Lines.{line_more, line_last, lines_more, lines_none, line_two, line_three}

-- a number below 10 ^ k has at most k digits
single : (n : ℕ) → n < 10 → length (decimal n) ≡ 1
single n l = ap length (one_digit n l)

several : (n k : ℕ) → 10 ≤ n → length (decimal (n / 10)) ≤ k → length (decimal n) ≤ k + 1
several n k l h = let e = ap length (more_digits n l) ∙ length-append (decimal (n / 10)) ((48 + n % 10) ∷ []) in omega arith

pick : (n k : ℕ) → (10 ≤ n → length (decimal (n / 10)) ≤ k) → (t : Bool) → ltb n 10 ≡ t → length (decimal n) ≤ k + 1
pick n k tenth true e = omega (arith, single n (ltb-true n 10 e))
pick n k tenth false e = let l = ltb-false n 10 e in several n k l (tenth l)

pub digits : (k n : ℕ) → n < 10 ^ suc k → length (decimal n) ≤ suc k
digits zero n l = omega (arith, single n l)
digits (suc k) n l = omega (arith, pick n (suc k) (λ g. digits k (n / 10) (omega arith)) (ltb n 10) refl)

-- words of 32 bits
pub record Words (words : List ℕ) : Type 0 where
  pub each : (i : ℕ) → get_or words i 0 < 2 ^ 32

pub words : {l : List ℕ} → ((i : ℕ) → get_or l i 0 < 2 ^ 32) → Words l
words h = record { each = h }

word_digits : (words : List ℕ) → Words words → (i : ℕ) → length (decimal (get_or words i 0)) ≤ 10
word_digits words h i = digits 9 (get_or words i 0) (omega (arith, h.each i))

-- a line of so many words
line_room : (words : List ℕ) → Words words → (count at : ℕ) → length (line (words_from words at (suc count))) ≤ 11 * suc count
line_room words h zero at =
    let e = ap length (line_last words at) ∙ length-append (decimal (get_or words at 0)) (newline ∷ []) in
    omega (arith, word_digits words h at)
line_room words h (suc count) at =
    let e = ap length (line_more words at count) ∙ length-append (decimal (get_or words at 0) ++ (space ∷ [])) (line (words_from words (at + 1) (suc count))) in
    omega (arith, word_digits words h at, length-append (decimal (get_or words at 0)) (space ∷ []), line_room words h count (at + 1))

lines_room : (words : List ℕ) (width most : ℕ) → ((n : ℕ) → length (line_of words width n) ≤ most) → (count n : ℕ) → length (lines_from words width n count) ≤ count * most
lines_room words width most h zero n = omega (arith, ap length (lines_none words width n))
lines_room words width most h (suc count) n =
    let e = ap length (lines_more words width n count) ∙ length-append (line_of words width n) (lines_from words width (n + 1) count) in
    omega (arith, h n, lines_room words width most h count (n + 1))

rows_room : (rows : List ℕ) → Words rows → (count : ℕ) → length (lines_from rows 6 0 count) ≤ count * 66
rows_room rows h count = lines_room rows 6 66 (λ n. line_room rows h 5 (6 * n)) count 0

records_room : (records : List ℕ) → Words records → (count : ℕ) → length (lines_from records 2 0 count) ≤ count * 22
records_room records h count = lines_room records 2 22 (λ n. line_room records h 1 (2 * n)) count 0

-- a line of two and of three numbers
two_room : (a b k : ℕ) → length (decimal a) ≤ k → length (decimal b) ≤ k → length (line (a ∷ b ∷ [])) ≤ k + k + 2
two_room a b k p q =
    let e = ap length (line_two a b) in
    omega (arith, length-append (decimal a ++ (space ∷ [])) (decimal b ++ (newline ∷ [])), length-append (decimal a) (space ∷ []), length-append (decimal b) (newline ∷ []))

three_room : (a b c k : ℕ) → length (decimal a) ≤ k → length (decimal b) ≤ k → length (decimal c) ≤ k → length (line (a ∷ b ∷ c ∷ [])) ≤ k + k + k + 3
three_room a b c k p q r =
    let e = ap length (line_three a b c) in
    omega (
      arith,
      length-append (decimal a ++ (space ∷ [])) ((decimal b ++ (space ∷ [])) ++ (decimal c ++ (newline ∷ []))),
      length-append (decimal b ++ (space ∷ [])) (decimal c ++ (newline ∷ [])),
      length-append (decimal a) (space ∷ []),
      length-append (decimal b) (space ∷ []),
      length-append (decimal c) (newline ∷ []),
    )

-- what a reading gives: at most 2,048 rows, records and abandoned heads
pub record Few (counts : Counts) : Type 0 where
  pub rows_few : counts.rows ≤ 2048
  pub records_few : counts.records ≤ 2048
  pub abandoned_few : counts.abandoned ≤ 2048

pub read_room : (counts : Counts) (rows records : List ℕ) → Few counts → Words rows → Words records → length (text (Answer.Read counts) rows records) ≤ 180244
unfolding text
read_room counts rows records few r s =
    let head = line (counts.rows ∷ counts.records ∷ counts.abandoned ∷ []) in
    let tree = lines_from rows 6 0 counts.rows in
    let said = lines_from records 2 0 counts.records in
    omega (
      arith,
      few,
      length-append head (tree ++ said),
      length-append tree said,
      three_room counts.rows counts.records counts.abandoned 4 (digits 3 _ (omega (arith, few))) (digits 3 _ (omega (arith, few))) (digits 3 _ (omega (arith, few))),
      rows_room rows r counts.rows,
      records_room records s counts.records,
    )

-- a refusal's number has at most two digits, and its place, a number of the machine, at most 20
number_small : (cause : Cause) → number cause ≤ 14
number_small (Length p) = omega arith
number_small (FlagLength p) = omega arith
number_small (RowRoom p) = omega arith
number_small (RecordRoom p) = omega arith
number_small (Flag p) = omega arith
number_small (Kind p) = omega arith
number_small (Nesting p) = omega arith
number_small (Unexpected p) = omega arith
number_small (Target p) = omega arith
number_small (Spread p) = omega arith
number_small (RestName p) = omega arith
number_small (RestLast p) = omega arith
number_small (Tree p) = omega arith
number_small (Outside p) = omega arith

pub refused_room : (cause : Cause) (rows records : List ℕ) → place cause < 2 ^ 64 → length (text (Answer.Refused cause) rows records) ≤ 50
unfolding text
refused_room cause rows records l =
    omega (arith, two_room (number cause) (place cause) 20 (digits 19 (number cause) (omega (arith, number_small cause))) (digits 19 (place cause) (omega arith)))
