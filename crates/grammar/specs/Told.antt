-- What the entries for other languages tell, in numbers.
use Rattle.std.specs.Prelude.{◌≡◌, Ok, Err}
use Rattle.rows.specs.Base.{ℕ, List, length, number, place, Answer}
use Rattle.rows.specs.Handed.{Handed}
use Rattle.lookahead.specs.{Entry.ThreeWay, declared.Tristate.Tristate}
use Rattle.conversion.specs.Entry.{Answered}
use Rattle.grammar.specs.{Sheet.sheet_of, Lent.read_entry, Lent.pattern_entry, Lent.Answers}

abbrev pub number_of : Answer → ℕ  -- the number of an answer: 0 for Read, else that of the refusal
number_of (Answer.Read counts) = 0
number_of (Answer.Refused cause) = number cause

abbrev pub first_of : Answer → ℕ  -- the count of rows, or the refusal's place
first_of (Answer.Read counts) = counts.rows
first_of (Answer.Refused cause) = place cause

abbrev pub second_of : Answer → ℕ  -- the count of records, or 0
second_of (Answer.Read counts) = counts.records
second_of (Answer.Refused cause) = 0

abbrev pub third_of : Answer → ℕ  -- the count of abandoned heads, or 0
third_of (Answer.Read counts) = counts.abandoned
third_of (Answer.Refused cause) = 0

pub record Told (answer : Answer) (first second third x : ℕ) : Type 0 where  -- an answer is told by these four numbers
  pub number : x ≡ number_of answer
  pub first_is : first ≡ first_of answer
  pub second_is : second ≡ second_of answer
  pub third_is : third ≡ third_of answer

-- what the reader answers is told, and both buffers hold what it leaves
pub record ToldRead (ks fs r₀ s₀ r s : List ℕ) (first second third x : ℕ) : Type 0 where
  pub answer : Answer
  pub answers : Answers (read_entry (sheet_of ks fs) r₀ s₀) r s answer
  pub told : Told answer first second third x

pub record ToldPattern (ks fs r₀ s₀ r s : List ℕ) (first second third x : ℕ) : Type 0 where  -- the same of the pattern entry
  pub answer : Answer
  pub answers : Answers (pattern_entry (sheet_of ks fs) r₀ s₀) r s answer
  pub told : Told answer first second third x

pub record ToldConvert (t₀ s₀ : List ℕ) (row : ℕ) (t s : List ℕ) (first second third x : ℕ) : Type 0 where  -- the same of conversion
  pub answer : Answer
  pub answers : Answered t₀ s₀ row answer t s
  pub told : Told answer first second third x

abbrev pub three_way_number : ThreeWay → ℕ  -- 0, or the refusal's number
three_way_number (Ok told) = 0
three_way_number (Err cause) = number cause

abbrev pub tristate_number : Tristate → ℕ  -- 0 for False, 1 for True, 2 for Maybe
tristate_number Tristate.False = 0
tristate_number Tristate.True = 1
tristate_number Tristate.Maybe = 2

abbrev pub three_way_told : ThreeWay → ℕ  -- that number, or the refusal's place
three_way_told (Ok answer) = tristate_number answer
three_way_told (Err cause) = place cause

pub record ToldThreeWay (answer : ThreeWay) (told x : ℕ) : Type 0 where
  pub number : x ≡ three_way_number answer
  pub told_is : told ≡ three_way_told answer

pub record ToldSubtree (tree : List ℕ) (row x : ℕ) : Type 0 where  -- as many words as the part that is handed back has
  pub part : List ℕ
  pub handed : Handed tree row part
  pub words : x ≡ length part
