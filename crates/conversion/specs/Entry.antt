-- Conversion as its own entry (RULES X3): for any words, any row and any record buffer, the answer and every word of both buffers after it.
use Rattle.std.specs.Prelude.{◌+◌, ◌-◌, ◌*◌, ◌≤◌, ◌<◌, ◌≡◌, ◌++◌}
use Rattle.rows.specs.Base.{ℕ, List, length, take, drop, replicate, Cause, Answer, Tree, size, flat, record_words}
use Rattle.tokens.specs.declared.cause.Cause.TheVariants.{Length, RecordRoom, Tree as NoTree, Outside}
use Rattle.tokens.specs.declared.cause.Answer.TheVariants.{Read, Refused}
use Rattle.rows.specs.Part.{WellFormed, subtree}
use Rattle.conversion.specs.Conversion.{Outcome, turned, refused, convert}

pub record Result : Type 0 where  -- the answer, and both buffers after it
  pub answer : Answer
  pub words : List ℕ
  pub records : List ℕ

-- a check: where the fact holds the rest decides, and where it fails the result is this one
pub data Check (Fact : Type 0) (failed : Result) (rest : Fact → Result → Type 0) (x : Result) : Type 0 where
  holds : (fact : Fact) → rest fact x → Check Fact failed rest x
  fails : (Fact → ⊥) → x ≡ failed → Check Fact failed rest x

pub record Sized (words : List ℕ) : Type 0 where  -- 1: some words, and not over 12,288
  pub some : 0 < length words
  pub few : length words ≤ 12288

module _ (words records : List ℕ) (row : ℕ) where
  abbrev pub unchanged : Cause → Result  -- refused, it changes no word
  unchanged cause = record { answer = Refused cause; words = words; records = records }

  -- accepted, the rows of the subtree become those of its conversion; the records are written, and the record words past them are 0
  unfoldable pub done : Tree → Outcome Tree → Result
  done t (refused cause) = unchanged cause
  done t (turned t' new) =
      record {
        answer = Read (record { rows = size t; records = length new; abandoned = 0 });
        words = take (6 * (row + 1 - size t)) words ++ (flat t' ++ drop (6 * (row + 1)) words);
        records = record_words new ++ replicate (length records - 2 * length new) 0;
      }

  abbrev pub Within : Tree → Result → Type 0  -- the checks 14 and 4 on a tree, then the conversion of its row to any target
  Within tree =
      Check (row < size tree) (unchanged (Outside 0))
      (λ _. Check (2 * size (subtree tree row) ≤ length records) (unchanged (RecordRoom 0))
      (λ _ x. x ≡ done (subtree tree row) (convert (subtree tree row))))

  abbrev pub Entry : Result → Type 0  -- the checks 1 and 13 before them
  Entry = Check (Sized words) (unchanged (Length 0)) (λ _. Check (WellFormed words) (unchanged (NoTree 0)) (λ whole. Within whole.tree))

pub record Answered (words records : List ℕ) (row : ℕ) (answer : Answer) (words' records' : List ℕ) : Type 0 where  -- what the contract says
  pub is : Entry words records row (record { answer = answer; words = words'; records = records' })
