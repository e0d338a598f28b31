-- What the contracts inside the entries say: the room that is checked, the last pass for record 8, and the end of a reading.
-- ks are the kinds; r, s and m the words of the rows, of the records, and the notes.
use Rattle.std.specs.Prelude.{◌+◌, ◌*◌, ◌≤◌, ◌≡◌, ◌∷◌, ◌++◌, if◌then◌else◌, Ok, Err}
use Rattle.rows.specs.Base.{ℕ, zero, suc, List, [], length, get_or, ◌is◌, Cause, Answer, Checked, Forest, Record, shorthand_initializer}
use Rattle.rows.specs.Post.{Cleared, Grown, GrownRecords}
use Rattle.grammar.specs.{Sheet.sheet_of, Sheet.Out, Sheet.done, Sheet.fail, Reading.unconverteds, Reading.at_end, Lent.checks, Lent.answered, Lent.Answers}
use Rattle.laws.specs.Promises.{Fine}
use Rattle.build.specs.{declared.cursor.Cursor.Cursor, Post.Step}
use Rattle.rows.specs.Row as Row

abbrev pub word : List ℕ → ℕ → ℕ → ℕ  -- a word of the row n
word r n at = get_or r (6 * n + at) 0

unfoldable pub unconverted_row : List ℕ → ℕ → List Record  -- record 8 of the row n
unconverted_row r n = if word r n 0 is Row.ShorthandInit then shorthand_initializer (word r n 1) ∷ [] else []

unfoldable pub unconverted_rows : List ℕ → ℕ → ℕ → List Record  -- and of the n rows from a row on
unconverted_rows r from zero = []
unconverted_rows r from (suc n) = unconverted_rows r from n ++ unconverted_row r (from + n)

-- the row n is inside, and in so many words its record, if it has one, has room after the first k
pub record LastRowRoom (r : List ℕ) (words n k : ℕ) : Type 0 where
  pub inside : 6 * n + 6 ≤ length r
  pub small : k ≤ 2048
  pub room : 2 * (k + length (unconverted_row r n)) ≤ words

-- the first n rows are inside, and in so many words the records of the last pass over them have room after the first k
pub record LastRoom (r : List ℕ) (words n k : ℕ) : Type 0 where
  pub inside : 6 * n ≤ length r
  pub few : n ≤ 2048
  pub small : k + length (unconverted_rows r 0 n) ≤ 2048
  pub room : 2 * (k + length (unconverted_rows r 0 n)) ≤ words

pub record Checks (ks fs r s : List ℕ) (x : Checked) : Type 0 where  -- what the checks find
  pub found : x ≡ checks (sheet_of ks fs) r s

pub record Within (tokens : ℕ) (notes : List ℕ) : Type 0 where  -- no place past so many tokens is noted
  pub past : (place : ℕ) → tokens ≤ place → get_or notes place 0 ≡ 0

-- a reading is done: its rows and its records stand from the first words on, with room for those of the last pass
pub record DoneTo (ks r s m : List ℕ) (d : Cursor) (out : Out (List ℕ)) : Type 0 where
  pub trees : Forest
  pub said : List Record
  pub outcome : out ≡ done d.at trees said m
  pub rows : Grown r 0 r d.rows trees
  pub records : GrownRecords s 0 s d.records said
  pub few : d.rows ≤ length ks
  pub paid : d.records + length (unconverteds trees) ≤ length ks
  pub fine : Fine m
  pub within : Within (length ks) m

pub record Came (ks r s m : List ℕ) (got : Step) (out : Out (List ℕ)) : Type 0 where  -- a step is what a reading came to
  pub done_to : (d : Cursor) → got ≡ Ok d → DoneTo ks r s m d out
  pub fail_at : (cause : Cause) → got ≡ Err cause → out ≡ fail cause m

pub record CameOut (ks r s m : List ℕ) (got : Step) : Type 0 where
  pub out : Out (List ℕ)
  pub came : Came ks r s m got out

-- both buffers are all 0, and the answer is this refusal
pub record Emptied (r₀ s₀ : List ℕ) (cause : Cause) (r s : List ℕ) (x : Answer) : Type 0 where
  pub rows : Cleared r₀ 0 r
  pub records : Cleared s₀ 0 s
  pub answer : x ≡ Answer.Refused cause

-- whatever it came to: the answer, and both buffers, are as the definition has them at the end
pub record Finished (ks r₀ s₀ m : List ℕ) (got : Step) (r s : List ℕ) (x : Answer) : Type 0 where
  pub answers : (out : Out (List ℕ)) → Came ks r₀ s₀ m got out → Answers (answered r₀ s₀ (at_end (length ks) out)) r s x
