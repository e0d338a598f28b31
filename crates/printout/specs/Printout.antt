-- What the box prints for the bytes of a file, any bytes at all, and what it leaves in the buffers that it is lent.
use Rattle.std.specs.Prelude.{◌≤◌, ◌≡◌, Option}
use Rattle.rows.specs.Base.{ℕ, List, length}
use Rattle.grammar.specs.{Sheet.sheet_of, Lent.Given, Lent.read_entry}
use Rattle.sheet_file.specs.Layout.{Sheet}
use Rattle.text.specs.{Text.text, Text.bad_file, Post.Prints}

abbrev pub text_of : Given → List ℕ  -- the text of what an entry gives
text_of given = text given.answer given.rows given.records

abbrev pub reading_of : {bytes : List ℕ} → Sheet bytes → List ℕ → List ℕ → Given  -- what the reader gives for the kinds and flags of a sheet's file
reading_of s rows records = read_entry (sheet_of s.kinds s.flags) rows records

-- which text is printed, and what the buffers of the rows and of the records hold then
pub data Shows (bytes rows₀ records₀ text rows records : List ℕ) : Type 0 where
  -- a sheet's file: what the reader gives for it
  reading : (s : Sheet bytes) → text ≡ text_of (reading_of s rows₀ records₀) → rows ≡ (reading_of s rows₀ records₀).rows → records ≡ (reading_of s rows₀ records₀).records
      → Shows bytes rows₀ records₀ text rows records
  no_sheet : (Sheet bytes → ⊥) → text ≡ bad_file → rows ≡ rows₀ → records ≡ records₀ → Shows bytes rows₀ records₀ text rows records  -- any other file

-- the text stands in the lent buffer, as far as it has room, and the answer says how long it is. No text is longer than 180,244 bytes: a first line of 20, and at
-- most 2,048 rows of 66 bytes and as many records of 22
pub record PrintsFile (bytes rows₀ records₀ out₀ rows records out : List ℕ) (answer : Option ℕ) : Type 0 where
  pub text : List ℕ
  pub shows : Shows bytes rows₀ records₀ text rows records
  pub prints : Prints out₀ text out answer
  pub room : length text ≤ 180244
