-- What the contracts of the leaves say: a row or a record was written, a word was read, the rest was cleared. And what a run of
-- writes leaves: rows or records were added after the first ones, or the first ones are as they were.
use Rattle.std.specs.Prelude.{◌+◌, ◌-◌, ◌*◌, ◌^◌, ◌≤◌, ◌<◌, ◌≡◌, ◌∷◌, ◌++◌}
use Rattle.rows.specs.Base.{ℕ, List, [], length, take, drop, set, get_or, replicate, Forest, sizes, flats, row, Record, record_words}

pub record RowFits (words n mark first end kids size : ℕ) : Type 0 where  -- in so many words the row n has room, and each of its words fits
  pub room : 6 * n + 6 ≤ words
  pub mark_fits : mark < 2 ^ 32
  pub first_fits : first < 2 ^ 32
  pub end_fits : end < 2 ^ 32
  pub kids_fits : kids < 2 ^ 32
  pub size_fits : size < 2 ^ 32

-- the row n was written after the rows before it, and no word past it
pub record Pushed (r₀ : List ℕ) (n kind mark first end kids size : ℕ) (r : List ℕ) : Type 0 where
  pub text : take (6 * (n + 1)) r ≡ take (6 * n) r₀ ++ row kind mark first end kids size
  pub rest : drop (6 * (n + 1)) r ≡ drop (6 * (n + 1)) r₀

pub record RecordFits (words n place : ℕ) : Type 0 where  -- in so many words the record n has room, and its place fits
  pub room : 2 * n + 2 ≤ words
  pub place_fits : place < 2 ^ 32

-- the record n was written after the records before it, and no word past it
pub record PushedRecord (r₀ : List ℕ) (n number place : ℕ) (r : List ℕ) : Type 0 where
  pub text : take (2 * (n + 1)) r ≡ take (2 * n) r₀ ++ (number ∷ place ∷ [])
  pub rest : drop (2 * (n + 1)) r ≡ drop (2 * (n + 1)) r₀

-- x is a word of the row n: 0 kind, 1 mark, 2 first, 3 end, 4 kids, 5 size; past the end it reads as 0
pub record Word (r : List ℕ) (n word x : ℕ) : Type 0 where
  pub is : x ≡ get_or r (6 * n + word) 0

pub record RowInside (words n : ℕ) : Type 0 where  -- the row n is inside
  pub room : 6 * n + 6 ≤ words

pub record KindSet (r₀ : List ℕ) (n kind : ℕ) (r : List ℕ) : Type 0 where  -- the kind of the row n was changed, and no other word
  pub text : r ≡ set r₀ (6 * n) kind

pub record Cleared (r₀ : List ℕ) (from : ℕ) (r : List ℕ) : Type 0 where  -- the words from a place on are 0, and those before it are as they were
  pub text : r ≡ take from r₀ ++ replicate (length r₀ - from) 0

pub record Grown (r₀ : List ℕ) (n₀ : ℕ) (r : List ℕ) (n : ℕ) (ts : Forest) : Type 0 where  -- from n₀ rows to n the rows of ts were added
  pub used : n ≡ n₀ + sizes ts
  pub text : take (6 * n) r ≡ take (6 * n₀) r₀ ++ flats ts

pub record Kept (r₀ : List ℕ) (n₀ : ℕ) (r : List ℕ) : Type 0 where  -- the first n₀ rows are as they were
  pub text : take (6 * n₀) r ≡ take (6 * n₀) r₀

pub record GrownRecords (r₀ : List ℕ) (n₀ : ℕ) (r : List ℕ) (n : ℕ) (records : List Record) : Type 0 where  -- from n₀ records to n these were added
  pub used : n ≡ n₀ + length records
  pub text : take (2 * n) r ≡ take (2 * n₀) r₀ ++ record_words records

pub record KeptRecords (r₀ : List ℕ) (n₀ : ℕ) (r : List ℕ) : Type 0 where  -- the first n₀ records are as they were
  pub text : take (2 * n₀) r ≡ take (2 * n₀) r₀
