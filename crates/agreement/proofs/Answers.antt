-- Demand 3 of the entries. Past the checks 1 to 7, in a list without the early commit, an entry answers Read exactly if the plain reader reads the list; and then both
-- buffers hold what the plain reader reads: its rows and its records, and then 0. With no exception: where an entry answers Read, the plain reader reads that.
-- The statements, at the end: `entry_agrees`, `read_agrees`, `pattern_agrees`, `entry_read`. Assumes nothing.
use Rattle.std.specs.Prelude.{Ok}
use Prim.Native.Nat.{ℕ, ◌≤◌}
use mathlib.Core.Path.{◌≡◌, refl}
use mathlib.Core.List.{List}
use native.Mathlib.Omega.{arith}
use lib.ListN.{length}
use Rattle.tokens.specs.declared.cause.Answer.{Answer}
use Rattle.tokens.specs.declared.cause.Counts.{Counts}
use Rattle.rows.specs.Tree.{Forest, sizes, flats}
use Rattle.rows.specs.Record.{Record, record_words}
use Rattle.grammar.specs.Sheet.{Sheet}
use Rattle.grammar.specs.Job.{Job, expression, binding_element}
use Rattle.grammar.specs.Reading.{Whole, whole, refused, reading, box, plain, cleared, plain_reading, plain_pattern, noted_places}
use Rattle.grammar.specs.Lent.{Given, checks, padded, answered, checked, entry, read_entry, pattern_entry}
use Rattle.laws.specs.Settles.{looked_at}
use Rattle.agreement.specs.Terms.{ReadAs, NoEarly}
use Rattle.agreement.proofs.Agreement.{one_way, other_way}

-- what an entry gives shows these trees and records: Read with their numbers and some number of abandoned heads, their words in the two buffers, and then 0
pub record Shows (given : Given) (rows records : List ℕ) (trees : Forest) (said : List Record) : Type 0 where
  pub abandoned : ℕ
  pub answer : given.answer ≡ Answer.Read (record { rows = sizes trees; records = length said; abandoned = abandoned })
  pub rows_hold : given.rows ≡ padded (flats trees) (length rows)
  pub records_hold : given.records ≡ padded (record_words said) (length records)

-- the plain reader reads the list, and what an entry gives shows just that
pub record ShowsPlain (given : Given) (rows records : List ℕ) (plainly : Whole (Unit {0})) : Type 0 where
  pub trees : Forest
  pub said : List Record
  pub plain_reads : ReadAs plainly trees said
  pub shows : Shows given rows records trees said

module _ (job : Job) (sheet : Sheet) (rows records : List ℕ) (there : looked_at job ≤ length sheet.kinds) (fine : checks sheet rows records ≡ Ok tt) where
  box_shows : {trees : Forest} {said : List Record} → ReadAs (reading (box sheet) sheet job cleared) trees said → Shows (entry job sheet rows records) rows records trees said
  unfolding entry checked answered
  box_shows r = record { abandoned = noted_places r.after; answer = rw (fine, r.is_whole); rows_hold = rw (fine, r.is_whole); records_hold = rw (fine, r.is_whole) }

  -- with no exception: where an entry answers Read, the plain reader reads what it shows
  pub entry_read : (counts : Counts) → (entry job sheet rows records).answer ≡ Answer.Read counts → ShowsPlain (entry job sheet rows records) rows records (reading plain sheet job tt)
  unfolding entry checked answered
  entry_read counts e = go (reading (box sheet) sheet job cleared) refl
    where
      go : (out : Whole (List ℕ)) → reading (box sheet) sheet job cleared ≡ out → ShowsPlain (entry job sheet rows records) rows records (reading plain sheet job tt)
      go (whole trees said notes) w =
          let r : ReadAs (reading (box sheet) sheet job cleared) trees said = record { after = notes; is_whole = w } in
          record { trees = trees; said = said; plain_reads = one_way sheet job there trees said r; shows = box_shows r }
      go (refused cause) w = let f : Answer.Refused cause ≡ Answer.Read counts = rw (fine, w) at e in let z : ◌≡◌ {A = ℕ} 0 1 = cc in absurd (omega arith)

  -- where the plain reader reads, an entry shows that
  pub entry_agrees : NoEarly sheet → (trees : Forest) (said : List Record) → ReadAs (reading plain sheet job tt) trees said → Shows (entry job sheet rows records) rows records trees said
  entry_agrees none trees said r = box_shows (other_way sheet job there none trees said r)

-- the reader's entry and the pattern entry
pub read_agrees : (sheet : Sheet) (rows records : List ℕ) → checks sheet rows records ≡ Ok tt → NoEarly sheet → (trees : Forest) (said : List Record)
    → ReadAs (plain_reading sheet) trees said → Shows (read_entry sheet rows records) rows records trees said
read_agrees sheet rows records fine = entry_agrees (expression 0) sheet rows records (omega arith) fine

pub pattern_agrees : (sheet : Sheet) (rows records : List ℕ) → checks sheet rows records ≡ Ok tt → NoEarly sheet → (trees : Forest) (said : List Record)
    → ReadAs (plain_pattern sheet) trees said → Shows (pattern_entry sheet rows records) rows records trees said
pattern_agrees sheet rows records fine = entry_agrees (binding_element 0) sheet rows records (omega arith) fine
