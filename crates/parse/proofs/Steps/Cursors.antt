-- Where the cursor is after a row or a record was written, and how far a loop moved it.
-- Assumes nothing.
use Prim.Native.Nat.{ℕ, ◌+◌, ◌≤◌}
use mathlib.Core.Path.{◌≡◌, refl}
use mathlib.Core.List.{List}
use lib.ListN.{length}
use Rattle.build.specs.Post.{cursor, Leafed, Topped}
use Rattle.build.specs.declared.cursor.Cursor.{Cursor}

pub record Now (d : Cursor) (at n k : ℕ) : Type 0 where
  pub at_is : d.at ≡ at
  pub rows_is : d.rows ≡ n
  pub records_is : d.records ≡ k

pub now : {d : Cursor} {at n k : ℕ} → d ≡ cursor at n k → Now d at n k
now e = rw e record { at_is = refl; rows_is = refl; records_is = refl }

pub leafed_now : {r₀ r : List ℕ} {c d : Cursor} {kind : ℕ} → Leafed r₀ c kind r d → Now d (c.at + 1) (c.rows + 1) c.records
leafed_now top = now top.is

pub topped_now : {r₀ r : List ℕ} {c d : Cursor} {kind mark first end kids from : ℕ} → Topped r₀ c kind mark first end kids from r d → Now d end (c.rows + 1) c.records
topped_now top = now top.is

-- a loop began at c, and is here, with so many kids: no more rows, records and kids than tokens
pub record Along (ks : List ℕ) (c here : Cursor) (kids : ℕ) : Type 0 where
  pub low : c.at ≤ here.at
  pub high : here.at ≤ length ks
  pub some : c.rows ≤ here.rows
  pub few : here.rows + c.at ≤ c.rows + here.at
  pub said : here.records + c.at ≤ c.records + here.at
  pub number : kids + c.at ≤ here.at + 1
