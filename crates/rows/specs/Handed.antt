-- What is handed back of a slice that a caller lent: which part, and where it stands. For the entry that takes a tree and a row: for any words and any row.
use Rattle.std.specs.Prelude.{◌+◌, ◌-◌, ◌*◌, ◌<◌, ◌≡◌}
use Rattle.std.specs.Borrow.{Bor}
use Rattle.rows.specs.Base.{ℕ, List, [], take, drop, Tree, size, flat}
use Rattle.rows.specs.Part.{WellFormed, subtree}

-- A part is the caller's own elements, from one of them on, and no copy: it stands in the same memory, as many elements after the start. An element is so many bytes.
pub record OwnFrom (bytes : ℕ) (lent : Bor (List ℕ)) (from : ℕ) (part : Bor (List ℕ)) : Type 0 where
  pub memory : part.ref_ptr.0 ≡ lent.ref_ptr.0
  pub place : part.ref_ptr.1 ≡ lent.ref_ptr.1 + bytes * from

-- the words are a well-formed tree, and the row is one of its rows: so neither 1, 13 nor 14
pub record Inside (words : List ℕ) (row : ℕ) : Type 0 where
  pub whole : WellFormed words
  pub has_row : row < size whole.tree

abbrev pub chosen : {words : List ℕ} {row : ℕ} → Inside words row → Tree  -- the subtree that the row roots
chosen {words} {row} i = subtree i.whole.tree row

pub data Handed (words : List ℕ) (row : ℕ) (part : List ℕ) : Type 0 where
  -- the part that ends with the row and is as long as the subtree: its words
  own : (i : Inside words row) → part ≡ take (6 * size (chosen i)) (drop (6 * (row + 1 - size (chosen i))) words) → part ≡ flat (chosen i) → Handed words row part
  empty : (Inside words row → ⊥) → part ≡ [] → Handed words row part  -- on 1, 13 or 14 an empty part

-- what the contract says: the words of the part, and that they are the caller's own from the subtree's first row on. On 1, 13 or 14 the empty part stands at the start.
pub record HandedBack (tree : Bor (List ℕ)) (row : ℕ) (part : Bor (List ℕ)) : Type 0 where
  pub words : Handed tree.now row part.now
  pub own_from : (i : Inside tree.now row) → OwnFrom 4 tree (6 * (row + 1 - size (chosen i))) part
  pub none_from : (Inside tree.now row → ⊥) → OwnFrom 4 tree 0 part
