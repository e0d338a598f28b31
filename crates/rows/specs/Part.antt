-- Which rows of a list of words are a tree or a forest, the subtree that a row roots, and words that are a well-formed tree.
use Rattle.std.specs.Prelude.{◌+◌, ◌-◌, ◌*◌, ◌≤◌, ◌<◌, ◌≡◌, if◌then◌else◌}
use Rattle.rows.specs.Base.{ℕ, List, ltb, length, take, drop, Tree, Forest, node, nil, cons, one, size, sizes, flats, flat, count, kind_of, kids_of, true, Bool, false}
use Rattle.rows.specs.Shape.{well_formed, all_well_formed, all_fit, fits, last_kind}

pub record Part (words : List ℕ) (low high : ℕ) (ts : Forest) : Type 0 where  -- the rows from low on, up to high and without it, are those of ts
  pub inside : 6 * high ≤ length words
  pub used : high ≡ low + sizes ts
  pub text : take (6 * sizes ts) (drop (6 * low) words) ≡ flats ts

pub record Rooted (words : List ℕ) (row : ℕ) (t : Tree) : Type 0 where  -- the row is the root of t, whose rows end there
  pub part : Part words (row + 1 - size t) (row + 1) (one t)

-- the subtree that a row roots; rows count from 0, and the rows of the kids stand before their parent's
unfoldable mutual
  pub subtree : Tree → ℕ → Tree
  subtree (node kind mark first end kids) row = if ltb row (sizes kids) then subtree_among kids row else node kind mark first end kids

  -- of a forest that has no such row, a tree that says nothing
  pub subtree_among : Forest → ℕ → Tree
  subtree_among nil row = node 0 0 0 0 nil
  subtree_among (cons t ts) row = if ltb row (size t) then subtree t row else subtree_among ts (row - size t)

-- Words that are a well-formed tree: listed kinds, right kids and sizes that add up, the rows of one tree whose kids are as the table has them, and no more than
-- 2,048 of them. Mark, first and end are not looked at.
pub record WellFormed (words : List ℕ) : Type 0 where
  pub tree : Tree
  pub text : words ≡ flat tree
  pub shaped : well_formed tree ≡ true
  pub few : size tree ≤ 2048

-- What the check of a tree decides of each row, which only functions inside promise: that it roots a well-formed tree.
pub record Decides (Fact : Type 0) (answer : Bool) : Type 0 where  -- the answer is true if the fact holds, and false if it does not
  pub holds : answer ≡ true → Fact
  pub fails : answer ≡ false → Fact → ⊥

pub record Stands (words : List ℕ) (row : ℕ) : Type 0 where  -- the row roots a well-formed tree
  pub tree : Tree
  pub root : Rooted words row tree
  pub good : well_formed tree ≡ true

pub record Before (words : List ℕ) (row : ℕ) : Type 0 where  -- the row is inside, and each row before it roots a well-formed tree
  pub inside : 6 * row + 6 ≤ length words
  pub stand : (n : ℕ) → n < row → Stands words n

-- the rows from low on, up to row, are well-formed trees, so many, that may stand as the kids of a row of this kind
pub record KidsStand (words : List ℕ) (kind kids low row : ℕ) : Type 0 where
  pub trees : Forest
  pub part : Part words low row trees
  pub number : count trees ≡ kids
  pub good : all_well_formed trees ≡ true
  pub fit : all_fit kind 0 trees ≡ true

pub record LastKind (words : List ℕ) (row x : ℕ) : Type 0 where  -- x is the kind of the last kid of the tree that the row roots, and 0 if it has none
  pub is : (t : Tree) → Rooted words row t → x ≡ last_kind 0 (kids_of t)

-- the answer says whether the tree that the row roots may be a kid of a row of this kind, with so many kids before it and after it
pub record KidFits (words : List ℕ) (row kind before after : ℕ) (answer : Bool) : Type 0 where
  pub is : (t : Tree) → Rooted words row t → answer ≡ fits kind before after (kind_of t) (last_kind 0 (kids_of t))
