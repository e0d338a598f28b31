-- Trees, and the rows that a tree is written as: six words a row, the kids before their parent, left to right.
-- Everything that speaks of trees speaks of `Tree`; only `flat` knows words.
use Rattle.std.specs.Prelude.{◌+◌, ◌∷◌, ◌++◌}
use Rattle.tokens.specs.Bool.{ℕ, List, []}

mutual
  pub data Tree : Type 0 where  -- kind, mark, first, end, kids
    node : ℕ → ℕ → ℕ → ℕ → Forest → Tree

  pub data Forest : Type 0 where
    nil : Forest
    cons : Tree → Forest → Forest

abbrev pub one : Tree → Forest
one t = cons t nil

unfoldable pub join : Forest → Forest → Forest  -- two forests, one after the other
join nil us = us
join (cons t ts) us = cons t (join ts us)

unfoldable pub count : Forest → ℕ  -- how many trees
count nil = 0
count (cons t ts) = count ts + 1

-- how many rows: the row and all below it
unfoldable mutual
  pub size : Tree → ℕ
  size (node kind mark first end kids) = sizes kids + 1

  pub sizes : Forest → ℕ
  sizes nil = 0
  sizes (cons t ts) = size t + sizes ts

abbrev pub row : ℕ → ℕ → ℕ → ℕ → ℕ → ℕ → List ℕ  -- the words of a row: kind, mark, first, end, kids, size
row kind mark first end kids size = kind ∷ mark ∷ first ∷ end ∷ kids ∷ size ∷ []

unfoldable mutual
  pub flat : Tree → List ℕ
  flat (node kind mark first end kids) = flats kids ++ row kind mark first end (count kids) (sizes kids + 1)

  pub flats : Forest → List ℕ
  flats nil = []
  flats (cons t ts) = flat t ++ flats ts

unfoldable pub kind_of : Tree → ℕ  -- the words of a tree's root row
kind_of (node kind mark first end kids) = kind

unfoldable pub mark_of : Tree → ℕ
mark_of (node kind mark first end kids) = mark

unfoldable pub first_of : Tree → ℕ
first_of (node kind mark first end kids) = first

unfoldable pub end_of : Tree → ℕ
end_of (node kind mark first end kids) = end

unfoldable pub kids_of : Tree → Forest
kids_of (node kind mark first end kids) = kids
