-- The words of the rows that were written last: the root's row stands last, and the row of an only kid just before it.
-- Assumes nothing.
use Prim.Native.Nat.{ℕ, zero, suc, ◌+◌, ◌-◌, ◌*◌, ◌≤◌, ◌<◌}
use mathlib.Core.Path.{◌≡◌, refl, sym, ap, ◌∙◌}
use mathlib.Core.List.{List, [], ◌∷◌, ◌++◌, append-nil, append_assoc}
use native.Mathlib.Omega.{arith}
use lib.ListN.{length, take, get_or, length-append, length-take}
use Rattle.rows.specs.Tree.{Tree, Forest, node, nil, cons, one, count, size, sizes, row, flat, flats, kind_of, mark_of}
use Rattle.rows.specs.Post.{Grown, Word}

-- a list whose beginning is known
cut : (j : ℕ) (l xs ys : List ℕ) (a : ℕ) → take j l ≡ xs ++ (a ∷ ys) → get_or l (length xs) 0 ≡ a
cut zero l xs ys a e = let q = ap length e ∙ length-append xs (a ∷ ys) in absurd (omega arith)
cut (suc j) [] xs ys a e = let q = ap length e ∙ length-append xs (a ∷ ys) in absurd (omega arith)
cut (suc j) (b ∷ l) [] ys a e = cc
cut (suc j) (b ∷ l) (x ∷ xs) ys a e = let q : take j l ≡ xs ++ (a ∷ ys) = cc in cut j l xs ys a q

-- six words a row
mutual
  unfolding flat flats size sizes

  pub length_flat : (t : Tree) → length (flat t) ≡ 6 * size t
  length_flat (node kind mark first end kids) =
      length-append (flats kids) (row kind mark first end (count kids) (sizes kids + 1)) ∙ omega (arith, length_flats kids)

  pub length_flats : (ts : Forest) → length (flats ts) ≡ 6 * sizes ts
  length_flats nil = refl
  length_flats (cons t ts) = length-append (flat t) (flats ts) ∙ omega (arith, length_flat t, length_flats ts)

-- a word of what was added
word_at : {r₀ r : List ℕ} {n d : ℕ} {ts : Forest} → 6 * n ≤ length r₀ → Grown r₀ n r d ts → (i : ℕ) (before after : List ℕ) (a : ℕ) → flats ts ≡ before ++ (a ∷ after)
    → i ≡ 6 * n + length before → get_or r i 0 ≡ a
word_at {r₀} {r} {n} {d} {ts} room g i before after a e p =
    let q = g.text ∙ ap (λ (l : List ℕ). take (6 * n) r₀ ++ l) e ∙ sym (append_assoc (take (6 * n) r₀) before (a ∷ after)) in
    let len = length-append (take (6 * n) r₀) before in
    let len' = length-take (6 * n) r₀ in
    let s : length (take (6 * n) r₀ ++ before) ≡ i = omega arith in
    ap (λ (x : ℕ). get_or r x 0) (sym s) ∙ cut (6 * d) r (take (6 * n) r₀ ++ before) after a q

module _ {r₀ r : List ℕ} {n d : ℕ} where
  -- one tree has a row at least
  pub some_row : {t : Tree} → Grown r₀ n r d (one t) → n < d
  unfolding size sizes
  some_row {t = node kind mark first end kids} g = let u = g.used in omega arith

  pub root_kind : {t : Tree} {x : ℕ} → 6 * n ≤ length r₀ → Grown r₀ n r d (one t) → Word r (d - 1) 0 x → x ≡ kind_of t
  unfolding kind_of flat flats size sizes
  root_kind {t = node kind mark first end kids} room g w =
      let u = g.used in
      let len = length_flats kids in
      w.is ∙ word_at room g _ (flats kids) _ kind (append-nil _) (omega arith)

  pub root_mark : {t : Tree} {x : ℕ} → 6 * n ≤ length r₀ → Grown r₀ n r d (one t) → Word r (d - 1) 1 x → x ≡ mark_of t
  unfolding mark_of flat flats size sizes
  root_mark {t = node kind mark first end kids} room g w =
      let u = g.used in
      let len = length_flats kids in
      let len' = length-append (flats kids) (kind ∷ []) in
      w.is ∙ word_at room g _ (flats kids ++ (kind ∷ [])) _ mark (append-nil _ ∙ sym (append_assoc (flats kids) (kind ∷ []) _)) (omega arith)

  pub two_rows : {k m f e : ℕ} {t : Tree} → Grown r₀ n r d (one (node k m f e (one t))) → n + 2 ≤ d
  unfolding size sizes
  two_rows {t = node kind mark first end kids} g = let u = g.used in omega arith

  -- the only kid of the root
  pub kid_kind : {k m f e : ℕ} {t : Tree} {x : ℕ} → 6 * n ≤ length r₀ → Grown r₀ n r d (one (node k m f e (one t))) → Word r (d - 2) 0 x → x ≡ kind_of t
  unfolding kind_of flat flats size sizes
  kid_kind {k} {m} {f} {e} {t = node kind mark first end kids} room g w =
      let u = g.used in
      let len = length_flats kids in
      let below = row kind mark first end (count kids) (sizes kids + 1) in
      let top = row k m f e (count (one (node kind mark first end kids))) (sizes (one (node kind mark first end kids)) + 1) in
      w.is ∙ word_at room g _ (flats kids) (mark ∷ first ∷ end ∷ count kids ∷ (sizes kids + 1) ∷ top) kind
      (append-nil (((flats kids ++ below) ++ []) ++ top) ∙ ap (λ (l : List ℕ). l ++ top) (append-nil (flats kids ++ below)) ∙ append_assoc (flats kids) below top) (omega arith)
