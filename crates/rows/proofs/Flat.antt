-- Laws of flat trees: how long the words are, and that they are the words of one tree only.
-- Assumes nothing.
use Prim.Native.Nat.{ℕ, zero, suc, ◌+◌, ◌*◌, ◌<◌}
use mathlib.Core.Path.{◌≡◌, refl, sym, ap, ◌∙◌}
use mathlib.Core.List.{List, [], ◌∷◌, ◌++◌, append-nil, append_assoc}
use native.Mathlib.Omega.{arith}
use native.Mathlib.Nat.{zero-add}
use lib.ListN.{length, length-append}
use Rattle.rows.specs.Tree.{Tree, Forest, node, nil, cons, one, join, count, size, sizes, row, flat, flats}
use Rattle.rows.specs.Part.{WellFormed}
use Rattle.rows.proofs.Rows.{join_nil}

mutual
  unfolding flat flats size sizes

  pub length_flat : (t : Tree) → length (flat t) ≡ 6 * size t
  length_flat (node kind mark first end kids) =
      length-append (flats kids) (row kind mark first end (count kids) (sizes kids + 1))
      ∙ (let e : length (flats kids) ≡ 6 * sizes kids = length_flats kids in omega arith)

  pub length_flats : (ts : Forest) → length (flats ts) ≡ 6 * sizes ts
  length_flats nil = refl
  length_flats (cons t ts) =
      length-append (flat t) (flats ts)
      ∙ (let e : length (flat t) ≡ 6 * size t = length_flat t in let d : length (flats ts) ≡ 6 * sizes ts = length_flats ts in omega arith)

-- a tree has a row
pub some_row : (t : Tree) → 0 < size t
unfolding size
some_row (node kind mark first end kids) = omega arith

-- the forest in which the trees of ts stand in reverse before those of us
turned : Forest → Forest → Forest
turned nil us = us
turned (cons t ts) us = turned ts (cons t us)

turned_turned : (ts us vs : Forest) → turned (turned ts us) vs ≡ turned us (join ts vs)
unfolding turned join
turned_turned nil us vs = refl
turned_turned (cons t ts) us vs = turned_turned ts (cons t us) vs

turned_back : (ts : Forest) → turned (turned ts nil) nil ≡ ts
unfolding turned
turned_back ts = turned_turned ts nil nil ∙ join_nil ts

-- n trees are moved from the front of one forest to the front of another
record Moved : Type 0 where
  from : Forest
  to : Forest

moved : ℕ → Forest → Forest → Moved
moved zero from to = record { from = from; to = to }
moved (suc n) nil to = record { from = nil; to = to }
moved (suc n) (cons t ts) to = moved n ts (cons t to)

moved_turned : (ts us vs : Forest) (m n : ℕ) → n ≡ count ts + m → moved n (turned ts us) vs ≡ moved m us (join ts vs)
unfolding moved turned count join
moved_turned nil us vs m n e = ap (λ (x : ℕ). moved x us vs) (e ∙ zero-add m)
moved_turned (cons t ts) us vs m n e = moved_turned ts (cons t us) vs (suc m) n (omega arith)

moved_all : (ts us : Forest) → moved (count ts) (turned ts us) nil ≡ record { from = us; to = ts }
unfolding moved
moved_all ts us = moved_turned ts us nil 0 (count ts) (omega arith) ∙ ap (λ (x : Forest). record { from = us; to = x }) (join_nil ts)

-- reading the rows from the front, with the trees so far, the last first
built : List ℕ → Forest → Forest
built [] so_far = so_far
built (kind ∷ []) so_far = so_far
built (kind ∷ mark ∷ []) so_far = so_far
built (kind ∷ mark ∷ first ∷ []) so_far = so_far
built (kind ∷ mark ∷ first ∷ end ∷ []) so_far = so_far
built (kind ∷ mark ∷ first ∷ end ∷ kids ∷ []) so_far = so_far
built (kind ∷ mark ∷ first ∷ end ∷ kids ∷ size ∷ words) so_far =
    let m = moved kids so_far nil in
    built words (cons (node kind mark first end m.to) m.from)

mutual
  unfolding flat flats turned built

  built_flat : (t : Tree) (words : List ℕ) (so_far : Forest) → built (flat t ++ words) so_far ≡ built words (cons t so_far)
  built_flat (node kind mark first end kids) words so_far =
      let l : List ℕ = row kind mark first end (count kids) (sizes kids + 1) ++ words in
      ap (λ (x : List ℕ). built x so_far) (append_assoc (flats kids) (row kind mark first end (count kids) (sizes kids + 1)) words)
      ∙ built_flats kids l so_far
      ∙ ap (λ (m : Moved). built words (cons (node kind mark first end m.to) m.from)) (moved_all kids so_far)

  built_flats : (ts : Forest) (words : List ℕ) (so_far : Forest) → built (flats ts ++ words) so_far ≡ built words (turned ts so_far)
  built_flats nil words so_far = refl
  built_flats (cons t ts) words so_far =
      ap (λ (x : List ℕ). built x so_far) (append_assoc (flat t) (flats ts) words)
      ∙ built_flat t (flats ts ++ words) so_far
      ∙ built_flats ts words (cons t so_far)

-- words are the words of one forest only
pub flats_injective : (ts us : Forest) → flats ts ≡ flats us → ts ≡ us
unfolding built turned
flats_injective ts us e =
    let read : (vs : Forest) → built (flats vs) nil ≡ turned vs nil = λ vs. ap (λ (x : List ℕ). built x nil) (sym (append-nil (flats vs))) ∙ built_flats vs [] nil in
    let same : turned ts nil ≡ turned us nil = sym (read ts) ∙ ap (λ (x : List ℕ). built x nil) e ∙ read us in
    sym (turned_back ts) ∙ ap (λ (x : Forest). turned x nil) same ∙ turned_back us

-- and of one tree only
pub flat_injective : (t u : Tree) → flat t ≡ flat u → t ≡ u
unfolding flats
flat_injective t u e =
    let same : one t ≡ one u = flats_injective (one t) (one u) (ap (λ (x : List ℕ). x ++ []) e) in
    cc

-- so a list of words has at most one well-formed tree
pub well_formed_once : {words : List ℕ} (v w : WellFormed words) → v.tree ≡ w.tree
well_formed_once v w = flat_injective v.tree w.tree (sym v.text ∙ w.text)

-- how long a well-formed tree is
pub long : {w : List ℕ} (v : WellFormed w) → length w ≡ 6 * size v.tree
long v = ap length v.text ∙ length_flat v.tree
