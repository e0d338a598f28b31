-- Laws of subtrees: the subtree that a row roots is the part of the words that ends there, it is the only one, and it is well-formed
-- where the whole tree is.
-- Assumes nothing.
use Prim.Native.Nat.{ℕ, ◌+◌, ◌-◌, ◌*◌, ◌<◌}
use mathlib.Core.Path.{◌≡◌, refl, sym, ap, ◌∙◌}
use mathlib.Core.Bool.{true}
use mathlib.Core.List.{List, append-nil}
use native.Mathlib.Omega.{arith}
use native.Mathlib.Nat.{zero-add}
use lib.ListN.{take, drop, get_or}
use Rattle.rows.specs.Tree.{Tree, Forest, node, nil, cons, one, join, count, size, sizes, row, flat, flats, kind_of, mark_of, first_of, end_of, kids_of}
use Rattle.rows.specs.Shape.{well_formed, all_well_formed, is_shaped}
use Rattle.rows.specs.Part.{Part, Rooted, subtree, subtree_among}
use Rattle.rows.proofs.Flat.{flats_injective}
use Rattle.rows.proofs.Parts.{part_left, part_right, part_kids, part_root, part_whole, row_at}
use Rattle.rows.proofs.Tests.{by_test, and_left, and_right}

-- the same part, with its bounds said otherwise
pub part_at : {w : List ℕ} {a b c d : ℕ} {ts : Forest} → a ≡ c → b ≡ d → Part w a b ts → Part w c d ts
part_at {w} {a} {b} {c} {d} {ts} p q h =
    record { inside = omega (arith, h.inside); used = omega (arith, h.used); text = ap (λ (x : ℕ). take (6 * sizes ts) (drop (6 * x) w)) (sym p) ∙ h.text }

pub rooted : {w : List ℕ} {a b n : ℕ} {t : Tree} → Part w a b (one t) → b ≡ n + 1 → Rooted w n t
unfolding sizes
rooted h e = record { part = part_at (omega (arith, h.used)) e h }

mutual
  unfolding subtree subtree_among size sizes join

  pub subtree_rooted : (t : Tree) {w : List ℕ} {a b : ℕ} → Part w a b (one t) → (row : ℕ) → row < size t → Rooted w (a + row) (subtree t row)
  subtree_rooted (node kind mark first end kids) {w} {a} {b} h row less =
      by_test (λ (t : Tree). Rooted w (a + row) t) row (sizes kids)
      (λ l. among_rooted kids (part_kids (a + sizes kids) h (omega (arith, h.used))) row l)
      (λ l. rooted h (omega (arith, h.used)))

  among_rooted : (ts : Forest) {w : List ℕ} {a b : ℕ} → Part w a b ts → (row : ℕ) → row < sizes ts → Rooted w (a + row) (subtree_among ts row)
  among_rooted nil h row less = absurd (omega arith)
  among_rooted (cons t ts) {w} {a} {b} h row less =
      by_test (λ (u : Tree). Rooted w (a + row) u) row (size t)
      (λ l. subtree_rooted t (part_left (one t) ts h refl) row l)
      (λ l. let e : a + size t + (row - size t) ≡ a + row = omega arith in rw e at (among_rooted ts (part_right (one t) ts h {b = a + size t} (omega arith)) (row - size t) (omega arith)))

mutual
  unfolding subtree subtree_among size sizes well_formed all_well_formed

  pub subtree_well_formed : (t : Tree) → well_formed t ≡ true → (row : ℕ) → row < size t → well_formed (subtree t row) ≡ true
  subtree_well_formed (node kind mark first end kids) h row less =
      by_test (λ (t : Tree). well_formed t ≡ true) row (sizes kids)
      (λ l. among_well_formed kids (and_right (is_shaped kind kids) (all_well_formed kids) h) row l)
      (λ l. h)

  among_well_formed : (ts : Forest) → all_well_formed ts ≡ true → (row : ℕ) → row < sizes ts → well_formed (subtree_among ts row) ≡ true
  among_well_formed nil h row less = absurd (omega arith)
  among_well_formed (cons t ts) h row less =
      by_test (λ (u : Tree). well_formed u ≡ true) row (size t)
      (λ l. subtree_well_formed t (and_left (well_formed t) (all_well_formed ts) h) row l)
      (λ l. among_well_formed ts (and_right (well_formed t) (all_well_formed ts) h) (row - size t) (omega arith))

-- the words of a tree's root
root_row : {w : List ℕ} {n : ℕ} (t : Tree) → Rooted w n t → row_at w n ≡ row (kind_of t) (mark_of t) (first_of t) (end_of t) (count (kids_of t)) (size t)
unfolding kind_of mark_of first_of end_of kids_of size
root_row {w} {n} (node kind mark first end kids) h = part_root n h.part refl

pub root_kind : {w : List ℕ} {n : ℕ} (t : Tree) → Rooted w n t → get_or w (6 * n + 0) 0 ≡ kind_of t
unfolding row_at
root_kind t h = ap (λ (l : List ℕ). get_or l 0 0) (root_row t h)

pub root_kids : {w : List ℕ} {n : ℕ} (t : Tree) → Rooted w n t → get_or w (6 * n + 4) 0 ≡ count (kids_of t)
unfolding row_at
root_kids t h = ap (λ (l : List ℕ). get_or l 4 0) (root_row t h)

pub root_size : {w : List ℕ} {n : ℕ} (t : Tree) → Rooted w n t → get_or w (6 * n + 5) 0 ≡ size t
unfolding row_at
root_size t h = ap (λ (l : List ℕ). get_or l 5 0) (root_row t h)

-- no other tree is rooted at the row
pub rooted_once : {w : List ℕ} {n : ℕ} {t u : Tree} → Rooted w n t → Rooted w n u → t ≡ u
unfolding sizes
rooted_once {w} {n} {t} {u} g h =
    let e : size t ≡ size u = sym (root_size t g) ∙ root_size u h in
    let same : one t ≡ one u = flats_injective (one t) (one u) (sym g.part.text ∙ ap (λ (s : ℕ). take (6 * (s + 0)) (drop (6 * (n + 1 - s)) w)) e ∙ h.part.text) in
    cc

-- a row of a tree roots its subtree
pub subtree_of : (t : Tree) (n : ℕ) → n < size t → Rooted (flat t) n (subtree t n)
subtree_of t n less = rw zero-add at (subtree_rooted t (part_whole t) n less)

-- and no other tree
pub subtree_once : (t : Tree) (n : ℕ) (u : Tree) → n < size t → Rooted (flat t) n u → u ≡ subtree t n
subtree_once t n u less h = rooted_once h (subtree_of t n less)

-- its words are the part of the words that ends with the row
pub subtree_words : (t : Tree) (n : ℕ) → n < size t → take (6 * size (subtree t n)) (drop (6 * (n + 1 - size (subtree t n))) (flat t)) ≡ flat (subtree t n)
unfolding sizes flats
subtree_words t n less =
    let s : Tree = subtree t n in
    let e : size s ≡ size s + 0 = omega arith in
    ap (λ (x : ℕ). take (6 * x) (drop (6 * (n + 1 - size s)) (flat t))) e ∙ (subtree_of t n less).part.text ∙ append-nil (flat s)
