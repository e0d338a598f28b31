-- Laws of parts: the rows of a forest among words, joined and taken apart, and the words of a root's row.
-- Assumes nothing.
use Prim.Native.Nat.{ℕ, ◌+◌, ◌*◌, ◌≤◌}
use mathlib.Core.Path.{◌≡◌, refl, sym, ap, ◌∙◌}
use mathlib.Core.List.{List, [], ◌∷◌, ◌++◌, append-nil}
use native.Mathlib.Omega.{arith}
use lib.ListN.{length, take, drop, get_or, length-drop}
use native.Mathlib.Nat.{not-suc-le-zero, le_of_suc-le-suc}
use lib.Seq.{take-add, drop-drop, take_at, drop_at, get_or-drop, length-take-le, take-length}
use Rattle.rows.specs.Tree.{Tree, Forest, node, nil, one, join, count, size, sizes, row, flat, flats}
use Rattle.rows.specs.Part.{Part}
use Rattle.rows.proofs.Rows.{sizes_join, flats_join}
use Rattle.rows.proofs.Flat.{length_flat, length_flats}

pub part_none : (w : List ℕ) (n : ℕ) → 6 * n ≤ length w → Part w n n nil
unfolding sizes flats
part_none w n h = record { inside = h; used = omega arith; text = refl }

-- the words of two parts, one after the other
seam : (w : List ℕ) (low a b : ℕ) → take (6 * (a + b)) (drop (6 * low) w) ≡ take (6 * a) (drop (6 * low) w) ++ take (6 * b) (drop (6 * (low + a)) w)
seam w low a b =
    let e : 6 * (a + b) ≡ 6 * a + 6 * b = omega arith in
    let d : 6 * low + 6 * a ≡ 6 * (low + a) = omega arith in
    ap (λ (x : ℕ). take x (drop (6 * low) w)) e
    ∙ take-add (6 * a) (6 * b) (drop (6 * low) w)
    ∙ ap (λ (x : List ℕ). take (6 * a) (drop (6 * low) w) ++ take (6 * b) x) (drop-drop (6 * a) (6 * low) w ∙ ap (λ (x : ℕ). drop x w) d)

pub part_join : {w : List ℕ} {a b c : ℕ} {ts us : Forest} → Part w a b ts → Part w b c us → Part w a c (join ts us)
part_join {w} {a} {b} {c} {ts} {us} g h =
    record {
      inside = h.inside;
      used = omega (arith, sizes_join ts us);
      text =
          ap (λ (x : ℕ). take (6 * x) (drop (6 * a) w)) (sizes_join ts us)
          ∙ seam w a (sizes ts) (sizes us)
          ∙ ap (λ (x : ℕ). take (6 * sizes ts) (drop (6 * a) w) ++ take (6 * sizes us) (drop (6 * x) w)) (sym g.used)
          ∙ ap (λ (x : List ℕ). x ++ take (6 * sizes us) (drop (6 * b) w)) g.text
          ∙ ap (λ (x : List ℕ). flats ts ++ x) h.text
          ∙ sym (flats_join ts us);
    }

-- of two lists that are the same, one after the other, and whose fronts have the same length
front_same : (xs ys us vs : List ℕ) → length xs ≡ length us → xs ++ ys ≡ us ++ vs → xs ≡ us
front_same xs ys us vs e p = sym (take_at xs ys (length us) e) ∙ ap (take (length us)) p ∙ take_at us vs (length us) refl

back_same : (xs ys us vs : List ℕ) → length xs ≡ length us → xs ++ ys ≡ us ++ vs → ys ≡ vs
back_same xs ys us vs e p = sym (drop_at xs ys (length us) e) ∙ ap (drop (length us)) p ∙ drop_at us vs (length us) refl

module _ (ts us : Forest) {w : List ℕ} {a c : ℕ} (h : Part w a c (join ts us)) where
  halves : take (6 * sizes ts) (drop (6 * a) w) ++ take (6 * sizes us) (drop (6 * (a + sizes ts)) w) ≡ flats ts ++ flats us
  halves =
      sym (seam w a (sizes ts) (sizes us))
      ∙ ap (λ (x : ℕ). take (6 * x) (drop (6 * a) w)) (sym (sizes_join ts us))
      ∙ h.text
      ∙ flats_join ts us

  front_long : length (take (6 * sizes ts) (drop (6 * a) w)) ≡ length (flats ts)
  front_long = length-take-le (6 * sizes ts) (drop (6 * a) w) (rw (length-drop (6 * a) w) (omega (arith, sizes_join ts us))) ∙ sym (length_flats ts)

  -- a part is taken apart where its forest is
  pub part_left : {b : ℕ} → b ≡ a + sizes ts → Part w a b ts
  part_left e = record { inside = omega (arith, sizes_join ts us); used = e; text = front_same (take (6 * sizes ts) (drop (6 * a) w)) _ (flats ts) _ front_long halves }

  pub part_right : {b : ℕ} → b ≡ a + sizes ts → Part w b c us
  part_right {b} e =
      record {
        inside = h.inside;
        used = omega (arith, sizes_join ts us);
        text = ap (λ (x : ℕ). take (6 * sizes us) (drop (6 * x) w)) e ∙ back_same (take (6 * sizes ts) (drop (6 * a) w)) _ (flats ts) _ front_long halves;
      }

-- the words of the row n
unfoldable pub row_at : List ℕ → ℕ → List ℕ
row_at w n = row (get_or w (6 * n + 0) 0) (get_or w (6 * n + 1) 0) (get_or w (6 * n + 2) 0) (get_or w (6 * n + 3) 0) (get_or w (6 * n + 4) 0) (get_or w (6 * n + 5) 0)

six : (l : List ℕ) → 6 ≤ length l → take 6 l ≡ row (get_or l 0 0) (get_or l 1 0) (get_or l 2 0) (get_or l 3 0) (get_or l 4 0) (get_or l 5 0)
six [] h = absurd (not-suc-le-zero h)
six (k ∷ []) h = absurd (not-suc-le-zero (le_of_suc-le-suc h))
six (k ∷ m ∷ []) h = let z : 6 ≤ 2 = h in absurd (omega arith)
six (k ∷ m ∷ a ∷ []) h = let z : 6 ≤ 3 = h in absurd (omega arith)
six (k ∷ m ∷ a ∷ e ∷ []) h = let z : 6 ≤ 4 = h in absurd (omega arith)
six (k ∷ m ∷ a ∷ e ∷ n ∷ []) h = let z : 6 ≤ 5 = h in absurd (omega arith)
six (k ∷ m ∷ a ∷ e ∷ n ∷ s ∷ l) h = refl

-- the words of a row are six of the list
pub row_words : (w : List ℕ) (n : ℕ) → 6 * n + 6 ≤ length w → take 6 (drop (6 * n) w) ≡ row_at w n
unfolding row_at
row_words w n h = six (drop (6 * n) w) (rw (length-drop (6 * n) w) (omega arith)) ∙ simp get_or-drop

-- a row over the rows of its kids
pub part_node : {w : List ℕ} {a b k m f e : ℕ} {ts : Forest} → Part w a b ts → 6 * b + 6 ≤ length w
    → row_at w b ≡ row k m f e (count ts) (sizes ts + 1) → Part w a (b + 1) (one (node k m f e ts))
unfolding sizes size flats flat
part_node {w} {a} {b} {k} {m} {f} {e} {ts} g room r =
    let z : sizes ts + 1 + 0 ≡ sizes ts + 1 = omega arith in
    record {
      inside = omega arith;
      used = omega arith;
      text =
          ap (λ (x : ℕ). take (6 * x) (drop (6 * a) w)) z
          ∙ seam w a (sizes ts) 1
          ∙ ap (λ (x : ℕ). take (6 * sizes ts) (drop (6 * a) w) ++ take 6 (drop (6 * x) w)) (sym g.used)
          ∙ ap (λ (x : List ℕ). x ++ take 6 (drop (6 * b) w)) g.text
          ∙ ap (λ (x : List ℕ). flats ts ++ x) (row_words w b room ∙ r)
          ∙ sym (append-nil (flats ts ++ row k m f e (count ts) (sizes ts + 1)));
    }

module _ (b : ℕ) {w : List ℕ} {a c k m f e : ℕ} {ts : Forest} (h : Part w a c (one (node k m f e ts))) (n : c ≡ b + 1) where
  parts : take (6 * sizes ts) (drop (6 * a) w) ++ take 6 (drop (6 * b) w) ≡ flats ts ++ row k m f e (count ts) (sizes ts + 1)
  unfolding sizes size flats flat
  parts =
      let z : sizes ts + 1 + 0 ≡ sizes ts + 1 = omega arith in
      let d : b ≡ a + sizes ts = omega (arith, h.used) in
      ap (λ (x : ℕ). take (6 * sizes ts) (drop (6 * a) w) ++ take 6 (drop (6 * x) w)) d
      ∙ sym (seam w a (sizes ts) 1)
      ∙ ap (λ (x : ℕ). take (6 * x) (drop (6 * a) w)) (sym z)
      ∙ h.text
      ∙ append-nil (flats ts ++ row k m f e (count ts) (sizes ts + 1))

  kids_long : length (take (6 * sizes ts) (drop (6 * a) w)) ≡ length (flats ts)
  unfolding sizes size
  kids_long = length-take-le (6 * sizes ts) (drop (6 * a) w) (rw (length-drop (6 * a) w) (omega (arith, h.used, h.inside))) ∙ sym (length_flats ts)

  -- the rows of the kids of a root
  pub part_kids : Part w a b ts
  unfolding sizes size
  part_kids =
      record {
        inside = omega (arith, h.inside);
        used = omega (arith, h.used);
        text = front_same (take (6 * sizes ts) (drop (6 * a) w)) _ (flats ts) _ kids_long parts;
      }

  -- the words of a root
  pub part_root : row_at w b ≡ row k m f e (count ts) (sizes ts + 1)
  part_root = sym (row_words w b (omega (arith, h.inside))) ∙ back_same (take (6 * sizes ts) (drop (6 * a) w)) _ (flats ts) _ kids_long parts

pub row_of_words : (w : List ℕ) (n : ℕ) {k j s : ℕ} → k ≡ get_or w (6 * n + 0) 0 → j ≡ get_or w (6 * n + 4) 0 → s ≡ get_or w (6 * n + 5) 0
    → row_at w n ≡ row k (get_or w (6 * n + 1) 0) (get_or w (6 * n + 2) 0) (get_or w (6 * n + 3) 0) j s
unfolding row_at
row_of_words w n p q r = rw (p, q, r)

-- the words of a tree are the part from the first row to the last
pub part_whole : (t : Tree) → Part (flat t) 0 (size t) (one t)
unfolding sizes flats
part_whole t =
    let e : length (flat t) ≡ 6 * size t = length_flat t in
    record {
      inside = omega arith;
      used = omega arith;
      text = ap (λ (n : ℕ). take n (flat t)) (let d : 6 * (size t + 0) ≡ length (flat t) = omega arith in d) ∙ take-length (flat t) ∙ sym (append-nil (flat t));
    }
