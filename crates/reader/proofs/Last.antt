-- The last passes: the notes are counted, and the rows are gone through for record 8.
-- Assumes nothing.
use Rattle.std.specs.Prelude.{if◌then◌else◌}
use Prim.Native.Nat.{ℕ, zero, suc, ◌+◌, ◌-◌, ◌*◌, ◌≤◌, ◌<◌}
use mathlib.Core.Path.{◌≡◌, refl, sym, ap, ◌∙◌}
use mathlib.Core.List.{List, [], ◌∷◌, ◌++◌, append-nil, append_assoc}
use native.Mathlib.Omega.{arith}
use native.Mathlib.Numerals.{add-one}
use native.Mathlib.Nat.{zero-add}
use lib.ListN.{length, get_or, take, drop, length-append, take-append-drop}
use Rattle.std.proofs.lemmas.List.{get_or-take, length-take}
use lib.Seq.{drop-cons, get_or-append-add}
use Rattle.tokens.specs.Bool.{◌is◌}
use Rattle.rows.specs.Tree.{Tree, Forest, node, nil, cons, count, size, sizes, row, flat, flats}
use Rattle.rows.specs.Row as Row
use Rattle.rows.specs.Record.{Record, shorthand_initializer}
use Rattle.rows.specs.Post.{Grown, GrownRecords}
use Rattle.rows.proofs.Flat.{length_flat, length_flats}
use Rattle.rows.proofs.Records.{grown_records_join}
use Rattle.grammar.specs.Reading.{noted_places, unconverted, unconverteds}
use Rattle.laws.specs.Promises.{Fine}
use Rattle.reader.specs.Post.{unconverted_row, unconverted_rows, Within, LastRowRoom, LastRoom}

-- where no place is noted any more, there is nothing to count
none_past : (m : List ℕ) (at : ℕ) → ((place : ℕ) → at ≤ place → get_or m place 0 ≡ 0) → noted_places (drop at m) ≡ 0
unfolding noted_places
none_past [] zero h = refl
none_past [] (suc at) h = refl
none_past (note ∷ m) zero h = omega (arith, h 0 (omega arith), none_past m 0 (λ place l. h (suc place) (omega arith)))
none_past (note ∷ m) (suc at) h = none_past m at (λ place l. h (suc place) (omega arith))

pub none_left : {m : List ℕ} {tokens : ℕ} → Within tokens m → noted_places (drop tokens m) ≡ 0
none_left {m} {tokens} w = none_past m tokens w.past

-- a note of the first so many is 0 or 1, and with those after it makes up those from its place on
pub notes_left : (m : List ℕ) (tokens at : ℕ) → Fine m → at < length (take tokens m)
    → (get_or (take tokens m) at 0 + noted_places (drop (at + 1) m) ≡ noted_places (drop at m)) × (get_or (take tokens m) at 0 ≤ 1)
unfolding noted_places
notes_left m tokens at f l =
    let n = length-take tokens m in
    let e : get_or (take tokens m) at 0 ≡ get_or m at 0 = get_or-take tokens m at 0 (omega arith) in
    let p : get_or m at 0 + noted_places (drop (at + 1) m) ≡ noted_places (drop at m) = rw (drop-cons m at 0 (omega arith), add-one at) in
    (omega arith, omega (arith, f.each at))

-- the records 8 of some rows and of those after them
split : (r : List ℕ) (a m n k : ℕ) → k ≡ m + n → unconverted_rows r a k ≡ unconverted_rows r a m ++ unconverted_rows r (a + m) n
unfolding unconverted_rows
split r a m zero k e = let q : k ≡ m = omega arith in ap (unconverted_rows r a) q ∙ sym (append-nil (unconverted_rows r a m))
split r a m (suc n) k e =
    let q : k ≡ suc (m + n) = omega arith in
    let p : a + (m + n) ≡ a + m + n = omega arith in
    ap (unconverted_rows r a) q
    ∙ ap (λ (l : List Record). l ++ unconverted_row r (a + (m + n))) (split r a m n (m + n) refl)
    ∙ append_assoc (unconverted_rows r a m) (unconverted_rows r (a + m) n) (unconverted_row r (a + (m + n)))
    ∙ ap (λ (i : ℕ). unconverted_rows r a m ++ (unconverted_rows r (a + m) n ++ unconverted_row r i)) p

fewer : (r : List ℕ) (a m n : ℕ) → m ≤ n → length (unconverted_rows r a m) ≤ length (unconverted_rows r a n)
fewer r a m n l =
    let e = ap length (split r a m (n - m) n (omega arith)) ∙ length-append (unconverted_rows r a m) (unconverted_rows r (a + m) (n - m)) in
    omega (arith, e)

-- a row whose kind and mark are known
row_is : (r before : List ℕ) (n kind mark : ℕ) (after : List ℕ) → r ≡ before ++ (kind ∷ mark ∷ after) → length before ≡ 6 * n
    → unconverted_row r n ≡ (if kind is Row.ShorthandInit then shorthand_initializer mark ∷ [] else [])
unfolding unconverted_row
row_is r before n kind mark after e l =
    let p : 6 * n + 0 ≡ length before + 0 = omega arith in
    let q : 6 * n + 1 ≡ length before + 1 = omega arith in
    rw (
      ap (λ (x : List ℕ). get_or x (6 * n + 0) 0) e ∙ ap (λ (i : ℕ). get_or (before ++ (kind ∷ mark ∷ after)) i 0) p ∙ get_or-append-add before (kind ∷ mark ∷ after) 0 0,
      ap (λ (x : List ℕ). get_or x (6 * n + 1) 0) e ∙ ap (λ (i : ℕ). get_or (before ++ (kind ∷ mark ∷ after)) i 0) q ∙ get_or-append-add before (kind ∷ mark ∷ after) 1 0,
    )

-- the rows of trees, from the first to the last, have the records 8 of the trees
mutual
  unfolding unconverted unconverteds unconverted_rows size sizes flat flats

  tree_rows : (t : Tree) (r before after : List ℕ) (a : ℕ) → r ≡ before ++ (flat t ++ after) → length before ≡ 6 * a → unconverted_rows r a (size t) ≡ unconverted t
  tree_rows (node kind mark first end kids) r before after a e l =
      let top = row kind mark first end (count kids) (sizes kids + 1) in
      let f : r ≡ before ++ (flats kids ++ (top ++ after)) = e ∙ ap (λ (x : List ℕ). before ++ x) (append_assoc (flats kids) top after) in
      let g : r ≡ (before ++ flats kids) ++ (top ++ after) = f ∙ sym (append_assoc before (flats kids) (top ++ after)) in
      ap (unconverted_rows r a) (add-one (sizes kids))
      ∙ ap (λ (x : List Record). x ++ unconverted_row r (a + sizes kids)) (forest_rows kids r before (top ++ after) a f l)
      ∙ ap (λ (x : List Record). unconverteds kids ++ x)
      (row_is r (before ++ flats kids) (a + sizes kids) kind mark (first ∷ end ∷ count kids ∷ (sizes kids + 1) ∷ after) g
      (length-append before (flats kids) ∙ omega (arith, l, length_flats kids)))

  forest_rows : (ts : Forest) (r before after : List ℕ) (a : ℕ) → r ≡ before ++ (flats ts ++ after) → length before ≡ 6 * a → unconverted_rows r a (sizes ts) ≡ unconverteds ts
  forest_rows nil r before after a e l = refl
  forest_rows (cons t ts) r before after a e l =
      let f : r ≡ before ++ (flat t ++ (flats ts ++ after)) = e ∙ ap (λ (x : List ℕ). before ++ x) (append_assoc (flat t) (flats ts) after) in
      let g : r ≡ (before ++ flat t) ++ (flats ts ++ after) = f ∙ sym (append_assoc before (flat t) (flats ts ++ after)) in
      split r a (size t) (sizes ts) (size t + sizes ts) refl
      ∙ ap (λ (x : List Record). x ++ unconverted_rows r (a + size t) (sizes ts)) (tree_rows t r before (flats ts ++ after) a f l)
      ∙ ap (λ (x : List Record). unconverted t ++ x)
      (forest_rows ts r (before ++ flat t) after (a + size t) g (length-append before (flat t) ∙ omega (arith, l, length_flat t)))

pub grown_unconverted : {r : List ℕ} {n : ℕ} {ts : Forest} → Grown r 0 r n ts → unconverted_rows r 0 n ≡ unconverteds ts
grown_unconverted {r} {n} {ts} g =
    let u : n ≡ sizes ts = omega (arith, g.used) in
    ap (unconverted_rows r 0) u ∙ forest_rows ts r [] (drop (6 * n) r) 0 (sym (take-append-drop (6 * n) r) ∙ ap (λ (l : List ℕ). l ++ drop (6 * n) r) g.text) refl

one_more : (r : List ℕ) (at : ℕ) → unconverted_rows r 0 (at + 1) ≡ unconverted_rows r 0 at ++ unconverted_row r at
unfolding unconverted_rows
one_more r at = ap (unconverted_rows r 0) (add-one at) ∙ ap (λ (i : ℕ). unconverted_rows r 0 at ++ unconverted_row r i) (zero-add at)

-- before each of the first n rows its record has room, and after it the records of one row more were added
pub lasting_fits : {r s₀ s : List ℕ} {n k here at : ℕ} → LastRoom r (length s₀) n k → GrownRecords s₀ k s here (unconverted_rows r 0 at) → length s ≡ length s₀ → at < n
    → LastRowRoom r (length s) at here
lasting_fits {r} {n = n} {at = at} room g q l =
    let a = fewer r 0 (at + 1) n (omega arith) in
    let b = ap length (one_more r at) ∙ length-append (unconverted_rows r 0 at) (unconverted_row r at) in
    let u = g.used in
    record { inside = omega (arith, room); room = omega (arith, a, b, u, room); small = omega (arith, a, b, u, room) }

pub lasting_more : (r : List ℕ) (at : ℕ) {s₀ s s' : List ℕ} {k here here' : ℕ} → GrownRecords s₀ k s here (unconverted_rows r 0 at) → GrownRecords s here s' here' (unconverted_row r at)
    → GrownRecords s₀ k s' here' (unconverted_rows r 0 (at + 1))
lasting_more r at g h = rw (one_more r at) (grown_records_join g h)
