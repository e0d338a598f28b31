-- Laws of the check of a tree: the kids of a row, found from the last to the first, are those of the one tree that it can root.
-- Assumes nothing.
use Prim.Native.Nat.{ℕ, ◌+◌, ◌-◌, ◌*◌, ◌≤◌, ◌<◌}
use mathlib.Core.Path.{◌≡◌, refl, sym, ap, ◌∙◌, subst}
use mathlib.Core.Bool.{Bool, true, false}
use mathlib.Core.List.{List}
use native.Mathlib.Omega.{arith}
use native.Mathlib.Nat.{add-zero}
use lib.Dec.{leb, eqb}
use lib.ListN.{length, get_or}
use borrow.Author.Tests.{eqb-true, eqb-false}
use Rattle.tokens.specs.Bool.{◌and◌}
use Rattle.rows.specs.Tree.{Tree, Forest, node, nil, cons, one, join, count, size, sizes, kind_of, kids_of}
use Rattle.rows.specs.Shape.{well_formed, all_well_formed, is_shaped, is_listed, all_fit, fits, last_kind, least, shape_of}
use Rattle.rows.specs.Part.{Part, Rooted}
use Rattle.rows.specs.Part.{Decides, Stands, KidsStand, LastKind, KidFits}
use Rattle.rows.proofs.Rows.{sizes_join, count_join, join_nil, join_assoc, Next, next}
use Rattle.rows.proofs.Flat.{some_row}
use Rattle.rows.proofs.Parts.{part_none, part_join, part_left, part_right, part_kids, part_node, row_of_words}
use Rattle.rows.proofs.Subtrees.{part_at, rooted, rooted_once, root_kind, root_kids, root_size}
use Rattle.rows.proofs.Tests.{and_left, and_right, and_both}

kids_good : (t : Tree) → well_formed t ≡ true → all_well_formed (kids_of t) ≡ true
unfolding well_formed kids_of
kids_good (node kind mark first end kids) h = and_right (is_shaped kind kids) (all_well_formed kids) h

pub some_rows : (ts : Forest) → count ts ≤ sizes ts
unfolding count sizes
some_rows nil = omega arith
some_rows (cons t ts) = omega (arith, some_row t, some_rows ts)

count_cons : (t : Tree) (ts : Forest) → count (cons t ts) ≡ count ts + 1
unfolding count
count_cons t ts = refl

last_kind_join : (k : ℕ) (ts : Forest) (u : Tree) → last_kind k (join ts (one u)) ≡ kind_of u
unfolding last_kind join
last_kind_join k nil u = refl
last_kind_join k (cons t ts) u = last_kind_join (kind_of t) ts u

all_fit_at : (kind before : ℕ) (ts : Forest) (u : Tree) (us : Forest) → all_fit kind before (join ts (cons u us)) ≡ true
    → fits kind (before + count ts) (count us) (kind_of u) (last_kind 0 (kids_of u)) ≡ true
unfolding all_fit join count
all_fit_at kind before nil u us h = rw add-zero (and_left _ _ h)
all_fit_at kind before (cons t ts) u us h =
    let e : before + 1 + count ts ≡ before + (count ts + 1) = omega arith in
    rw (sym e) (all_fit_at kind (before + 1) ts u us (and_right (fits kind before (count (join ts (cons u us))) (kind_of t) (last_kind 0 (kids_of t))) (all_fit kind (before + 1) (join ts (cons u us))) h))

-- a tree's own bounds, and the part of its kids
pub root_small : {w : List ℕ} {n : ℕ} {t : Tree} → Rooted w n t → size t ≤ n + 1
unfolding sizes
root_small {w} {n} {t} h = omega (arith, h.part.used, some_row t)

root_part : {w : List ℕ} {n : ℕ} (t : Tree) → Rooted w n t → Part w (n + 1 - size t) n (kids_of t)
unfolding kids_of
root_part {w} {n} (node kind mark first end kids) h = part_kids n h.part refl

root_sizes : (t : Tree) → size t ≡ sizes (kids_of t) + 1
unfolding size kids_of
root_sizes (node kind mark first end kids) = refl

-- a last tree is rooted at the last row
last_rooted : (ts : Forest) (u : Tree) {w : List ℕ} {a n : ℕ} → Part w a (n + 1) (join ts (one u)) → Rooted w n u
last_rooted ts u h = rooted (part_right ts (one u) h refl) refl

-- where the row that it roots has no kids, and where it has
pub no_last : {w : List ℕ} {n : ℕ} → get_or w (6 * n + 4) 0 ≡ 0 → LastKind w n 0
unfolding last_kind count
no_last {w} {n} e = record { is = λ t h. go (kids_of t) (sym (root_kids t h) ∙ e) }
  where
    go : (ts : Forest) → count ts ≡ 0 → 0 ≡ last_kind 0 ts
    go nil z = refl
    go (cons t ts) z = absurd (omega arith)

pub has_row_before : {w : List ℕ} {n : ℕ} → (get_or w (6 * n + 4) 0 ≡ 0 → ⊥) → Stands w n → 0 < n
has_row_before {w} {n} e s =
    let t : Tree = s.tree in
    let c : get_or w (6 * n + 4) 0 ≡ count (kids_of t) = root_kids t s.root in
    omega (arith, c, e, some_rows (kids_of t), root_sizes t, root_small s.root)

pub last_before : {w : List ℕ} {n x : ℕ} → (get_or w (6 * n + 4) 0 ≡ 0 → ⊥) → 0 < n → x ≡ get_or w (6 * (n - 1) + 0) 0 → LastKind w n x
last_before {w} {n} {x} e pos d = record { is = λ t h. go t h (next (kids_of t) (omega (arith, root_kids t h, e))) }
  where
    go : (t : Tree) → Rooted w n t → Next (kids_of t) → x ≡ last_kind 0 (kids_of t)
    go t h f =
        let p : Part w (n + 1 - size t) n (join f.rest (one f.kid)) = subst (λ (ts : Forest). Part w (n + 1 - size t) n ts) f.is (root_part t h) in
        let r : Rooted w (n - 1) f.kid = last_rooted f.rest f.kid (part_at refl (let q : n ≡ n - 1 + 1 = omega arith in q) p) in
        d ∙ root_kind f.kid r ∙ sym (last_kind_join 0 f.rest f.kid) ∙ ap (last_kind 0) (sym f.is)

-- what the walk over the kids knows: the last kids, and that any forest that may stand there ends in so many trees from here on
pub record Rest (w : List ℕ) (low top after : ℕ) (ts : Forest) : Type 0 where
  pub front : Forest
  pub back : Forest
  pub is : ts ≡ join front back
  pub number : count back ≡ after
  pub part : Part w low top front

pub record Walked (w : List ℕ) (kind kids low row top after : ℕ) : Type 0 where
  pub low_top : low ≤ top
  pub top_row : top ≤ row
  pub few : after ≤ kids
  pub trees : Forest
  pub part : Part w top row trees
  pub number : count trees ≡ after
  pub good : all_well_formed trees ≡ true
  pub fit : all_fit kind (kids - after) trees ≡ true
  pub rest : (ts : Forest) → Part w low row ts → count ts ≡ kids → Rest w low top after ts

pub walk_none : {w : List ℕ} {kind kids low row : ℕ} → low ≤ row → 6 * row ≤ length w → Walked w kind kids low row row 0
unfolding count all_well_formed all_fit
walk_none {w} {kind} {kids} {low} {row} l room =
    record {
      low_top = l;
      top_row = omega arith;
      few = omega arith;
      trees = nil;
      part = part_none w row room;
      number = refl;
      good = refl;
      fit = refl;
      rest = λ ts p c. record { front = ts; back = nil; is = sym (join_nil ts); number = refl; part = p };
    }

-- the next kid, where there is one, is the tree that the row just below roots
record Found (w : List ℕ) (low top after : ℕ) (ts : Forest) (t : Tree) : Type 0 where
  front : Forest
  back : Forest
  is : ts ≡ join front (cons t back)
  number : count back ≡ after
  small : size t ≤ top - low
  part : Part w low (top - size t) front

front_rows : {w : List ℕ} {low top after : ℕ} {ts : Forest} (r : Rest w low top after ts) → after < count ts → 0 < count r.front
front_rows {w} {low} {top} {after} {ts} r l = omega (arith, ap count r.is, count_join r.front r.back, r.number)

next_kid : {w : List ℕ} {low top after : ℕ} {ts : Forest} {t : Tree} → Rest w low top after ts → after < count ts → Rooted w (top - 1) t → Found w low top after ts t
unfolding sizes join
next_kid {w} {low} {top} {after} {ts} {t} r l h = go (next r.front (front_rows r l))
  where
    go : Next r.front → Found w low top after ts t
    go e =
        let p : Part w low top (join e.rest (one e.kid)) = subst (λ (us : Forest). Part w low top us) e.is r.part in
        let n : sizes (join e.rest (one e.kid)) ≡ sizes e.rest + (size e.kid + 0) = sizes_join e.rest (one e.kid) in
        let pos : 0 < size e.kid = some_row e.kid in
        let u : top ≡ top - 1 + 1 = omega (arith, p.used) in
        let same : e.kid ≡ t = rooted_once (last_rooted e.rest e.kid (part_at refl u p)) h in
        let sz : size e.kid ≡ size t = ap size same in
        record {
          front = e.rest;
          back = r.back;
          is = r.is ∙ ap (λ (us : Forest). join us r.back) e.is ∙ join_assoc e.rest (one e.kid) r.back ∙ ap (λ (v : Tree). join e.rest (cons v r.back)) same;
          number = r.number;
          small = omega (arith, p.used);
          part = part_left e.rest (one e.kid) p (omega (arith, p.used));
        }

-- one kid more
module _ {w : List ℕ} {kind kids low row top after s : ℕ} (v : Walked w kind kids low row top after) (l : after < kids) (z : Stands w (top - 1)) (e : s ≡ size z.tree) where
  rest_more : (ts : Forest) → Part w low row ts → count ts ≡ kids → Rest w low (top - s) (after + 1) ts
  unfolding count
  rest_more ts p c =
      let n : Found w low top after ts z.tree = next_kid (v.rest ts p c) (rw c l) z.root in
      record {
        front = n.front;
        back = cons z.tree n.back;
        is = n.is;
        number = ap (λ (m : ℕ). m + 1) n.number;
        part = rw e n.part;
      }

  fit_more : fits kind (kids - 1 - after) after (kind_of z.tree) (last_kind 0 (kids_of z.tree)) ≡ true → all_fit kind (kids - (after + 1)) (cons z.tree v.trees) ≡ true
  unfolding all_fit
  fit_more f =
      let a : kids - (after + 1) ≡ kids - 1 - after = omega arith in
      let b : kids - (after + 1) + 1 ≡ kids - after = omega arith in
      and_both (fits kind (kids - (after + 1)) (count v.trees) (kind_of z.tree) (last_kind 0 (kids_of z.tree))) (all_fit kind (kids - (after + 1) + 1) v.trees)
      (rw (a, v.number) f)
      (rw b v.fit)

  pub walk_more : low < top → s ≤ top - low → fits kind (kids - 1 - after) after (kind_of z.tree) (last_kind 0 (kids_of z.tree)) ≡ true
      → Walked w kind kids low row (top - s) (after + 1)
  unfolding join count all_well_formed sizes
  walk_more m d f =
      record {
        low_top = omega arith;
        top_row = omega (arith, v.top_row);
        few = omega arith;
        trees = cons z.tree v.trees;
        part = part_join (part_at (omega arith) (omega arith) z.root.part) v.part;
        number = ap (λ (n : ℕ). n + 1) v.number;
        good = and_both _ _ z.good v.good;
        fit = fit_more f;
        rest = rest_more;
      }

  -- a kid that reaches too low, or may not stand there
  pub too_large : top - low < s → KidsStand w kind kids low row → ⊥
  too_large d k =
      let n : Found w low top after k.trees z.tree = next_kid (v.rest k.trees k.part k.number) (rw k.number l) z.root in
      omega (arith, n.small)

  pub misplaced : fits kind (kids - 1 - after) after (kind_of z.tree) (last_kind 0 (kids_of z.tree)) ≡ false → KidsStand w kind kids low row → ⊥
  misplaced f k =
      let n : Found w low top after k.trees z.tree = next_kid (v.rest k.trees k.part k.number) (rw k.number l) z.root in
      let g : all_fit kind 0 (join n.front (cons z.tree n.back)) ≡ true = subst (λ (ts : Forest). all_fit kind 0 ts ≡ true) n.is k.fit in
      let c : count k.trees ≡ count n.front + count (cons z.tree n.back) = ap count n.is ∙ count_join n.front (cons z.tree n.back) in
      let a : 0 + count n.front ≡ kids - 1 - after = omega (arith, c, count_cons z.tree n.back, n.number, k.number) in
      let y : false ≡ true = sym f ∙ rw (a, n.number) at (all_fit_at kind 0 n.front z.tree n.back g) in
      cc

-- no kid is left, though one should be
pub none_left : {w : List ℕ} {kind kids low row top after : ℕ} → Walked w kind kids low row top after → after < kids → top ≤ low → KidsStand w kind kids low row → ⊥
none_left v l m k =
    let r : Rest _ _ _ _ k.trees = v.rest k.trees k.part k.number in
    omega (arith, r.part.used, some_rows r.front, front_rows r (rw k.number l))

empty_part : (ts : Forest) {w : List ℕ} {low top : ℕ} → Part w low top ts → count ts ≡ 0 → top ≡ low
unfolding count sizes
empty_part nil p e = omega (arith, p.used)
empty_part (cons t ts) p e = absurd (omega arith)

-- rows are left, though no kid should be
pub rows_left : {w : List ℕ} {kind kids low row top after : ℕ} → Walked w kind kids low row top after → kids ≤ after → (top ≡ low → ⊥) → KidsStand w kind kids low row → ⊥
rows_left {w} {kind} {kids} {low} {row} {top} {after} v l m k =
    let r : Rest w low top after k.trees = v.rest k.trees k.part k.number in
    m (empty_part r.front r.part (omega (arith, ap count r.is, count_join r.front r.back, r.number, k.number)))

-- all kids are found
pub walk_all : {w : List ℕ} {kind kids low row top after : ℕ} → Walked w kind kids low row top after → kids ≤ after → top ≡ low → KidsStand w kind kids low row
walk_all {w} {kind} {kids} {low} {row} {top} {after} v l m =
    let e : kids - after ≡ 0 = omega arith in
    record {
      trees = v.trees;
      part = part_at m refl v.part;
      number = omega (arith, v.number, v.few);
      good = v.good;
      fit = rw e at v.fit;
    }

-- what a well-formed tree has at its root
record Shaped (kind : ℕ) (ts : Forest) : Type 0 where
  listed : is_listed kind ≡ true
  enough : leb (least (shape_of kind)) (count ts) ≡ true
  fit : all_fit kind 0 ts ≡ true

shaped : (t : Tree) → well_formed t ≡ true → Shaped (kind_of t) (kids_of t)
unfolding well_formed kind_of kids_of is_shaped
shaped (node kind mark first end ts) h =
    let a : is_shaped kind ts ≡ true = and_left (is_shaped kind ts) (all_well_formed ts) h in
    let b : (leb (least (shape_of kind)) (count ts) and all_fit kind 0 ts) ≡ true = and_right (is_listed kind) (leb (least (shape_of kind)) (count ts) and all_fit kind 0 ts) a in
    record { listed = and_left _ _ a; enough = and_left _ _ b; fit = and_right (leb (least (shape_of kind)) (count ts)) (all_fit kind 0 ts) b }

true_false : {b : Bool} → b ≡ true → b ≡ false → ⊥
true_false p q = cc

-- the row of which a walk is asked: its kind, the number of its kids, its size
module _ {w : List ℕ} {row kind : ℕ} (k : kind ≡ get_or w (6 * row + 0) 0) where
  same_kind : (s : Stands w row) → kind ≡ kind_of s.tree
  same_kind s = k ∙ root_kind s.tree s.root

  module _ {kids : ℕ} (n : kids ≡ get_or w (6 * row + 4) 0) where
    pub too_few : (is_listed kind and leb (least (shape_of kind)) kids) ≡ false → Stands w row → ⊥
    too_few f s =
        let q : Shaped (kind_of s.tree) (kids_of s.tree) = shaped s.tree s.good in
        true_false
        (and_both (is_listed kind) (leb (least (shape_of kind)) kids) (ap is_listed (same_kind s) ∙ q.listed)
        (ap (λ (x : ℕ). leb (least (shape_of x)) kids) (same_kind s) ∙ ap (leb (least (shape_of (kind_of s.tree)))) (n ∙ root_kids s.tree s.root) ∙ q.enough))
        f

    module _ {size_word : ℕ} (z : size_word ≡ get_or w (6 * row + 5) 0) where
      same_size : (s : Stands w row) → size_word ≡ size s.tree
      same_size s = z ∙ root_size s.tree s.root

      pub no_size : size_word ≡ 0 → Stands w row → ⊥
      no_size e s = omega (arith, same_size s, some_row s.tree)

      pub too_long : row + 1 < size_word → Stands w row → ⊥
      too_long e s = omega (arith, same_size s, root_small s.root)

      -- the row stands exactly if its kids do
      module _ (enough : (is_listed kind and leb (least (shape_of kind)) kids) ≡ true) (some : size_word ≡ 0 → ⊥) (long : size_word ≤ row + 1) (room : 6 * row + 6 ≤ length w) where
        from_kids : KidsStand w kind kids (row + 1 - size_word) row → Stands w row
        unfolding well_formed is_shaped
        from_kids s =
            let ts : Forest = s.trees in
            let r : sizes ts + 1 ≡ get_or w (6 * row + 5) 0 = omega (arith, s.part.used, z) in
            record {
              tree = node kind (get_or w (6 * row + 1) 0) (get_or w (6 * row + 2) 0) (get_or w (6 * row + 3) 0) ts;
              root = rooted (part_node s.part room (row_of_words w row k (s.number ∙ n) r)) refl;
              good = and_both (is_shaped kind ts) (all_well_formed ts) (and_both (is_listed kind) (leb (least (shape_of kind)) (count ts) and all_fit kind 0 ts) (and_left _ _ enough) (and_both (leb (least (shape_of kind)) (count ts)) (all_fit kind 0 ts) (rw s.number (and_right (is_listed kind) (leb (least (shape_of kind)) kids) enough)) s.fit)) s.good;
            }

        to_kids : Stands w row → KidsStand w kind kids (row + 1 - size_word) row
        to_kids s =
            record {
              trees = kids_of s.tree;
              part = rw (same_size s) (root_part s.tree s.root);
              number = sym (n ∙ root_kids s.tree s.root);
              good = kids_good s.tree s.good;
              fit = rw (same_kind s) (shaped s.tree s.good).fit;
            }

        pub by_kids : {answer : Bool} → Decides (KidsStand w kind kids (row + 1 - size_word) row) answer → Decides (Stands w row) answer
        by_kids d = record { holds = λ e. from_kids (d.holds e); fails = λ e s. d.fails e (to_kids s) }

pub kid_fits : {w : List ℕ} {n kind before after x y : ℕ} {answer : Bool} → x ≡ get_or w (6 * n + 0) 0 → LastKind w n y → answer ≡ fits kind before after x y
    → KidFits w n kind before after answer
kid_fits {kind = kind} {before = before} {after = after} {x = x} p q e =
    record { is = λ t h. e ∙ ap (fits kind before after x) (q.is t h) ∙ ap (λ (k : ℕ). fits kind before after k (last_kind 0 (kids_of t))) (p ∙ root_kind t h) }

pub kid_size : {w : List ℕ} {n x : ℕ} → x ≡ get_or w (6 * n + 5) 0 → (z : Stands w n) → x ≡ size z.tree
kid_size e z = e ∙ root_size z.tree z.root

-- what the answer says of the kid
pub told : {w : List ℕ} {n kind before after : ℕ} {answer b : Bool} → KidFits w n kind before after answer → answer ≡ b → (z : Stands w n)
    → fits kind before after (kind_of z.tree) (last_kind 0 (kids_of z.tree)) ≡ b
told k e z = sym (k.is z.tree z.root) ∙ e

-- the fact does not hold, and the answer says so
pub never : {Fact : Type 0} → (Fact → ⊥) → Decides Fact false
never n = record { holds = λ e. absurd (true_false refl (sym e)); fails = λ e. n }

-- no kid is left to find
pub walk_end : {w : List ℕ} {kind kids low row top after : ℕ} → Walked w kind kids low row top after → kids ≤ after → Decides (KidsStand w kind kids low row) (eqb top low)
walk_end {low = low} {top = top} v l = record { holds = λ e. walk_all v l (eqb-true top low e); fails = λ e. rows_left v l (eqb-false top low e) }
