-- Where the rows of a subtree and of its kids stand, and what the words of its root are.
-- Assumes nothing.
use Prim.Native.Nat.{ℕ, ◌+◌, ◌-◌, ◌*◌, ◌≤◌, ◌<◌}
use mathlib.Core.Path.{◌≡◌, refl, sym, ap, ◌∙◌}
use mathlib.Core.List.{List, ◌++◌, append_assoc, append-nil}
use native.Mathlib.Omega.{arith}
use borrow.Author.Rules.{rules}
use lib.ListN.{length, get_or, length-append, get_or-append}
use lib.Seq.{get_or-append-add}
use Rattle.rows.specs.Tree.{Tree, Forest, node, nil, cons, one, join, count, size, sizes, row, flat, flats, kids_of}
use Rattle.rows.proofs.Rows.{sizes_join, flats_join, count_join, join_assoc, join_nil, Next, next}
use Rattle.rows.proofs.Flat.{length_flats, some_row}
use Rattle.trees.proofs.Walks.{some_rows}
use Rattle.targets.specs.Post.{Subtree}

-- the words of a tree's root
unfoldable pub root_words : Tree → List ℕ
root_words (node k m f e kids) = row k m f e (count kids) (sizes kids + 1)

pub flat_root : (t : Tree) → flat t ≡ flats (kids_of t) ++ root_words t
unfolding flat root_words kids_of
flat_root t = search rules

pub size_root : (t : Tree) → size t ≡ sizes (kids_of t) + 1
unfolding size kids_of
size_root t = search rules

length_root : (t : Tree) → length (root_words t) ≡ 6
unfolding root_words
length_root t = search rules

at_seam : (a b c : List ℕ) (n i : ℕ) → n ≡ length a → i < length b → get_or (a ++ (b ++ c)) (n + i) 0 ≡ get_or b i 0
at_seam a b c n i e h = rw (e, get_or-append-add a (b ++ c) i 0) (get_or-append b c 0 i h)

module _ {rows : List ℕ} {root : ℕ} (h : Subtree rows root) where
  -- the kids' rows, then the root's
  pub root_text : rows ≡ (h.before ++ flats (kids_of h.tree)) ++ (root_words h.tree ++ h.after)
  root_text = h.text ∙ rw (flat_root h.tree) (simp append_assoc)

  pub root_place : 6 * root ≡ length (h.before ++ flats (kids_of h.tree))
  root_place = simp length-append (omega (arith, length_flats (kids_of h.tree), size_root h.tree, h.place))

  pub place_root : 6 * root ≡ length h.before + 6 * sizes (kids_of h.tree)
  place_root = omega (arith, h.place, size_root h.tree)

  pub root_word : (i : ℕ) → i < 6 → get_or rows (6 * root + i) 0 ≡ get_or (root_words h.tree) i 0
  root_word i small =
      rw root_text (at_seam (h.before ++ flats (kids_of h.tree)) (root_words h.tree) h.after (6 * root) i root_place (omega (arith, length_root h.tree)))

  pub root_inside : 6 * root + 6 ≤ length rows
  root_inside =
      let n = ap length root_text in
      omega (
        arith,
        n,
        length-append (h.before ++ flats (kids_of h.tree)) (root_words h.tree ++ h.after),
        length-append (root_words h.tree) h.after,
        length_root
            h.tree,
        root_place,
      )

-- Kids are passed from the last to the first: those in front are still to come, and `tail` stands after their rows.
pub record Walk (before : List ℕ) (kids : Forest) (tail rows : List ℕ) (after end : ℕ) : Type 0 where
  pub front : Forest
  pub passed : Forest
  pub whole : kids ≡ join front passed
  pub many : count passed ≡ after
  pub stop : 6 * end ≡ length before + 6 * sizes front
  pub text : rows ≡ before ++ (flats front ++ tail)

-- trees have rows
some_trees : (ts : Forest) → 0 < sizes ts → 0 < count ts
unfolding count sizes
some_trees nil h = absurd (omega arith)
some_trees (cons t ts) h = omega arith

pub no_kid : (ts : Forest) → count ts ≡ 0 → ts ≡ nil
unfolding count
no_kid nil h = refl
no_kid (cons t ts) h = absurd (omega arith)

pub no_trees : count nil ≡ 0
unfolding count
no_trees = refl

abbrev pub walk_start : {rows : List ℕ} {root : ℕ} (h : Subtree rows root) → Walk h.before (kids_of h.tree) (root_words h.tree ++ h.after) rows 0 root
walk_start {rows} {root} h =
    record {
      front = kids_of h.tree;
      passed = nil;
      whole = sym (join_nil (kids_of h.tree));
      many = no_trees;
      stop = omega (arith, h.place, size_root h.tree);
      text = root_text h ∙ append_assoc h.before (flats (kids_of h.tree)) (root_words h.tree ++ h.after);
    }

module _ {before : List ℕ} {kids : Forest} {tail rows : List ℕ} {after end : ℕ} (w : Walk before kids tail rows after end) where
  counts : count kids ≡ count w.front + after
  counts = rw (w.whole, count_join w.front w.passed, w.many)

  -- there is one more kid
  pub walk_more : after < count kids → Next w.front
  walk_more h = next w.front (omega (arith, counts))

  module _ (n : Next w.front) where
    pub front_size : sizes w.front ≡ sizes n.rest + size n.kid
    unfolding sizes
    front_size = ap sizes n.is ∙ sizes_join n.rest (one n.kid) ∙ (let z : sizes n.rest + (size n.kid + 0) ≡ sizes n.rest + size n.kid = omega arith in z)

    pub kid_size : (0 < size n.kid) × (size n.kid ≤ end)
    kid_size = let s = front_size in (some_row n.kid, omega (arith, w.stop))

    pub kid_text : rows ≡ (before ++ flats n.rest) ++ (flat n.kid ++ tail)
    unfolding flats
    kid_text = w.text ∙ rw (n.is, flats_join n.rest (one n.kid)) (simp (append-nil, append_assoc))

    -- where it stands
    abbrev pub kid_tree : Subtree rows (end - 1)
    kid_tree =
        record {
          before = before ++ flats n.rest;
          tree = n.kid;
          after = tail;
          text = kid_text;
          place = simp length-append (omega (arith, length_flats n.rest, front_size, kid_size, w.stop));
        }

    pub whole_next : kids ≡ join n.rest (cons n.kid w.passed)
    unfolding join
    whole_next = w.whole ∙ ap (λ (f : Forest). join f w.passed) n.is ∙ join_assoc n.rest (one n.kid) w.passed

    pub many_next : count (cons n.kid w.passed) ≡ after + 1
    unfolding count
    many_next = ap (λ (m : ℕ). m + 1) w.many

    -- it is passed, and another tree of its size stands for it
    abbrev pub walk_next : (t' : Tree) (rows' : List ℕ) (size' : ℕ) → rows' ≡ (before ++ flats n.rest) ++ (flat t' ++ tail) → size' ≡ size n.kid
        → Walk before kids (flat t' ++ tail) rows' (after + 1) (end - size')
    walk_next t' rows' size' e s =
        record {
          front = n.rest;
          passed = cons n.kid w.passed;
          whole = whole_next;
          many = many_next;
          stop = omega (arith, front_size, kid_size, w.stop);
          text = e ∙ append_assoc before (flats n.rest) (flat t' ++ tail);
        }

  -- there is one more kid where rows are left
  pub walk_some : 6 * end ≡ length before + 6 * sizes w.front → {first : ℕ} → 6 * first ≡ length before → first < end → Next w.front
  walk_some s e h = next w.front (some_trees w.front (omega arith))

  -- no kid is left where no row is
  pub walk_none : {first : ℕ} → 6 * first ≡ length before → end ≤ first → w.front ≡ nil
  walk_none e h =
      let s = w.stop in
      let none : sizes w.front ≡ 0 = omega arith in
      no_kid w.front (omega (arith, some_rows w.front))

  -- all are passed then
  pub walk_past : {first : ℕ} → 6 * first ≡ length before → end ≤ first → (w.passed ≡ kids) × (rows ≡ before ++ tail)
  unfolding join flats
  walk_past e h =
      let e : w.front ≡ nil = walk_none e h in
      (sym (w.whole ∙ ap (λ (f : Forest). join f w.passed) e), w.text ∙ ap (λ (f : Forest). before ++ (flats f ++ tail)) e)
