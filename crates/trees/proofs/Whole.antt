-- Laws of whole trees: words whose rows stand, the last of them as large as all, are a well-formed tree, and no others are.
-- Assumes nothing.
use Prim.Native.Nat.{ℕ, ◌+◌, ◌-◌, ◌*◌, ◌/◌, ◌%◌, ◌≤◌, ◌<◌}
use mathlib.Core.Path.{◌≡◌, sym, ap, ◌∙◌, subst}
use mathlib.Core.List.{List, [], append-nil}
use native.Mathlib.Omega.{arith}
use lib.Dec.{eqb}
use lib.ListN.{length, take, drop, get_or}
use lib.Seq.{take-length}
use denote.Ref.{Bor}
use borrow.Author.Tests.{eqb-true, eqb-false}
use Rattle.rows.specs.Tree.{Tree, size, sizes, flat, flats}
use Rattle.rows.specs.Part.{WellFormed}
use Rattle.rows.specs.Part.{Rooted, subtree}
use Rattle.rows.specs.Part.{Decides, Stands}
use Rattle.rows.specs.Handed.{OwnFrom, Inside, Handed, own, empty, HandedBack}
use Rattle.rows.proofs.Flat.{some_row, long}
use Rattle.rows.proofs.Parts.{part_whole}
use Rattle.trees.proofs.Walks.{root_small}
use Rattle.rows.proofs.Subtrees.{rooted, root_size, subtree_of, subtree_words, subtree_well_formed}

module _ {w : List ℕ} where
  pub no_words : length w ≡ 0 → WellFormed w → ⊥
  no_words e v = omega (arith, long v, some_row v.tree)

  pub too_many : 12288 < length w → WellFormed w → ⊥
  too_many e v = omega (arith, long v, v.few)

  pub no_multiple : (length w % 6 ≡ 0 → ⊥) → WellFormed w → ⊥
  no_multiple e v = omega (arith, long v, e)

  -- each row of a well-formed tree roots its subtree, and stands
  pub subtree_in : (v : WellFormed w) {n : ℕ} → n < size v.tree → Rooted w n (subtree v.tree n)
  subtree_in v {n} l = subst (λ (x : List ℕ). Rooted x n (subtree v.tree n)) (sym v.text) (subtree_of v.tree n l)

  pub stands : (v : WellFormed w) {n : ℕ} → n < size v.tree → Stands w n
  stands v {n} l = record { tree = subtree v.tree n; root = subtree_in v l; good = subtree_well_formed v.tree v.shaped n l }

  pub falls : {n : ℕ} → n < length w / 6 → (Stands w n → ⊥) → WellFormed w → ⊥
  falls l f v = f (stands v (omega (arith, long v)))

  -- the last row
  module _ (some : length w ≡ 0 → ⊥) (few : length w ≤ 12288) (whole : length w % 6 ≡ 0) {x : ℕ} (e : x ≡ get_or w (6 * (length w / 6 - 1) + 5) 0) where
    all_rows : Stands w (length w / 6 - 1) → x ≡ length w / 6 → WellFormed w
    unfolding sizes flats
    all_rows s d =
        let t : Tree = s.tree in
        let z : size t ≡ length w / 6 = sym (root_size t s.root) ∙ sym e ∙ d in
        record {
          tree = t;
          text =
              sym (take-length w)
              ∙ ap (λ (m : ℕ). take m w) (let p : length w ≡ 6 * (size t + 0) = omega (arith, z) in p)
              ∙ ap (λ (m : ℕ). take (6 * (size t + 0)) (drop m w)) (let q : 0 ≡ 6 * (length w / 6 - 1 + 1 - size t) = omega (arith, z, some) in q)
              ∙ s.root.part.text
              ∙ append-nil (flat t);
          shaped = s.good;
          few = omega (arith, z);
        }

    last_row : WellFormed w → x ≡ length w / 6
    last_row v =
        let r : Rooted w (length w / 6 - 1) v.tree = subst (λ (y : List ℕ). Rooted y (length w / 6 - 1) v.tree) (sym v.text) (rooted (part_whole v.tree) (omega (arith, long v, some))) in
        e ∙ root_size v.tree r ∙ (let q : size v.tree ≡ length w / 6 = omega (arith, long v) in q)

    pub last_says : ((n : ℕ) → n < length w / 6 → Stands w n) → Decides (WellFormed w) (eqb x (length w / 6))
    last_says f =
        record {
          holds = λ d. all_rows (f (length w / 6 - 1) (omega (arith, some))) (eqb-true x (length w / 6) d);
          fails = λ d v. eqb-false x (length w / 6) d (last_row v);
        }

module _ {w : List ℕ} {row : ℕ} where
  pub outside : length w / 6 ≤ row → Inside w row → ⊥
  outside l i = omega (arith, i.has_row, long i.whole)

  module _ (i : Inside w row) {x : ℕ} (e : x ≡ get_or w (6 * row + 5) 0) where
    pub size_is : x ≡ size (subtree i.whole.tree row)
    size_is = e ∙ root_size (subtree i.whole.tree row) (subtree_in i.whole i.has_row)

    pub size_small : x ≤ row + 1
    size_small = omega (arith, size_is, root_small (subtree_in i.whole i.has_row))

    words : take (6 * (row + 1) - 6 * (row + 1 - x)) (drop (6 * (row + 1 - x)) w)
        ≡ take (6 * size (subtree i.whole.tree row)) (drop (6 * (row + 1 - size (subtree i.whole.tree row))) w)
    words =
        ap (λ (m : ℕ). take m (drop (6 * (row + 1 - x)) w)) (let p : 6 * (row + 1) - 6 * (row + 1 - x) ≡ 6 * x = omega (arith, size_small) in p)
        ∙ ap (λ (m : ℕ). take (6 * m) (drop (6 * (row + 1 - m)) w)) size_is

    handed : Handed w row (take (6 * (row + 1) - 6 * (row + 1 - x)) (drop (6 * (row + 1 - x)) w))
    handed =
        own i words
        (words
        ∙ ap (λ (y : List ℕ). take (6 * size (subtree i.whole.tree row)) (drop (6 * (row + 1 - size (subtree i.whole.tree row))) y)) i.whole.text
        ∙ subtree_words i.whole.tree row i.has_row)

pub inside : {w : List ℕ} {row : ℕ} → WellFormed w → row < length w / 6 → Inside w row
inside v l = record { whole = v; has_row = omega (arith, long v) }

-- what is handed back, and where it stands
module _ {tree part : Bor (List ℕ)} {row : ℕ} where
  pub none_handed : (Inside tree.now row → ⊥) → part.now ≡ [] → OwnFrom 4 tree 0 part → HandedBack tree row part
  none_handed f e o = record { words = empty f e; own_from = λ i. absurd (f i); none_from = λ _. o }

  pub own_handed : {x : ℕ} → Inside tree.now row → x ≡ get_or tree.now (6 * row + 5) 0
      → part.now ≡ take (6 * (row + 1) - 6 * (row + 1 - x)) (drop (6 * (row + 1 - x)) tree.now) → OwnFrom 4 tree (6 * (row + 1 - x)) part → HandedBack tree row part
  own_handed i e p o =
      record {
        words = subst (Handed tree.now row) (sym p) (handed i e);
        own_from = λ j. subst (λ (m : ℕ). OwnFrom 4 tree (6 * (row + 1 - m)) part) (size_is j e) o;
        none_from = λ f. absurd (f i);
      }
