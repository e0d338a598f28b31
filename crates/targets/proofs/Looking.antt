-- What the code reads of a row and of its last kid is what the definition looks at.
-- Assumes nothing.
use Prim.Native.Nat.{ℕ, ◌+◌, ◌-◌, ◌≤◌, ◌<◌}
use mathlib.Core.Path.{◌≡◌, refl, sym, ap, ◌∙◌}
use mathlib.Core.List.{List}
use native.Mathlib.Omega.{arith}
use borrow.Author.Rules.{rules}
use lib.ListN.{get_or}
use Rattle.rows.specs.Tree.{Tree, Forest, node, nil, cons, one, join, count, size, row, kind_of, mark_of, first_of, end_of, kids_of}
use Rattle.rows.specs.Post.{Word}
use Rattle.rows.proofs.Rows.{Next}
use Rattle.conversion.specs.Conversion.{Role, change, last_or, last_of}
use Rattle.roles.specs.Meaning as means
use Rattle.targets.specs.Post.{Subtree, near, begins_of, FirstRow, PlanAt}
use Rattle.roles.specs.declared.Seen.{Seen}
use Rattle.roles.specs.declared.plan.Plan.{Plan}
use Rattle.targets.proofs.Flat.{no_kid, root_words, root_word, walk_start, walk_more, kid_tree, kid_size}

words_are : (t : Tree) → root_words t ≡ row (kind_of t) (mark_of t) (first_of t) (end_of t) (count (kids_of t)) (size t)
unfolding root_words kind_of mark_of first_of end_of kids_of size
words_are t = search rules

module _ {rows : List ℕ} {root : ℕ} (h : Subtree rows root) where
  reads_word : {x : ℕ} (i : ℕ) → i < 6 → Word rows root i x
      → x ≡ get_or (row (kind_of h.tree) (mark_of h.tree) (first_of h.tree) (end_of h.tree) (count (kids_of h.tree)) (size h.tree)) i 0
  reads_word i l w = w.is ∙ root_word h i l ∙ ap (λ (ws : List ℕ). get_or ws i 0) (words_are h.tree)

  pub reads_kind : {x : ℕ} → Word rows root 0 x → x ≡ kind_of h.tree
  reads_kind w = reads_word 0 (omega arith) w

  pub reads_mark : {x : ℕ} → Word rows root 1 x → x ≡ mark_of h.tree
  reads_mark w = reads_word 1 (omega arith) w

  pub reads_first : {x : ℕ} → Word rows root 2 x → x ≡ first_of h.tree
  reads_first w = reads_word 2 (omega arith) w

  pub reads_kids : {x : ℕ} → Word rows root 4 x → x ≡ count (kids_of h.tree)
  reads_kids w = reads_word 4 (omega arith) w

  pub reads_size : {x : ℕ} → Word rows root 5 x → x ≡ size h.tree
  reads_size w = reads_word 5 (omega arith) w

last_join : (u : Tree) (ts : Forest) (t : Tree) → last_or u (join ts (one t)) ≡ t
unfolding join
last_join u nil t = refl
last_join u (cons v vs) t = last_join v vs t

-- the last kid of a row that has one
module _ {rows : List ℕ} {root : ℕ} (h : Subtree rows root) (some : 0 < count (kids_of h.tree)) where
  abbrev the_last : Next (kids_of h.tree)
  the_last = walk_more (walk_start h) some

  last_is : last_of (kids_of h.tree) ≡ the_last.kid
  last_is = ap last_of the_last.is ∙ last_join (node 0 0 0 0 nil) the_last.rest the_last.kid

  last_kind : {x : ℕ} → Word rows (root - 1) 0 x → x ≡ kind_of (last_of (kids_of h.tree))
  last_kind w = reads_kind (kid_tree (walk_start h) the_last) w ∙ sym (ap kind_of last_is)

  -- where it begins
  pub last_begins : {x : ℕ} → Word rows (root - 1) 2 x → x ≡ begins_of h.tree
  last_begins w = reads_first (kid_tree (walk_start h) the_last) w ∙ sym (ap first_of last_is)

  pub kid_before : 1 ≤ root
  kid_before = let s = kid_size (walk_start h) the_last in omega arith

-- the row has a kid
more_than : {rows : List ℕ} {root kids : ℕ} (h : Subtree rows root) → Word rows root 4 kids → (kids ≡ 0 → ⊥) → 0 < count (kids_of h.tree)
more_than h d some = let e = reads_kids h d in omega (arith, some)

pub has_kid : {rows : List ℕ} {root kids : ℕ} → Subtree rows root → Word rows root 4 kids → (kids ≡ 0 → ⊥) → 1 ≤ root
has_kid h d some = kid_before h (more_than h d some)

-- the first row of a tree, by its size
pub first_fits : {rows : List ℕ} {root x size : ℕ} → Subtree rows root → Word rows root 5 x → size ≡ x → size ≤ root + 1
first_fits h w e = let s = reads_size h w in let p = h.place in omega arith

pub first_is : {rows : List ℕ} {root x size : ℕ} → Word rows root 5 x → size ≡ x → FirstRow rows root (root + 1 - size)
first_is w e = record { is = λ h. let s = reads_size h w in let p = h.place in omega arith }

near_is : (t : Tree) (s : Seen) → s.kind ≡ kind_of t → s.mark ≡ mark_of t → s.first ≡ first_of t → s.kids ≡ count (kids_of t)
    → s.last ≡ kind_of (last_of (kids_of t)) → s.begins ≡ begins_of t → means.seen s ≡ near t
unfolding near kind_of mark_of first_of kids_of
near_is t s a b c d l g = search rules

-- the plan of what the code reads of a row and of its last kid, where it has one
pub plan_seen : {rows : List ℕ} {root : ℕ} {role : Role} {of : Plan} {s : Seen} → Word rows root 0 s.kind → Word rows root 1 s.mark → Word rows root 2 s.first → Word rows root 4 s.kids
    → ((h : Subtree rows root) → (s.last ≡ kind_of (last_of (kids_of h.tree))) × (s.begins ≡ begins_of h.tree))
    → means.plan s.begins of ≡ change role (means.seen s) → PlanAt rows root role of
plan_seen {role = role} {of = of} {s = s} wk wm wf wn l e =
    record {
      is = λ h.
          ap (λ (b : ℕ). means.plan b of) (sym (l h).1)
          ∙ e
          ∙ ap (change role) (near_is h.tree s (reads_kind h wk) (reads_mark h wm) (reads_first h wf) (reads_kids h wn) (l h).0 (l h).1);
    }

-- with no kid nothing is read of it
pub sees_none : {rows : List ℕ} {root kids below begins : ℕ} → Word rows root 4 kids → kids ≡ 0 → below ≡ 0 → begins ≡ 0 → (h : Subtree rows root)
    → (below ≡ kind_of (last_of (kids_of h.tree))) × (begins ≡ begins_of h.tree)
unfolding kind_of first_of
sees_none wn z b g h =
    let none : last_of (kids_of h.tree) ≡ node 0 0 0 0 nil = ap last_of (no_kid (kids_of h.tree) (sym (reads_kids h wn) ∙ z)) in
    (b ∙ sym (ap kind_of none), g ∙ sym (ap first_of none))

pub sees_last : {rows : List ℕ} {root kids below begins x y : ℕ} → Word rows root 4 kids → (kids ≡ 0 → ⊥) → Word rows (root - 1) 0 x → Word rows (root - 1) 2 y → below ≡ x → begins ≡ y
    → (h : Subtree rows root) → (below ≡ kind_of (last_of (kids_of h.tree))) × (begins ≡ begins_of h.tree)
sees_last wn some wk wb b g h = let more = more_than h wn some in (b ∙ last_kind h more wk, g ∙ last_begins h more wb)
