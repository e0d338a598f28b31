-- One answer for each input: any two results that a contract allows coincide. One law for each public function.
-- Assumes nothing.
use Prim.Native.Nat.{ℕ, ◌+◌, ◌*◌}
use mathlib.Core.Path.{◌≡◌, refl, sym, ap, ◌∙◌}
use mathlib.Core.Bool.{Bool, true, false}
use mathlib.Core.List.{List, ◌++◌}
use lib.ListN.{take, drop, take-append-drop}
use denote.Ref.{Bor}
use Rattle.rows.specs.Tree.{Tree, flat}
use Rattle.rows.specs.Part.{subtree}
use Rattle.rows.specs.Post.{Pushed, PushedRecord, Word, KindSet, Cleared}
use Rattle.rows.specs.Part.{Decides}
use Rattle.rows.specs.Handed.{OwnFrom, Handed, own, empty, HandedBack}
use Rattle.rows.proofs.Flat.{well_formed_once}

-- a list is known by what stands before a place and what stands from there on
known : (n : ℕ) (r s : List ℕ) → take n r ≡ take n s → drop n r ≡ drop n s → r ≡ s
known n r s p q =
    sym (take-append-drop n r)
    ∙ ap (λ (l : List ℕ). l ++ drop n r) p
    ∙ ap (λ (l : List ℕ). take n s ++ l) q
    ∙ take-append-drop n s

-- push_row
pub pushed_once : {r₀ r s : List ℕ} {n kind mark first end kids size : ℕ}
    → Pushed r₀ n kind mark first end kids size r → Pushed r₀ n kind mark first end kids size s → r ≡ s
pushed_once {n = n} g h = known (6 * (n + 1)) _ _ (g.text ∙ sym h.text) (g.rest ∙ sym h.rest)

-- push_record
pub pushed_record_once : {r₀ r s : List ℕ} {n number place : ℕ} → PushedRecord r₀ n number place r → PushedRecord r₀ n number place s → r ≡ s
pushed_record_once {n = n} g h = known (2 * (n + 1)) _ _ (g.text ∙ sym h.text) (g.rest ∙ sym h.rest)

-- row_word
pub word_once : {r : List ℕ} {n word x y : ℕ} → Word r n word x → Word r n word y → x ≡ y
word_once g h = g.is ∙ sym h.is

-- set_kind
pub kind_set_once : {r₀ r s : List ℕ} {n kind : ℕ} → KindSet r₀ n kind r → KindSet r₀ n kind s → r ≡ s
kind_set_once g h = g.text ∙ sym h.text

-- clear_from
pub cleared_once : {r₀ r s : List ℕ} {from : ℕ} → Cleared r₀ from r → Cleared r₀ from s → r ≡ s
cleared_once g h = g.text ∙ sym h.text

-- well_formed
pub decided_once : {Fact : Type 0} {a b : Bool} → Decides Fact a → Decides Fact b → a ≡ b
decided_once {a = true} {b = true} g h = refl
decided_once {a = true} {b = false} g h = absurd (h.fails refl (g.holds refl))
decided_once {a = false} {b = true} g h = absurd (g.fails refl (h.holds refl))
decided_once {a = false} {b = false} g h = refl

-- a part that is the caller's own from an element on stands at one place
pub own_once : {bytes from : ℕ} {lent part part' : Bor (List ℕ)} → OwnFrom bytes lent from part → OwnFrom bytes lent from part' → part.ref_ptr ≡ part'.ref_ptr
own_once g h = same (g.memory ∙ sym h.memory) (g.place ∙ sym h.place)
  where
    same : {p q : ℕ × ℕ} → p.0 ≡ q.0 → p.1 ≡ q.1 → p ≡ q
    same x y i = (x i, y i)

-- subtree: the words, and where they stand
pub handed_once : {words : List ℕ} {row : ℕ} {p q : List ℕ} → Handed words row p → Handed words row q → p ≡ q
handed_once {words} {row} (own i a b) (own j c d) = b ∙ ap (λ (t : Tree). flat (subtree t row)) (well_formed_once i.whole j.whole) ∙ sym d
handed_once (own i a b) (empty f d) = absurd (f i)
handed_once (empty f b) (own j c d) = absurd (f j)
handed_once (empty f b) (empty g d) = b ∙ sym d

pub handed_back_once : {tree p q : Bor (List ℕ)} {row : ℕ} → HandedBack tree row p → HandedBack tree row q → (p.now ≡ q.now) × (p.ref_ptr ≡ q.ref_ptr)
handed_back_once {tree} {p} {q} {row} g h = (handed_once g.words h.words, go g.words h.words)
  where
    go : {v w : List ℕ} → Handed tree.now row v → Handed tree.now row w → p.ref_ptr ≡ q.ref_ptr
    go (own i a b) _ = own_once (g.own_from i) (h.own_from i)
    go (empty f b) _ = own_once (g.none_from f) (h.none_from f)
