-- Records that are written from the back: each stands before those that are written already.
-- Assumes nothing.
use Prim.Native.Nat.{ℕ, suc, ◌+◌, ◌-◌, ◌*◌, ◌≤◌, ◌<◌}
use mathlib.Core.Path.{◌≡◌, refl, sym, ap, ◌∙◌}
use mathlib.Core.List.{List, [], ◌∷◌, ◌++◌, append_assoc}
use native.Mathlib.Omega.{arith}
use lib.ListN.{length, take, drop, set, length-append, length-set, take-append-drop}
use lib.Seq.{length-take-le, drop_at, take-take, take-append-le, set_split, take-suc-set, drop-set-lt}
use Rattle.rows.specs.Record.{Record, says, record_words}
use Rattle.rows.proofs.Records.{record_words_append}
use Rattle.targets.specs.Post.{Filled, Written, NoteFits}

-- nothing is written
pub filled_none : (r : List ℕ) (start : ℕ) → Filled r start [] r
unfolding record_words
filled_none r start =
    let e : 2 * (start + 0) ≡ 2 * start = omega arith in
    record { text = sym (ap (λ (n : ℕ). take (2 * start) r ++ drop n r) e ∙ take-append-drop (2 * start) r) }

-- of what was written from m on: the words before an earlier place
before_part : (r₀ x : List ℕ) (n m : ℕ) → n ≤ m → m ≤ length r₀ → take n (take m r₀ ++ x) ≡ take n r₀
before_part r₀ x n m h l = let e = length-take-le m r₀ l in take-append-le n (take m r₀) x (omega arith) ∙ take-take n m r₀ h

-- records in front of those that are written
pub filled_more : {r₀ r₁ r₂ : List ℕ} {start middle : ℕ} {rs ss : List Record} → Filled r₀ middle ss r₁ → Filled r₁ start rs r₂ → start + length rs ≡ middle
    → 2 * middle ≤ length r₀ → Filled r₀ start (rs ++ ss) r₂
filled_more {r₀} {r₁} {r₂} {start} {middle} {rs} {ss} f g e h =
    let low : 2 * start ≤ 2 * middle = omega arith in
    let a : take (2 * start) r₁ ≡ take (2 * start) r₀ = ap (take (2 * start)) f.text ∙ before_part r₀ _ (2 * start) (2 * middle) low h in
    let b : drop (2 * (start + length rs)) r₁ ≡ record_words ss ++ drop (2 * (middle + length ss)) r₀ =
    ap (λ (n : ℕ). drop (2 * n) r₁) e ∙ ap (drop (2 * middle)) f.text ∙ drop_at (take (2 * middle) r₀) _ (2 * middle) (length-take-le (2 * middle) r₀ h) in
    let n : 2 * (start + length (rs ++ ss)) ≡ 2 * (middle + length ss) = simp length-append (omega arith) in
    record { text = g.text ∙ rw (a, b, n, record_words_append rs ss, append_assoc) refl }

pub filled_one : (r : List ℕ) (start number place : ℕ) → 2 * start + 2 ≤ length r
    → Filled r start (says number place ∷ []) (set (set r (2 * start) number) (2 * start + 1) place)
unfolding record_words
filled_one r start number place h =
    let i = 2 * start in
    let s : i + 1 ≡ suc i = omega arith in
    let n : 2 * (start + 1) ≡ suc (suc i) = omega arith in
    let l : i < length r = omega arith in
    let l' : suc i < length (set r i number) = simp length-set (omega arith) in
    record {
      text =
          ap (λ (j : ℕ). set (set r i number) j place) s
          ∙ set_split (set r i number) (suc i) place l'
          ∙ rw (take-suc-set r i number l, drop-set-lt (suc (suc i)) r i number (omega arith), n, append_assoc) refl;
    }

pub written_none : {r : List ℕ} {end : ℕ} {records : List Record} → records ≡ [] → Written r end records r end
written_none {r} {end} e = rw e (record { begins = omega arith; filled = filled_none r end })

pub written_one : {r : List ℕ} {end number place : ℕ} → NoteFits (length r) end (says number place ∷ [])
    → Written r end (says number place ∷ []) (set (set r (2 * (end - 1)) number) (2 * (end - 1) + 1) place) (end - 1)
written_one {r} {end} {number} {place} h =
    let a = h.room in
    let b = h.inside in
    record { begins = omega arith; filled = filled_one r (end - 1) number place (omega arith) }

-- records after which others are written
pub written_more : {r₀ r₁ r₂ : List ℕ} {end middle start : ℕ} {rs ss : List Record} → Written r₀ end ss r₁ middle → Written r₁ middle rs r₂ start
    → 2 * end ≤ length r₀ → Written r₀ end (rs ++ ss) r₂ start
written_more a b h =
    let e = a.begins in
    let f = b.begins in
    record { begins = simp length-append (omega arith); filled = filled_more a.filled b.filled f (omega arith) }
