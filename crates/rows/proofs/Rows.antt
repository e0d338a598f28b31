-- Laws of rows: of `Grown`, that the rows of a forest were added, and `Kept`, that the first rows are as they were.
-- Assumes nothing.
use Prim.Native.Nat.{ℕ, ◌+◌, ◌-◌, ◌*◌, ◌≤◌, ◌<◌}
use mathlib.Core.Path.{◌≡◌, refl, sym, ap, ◌∙◌}
use mathlib.Core.List.{List, ◌++◌, append-nil, append_assoc}
use native.Mathlib.Omega.{arith}
use native.Mathlib.Nat.{add_assoc}
use lib.ListN.{length, take}
use lib.Seq.{take-take, take-append-le, length-take-le}
use Rattle.rows.specs.Tree.{Tree, Forest, node, nil, cons, one, join, count, size, sizes, row, flat, flats}
use Rattle.rows.specs.Post.{Pushed, Grown, Kept}

pub sizes_join : (ts us : Forest) → sizes (join ts us) ≡ sizes ts + sizes us
unfolding sizes join
sizes_join nil us = omega arith
sizes_join (cons t ts) us = ap (λ (n : ℕ). size t + n) (sizes_join ts us) ∙ sym (add_assoc (size t) (sizes ts) (sizes us))

pub flats_join : (ts us : Forest) → flats (join ts us) ≡ flats ts ++ flats us
unfolding flats join
flats_join nil us = refl
flats_join (cons t ts) us = ap (λ (l : List ℕ). flat t ++ l) (flats_join ts us) ∙ sym (append_assoc (flat t) (flats ts) (flats us))

pub count_join : (ts us : Forest) → count (join ts us) ≡ count ts + count us
unfolding count join
count_join nil us = omega arith
count_join (cons t ts) us = let e : count (join ts us) ≡ count ts + count us = count_join ts us in omega arith

pub join_assoc : (ts us vs : Forest) → join (join ts us) vs ≡ join ts (join us vs)
unfolding join
join_assoc nil us vs = refl
join_assoc (cons t ts) us vs = ap (cons t) (join_assoc ts us vs)

pub join_nil : (ts : Forest) → join ts nil ≡ ts
unfolding join
join_nil nil = refl
join_nil (cons t ts) = ap (cons t) (join_nil ts)

-- the last tree of a forest, and those before it
pub record Next (ts : Forest) : Type 0 where
  pub rest : Forest
  pub kid : Tree
  pub is : ts ≡ join rest (one kid)

next_of : (t : Tree) (ts : Forest) → Next (cons t ts)
unfolding join
next_of t nil = record { rest = nil; kid = t; is = refl }
next_of t (cons u us) = let n = next_of u us in record { rest = cons t n.rest; kid = n.kid; is = ap (cons t) n.is }

pub next : (ts : Forest) → 0 < count ts → Next ts
unfolding count
next nil h = absurd (omega arith)
next (cons t ts) h = next_of t ts

pub grown_none : (r : List ℕ) (n : ℕ) → Grown r n r n nil
unfolding sizes flats
grown_none r n = record { used = omega arith; text = sym (append-nil (take (6 * n) r)) }

pub grown_join : {r₀ r₁ r₂ : List ℕ} {n₀ n₁ n₂ : ℕ} {ts us : Forest} → Grown r₀ n₀ r₁ n₁ ts → Grown r₁ n₁ r₂ n₂ us → Grown r₀ n₀ r₂ n₂ (join ts us)
grown_join {r₀} {r₁} {r₂} {n₀} {n₁} {n₂} {ts} {us} g h =
    record {
      used = let e : sizes (join ts us) ≡ sizes ts + sizes us = sizes_join ts us in omega arith;
      text = h.text ∙ ap (λ (l : List ℕ). l ++ flats us) g.text ∙ append_assoc (take (6 * n₀) r₀) (flats ts) (flats us) ∙ ap (λ (l : List ℕ). take (6 * n₀) r₀ ++ l) (sym (flats_join ts us));
    }

-- a row over what was added
pub grown_row : {r₀ r₁ r₂ : List ℕ} {n₀ n₁ n i : ℕ} {ts : Forest} {k m a e j s : ℕ} → Grown r₀ n₀ r₁ n₁ ts
    → Pushed r₁ i k m a e j s r₂ → i ≡ n₁ → n ≡ n₁ + 1 → j ≡ count ts → s ≡ n₁ - n₀ + 1
    → Grown r₀ n₀ r₂ n (one (node k m a e ts))
unfolding sizes flats
grown_row {r₀} {r₁} {r₂} {n₀} {n₁} {n} {i} {ts} {k} {m} {a} {e} {j} {s} g h u v p q =
    record {
      used = omega arith;
      text =
          let z : s ≡ sizes ts + 1 = omega arith in
          ap (λ (x : ℕ). take (6 * x) r₂) (v ∙ ap (λ (x : ℕ). x + 1) (sym u))
          ∙ h.text
          ∙ ap (λ (x : ℕ). take (6 * x) r₁ ++ row k m a e j s) u
          ∙ ap (λ (l : List ℕ). l ++ row k m a e j s) g.text
          ∙ append_assoc (take (6 * n₀) r₀) (flats ts) (row k m a e j s)
          ∙ ap (λ (x : ℕ). take (6 * n₀) r₀ ++ (flats ts ++ row k m a e x s)) p
          ∙ ap (λ (x : ℕ). take (6 * n₀) r₀ ++ (flats ts ++ row k m a e (count ts) x)) z
          ∙ ap (λ (l : List ℕ). take (6 * n₀) r₀ ++ l) (sym (append-nil (flats ts ++ row k m a e (count ts) (sizes ts + 1))));
    }

-- a row that stands alone
pub grown_leaf : {r₀ r : List ℕ} {n : ℕ} {k m a e : ℕ} → Pushed r₀ n k m a e 0 1 r → Grown r₀ n r (n + 1) (one (node k m a e nil))
unfolding count
grown_leaf {r₀} {r} {n} h = grown_row (grown_none r₀ n) h refl refl refl (omega arith)

pub kept_none : (r : List ℕ) (n : ℕ) → Kept r n r
kept_none r n = record { text = refl }

pub kept_kept : {r₀ r₁ r₂ : List ℕ} {n : ℕ} → Kept r₀ n r₁ → Kept r₁ n r₂ → Kept r₀ n r₂
kept_kept g h = record { text = h.text ∙ g.text }

pub kept_grown : {r₀ r₁ r₂ : List ℕ} {n n₂ : ℕ} {ts : Forest} → Kept r₀ n r₁ → Grown r₁ n r₂ n₂ ts → Grown r₀ n r₂ n₂ ts
kept_grown {ts = ts} g h = record { used = h.used; text = h.text ∙ ap (λ (l : List ℕ). l ++ flats ts) g.text }

-- the first a words stay where those up to b stay that begin with them
pub first_kept : (r₀ r₁ r₂ x : List ℕ) (a b : ℕ) → a ≤ length r₀ → a ≤ b → take b r₂ ≡ take b r₁ → take b r₁ ≡ take a r₀ ++ x → take a r₂ ≡ take a r₀
first_kept r₀ r₁ r₂ x a b room less h g =
    sym (take-take a b r₂ less)
    ∙ ap (take a) (h ∙ g)
    ∙ take-append-le a (take a r₀) x (rw (length-take-le a r₀ room) (omega arith))
    ∙ take-take a a r₀ (omega arith)

pub grown_kept : {r₀ r₁ r₂ : List ℕ} {n₀ n₁ : ℕ} {ts : Forest} → 6 * n₀ ≤ length r₀ → Grown r₀ n₀ r₁ n₁ ts → Kept r₁ n₁ r₂ → Kept r₀ n₀ r₂
grown_kept {r₀} {r₁} {r₂} {n₀} {n₁} {ts} room g h = record { text = first_kept r₀ r₁ r₂ (flats ts) (6 * n₀) (6 * n₁) room (omega (arith, g.used)) h.text g.text }

-- rows were added and are given up
pub kept_past : {r₀ r₁ : List ℕ} {n₀ n₁ : ℕ} {ts : Forest} → 6 * n₀ ≤ length r₀ → Grown r₀ n₀ r₁ n₁ ts → Kept r₀ n₀ r₁
kept_past room g = grown_kept room g (kept_none _ _)
