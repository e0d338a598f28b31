-- Laws of records: of `GrownRecords`, that records were added, and `KeptRecords`, that the first ones are as they were.
-- Assumes nothing.
use Prim.Native.Nat.{ℕ, ◌+◌, ◌*◌, ◌≤◌}
use mathlib.Core.Path.{◌≡◌, refl, sym, ap, ◌∙◌}
use mathlib.Core.List.{List, [], ◌∷◌, ◌++◌, append-nil, append_assoc}
use native.Mathlib.Omega.{arith}
use lib.ListN.{length, take, length-append}
use Rattle.rows.specs.Record.{Record, says, record_words}
use Rattle.rows.specs.Post.{PushedRecord, GrownRecords, KeptRecords}
use Rattle.rows.proofs.Rows.{first_kept}

pub record_words_append : (xs ys : List Record) → record_words (xs ++ ys) ≡ record_words xs ++ record_words ys
unfolding record_words
record_words_append [] ys = refl
record_words_append (says number place ∷ xs) ys = ap (λ (l : List ℕ). number ∷ place ∷ l) (record_words_append xs ys)

pub length_record_words : (xs : List Record) → length (record_words xs) ≡ 2 * length xs
unfolding record_words
length_record_words [] = refl
length_record_words (says number place ∷ xs) = let e : length (record_words xs) ≡ 2 * length xs = length_record_words xs in omega arith

pub grown_records_none : (r : List ℕ) (n : ℕ) → GrownRecords r n r n []
unfolding record_words
grown_records_none r n = record { used = omega arith; text = sym (append-nil (take (2 * n) r)) }

pub grown_records_join : {r₀ r₁ r₂ : List ℕ} {n₀ n₁ n₂ : ℕ} {xs ys : List Record}
    → GrownRecords r₀ n₀ r₁ n₁ xs → GrownRecords r₁ n₁ r₂ n₂ ys → GrownRecords r₀ n₀ r₂ n₂ (xs ++ ys)
grown_records_join {r₀} {r₁} {r₂} {n₀} {n₁} {n₂} {xs} {ys} g h =
    record {
      used = let e : length (xs ++ ys) ≡ length xs + length ys = length-append xs ys in omega arith;
      text =
          h.text
          ∙ ap (λ (l : List ℕ). l ++ record_words ys) g.text
          ∙ append_assoc (take (2 * n₀) r₀) (record_words xs) (record_words ys)
          ∙ ap (λ (l : List ℕ). take (2 * n₀) r₀ ++ l) (sym (record_words_append xs ys));
    }

-- one record more
pub grown_record : {r₀ r : List ℕ} {n number place : ℕ} → PushedRecord r₀ n number place r → GrownRecords r₀ n r (n + 1) (says number place ∷ [])
unfolding record_words
grown_record h = record { used = omega arith; text = h.text }

pub kept_records_none : (r : List ℕ) (n : ℕ) → KeptRecords r n r
kept_records_none r n = record { text = refl }

pub kept_records_kept : {r₀ r₁ r₂ : List ℕ} {n : ℕ} → KeptRecords r₀ n r₁ → KeptRecords r₁ n r₂ → KeptRecords r₀ n r₂
kept_records_kept g h = record { text = h.text ∙ g.text }

pub kept_records_grown : {r₀ r₁ r₂ : List ℕ} {n n₂ : ℕ} {xs : List Record} → KeptRecords r₀ n r₁ → GrownRecords r₁ n r₂ n₂ xs → GrownRecords r₀ n r₂ n₂ xs
kept_records_grown {xs = xs} g h = record { used = h.used; text = h.text ∙ ap (λ (l : List ℕ). l ++ record_words xs) g.text }

pub grown_records_kept : {r₀ r₁ r₂ : List ℕ} {n₀ n₁ : ℕ} {xs : List Record}
    → 2 * n₀ ≤ length r₀ → GrownRecords r₀ n₀ r₁ n₁ xs → KeptRecords r₁ n₁ r₂ → KeptRecords r₀ n₀ r₂
grown_records_kept {r₀} {r₁} {r₂} {n₀} {n₁} {xs} room g h = record { text = first_kept r₀ r₁ r₂ (record_words xs) (2 * n₀) (2 * n₁) room (omega (arith, g.used)) h.text g.text }

-- records were added and are given up
pub kept_records_past : {r₀ r₁ : List ℕ} {n₀ n₁ : ℕ} {xs : List Record} → 2 * n₀ ≤ length r₀ → GrownRecords r₀ n₀ r₁ n₁ xs → KeptRecords r₀ n₀ r₁
kept_records_past room g = grown_records_kept room g (kept_records_none _ _)
