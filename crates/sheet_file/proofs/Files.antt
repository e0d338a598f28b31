-- Laws of sheet files: each way out of the function that takes a file apart.
-- Assumes nothing.
use Rattle.std.proofs.Common.{◌≡◌, ℕ, ◌+◌, ◌≤◌, ◌==◌, Bool, true, false, List, [], ◌∷◌, ◌++◌, length, sym, ap, ◌∙◌, arith, Bor, refl, append-nil}
use Rattle.std.proofs.lemmas.Bool.{eqb-true, eqb-false}
use Rattle.tokens.specs.declared.Sheet as Lists
use Rattle.sheet_file.specs.Layout.{block, layout, Sheet}
use Rattle.sheet_file.specs.Post.{Block, Begins, Parts}
use Rattle.sheet_file.proofs.Blocks.{long, payload_once, rest_once}

-- a sheet's file begins with the block of its kinds; what is left is the block of its flags
pub first_block : {bytes : List ℕ} (s : Sheet bytes) → Block bytes 1 s.kinds (block 2 s.flags)
first_block s = record { few = s.few_kinds; text = s.text }

pub second_block : {bytes kinds rest : List ℕ} → Block bytes 1 kinds rest → (s : Sheet bytes) → Block rest 2 s.flags []
second_block b s = record { few = s.few_flags; text = rest_once b (first_block s) ∙ sym (append-nil (block 2 s.flags)) }

-- no block of flags after that of kinds, or bytes after it
pub no_flags : {bytes kinds rest : List ℕ} → Block bytes 1 kinds rest → ((flags more : List ℕ) → Block rest 2 flags more → ⊥) → Sheet bytes → ⊥
no_flags b none s = none _ _ (second_block b s)

pub too_long : {bytes kinds rest flags more : List ℕ} → Block bytes 1 kinds rest → Block rest 2 flags more → (length more == 0) ≡ false → Sheet bytes → ⊥
too_long {more = more} b c e s = eqb-false (length more) 0 e (ap length (rest_once c (second_block b s)))

-- both blocks, and nothing after
empty : (l : List ℕ) → length l ≡ 0 → l ≡ []
empty [] e = refl
empty (x ∷ l) e = absurd (omega arith)

whole : {bytes kinds rest flags more : List ℕ} → Block bytes 1 kinds rest → Block rest 2 flags more → (length more == 0) ≡ true → bytes ≡ layout kinds flags
whole {kinds = kinds} {flags = flags} {more} b c e =
    let none : more ≡ [] = empty more (eqb-true (length more) 0 e) in
    b.text ∙ ap (λ (x : List ℕ). block 1 kinds ++ x) (c.text ∙ ap (λ (x : List ℕ). block 2 flags ++ x) none ∙ append-nil (block 2 flags))

abbrev pub lists : Bor (List ℕ) → Bor (List ℕ) → Lists.Sheet
lists kinds flags = record { kinds = kinds; flags = flags }

pub parts : {bytes kinds rest flags more : Bor (List ℕ)} → Begins bytes 1 kinds rest → Begins rest 2 flags more → (length more.now == 0) ≡ true → Parts bytes (lists kinds flags)
parts {kinds = kinds} {flags = flags} b c e =
    record {
      sheet = record { kinds = kinds.now; flags = flags.now; text = whole b.is c.is e; few_kinds = b.is.few; few_flags = c.is.few };
      kinds_are = refl;
      flags_are = refl;
      kinds_from = b.payload_from;
      flags_from = record { memory = c.payload_from.memory ∙ b.rest_from.memory; place = omega (arith, c.payload_from.place, b.rest_from.place) };
    }

-- no file is longer than its two blocks
pub longest : {bytes : List ℕ} → Sheet bytes → length bytes ≤ 8204
longest s = omega (arith, long (first_block s), s.few_kinds, s.few_flags)
