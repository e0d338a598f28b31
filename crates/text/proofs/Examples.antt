-- The texts of RULES F4, computed: the sheet `[a, b] = c`, a refusal, and a record.
-- Assumes nothing.
use Prim.Native.Nat.{ℕ}
use mathlib.Core.Path.{◌≡◌, refl}
use mathlib.Core.List.{List, [], ◌∷◌}
use Rattle.tokens.specs.declared.cause.Answer.{Answer}
use Rattle.tokens.specs.declared.cause.Cause.{Cause}
use Rattle.text.specs.Text.{ascii, last_digits, decimal, line, words_from, lines_from, text}

-- the words of P1's rows
pub p1 : List ℕ
p1 =
    40 ∷ 1 ∷ 1 ∷ 2 ∷ 0 ∷ 1
    ∷ 40 ∷ 3 ∷ 3 ∷ 4 ∷ 0 ∷ 1
    ∷ 42 ∷ 0 ∷ 0 ∷ 5 ∷ 2 ∷ 3
    ∷ 1 ∷ 6 ∷ 6 ∷ 7 ∷ 0 ∷ 1
    ∷ 25 ∷ 5 ∷ 0 ∷ 7 ∷ 2 ∷ 5 ∷ []

pub p1_prints : text (Answer.Read (record { rows = 5; records = 0; abandoned = 0 })) p1 []
    ≡ ascii "read 5 0 0\n40 1 1 2 0 1\n40 3 3 4 0 1\n42 0 0 5 2 3\n1 6 6 7 0 1\n25 5 0 7 2 5\n"
unfolding last_digits decimal line words_from lines_from text p1
p1_prints = refl

pub refusal_prints : text (Answer.Refused (Cause.Target 0)) [] [] ≡ ascii "refused 9 0\n"
unfolding last_digits decimal line text
refusal_prints = refl

-- P7 has record 4 at 0
pub p7_prints : lines_from (4 ∷ 0 ∷ []) 2 0 1 ≡ ascii "4 0\n"
unfolding last_digits decimal line words_from lines_from
p7_prints = refl
