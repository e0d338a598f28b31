-- Laws of lines: numbers added one by one make the line of a group of words, and lines the lines of many.
-- Assumes nothing.
use Rattle.std.specs.Prelude.{Option}
use Rattle.std.proofs.Common.{◌≡◌, ℕ, suc, ◌+◌, ◌-◌, ◌*◌, ◌≤◌, ◌<◌, List, [], ◌∷◌, ◌++◌, length, get_or, refl, sym, ap, ◌∙◌, arith, append-nil, append_assoc}
use Rattle.text.specs.Text.{decimal, space, newline, line, words_from, line_of, lines_from}
use Rattle.text.specs.Post.{Adds}

-- what is left of a line: so many words from a place on, at least one
pub line_more : (words : List ℕ) (at left : ℕ) → line (words_from words at (suc (suc left))) ≡ (decimal (get_or words at 0) ++ (space ∷ [])) ++ line (words_from words (at + 1) (suc left))
unfolding line words_from
line_more words at left = sym (append_assoc (decimal (get_or words at 0)) (space ∷ []) _)

pub line_last : (words : List ℕ) (at : ℕ) → line (words_from words at 1) ≡ decimal (get_or words at 0) ++ (newline ∷ [])
unfolding line words_from
line_last words at = refl

-- of a group of words, from the word i on
abbrev pub line_left : List ℕ → ℕ → ℕ → ℕ → List ℕ
line_left words width n i = line (words_from words (width * n + i) (width - i))

pub line_starts : (words : List ℕ) (width n : ℕ) → line_of words width n ≡ line_left words width n 0
line_starts words width n = let p : width * n + 0 ≡ width * n = omega arith in let q : width - 0 ≡ width = omega arith in rw (p, q)

pub line_goes_on : (words : List ℕ) (width n i : ℕ) {x : ℕ} → i < width - 1 → x ≡ get_or words (width * n + i) 0
    → line_left words width n i ≡ (decimal x ++ (space ∷ [])) ++ line_left words width n (i + 1)
line_goes_on words width n i l e =
    let p : width - i ≡ suc (suc (width - i - 2)) = omega arith in
    let q : width - (i + 1) ≡ suc (width - i - 2) = omega arith in
    let r : width * n + (i + 1) ≡ width * n + i + 1 = omega arith in
    rw (p, q, r, line_more words (width * n + i) (width - i - 2), e)

pub line_ends : (words : List ℕ) (width n i : ℕ) {x : ℕ} → width ≡ i + 1 → x ≡ get_or words (width * n + (width - 1)) 0
    → line_left words width n i ≡ (decimal x ++ (newline ∷ [])) ++ []
line_ends words width n i {x} l e =
    let p : width - i ≡ 1 = omega arith in
    let q : width * n + i ≡ width * n + (width - 1) = omega arith in
    rw (p, q, line_last words (width * n + (width - 1)), e) (sym (append-nil _))

-- the lines of the groups from n on
pub lines_more : (words : List ℕ) (width n left : ℕ) → lines_from words width n (suc left) ≡ line_of words width n ++ lines_from words width (n + 1) left
unfolding lines_from
lines_more words width n left = refl

pub lines_none : (words : List ℕ) (width n : ℕ) → lines_from words width n 0 ≡ []
unfolding lines_from
lines_none words width n = refl

pub lines_start : (words : List ℕ) (width count : ℕ) → lines_from words width 0 count ≡ lines_from words width 0 (count - 0)
lines_start words width count = let e : count - 0 ≡ count = omega arith in rw e

pub lines_go_on : (words : List ℕ) (width count n : ℕ) → n < count → lines_from words width n (count - n) ≡ line_of words width n ++ lines_from words width (n + 1) (count - (n + 1))
lines_go_on words width count n l = let p : count - n ≡ suc (count - (n + 1)) = omega arith in rw (p, lines_more words width n (count - (n + 1)))

pub lines_end : (words : List ℕ) (width count n : ℕ) → count ≤ n → lines_from words width n (count - n) ≡ []
lines_end words width count n l = let p : count - n ≡ 0 = omega arith in rw (p, lines_none words width n)

-- lines of two and of three numbers
pub line_two : (a b : ℕ) → (decimal a ++ (space ∷ [])) ++ (decimal b ++ (newline ∷ [])) ≡ line (a ∷ b ∷ [])
unfolding line
line_two a b = append_assoc (decimal a) (space ∷ []) (decimal b ++ (newline ∷ []))

pub line_three : (a b c : ℕ) → (decimal a ++ (space ∷ [])) ++ ((decimal b ++ (space ∷ [])) ++ (decimal c ++ (newline ∷ []))) ≡ line (a ∷ b ∷ c ∷ [])
unfolding line
line_three a b c =
    append_assoc (decimal a) (space ∷ []) ((decimal b ++ (space ∷ [])) ++ (decimal c ++ (newline ∷ [])))
    ∙ ap (λ (l : List ℕ). decimal a ++ (space ∷ l)) (append_assoc (decimal b) (space ∷ []) (decimal c ++ (newline ∷ [])))
