-- Laws of blocks: what the first six bytes of a block say, and that they say it of no other payload.
-- Assumes nothing.
use Rattle.std.proofs.Common.{◌≡◌, ℕ, ◌+◌, ◌-◌, ◌*◌, ◌/◌, ◌%◌, ◌≤◌, ◌<◌, List, [], ◌∷◌, ◌++◌, length, get_or, take, drop, refl, sym, ap, ◌∙◌, arith, length-append, length-drop}
use Rattle.std.proofs.lemmas.List.{take-append-drop, length-take-le, take_at, drop_at, drop-drop, take_all}
use Rattle.sheet_file.specs.Layout.{block}
use Rattle.sheet_file.specs.Post.{Block}

-- the numbers that stand in the first six bytes, the lowest byte first
abbrev pub number : List ℕ → ℕ
number bytes = get_or bytes 0 0 + get_or bytes 1 0 * 256 + get_or bytes 2 0 * 65536 + get_or bytes 3 0 * 16777216

abbrev pub kind_of : List ℕ → ℕ
kind_of bytes = get_or bytes 4 0 + get_or bytes 5 0 * 256

cells : {a b c d e f a' b' c' d' e' f' : ℕ} {rest rest' : List ℕ} → a ≡ a' → b ≡ b' → c ≡ c' → d ≡ d' → e ≡ e' → f ≡ f' → rest ≡ rest'
    → a ∷ b ∷ c ∷ d ∷ e ∷ f ∷ rest ≡ a' ∷ b' ∷ c' ∷ d' ∷ e' ∷ f' ∷ rest'
cells p q r s t u v = cc

-- a number below 2 ^ 32 by its four bytes
record Bytes (n a b c d : ℕ) : Type 0 where
  pub a_is : a ≡ n % 256
  pub b_is : b ≡ n / 256 % 256
  pub c_is : c ≡ n / 256 / 256 % 256
  pub d_is : d ≡ n / 256 / 256 / 256 % 256

bytes_are : (n a b c d : ℕ) → a < 256 → b < 256 → c < 256 → d < 256 → n ≡ a + b * 256 + c * 65536 + d * 16777216 → Bytes n a b c d
bytes_are n a b c d ha hb hc hd e =
    let p : n / 256 ≡ b + 256 * (c + 256 * d) = omega arith in
    let q : n / 256 / 256 ≡ c + 256 * d = omega arith in
    let r : n / 256 / 256 / 256 ≡ d = omega arith in
    record { a_is = omega arith; b_is = omega arith; c_is = omega arith; d_is = omega arith }

-- the first six bytes are those of a block whose payload is inside
begins : (bytes : List ℕ) (kind n : ℕ) → ((i : ℕ) → get_or bytes i 0 < 256) → 6 ≤ length bytes → n ≡ number bytes → kind_of bytes ≡ kind
    → n ≤ 4096 → n ≤ length bytes - 6 → Block bytes kind (take n (drop 6 bytes)) (drop (6 + n) bytes)
begins [] kind n bound six = λ number kind few inside. absurd (omega arith)
begins (a ∷ []) kind n bound six = λ number kind few inside. absurd (omega arith)
begins (a ∷ b ∷ []) kind n bound six = λ number kind few inside. absurd (omega arith)
begins (a ∷ b ∷ c ∷ []) kind n bound six = λ number kind few inside. absurd (omega arith)
begins (a ∷ b ∷ c ∷ d ∷ []) kind n bound six = λ number kind few inside. absurd (omega arith)
begins (a ∷ b ∷ c ∷ d ∷ e ∷ []) kind n bound six = λ number kind few inside. absurd (omega arith)
begins (a ∷ b ∷ c ∷ d ∷ e ∷ f ∷ rest) kind n bound six = λ number kind_is few inside.
    let l : length (take n rest) ≡ n = length-take-le n rest (omega arith) in
    let h = bytes_are n a b c d (bound 0) (bound 1) (bound 2) (bound 3) number in
    let low : e < 256 = bound 4 in
    record {
      few = omega arith;
      text =
          cells
          (h.a_is ∙ ap (λ (m : ℕ). m % 256) (sym l))
          (h.b_is ∙ ap (λ (m : ℕ). m / 256 % 256) (sym l))
          (h.c_is ∙ ap (λ (m : ℕ). m / 256 / 256 % 256) (sym l))
          (h.d_is ∙ ap (λ (m : ℕ). m / 256 / 256 / 256 % 256) (sym l))
          (omega arith)
          (omega (arith, bound 5))
          (sym (take-append-drop n rest) ∙ ap (λ (x : List ℕ). take n rest ++ x) (drop-drop n 6 (a ∷ b ∷ c ∷ d ∷ e ∷ f ∷ rest)));
    }

-- and its parts as the code takes them
pub payload_long : (bytes : List ℕ) (n : ℕ) → 6 ≤ length bytes → n ≤ length bytes - 6 → length (take (6 + n - 6) (drop 6 bytes)) ≡ n
payload_long bytes n six inside = length-take-le (6 + n - 6) (drop 6 bytes) (simp length-drop (omega arith)) ∙ omega arith

pub splits : (bytes : List ℕ) (kind n : ℕ) → ((i : ℕ) → get_or bytes i 0 < 256) → 6 ≤ length bytes → n ≡ number bytes → kind_of bytes ≡ kind
    → n ≤ 4096 → n ≤ length bytes - 6 → Block bytes kind (take (6 + n - 6) (drop 6 bytes)) (take (length bytes - (6 + n)) (drop (6 + n) bytes))
splits bytes kind n bound six number kind_is few inside =
    let e : 6 + n - 6 ≡ n = omega arith in
    rw (e, take_all (length bytes - (6 + n)) (drop (6 + n) bytes) (simp length-drop (omega arith))) (begins bytes kind n bound six number kind_is few inside)

-- how many bytes a block has, and that its payload is as long as the first two say
pub long : {bytes : List ℕ} {kind : ℕ} {payload rest : List ℕ} → Block bytes kind payload rest → length bytes ≡ 6 + length payload + length rest
long {payload = payload} {rest} b = ap length b.text ∙ omega (arith, length-append payload rest)

length_is : {bytes : List ℕ} {kind : ℕ} {payload rest : List ℕ} → Block bytes kind payload rest → length payload ≡ get_or bytes 0 0 + 256 * get_or bytes 1 0
length_is {payload = payload} b = two_bytes (length payload) b.few ∙ sym (ap (λ (l : List ℕ). get_or l 0 0 + 256 * get_or l 1 0) b.text)
  where
    two_bytes : (n : ℕ) → n ≤ 4096 → n ≡ n % 256 + 256 * (n / 256 % 256)
    two_bytes n few = omega arith

-- the bytes begin with at most one block of a kind
module _ {bytes : List ℕ} {kind : ℕ} {p q r s : List ℕ} (b : Block bytes kind p r) (c : Block bytes kind q s) where
  longer : length p ≡ length q → length (block kind q) ≡ 6 + length p
  longer e = omega arith

  as_long : length p ≡ length q
  as_long = length_is b ∙ sym (length_is c)

  pub payload_once : p ≡ q
  payload_once =
      sym (take_at p r (length p) refl)
      ∙ ap (λ (l : List ℕ). take (length p) (drop 6 l)) (sym b.text ∙ c.text)
      ∙ take_at q s (length p) (sym as_long)

  pub rest_once : r ≡ s
  rest_once =
      sym (drop_at (block kind p) r (6 + length p) (omega arith))
      ∙ ap (drop (6 + length p)) (sym b.text ∙ c.text)
      ∙ drop_at (block kind q) s (6 + length p) (longer as_long)
