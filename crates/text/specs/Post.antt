-- What the contracts say: a text was laid over a lent buffer, and how long it is; and of the leaves, that a text was added.
use Rattle.std.specs.Prelude.{◌≡◌, ◌∷◌, ◌++◌, if◌then◌else◌, Option, Some, None}
use Rattle.tokens.specs.Bool.{ℕ, List, [], ltb, length}

-- a text laid over a buffer: its bytes one by one as far as the buffer goes, and then what the buffer held
unfoldable pub laid_over : List ℕ → List ℕ → List ℕ
laid_over [] text = []
laid_over (b ∷ out) [] = b ∷ out
laid_over (b ∷ out) (t ∷ text) = t ∷ laid_over out text

abbrev pub printed : List ℕ → ℕ → Option ℕ  -- the answer of a print: how long the text is, or that the buffer is shorter
printed text room = if ltb room (length text) then None else Some (length text)

pub record Prints (out₀ text out : List ℕ) (answer : Option ℕ) : Type 0 where  -- the buffer and the answer after a text was printed, from the buffer's start on
  pub bytes : out ≡ laid_over out₀ text
  pub says : answer ≡ printed text (length out₀)

pub record Adds (text out₁ : List ℕ) (at : ℕ) (out₂ : List ℕ) (answer : Option ℕ) : Type 0 where  -- the text was added after whatever was printed before
  pub after : (out₀ before : List ℕ) → Prints out₀ before out₁ (Some at) → Prints out₀ (before ++ text) out₂ answer
