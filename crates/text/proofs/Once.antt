-- One answer for each input: any two results that a contract allows coincide, the answer and every byte of the buffer.
-- Assumes nothing.
use Rattle.std.specs.Prelude.{Option}
use Rattle.std.proofs.Common.{◌≡◌, ℕ, List, sym, ◌∙◌}
use Rattle.tokens.specs.declared.cause.Answer.{Answer}
use Rattle.text.specs.Text.{text, bad_file}
use Rattle.text.specs.Post.{Prints}

prints_once : {t out₀ a b : List ℕ} {x y : Option ℕ} → Prints out₀ t a x → Prints out₀ t b y → (x ≡ y) × (a ≡ b)
prints_once g h = (g.says ∙ sym h.says, g.bytes ∙ sym h.bytes)

-- print_answer
pub print_answer_once : (answer : Answer) (rows records out₀ : List ℕ) {a b : List ℕ} {x y : Option ℕ}
    → Prints out₀ (text answer rows records) a x → Prints out₀ (text answer rows records) b y → (x ≡ y) × (a ≡ b)
print_answer_once answer rows records out₀ = prints_once

-- print_bad_file
pub print_bad_file_once : (out₀ : List ℕ) {a b : List ℕ} {x y : Option ℕ} → Prints out₀ bad_file a x → Prints out₀ bad_file b y → (x ≡ y) × (a ≡ b)
print_bad_file_once out₀ = prints_once
