-- One answer for each input: any two results that the contract of an entry allows coincide, the answer and every word of both buffers; and so do those of check and finish.
-- Assumes nothing.
use Prim.Native.Nat.{ℕ}
use mathlib.Core.Path.{◌≡◌, sym, ◌∙◌}
use mathlib.Core.List.{List}
use Rattle.tokens.specs.declared.cause.Answer.{Answer}
use Rattle.grammar.specs.Sheet.{Sheet}
use Rattle.grammar.specs.Lent.{Given, read_entry, pattern_entry, Answers}
use Rattle.tokens.specs.Check.{Checked}
use Rattle.build.specs.Post.{Step}
use Rattle.reader.specs.Post.{Checks, CameOut, Finished}

answers_once : {g : Given} {r r' s s' : List ℕ} {x y : Answer} → Answers g r s x → Answers g r' s' y → (x ≡ y) × (r ≡ r') × (s ≡ s')
answers_once a b = (a.answer ∙ sym b.answer, a.rows ∙ sym b.rows, a.records ∙ sym b.records)

-- read
pub read_once : (sheet : Sheet) (r₀ s₀ : List ℕ) {r r' s s' : List ℕ} {x y : Answer} → Answers (read_entry sheet r₀ s₀) r s x → Answers (read_entry sheet r₀ s₀) r' s' y
    → (x ≡ y) × (r ≡ r') × (s ≡ s')
read_once sheet r₀ s₀ = answers_once

-- pattern
pub pattern_once : (sheet : Sheet) (r₀ s₀ : List ℕ) {r r' s s' : List ℕ} {x y : Answer} → Answers (pattern_entry sheet r₀ s₀) r s x → Answers (pattern_entry sheet r₀ s₀) r' s' y
    → (x ≡ y) × (r ≡ r') × (s ≡ s')
pattern_once sheet r₀ s₀ = answers_once

-- check
pub checks_once : {ks fs r s : List ℕ} {x y : Checked} → Checks ks fs r s x → Checks ks fs r s y → x ≡ y
checks_once g h = g.found ∙ sym h.found

-- finish, of what a reading came to: the answer and every word of both buffers
pub finished_once : {ks r₀ s₀ m : List ℕ} {got : Step} {r r' s s' : List ℕ} {x y : Answer} → CameOut ks r₀ s₀ m got → Finished ks r₀ s₀ m got r s x → Finished ks r₀ s₀ m got r' s' y
    → (x ≡ y) × (r ≡ r') × (s ≡ s')
finished_once c g h =
    let a = g.answers c.out c.came in
    let b = h.answers c.out c.came in
    (a.answer ∙ sym b.answer, a.rows ∙ sym b.rows, a.records ∙ sym b.records)
