-- One answer for each input: any two results that the contract of `convert` allows coincide.
-- Assumes nothing.
use Prim.Native.Nat.{ℕ}
use mathlib.Core.Path.{◌≡◌, sym, ap, ◌∙◌}
use mathlib.Core.List.{List}
use Rattle.tokens.specs.declared.cause.Answer.{Answer}
use Rattle.rows.specs.Tree.{Tree}
use Rattle.rows.proofs.Flat.{well_formed_once}
use Rattle.conversion.specs.Entry.{Result, Check, holds, fails, Within, Entry, Answered}

-- whatever two facts the checks are passed with, the rest allows one result
check_once : {Fact : Type 0} {failed : Result} {rest : Fact → Result → Type 0} {x y : Result}
    → ((p q : Fact) → rest p x → rest q y → x ≡ y) → Check Fact failed rest x → Check Fact failed rest y → x ≡ y
check_once h (holds p a) (holds q b) = h p q a b
check_once h (holds p a) (fails n b) = absurd (n p)
check_once h (fails n a) (holds q b) = absurd (n q)
check_once h (fails n a) (fails m b) = a ∙ sym b

within_once : {words records : List ℕ} {row : ℕ} {x y : Result} (t u : Tree) → t ≡ u → Within words records row t x → Within words records row u y → x ≡ y
within_once {words} {records} {row} {x} {y} t u e a b =
    let c : Within words records row u x = rw e at a in
    check_once (λ _ _. check_once (λ _ _ p q. p ∙ sym q)) c b

pub entry_once : {words records : List ℕ} {row : ℕ} {x y : Result} → Entry words records row x → Entry words records row y → x ≡ y
entry_once = check_once (λ _ _. check_once (λ v w. within_once v.tree w.tree (well_formed_once v w)))

-- convert
pub answered_once : {words records : List ℕ} {row : ℕ} {a b : Answer} {words₁ words₂ records₁ records₂ : List ℕ} → Answered words records row a words₁ records₁
    → Answered words records row b words₂ records₂ → (a ≡ b) × (words₁ ≡ words₂) × (records₁ ≡ records₂)
answered_once g h =
    let e = entry_once g.is h.is in
    (ap (λ (x : Result). x.answer) e, ap (λ (x : Result). x.words) e, ap (λ (x : Result). x.records) e)
