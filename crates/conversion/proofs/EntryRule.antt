-- The entry gives no error exactly where the target rule holds: on a well-formed tree, a row of it, and record words enough, it
-- answers Read with no record exactly if the subtree is an assignment target of the standard.
-- Assumes nothing.
use Prim.Native.Nat.{ℕ, ◌*◌, ◌≤◌}
use mathlib.Core.Path.{◌≡◌, refl, sym, ap, ◌∙◌}
use mathlib.Core.Logic.{◌↔◌}
use mathlib.Core.List.{List, [], ◌∷◌}
use native.Mathlib.Omega.{arith}
use lib.ListN.{length}
use Rattle.tokens.specs.declared.cause.Answer.{Answer}
use Rattle.tokens.specs.declared.cause.Counts.{Counts}
use Rattle.tokens.specs.declared.cause.Answer.TheVariants.{Read}
use Rattle.rows.specs.Tree.{Tree, size}
use Rattle.rows.specs.Record.{Record}
use Rattle.rows.specs.Handed.{Inside, chosen}
use Rattle.rows.proofs.Flat.{long, some_row}
use Rattle.conversion.specs.Conversion.{Outcome, turned, refused, convert}
use Rattle.conversion.specs.TargetRule.{Target}
use Rattle.conversion.proofs.RuleHolds.{target_rule}
use Rattle.conversion.specs.Entry.{Result, holds, Sized, done, Answered}
use Rattle.conversion.proofs.Once.{entry_once}

abbrev clean : ℕ → Answer
clean rows = Read (record { rows = rows; records = 0; abandoned = 0 })

sized : {words : List ℕ} {row : ℕ} → Inside words row → Sized words
sized i = let n = long i.whole in let s = some_row i.whole.tree in let f = i.whole.few in record { some = omega arith; few = omega arith }

-- with room lent, the answer is that of the conversion
answer_is : {words records : List ℕ} {row : ℕ} {a : Answer} {words' records' : List ℕ} → Answered words records row a words' records' → (i : Inside words row)
    → 2 * size (chosen i) ≤ length records → a ≡ (done words records row (chosen i) (convert (chosen i))).answer
answer_is g i h = ap (λ (x : Result). x.answer) (entry_once g.is (holds (sized i) (holds i.whole (holds i.has_row (holds h refl)))))

no_records : (rs : List Record) → length rs ≡ 0 → rs ≡ []
no_records [] e = refl
no_records (r ∷ rs) e = absurd (omega arith)

read_is : {c d : Counts} → Read c ≡ Read d → c ≡ d
read_is e = cc

clean_is : (words records : List ℕ) (row : ℕ) (t : Tree) (out : Outcome Tree) → (done words records row t out).answer ≡ clean (size t)
    → (t' : Tree) × (out ≡ turned t' [])
unfolding done
clean_is words records row t (refused c) e = cc
clean_is words records row t (turned t' rs) e = let n : length rs ≡ 0 = ap (λ (c : Counts). c.records) (read_is e) in (t', ap (turned t') (no_records rs n))

is_clean : (words records : List ℕ) (row : ℕ) (t t' : Tree) → (done words records row t (turned t' [])).answer ≡ clean (size t)
unfolding done
is_clean words records row t t' = refl

pub no_error : {words records : List ℕ} {row : ℕ} {a : Answer} {words' records' : List ℕ} → Answered words records row a words' records' → (i : Inside words row)
    → 2 * size (chosen i) ≤ length records → (a ≡ Read (record { rows = size (chosen i); records = 0; abandoned = 0 })) ↔ Target (chosen i)
no_error {words} {records} {row} g i h = (
  (λ e. (target_rule (chosen i)).0 (clean_is words records row (chosen i) (convert (chosen i)) (sym (answer_is g i h) ∙ e))),
  (λ d.
      let c = (target_rule (chosen i)).1 d in
      answer_is g i h
      ∙ ap (λ (out : Outcome Tree). (done words records row (chosen i) out).answer) c.1
      ∙ is_clean words records row (chosen i) c.0),
)
