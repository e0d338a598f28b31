-- A row is finished: its kind, and the records before those of its kids.
-- Assumes nothing.
use Prim.Native.Nat.{ℕ, ◌+◌, ◌-◌, ◌*◌}
use mathlib.Core.Path.{◌≡◌, sym, ap, ◌∙◌}
use mathlib.Core.List.{List, [], ◌∷◌}
use native.Mathlib.Omega.{arith}
use borrow.Author.Rules.{rules}
use lib.ListN.{length, get_or}
use lib.Seq.{get_or-set_other}
use Rattle.rows.specs.Record.{says}
use Rattle.rows.specs.Post.{Word, KindSet}
use Rattle.std.specs.Prelude.{Option}
use Rattle.roles.specs.declared.plan.Plan.{Plan}
use Rattle.roles.specs.declared.plan.Plan.TheVariants.{RestInObject, WrongRest, Compound}
use Rattle.roles.specs.Meaning.{commas, kind, before}
use Rattle.targets.specs.Post.{NoteFits, Written, begins_before, FinishFits, Finished}
use Rattle.targets.proofs.Records.{written_none, written_more}

module _ {rows : List ℕ} {root : ℕ} {of : Plan} {words start : ℕ} (f : FinishFits rows root of words start) where
  pub comma_fits : {comma : Option ℕ} → of ≡ RestInObject comma → NoteFits words start (commas comma)
  unfolding before
  comma_fits k = rw k at f.notes

  pub wrong_fits : {comma : Option ℕ} → of ≡ WrongRest comma → NoteFits words start (commas comma)
  unfolding before
  wrong_fits {comma} k =
      let n : NoteFits words start (says 3 (begins_before rows root) ∷ commas comma) = rw k at f.notes in
      let r = n.room in
      record { room = omega arith; inside = n.inside }

  pub argument_fits : {comma : Option ℕ} {r r' : List ℕ} {middle place : ℕ} → of ≡ WrongRest comma → Written r start (commas comma) r' middle → length r' ≡ words
      → NoteFits (length r') middle (says 3 place ∷ [])
  unfolding before
  argument_fits {comma} k w e =
      let n : NoteFits words start (says 3 (begins_before rows root) ∷ commas comma) = rw k at f.notes in
      let r = n.room in
      let i = n.inside in
      let b = w.begins in
      record { room = omega arith; inside = omega arith }

  pub compound_fits : {mark : ℕ} → of ≡ Compound mark → NoteFits words start (says 5 mark ∷ [])
  unfolding before
  compound_fits k = rw k at f.notes

pub finished : {rows₀ r₀ : List ℕ} {root : ℕ} {of : Plan} {start : ℕ} {rows r : List ℕ} {result kind' : ℕ} → KindSet rows₀ root kind' rows → kind' ≡ kind of
    → Written r₀ start (before (begins_before rows₀ root) of) r result → Finished rows₀ r₀ root of start rows r result
finished s e w = search rules

pub ends_comma : (b : ℕ) (of : Plan) {comma : Option ℕ} {r r' : List ℕ} {start result : ℕ} → of ≡ RestInObject comma → Written r start (commas comma) r' result → Written r start (before b of) r' result
unfolding before
ends_comma b of k w = rw k w

pub ends_compound : (b : ℕ) (of : Plan) {mark : ℕ} {r r' : List ℕ} {start result : ℕ} → of ≡ Compound mark → Written r start (says 5 mark ∷ []) r' result
    → Written r start (before b of) r' result
unfolding before
ends_compound b of k w = rw k w

pub ends_none : (b : ℕ) (of : Plan) {r : List ℕ} {start : ℕ} → before b of ≡ [] → Written r start (before b of) r start
ends_none b of e = written_none e

pub ends_wrong : {rows rows' r r₁ r₂ : List ℕ} {root : ℕ} {of : Plan} {comma : Option ℕ} {start middle result kind' place : ℕ} → FinishFits rows root of (length r) start → of ≡ WrongRest comma
    → KindSet rows root kind' rows' → Word rows' (root - 1) 2 place → Written r start (commas comma) r₁ middle → Written r₁ middle (says 3 place ∷ []) r₂ result
    → Written r start (before (begins_before rows root) of) r₂ result
unfolding before
ends_wrong {rows} {rows'} {root = root} {of = of} {comma = comma} {kind' = kind'} {place = place} f k s p w v =
    let l = f.low comma k in
    let same : place ≡ begins_before rows root = p.is ∙ ap (λ (ws : List ℕ). get_or ws (6 * (root - 1) + 2) 0) s.text ∙ get_or-set_other rows (6 * root) (6 * (root - 1) + 2) kind' 0 (λ q. omega arith) in
    rw (k, sym same) (written_more w v f.notes.inside)
