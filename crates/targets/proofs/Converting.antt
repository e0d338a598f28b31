-- A row is judged, and turned where it was judged fine.
-- Assumes nothing.
use Rattle.std.specs.Prelude.{Ok, Err}
use Prim.Native.Nat.{ℕ, ◌+◌}
use mathlib.Core.Path.{◌≡◌, refl, sym, ap, ◌∙◌}
use mathlib.Core.Bool.{Bool, true}
use mathlib.Core.List.{List}
use native.Mathlib.Omega.{arith}
use borrow.Author.Rules.{rules}
use lib.ListN.{length}
use Rattle.tokens.specs.declared.cause.Cause.{Cause}
use Rattle.rows.specs.Tree.{Tree}
use Rattle.conversion.specs.Conversion.{Outcome, is_reference, convert_as}
use Rattle.conversion.proofs.RuleHolds.{refused_turned}
use Rattle.rows.specs.Post.{Word, KindSet}
use Rattle.roles.specs.ShortCut.{named_kind}
use Rattle.roles.specs.declared.plan.Plan.{Plan}
use Rattle.roles.specs.Meaning as means
use Rattle.targets.specs.Outcome as outcome
use Rattle.targets.specs.Post.{Subtree, Judged, Ready, TurnedRow, Room, RowConverted}
use Rattle.targets.specs.Outcome.{Conversion}
use Rattle.conversion.proofs.Potentials.{comma_count, pays, turned_is, turned_records}
use Rattle.targets.proofs.Records.{filled_none}
use Rattle.targets.proofs.ShortCuts.{reference_turned, one_set}
use Rattle.targets.proofs.Judging.{found_turned, both_none}

no_comma : (b : Bool) → comma_count (means.aim b) ≡ 0
no_comma b = search rules

aimed_is : (simple : Bool) → means.kid (means.aimed simple) true ≡ means.aim simple
unfolding means.kid
aimed_is simple = search rules

-- what was found is what comes of the row in the role that is aimed at
module _ {rows : List ℕ} {root : ℕ} {under : Plan} (simple : Bool) {found : Conversion} (u : under ≡ means.aimed simple) (j : Judged rows root (means.kid under true) (Ok 0) found) where
  role_is : means.kid under true ≡ means.aim simple
  role_is = ap (λ (of : Plan). means.kid of true) u ∙ aimed_is simple

  found_is : (h : Subtree rows root) (out : Outcome Tree) → convert_as h.tree (means.aim simple) ≡ out → found ≡ outcome.found out
  found_is h out q = j.is h ∙ both_none _ ∙ ap outcome.found (ap (convert_as h.tree) role_is ∙ q)

  pub convert_fails : {r : List ℕ} {used : ℕ} {c : Cause} → found ≡ Err c → RowConverted rows r root (means.aim simple) used rows r (Err c)
  convert_fails {c = c} f =
      record {
        done = λ h t rs q. let z : Err c ≡ Ok (length rs) = sym f ∙ found_is h _ q in absurd cc;
        fail = λ h cause q. (sym f ∙ found_is h _ q, refl, refl);
      }

  pub convert_ready : {words used n : ℕ} → Room rows root words used → found ≡ Ok n → Ready rows root (means.kid under true) words (used + n)
  convert_ready {words} {used} {n} m f =
      let a = found_turned (convert_as m.rooted.tree (means.kid under true)) n (sym (j.is m.rooted ∙ both_none _) ∙ f) in
      let p = (pays m.rooted.tree (means.kid under true) a.0 a.1 a.2).is in
      let c : comma_count (means.kid under true) ≡ 0 = ap comma_count role_is ∙ no_comma simple in
      let l = a.3 in
      let i = m.room in
      record { rooted = m.rooted; made = a.0; records = a.1; accepted = a.2; room = omega arith; inside = omega arith }

  pub convert_done : {r rows' r' : List ℕ} {used n start : ℕ} → found ≡ Ok n → TurnedRow rows r root (means.kid under true) (used + n) rows' r' start
      → RowConverted rows r root (means.aim simple) used rows' r' (Ok n)
  convert_done {used = used} {n = n} {start = start} f tr =
      record {
        done = λ h t rs q.
            let z : Ok n ≡ Ok (length rs) = sym f ∙ found_is h _ q in
            let l : n ≡ length rs = cc in
            let m = tr.is h t rs (ap (convert_as h.tree) role_is ∙ q) in
            let s : start ≡ used = let b = m.0 in omega arith in
            (z, rw s at m.1);
        fail = λ h cause q. let z : Ok n ≡ Err cause = sym f ∙ found_is h _ q in absurd cc;
      }

-- a name, a Member or an Index is all there is to convert
pub convert_reference : {rows r rows' : List ℕ} {root used kind kind' : ℕ} (simple : Bool) {b : Bool} → Word rows root 0 kind → b ≡ is_reference kind → b ≡ true
    → kind' ≡ named_kind kind → KindSet rows root kind' rows' → RowConverted rows r root (means.aim simple) used rows' r (Ok 0)
convert_reference {rows} {r} {rows'} {root} {used} {kind} simple w e t n k =
    record {
      done = λ h t' rs q.
          let b = sym q ∙ reference_turned simple h w (sym e ∙ t) in
          rw (turned_is b, turned_records b) (refl, record { text = k.text ∙ rw (n, w.is) (one_set h); filled = filled_none r used });
      fail = λ h cause q. let z = sym q ∙ reference_turned simple h w (sym e ∙ t) in absurd (refused_turned z);
    }
