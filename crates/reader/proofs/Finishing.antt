-- `finish`: each way out of it.
-- Assumes nothing.
use Rattle.std.specs.Prelude.{Ok, Err}
use Prim.Native.Nat.{ℕ, ◌-◌, ◌*◌}
use mathlib.Core.Path.{◌≡◌, ap, subst, ◌∙◌}
use mathlib.Core.List.{List, ◌++◌}
use native.Mathlib.Omega.{arith}
use lib.ListN.{length, replicate}
use borrow.Author.Tests.{eq-eqb, ne_eqb}
use Rattle.tokens.specs.declared.cause.Cause.{Cause}
use Rattle.tokens.specs.declared.cause.Answer.{Answer}
use Rattle.rows.specs.Tree.{Forest, sizes, flats}
use Rattle.rows.specs.Record.{Record, record_words}
use Rattle.rows.specs.Post.{Cleared, Grown, GrownRecords}
use Rattle.rows.proofs.Flat.{length_flats}
use Rattle.rows.proofs.Records.{length_record_words, grown_records_join}
use Rattle.rows.proofs.Clear.{cleared_all, cleared_rows, cleared_records}
use Rattle.grammar.specs.Reading.{noted_places, unconverteds, at_end}
use Rattle.grammar.specs.Lent.{padded, answered, Ready}
use Rattle.build.specs.declared.cursor.Cursor.{Cursor}
use Rattle.build.specs.Post.{Step}
use Rattle.reader.specs.Post.{unconverted_rows, LastRoom, CameOut, Emptied, Finished}
use Rattle.reader.proofs.Last.{grown_unconverted}

-- the rows, or the records, and then zeros
padded_rows : {r₀ r : List ℕ} {n : ℕ} {ts : Forest} → Grown r₀ 0 r₀ n ts → Cleared r₀ (6 * n) r → r ≡ padded (flats ts) (length r₀)
unfolding padded
padded_rows {r₀} {r} {n} {ts} g h =
    let e : 6 * n ≡ length (flats ts) = omega (arith, g.used, length_flats ts) in
    cleared_rows g h ∙ ap (λ (i : ℕ). flats ts ++ replicate (length r₀ - i) 0) e

padded_records : {s₀ s₁ s : List ℕ} {n : ℕ} {records : List Record} → GrownRecords s₀ 0 s₁ n records → length s₁ ≡ length s₀ → Cleared s₁ (2 * n) s
    → s ≡ padded (record_words records) (length s₀)
unfolding padded
padded_records {s₀} {s₁} {s} {n} {records} g q h =
    let e : 2 * n ≡ length (record_words records) = omega (arith, g.used, length_record_words records) in
    cleared_records g h
    ∙ ap (λ (i : ℕ). record_words records ++ replicate (length s₁ - i) 0) e
    ∙ ap (λ (i : ℕ). record_words records ++ replicate (i - length (record_words records)) 0) q

same_counts : {a b c a' b' c' : ℕ} → a ≡ a' → b ≡ b' → c ≡ c'
    → Answer.Read (record { rows = a; records = b; abandoned = c }) ≡ Answer.Read (record { rows = a'; records = b'; abandoned = c' })
same_counts p q s = cc

module _ {ks r₀ s₀ m : List ℕ} {got : Step} where
  pub finish_fails : {r s : List ℕ} {cause : Cause} {x : Answer} → got ≡ Err cause → Emptied r₀ s₀ cause r s x → Finished ks r₀ s₀ m got r s x
  unfolding answered at_end
  finish_fails e c = record { answers = λ out h. rw (h.fail_at _ e) record { answer = c.answer; rows = cleared_all c.rows; records = cleared_all c.records } }

  -- something follows
  pub finish_follows : {r s : List ℕ} {d : Cursor} {x : Answer} → got ≡ Ok d → (d.at ≡ length ks → ⊥) → Emptied r₀ s₀ (Cause.Unexpected d.at) r s x
      → Finished ks r₀ s₀ m got r s x
  unfolding answered at_end
  finish_follows e t c =
      record {
        answers = λ out h. rw ((h.done_to _ e).outcome, ne_eqb _ _ t) record { answer = c.answer; rows = cleared_all c.rows; records = cleared_all c.records };
      }

  -- what the last pass asks
  pub last_room : {d : Cursor} → Ready ks r₀ s₀ → CameOut ks r₀ s₀ m got → got ≡ Ok d → LastRoom r₀ (length s₀) d.rows d.records
  last_room ready c e =
      let h = c.came.done_to _ e in
      let l = ap length (grown_unconverted h.rows) in
      record { inside = omega (arith, ready, h.few); few = omega (arith, ready, h.few); small = omega (arith, ready, h.paid, l); room = omega (arith, ready, h.paid, l) }

  pub finish_reads : {s₁ r s : List ℕ} {d : Cursor} {used abandoned : ℕ} → got ≡ Ok d → d.at ≡ length ks
      → GrownRecords s₀ d.records s₁ used (unconverted_rows r₀ 0 d.rows) → length s₁ ≡ length s₀ → Cleared r₀ (6 * d.rows) r → Cleared s₁ (2 * used) s → abandoned ≡ noted_places m
      → Finished ks r₀ s₀ m got r s (Answer.Read (record { rows = d.rows; records = used; abandoned = abandoned }))
  unfolding answered at_end
  finish_reads {s₁ = s₁} {d = d} {used = used} {abandoned = abandoned} e t g q a b n =
      record {
        answers = λ out h.
            let c = h.done_to _ e in
            let all : GrownRecords s₀ 0 s₁ used (c.said ++ unconverteds c.trees) =
            subst (λ (records : List Record). GrownRecords s₀ 0 s₁ used (c.said ++ records)) (grown_unconverted c.rows) (grown_records_join c.records g) in
            let rows_same : d.rows ≡ sizes c.trees = omega (arith, c.rows.used) in
            let records_same : used ≡ length (c.said ++ unconverteds c.trees) = omega (arith, all.used) in
            rw (c.outcome, eq-eqb _ _ t) record {
              answer = same_counts rows_same records_same n;
              rows = padded_rows c.rows a;
              records = padded_records all q b;
            };
      }
