-- What is added, one part after another: trees and records, rows over them, records after them; and what is given up again.
-- Assumes nothing.
use Rattle.std.specs.Prelude.{Ok}
use Prim.Native.Nat.{ℕ, ◌+◌, ◌*◌, ◌≤◌}
use mathlib.Core.Path.{◌≡◌, refl, sym, ap, subst, ◌∙◌}
use mathlib.Core.List.{List, [], ◌∷◌, ◌++◌}
use lib.ListN.{length}
use Rattle.rows.specs.Tree.{Tree, Forest, node, nil, one, join, count, flats}
use Rattle.rows.specs.Record.{Record, says}
use Rattle.rows.specs.Post.{Grown, GrownRecords}
use Rattle.rows.proofs.Rows.{grown_none, grown_join, grown_row, grown_leaf, grown_kept, kept_none, kept_kept, kept_grown, kept_past}
use Rattle.rows.proofs.Records.{grown_records_none, grown_records_join, grown_record, grown_records_kept, kept_records_none, kept_records_kept, kept_records_grown, kept_records_past}
use Rattle.grammar.specs.Sheet.{done, leaf}
use Rattle.grammar.specs.Job.{Job}
use Rattle.build.specs.Post.{cursor, Comes, Met, Made, Unmade, Leafed, Topped, Said}
use Rattle.build.specs.declared.cursor.Cursor.{Cursor}
use Rattle.build.proofs.Ends.{is_done}

-- rows that stand, as rows added to what stands
pub stands_now : {r₀ r : List ℕ} {n₀ n : ℕ} {ts : Forest} → 6 * n₀ ≤ length r₀ → Grown r₀ n₀ r n ts → Grown r n₀ r n ts
stands_now {ts = ts} room g = record { used = g.used; text = g.text ∙ ap (λ (l : List ℕ). l ++ flats ts) (sym (kept_past room g).text) }

module _ {r₀ s₀ : List ℕ} {n k : ℕ} where
  pub made_none : Made r₀ s₀ n k r₀ s₀ (cursor 0 n k) nil []
  made_none = record { grown = grown_none r₀ n; recorded = grown_records_none s₀ k }

  -- one after the other
  pub made_then : {r₁ s₁ r s : List ℕ} {d e : Cursor} {ts us : Forest} {rs rs' : List Record} → Made r₀ s₀ n k r₁ s₁ d ts rs → Made r₁ s₁ d.rows d.records r s e us rs'
      → Made r₀ s₀ n k r s e (join ts us) (rs ++ rs')
  made_then a b = record { grown = grown_join a.grown b.grown; recorded = grown_records_join a.recorded b.recorded }

  -- a row over one token
  pub made_leaf : {r : List ℕ} {at kind : ℕ} {d : Cursor} → Leafed r₀ (cursor at n k) kind r d → Made r₀ s₀ n k r s₀ d (one (leaf kind at)) []
  made_leaf {r} {at} {kind} h = rw h.is record { grown = grown_leaf h.pushed; recorded = grown_records_none s₀ k }

  -- a row over what was added
  pub made_top : {r₁ r s : List ℕ} {c d : Cursor} {kind mark first end kids : ℕ} {ts : Forest} {rs : List Record} → Made r₀ s₀ n k r₁ s c ts rs
      → Topped r₁ c kind mark first end kids n r d → kids ≡ count ts → Made r₀ s₀ n k r s d (one (node kind mark first end ts)) rs
  made_top a h e = rw h.is record { grown = grown_row a.grown h.pushed refl refl e refl; recorded = a.recorded }

  -- a record after what was added
  pub made_said : {r s₁ s : List ℕ} {c d : Cursor} {number place : ℕ} {ts : Forest} {rs : List Record} → Made r₀ s₀ n k r s₁ c ts rs → Said s₁ c number place s d
      → Made r₀ s₀ n k r s d ts (rs ++ (says number place ∷ []))
  made_said a h = rw h.is record { grown = a.grown; recorded = grown_records_join a.recorded (grown_record h.pushed) }

  -- the place of the cursor does not matter
  pub made_at : {r s : List ℕ} {d e : Cursor} {ts : Forest} {rs : List Record} → Made r₀ s₀ n k r s d ts rs → d.rows ≡ e.rows → d.records ≡ e.records → Made r₀ s₀ n k r s e ts rs
  made_at {r} {s} {d} {e} {ts} {rs} a p q =
      record {
        grown = subst (λ (x : ℕ). Grown r₀ n r x ts) p a.grown;
        recorded = subst (λ (x : ℕ). GrownRecords s₀ k s x rs) q a.recorded;
      }

  pub unmade_none : Unmade r₀ s₀ n k r₀ s₀
  unmade_none = record { kept = kept_none r₀ n; kept_records = kept_records_none s₀ k }

  -- what was added is given up
  pub unmade_past : {r s : List ℕ} {d : Cursor} {ts : Forest} {rs : List Record} → 6 * n ≤ length r₀ → 2 * k ≤ length s₀ → Made r₀ s₀ n k r s d ts rs → Unmade r₀ s₀ n k r s
  unmade_past w v a = record { kept = kept_past w a.grown; kept_records = kept_records_past v a.recorded }

  -- what was added stays, and then comes what is given up: all is given up
  pub unmade_after : {r₁ s₁ r s : List ℕ} {d : Cursor} {ts : Forest} {rs : List Record} → 6 * n ≤ length r₀ → 2 * k ≤ length s₀ → Made r₀ s₀ n k r₁ s₁ d ts rs
      → Unmade r₁ s₁ d.rows d.records r s → Unmade r₀ s₀ n k r s
  unmade_after w v a b = record { kept = grown_kept w a.grown b.kept; kept_records = grown_records_kept v a.recorded b.kept_records }

  -- what was given up, and then what is added
  pub made_again : {r₁ s₁ r s : List ℕ} {d : Cursor} {ts : Forest} {rs : List Record} → Unmade r₀ s₀ n k r₁ s₁ → Made r₁ s₁ n k r s d ts rs → Made r₀ s₀ n k r s d ts rs
  made_again u a = record { grown = kept_grown u.kept a.grown; recorded = kept_records_grown u.kept_records a.recorded }

  pub unmade_again : {r₁ s₁ r s : List ℕ} → Unmade r₀ s₀ n k r₁ s₁ → Unmade r₁ s₁ n k r s → Unmade r₀ s₀ n k r s
  unmade_again u v = record { kept = kept_kept u.kept v.kept; kept_records = kept_records_kept u.kept_records v.kept_records }

-- over what was added: what is made of those trees, with records after theirs; or all is given up
pub made_over : {r₀ s₀ r₁ s₁ r s : List ℕ} {n k : ℕ} {d e : Cursor} {ps ts : Forest} {rs rs' : List Record} → 6 * n ≤ length r₀ → Made r₀ s₀ n k r₁ s₁ d ps rs
    → Made r₁ s₁ n d.records r s e ts rs' → Made r₀ s₀ n k r s e ts (rs ++ rs')
made_over w a b = record { grown = kept_grown (kept_past w a.grown) b.grown; recorded = grown_records_join a.recorded b.recorded }

pub unmade_over : {r₀ s₀ r₁ s₁ r s : List ℕ} {n k : ℕ} {d : Cursor} {ps : Forest} {rs : List Record} → 6 * n ≤ length r₀ → 2 * k ≤ length s₀ → Made r₀ s₀ n k r₁ s₁ d ps rs
    → Unmade r₁ s₁ n d.records r s → Unmade r₀ s₀ n k r s
unmade_over w v a b = record { kept = kept_kept (kept_past w a.grown) b.kept; kept_records = grown_records_kept v a.recorded b.kept_records }

-- trees that stand, as the first that were made
pub stands_made : {r s : List ℕ} {from : ℕ} {ts : Forest} (c : Cursor) → Grown r from r c.rows ts → Made r s from c.records r s c ts []
stands_made {r} {s} c g = record { grown = g; recorded = grown_records_none s c.records }

-- one tree counts one
pub count_one : (ts : Forest) (t : Tree) → ts ≡ one t → count ts ≡ 1
unfolding count
count_one ts t e = rw e

module _ {ks fs r₀ s₀ m₀ r s m : List ℕ} {job : Job} {n k : ℕ} where
  -- a step that ends in a row over all that was added
  pub is_topped : {r₁ : List ℕ} {c d : Cursor} {kind mark first end kids : ℕ} {ts : Forest} {rs : List Record} → Topped r₁ c kind mark first end kids n r d
      → Comes ks fs job m₀ (done end (one (node kind mark first end ts)) rs m) → Made r₀ s₀ n k r₁ s c ts rs → kids ≡ count ts → Met ks fs r₀ s₀ m₀ r s m job n k (Ok d)
  is_topped {kind = kind} {mark} {first} {end} {ts = ts} {rs} top h a e =
      is_done refl record {
        trees = one (node kind mark first end ts);
        records = rs;
        comes = subst (λ (x : ℕ). Comes ks fs job m₀ (done x (one (node kind mark first end ts)) rs m)) (sym (ap (λ (x : Cursor). x.at) top.is)) h;
        made = made_top a top e;
      }

-- a step that ends in a row over one token
pub is_leafed : {ks fs r₀ m₀ r s m : List ℕ} {job : Job} {n k at kind : ℕ} {d : Cursor} → Leafed r₀ (cursor at n k) kind r d → Comes ks fs job m₀ (done (at + 1) (one (leaf kind at)) [] m)
    → Met ks fs r₀ s m₀ r s m job n k (Ok d)
is_leafed {ks} {fs} {m₀ = m₀} {m = m} {job = job} {at = at} {kind} top h =
    is_done refl record {
      trees = one (leaf kind at);
      records = [];
      comes = subst (λ (x : ℕ). Comes ks fs job m₀ (done x (one (leaf kind at)) [] m)) (sym (ap (λ (x : Cursor). x.at) top.is)) h;
      made = made_leaf top;
    }
