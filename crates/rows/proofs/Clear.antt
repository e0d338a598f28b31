-- Laws of clearing: what is left is what was added.
-- Assumes nothing.
use Prim.Native.Nat.{ℕ, ◌-◌, ◌*◌}
use mathlib.Core.Path.{◌≡◌, ap, ◌∙◌}
use mathlib.Core.List.{List, ◌++◌}
use native.Mathlib.Omega.{arith}
use lib.ListN.{length, replicate}
use Rattle.rows.specs.Tree.{Forest, flats}
use Rattle.rows.specs.Record.{Record, record_words}
use Rattle.rows.specs.Post.{Cleared, Grown, GrownRecords}

-- all words are 0
pub cleared_all : {r r' : List ℕ} → Cleared r 0 r' → r' ≡ replicate (length r) 0
cleared_all {r} h = h.text ∙ ap (λ (n : ℕ). replicate n 0) (let e : length r - 0 ≡ length r = omega arith in e)

-- the rows that were added, and then zeros; the same of records
pub cleared_rows : {r₀ r r' : List ℕ} {n : ℕ} {ts : Forest} → Grown r₀ 0 r n ts → Cleared r (6 * n) r' → r' ≡ flats ts ++ replicate (length r - 6 * n) 0
cleared_rows {r = r} {n = n} g h = h.text ∙ ap (λ (l : List ℕ). l ++ replicate (length r - 6 * n) 0) g.text

pub cleared_records : {r₀ r r' : List ℕ} {n : ℕ} {records : List Record}
    → GrownRecords r₀ 0 r n records → Cleared r (2 * n) r' → r' ≡ record_words records ++ replicate (length r - 2 * n) 0
cleared_records {r = r} {n = n} g h = h.text ∙ ap (λ (l : List ℕ). l ++ replicate (length r - 2 * n) 0) g.text
