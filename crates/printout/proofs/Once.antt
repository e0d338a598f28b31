-- One answer for each input: any two results that the contract allows coincide, the answer and every word and byte of the buffers.
-- Assumes nothing.
use Rattle.std.specs.Prelude.{Option}
use Prim.Native.Nat.{ℕ}
use mathlib.Core.Path.{◌≡◌, sym, ap, ◌∙◌}
use mathlib.Core.List.{List}
use lib.ListN.{length}
use Rattle.grammar.specs.Sheet.{sheet_of}
use Rattle.grammar.specs.Lent.{Given, read_entry}
use Rattle.sheet_file.specs.Layout.{Sheet}
use Rattle.sheet_file.proofs.Once.{kinds_once, flags_once}
use Rattle.text.specs.Post.{laid_over, printed}
use Rattle.printout.specs.Printout.{text_of, reading_of, Shows, PrintsFile}

-- a file is that of one sheet, so the reader gives one answer
given_once : {bytes : List ℕ} (s t : Sheet bytes) (rows records : List ℕ) → reading_of s rows records ≡ reading_of t rows records
given_once s t rows records =
    ap (λ (kinds : List ℕ). read_entry (sheet_of kinds s.flags) rows records) (kinds_once s t)
    ∙ ap (λ (flags : List ℕ). read_entry (sheet_of t.kinds flags) rows records) (flags_once s t)

pub record Same (text text' rows rows' records records' : List ℕ) : Type 0 where
  pub one_text : text ≡ text'
  pub one_tree : rows ≡ rows'
  pub one_list : records ≡ records'

pub shows_once : {bytes r₀ s₀ t t' r r' s s' : List ℕ} → Shows bytes r₀ s₀ t r s → Shows bytes r₀ s₀ t' r' s' → Same t t' r r' s s'
shows_once {r₀ = r₀} {s₀} (Shows.reading x a b c) (Shows.reading y d e f) =
    let g = given_once x y r₀ s₀ in
    record {
      one_text = a ∙ ap text_of g ∙ sym d;
      one_tree = b ∙ ap (λ (given : Given). given.rows) g ∙ sym e;
      one_list = c ∙ ap (λ (given : Given). given.records) g ∙ sym f;
    }
shows_once (Shows.reading x a b c) (Shows.no_sheet none d e f) = absurd (none x)
shows_once (Shows.no_sheet none a b c) (Shows.reading y d e f) = absurd (none y)
shows_once (Shows.no_sheet none a b c) (Shows.no_sheet none' d e f) = record { one_text = a ∙ sym d; one_tree = b ∙ sym e; one_list = c ∙ sym f }

-- print_file
pub print_file_once : {bytes r₀ s₀ out₀ r r' s s' out out' : List ℕ} {x y : Option ℕ} → PrintsFile bytes r₀ s₀ out₀ r s out x → PrintsFile bytes r₀ s₀ out₀ r' s' out' y
    → (x ≡ y) × (r ≡ r') × (s ≡ s') × (out ≡ out')
print_file_once {out₀ = out₀} g h =
    let e = shows_once g.shows h.shows in (
      g.prints.says ∙ ap (λ (t : List ℕ). printed t (length out₀)) e.one_text ∙ sym h.prints.says,
      e.one_tree,
      e.one_list,
      g.prints.bytes ∙ ap (laid_over out₀) e.one_text ∙ sym h.prints.bytes,
    )
