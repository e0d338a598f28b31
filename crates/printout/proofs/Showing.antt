-- The two ways out of `print_file`: no sheet's file, and a sheet's.
-- Assumes nothing.
use Rattle.std.specs.Prelude.{Option}
use Rattle.std.proofs.Common.{◌≡◌, ℕ, List, refl, sym, arith, Bor}
use Rattle.tokens.specs.declared.cause.Answer.{Answer}
use Rattle.tokens.specs.declared.Sheet as Lists
use Rattle.grammar.specs.Sheet.{sheet_of}
use Rattle.grammar.specs.Lent.{read_entry, Answers}
use Rattle.sheet_file.specs.Layout.{Sheet}
use Rattle.sheet_file.specs.Post.{Parts}
use Rattle.text.specs.Text.{text, bad_file}
use Rattle.text.specs.Post.{Prints}
use Rattle.text.proofs.Room.{Words}
use Rattle.printout.proofs.Room.{reading_room}
use Rattle.printout.specs.Printout.{reading_of, Shows, PrintsFile}

pub shows_no_sheet : {bytes r s out₀ out : List ℕ} {x : Option ℕ} → (Sheet bytes → ⊥) → Prints out₀ bad_file out x → PrintsFile bytes r s out₀ r s out x
shows_no_sheet none p = record { text = bad_file; shows = Shows.no_sheet none refl refl refl; prints = p; room = omega arith }

same_text : {x y : Answer} {a b c d : List ℕ} → x ≡ y → a ≡ b → c ≡ d → text x a c ≡ text y b d
same_text p q r = cc

-- what the reader answers for the lists that are handed back it answers for the sheet
pub shows_reading : {bytes : Bor (List ℕ)} {lists : Lists.Sheet} {r₀ s₀ r s out₀ out : List ℕ} {x : Answer} {y : Option ℕ} → Parts bytes lists
    → Answers (read_entry (sheet_of lists.kinds.now lists.flags.now) r₀ s₀) r s x → Words r → Words s → Prints out₀ (text x r s) out y → PrintsFile bytes.now r₀ s₀ out₀ r s out y
shows_reading {r₀ = r₀} {s₀} {r} {s} {x = x} h a m n p =
    let sheet = h.sheet in
    let b : Answers (reading_of sheet r₀ s₀) r s x = rw (sym h.kinds_are, sym h.flags_are) a in
    record {
      text = text x r s;
      shows = Shows.reading sheet (same_text b.answer b.rows b.records) b.rows b.records;
      prints = p;
      room = reading_room sheet.kinds sheet.flags r₀ s₀ x r s sheet.few_kinds b.answer m n;
    }
