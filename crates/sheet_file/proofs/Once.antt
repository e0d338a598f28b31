-- A file is that of one sheet, what is laid out comes back, and any two results that the contract allows coincide.
-- Assumes nothing.
use Rattle.std.proofs.Common.{◌≡◌, ℕ, ◌+◌, ◌≤◌, List, length, refl, sym, ap, ◌∙◌, Bor, Option, Some, None}
use Rattle.rows.proofs.Once.{own_once}
use Rattle.tokens.specs.declared.Sheet as Lists
use Rattle.sheet_file.specs.Layout.{layout, Sheet}
use Rattle.sheet_file.specs.Post.{Parts, HandedBack}
use Rattle.sheet_file.proofs.Blocks.{payload_once}
use Rattle.sheet_file.proofs.Files.{first_block, second_block}

-- a list of bytes is the layout of at most one pair
pub kinds_once : {bytes : List ℕ} (s t : Sheet bytes) → s.kinds ≡ t.kinds
kinds_once s t = payload_once (first_block s) (first_block t)

pub flags_once : {bytes : List ℕ} (s t : Sheet bytes) → s.flags ≡ t.flags
flags_once s t = payload_once (second_block (first_block s) s) (second_block (first_block s) t)

-- sheet_of: which it answers, and of each list the bytes, and where they stand
pub record Same (a b : Lists.Sheet) : Type 0 where
  pub kinds : a.kinds.now ≡ b.kinds.now
  pub kinds_place : a.kinds.ref_ptr ≡ b.kinds.ref_ptr
  pub flags : a.flags.now ≡ b.flags.now
  pub flags_place : a.flags.ref_ptr ≡ b.flags.ref_ptr

parts_once : {bytes : Bor (List ℕ)} {a b : Lists.Sheet} → Parts bytes a → Parts bytes b → Same a b
parts_once {bytes} {b = b} p q =
    let flags_from = rw (ap (λ (l : List ℕ). 6 + length l + 6) (kinds_once q.sheet p.sheet)) at q.flags_from in
    record {
      kinds = p.kinds_are ∙ kinds_once p.sheet q.sheet ∙ sym q.kinds_are;
      kinds_place = own_once p.kinds_from q.kinds_from;
      flags = p.flags_are ∙ flags_once p.sheet q.sheet ∙ sym q.flags_are;
      flags_place = own_once p.flags_from flags_from;
    }

pub data Alike : Option Lists.Sheet → Option Lists.Sheet → Type 0 where
  both : {a b : Lists.Sheet} → Same a b → Alike (Some a) (Some b)
  neither : Alike None None

pub sheet_of_once : (bytes : Bor (List ℕ)) (a b : Option Lists.Sheet) → HandedBack bytes a → HandedBack bytes b → Alike a b
sheet_of_once bytes (Some a) (Some b) p q = Alike.both (parts_once p q)
sheet_of_once bytes (Some a) None p q = absurd (q p.sheet)
sheet_of_once bytes None (Some b) p q = absurd (p q.sheet)
sheet_of_once bytes None None p q = Alike.neither

-- the layout of kinds and flags, of at most 4,096 each, is a sheet's file, and what is handed back of it is these
module _ (kinds flags : List ℕ) (few_kinds : length kinds ≤ 4096) (few_flags : length flags ≤ 4096) where
  pub laid_out : Sheet (layout kinds flags)
  laid_out = record { kinds = kinds; flags = flags; text = refl; few_kinds = few_kinds; few_flags = few_flags }

  pub record Back (answer : Option Lists.Sheet) : Type 0 where
    pub lists : Lists.Sheet
    pub handed : answer ≡ Some lists
    pub kinds_are : lists.kinds.now ≡ kinds
    pub flags_are : lists.flags.now ≡ flags

  pub comes_back : (bytes : Bor (List ℕ)) → bytes.now ≡ layout kinds flags → (answer : Option Lists.Sheet) → HandedBack bytes answer → Back answer
  comes_back bytes e None h = absurd (h (record { kinds = kinds; flags = flags; text = e; few_kinds = few_kinds; few_flags = few_flags }))
  comes_back bytes e (Some lists) h =
      let s : Sheet bytes.now = record { kinds = kinds; flags = flags; text = e; few_kinds = few_kinds; few_flags = few_flags } in
      record { lists = lists; handed = refl; kinds_are = h.kinds_are ∙ kinds_once h.sheet s; flags_are = h.flags_are ∙ flags_once h.sheet s }
