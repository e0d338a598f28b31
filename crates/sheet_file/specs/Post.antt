-- What the contracts say: which parts of a file are handed back, and where they stand.
use Rattle.std.specs.Prelude.{◌+◌, ◌≤◌, ◌≡◌, ◌++◌, Option, MatchOption}
use Rattle.std.specs.Borrow.{Bor}
use Rattle.rows.specs.Base.{ℕ, List, length}
use Rattle.rows.specs.Handed.{OwnFrom}
use Rattle.sheet_file.specs.{Layout.block, Layout.Sheet}
use Rattle.tokens.specs.declared.Sheet as Lists

pub record Block (bytes : List ℕ) (kind : ℕ) (payload rest : List ℕ) : Type 0 where  -- the bytes begin with the block of this payload
  pub few : length payload ≤ 4096
  pub text : bytes ≡ block kind payload ++ rest

-- the bytes begin with a block of this kind, and its payload and the bytes after it are parts of the caller's own bytes
pub record Begins (bytes : Bor (List ℕ)) (kind : ℕ) (payload rest : Bor (List ℕ)) : Type 0 where
  pub is : Block bytes.now kind payload.now rest.now
  pub payload_from : OwnFrom 1 bytes 6 payload
  pub rest_from : OwnFrom 1 bytes (6 + length payload.now) rest

-- the answer says whether the bytes begin with a block of this kind, and what its payload is
abbrev pub Opens : Bor (List ℕ) → ℕ → Option (Bor (List ℕ) × Bor (List ℕ)) → Type 0
Opens bytes kind answer = MatchOption answer ((payload rest : List ℕ) → Block bytes.now kind payload rest → ⊥) (λ p. Begins bytes kind p.0 p.1)

-- the bytes are a sheet's file, and the lists are its kinds and flags: the caller's own bytes, after the head of the first block and after that of the second
pub record Parts (bytes : Bor (List ℕ)) (lists : Lists.Sheet) : Type 0 where
  pub sheet : Sheet bytes.now
  pub kinds_are : lists.kinds.now ≡ sheet.kinds
  pub flags_are : lists.flags.now ≡ sheet.flags
  pub kinds_from : OwnFrom 1 bytes 6 lists.kinds
  pub flags_from : OwnFrom 1 bytes (6 + length sheet.kinds + 6) lists.flags

-- both lists of a sheet's file, and none exactly of a file that is no sheet's
abbrev pub HandedBack : Bor (List ℕ) → Option Lists.Sheet → Type 0
HandedBack bytes answer = MatchOption answer (Sheet bytes.now → ⊥) (λ lists. Parts bytes lists)
