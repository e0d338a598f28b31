-- Sheet files (RULES F1): which bytes are the file of which kinds and flags.
use Rattle.std.specs.Prelude.{◌/◌, ◌%◌, ◌≤◌, ◌≡◌, ◌∷◌, ◌++◌}
use Rattle.rows.specs.Base.{ℕ, zero, suc, List, [], length}

abbrev pub little_endian : ℕ → ℕ → List ℕ  -- the low bytes of a number, so many of them, the lowest first
little_endian zero n = []
little_endian (suc count) n = n % 256 ∷ little_endian count (n / 256)

abbrev pub u16 : ℕ → List ℕ
u16 n = little_endian 2 n

abbrev pub u32 : ℕ → List ℕ
u32 n = little_endian 4 n

abbrev pub block : ℕ → List ℕ → List ℕ  -- a block: u32 payload length, u16 block kind, payload
block kind payload = u32 (length payload) ++ (u16 kind ++ payload)

abbrev pub layout : List ℕ → List ℕ → List ℕ  -- two blocks, kinds (block kind 1) then flags (2), and nothing after
layout kinds flags = block 1 kinds ++ block 2 flags

pub record Sheet (bytes : List ℕ) : Type 0 where  -- the bytes are the file of these kinds and flags; a payload has at most 4,096 bytes
  pub kinds : List ℕ
  pub flags : List ℕ
  pub text : bytes ≡ layout kinds flags
  pub few_kinds : length kinds ≤ 4096
  pub few_flags : length flags ≤ 4096
