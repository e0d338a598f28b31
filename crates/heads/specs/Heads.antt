-- Where a head may open, the way that the box takes there, and what is left of a head that failed.
use Rattle.std.specs.Prelude.{◌≡◌, if◌then◌else◌}
use Rattle.rows.specs.Base.{ℕ, Bool, List, set, get_or, ◌or◌, ◌is◌}
use Rattle.tokens.specs.Kind.{Async, LParen, LCurly}
use Rattle.grammar.specs.{Reading.box, Sheet.sheet_of}
use Rattle.heads.specs.declared.Way.{Way}
use Rattle.rows.specs.Row as Row
use Rattle.grammar.specs.Arrow as Grammar

unfoldable pub may_open : ℕ → Bool  -- `(` and Async may open a head
may_open k = k is LParen or k is Async

unfoldable pub way_at : List ℕ → List ℕ → List ℕ → ℕ → Grammar.Way  -- the way that the box takes where the assignment level starts
way_at ks fs m at = if may_open (get_or ks at 0) then (box (sheet_of ks fs)).way at m else Grammar.pass

unfoldable pub way_of : Way → Grammar.Way  -- the code's ways
way_of Way.Pass = Grammar.pass
way_of Way.Attempt = Grammar.attempt
way_of Way.Commit = Grammar.commit

-- a head that failed is dropped: 1 is noted at its place, and there are as many records as before it
pub record Dropped (m₀ : List ℕ) (at said : ℕ) (m : List ℕ) (r : ℕ) : Type 0 where
  pub noted : m ≡ set m₀ at 1
  pub records : r ≡ said

unfoldable pub arrow_kind : List ℕ → ℕ → ℕ  -- the row of an arrow whose head begins at a place
arrow_kind ks at = if get_or ks at 0 is Async then Row.AsyncArrow else Row.Arrow

abbrev pub is_block : List ℕ → ℕ → Bool  -- a body that begins at a place is a block
is_block ks at = get_or ks at 0 is LCurly
