-- The reader that asks an answer and notes the heads that failed. Assumes nothing.
use Prim.Native.Nat.{ℕ}
use mathlib.Core.Bool.{not}
use mathlib.Core.List.{List}
use lib.ListN.{get_or, set}
use Rattle.tokens.specs.Bool.{◌is◌}
use Rattle.lookahead.specs.declared.Tristate.{Tristate}
use Rattle.grammar.specs.Arrow.{Policy}
use Rattle.grammar.specs.Reading.{way_of}

-- the policy of an answer with notes: it passes where the answer is False, and where it is Maybe and the place is noted; else it tries a head where it is Maybe, and
-- commits where it is True; a place whose head failed is noted
abbrev pub asking : (ℕ → Tristate) → Policy (List ℕ)
asking answer = record { way = λ at notes. way_of (answer at) (not (get_or notes at 0 is 0)); mark = λ at notes. set notes at 1 }
