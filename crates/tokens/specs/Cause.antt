-- The fourteen refusals, RULES A1 to A14: the number of each, and its place.
use Rattle.tokens.specs.Bool.{ℕ}
use Rattle.tokens.specs.declared.cause.Cause.{Cause}
use Rattle.tokens.specs.declared.cause.Cause.TheVariants.{Length, FlagLength, RowRoom, RecordRoom, Flag, Kind, Nesting, Unexpected, Target, Spread, RestName, RestLast, Tree, Outside}

abbrev pub number : Cause → ℕ
number (Length p) = 1
number (FlagLength p) = 2
number (RowRoom p) = 3
number (RecordRoom p) = 4
number (Flag p) = 5
number (Kind p) = 6
number (Nesting p) = 7
number (Unexpected p) = 8
number (Target p) = 9
number (Spread p) = 10
number (RestName p) = 11
number (RestLast p) = 12
number (Tree p) = 13
number (Outside p) = 14

abbrev pub place : Cause → ℕ
place (Length p) = p
place (FlagLength p) = p
place (RowRoom p) = p
place (RecordRoom p) = p
place (Flag p) = p
place (Kind p) = p
place (Nesting p) = p
place (Unexpected p) = p
place (Target p) = p
place (Spread p) = p
place (RestName p) = p
place (RestLast p) = p
place (Tree p) = p
place (Outside p) = p
