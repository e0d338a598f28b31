-- The answer of the three-way entry: its checks 1, 2, 5, 6, 14 in this order, and then the three-way answer.
use Rattle.std.specs.Prelude.{if◌then◌else◌, Result, Ok, Err}
use Rattle.tokens.specs.Bool.{ℕ, Bool, List, ltb, length}
use Rattle.tokens.specs.{Check.◌and_then◌, Check.check_length, Check.check_flag_length, Check.check_flags, Check.check_kinds, declared.cause.Cause.Cause}
use Rattle.tokens.specs.Check.{Checked}
use Rattle.lookahead.specs.{ThreeWay.three_way, declared.Tristate.Tristate}

abbrev pub ThreeWay : Type 0  -- the answer of the entry: what is told, or a refusal
ThreeWay = Result Tristate Cause

unfoldable pub check_place : List ℕ → ℕ → Checked  -- 14: a place outside
check_place kinds at = if ltb at (length kinds) then Ok tt else Err (Cause.Outside 0)

unfoldable pub checked : Checked → ThreeWay → ThreeWay  -- what the checks refuse, and else the answer
checked (Ok fine) answer = answer
checked (Err cause) answer = Err cause

unfoldable pub three_way_entry : List ℕ → List ℕ → Bool → Bool → ℕ → ThreeWay
three_way_entry kinds flags is_ts is_jsx at =
    checked
    (check_length kinds and_then check_flag_length kinds flags and_then check_flags flags and_then check_kinds kinds and_then check_place kinds at)
    (Ok (three_way kinds flags is_ts is_jsx at))
