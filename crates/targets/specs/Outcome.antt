-- What the code finds of an outcome: the number of its records, or its cause.
use Rattle.std.specs.Prelude.{◌+◌, Result, Ok, Err}
use Rattle.rows.specs.Base.{ℕ, length}
use Rattle.conversion.specs.Conversion.{Outcome, turned, refused, Change, refuse, keep, turn}
use Rattle.tokens.specs.declared.cause.Cause.{Cause}

abbrev pub Conversion : Type 0  -- what comes of a conversion: the number of records added, or why it is refused
Conversion = Result ℕ Cause

abbrev pub found : {A : Type 0} → Outcome A → Conversion  -- the number of records, or the refusal
found (turned a records) = Ok (length records)
found (refused cause) = Err cause

abbrev pub both : Conversion → Conversion → Conversion  -- what is found of a row and of the rows after it
both (Err cause) rest = Err cause
both (Ok n) (Err cause) = Err cause
both (Ok n) (Ok m) = Ok (n + m)

abbrev pub own : Change → Conversion  -- what a change gives by itself: its refusal, or the records beside those of the kids
own (refuse cause) = Err cause
own (keep kind records) = Ok (length records)
own (turn kind before kids after) = Ok (length before + length after)
