-- `sheet_of` meets its contract: both blocks are found, and nothing stands after them.
use Rattle.std.proofs.Common.{sym, ◌∙◌}
use Rattle.sheet_file.proofs.Files.{no_flags, too_long, parts}
use Rattle.sheet_file.proofs.sheet_of.Goals as goal

pub returns-in_err-flags : goal.returns-in_err-flags
returns-in_err-flags c = rw c.from_residual-in_err-flags.ensures (no_flags c.in_ok-kinds.ensures.is c.in_err-flags.ensures)

pub returns-then-not-is_empty : goal.returns-then-not-is_empty
returns-then-not-is_empty c = too_long c.in_ok-kinds.ensures.is c.in_ok-flags.ensures.is (sym c.is_empty.ensures ∙ c.if-not-is_empty.true)

pub returns : goal.returns
returns c = parts c.in_ok-kinds.ensures c.in_ok-flags.ensures (sym c.is_empty.ensures ∙ c.if-not-is_empty.false)
