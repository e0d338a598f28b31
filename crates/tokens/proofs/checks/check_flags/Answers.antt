-- `checks::check_flags` meets its contract.
use Rattle.tokens.proofs.Outside.{flags_refused}
use Rattle.tokens.proofs.checks.check_flags.Goals as goal

pub returns-in-Some : goal.returns-in-Some
returns-in-Some c = flags_refused _ _ c.in-Some.ensures

pub returns-in-None : goal.returns-in-None
returns-in-None c = flags_refused _ _ c.in-None.ensures
