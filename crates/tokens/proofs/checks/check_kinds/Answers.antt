-- `checks::check_kinds` meets its contract.
use Rattle.tokens.proofs.Outside.{kinds_refused}
use Rattle.tokens.proofs.checks.check_kinds.Goals as goal

pub returns-in-Some : goal.returns-in-Some
returns-in-Some c = kinds_refused _ _ c.in-Some.ensures

pub returns-in-None : goal.returns-in-None
returns-in-None c = kinds_refused _ _ c.in-None.ensures
