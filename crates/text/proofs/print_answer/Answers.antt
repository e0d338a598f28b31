-- `print_answer` meets its contract: the text of a refusal has no rows and no records.
use Rattle.text.specs.Text.{text}
use Rattle.text.proofs.print_answer.Goals as goal

pub returns-in-Refused : goal.returns-in-Refused
unfolding text
returns-in-Refused c = rw c.in-Refused.is c.print_refused.ensures
