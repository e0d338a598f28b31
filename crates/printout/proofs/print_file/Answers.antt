-- `print_file` meets its contract.
use Rattle.std.proofs.Common.{rules}
use Rattle.text.proofs.Room.{words}
use Rattle.printout.proofs.Showing.{shows_no_sheet, shows_reading}
use Rattle.printout.proofs.print_file.Goals as goal

pub returns-in_default : goal.returns-in_default
returns-in_default c = shows_no_sheet c.in_default.ensures c.print_bad_file.ensures

pub returns : goal.returns
returns c = shows_reading c.in-Some.ensures c.read-answer.ensures (words (λ i. search rules)) (words (λ i. search rules)) c.print_answer.ensures
