-- `targets::note_after` meets its contract.
use borrow.Author.Rules.{rules}
use Rattle.roles.specs.Meaning.{after}
use Rattle.targets.proofs.Records.{written_none}
use Rattle.targets.proofs.note_after.Goals as goal

pub write_comma-requires : goal.write_comma-requires
unfolding after
write_comma-requires c = rw c.in-RestInArray.is at c.requires

pub returns-in-RestInArray : goal.returns-in-RestInArray
unfolding after
returns-in-RestInArray c = rw c.in-RestInArray.is c.write_comma.ensures

pub returns-in_default : goal.returns-in_default
unfolding after
returns-in_default c = written_none (search rules)
