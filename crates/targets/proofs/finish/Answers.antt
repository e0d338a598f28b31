-- `targets::finish` meets its contract.
use borrow.Author.Rules.{rules}
use native.Mathlib.Omega.{arith}
use Rattle.roles.specs.Meaning.{before}
use Rattle.targets.proofs.Finishing.{comma_fits, wrong_fits, argument_fits, compound_fits, finished, ends_comma, ends_wrong, ends_compound, ends_none}
use Rattle.targets.proofs.finish.Goals as goal

pub write_comma-requires : goal.write_comma-requires
write_comma-requires c = comma_fits c.requires c.in-RestInObject.is

pub write_comma-middle-requires : goal.write_comma-middle-requires
write_comma-middle-requires c = wrong_fits c.requires c.in-WrongRest.is

pub write_record-requires : goal.write_record-requires
write_record-requires c = argument_fits c.requires c.in-WrongRest.is c.write_comma-middle.ensures (omega (arith, c.write_comma-middle.auto))

pub write_record-requires-in-Compound : goal.write_record-requires-in-Compound
write_record-requires-in-Compound c = compound_fits c.requires c.in-Compound.is

pub returns-in-RestInObject : goal.returns-in-RestInObject
returns-in-RestInObject c = finished c.set_kind.ensures c.kind.ensures (ends_comma _ _ c.in-RestInObject.is c.write_comma.ensures)

pub returns-in-WrongRest : goal.returns-in-WrongRest
returns-in-WrongRest c = finished c.set_kind.ensures c.kind.ensures (ends_wrong c.requires c.in-WrongRest.is c.set_kind.ensures c.word_at-begins.ensures c.write_comma-middle.ensures c.write_record.ensures)

pub returns-in-Compound : goal.returns-in-Compound
returns-in-Compound c = finished c.set_kind.ensures c.kind.ensures (ends_compound _ _ c.in-Compound.is c.write_record-in-Compound.ensures)

pub returns-in_default : goal.returns-in_default
unfolding before
returns-in_default c = finished c.set_kind.ensures c.kind.ensures (ends_none _ c.args.of (search rules))
