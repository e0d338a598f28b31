-- `reader::read` meets its contract.
use mathlib.Core.Path.{refl}
use Rattle.grammar.specs.Job.{expression}
use Rattle.reader.proofs.Entries.{begins, ends, came_out, entry_refuses, entry_ends}
use Rattle.reader.proofs.read.Goals as goal

pub comma-got-requires : goal.comma-got-requires
comma-got-requires c = begins c.check.ensures c.in_default.is

pub finish-requires : goal.finish-requires
finish-requires c = record { ready = ends c.check.ensures c.in_default.is c.comma-got.auto.rows c.comma-got.auto.records; came_out = came_out (expression 0) refl refl c.comma-got.ensures }

pub returns-in-Err : goal.returns-in-Err
returns-in-Err c = entry_refuses (expression 0) c.check.ensures c.in-Err.is

pub returns : goal.returns
returns c = entry_ends (expression 0) refl refl c.check.ensures c.in_default.is c.comma-got.ensures c.comma-got.auto.rows c.comma-got.auto.records c.finish.ensures
