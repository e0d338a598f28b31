-- `reader::pattern` meets its contract.
use mathlib.Core.Path.{refl}
use Rattle.grammar.specs.Job.{binding_element}
use Rattle.reader.proofs.Entries.{begins, ends, came_out, entry_refuses, entry_ends}
use Rattle.reader.proofs.pattern.Goals as goal

pub element-got-requires : goal.element-got-requires
element-got-requires c = begins c.check.ensures c.in_default.is

pub finish-requires : goal.finish-requires
finish-requires c = record { ready = ends c.check.ensures c.in_default.is c.element-got.auto.rows c.element-got.auto.records; came_out = came_out (binding_element 0) refl refl c.element-got.ensures }

pub returns-in-Err : goal.returns-in-Err
returns-in-Err c = entry_refuses (binding_element 0) c.check.ensures c.in-Err.is

pub returns : goal.returns
returns c = entry_ends (binding_element 0) refl refl c.check.ensures c.in_default.is c.element-got.ensures c.element-got.auto.rows c.element-got.auto.records c.finish.ensures
