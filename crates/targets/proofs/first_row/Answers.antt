-- `targets::first_row` meets its contract.
use mathlib.Core.Path.{refl}
use native.Mathlib.Omega.{arith}
use Rattle.targets.proofs.Flat.{root_inside}
use Rattle.targets.proofs.Looking.{first_fits, first_is}
use Rattle.targets.proofs.ShortCuts.{word_inside}
use Rattle.targets.proofs.first_row.Goals as goal

pub overflow_add-result : goal.overflow_add-result
overflow_add-result c = omega (arith, root_inside c.requires)

pub word_at-requires : goal.word_at-requires
word_at-requires c = word_inside 5 c.requires (omega arith)

pub overflow_sub-result : goal.overflow_sub-result
overflow_sub-result c = first_fits c.requires c.word_at.ensures refl

pub returns : goal.returns
returns c = first_is c.word_at.ensures refl
