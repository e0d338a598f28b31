-- `targets::name_at` meets its contract.
use mathlib.Core.Path.{sym, ◌∙◌}
use native.Mathlib.Omega.{arith}
use borrow.Author.Rules.{rules}
use Rattle.roles.specs.Meaning.{kid}
use Rattle.targets.proofs.ShortCuts.{if_found, element_here, reference_here, property_here, word_inside}
use Rattle.targets.proofs.name_at.Goals as goal

pub word_at-kind-requires : goal.word_at-kind-requires
word_at-kind-requires c = word_inside 0 c.requires (omega arith)

pub returns-in-Object : goal.returns-in-Object
returns-in-Object c = property_here _ _ c.in-Object.is c.name_below.result c.name_below.ensures

pub returns-in-Array : goal.returns-in-Array
returns-in-Array c = if_found _ _ _ _ c.then_some.ensures (λ e. element_here c.in-Array.is c.word_at-kind.ensures (sym c.is_element.ensures ∙ e))

pub returns-in_default : goal.returns-in_default
unfolding kid
returns-in_default c = if_found _ _ _ _ c.then_some-in_default.ensures (λ e. reference_here (λ last. search rules) c.word_at-kind.ensures (sym c.is_reference.ensures ∙ e))
