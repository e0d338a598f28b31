-- UNAMBIGUOUS: the standard's grammar gives a list one tree at most, as an Expression and as a BindingElement. And the plain reader's clean readings are
-- exactly the standard's derivations.
-- Assumes nothing.
use mathlib.Core.List.{[]}
use Prim.Native.Nat.{ℕ}
use mathlib.Core.Path.{◌≡◌, sym, ap}
use mathlib.Core.Logic.{◌↔◌}
use lib.ListN.{length}
use Rattle.rows.specs.Tree.{Tree, Forest, one}
use Rattle.grammar.specs.Sheet.{Sheet, first_tree}
use Rattle.grammar.specs.Job.{Job}
use Rattle.grammar.specs.Reading.{whole, plain, plain_reading, plain_pattern}
use Rattle.laws.proofs.Steady.{one_outcome}
use Rattle.ecma262.specs.Derives.{Nonterminal, Expression, BindingElement, Derives, Derived}
use Rattle.exact.proofs.Sound.{Standard, clean_expression, clean_binding}
use Rattle.exact.proofs.Parts.{Reads}
use Rattle.exact.proofs.Complete.{complete, at_the_end, not_comma, complete_expression, complete_binding}

-- a nonterminal is read with one tree at most
one_reading : {s : Sheet} {job : Job} {j : ℕ} {ts us : Forest} → Reads s job j ts → Reads s job j us → ts ≡ us
one_reading a b = let e = one_outcome a b in cc

module _ {s : Sheet} {ts us : Forest} where
  -- two derivations of an Expression over the same list have the same tree
  pub one_expression : Derives s Expression 0 (length s.kinds) ts → Derives s Expression 0 (length s.kinds) us → ts ≡ us
  one_expression d e = one_reading ((complete d).reads (at_the_end s) (not_comma s)) ((complete e).reads (at_the_end s) (not_comma s))

  -- and so have two derivations of a BindingElement
  pub one_binding : Derives s BindingElement 0 (length s.kinds) ts → Derives s BindingElement 0 (length s.kinds) us → ts ≡ us
  one_binding d e = one_reading ((complete d).reads (at_the_end s)) ((complete e).reads (at_the_end s))

one_tree : {s : Sheet} {x : Nonterminal} {t : Tree} → Standard s x (one t) → Derived s x 0 (length s.kinds) t
unfolding first_tree
one_tree {t = t} c = let q : c.tree ≡ t = ap first_tree (sym c.is_tree) in rw q at c.derived

module _ {s : Sheet} {t : Tree} where
  -- demand 2 in the standard's own terms: clean with this tree, for the plain reader, is derived with this tree
  pub clean_is_derived : (plain_reading s ≡ whole (one t) [] tt) ↔ Derived s Expression 0 (length s.kinds) t
  clean_is_derived = (λ e. one_tree (clean_expression plain s tt e), λ d. complete_expression d)

  pub clean_is_bound : (plain_pattern s ≡ whole (one t) [] tt) ↔ Derived s BindingElement 0 (length s.kinds) t
  clean_is_bound = (λ e. one_tree (clean_binding plain s tt e), λ d. complete_binding d)
