-- What a tree still owes: the records that conversion, and the last pass for record 8, could yet say of its rows (`potential` of the targets).
-- Conversion keeps the number of rows (`same_size`), and pays its records out of what the tree owes (`pays`); so does the last pass (`pays_lasts`).
-- Assumes nothing.
use Rattle.std.specs.Prelude.{if◌then◌else◌}
use Prim.Native.Nat.{ℕ, ◌+◌, ◌≤◌}
use mathlib.Core.Path.{◌≡◌}
use mathlib.Core.List.{List, [], ◌∷◌}
use native.Mathlib.Omega.{arith}
use lib.Dec.{eqb}
use lib.ListN.{length, length-append}
use borrow.Author.Tests.{eqb-true}
use Rattle.tokens.specs.Bool.{◌is◌}
use Rattle.rows.specs.Row as Row
use Rattle.rows.specs.Tree.{Tree, Forest, node, nil, cons, join}
use Rattle.rows.specs.Record.{Record, shorthand_initializer}
use Rattle.conversion.specs.Conversion.{turned, Role, convert_as}
use Rattle.conversion.specs.Conversion.{may_record}
use Rattle.conversion.proofs.RuleHolds.{either_way}
use Rattle.conversion.proofs.Potentials as Potentials
use Rattle.grammar.specs.Reading.{unconverted, unconverteds}
unfoldable pub use Rattle.conversion.specs.Conversion.{potential as owed, potentials as oweds}
pub use Rattle.conversion.proofs.Potentials.{comma_count as lent}
pub use Rattle.conversion.proofs.Shapes.{same_size}
pub use Rattle.rows.proofs.Rows.{sizes_join}

-- what a row owes, by its kind
unfoldable pub owes : ℕ → ℕ
owes kind = if may_record kind then 1 else 0

pub owes_one : (kind : ℕ) → owes kind ≤ 1
unfolding owes
owes_one kind = Potentials.weight_one kind

pub oweds_join : (ts us : Forest) → oweds (join ts us) ≡ oweds ts + oweds us
unfolding oweds join
oweds_join nil us = omega arith
oweds_join (cons t ts) us = omega (arith, oweds_join ts us)

-- the records of a conversion, and what the tree owes after it, are no more than what it owed before and the comma that its role hands down
pub pays : (t : Tree) (role : Role) (t' : Tree) (records : List Record) → convert_as t role ≡ turned t' records → length records + owed t' ≤ owed t + lent role
pays t role t' records e = (Potentials.pays t role t' records e).is

last_one : (kind : ℕ) (r : Record) → length (if kind is Row.ShorthandInit then r ∷ [] else []) ≤ owes kind
unfolding owes
last_one kind r = either_way (λ rs. length rs ≤ owes kind) (eqb kind Row.ShorthandInit) {x = r ∷ []} (λ e. rw (eqb-true kind Row.ShorthandInit e) (omega arith)) (λ _. omega arith)

mutual
  unfolding unconverted unconverteds owed oweds owes

  pub pays_last : (t : Tree) → length (unconverted t) ≤ owed t
  pays_last (node kind mark first end kids) = simp length-append (omega (arith, pays_lasts kids, last_one kind (shorthand_initializer mark)))

  -- the records 8 are no more than what the trees owe
  pub pays_lasts : (ts : Forest) → length (unconverteds ts) ≤ oweds ts
  pays_lasts nil = omega arith
  pays_lasts (cons t ts) = simp length-append (omega (arith, pays_last t, pays_lasts ts))
