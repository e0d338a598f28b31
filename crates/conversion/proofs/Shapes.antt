-- A converted tree has the rows of the tree: as many, and each with as many kids.
-- Assumes nothing.
use Prim.Native.Nat.{ℕ}
use mathlib.Core.Path.{◌≡◌, refl}
use mathlib.Core.List.{List, [], ◌++◌}
use Rattle.rows.specs.Tree.{Tree, Forest, nil, cons, count, size, sizes}
use Rattle.rows.specs.Record.{Record}
use Rattle.conversion.specs.Conversion.{turned, Role, both, convert_as, convert_kids}
use native.Mathlib.Omega.{arith}
use Rattle.conversion.proofs.Relabelled.{Relabelled, relabelled, AllRelabelled, no_more, one_more}
use Rattle.conversion.proofs.Relabelling.{relabels, all_relabels}
pub use Rattle.conversion.proofs.RuleHolds.{Both, both_parts, cons_parts}

pub record SameShape (ts us : Forest) : Type 0 where
  pub many : count us ≡ count ts
  pub rows : sizes us ≡ sizes ts

pub cons_turned : (t : Tree) (ts : Forest) (each : ℕ → Role) {t' : Tree} {ts' : Forest} {rs ss : List Record} → convert_as t (each (count ts)) ≡ turned t' rs
    → convert_kids ts each ≡ turned ts' ss → convert_kids (cons t ts) each ≡ turned (cons t' ts') (rs ++ ss)
unfolding convert_kids both
cons_turned t ts each p q = rw (p, q)

pub none_turned : (each : ℕ → Role) → convert_kids nil each ≡ turned nil []
unfolding convert_kids
none_turned each = refl

mutual
  unfolding count size sizes

  kept_size : {t u : Tree} → Relabelled t u → size u ≡ size t
  kept_size (relabelled l a) = omega (arith, (kept_shape a).rows)

  kept_shape : {ts us : Forest} → AllRelabelled ts us → SameShape ts us
  kept_shape no_more = record { many = refl; rows = refl }
  kept_shape (one_more l a) = omega (arith, kept_size l, kept_shape a)

pub same_size : (t : Tree) (role : Role) (t' : Tree) (rs : List Record) → convert_as t role ≡ turned t' rs → size t' ≡ size t
same_size t role t' rs h = kept_size (relabels t role t' rs h)

pub same_shape : (ts : Forest) (each : ℕ → Role) (ts' : Forest) (rs : List Record) → convert_kids ts each ≡ turned ts' rs → SameShape ts ts'
same_shape ts each ts' rs h = kept_shape (all_relabels ts each ts' rs h)
