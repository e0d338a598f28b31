-- What conversion may change in a tree: the kind words of rows that become target rows, and no other word.
-- Assumes nothing: these are definitions.
use Prim.Native.Nat.{ℕ, ◌≤◌}
use Rattle.rows.specs.Row as row
use Rattle.rows.specs.Tree.{Tree, Forest, node, nil, cons}

-- a kind stays, or becomes that of a target row: 40 to 50
pub data Relabel (kind : ℕ) : ℕ → Type 0 where
  kept : Relabel kind kind
  target : {kind' : ℕ} → row.TargetName ≤ kind' → kind' ≤ row.TargetShorthandInit → Relabel kind kind'

mutual
  -- the same rows with the same mark, first and end
  pub data Relabelled : Tree → Tree → Type 0 where
    relabelled : {kind kind' mark first end : ℕ} {ts us : Forest} → Relabel kind kind' → AllRelabelled ts us
        → Relabelled (node kind mark first end ts) (node kind' mark first end us)

  pub data AllRelabelled : Forest → Forest → Type 0 where
    no_more : AllRelabelled nil nil
    one_more : {t u : Tree} {ts us : Forest} → Relabelled t u → AllRelabelled ts us → AllRelabelled (cons t ts) (cons u us)
