-- What comes of a reading, and the few words in which the productions are written. The files of the productions take from
-- here also what they need of numbers, tests, tokens, trees and records.
pub use Rattle.rows.specs.Base.{ℕ, Bool, not, List, [], ◌and◌, ◌or◌, ◌is◌, between, is_name, is_word, is_literal, Cause, Tree, Forest, node, nil, cons, one, join, kind_of, mark_of, kids_of, Record, break_before_arrow, rest_initializer, mixed_coalesce, unary_power, shorthand_initializer, Sheet, sheet_of, token, break_before}
use Rattle.std.specs.Prelude.{◌+◌, ◌++◌, if◌then◌else◌}
use Rattle.tokens.specs.Kind.{Comma}

infixl 10 ◌>>=◌
-- What comes of reading with notes N: it is done, up to a place, with trees, records, and the notes after; or it fails for a cause,
-- with the notes after. (It is stuck only where a bound on the steps was too small, which never happens in a reading.)
pub data Out (N : Type 0) : Type 0 where
  done : ℕ → Forest → List Record → N → Out N
  fail : Cause → N → Out N
  stuck : Out N

abbrev pub Reading : Type 0 → Type 0
Reading N = N → Out N

pub record Part : Type 0 where  -- what a part of a production has read: up to where, and the trees
  pub end : ℕ
  pub trees : Forest

unfoldable pub first_tree : Forest → Tree  -- its first tree: most parts have read exactly one
first_tree nil = node 0 0 0 0 nil
first_tree (cons t ts) = t

abbrev pub tree : Part → Tree
tree part = first_tree part.trees

abbrev pub leaf : ℕ → ℕ → Tree  -- a row over one token, with no kids
leaf kind at = node kind at at (at + 1) nil

module _ {N : Type 0} where
  unfoldable pub after_records : List Record → Out N → Out N  -- records that stand before those of what follows
  after_records records (done end trees more notes) = done end trees (records ++ more) notes
  after_records records (fail cause notes) = fail cause notes
  after_records records stuck = stuck

  unfoldable pub and_then : Out N → (Part → Reading N) → Out N
  and_then (done end trees records notes) next = after_records records (next (record { end = end; trees = trees }) notes)
  and_then (fail cause notes) next = fail cause notes
  and_then stuck next = stuck

  unfoldable pub or_else : Out N → (Part → Reading N) → Reading N → Out N
  or_else (done end trees records notes) next other = after_records records (next (record { end = end; trees = trees }) notes)
  or_else (fail cause notes) next other = other notes
  or_else stuck next other = stuck

  unfoldable pub ◌>>=◌ : Reading N → (Part → Reading N) → Reading N  -- `part ← reading` and what follows it: a refusal is final
  ◌>>=◌ reading next notes = and_then (reading notes) next

  -- a line of its own and what follows it: a line says what must hold, or what is recorded
  abbrev pub ◌>>◌ : (Reading N → Reading N) → Reading N → Reading N
  ◌>>◌ line next = line next

  -- a reading that may be given up: what follows it, or the other reading, with the notes as they were left
  unfoldable pub try : Reading N → (Part → Reading N) → Reading N → Reading N
  try reading next other notes = or_else (reading notes) next other

  unfoldable pub yield : ℕ → Forest → Reading N  -- what was read, up to a place
  yield end trees notes = done end trees [] notes

  abbrev pub make : ℕ → ℕ → ℕ → ℕ → Forest → Reading N  -- one row over what was read: its kind, mark, first and end, and its kids
  make kind mark first end kids = yield end (one (node kind mark first end kids))

  unfoldable pub refuse : Cause → Reading N
  refuse cause notes = fail cause notes

  abbrev pub unexpected : ℕ → Reading N  -- 8: a token that no rule allows here, or the end
  unexpected at = refuse (Cause.Unexpected at)

  abbrev pub want : Sheet → ℕ → ℕ → Reading N → Reading N  -- a token of this kind must stand here
  want sheet kind at next = if token sheet at is kind then next else unexpected at

  -- after a part of a list: a comma, and it goes on; or its closing token must stand here, and it ends
  abbrev pub comma_or : Sheet → ℕ → ℕ → Reading N → Reading N → Reading N
  comma_or sheet closing at more ended = if token sheet at is Comma then more else want sheet closing at ended

  abbrev pub unless_refuse : Bool → Cause → Reading N → Reading N  -- something must hold, or the reading is refused
  unless_refuse holds cause next = if holds then next else refuse cause

  unfoldable pub say : List Record → Reading N → Reading N  -- these are recorded
  say records next notes = after_records records (next notes)
