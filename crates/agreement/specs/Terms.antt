-- The words of the agreement: when a list is read, and the one exception. And the reader that counts the productions that it applies.
use Rattle.std.specs.Prelude.{◌+◌, ◌≡◌, ◌∷◌}
use Rattle.rows.specs.Base.{ℕ, zero, suc, max, false, List, [], Forest, Record, length, depth_after, Cause}
use Rattle.tokens.specs.Kind.{Ident, Async, LParen, Dot3}
use Rattle.grammar.specs.{Sheet.Sheet, Sheet.token, Sheet.break_before, Sheet.stuck, Sheet.done, Sheet.fail, Reading.Whole, Reading.whole, Reading.box, Reading.cleared}
use Rattle.grammar.specs.{Job.Asks, Job.Job, Arrow.Policy, Step.step, Step.read, Step.plenty}
use Rattle.laws.specs.Settles.{μ}

-- a list is read, as these trees with these records, whatever the notes after
pub record ReadAs {N : Type 0} (out : Whole N) (trees : Forest) (records : List Record) : Type 0 where
  pub after : N
  pub is_whole : out ≡ whole trees records after

-- The early commit: Async, `(` with no line break before it (past check 5: with flag 0), `...`, and kind 1. The three-way answer is True there, though 13.3 has a call
-- with a spread argument: CoverCallExpressionAndAsyncArrowHead : MemberExpression Arguments.
pub record Early (sheet : Sheet) (at : ℕ) : Type 0 where
  pub async : token sheet at ≡ Async
  pub opens : token sheet (at + 1) ≡ LParen
  pub unbroken : break_before sheet (at + 1) ≡ false
  pub dots : token sheet (at + 2) ≡ Dot3
  pub name : token sheet (at + 3) ≡ Ident

pub record NoEarly (sheet : Sheet) : Type 0 where  -- it stands nowhere in a list
  pub with : (at : ℕ) → Early sheet at → ⊥

-- a reader's notes, with the number of productions that were applied, and the places where a head was given up, the last first
pub record Counted (N : Type 0) : Type 0 where
  pub notes : N
  pub steps : ℕ
  pub dropped : List ℕ

abbrev pub fresh : {N : Type 0} → N → Counted N  -- before anything is read
fresh notes = record { notes = notes; steps = 0; dropped = [] }

abbrev pub tick : {N : Type 0} → Counted N → Counted N  -- one production more
tick m = record { notes = m.notes; steps = m.steps + 1; dropped = m.dropped }

abbrev pub counting : {N : Type 0} → Policy N → Policy (Counted N)  -- the same policy, which keeps the places of the heads that are given up
counting policy =
    record {
      way = λ at m. policy.way at m.notes;
      mark = λ at m. record { notes = policy.mark at m.notes; steps = m.steps; dropped = at ∷ m.dropped };
    }

-- the reader that counts: the productions of the grammar, each of which is one step
unfoldable pub count : {N : Type 0} → Policy N → Sheet → ℕ → Asks (Counted N)
count policy sheet zero job m = stuck
count policy sheet (suc bound) job m = step (counting policy) sheet (count policy sheet bound) job (tick m)

-- the most brackets that are open at once, from a place with so many tokens after it and so many brackets open before it
unfoldable pub deepest_from : Sheet → ℕ → ℕ → ℕ → ℕ
deepest_from sheet zero at depth = depth
deepest_from sheet (suc left) at depth = max depth (deepest_from sheet left (at + 1) (depth_after depth (token sheet at)))

abbrev pub deepest : Sheet → ℕ  -- the deepest nesting of a list
deepest sheet = deepest_from sheet (length sheet.kinds) 0 0

-- what the reader comes to, and the counting reader with it: done up to a place, or failed. There is no third way: neither sticks
pub data Ended (sheet : Sheet) (job : Job) (after : Counted (List ℕ)) : Type 0 where
  ended_done : (end : ℕ) (trees : Forest) (said : List Record) → count (box sheet) sheet (μ sheet job) job (fresh cleared) ≡ done end trees said after
      → read (box sheet) sheet (plenty sheet) job cleared ≡ done end trees said after.notes → Ended sheet job after
  ended_fail : (cause : Cause) → count (box sheet) sheet (μ sheet job) job (fresh cleared) ≡ fail cause after
      → read (box sheet) sheet (plenty sheet) job cleared ≡ fail cause after.notes → Ended sheet job after
