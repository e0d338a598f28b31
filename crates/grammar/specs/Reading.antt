-- A whole reading: one Expression up to the end of the list, and what is answered. The pattern entry's: one binding with an optional initializer
-- in the Expression's place. The checks before it, and what is left in lent memory after it, are in Lent.antt.
use Rattle.std.specs.Prelude.{◌+◌, ◌∷◌, ◌++◌, if◌then◌else◌}
use Rattle.rows.specs.Base.{false, length, get_or, set, replicate, Answer, sizes}
use Rattle.lookahead.specs.{ThreeWay.three_way, declared.Tristate.Tristate}
use Rattle.grammar.specs.Sheet.{ℕ, Bool, not, List, [], ◌is◌, Cause, Tree, Forest, node, nil, cons, Record, shorthand_initializer, Sheet, Out, done, fail, stuck}
use Rattle.grammar.specs.{Job.Job, Job.expression, Job.binding_element, Arrow.Way, Arrow.pass, Arrow.attempt, Arrow.commit, Arrow.Policy, Step.read, Step.plenty}
use Rattle.rows.specs.Row as Row

-- The box's reader: the three-way answer with both flags off, and a note for each place whose head failed, 0 or 1. A noted place is passed.
unfoldable pub way_of : Tristate → Bool → Way
way_of Tristate.False noted = pass
way_of Tristate.True noted = commit
way_of Tristate.Maybe noted = if noted then pass else attempt

abbrev pub box : Sheet → Policy (List ℕ)
box sheet = record { way = λ at notes. way_of (three_way sheet.kinds sheet.flags false false at) (not (get_or notes at 0 is 0)); mark = λ at notes. set notes at 1 }

abbrev pub cleared : List ℕ  -- notes cover 2,048 places, all cleared before each list
cleared = replicate 2048 0

unfoldable pub noted_places : List ℕ → ℕ  -- how many places are noted
noted_places [] = 0
noted_places (note ∷ notes) = note + noted_places notes

abbrev pub plain : Policy (Unit {0})  -- The plain reader: it tries a head at every place where one could open, and remembers nothing.
plain = record { way = λ at notes. attempt; mark = λ at notes. notes }

-- record 8: each ShorthandInit that was never converted, at its mark, in row order
unfoldable mutual
  pub unconverted : Tree → List Record
  unconverted (node kind mark first end kids) = unconverteds kids ++ (if kind is Row.ShorthandInit then shorthand_initializer mark ∷ [] else [])

  pub unconverteds : Forest → List Record
  unconverteds nil = []
  unconverteds (cons t ts) = unconverted t ++ unconverteds ts

pub data Whole (N : Type 0) : Type 0 where  -- what comes of a whole list: the trees with all records and the notes after, or a cause
  whole : Forest → List Record → N → Whole N
  refused : Cause → Whole N

unfoldable pub at_end : {N : Type 0} → ℕ → Out N → Whole N  -- nothing may follow, and then come the records 8
at_end tokens (done end trees records notes) = if end is tokens then whole trees (records ++ unconverteds trees) notes else refused (Cause.Unexpected end)
at_end tokens (fail cause notes) = refused cause
at_end tokens stuck = refused (Cause.Unexpected 0)

unfoldable pub reading : {N : Type 0} → Policy N → Sheet → Job → N → Whole N  -- one nonterminal over the whole list
reading policy sheet job notes = at_end (length sheet.kinds) (read policy sheet (plenty sheet) job notes)

abbrev pub box_reading : Sheet → Whole (List ℕ)  -- the list as one Expression, by the box's reader and by the plain one; the list as one binding
box_reading sheet = reading (box sheet) sheet (expression 0) cleared

abbrev pub plain_reading : Sheet → Whole (Unit {0})
plain_reading sheet = reading plain sheet (expression 0) tt

abbrev pub box_pattern : Sheet → Whole (List ℕ)
box_pattern sheet = reading (box sheet) sheet (binding_element 0) cleared

abbrev pub plain_pattern : Sheet → Whole (Unit {0})
plain_pattern sheet = reading plain sheet (binding_element 0) tt

-- what an entry answers past the checks: Read with its three counts (rows, records, abandoned heads), or Refused with a cause
abbrev pub answer_of : Whole (List ℕ) → Answer
answer_of (whole trees records notes) = Answer.Read (record { rows = sizes trees; records = length records; abandoned = noted_places notes })
answer_of (refused cause) = Answer.Refused cause
