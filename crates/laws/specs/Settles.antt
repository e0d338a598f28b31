-- How many steps are enough for each nonterminal, and what it comes to. The definition of a reading needs none of this: it allows plenty of steps.
use Rattle.std.specs.Prelude.{◌+◌, ◌-◌, ◌*◌, ◌≤◌, ◌≡◌}
use Rattle.rows.specs.Base.{ℕ, length, List, Cause, Forest, Record}
use Rattle.grammar.specs.{Sheet.Sheet, Sheet.Out, Sheet.done, Sheet.fail, Arrow.Policy, Step.read}
use Rattle.grammar.specs.Job.{Job, expression, sequence, assignment, value, assign, conditional, binary, operators, unary, postfix, left_hand_side, links, arguments, primary, elements, properties, property, key, spread, binding, binding_element, binding_elements, binding_properties, binding_property, binding_rest, head, parameters, body}

-- of each nonterminal: the place that it is at; its rank, the order in which those at one place ask each other; and how far whoever asks has looked. Five
-- start at a token that was looked at, one past it; the others may start anywhere.
abbrev pub measures : Job → ℕ × ℕ × ℕ
measures (expression at) = (at, 12, 0)
measures (sequence first comma at so_far) = (at, 1, 0)
measures (assignment at) = (at, 11, 0)
measures (value at) = (at, 10, 0)
measures (assign first at left) = (at, 1, at + 1)
measures (conditional first at test) = (at, 1, at + 1)
measures (binary floor at) = (at, 9, 0)
measures (operators floor first at left) = (at, 1, 0)
measures (unary at) = (at, 8, 0)
measures (postfix at) = (at, 7, 0)
measures (left_hand_side at) = (at, 6, 0)
measures (links first at left) = (at, 1, 0)
measures (arguments first at so_far) = (at, 13, 0)
measures (primary at) = (at, 5, 0)
measures (elements first at kind so_far) = (at, 13, 0)
measures (properties first at kind so_far) = (at, 13, 0)
measures (property at) = (at, 4, 0)
measures (key at) = (at, 1, 0)
measures (spread at) = (at, 1, at + 1)
measures (binding at) = (at, 2, 0)
measures (binding_element at) = (at, 3, 0)
measures (binding_elements first at so_far) = (at, 4, 0)
measures (binding_properties first at so_far) = (at, 4, 0)
measures (binding_property at) = (at, 3, 0)
measures (binding_rest at) = (at, 1, at + 1)
measures (head at) = (at, 5, 0)
measures (parameters at so_far) = (at, 4, 0)
measures (body kind first at so_far) = (at, 1, at + 1)

abbrev pub place_of : Job → ℕ
place_of job = (measures job).0

abbrev pub rank : Job → ℕ
rank job = (measures job).1

abbrev pub looked_at : Job → ℕ
looked_at job = (measures job).2

abbrev pub μ : Sheet → Job → ℕ  -- so many steps are enough
μ sheet job = 32 * (length sheet.kinds - place_of job) + rank job

-- a nonterminal comes to this, with any bound on the steps that is large enough
pub record Settles {N : Type 0} (policy : Policy N) (sheet : Sheet) (job : Job) (notes : N) (out : Out N) : Type 0 where
  pub with : (steps : ℕ) → μ sheet job ≤ steps → read policy sheet steps job notes ≡ out

pub data Comes {N : Type 0} (policy : Policy N) (sheet : Sheet) (job : Job) (notes : N) : Type 0 where  -- what a nonterminal comes to
  comes_done : (end : ℕ) (trees : Forest) (records : List Record) (after : N) → Settles policy sheet job notes (done end trees records after) → Comes policy sheet job notes
  comes_fail : (cause : Cause) (after : N) → Settles policy sheet job notes (fail cause after) → Comes policy sheet job notes
