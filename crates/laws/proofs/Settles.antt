-- How many steps are enough for each nonterminal, and what it comes to. The definition of a reading needs none of this: it allows plenty of steps.
-- Assumes nothing.
use Prim.Native.Nat.{◌≤◌}
use native.Mathlib.Omega.{arith}
use Rattle.grammar.specs.Sheet.{Sheet}
use Rattle.grammar.specs.Job.{Job, expression, sequence, assignment, value, assign, conditional, binary, operators, unary, postfix, left_hand_side, links, arguments, primary, elements, properties, property, key, spread, binding, binding_element, binding_elements, binding_properties, binding_property, binding_rest, head, parameters, body}
use Rattle.grammar.specs.Step.{plenty}
use Rattle.laws.specs.Settles.{rank, μ}

-- the order of those at one place goes from 1 to 13
pub ranked : (job : Job) → (1 ≤ rank job) × (rank job ≤ 13)
ranked (expression at) = (omega arith, omega arith)
ranked (sequence first comma at so_far) = (omega arith, omega arith)
ranked (assignment at) = (omega arith, omega arith)
ranked (value at) = (omega arith, omega arith)
ranked (assign first at left) = (omega arith, omega arith)
ranked (conditional first at test) = (omega arith, omega arith)
ranked (binary floor at) = (omega arith, omega arith)
ranked (operators floor first at left) = (omega arith, omega arith)
ranked (unary at) = (omega arith, omega arith)
ranked (postfix at) = (omega arith, omega arith)
ranked (left_hand_side at) = (omega arith, omega arith)
ranked (links first at left) = (omega arith, omega arith)
ranked (arguments first at so_far) = (omega arith, omega arith)
ranked (primary at) = (omega arith, omega arith)
ranked (elements first at kind so_far) = (omega arith, omega arith)
ranked (properties first at kind so_far) = (omega arith, omega arith)
ranked (property at) = (omega arith, omega arith)
ranked (key at) = (omega arith, omega arith)
ranked (spread at) = (omega arith, omega arith)
ranked (binding at) = (omega arith, omega arith)
ranked (binding_element at) = (omega arith, omega arith)
ranked (binding_elements first at so_far) = (omega arith, omega arith)
ranked (binding_properties first at so_far) = (omega arith, omega arith)
ranked (binding_property at) = (omega arith, omega arith)
ranked (binding_rest at) = (omega arith, omega arith)
ranked (head at) = (omega arith, omega arith)
ranked (parameters at so_far) = (omega arith, omega arith)
ranked (body kind first at so_far) = (omega arith, omega arith)

-- so each takes a step at least, and plenty of steps are enough for each
pub positive : (sheet : Sheet) (job : Job) → 1 ≤ μ sheet job
positive sheet job = omega (arith, ranked job)

pub in_plenty : (sheet : Sheet) (job : Job) → μ sheet job ≤ plenty sheet
in_plenty sheet job = omega (arith, ranked job)
