-- The productions together: the only recursion of the whole grammar.
use Rattle.std.specs.Prelude.{◌+◌, ◌*◌}
use Rattle.rows.specs.Base.{ℕ, zero, suc, length}
use Rattle.grammar.specs.{Sheet.Sheet, Sheet.stuck, LeftHandSide.left_hand_side_of, LeftHandSide.links_of, LeftHandSide.arguments_of}
use Rattle.grammar.specs.Job.{expression, sequence, assignment, value, assign, conditional, binary, operators, unary, postfix, left_hand_side, links, arguments, primary, elements, properties, property, key, spread, binding, binding_element, binding_elements, binding_properties, binding_property, binding_rest, head, parameters, body, Asks}
use Rattle.grammar.specs.Primary.{primary_of, elements_of, properties_of, property_of, key_of, spread_of}
use Rattle.grammar.specs.{Update.unary_of, Update.postfix_of, Binary.binary_of, Binary.operators_of, Comma.expression_of, Comma.sequence_of}
use Rattle.grammar.specs.Assignment.{value_of, assign_of, conditional_of}
use Rattle.grammar.specs.Binding.{binding_of, binding_element_of, binding_elements_of, binding_properties_of, binding_property_of, binding_rest_of}
use Rattle.grammar.specs.Arrow.{Policy, assignment_of, head_of, parameters_of, body_of}

module _ {N : Type 0} (policy : Policy N) (sheet : Sheet) where
  unfoldable pub step : Asks N → Asks N  -- the production of each nonterminal
  step ask (expression at) = expression_of sheet ask at
  step ask (sequence first comma at so_far) = sequence_of sheet ask first comma at so_far
  step ask (assignment at) = assignment_of policy sheet ask at
  step ask (value at) = value_of sheet ask at
  step ask (assign first at left) = assign_of sheet ask first at left
  step ask (conditional first at test) = conditional_of sheet ask first at test
  step ask (binary floor at) = binary_of sheet ask floor at
  step ask (operators floor first at left) = operators_of sheet ask floor first at left
  step ask (unary at) = unary_of sheet ask at
  step ask (postfix at) = postfix_of sheet ask at
  step ask (left_hand_side at) = left_hand_side_of sheet ask at
  step ask (links first at left) = links_of sheet ask first at left
  step ask (arguments first at so_far) = arguments_of sheet ask first at so_far
  step ask (primary at) = primary_of sheet ask at
  step ask (elements first at kind so_far) = elements_of sheet ask first at kind so_far
  step ask (properties first at kind so_far) = properties_of sheet ask first at kind so_far
  step ask (property at) = property_of sheet ask at
  step ask (key at) = key_of sheet ask at
  step ask (spread at) = spread_of sheet ask at
  step ask (binding at) = binding_of sheet ask at
  step ask (binding_element at) = binding_element_of sheet ask at
  step ask (binding_elements first at so_far) = binding_elements_of sheet ask first at so_far
  step ask (binding_properties first at so_far) = binding_properties_of sheet ask first at so_far
  step ask (binding_property at) = binding_property_of sheet ask at
  step ask (binding_rest at) = binding_rest_of sheet ask at
  step ask (head at) = head_of sheet ask at
  step ask (parameters at so_far) = parameters_of sheet ask at so_far
  step ask (body kind first at so_far) = body_of sheet ask kind first at so_far

  unfoldable pub read : ℕ → Asks N  -- at most so many steps deep
  read zero job notes = stuck
  read (suc steps) job notes = step (read steps) job notes

abbrev pub plenty : Sheet → ℕ  -- so many steps are always enough, 32 for each token and 13 more: `PlentyIsEnough` of laws/specs/Promises.antt
plenty sheet = 32 * length sheet.kinds + 13
