-- What a nonterminal that is done leaves over, and the bounds on the work of the box's reader. Assumes nothing.
use Prim.Native.Nat.{ℕ, ◌+◌, ◌*◌, ◌≤◌}
use mathlib.Core.List.{List}
use lib.ListN.{length}
use Rattle.grammar.specs.Sheet.{Sheet}
use Rattle.grammar.specs.Job.{Job, expression, sequence, assignment, value, assign, conditional, binary, operators, unary, postfix, left_hand_side, links, arguments, primary, elements, properties, property, key, spread, binding, binding_element, binding_elements, binding_properties, binding_property, binding_rest, head, parameters, body}
use Rattle.grammar.specs.Reading.{noted_places}
use Rattle.laws.specs.Promises.{Once}
use Rattle.agreement.specs.Terms.{Counted, deepest}

-- the productions that a nonterminal leaves over of 13 a token and one more
abbrev pub spare : Job → ℕ
spare (expression at) = 1
spare (sequence first comma at so_far) = 0
spare (assignment at) = 3
spare (value at) = 4
spare (assign first at left) = 1
spare (conditional first at left) = 1
spare (binary floor at) = 5
spare (operators floor first at left) = 0
spare (unary at) = 7
spare (postfix at) = 8
spare (left_hand_side at) = 9
spare (links first at left) = 0
spare (arguments first at so_far) = 1
spare (primary at) = 11
spare (elements first at kind so_far) = 1
spare (properties first at kind so_far) = 1
spare (property at) = 1
spare (key at) = 1
spare (spread at) = 1
spare (binding at) = 2
spare (binding_element at) = 1
spare (binding_elements first at so_far) = 1
spare (binding_properties first at so_far) = 1
spare (binding_property at) = 1
spare (binding_rest at) = 1
spare (head at) = 4
spare (parameters at so_far) = 1
spare (body kind first at so_far) = 1

-- the box's reader: the heads that it gives up are the noted places, none of them twice
pub record BoxWork (sheet : Sheet) (m : Counted (List ℕ)) : Type 0 where
  pub once : Once m.notes m.dropped
  pub by_abandoned : m.steps ≤ (13 * length sheet.kinds + 12) * (1 + noted_places m.notes)
  pub by_nesting : m.steps ≤ 69 * (length sheet.kinds * (1 + deepest sheet))
