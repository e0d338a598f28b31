-- Why an exception is needed, and that the one in `NoEarly` (Terms) is wider than it would have to be: lists and what both readers come to, computed.
-- Needed: in `async(...a)`, which has the early commit, the box's reader refuses and the plain one reads a call. The three-way answer commits there to a head that is none.
-- Wider: `!async(...a)` has the early commit too, and both read it alike, since no head may begin after a unary operator. So a narrower exception is possible; which one would be the narrowest is not
-- said here. Lists one token away from `async(...a)` that have no early commit, and both read the call: a line break before the `(`, another name.
-- Which refusal is given is not compared: `(...a)` is refused by both, at other places. The statements, at the end: `excepted_early`, `operand_early`, `differs`.
-- And why notes are kept: nested heads that fail, `a`, `(a = a)`, `(a = (a = a))`, ..: with each level the plain reader gives up twice as many heads and one more, and does more than
-- twice the work; the box's reader gives up each head once. The statement: `doubling`. Assumes nothing.
use Prim.Native.Nat.{ℕ, ◌+◌, zero, suc}
use mathlib.Core.Path.{◌≡◌, refl}
use mathlib.Core.List.{[], ◌∷◌, List, ◌++◌}
use Rattle.tokens.specs.Token.{is_name, is_word, is_literal, is_binding_identifier, is_modifier_kind}
use Rattle.tokens.specs.declared.cause.Cause.{Cause}
use Rattle.operators.specs.Precedence.{level, expression_level}
use Rattle.lookahead.specs.ThreeWay.{no_parameters, rest_parameter, modified_name, after_name, first_parameter, after_paren, type_parameter, names_type, after_angle, after_open, three_way}
use Rattle.rows.specs.Tree.{Tree, node, nil, cons, one, join, kind_of, mark_of, first_of, end_of, kids_of}
use Rattle.conversion.specs.Conversion.{inner_kind, inner_kinds, seen, as_simple, as_any, as_value, as_element, as_last_element, as_property, as_last_property, as_name, change, roles, over, both, convert_as, convert_kids}
use Rattle.grammar.specs.Sheet.{Sheet, leaf, first_tree, after_records, and_then, or_else, ◌>>=◌, try, yield, refuse, say, Out, done, fail, stuck}
use Rattle.grammar.specs.Primary.{parenthesized_of, primary_of, spread_of, elements_of, properties_of, shorthand_of, property_of, key_of}
use Rattle.grammar.specs.LeftHandSide.{left_hand_side_of, links_of, arguments_of}
use Rattle.grammar.specs.Update.{is_unary_operator, is_update_operator, converted_to, unary_of, postfix_of}
use Rattle.grammar.specs.Binary.{operation_kind, right_floor, is_or_and, operation_records, binary_of, operators_of}
use Rattle.grammar.specs.Assignment.{is_assignment_operator, is_async_name, assign_of, conditional_of, after_binary, value_of}
use Rattle.grammar.specs.Comma.{expression_of, sequence_of}
use Rattle.grammar.specs.Binding.{binding_of, binding_element_of, binding_rest_of, binding_elements_of, binding_properties_of, binding_shorthand_of, binding_property_of}
use Rattle.grammar.specs.Arrow.{by_way, choose, noting, arrow_of, assignment_of, parenthesized_head_of, head_of, parameters_of, body_of}
use Rattle.grammar.specs.Step.{step, read}
use Rattle.grammar.specs.Reading.{way_of, unconverted, unconverteds, at_end, reading, whole, refused, box_reading, plain_reading, box, plain, cleared}
use lib.ListN.{length, replicate}
use Rattle.grammar.specs.Job.{expression}
use Rattle.laws.specs.Settles.{μ}
use Rattle.agreement.specs.Terms.{Counted, fresh, count}
use Rattle.agreement.specs.Terms.{ReadAs, Early}

-- a call of the name at a place with one spread name: Identifier, Identifier, Spread, Call
abbrev call : ℕ → Tree
call at = node 18 at at (at + 5) (cons (leaf 1 at) (cons (node 10 (at + 2) (at + 2) (at + 4) (one (leaf 1 (at + 3)))) nil))

-- `async(...a)`
abbrev pub excepted : Sheet
excepted = record { kinds = 2 ∷ 18 ∷ 28 ∷ 1 ∷ 19 ∷ []; flags = 0 ∷ 0 ∷ 0 ∷ 0 ∷ 0 ∷ [] }

-- `async ↵ (...a)`
abbrev pub broken : Sheet
broken = record { kinds = 2 ∷ 18 ∷ 28 ∷ 1 ∷ 19 ∷ []; flags = 0 ∷ 1 ∷ 0 ∷ 0 ∷ 0 ∷ [] }

-- `async(...async)`
abbrev pub other_name : Sheet
other_name = record { kinds = 2 ∷ 18 ∷ 28 ∷ 2 ∷ 19 ∷ []; flags = 0 ∷ 0 ∷ 0 ∷ 0 ∷ 0 ∷ [] }

-- `!async(...a)`
abbrev pub operand : Sheet
operand = record { kinds = 30 ∷ 2 ∷ 18 ∷ 28 ∷ 1 ∷ 19 ∷ []; flags = 0 ∷ 0 ∷ 0 ∷ 0 ∷ 0 ∷ 0 ∷ [] }

-- `(...a)`
abbrev pub no_head : Sheet
no_head = record { kinds = 18 ∷ 28 ∷ 1 ∷ 19 ∷ []; flags = 0 ∷ 0 ∷ 0 ∷ 0 ∷ [] }

-- the excepted list has the early commit, at place 0
pub excepted_early : Early excepted 0
excepted_early = record { async = refl; opens = refl; unbroken = refl; dots = refl; name = refl }

-- and so has `!async(...a)`, at place 1
pub operand_early : Early operand 1
operand_early = record { async = refl; opens = refl; unbroken = refl; dots = refl; name = refl }

-- THE STATEMENT: where they differ, and where they do not
pub record Differs : Type 0 where
  pub box_refuses : box_reading excepted ≡ refused (Cause.Unexpected 5)
  pub plain_reads : plain_reading excepted ≡ whole (one (call 0)) [] tt
  pub broken_both : ReadAs (box_reading broken) (one (call 0)) [] × ReadAs (plain_reading broken) (one (call 0)) []
  pub other_both : ReadAs (box_reading other_name) (one (call 0)) [] × ReadAs (plain_reading other_name) (one (call 0)) []
  pub operand_both : ReadAs (box_reading operand) (one (node 19 0 0 6 (one (call 1)))) [] × ReadAs (plain_reading operand) (one (node 19 0 0 6 (one (call 1)))) []
  pub other_cause : (box_reading no_head ≡ refused (Cause.Unexpected 4)) × (plain_reading no_head ≡ refused (Cause.Unexpected 1))

pub differs : Differs
unfolding is_name is_word is_literal is_binding_identifier is_modifier_kind level expression_level no_parameters rest_parameter modified_name after_name first_parameter after_paren type_parameter names_type after_angle after_open three_way join kind_of mark_of first_of end_of kids_of inner_kind inner_kinds seen as_simple as_any as_value as_element as_last_element as_property as_last_property as_name change roles over both convert_as convert_kids first_tree after_records and_then or_else ◌>>=◌ try yield refuse say parenthesized_of primary_of spread_of elements_of properties_of shorthand_of property_of key_of left_hand_side_of links_of arguments_of is_unary_operator is_update_operator converted_to unary_of postfix_of operation_kind right_floor is_or_and operation_records binary_of operators_of is_assignment_operator is_async_name assign_of conditional_of after_binary value_of expression_of sequence_of binding_of binding_element_of binding_rest_of binding_elements_of binding_properties_of binding_shorthand_of binding_property_of by_way choose noting arrow_of assignment_of parenthesized_head_of head_of parameters_of body_of step read way_of unconverted unconverteds at_end reading
differs =
    record {
      box_refuses = refl;
      plain_reads = refl;
      broken_both = (record { after = _; is_whole = refl }, record { after = _; is_whole = refl });
      other_both = (record { after = _; is_whole = refl }, record { after = _; is_whole = refl });
      operand_both = (record { after = _; is_whole = refl }, record { after = _; is_whole = refl });
      other_cause = (refl, refl);
    }

-- WHY NOTES ARE KEPT
-- `a` inside so many `(a = ..)`
abbrev pub nested : ℕ → List ℕ
nested zero = 1 ∷ []
nested (suc depth) = 18 ∷ 1 ∷ 63 ∷ (nested depth ++ (19 ∷ []))

-- that list, with no line break
abbrev pub sheet_of : ℕ → Sheet
sheet_of depth = record { kinds = nested depth; flags = replicate (length (nested depth)) 0 }

-- how many productions were applied
unfoldable pub steps_of : {N : Type 0} → Out (Counted N) → ℕ
steps_of (done end trees records m) = m.steps
steps_of (fail cause m) = m.steps
steps_of stuck = 0

-- how many heads were given up
unfoldable pub heads_of : {N : Type 0} → Out (Counted N) → ℕ
heads_of (done end trees records m) = length m.dropped
heads_of (fail cause m) = length m.dropped
heads_of stuck = 0

-- the list read by the plain reader, and by the box's
abbrev pub plainly : ℕ → Out (Counted (Unit {0}))
plainly depth = count plain (sheet_of depth) (μ (sheet_of depth) (expression 0)) (expression 0) (fresh tt)

abbrev pub boxed : ℕ → Out (Counted (List ℕ))
boxed depth = count (box (sheet_of depth)) (sheet_of depth) (μ (sheet_of depth) (expression 0)) (expression 0) (fresh cleared)

-- something of each of the first so many levels, the deepest first
abbrev pub levels : (ℕ → ℕ) → ℕ → List ℕ
levels f zero = []
levels f (suc n) = f n ∷ levels f n

-- THE STATEMENT, for 6 to 0 levels: the plain reader applies twice as many productions as one level before and 23 more, and gives up twice as many heads and one more
pub record Doubling : Type 0 where
  pub plain_steps : levels (λ depth. steps_of (plainly depth)) 7 ≡ 2089 ∷ 1033 ∷ 505 ∷ 241 ∷ 109 ∷ 43 ∷ 10 ∷ []
  pub plain_heads : levels (λ depth. heads_of (plainly depth)) 7 ≡ 63 ∷ 31 ∷ 15 ∷ 7 ∷ 3 ∷ 1 ∷ 0 ∷ []
  pub box_steps : levels (λ depth. steps_of (boxed depth)) 7 ≡ 508 ∷ 375 ∷ 262 ∷ 169 ∷ 96 ∷ 43 ∷ 10 ∷ []
  pub box_heads : levels (λ depth. heads_of (boxed depth)) 7 ≡ 6 ∷ 5 ∷ 4 ∷ 3 ∷ 2 ∷ 1 ∷ 0 ∷ []

pub doubling : Doubling
unfolding is_name is_word is_literal is_binding_identifier is_modifier_kind level expression_level no_parameters rest_parameter modified_name after_name first_parameter after_paren type_parameter names_type after_angle after_open three_way join kind_of mark_of first_of end_of kids_of inner_kind inner_kinds seen as_simple as_any as_value as_element as_last_element as_property as_last_property as_name change roles over both convert_as convert_kids first_tree after_records and_then or_else ◌>>=◌ try yield refuse say parenthesized_of primary_of spread_of elements_of properties_of shorthand_of property_of key_of left_hand_side_of links_of arguments_of is_unary_operator is_update_operator converted_to unary_of postfix_of operation_kind right_floor is_or_and operation_records binary_of operators_of is_assignment_operator is_async_name assign_of conditional_of after_binary value_of expression_of sequence_of binding_of binding_element_of binding_rest_of binding_elements_of binding_properties_of binding_shorthand_of binding_property_of by_way choose noting arrow_of assignment_of parenthesized_head_of head_of parameters_of body_of step way_of count steps_of heads_of
doubling = record { plain_steps = refl; plain_heads = refl; box_steps = refl; box_heads = refl }
