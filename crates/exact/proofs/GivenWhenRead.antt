-- The record that conversion does not give again was given when the list was read: the four lists whose trees `not_judged_again` (conversion, NotJudgedAgain) converts with no record,
-- each read by the box's reader as that tree with one record. Computed.
-- The statement, at the end: `given_when_read`. Assumes nothing.
use mathlib.Core.Path.{refl}
use mathlib.Core.List.{List, [], ◌∷◌}
use Prim.Native.Nat.{ℕ}
use lib.ListN.{length, replicate}
use Rattle.tokens.specs.Token.{is_name, is_word, is_literal, is_binding_identifier, is_modifier_kind}
use Rattle.tokens.specs.Kind.{Ident, LBrack, RBrack, LCurly, RCurly, Dot, Dot3, Comma, Eq, PlusEq, Number}
use Rattle.operators.specs.Precedence.{level, expression_level}
use Rattle.lookahead.specs.ThreeWay.{no_parameters, rest_parameter, modified_name, after_name, first_parameter, after_paren, type_parameter, names_type, after_angle, after_open, three_way}
use Rattle.rows.specs.Tree.{one, join, count, kind_of, mark_of, first_of, end_of, kids_of}
use Rattle.rows.specs.Record.{rest_argument, rest_comma, compound_default, shorthand_initializer}
use Rattle.conversion.specs.Conversion.{inner_kind, inner_kinds, seen, as_simple, as_any, as_value, as_element, as_last_element, as_property, as_last_property, as_name, change, roles, over, both, convert_as, convert_kids}
use Rattle.conversion.proofs.NotJudgedAgain.{rest_tree, comma_tree, operator_tree, member_tree}
use Rattle.grammar.specs.Sheet.{Sheet, sheet_of, first_tree, after_records, and_then, or_else, ◌>>=◌, try, yield, refuse, say}
use Rattle.grammar.specs.Primary.{parenthesized_of, primary_of, spread_of, elements_of, properties_of, shorthand_of, property_of, key_of}
use Rattle.grammar.specs.LeftHandSide.{left_hand_side_of, links_of, arguments_of}
use Rattle.grammar.specs.Update.{is_unary_operator, is_update_operator, converted_to, unary_of, postfix_of}
use Rattle.grammar.specs.Binary.{operation_kind, right_floor, is_or_and, operation_records, binary_of, operators_of}
use Rattle.grammar.specs.Assignment.{is_assignment_operator, is_async_name, assign_of, conditional_of, after_binary, value_of}
use Rattle.grammar.specs.Comma.{expression_of, sequence_of}
use Rattle.grammar.specs.Arrow.{by_way, choose, noting, arrow_of, assignment_of}
use Rattle.grammar.specs.Step.{step, read}
use Rattle.grammar.specs.Reading.{way_of, unconverted, unconverteds, at_end, reading, box_reading}
use Rattle.agreement.specs.Terms.{ReadAs}

-- a list of tokens with no line break
abbrev unbroken : List ℕ → Sheet
unbroken kinds = sheet_of kinds (replicate (length kinds) 0)

-- THE STATEMENT: each list is read as its tree, with one record
pub record GivenWhenRead : Type 0 where
  -- `[{...[a]} = b]`
  pub rest : ReadAs (box_reading (unbroken (LBrack ∷ LCurly ∷ Dot3 ∷ LBrack ∷ Ident ∷ RBrack ∷ RCurly ∷ Eq ∷ Ident ∷ RBrack ∷ []))) (one rest_tree) (rest_argument 3 ∷ [])
  -- `[[...a,] = b]`
  pub comma : ReadAs (box_reading (unbroken (LBrack ∷ LBrack ∷ Dot3 ∷ Ident ∷ Comma ∷ RBrack ∷ Eq ∷ Ident ∷ RBrack ∷ []))) (one comma_tree) (rest_comma 1 ∷ [])
  -- `[[a += 1] = b]`
  pub operator : ReadAs (box_reading (unbroken (LBrack ∷ LBrack ∷ Ident ∷ PlusEq ∷ Number ∷ RBrack ∷ Eq ∷ Ident ∷ RBrack ∷ []))) (one operator_tree) (compound_default 3 ∷ [])
  -- `[{a = 1}.x]`
  pub member : ReadAs (box_reading (unbroken (LBrack ∷ LCurly ∷ Ident ∷ Eq ∷ Number ∷ RCurly ∷ Dot ∷ Ident ∷ RBrack ∷ []))) (one member_tree) (shorthand_initializer 3 ∷ [])

pub given_when_read : GivenWhenRead
unfolding is_name is_word is_literal is_binding_identifier is_modifier_kind level expression_level no_parameters rest_parameter modified_name after_name first_parameter after_paren type_parameter names_type after_angle after_open three_way join count kind_of mark_of first_of end_of kids_of inner_kind inner_kinds seen as_simple as_any as_value as_element as_last_element as_property as_last_property as_name change roles over both convert_as convert_kids first_tree after_records and_then or_else ◌>>=◌ try yield refuse say parenthesized_of primary_of spread_of elements_of properties_of shorthand_of property_of key_of left_hand_side_of links_of arguments_of is_unary_operator is_update_operator converted_to unary_of postfix_of operation_kind right_floor is_or_and operation_records binary_of operators_of is_assignment_operator is_async_name assign_of conditional_of after_binary value_of expression_of sequence_of by_way choose noting arrow_of assignment_of step read way_of unconverted unconverteds at_end reading
given_when_read =
    record {
      rest = record { after = _; is_whole = refl };
      comma = record { after = _; is_whole = refl };
      operator = record { after = _; is_whole = refl };
      member = record { after = _; is_whole = refl };
    }
