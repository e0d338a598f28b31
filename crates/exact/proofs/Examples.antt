-- The sheets P1 to P10 of docs/RULES.md in the standard's terms: which of them ECMA-262 derives, with which tree, and which it does not.
-- Assumes nothing.
use Prim.Native.Nat.{ℕ}
use mathlib.Core.Path.{◌≡◌, refl}
use mathlib.Core.List.{List, [], ◌∷◌, ◌++◌}
use native.Mathlib.Omega.{arith}
use lib.ListN.{length, replicate}
use Rattle.tokens.specs.declared.cause.Cause.{Cause}
use Rattle.rows.specs.Tree.{Tree, Forest, node, nil, one}
use Rattle.rows.specs.Record.{Record}
use Rattle.grammar.specs.Sheet.{Sheet, ◌>>=◌}
use Rattle.tokens.specs.Token.{is_name, is_word, is_literal}
use Rattle.operators.specs.Precedence.{level, expression_level}
use Rattle.rows.specs.Tree.{row, join, count, size, sizes, flat, flats, kind_of, mark_of, first_of, end_of, kids_of}
use Rattle.conversion.specs.Conversion.{inner_kind, inner_kinds, seen, as_simple, as_any, as_value, as_element, as_last_element, as_property, as_last_property, as_name, change, roles, over, both, convert_as, convert_kids}
use Rattle.grammar.specs.Sheet.{first_tree, after_records, and_then, or_else, try, yield, refuse, say}
use Rattle.grammar.specs.Primary.{parenthesized_of, primary_of, spread_of, elements_of, properties_of, shorthand_of, property_of, key_of}
use Rattle.grammar.specs.LeftHandSide.{left_hand_side_of, links_of, arguments_of}
use Rattle.grammar.specs.Update.{is_unary_operator, is_update_operator, converted_to, unary_of, postfix_of}
use Rattle.grammar.specs.Binary.{operation_kind, right_floor, is_or_and, operation_records, binary_of, operators_of}
use Rattle.grammar.specs.Assignment.{is_assignment_operator, is_async_name, assign_of, conditional_of, after_binary, value_of}
use Rattle.grammar.specs.Comma.{expression_of, sequence_of}
use Rattle.grammar.specs.Binding.{binding_of, binding_element_of, binding_rest_of, binding_elements_of, binding_properties_of, binding_shorthand_of, binding_property_of}
use Rattle.grammar.specs.Arrow.{by_way, choose, noting, arrow_of, assignment_of, parenthesized_head_of, head_of, parameters_of, body_of}
use Rattle.grammar.specs.Step.{step, read}
use Rattle.grammar.specs.Reading.{unconverted, unconverteds, at_end, reading}
use Rattle.grammar.specs.Reading.{Whole, whole, refused, plain_reading}
use Rattle.ecma262.specs.Derives.{Expression, Derived}
use Rattle.exact.proofs.Unambiguous.{clean_is_derived}

-- a sheet with no line breaks
abbrev sheet : List ℕ → Sheet
sheet kinds = record { kinds = kinds; flags = replicate (length kinds) 0 }

-- the standard has the list as an Expression with this tree
abbrev pub Has : List ℕ → Tree → Type 0
Has kinds t = Derived (sheet kinds) Expression 0 (length kinds) t

-- the standard does not have the list as an Expression
abbrev pub HasNot : List ℕ → Type 0
HasNot kinds = (t : Tree) → Has kinds t → ⊥

-- what is refused, and what is read with a record, the standard does not have
refused_not : {kinds : List ℕ} {cause : Cause} → plain_reading (sheet kinds) ≡ refused cause → HasNot kinds
refused_not e t d = let f = clean_is_derived.1 d in let z : ◌≡◌ {A = ℕ} 0 1 = cc in omega arith

said_not : {kinds : List ℕ} {trees : Forest} {r : Record} {records : List Record} → plain_reading (sheet kinds) ≡ whole trees (r ∷ records) tt → HasNot kinds
said_not e t d = let f = clean_is_derived.1 d in let z : ◌≡◌ {A = ℕ} 0 1 = cc in omega arith

-- the tree that the plain reader reads
abbrev got : List ℕ → Tree
got kinds = by (plain_reading (sheet kinds))
  where
    by : Whole (Unit {0}) → Tree
    by (whole trees records notes) = first_tree trees
    by (refused cause) = node 0 0 0 0 nil

-- a list and the words of its tree, or a list that has none
pub data Claim : Type 0 where
  has : (kinds words : List ℕ) → Claim
  has_not : List ℕ → Claim

abbrev pub Holds : Claim → Type 0
Holds (has kinds words) = (t : Tree) × Has kinds t × (flat t ≡ words)
Holds (has_not kinds) = HasNot kinds

abbrev pub All : List Claim → Type 0
All [] = Unit {0}
All (claim ∷ claims) = Holds claim × All claims

-- P1 to P10 and G1 to G7 of docs/RULES.md, and two more; kinds and rows are plain numbers
abbrev pub claims : List Claim
claims =
    -- P1: `[a, b] = c`
    has (20 ∷ 1 ∷ 24 ∷ 1 ∷ 21 ∷ 63 ∷ 1 ∷ []) (row 40 1 1 2 0 1 ++ row 40 3 3 4 0 1 ++ row 42 0 0 5 2 3 ++ row 1 6 6 7 0 1 ++ row 25 5 0 7 2 5)
    -- P2: `(a, b)`
    ∷ has (18 ∷ 1 ∷ 24 ∷ 1 ∷ 19 ∷ []) (row 1 1 1 2 0 1 ++ row 1 3 3 4 0 1 ++ row 27 2 1 4 2 3 ++ row 4 0 0 5 1 4)
    -- P3: `(a, b) => a`
    ∷ has (18 ∷ 1 ∷ 24 ∷ 1 ∷ 19 ∷ 29 ∷ 1 ∷ []) (row 30 1 1 2 0 1 ++ row 30 3 3 4 0 1 ++ row 1 6 6 7 0 1 ++ row 28 5 0 7 3 4)
    -- P4: `((a)) = b`
    ∷ has (18 ∷ 18 ∷ 1 ∷ 19 ∷ 19 ∷ 63 ∷ 1 ∷ []) (row 40 2 2 3 0 1 ++ row 41 1 1 4 1 2 ++ row 41 0 0 5 1 3 ++ row 1 6 6 7 0 1 ++ row 25 5 0 7 2 5)
    -- P5: `({a}) = b` refused
    ∷ has_not (18 ∷ 22 ∷ 1 ∷ 23 ∷ 19 ∷ 63 ∷ 1 ∷ [])
    -- P6: `{...[a]} = b` has record 3
    ∷ has_not (22 ∷ 28 ∷ 20 ∷ 1 ∷ 21 ∷ 23 ∷ 63 ∷ 1 ∷ [])
    -- P7: `[...a,] = b` has record 4
    ∷ has_not (20 ∷ 28 ∷ 1 ∷ 24 ∷ 21 ∷ 63 ∷ 1 ∷ [])
    -- P8: `[...a, b] = c` refused
    ∷ has_not (20 ∷ 28 ∷ 1 ∷ 24 ∷ 1 ∷ 21 ∷ 63 ∷ 1 ∷ [])
    -- P9: `a - b + c`
    ∷ has (1 ∷ 58 ∷ 1 ∷ 57 ∷ 1 ∷ []) (row 1 0 0 1 0 1 ++ row 1 2 2 3 0 1 ++ row 22 1 0 3 2 3 ++ row 1 4 4 5 0 1 ++ row 22 3 0 5 2 5)
    -- P10: `a ?? b || c` has record 6
    ∷ has_not (1 ∷ 38 ∷ 1 ∷ 39 ∷ 1 ∷ [])
    -- G1: `a + b * c`
    ∷ has (1 ∷ 57 ∷ 1 ∷ 59 ∷ 1 ∷ []) (row 1 0 0 1 0 1 ++ row 1 2 2 3 0 1 ++ row 1 4 4 5 0 1 ++ row 22 3 2 5 2 3 ++ row 22 1 0 5 2 5)
    -- G2: `a * b + c`
    ∷ has (1 ∷ 59 ∷ 1 ∷ 57 ∷ 1 ∷ []) (row 1 0 0 1 0 1 ++ row 1 2 2 3 0 1 ++ row 22 1 0 3 2 3 ++ row 1 4 4 5 0 1 ++ row 22 3 0 5 2 5)
    -- G3: `a ** b ** c`
    ∷ has (1 ∷ 62 ∷ 1 ∷ 62 ∷ 1 ∷ []) (row 1 0 0 1 0 1 ++ row 1 2 2 3 0 1 ++ row 1 4 4 5 0 1 ++ row 22 3 2 5 2 3 ++ row 22 1 0 5 2 5)
    -- G4: `a < b == c`
    ∷ has (1 ∷ 48 ∷ 1 ∷ 44 ∷ 1 ∷ []) (row 1 0 0 1 0 1 ++ row 1 2 2 3 0 1 ++ row 22 1 0 3 2 3 ++ row 1 4 4 5 0 1 ++ row 22 3 0 5 2 5)
    -- G5: `a && b || c`
    ∷ has (1 ∷ 40 ∷ 1 ∷ 39 ∷ 1 ∷ []) (row 1 0 0 1 0 1 ++ row 1 2 2 3 0 1 ++ row 23 1 0 3 2 3 ++ row 1 4 4 5 0 1 ++ row 23 3 0 5 2 5)
    -- G6: `a = b = c`
    ∷ has (1 ∷ 63 ∷ 1 ∷ 63 ∷ 1 ∷ []) (row 40 0 0 1 0 1 ++ row 40 2 2 3 0 1 ++ row 1 4 4 5 0 1 ++ row 25 3 2 5 2 3 ++ row 25 1 0 5 2 5)
    -- G7: `a ? b : c ? d : e`
    ∷ has (1 ∷ 26 ∷ 1 ∷ 25 ∷ 1 ∷ 26 ∷ 1 ∷ 25 ∷ 1 ∷ []) (row 1 0 0 1 0 1 ++ row 1 2 2 3 0 1 ++ row 1 4 4 5 0 1 ++ row 1 6 6 7 0 1 ++ row 1 8 8 9 0 1 ++ row 24 5 4 9 3 4 ++ row 24 1 0 9 3 7)
    -- `async(...x)`, which the box's reader refuses: the early commit
    ∷ has (2 ∷ 18 ∷ 28 ∷ 1 ∷ 19 ∷ []) (row 1 0 0 1 0 1 ++ row 1 3 3 4 0 1 ++ row 10 2 2 4 1 2 ++ row 18 0 0 5 2 4)
    -- `{a = 1}` has record 8
    ∷ has_not (22 ∷ 1 ∷ 63 ∷ 12 ∷ 23 ∷ [])
    ∷ []

-- what is read with no record the standard has
derived : {kinds words : List ℕ} → plain_reading (sheet kinds) ≡ whole (one (got kinds)) [] tt → flat (got kinds) ≡ words → Holds (has kinds words)
derived {kinds} e w = (got kinds, clean_is_derived.0 e, w)

pub claims_hold : All claims
unfolding is_name is_word is_literal level expression_level join count size sizes flat flats kind_of mark_of first_of end_of kids_of inner_kind inner_kinds seen as_simple as_any as_value as_element as_last_element as_property as_last_property as_name change roles over both convert_as convert_kids first_tree after_records and_then or_else ◌>>=◌ try yield refuse say parenthesized_of primary_of spread_of elements_of properties_of shorthand_of property_of key_of left_hand_side_of links_of arguments_of is_unary_operator is_update_operator converted_to unary_of postfix_of operation_kind right_floor is_or_and operation_records binary_of operators_of is_assignment_operator is_async_name assign_of conditional_of after_binary value_of expression_of sequence_of binding_of binding_element_of binding_rest_of binding_elements_of binding_properties_of binding_shorthand_of binding_property_of by_way choose noting arrow_of assignment_of parenthesized_head_of head_of parameters_of body_of step read unconverted unconverteds at_end reading
claims_hold = (derived refl refl, (derived refl refl, (derived refl refl, (derived refl refl, (refused_not refl, (said_not refl, (said_not refl, (refused_not refl, (derived refl refl, (said_not refl, (derived refl refl, (derived refl refl, (derived refl refl, (derived refl refl, (derived refl refl, (derived refl refl, (derived refl refl, (derived refl refl, (said_not refl, tt)))))))))))))))))))
