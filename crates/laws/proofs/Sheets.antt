-- The sheets to prove by, P1 to P10 of docs/RULES.md and G1 to G7 on grouping: one statement over the table, exact to the last word of the tree and the records.
-- Kinds and rows are plain numbers here: what the names of kinds and rows stand for is not asked.
-- Assumes nothing.
use Prim.Native.Nat.{ℕ}
use mathlib.Core.Path.{◌≡◌, refl}
use mathlib.Core.List.{List, [], ◌∷◌, ◌++◌}
use lib.ListN.{length, replicate}
use Rattle.tokens.specs.Token.{is_name, is_word, is_literal, is_binding_identifier, is_modifier_kind}
use Rattle.operators.specs.Precedence.{level, expression_level}
use Rattle.lookahead.specs.ThreeWay.{no_parameters, rest_parameter, modified_name, after_name, first_parameter, after_paren, type_parameter, names_type, after_angle, after_open, three_way}
use Rattle.rows.specs.Tree.{join, size, sizes, flat, flats, mark_of, end_of, kids_of, row}
use Rattle.rows.specs.Record.{record_words}
use Rattle.grammar.specs.Sheet.{first_tree, after_records, and_then, or_else, ◌>>=◌, try, yield, refuse, say, Sheet}
use Rattle.grammar.specs.Update.{is_unary_operator, is_update_operator, converted_to}
use Rattle.grammar.specs.Binary.{operation_kind, right_floor, is_or_and, operation_records}
use Rattle.grammar.specs.Assignment.{is_assignment_operator, is_async_name}
use Rattle.grammar.specs.Arrow.{by_way, choose, noting}
use Rattle.laws.proofs.Good.{productions}
use Rattle.conversion.proofs.KidRoles.{conversion}
use Rattle.grammar.specs.Step.{read}
use Rattle.grammar.specs.Reading.{way_of, noted_places, unconverted, unconverteds, at_end, reading, Whole, whole, refused, box_reading, answer_of}
use Rattle.tokens.specs.declared.cause.Answer.{Answer}
use Rattle.tokens.specs.declared.cause.Cause.{Cause}

-- a sheet with no line breaks, and what the reading gives: the answer, the words of the rows and of the records
pub record Case : Type 0 where
  pub kinds : List ℕ
  pub answer : Answer
  pub rows : List ℕ
  pub records : List ℕ

abbrev counts : ℕ → ℕ → ℕ → Answer
counts rows records abandoned = Answer.Read (record { rows = rows; records = records; abandoned = abandoned })

-- the kinds, the answer, the words of the rows, the words of the records
abbrev case : List ℕ → Answer → List ℕ → List ℕ → Case
case kinds answer rows records = record { kinds = kinds; answer = answer; rows = rows; records = records }

-- P1: `[a, b] = c`
abbrev pub P1 : Case
P1 = case (20 ∷ 1 ∷ 24 ∷ 1 ∷ 21 ∷ 63 ∷ 1 ∷ []) (counts 5 0 0) (row 40 1 1 2 0 1 ++ row 40 3 3 4 0 1 ++ row 42 0 0 5 2 3 ++ row 1 6 6 7 0 1 ++ row 25 5 0 7 2 5) []

-- P2: `(a, b)`
abbrev pub P2 : Case
P2 = case (18 ∷ 1 ∷ 24 ∷ 1 ∷ 19 ∷ []) (counts 4 0 1) (row 1 1 1 2 0 1 ++ row 1 3 3 4 0 1 ++ row 27 2 1 4 2 3 ++ row 4 0 0 5 1 4) []

-- P3: `(a, b) => a`
abbrev pub P3 : Case
P3 = case (18 ∷ 1 ∷ 24 ∷ 1 ∷ 19 ∷ 29 ∷ 1 ∷ []) (counts 4 0 0) (row 30 1 1 2 0 1 ++ row 30 3 3 4 0 1 ++ row 1 6 6 7 0 1 ++ row 28 5 0 7 3 4) []

-- P4: `((a)) = b`
abbrev pub P4 : Case
P4 = case (18 ∷ 18 ∷ 1 ∷ 19 ∷ 19 ∷ 63 ∷ 1 ∷ []) (counts 5 0 1) (row 40 2 2 3 0 1 ++ row 41 1 1 4 1 2 ++ row 41 0 0 5 1 3 ++ row 1 6 6 7 0 1 ++ row 25 5 0 7 2 5) []

-- P5: `({a}) = b`
abbrev pub P5 : Case
P5 = case (18 ∷ 22 ∷ 1 ∷ 23 ∷ 19 ∷ 63 ∷ 1 ∷ []) (Answer.Refused (Cause.Target 0)) [] []

-- P6: `{...[a]} = b`
abbrev pub P6 : Case
P6 = case (22 ∷ 28 ∷ 20 ∷ 1 ∷ 21 ∷ 23 ∷ 63 ∷ 1 ∷ []) (counts 6 1 0) (row 40 3 3 4 0 1 ++ row 42 2 2 5 1 2 ++ row 44 1 1 5 1 3 ++ row 43 0 0 6 1 4 ++ row 1 7 7 8 0 1 ++ row 25 6 0 8 2 6) (3 ∷ 2 ∷ [])

-- P7: `[...a,] = b`
abbrev pub P7 : Case
P7 = case (20 ∷ 28 ∷ 1 ∷ 24 ∷ 21 ∷ 63 ∷ 1 ∷ []) (counts 5 1 0) (row 40 2 2 3 0 1 ++ row 44 1 1 3 1 2 ++ row 42 0 0 5 1 3 ++ row 1 6 6 7 0 1 ++ row 25 5 0 7 2 5) (4 ∷ 0 ∷ [])

-- P8: `[...a, b] = c`
abbrev pub P8 : Case
P8 = case (20 ∷ 28 ∷ 1 ∷ 24 ∷ 1 ∷ 21 ∷ 63 ∷ 1 ∷ []) (Answer.Refused (Cause.Spread 1)) [] []

-- P9: `a - b + c`
abbrev pub P9 : Case
P9 = case (1 ∷ 58 ∷ 1 ∷ 57 ∷ 1 ∷ []) (counts 5 0 0) (row 1 0 0 1 0 1 ++ row 1 2 2 3 0 1 ++ row 22 1 0 3 2 3 ++ row 1 4 4 5 0 1 ++ row 22 3 0 5 2 5) []

-- P10: `a ?? b || c`
abbrev pub P10 : Case
P10 = case (1 ∷ 38 ∷ 1 ∷ 39 ∷ 1 ∷ []) (counts 5 1 0) (row 1 0 0 1 0 1 ++ row 1 2 2 3 0 1 ++ row 1 4 4 5 0 1 ++ row 23 3 2 5 2 3 ++ row 23 1 0 5 2 5) (6 ∷ 1 ∷ [])

-- GROUPING: G1 to G7, how operators of different levels and of one level stand to each other
-- G1: `a + b * c`
abbrev pub G1 : Case
G1 = case (1 ∷ 57 ∷ 1 ∷ 59 ∷ 1 ∷ []) (counts 5 0 0) (row 1 0 0 1 0 1 ++ row 1 2 2 3 0 1 ++ row 1 4 4 5 0 1 ++ row 22 3 2 5 2 3 ++ row 22 1 0 5 2 5) []

-- G2: `a * b + c`
abbrev pub G2 : Case
G2 = case (1 ∷ 59 ∷ 1 ∷ 57 ∷ 1 ∷ []) (counts 5 0 0) (row 1 0 0 1 0 1 ++ row 1 2 2 3 0 1 ++ row 22 1 0 3 2 3 ++ row 1 4 4 5 0 1 ++ row 22 3 0 5 2 5) []

-- G3: `a ** b ** c`
abbrev pub G3 : Case
G3 = case (1 ∷ 62 ∷ 1 ∷ 62 ∷ 1 ∷ []) (counts 5 0 0) (row 1 0 0 1 0 1 ++ row 1 2 2 3 0 1 ++ row 1 4 4 5 0 1 ++ row 22 3 2 5 2 3 ++ row 22 1 0 5 2 5) []

-- G4: `a < b == c`
abbrev pub G4 : Case
G4 = case (1 ∷ 48 ∷ 1 ∷ 44 ∷ 1 ∷ []) (counts 5 0 0) (row 1 0 0 1 0 1 ++ row 1 2 2 3 0 1 ++ row 22 1 0 3 2 3 ++ row 1 4 4 5 0 1 ++ row 22 3 0 5 2 5) []

-- G5: `a && b || c`
abbrev pub G5 : Case
G5 = case (1 ∷ 40 ∷ 1 ∷ 39 ∷ 1 ∷ []) (counts 5 0 0) (row 1 0 0 1 0 1 ++ row 1 2 2 3 0 1 ++ row 23 1 0 3 2 3 ++ row 1 4 4 5 0 1 ++ row 23 3 0 5 2 5) []

-- G6: `a = b = c`
abbrev pub G6 : Case
G6 = case (1 ∷ 63 ∷ 1 ∷ 63 ∷ 1 ∷ []) (counts 5 0 0) (row 40 0 0 1 0 1 ++ row 40 2 2 3 0 1 ++ row 1 4 4 5 0 1 ++ row 25 3 2 5 2 3 ++ row 25 1 0 5 2 5) []

-- G7: `a ? b : c ? d : e`
abbrev pub G7 : Case
G7 = case (1 ∷ 26 ∷ 1 ∷ 25 ∷ 1 ∷ 26 ∷ 1 ∷ 25 ∷ 1 ∷ []) (counts 7 0 0) (row 1 0 0 1 0 1 ++ row 1 2 2 3 0 1 ++ row 1 4 4 5 0 1 ++ row 1 6 6 7 0 1 ++ row 1 8 8 9 0 1 ++ row 24 5 4 9 3 4 ++ row 24 1 0 9 3 7) []

abbrev pub sheets : List Case
sheets = P1 ∷ P2 ∷ P3 ∷ P4 ∷ P5 ∷ P6 ∷ P7 ∷ P8 ∷ P9 ∷ P10 ∷ G1 ∷ G2 ∷ G3 ∷ G4 ∷ G5 ∷ G6 ∷ G7 ∷ []

-- the words of what was read; a refusal has none
abbrev pub row_words : Whole (List ℕ) → List ℕ
row_words (whole trees records notes) = flats trees
row_words (refused cause) = []

abbrev pub said_words : Whole (List ℕ) → List ℕ
said_words (whole trees records notes) = record_words records
said_words (refused cause) = []

abbrev pub sheet_of : Case → Sheet
sheet_of given = record { kinds = given.kinds; flags = replicate (length given.kinds) 0 }

-- what the reader gives is the case
abbrev pub Holds : Case → Type 0
Holds given =
    let read = box_reading (sheet_of given) in
    case given.kinds (answer_of read) (row_words read) (said_words read) ≡ given

abbrev pub All : (Case → Type 0) → List Case → Type 0
All P [] = Unit {0}
All P (given ∷ others) = P given × All P others

pub sheets_hold : All Holds sheets
unfolding productions conversion is_name is_word is_literal is_binding_identifier is_modifier_kind level expression_level no_parameters rest_parameter modified_name after_name first_parameter after_paren type_parameter names_type after_angle after_open three_way join size sizes flat flats mark_of end_of kids_of record_words first_tree after_records and_then or_else ◌>>=◌ try yield refuse say is_unary_operator is_update_operator converted_to operation_kind right_floor is_or_and operation_records is_assignment_operator is_async_name by_way choose noting read way_of noted_places unconverted unconverteds at_end reading
sheets_hold = (refl, (refl, (refl, (refl, (refl, (refl, (refl, (refl, (refl, (refl, (refl, (refl, (refl, (refl, (refl, (refl, (refl, tt)))))))))))))))))
