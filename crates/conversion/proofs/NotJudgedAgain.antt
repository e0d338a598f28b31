-- What the target rule does not judge again, on four trees that readings make: of `[{...[a]} = b]`, `[[...a,] = b]`, `[[a += 1] = b]`, `[{a = 1}.x]`. Each is well-formed, a target by the rule, and
-- converted with no record, though ECMA-262 has none of the four as a target. The reading gives the record: `given_when_read` (exact, GivenWhenRead) computes the four readings.
-- Each comment has the text, whose tokens count from 0. The statement, at the end: `not_judged_again`. Assumes nothing.
use Prim.Native.Nat.{ℕ, ◌+◌}
use mathlib.Core.Path.{◌≡◌, refl}
use mathlib.Core.Bool.{true}
use mathlib.Core.List.{[]}
use Rattle.rows.specs.Row as row
use Rattle.rows.specs.Shape.{is_listed, is_left_hand_side, is_unary, is_binary, is_logical, is_assignment, is_simple_target, is_target, only, nothing, shape_of, least, may_be, may_end, fits, last_kind, all_fit, is_shaped, well_formed, all_well_formed}
use Rattle.rows.specs.Tree.{Tree, Forest, node, nil, cons, one, kids_of}
use Rattle.conversion.specs.Conversion.{turned, convert}
use Rattle.conversion.proofs.KidRoles.{conversion}
use Rattle.conversion.specs.TargetRule.{Target, simple, member, array, next_element, no_elements, bare, initialized}

-- a row whose mark is its first token
abbrev pub plain : ℕ → ℕ → ℕ → Forest → Tree
plain kind first end kids = node kind first first end kids

-- a row of one token
abbrev pub leaf : ℕ → ℕ → Tree
leaf kind at = plain kind at (at + 1) nil

-- an array of one element that is an Assign of the name b; converted, a TargetArray of a TargetDefault
abbrev around : ℕ → ℕ → ℕ → Tree → Tree
around outer inner equals left = plain outer 0 (equals + 3) (one (node inner equals 1 (equals + 2) (cons left (one (leaf row.Identifier (equals + 1))))))

-- left of the `=` in `[{...[a]} = b]`
abbrev rest_of_object : Tree
rest_of_object = plain row.TargetObject 1 7 (one (plain row.TargetRest 2 6 (one (plain row.TargetArray 3 6 (one (leaf row.TargetName 4))))))

-- left of the `=` in `[[...a,] = b]`
abbrev comma_after_rest : Tree
comma_after_rest = plain row.TargetArray 1 6 (one (plain row.TargetRest 2 4 (one (leaf row.TargetName 3))))

-- left of the `=` in `[[a += 1] = b]`
abbrev compound_default : Tree
compound_default = plain row.TargetArray 1 6 (one (node row.TargetDefault 3 2 5 (cons (leaf row.TargetName 2) (one (leaf row.Literal 4)))))

-- an array of one Member of `{a = 1}`; converted, a TargetArray of a TargetMember
abbrev member_of : ℕ → ℕ → Tree
member_of outer inner = plain outer 0 9 (one (node inner 7 1 8 (one (plain row.Object 1 6 (one (node row.ShorthandInit 3 2 5 (cons (leaf row.Identifier 2) (one (leaf row.Literal 4)))))))))

-- THE TREES
-- `[{...[a]} = b]`: reading it gives record 3 at 3, the argument of an object's rest is an array
abbrev pub rest_tree : Tree
rest_tree = around row.Array row.Assign 7 rest_of_object

-- `[[...a,] = b]`: record 4 at 1, a comma after the rest
abbrev pub comma_tree : Tree
comma_tree = around row.Array row.Assign 6 comma_after_rest

-- `[[a += 1] = b]`: record 5 at 3, a compound operator as default
abbrev pub operator_tree : Tree
operator_tree = around row.Array row.Assign 6 compound_default

-- `[{a = 1}.x]`: record 8 at 3, a ShorthandInit that is never converted
abbrev pub member_tree : Tree
member_tree = member_of row.Array row.Member

-- a tree whose words the entry accepts, and the rule holds; converted it is another tree, with no record
pub record Passes (t t' : Tree) : Type 0 where
  pub formed : well_formed t ≡ true
  pub ruled : Target t
  pub converts : convert t ≡ turned t' []

pub record NotJudgedAgain : Type 0 where
  pub rest : Passes rest_tree (around row.TargetArray row.TargetDefault 7 rest_of_object)
  pub comma : Passes comma_tree (around row.TargetArray row.TargetDefault 6 comma_after_rest)
  pub operator : Passes operator_tree (around row.TargetArray row.TargetDefault 6 compound_default)
  pub member : Passes member_tree (member_of row.TargetArray row.TargetMember)

-- THE STATEMENT
pub not_judged_again : NotJudgedAgain
unfolding conversion kids_of is_listed is_left_hand_side is_unary is_binary is_logical is_assignment is_simple_target is_target only nothing shape_of least may_be may_end fits last_kind all_fit is_shaped well_formed all_well_formed
not_judged_again =
    record {
      rest = record { formed = refl; ruled = array (next_element initialized no_elements); converts = refl };
      comma = record { formed = refl; ruled = array (next_element initialized no_elements); converts = refl };
      operator = record { formed = refl; ruled = array (next_element initialized no_elements); converts = refl };
      member = record { formed = refl; ruled = array (next_element (bare (simple member)) no_elements); converts = refl };
    }
