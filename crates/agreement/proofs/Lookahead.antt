-- The three-way answer is right, the early commit excepted: False means that the plain head fails; True means that no use can be made of the way past the head.
-- The statement: `three_way_right`. Assumes nothing.
use Prim.Native.Nat.{ℕ}
use mathlib.Core.Path.{◌≡◌, refl}
use mathlib.Core.Bool.{false}
use native.Mathlib.Omega.{arith}
use Rattle.lookahead.specs.ThreeWay.{three_way}
use Rattle.lookahead.specs.declared.Tristate.{Tristate}
use Rattle.grammar.specs.Sheet.{Sheet}
use Rattle.grammar.specs.Job.{head}
use Rattle.laws.specs.Settles.{μ}
use Rattle.grammar.specs.Reading.{plain, box}
use Rattle.agreement.specs.Terms.{NoEarly}
use Rattle.agreement.proofs.Heads.{false_fails}
use Rattle.agreement.proofs.Past.{true_halts}
use Rattle.agreement.proofs.Asking.{asking}
use Rattle.agreement.proofs.Notes.{head_fails, Right}

-- what the box's reader asks: the three-way answer with both flags off
abbrev pub told : Sheet → ℕ → Tristate
told sheet at = three_way sheet.kinds sheet.flags false false at

-- THE STATEMENT: False means that the plain head fails; True that the way past the head fails or ends before a `{` or `=>`, which nothing allows there
pub three_way_right : (sheet : Sheet) → NoEarly sheet → Right sheet (told sheet)
three_way_right sheet none =
    record {
      false_right = λ at f. head_fails sheet at (μ sheet (head at)) (omega arith) (false_fails sheet plain at f (μ sheet (head at)) (omega arith) tt);
      true_right = λ at t steps le. true_halts plain sheet at steps (none.with at) le tt t;
    }

-- and it is what the box's reader goes by
pub box_asks : (sheet : Sheet) → box sheet ≡ asking (told sheet)
box_asks sheet = refl
