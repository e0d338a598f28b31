-- The promises of the definition of a reading, each as a statement with a short name, and its proof from the law that has it.
-- Those of the box's reader are said of `box_reading` and `box_pattern`; the laws say the same of every policy.
-- Assumes nothing.
use native.Mathlib.Omega.{arith}
use Rattle.grammar.specs.Job.{expression, binding_element}
use Rattle.grammar.specs.Step.{plenty}
use Rattle.laws.proofs.Settles.{in_plenty}
use Rattle.grammar.specs.Reading.{box, cleared}
use Rattle.laws.proofs.Bounds as Bounds
use Rattle.laws.proofs.Steady as Steady
use Rattle.laws.proofs.Places as Places
use Rattle.laws.proofs.Abandoned as Abandoned
use Rattle.laws.proofs.WellFormed as WellFormed
use Rattle.laws.specs.Promises.{AbandonedOnce, EverySettles, NeverStuck, NotesStay, OneOutcome, PlentyIsEnough, RecordsFit, RefusalsStand, RowsFit, RowsLie, TreesFormed}

-- ALL OF THEM
pub every_settles : EverySettles
every_settles N policy sheet job notes there = Steady.settles policy sheet job there notes

pub never_stuck : NeverStuck
never_stuck N policy sheet job notes steps there enough e = Steady.never_stuck policy sheet job there notes steps enough e

pub plenty_is_enough : PlentyIsEnough
plenty_is_enough N policy sheet job notes there e = Steady.never_stuck policy sheet job there notes (plenty sheet) (in_plenty sheet job) e

pub one_outcome : OneOutcome
one_outcome N policy sheet job notes out out' s s' = Steady.one_outcome s s'

pub rows_fit : RowsFit
rows_fit = (λ sheet trees records notes e. (Bounds.room (box sheet) sheet cleared e).rows, λ sheet trees records notes e. (Bounds.room_of_pattern (box sheet) sheet cleared e).rows)

pub records_fit : RecordsFit
records_fit =
    (λ sheet trees records notes e. (Bounds.room (box sheet) sheet cleared e).records_too, λ sheet trees records notes e. (Bounds.room_of_pattern (box sheet) sheet cleared e).records_too)

pub trees_formed : TreesFormed
trees_formed =
    (λ sheet trees records notes e. WellFormed.whole_is_well_formed (box sheet) sheet cleared e, λ sheet trees records notes e. WellFormed.pattern_is_well_formed (box sheet) sheet cleared e)

pub rows_lie : RowsLie
rows_lie = (λ sheet trees records notes e. Places.whole_lies (box sheet) sheet cleared e, λ sheet trees records notes e. Places.pattern_lies (box sheet) sheet cleared e)

pub notes_stay : NotesStay
notes_stay = (
  λ sheet trees records notes e. Abandoned.notes_stay_whole sheet (expression 0) (omega arith) e,
  λ sheet trees records notes e. Abandoned.notes_stay_whole sheet (binding_element 0) (omega arith) e,
)

pub refusals_stand : RefusalsStand
refusals_stand = (λ sheet cause e. Places.refusal_inside (box sheet) sheet cleared e, λ sheet cause e. Places.pattern_refusal_inside (box sheet) sheet cleared e)

pub abandoned_once : AbandonedOnce
abandoned_once = (
  λ sheet trees records notes small e. Abandoned.logs_the_same sheet (expression 0) (omega arith) small e,
  λ sheet trees records notes small e. Abandoned.logs_the_same sheet (binding_element 0) (omega arith) small e,
)
