-- One answer for each input: any two plans that a contract allows say the same, of the code's `Plan` and of numbers.
-- Assumes nothing.
use Prim.Native.Nat.{ℕ}
use Rattle.roles.specs.declared.plan.Plan.{Plan}
use mathlib.Core.Path.{◌≡◌, sym, ◌∙◌}
use mathlib.Core.Bool.{Bool}
use Rattle.conversion.specs.Conversion.{change}
use Rattle.roles.specs.Meaning.{seen}
use Rattle.roles.specs.Meaning as means
use Rattle.roles.specs.Numbers.{kid, plan}
use Rattle.roles.specs.declared.Seen.{Seen}

-- plan_of
pub planned_once : (under : ℕ) (last : Bool) (s : Seen) (p q : ℕ) → plan s.begins p ≡ change (kid under last) (seen s) → plan s.begins q ≡ change (kid under last) (seen s)
    → plan s.begins p ≡ plan s.begins q
planned_once under last s p q g h = g ∙ sym h

-- Plan::of_kid
pub plans_once : (under : Plan) (last : Bool) (s : Seen) (p q : Plan) → means.plan s.begins p ≡ change (means.kid under last) (seen s)
    → means.plan s.begins q ≡ change (means.kid under last) (seen s) → means.plan s.begins p ≡ means.plan s.begins q
plans_once under last s p q g h = g ∙ sym h
