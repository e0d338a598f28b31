-- What a plan says of a row: that its kids are converted, or what comes of it alone.
-- Assumes nothing.
use Rattle.std.specs.Prelude.{Option, Ok}
use Prim.Native.Nat.{ℕ, ◌≤◌}
use mathlib.Core.Path.{◌≡◌}
use mathlib.Core.Bool.{Bool, true, false}
use borrow.Author.Rules.{rules}
use lib.ListN.{length}
use mathlib.Core.List.{List}
use Rattle.rows.specs.Tree.{Tree, Forest, node, mark_of, first_of, end_of, kids_of}
use Rattle.rows.specs.Record.{Record}
use Rattle.conversion.specs.Conversion as def
use Rattle.conversion.specs.Conversion.{Outcome, turned, over}
use Rattle.conversion.proofs.Potentials.{comma_count}
use Rattle.roles.specs.declared.plan.Plan.{Plan}
use Rattle.roles.specs.declared.plan.Plan.TheVariants.{WrongRest}
use Rattle.roles.specs.Meaning as means
use Rattle.roles.specs.Meaning.{kind, before, after, kid, kids, plan}
use Rattle.targets.specs.Outcome as outcome

-- the kids are converted
pub turning : (begins : ℕ) (of : Plan) → means.alone of ≡ false → plan begins of ≡ def.turn (kind of) (before begins of) (kids of) (after of)
unfolding plan
turning begins of h = search rules

-- or the row is alone: what it gives by itself is all that comes of it
pub own_over : (begins : ℕ) (of : Plan) (t : Tree) (kids : Outcome Forest) → means.alone of ≡ true → outcome.own (plan begins of) ≡ outcome.found (over (plan begins of) t kids)
unfolding plan before over
own_over begins of t kids a = search rules

pub alone_turned : (begins : ℕ) (of : Plan) (t : Tree) (kids : Outcome Forest) (t' : Tree) (rs : List Record) → means.alone of ≡ true → over (plan begins of) t kids ≡ turned t' rs
    → (t' ≡ node (kind of) (mark_of t) (first_of t) (end_of t) (kids_of t)) × (rs ≡ before begins of)
unfolding plan before over kind mark_of first_of end_of kids_of
alone_turned begins of t kids t' rs a h = search rules

-- only those before the kids of a wrong rest depend on where the last kid begins
pub same_before : (b b' : ℕ) (of : Plan) → ((comma : Option ℕ) → of ≡ WrongRest comma → b ≡ b') → before b of ≡ before b' of
unfolding before
same_before b b' of h = search rules

-- how many they are does not
pub before_length : (b b' : ℕ) (of : Plan) → length (before b of) ≡ length (before b' of)
unfolding before
before_length b b' of = search rules

-- a row hands down one comma at most
pub few_commas : (of : Plan) (last : Bool) → comma_count (kid of last) ≤ 1
unfolding kid
few_commas of last = search rules

-- a row by itself gives few records
pub own_few : (begins : ℕ) (of : Plan) (n : ℕ) → outcome.own (plan begins of) ≡ Ok n → n ≤ 3
unfolding plan before after
own_few begins of n e = search rules
