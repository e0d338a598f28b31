-- The rules of the assignment level, by the way that the box takes at a place.
-- Assumes nothing.
use Rattle.std.specs.Prelude.{if◌then◌else◌}
use Prim.Native.Nat.{ℕ}
use mathlib.Core.Path.{◌≡◌, refl}
use mathlib.Core.Bool.{Bool, true, false, not}
use mathlib.Core.List.{List}
use native.Mathlib.Omega.{arith}
use lib.ListN.{get_or, set}
use Rattle.tokens.specs.Bool.{◌is◌}
use Rattle.tokens.specs.declared.cause.Cause.{Cause}
use Rattle.lookahead.specs.ThreeWay.{three_way}
use Rattle.rows.specs.Tree.{Forest}
use Rattle.rows.specs.Record.{Record}
use Rattle.grammar.specs.Sheet.{Out, done, fail, after_records, and_then, or_else, ◌>>=◌, try}
use Rattle.grammar.specs.Job.{assignment, value, head, body}
use Rattle.grammar.specs.Arrow.{Way, pass, attempt, commit, by_way, choose, noting, arrow_of, assignment_of}
use Rattle.grammar.specs.Step.{step}
use Rattle.grammar.specs.Reading.{way_of}
use Rattle.laws.proofs.Bounds.{bounded}
use Rattle.build.specs.Post.{Comes}
use Rattle.heads.specs.Heads.{may_open, way_at, arrow_kind}
use Rattle.build.proofs.Rules.{come}

-- a way other than passing says that a head may open
only_open : (opens : Bool) (way w : Way) → (pass ≡ w → ⊥) → (if opens then way else pass) ≡ w → (opens ≡ true) × (way ≡ w)
only_open true way w h e = (refl, e)
only_open false way w h e = absurd (h e)

pass_attempt : pass ≡ attempt → ⊥
pass_attempt e = let z : ◌≡◌ {A = ℕ} 0 1 = cc in omega arith

pass_commit : pass ≡ commit → ⊥
pass_commit e = let z : ◌≡◌ {A = ℕ} 0 1 = cc in omega arith

abbrev box_way : List ℕ → List ℕ → List ℕ → ℕ → Way
box_way ks fs m at = way_of (three_way ks fs false false at) (not (get_or m at 0 is 0))

-- the ways through the assignment level, by whether a head may open and by the box's way
module _ {ks fs : List ℕ} {at : ℕ} {m : List ℕ} where
  skips : {out : Out (List ℕ)} → may_open (get_or ks at 0) ≡ false → Comes ks fs (value at) m out → Comes ks fs (assignment at) m out
  unfolding step assignment_of may_open
  skips o a = come (λ f le. rw (o, a.settles.with f (omega arith)))

  passes : {out : Out (List ℕ)} → may_open (get_or ks at 0) ≡ true → box_way ks fs m at ≡ pass → Comes ks fs (value at) m out → Comes ks fs (assignment at) m out
  unfolding step assignment_of may_open choose by_way
  passes o w a = come (λ f le. rw (o, w, a.settles.with f (omega arith)))

  either : {out : Out (List ℕ)} (opens : Bool) → may_open (get_or ks at 0) ≡ opens → (if opens then box_way ks fs m at else pass) ≡ pass
      → Comes ks fs (value at) m out → Comes ks fs (assignment at) m out
  either true o w a = passes o w a
  either false o w a = skips o a

  pub assignment_passes : {out : Out (List ℕ)} → way_at ks fs m at ≡ pass → Comes ks fs (value at) m out → Comes ks fs (assignment at) m out
  unfolding way_at
  assignment_passes w a = either (may_open (get_or ks at 0)) refl w a

  pub assignment_tries : {p : ℕ} {ts : Forest} {rs : List Record} {m' : List ℕ} {out : Out (List ℕ)} → way_at ks fs m at ≡ attempt → Comes ks fs (head at) m (done p ts rs m')
      → Comes ks fs (body (arrow_kind ks at) at p ts) m' out → Comes ks fs (assignment at) m (after_records rs out)
  unfolding step assignment_of way_at may_open choose by_way try or_else arrow_of arrow_kind
  assignment_tries w a b =
      let o = only_open (may_open (get_or ks at 0)) (box_way ks fs m at) attempt pass_attempt w in
      let r = bounded a.settles in
      come (λ f le. rw (o.0, o.1, a.settles.with f (omega arith), b.settles.with f (omega arith)))

  pub assignment_gives_up : {c : Cause} {m' : List ℕ} {out : Out (List ℕ)} → way_at ks fs m at ≡ attempt → Comes ks fs (head at) m (fail c m')
      → Comes ks fs (value at) (set m' at 1) out → Comes ks fs (assignment at) m out
  unfolding step assignment_of way_at may_open choose by_way try or_else noting
  assignment_gives_up w a b =
      let o = only_open (may_open (get_or ks at 0)) (box_way ks fs m at) attempt pass_attempt w in
      come (λ f le. rw (o.0, o.1, a.settles.with f (omega arith), b.settles.with f (omega arith)))

  pub assignment_commits : {p : ℕ} {ts : Forest} {rs : List Record} {m' : List ℕ} {out : Out (List ℕ)} → way_at ks fs m at ≡ commit → Comes ks fs (head at) m (done p ts rs m')
      → Comes ks fs (body (arrow_kind ks at) at p ts) m' out → Comes ks fs (assignment at) m (after_records rs out)
  unfolding step assignment_of way_at may_open choose by_way ◌>>=◌ and_then arrow_of arrow_kind
  assignment_commits w a b =
      let o = only_open (may_open (get_or ks at 0)) (box_way ks fs m at) commit pass_commit w in
      let r = bounded a.settles in
      come (λ f le. rw (o.0, o.1, a.settles.with f (omega arith), b.settles.with f (omega arith)))

  pub assignment_fails : {c : Cause} {m' : List ℕ} → way_at ks fs m at ≡ commit → Comes ks fs (head at) m (fail c m') → Comes ks fs (assignment at) m (fail c m')
  unfolding step assignment_of way_at may_open choose by_way ◌>>=◌ and_then
  assignment_fails w a =
      let o = only_open (may_open (get_or ks at 0)) (box_way ks fs m at) commit pass_commit w in
      come (λ f le. rw (o.0, o.1, a.settles.with f (omega arith)))
