-- What judging a row finds, step by step: the kids are judged from the last to the first.
-- Assumes nothing.
use Rattle.std.specs.Prelude.{Ok, Err, Option, IfSome, is_some}
use Prim.Native.Nat.{ℕ, zero, suc, ◌+◌, ◌-◌, ◌*◌, ◌≤◌, ◌<◌, ◌^◌}
use mathlib.Core.Path.{◌≡◌, refl, sym, ap, ◌∙◌}
use mathlib.Core.Bool.{Bool, true, false}
use mathlib.Core.List.{List}
use native.Mathlib.Omega.{arith}
use borrow.Author.Rules.{rules}
use lib.Dec.{eqb}
use borrow.Author.Tests.{eq-eqb, ne_eqb}
use lib.ListN.{length, get_or, length-append}
use Rattle.tokens.specs.declared.cause.Cause.{Cause}
use Rattle.rows.specs.Tree.{Tree, Forest, nil, cons, count, size, sizes, kids_of}
use Rattle.rows.specs.Record.{Record}
use Rattle.rows.specs.Post.{Word}
use Rattle.rows.proofs.Rows.{sizes_join, Next}
use Rattle.trees.proofs.Walks.{some_rows}
use Rattle.rows.proofs.Flat.{some_row}
use Rattle.conversion.specs.Conversion as def
use Rattle.conversion.specs.Conversion.{Outcome, turned, refused, roles, over, convert_as, convert_kids}
use Rattle.roles.specs.Meaning as means
use Rattle.targets.specs.Outcome as outcome
use Rattle.targets.specs.Post.{Subtree, SizeInside, FirstRow, begins_of, PlanAt, Own, Judged, Sums, Counted}
use Rattle.targets.specs.Outcome.{Conversion}
use Rattle.roles.specs.declared.plan.Plan.{Plan}
use Rattle.targets.specs.Post.{NameUnder}
use Rattle.targets.proofs.Near.{convert_near}
use Rattle.conversion.proofs.Potentials.{pays, potential_size}
use Rattle.targets.proofs.Flat.{no_kid, place_root, Walk, walk_start, walk_some, walk_next, walk_past, whole_next, root_inside, kid_tree, kid_size, kid_text, size_root}
use Rattle.targets.proofs.Looking.{reads_size}
use Rattle.targets.proofs.Plans.{turning, own_over, few_commas, own_few}

-- what comes of a row, by its plan
pub by_plan : {rows : List ℕ} {root : ℕ} {role : def.Role} {of : Plan} → PlanAt rows root role of → (h : Subtree rows root)
    → convert_as h.tree role ≡ over (means.plan (begins_of h.tree) of) h.tree (convert_kids (kids_of h.tree) (roles (means.plan (begins_of h.tree) of)))
by_plan {role = role} p h =
    convert_near h.tree role ∙ ap (λ (ch : def.Change). over ch h.tree (convert_kids (kids_of h.tree) (roles ch))) (sym (p.is h))

-- the same, where the plan is known to be a change
pub by_change : {rows : List ℕ} {root : ℕ} {role : def.Role} {of : Plan} {ch : def.Change} → PlanAt rows root role of → (h : Subtree rows root)
    → means.plan (begins_of h.tree) of ≡ ch → convert_as h.tree role ≡ over ch h.tree (convert_kids (kids_of h.tree) (roles ch))
by_change p h e = by_plan p h ∙ ap (λ (x : def.Change). over x h.tree (convert_kids (kids_of h.tree) (roles x))) e

-- of two that are found and what is found after them, it does not matter which are put together first
both_all : (x y z : Conversion) → outcome.both x (outcome.both y z) ≡ outcome.both (outcome.both x y) z
both_all x y z = search rules

pub both_none : (x : Conversion) → outcome.both x (Ok 0) ≡ x
both_none x = search rules

none_both : (x : Conversion) → x ≡ outcome.both (Ok 0) x
none_both x = search rules

both_ok : (x y : Conversion) (n : ℕ) → outcome.both x y ≡ Ok n → (a : ℕ) × (b : ℕ) × (x ≡ Ok a) × (y ≡ Ok b) × (n ≡ a + b)
both_ok x y n e = search rules

-- what is found of it can be counted with what was found of the rows after it
pub own_sums : (root : ℕ) {of : Plan} {own rest : Conversion} → Own of own → Counted (root + 1) rest → Sums own rest
own_sums root {of = of} o k =
    record { fits = λ n m p q. let f = own_few 0 of n (sym (o.is 0) ∙ p) in let c = k.fits m q in omega arith }

-- nothing was found yet
pub none_counted : {rows : List ℕ} {root : ℕ} → Subtree rows root → length rows < 2 ^ 64 → Counted (root + 1) (Ok 0)
none_counted h small = record { fits = λ n e. let z : n ≡ 0 = cc in let i = root_inside h in omega arith }

-- a row whose kids stay, or that is refused
pub judge_alone : {rows : List ℕ} {root : ℕ} {role : def.Role} {of : Plan} {own rest found : Conversion} → PlanAt rows root role of → Own of own
    → found ≡ outcome.both own rest → means.alone of ≡ true → Judged rows root role rest found
judge_alone {of = of} {rest = rest} p o e a =
    record {
      is = λ h.
          let b = begins_of h.tree in
          e ∙ ap (λ (x : Conversion). outcome.both x rest) (o.is b ∙ own_over b of h.tree _ a ∙ sym (ap outcome.found (by_plan p h)));
    }

-- judging stands at a kid: those after it are judged
pub record Here {rows : List ℕ} {root : ℕ} (h : Subtree rows root) (of : Plan) (start : Conversion) (end : ℕ) (found : Conversion) : Type 0 where
  pub after : ℕ
  pub tail : List ℕ
  pub walk : Walk h.before (kids_of h.tree) tail rows after end
  pub is : found ≡ outcome.both (outcome.found (convert_kids walk.passed (means.kids of))) start

pub record Judging (rows : List ℕ) (root : ℕ) (of : Plan) (start : Conversion) (end : ℕ) (found : Conversion) : Type 0 where
  pub counted : Counted end found
  pub here : (h : Subtree rows root) → Here h of start end found

nothing_yet : (each : ℕ → def.Role) (x : Conversion) → x ≡ outcome.both (outcome.found (convert_kids nil each)) x
unfolding convert_kids
nothing_yet each x = search rules

pub judge_starts : {rows : List ℕ} {root : ℕ} {of : Plan} {own rest start : Conversion} → Own of own → Counted (root + 1) rest → start ≡ outcome.both own rest
    → Judging rows root of start root start
judge_starts {of = of} {own = own} {rest = rest} {start = start} o k e =
    record {
      counted = record {
        fits = λ n q.
            let b = both_ok own rest n (sym e ∙ q) in
            let f = own_few 0 of b.0 (sym (o.is 0) ∙ b.2) in
            let c = k.fits b.1 b.3 in
            omega (arith, b.4);
      };
      here = λ h. record { after = 0; tail = _; walk = walk_start h; is = nothing_yet (means.kids of) start };
    }

found_both : (x : Outcome Tree) (y : Outcome Forest) (z : Conversion)
    → outcome.both (outcome.found x) (outcome.both (outcome.found y) z) ≡ outcome.both (outcome.found (def.both x y)) z
unfolding def.both
found_both x y z = search (rules, length-append)

module _ {rows : List ℕ} {root : ℕ} {of : Plan} {start found : Conversion} {end first : ℕ} (j : Judging rows root of start end found) (f : FirstRow rows root first) (lt : first < end)
    (h : Subtree rows root) where
  abbrev pub the_next : Next (j.here h).walk.front
  the_next = walk_some (j.here h).walk (j.here h).walk.stop (f.is h) lt

  abbrev pub the_kid : Subtree rows (end - 1)
  the_kid = kid_tree (j.here h).walk the_next

  pub fits_below : {x : ℕ} → Word rows (end - 1) 5 x → (0 < x) × (x ≤ end)
  fits_below s = let e = reads_size the_kid s in let k = kid_size (j.here h).walk the_next in (omega arith, omega arith)

  pub size_inside : SizeInside (length rows) end
  size_inside = let i = root_inside the_kid in record { some = omega arith; room = omega arith }

  kid_smaller : size the_next.kid + sizes (j.here h).walk.passed < size h.tree
  unfolding sizes
  kid_smaller =
      let e = ap sizes (whole_next (j.here h).walk the_next) in
      let g = sizes_join the_next.rest (cons the_next.kid (j.here h).walk.passed) in
      omega (arith, size_root h.tree)

  -- the size word falls
  pub falls_size : get_or rows (6 * (end - 1) + 5) 0 < get_or rows (6 * root + 5) 0
  falls_size =
      let a = reads_size the_kid (record { is = refl }) in
      let b = reads_size h (record { is = refl }) in
      let k = kid_smaller in
      omega arith

no_rows : (ts : Forest) → count ts ≡ 0 → sizes ts ≡ 0
unfolding sizes
no_rows ts e = ap sizes (no_kid ts e)

-- the last kid is the one with no kid after it
pub last_kid : (root : ℕ) {before : List ℕ} {ts : Forest} {tail rows : List ℕ} {after end : ℕ} (w : Walk before ts tail rows after end)
    → 6 * root ≡ length before + 6 * sizes ts → eqb end root ≡ eqb (count w.passed) 0
last_kid root {before} {ts} {end = end} w place = go (count w.passed) refl
  where
    all : sizes ts ≡ sizes w.front + sizes w.passed
    all = ap sizes w.whole ∙ sizes_join w.front w.passed

    go : (n : ℕ) → count w.passed ≡ n → eqb end root ≡ eqb n 0
    go zero e =
        let z : sizes w.passed ≡ 0 = no_rows w.passed e in
        let s = w.stop in
        let a = all in
        let same : end ≡ root = omega arith in
        eq-eqb end root same
    go (suc n) e =
        let some = some_rows w.passed in
        let s = w.stop in
        let a = all in
        let other : end ≡ root → ⊥ = λ q. omega arith in
        ne_eqb end root other ∙ sym (ne_eqb (suc n) 0 (λ z. omega arith))

few_records : (t : Tree) (of : Plan) (last : Bool) (t' : Tree) (rs : List Record) → convert_as t (means.kid of last) ≡ turned t' rs → length rs ≤ 2 * size t
few_records t of last t' rs h =
    let p = pays t (means.kid of last) t' rs h in
    omega (arith, p.is, few_commas of last, potential_size t, some_row t)

pub found_turned : {A : Type 0} (x : Outcome A) (n : ℕ) → outcome.found x ≡ Ok n → (a : A) × (rs : List Record) × (x ≡ turned a rs) × (length rs ≡ n)
found_turned x n e = search rules

pub found_refused : {A : Type 0} (x : Outcome A) (c : Cause) → outcome.found x ≡ Err c → x ≡ refused c
found_refused x c e = search rules

over_found : (k : ℕ) (before : List Record) (each : ℕ → def.Role) (after : List Record) (t : Tree) (out : Outcome Forest)
    → outcome.found (over (def.turn k before each after) t out) ≡ outcome.both (outcome.found out) (Ok (length before + length after))
unfolding over
over_found k before each after t out = search (rules, length-append)

-- a kid is judged, whatever of it is known
module _ {rows : List ℕ} {root : ℕ} {of : Plan} {start found : Conversion} {end first : ℕ} (j : Judging rows root of start end found) (f : FirstRow rows root first) (lt : first < end) where
  pub kid_counted : Counted (end - 1 + 1) found
  kid_counted = record { fits = λ n e. let c = j.counted.fits n e in omega arith }

  module _ {size' : ℕ} (w : Word rows (end - 1) 5 size') where
    next_here : {found' : Conversion} → Counted (end - size') found'
        → ((h : Subtree rows root) → found' ≡ outcome.both (outcome.found (convert_as (the_next j f lt h).kid (means.kids of (count (j.here h).walk.passed)))) found)
        → Judging rows root of start (end - size') found'
    unfolding convert_kids
    next_here k q =
        record {
          counted = k;
          here = λ h.
              let n = the_next j f lt h in
              let walk = (j.here h).walk in
              record {
                after = _;
                tail = _;
                walk = walk_next walk n n.kid rows size' (kid_text walk n) (reads_size (the_kid j f lt h) w);
                is =
                    q h
                    ∙ ap (outcome.both (outcome.found (convert_as n.kid (means.kids of (count walk.passed))))) (j.here h).is
                    ∙ found_both (convert_as n.kid (means.kids of (count walk.passed))) (convert_kids walk.passed (means.kids of)) start;
              };
        }

    pub judge_again : (last : Bool) {found' : Conversion} → last ≡ eqb end root → Subtree rows root → Judged rows (end - 1) (means.kid of last) found found'
        → Judging rows root of start (end - size') found'
    judge_again last {found'} l h₀ o =
        next_here
        (record {
          fits = λ n e.
              let t = (the_next j f lt h₀).kid in
              let b = both_ok (outcome.found (convert_as t (means.kid of last))) found n (sym (o.is (the_kid j f lt h₀)) ∙ e) in
              let a = found_turned (convert_as t (means.kid of last)) b.0 b.2 in
              let r = few_records t of last a.0 a.1 a.2 in
              let c = j.counted.fits b.1 b.3 in
              omega (arith, b.4, a.3, reads_size (the_kid j f lt h₀) w, fits_below j f lt h₀ w);
        })
        (λ h.
        o.is (the_kid j f lt h)
        ∙ ap (λ (b : Bool). outcome.both (outcome.found (convert_as (the_next j f lt h).kid (means.kid of b))) found) (l ∙ last_kid root (j.here h).walk (place_root h)))

    -- a kid that turns by itself has no record
    pub judge_pass : {at : ℕ} → NameUnder rows (end - 1) of at → Judging rows root of start (end - size') found
    judge_pass n =
        next_here
        (record { fits = λ m e. let c = j.counted.fits m e in omega arith })
        (λ h.
        let e = ((n.is (eqb (count (j.here h).walk.passed) 0)).is (the_kid j f lt h)).is in
        none_both found ∙ ap (λ (x : Conversion). outcome.both x found) (sym (ap outcome.found e)))

pub judge_ends : {rows : List ℕ} {root : ℕ} {role : def.Role} {of : Plan} {own rest start found : Conversion} {end first : ℕ} → PlanAt rows root role of → means.alone of ≡ false
    → Own of own → start ≡ outcome.both own rest → Judging rows root of start end found → FirstRow rows root first → end ≤ first → Judged rows root role rest found
unfolding roles
judge_ends {of = of} {own = own} {rest = rest} {start = start} p lt o s j f ge =
    record {
      is = λ h.
          let at = j.here h in
          let all = (walk_past at.walk (f.is h) ge).0 in
          let b = begins_of h.tree in
          let n = length (means.before b of) + length (means.after of) in
          let out = convert_kids (kids_of h.tree) (means.kids of) in
          let q : own ≡ Ok n = o.is b ∙ ap outcome.own (turning b of lt) in
          at.is
          ∙ ap (λ (ts : Forest). outcome.both (outcome.found (convert_kids ts (means.kids of))) start) all
          ∙ ap (outcome.both (outcome.found out)) (s ∙ ap (λ (x : Conversion). outcome.both x rest) q)
          ∙ both_all (outcome.found out) (Ok n) rest
          ∙ ap (λ (x : Conversion). outcome.both x rest)
          (sym (ap outcome.found (by_change p h (turning b of lt)) ∙ over_found (means.kind of) (means.before b of) (means.kids of) (means.after of) h.tree out));
    }

pub same_found : {rows : List ℕ} {root : ℕ} {of : Plan} {start found found' : Conversion} {end : ℕ} → found' ≡ found → Judging rows root of start end found
    → Judging rows root of start end found'
same_found e j = rw e j

-- what is known of something that is there
pub some_of : {P : ℕ → Type 0} (x : Option ℕ) → is_some x ≡ true → IfSome x P → (n : ℕ) × P n
some_of x e p = search rules
