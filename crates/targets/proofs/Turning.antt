-- What turning a row leaves in both buffers, step by step: the kids are turned from the last to the first, and their records
-- are written from the back.
-- Assumes nothing.
use Rattle.std.specs.Prelude.{if◌then◌else◌, Option}
use Prim.Native.Nat.{ℕ, ◌+◌, ◌-◌, ◌*◌, ◌≤◌, ◌<◌}
use mathlib.Core.Bool.{Bool, true, false}
use mathlib.Core.Path.{◌≡◌, refl, sym, ap, ◌∙◌}
use mathlib.Core.List.{List, [], ◌∷◌, ◌++◌, append_assoc}
use native.Mathlib.Omega.{arith}
use borrow.Author.Rules.{rules}
use lib.Dec.{eqb}
use lib.ListN.{length, get_or, set, length-append}
use lib.Seq.{set-append_seam}
use Rattle.rows.specs.Tree.{Tree, Forest, node, nil, cons, join, count, size, sizes, flat, flats, mark_of, first_of, end_of, kids_of, kind_of}
use Rattle.rows.specs.Record.{Record}
use Rattle.rows.specs.Post.{Word, RowInside}
use Rattle.rows.proofs.Flat.{length_flats}
use Rattle.rows.proofs.Rows.{sizes_join, flats_join, count_join, Next}
use Rattle.conversion.specs.Conversion as def
use Rattle.conversion.specs.Conversion.{Outcome, turned, refused, roles, over, convert_as, convert_kids}
use Rattle.roles.specs.Meaning as means
use Rattle.targets.specs.Post.{Subtree, SizeInside, FirstRow, begins_of, begins_before, PlanAt, Filled, NoteFits, Written, FinishFits, Finished, Ready, Made, TurnedRow}
use Rattle.targets.specs.Post.{all_elements}
use Rattle.roles.specs.ShortCut.{is_element}
use Rattle.conversion.proofs.Potentials.{turned_is, turned_records}
use Rattle.targets.proofs.Flat.{place_root, root_words, flat_root, root_text, root_inside, size_root, Walk, walk_start, walk_some, walk_next, walk_none, walk_past, kid_tree, kid_size, whole_next}
use Rattle.targets.proofs.Looking.{reads_kind, reads_size, last_begins, kid_before}
use Rattle.targets.proofs.Records.{filled_none, filled_more}
use Rattle.targets.proofs.Judging.{by_plan, by_change, last_kid}
use Rattle.roles.specs.declared.plan.Plan.{Plan}
use Rattle.roles.specs.declared.plan.Plan.TheVariants.{WrongRest}
use Rattle.targets.proofs.Plans.{turning, alone_turned, before_length, same_before}
use Rattle.targets.proofs.Wrong.{wrong_kid}
use Rattle.conversion.proofs.Shapes.{SameShape, same_size, same_shape, Both, cons_parts, cons_turned, none_turned}

-- elements of two forests, one after the other
pub first_element : (b c : Bool) → (if b then c else false) ≡ true → b ≡ true
first_element b c h = search rules

pub rest_elements : (b c : Bool) → (if b then c else false) ≡ true → c ≡ true
rest_elements b c h = search rules

pub elements_join : (ts us : Forest) → all_elements (join ts us) ≡ true → (all_elements ts ≡ true) × (all_elements us ≡ true)
unfolding all_elements join
elements_join nil us h = (refl, h)
elements_join (cons t ts) us h =
    let r = elements_join ts us (rest_elements (is_element (kind_of t)) _ h) in
    (rw (first_element (is_element (kind_of t)) _ h) r.0, r.1)

-- the last kids of some that are converted are converted
record Suffix (ts : Forest) (each : ℕ → def.Role) (rs : List Record) : Type 0 where
  made : Forest
  records : List Record
  is : convert_kids ts each ≡ turned made records
  few : length records ≤ length rs

suffix : (front passed : Forest) (each : ℕ → def.Role) (ts' : Forest) (rs : List Record) → convert_kids (join front passed) each ≡ turned ts' rs → Suffix passed each rs
unfolding join
suffix nil passed each ts' rs h = record { made = ts'; records = rs; is = h; few = omega arith }
suffix (cons t ts) passed each ts' rs h =
    let b = cons_parts t (join ts passed) each ts' rs h in
    let s = suffix ts passed each b.rest b.later b.rest_is in
    let n = ap length b.records in
    let m = length-append b.first b.later in
    let l = s.few in
    record { made = s.made; records = s.records; is = s.is; few = omega arith }

-- what a row and its kids become, by a plan that is carried out
record Accepts (begins : ℕ) (of : Plan) (t t' : Tree) (rs : List Record) : Type 0 where
  kids : Forest
  notes : List Record
  is : convert_kids (kids_of t) (means.kids of) ≡ turned kids notes
  made : t' ≡ node (means.kind of) (mark_of t) (first_of t) (end_of t) kids
  records : rs ≡ means.before begins of ++ notes ++ means.after of

abbrev change_of : ℕ → Plan → def.Change
change_of begins of = def.turn (means.kind of) (means.before begins of) (means.kids of) (means.after of)

accepts : (begins : ℕ) (of : Plan) (t t' : Tree) (rs : List Record) → over (change_of begins of) t (convert_kids (kids_of t) (roles (change_of begins of))) ≡ turned t' rs
    → Accepts begins of t t' rs
unfolding over roles kids_of mark_of first_of end_of
accepts begins of t t' rs h = search rules

accepted : {rows : List ℕ} {root : ℕ} {role : def.Role} {of : Plan} → PlanAt rows root role of → means.alone of ≡ false
    → (h : Subtree rows root) (t' : Tree) (rs : List Record) → convert_as h.tree role ≡ turned t' rs → Accepts (begins_of h.tree) of h.tree t' rs
accepted {of = of} p lt h t' rs a =
    accepts (begins_of h.tree) of h.tree t' rs (sym (by_change p h (turning (begins_of h.tree) of lt)) ∙ a)

-- the kind of the root is changed over converted kids
pub root_set : (t : Tree) (kids : Forest) (kind : ℕ) (before after rows rows' : List ℕ) (root : ℕ) → SameShape (kids_of t) kids
    → rows ≡ before ++ (flats kids ++ (root_words t ++ after)) → 6 * root ≡ length before + 6 * sizes (kids_of t) → rows' ≡ set rows (6 * root) kind
    → rows' ≡ before ++ (flat (node kind (mark_of t) (first_of t) (end_of t) kids) ++ after)
unfolding flat root_words kids_of mark_of first_of end_of
root_set (node k m f e ts) kids kind before after rows rows' root s text place is =
    let n : 6 * root ≡ length (before ++ flats kids) = simp length-append (omega (arith, length_flats kids, s.rows)) in
    let r = m ∷ f ∷ e ∷ count ts ∷ (sizes ts + 1) ∷ after in
    is
    ∙ ap (λ (w : List ℕ). set w (6 * root) kind) (text ∙ sym (append_assoc before (flats kids) (k ∷ r)))
    ∙ ap (λ (i : ℕ). set ((before ++ flats kids) ++ (k ∷ r)) i kind) n
    ∙ set-append_seam (before ++ flats kids) k r kind
    ∙ rw (s.many, s.rows) (simp append_assoc)

pub same_kids : (ts : Forest) → SameShape ts ts
same_kids ts = record { many = refl; rows = refl }

not_wrong : (of : Plan) (comma : Option ℕ) → of ≡ WrongRest comma → means.alone of ≡ true → ⊥
not_wrong of comma e h = cc

-- a row whose kids stay is given its kind, and its record is written; of one that is refused nothing is asked
pub turn_alone : {rows r : List ℕ} {root end result : ℕ} {rows' r' : List ℕ} {role : def.Role} {of : Plan} → PlanAt rows root role of → means.alone of ≡ true
    → Finished rows r root of end rows' r' result → TurnedRow rows r root role end rows' r' result
turn_alone {rows} {r} {root} {result = result} {rows'} {r'} {of = of} p le w =
    record {
      is = λ h t rs a.
          let b = alone_turned (begins_of h.tree) of h.tree _ t rs le (sym (by_plan p h) ∙ a) in
          let n = same_before (begins_of h.tree) (begins_before rows root) of (λ comma e. absurd (not_wrong of comma e le)) in
          let text : rows ≡ h.before ++ (flats (kids_of h.tree) ++ (root_words h.tree ++ h.after)) =
          root_text h ∙ append_assoc h.before (flats (kids_of h.tree)) (root_words h.tree ++ h.after) in
          rw (b.0, b.1, n) (
            w.notes.begins,
            record {
              text = root_set h.tree (kids_of h.tree) (means.kind of) h.before h.after rows rows' root (same_kids (kids_of h.tree)) text (place_root h) w.kind.text;
              filled = w.notes.filled;
            },
          );
    }

-- its record has room
pub alone_fits : {rows : List ℕ} {root : ℕ} {role : def.Role} {of : Plan} {words end : ℕ} → Ready rows root role words end → PlanAt rows root role of → means.alone of ≡ true
    → FinishFits rows root of words end
alone_fits {rows} {root} {of = of} y p le =
    let b = alone_turned (begins_of y.rooted.tree) of y.rooted.tree _ y.made y.records le (sym (by_plan p y.rooted) ∙ y.accepted) in
    let n = ap length b.1 in
    let s = before_length (begins_of y.rooted.tree) (begins_before rows root) of in
    let m = y.room in
    record {
      row = root_inside y.rooted;
      low = λ comma e. absurd (not_wrong of comma e le);
      notes = record { room = omega arith; inside = y.inside };
    }

-- turning stands at a kid: those after it are turned, and their records are written
pub record Here {rows₀ : List ℕ} {root : ℕ} (h : Subtree rows₀ root) (of : Plan) (r₀ : List ℕ) (start₀ : ℕ) (rows r : List ℕ) (start stop : ℕ) : Type 0 where
  pub after : ℕ
  pub done : Forest
  pub notes : List Record
  pub walk : Walk h.before (kids_of h.tree) (flats done ++ (root_words h.tree ++ h.after)) rows after stop
  pub is : convert_kids walk.passed (means.kids of) ≡ turned done notes
  pub begins : start + length notes ≡ start₀
  pub filled : Filled r₀ start notes r

-- the kids of a row can be converted
pub record Kindly {rows₀ : List ℕ} {root : ℕ} (h : Subtree rows₀ root) (of : Plan) : Type 0 where
  pub made : Forest
  pub records : List Record
  pub is : convert_kids (kids_of h.tree) (means.kids of) ≡ turned made records

-- there is such a row, and there is room for its kids' records and for those before them
pub record KidsReady (rows₀ : List ℕ) (root : ℕ) (of : Plan) (start₀ : ℕ) : Type 0 where
  pub rooted : Subtree rows₀ root
  pub kindly : Kindly rooted of
  pub room : length (means.before (begins_of rooted.tree) of) + length kindly.records ≤ start₀

pub record Turning (rows₀ : List ℕ) (root : ℕ) (r₀ : List ℕ) (of : Plan) (start₀ : ℕ) (rows r : List ℕ) (start stop : ℕ) : Type 0 where
  pub same_rows : length rows ≡ length rows₀
  pub same_records : length r ≡ length r₀
  pub inside : 2 * start₀ ≤ length r₀
  pub ready : KidsReady rows₀ root of start₀
  pub here : (h : Subtree rows₀ root) → Kindly h of → Here h of r₀ start₀ rows r start stop

no_trees_flat : (R : List ℕ) → flats nil ++ R ≡ R
unfolding flats
no_trees_flat R = refl

pub turn_starts : {rows₀ r₀ : List ℕ} {root : ℕ} {of : Plan} {start₀ : ℕ} → KidsReady rows₀ root of start₀ → 2 * start₀ ≤ length r₀ → Turning rows₀ root r₀ of start₀ rows₀ r₀ start₀ root
turn_starts {rows₀} {r₀} {root} {of} {start₀} ready i =
    record {
      same_rows = refl;
      same_records = refl;
      inside = i;
      ready = ready;
      here = λ h k.
          record {
            after = 0;
            done = nil;
            notes = [];
            walk = rw (no_trees_flat (root_words h.tree ++ h.after)) (walk_start h);
            is = none_turned (means.kids of);
            begins = omega arith;
            filled = filled_none r₀ start₀;
          };
    }

-- the words of a root over other kids of the same shape
same_words : (t : Tree) (kids : Forest) → SameShape (kids_of t) kids → root_words t ≡ root_words (node (kind_of t) (mark_of t) (first_of t) (end_of t) kids)
unfolding root_words kind_of mark_of first_of end_of kids_of
same_words t kids s = search rules

joined : (front passed done : Forest) → SameShape passed done → SameShape (join front passed) (join front done)
joined front passed done s =
    record {
      many = rw (count_join front passed, count_join front done, s.many);
      rows = rw (sizes_join front passed, sizes_join front done, s.rows);
    }

-- the tree as it is now
module _ {rows₀ r₀ : List ℕ} {root : ℕ} {of : Plan} {start₀ : ℕ} {rows r : List ℕ} {start stop : ℕ} (h : Subtree rows₀ root) (a : Here h of r₀ start₀ rows r start stop) where
  abbrev now_kids : Forest
  now_kids = join a.walk.front a.done

  now_shape : SameShape (kids_of h.tree) now_kids
  now_shape = rw a.walk.whole (joined a.walk.front a.walk.passed a.done (same_shape a.walk.passed (means.kids of) a.done a.notes a.is))

  abbrev now_tree : Tree
  now_tree = node (kind_of h.tree) (mark_of h.tree) (first_of h.tree) (end_of h.tree) now_kids

  now_text : rows ≡ h.before ++ (flat now_tree ++ h.after)
  unfolding kids_of
  now_text =
      a.walk.text
      ∙ rw (flat_root now_tree, sym (same_words h.tree now_kids now_shape), flats_join a.walk.front a.done) (simp append_assoc)

  now_place : 6 * (root + 1) ≡ length h.before + 6 * size now_tree
  unfolding size
  now_place = let s = now_shape.rows in let p = h.place in let z = size_root h.tree in omega arith

  abbrev current : Subtree rows root
  current = record { before = h.before; tree = now_tree; after = h.after; text = now_text; place = now_place }

module _ {rows₀ r₀ : List ℕ} {root : ℕ} {of : Plan} {start₀ : ℕ} {rows r : List ℕ} {start stop first : ℕ} (t : Turning rows₀ root r₀ of start₀ rows r start stop)
    (f : FirstRow rows root first) (lt : first < stop) (h : Subtree rows₀ root) (k : Kindly h of) where
  next_kid : Next (t.here h k).walk.front
  next_kid = walk_some (t.here h k).walk (t.here h k).walk.stop (f.is (current h (t.here h k))) lt

  abbrev the_kid : Subtree rows (stop - 1)
  the_kid = kid_tree (t.here h k).walk next_kid

  last_kids : Suffix (cons next_kid.kid (t.here h k).walk.passed) (means.kids of) k.records
  last_kids =
      suffix next_kid.rest (cons next_kid.kid (t.here h k).walk.passed) (means.kids of) k.made k.records
      (ap (λ (ts : Forest). convert_kids ts (means.kids of)) (sym (whole_next (t.here h k).walk next_kid)) ∙ k.is)

  kid_parts : Both (convert_as next_kid.kid (means.kids of (count (t.here h k).walk.passed))) (convert_kids (t.here h k).walk.passed (means.kids of))
      last_kids.made last_kids.records
  kid_parts = cons_parts next_kid.kid (t.here h k).walk.passed (means.kids of) last_kids.made last_kids.records last_kids.is

  kid_turned : convert_as next_kid.kid (means.kid of (eqb stop root)) ≡ turned kid_parts.one kid_parts.first
  kid_turned = ap (λ (b : Bool). convert_as next_kid.kid (means.kid of b)) (last_kid root (t.here h k).walk (place_root h)) ∙ kid_parts.one_is

  kid_same : size kid_parts.one ≡ size next_kid.kid
  kid_same = same_size next_kid.kid (means.kids of (count (t.here h k).walk.passed)) kid_parts.one kid_parts.first kid_parts.one_is

  -- the kid's records and those that are written are no more than all
  kid_few : length kid_parts.first + length (t.here h k).notes ≤ length k.records
  kid_few =
      let e = ap length kid_parts.records in
      let f = length-append kid_parts.first kid_parts.later in
      let g : length kid_parts.later ≡ length (t.here h k).notes = ap length (turned_records (sym kid_parts.rest_is ∙ (t.here h k).is)) in
      let l = last_kids.few in
      omega arith

-- the tree is still there
pub still : {rows₀ r₀ : List ℕ} {root : ℕ} {of : Plan} {start₀ : ℕ} {rows r : List ℕ} {start stop : ℕ} → Turning rows₀ root r₀ of start₀ rows r start stop → Subtree rows root
still t = current t.ready.rooted (t.here t.ready.rooted t.ready.kindly)

module _ {rows₀ r₀ : List ℕ} {root : ℕ} {of : Plan} {start₀ : ℕ} {rows r : List ℕ} {start stop first : ℕ} (t : Turning rows₀ root r₀ of start₀ rows r start stop)
    (f : FirstRow rows root first) (lt : first < stop) where
  pub kid_there : Subtree rows (stop - 1)
  kid_there = the_kid t f lt t.ready.rooted t.ready.kindly

  -- where each kid is an element by itself, so is this one
  pub kid_element : (k : KidsReady rows₀ root of start₀) {kind : ℕ} → Word rows (stop - 1) 0 kind → all_elements (kids_of k.rooted.tree) ≡ true → is_element kind ≡ true
  unfolding all_elements
  kid_element k w all =
      let n = next_kid t f lt k.rooted k.kindly in
      let e = ap all_elements (sym (whole_next (t.here k.rooted k.kindly).walk n)) ∙ all in
      let g = (elements_join n.rest (cons n.kid (t.here k.rooted k.kindly).walk.passed) e).1 in
      ap is_element (reads_kind (the_kid t f lt k.rooted k.kindly) w) ∙ first_element (is_element (kind_of n.kid)) _ g

  pub low : 1 ≤ stop
  low = let s = kid_size (t.here t.ready.rooted t.ready.kindly).walk (next_kid t f lt t.ready.rooted t.ready.kindly) in omega arith

  kid_smaller : size (next_kid t f lt t.ready.rooted t.ready.kindly).kid < size t.ready.rooted.tree
  unfolding sizes
  kid_smaller =
      let n = next_kid t f lt t.ready.rooted t.ready.kindly in
      let e = ap sizes (whole_next (t.here t.ready.rooted t.ready.kindly).walk n) in
      let g = sizes_join n.rest (cons n.kid (t.here t.ready.rooted t.ready.kindly).walk.passed) in
      omega (arith, size_root t.ready.rooted.tree)

  -- the size word falls
  pub falls_size : get_or rows (6 * (stop - 1) + 5) 0 < get_or rows₀ (6 * root + 5) 0
  falls_size =
      let a = reads_size (the_kid t f lt t.ready.rooted t.ready.kindly) (record { is = refl }) in
      let b = reads_size t.ready.rooted (record { is = refl }) in
      let s = kid_smaller in
      omega arith

  -- the kid can be turned
  pub kid_ready : Ready rows (stop - 1) (means.kid of (eqb stop root)) (length r) start
  kid_ready =
      let p = kid_parts t f lt t.ready.rooted t.ready.kindly in
      let g = kid_few t f lt t.ready.rooted t.ready.kindly in
      let b = (t.here t.ready.rooted t.ready.kindly).begins in
      let m = t.ready.room in
      let i = t.inside in
      let s = t.same_records in
      record {
        rooted = the_kid t f lt t.ready.rooted t.ready.kindly;
        made = p.one;
        records = p.first;
        accepted = kid_turned t f lt t.ready.rooted t.ready.kindly;
        room = omega arith;
        inside = omega arith;
      }

  module _ {rows' r' : List ℕ} {start' : ℕ} (tr : TurnedRow rows r (stop - 1) (means.kid of (eqb stop root)) start rows' r' start') where
    -- where the kid stands when it is turned
    abbrev turned_kid : (h : Subtree rows₀ root) (c : Kindly h of) → Subtree rows' (stop - 1)
    turned_kid h c =
        let p = kid_parts t f lt h c in
        let x = tr.is (the_kid t f lt h c) p.one p.first (kid_turned t f lt h c) in
        record {
          before = (the_kid t f lt h c).before;
          tree = p.one;
          after = (the_kid t f lt h c).after;
          text = x.1.text;
          place = rw (kid_same t f lt h c) (the_kid t f lt h c).place;
        }

    pub size_there : SizeInside (length rows') stop
    size_there = let i = root_inside (turned_kid t.ready.rooted t.ready.kindly) in let l = low in record { some = l; room = omega arith }

    pub fits_below : {x : ℕ} → Word rows' (stop - 1) 5 x → (0 < x) × (x ≤ stop)
    fits_below s =
        let e = reads_size (turned_kid t.ready.rooted t.ready.kindly) s ∙ kid_same t f lt t.ready.rooted t.ready.kindly in
        let n = kid_size (t.here t.ready.rooted t.ready.kindly).walk (next_kid t f lt t.ready.rooted t.ready.kindly) in
        (omega arith, omega arith)

pub more_flat : (t : Tree) (ts : Forest) (R : List ℕ) → flats (cons t ts) ++ R ≡ flat t ++ (flats ts ++ R)
unfolding flats
more_flat t ts R = append_assoc (flat t) (flats ts) R

pub turn_again : {rows₀ r₀ : List ℕ} {root : ℕ} {of : Plan} {start₀ : ℕ} {rows r : List ℕ} {start stop first : ℕ} {rows' r' : List ℕ} {start' size' : ℕ}
    (t : Turning rows₀ root r₀ of start₀ rows r start stop) (f : FirstRow rows root first) (lt : first < stop)
    (tr : TurnedRow rows r (stop - 1) (means.kid of (eqb stop root)) start rows' r' start') → length rows' ≡ length rows → length r' ≡ length r
    → Word rows' (stop - 1) 5 size' → Turning rows₀ root r₀ of start₀ rows' r' start' (stop - size')
turn_again {r₀ = r₀} {of = of} {start₀ = start₀} {start = start} {rows' = rows'} {start' = start'} {size' = size'} t f lt tr same_rows same_records w =
    record {
      same_rows = same_rows ∙ t.same_rows;
      same_records = same_records ∙ t.same_records;
      inside = t.inside;
      ready = t.ready;
      here = λ h k.
          let n = next_kid t f lt h k in
          let p = kid_parts t f lt h k in
          let a = t.here h k in
          let x = tr.is (the_kid t f lt h k) p.one p.first (kid_turned t f lt h k) in
          record {
            after = a.after + 1;
            done = cons p.one a.done;
            notes = p.first ++ a.notes;
            walk =
                rw (more_flat p.one a.done (root_words h.tree ++ h.after))
                (walk_next a.walk n p.one rows' size' x.1.text
                (reads_size (turned_kid t f lt tr h k) w ∙ kid_same t f lt h k));
            is = cons_turned n.kid a.walk.passed (means.kids of) p.one_is a.is;
            begins = let b = a.begins in let y = x.0 in simp length-append (omega arith);
            filled = let b = a.begins in let i = t.inside in filled_more a.filled x.1.filled x.0 (omega arith);
          };
    }

-- conversion leaves the first token of a row, and of the last of some rows
first_over : (ch : def.Change) (t : Tree) (out : Outcome Forest) (t' : Tree) (rs : List Record) → over ch t out ≡ turned t' rs → first_of t' ≡ first_of t
unfolding over first_of
first_over ch t out t' rs h = search rules

same_first : (t : Tree) (role : def.Role) (t' : Tree) (rs : List Record) → convert_as t role ≡ turned t' rs → first_of t' ≡ first_of t
unfolding convert_as
same_first (node k m f e kids) role t' rs h = first_over _ (node k m f e kids) _ t' rs h

same_last : (u u' : Tree) (ts : Forest) (each : ℕ → def.Role) (ts' : Forest) (rs : List Record) → first_of u' ≡ first_of u → convert_kids ts each ≡ turned ts' rs
    → first_of (def.last_or u' ts') ≡ first_of (def.last_or u ts)
unfolding convert_kids
same_last u u' nil each ts' rs e h = rw (sym (turned_is h)) e
same_last u u' (cons t ts) each ts' rs e h =
    let b = cons_parts t ts each ts' rs h in
    rw b.made (same_last t b.one ts each b.rest b.later (same_first t (each (count ts)) b.one b.first b.one_is) b.rest_is)

-- what is known of a row whose kids are turned
record Over {rows₀ : List ℕ} {root : ℕ} (h : Subtree rows₀ root) (ts : Forest) (rs : List Record) (r₀ : List ℕ) (start₀ : ℕ) (rows r : List ℕ) (start : ℕ) : Type 0 where
  text : rows ≡ h.before ++ (flats ts ++ (root_words h.tree ++ h.after))
  begins : start + length rs ≡ start₀
  filled : Filled r₀ start rs r

module _ {rows₀ r₀ : List ℕ} {root : ℕ} {of : Plan} {start₀ : ℕ} {rows r : List ℕ} {start stop first : ℕ} (t : Turning rows₀ root r₀ of start₀ rows r start stop)
    (f : FirstRow rows root first) (ge : stop ≤ first) where
  all_turned : (h : Subtree rows₀ root) (k : Kindly h of) → Over h k.made k.records r₀ start₀ rows r start
  all_turned h k =
      let a = t.here h k in
      let d = walk_past a.walk (f.is (current h a)) ge in
      let b = sym a.is ∙ ap (λ (ts : Forest). convert_kids ts (means.kids of)) d.0 ∙ k.is in
      let o : Over h a.done a.notes r₀ start₀ rows r start = record { text = d.1; begins = a.begins; filled = a.filled } in
      rw (turned_is b, turned_records b) at o

  -- the last kid begins where it did
  begins_same : (h : Subtree rows₀ root) (k : Kindly h of) → 0 < count (kids_of h.tree) → begins_before rows root ≡ begins_of h.tree
  unfolding kids_of join
  begins_same h k some =
      let a = t.here h k in
      let e = walk_none a.walk (f.is (current h a)) ge in
      let d = (walk_past a.walk (f.is (current h a)) ge).0 in
      let n = (now_shape h a).many in
      last_begins (current h a) (omega arith) (record { is = refl })
      ∙ ap (λ (g : Forest). first_of (def.last_of (join g a.done))) e
      ∙ same_last (node 0 0 0 0 nil) (node 0 0 0 0 nil) a.walk.passed (means.kids of) a.done a.notes refl a.is
      ∙ ap (λ (ts : Forest). first_of (def.last_of ts)) d

  before_same : {role : def.Role} → PlanAt rows₀ root role of → (h : Subtree rows₀ root) (k : Kindly h of)
      → means.before (begins_before rows root) of ≡ means.before (begins_of h.tree) of
  before_same p h k = same_before (begins_before rows root) (begins_of h.tree) of (λ comma e. begins_same h k (wrong_kid p comma e h))

  -- the row can be finished
  pub finish_fits : {role : def.Role} → PlanAt rows₀ root role of → FinishFits rows root of (length r) start
  finish_fits p =
      let o = all_turned t.ready.rooted t.ready.kindly in
      let b = o.begins in
      let m = t.ready.room in
      let i = t.inside in
      let s = t.same_records in
      let n = before_length (begins_before rows root) (begins_of t.ready.rooted.tree) of in
      record {
        row = root_inside (current t.ready.rooted (t.here t.ready.rooted t.ready.kindly));
        low = λ comma e. kid_before t.ready.rooted (wrong_kid p comma e t.ready.rooted);
        notes = record { room = omega arith; inside = omega arith };
      }

same_made : {before after r₀ rows r : List ℕ} {t u : Tree} {start end : ℕ} {rs ss : List Record} → t ≡ u → rs ≡ ss
    → (start + length ss ≡ end) × Made before after r₀ u start ss rows r → (start + length rs ≡ end) × Made before after r₀ t start rs rows r
same_made e f m = rw (e, f) m

pub turn_ends : {rows₀ rₑ r₀ : List ℕ} {root : ℕ} {role : def.Role} {of : Plan} {end start₀ : ℕ} {rows r : List ℕ} {start stop first : ℕ} {rows' r' : List ℕ} {result : ℕ}
    → PlanAt rows₀ root role of → means.alone of ≡ false → Written rₑ end (means.after of) r₀ start₀ → 2 * end ≤ length rₑ → length r₀ ≡ length rₑ
    → Turning rows₀ root r₀ of start₀ rows r start stop → FirstRow rows root first → stop ≤ first → Finished rows r root of start rows' r' result
    → TurnedRow rows₀ rₑ root role end rows' r' result
turn_ends {rₑ = rₑ} {root = root} {of = of} {end = end} {start₀ = start₀} {rows = rows} {start = start} {rows' = rows'} {result = result} p lt wₐ inside same t f ge w =
    record {
      is = λ h t' rs a.
          let c = accepted p lt h t' rs a in
          let k : Kindly h of = record { made = c.kids; records = c.notes; is = c.is } in
          let o = all_turned t f ge h k in
          let wₙ = rw (before_same t f ge p h k) at w.notes in
          let ba = wₐ.begins in
          let bo = o.begins in
          let bn = wₙ.begins in
          let f₁ = filled_more wₐ.filled o.filled bo (omega arith) in
          let f₂ = filled_more f₁ wₙ.filled bn (omega arith) in
          let n : result + length (means.before (begins_of h.tree) of ++ c.notes ++ means.after of) ≡ end = simp length-append (omega arith) in
          same_made c.made c.records (
            n,
            record {
              text = root_set h.tree c.kids (means.kind of) h.before h.after rows rows' root (same_shape (kids_of h.tree) (means.kids of) c.kids c.notes c.is) o.text (place_root h) w.kind.text;
              filled = simp append_assoc f₂;
            },
          );
    }

-- a row that can be converted: its kids can
pub ready_kids : {rows r : List ℕ} {root : ℕ} {role : def.Role} {of : Plan} {words end start₀ : ℕ} {r' : List ℕ} → Ready rows root role words end → PlanAt rows root role of
    → means.alone of ≡ false → Written r end (means.after of) r' start₀ → KidsReady rows root of start₀
ready_kids y p lt w =
    let a = accepted p lt y.rooted y.made y.records y.accepted in
    let n = simp length-append at (ap length a.records) in
    let b = w.begins in
    let m = y.room in
    record { rooted = y.rooted; kindly = record { made = a.kids; records = a.notes; is = a.is }; room = omega arith }

pub after_fits : {rows : List ℕ} {root : ℕ} {role : def.Role} {of : Plan} {words end : ℕ} → Ready rows root role words end → PlanAt rows root role of → means.alone of ≡ false
    → NoteFits words end (means.after of)
after_fits y p lt =
    let a = accepted p lt y.rooted y.made y.records y.accepted in
    let n = simp length-append at (ap length a.records) in
    let m = y.room in
    record { room = omega arith; inside = y.inside }

pub row_inside : {rows : List ℕ} {root words : ℕ} → Subtree rows root → words ≡ length rows → RowInside words root
row_inside h e = let i = root_inside h in record { room = omega arith }

-- a kid was turned
pub record Step (rows r : List ℕ) (root : ℕ) (of : Plan) (start stop : ℕ) (rows' r' : List ℕ) (start' : ℕ) : Type 0 where
  pub turned : TurnedRow rows r (stop - 1) (means.kid of (eqb stop root)) start rows' r' start'
  pub same_rows : length rows' ≡ length rows
  pub same_records : length r' ≡ length r

pub step_turned : {rows r : List ℕ} {root : ℕ} {of : Plan} {start stop : ℕ} {rows₁ rows' r₁ r' : List ℕ} {start₁ start' : ℕ}
    → TurnedRow rows r (stop - 1) (means.kid of (eqb stop root)) start rows₁ r₁ start₁ → length rows₁ ≡ length rows → length r₁ ≡ length r → rows' ≡ rows₁ → r' ≡ r₁ → start' ≡ start₁
    → Step rows r root of start stop rows' r' start'
step_turned t a b e f g = search rules
