-- Where all there is to convert in a row is one name: what the code finds and writes there is what the definition gives.
-- Assumes nothing.
use Rattle.std.specs.Prelude.{if◌then◌else◌, Option, Some, None, IfSome}
use Rattle.std.specs.Bool.{then_some}
use Prim.Native.Nat.{ℕ, ◌+◌, ◌-◌, ◌*◌, ◌≤◌, ◌<◌}
use mathlib.Core.Path.{◌≡◌, refl, sym, ap, ◌∙◌}
use mathlib.Core.Bool.{Bool, true, false}
use mathlib.Core.List.{List, [], ◌++◌, append_assoc}
use native.Mathlib.Omega.{arith}
use lib.Dec.{eqb}
use lib.ListN.{length, get_or, set, length-set}
use lib.Seq.{set-set}
use borrow.Author.Rules.{rules}
use Rattle.rows.specs.Row as row
use Rattle.rows.specs.Tree.{Tree, Forest, node, nil, cons, one, join, count, size, sizes, flat, flats, kind_of, mark_of, first_of, end_of, kids_of}
use Rattle.rows.specs.Post.{Word, KindSet}
use Rattle.rows.specs.Record.{Record}
use Rattle.rows.proofs.Rows.{sizes_join, flats_join, count_join, Next}
use Rattle.conversion.specs.Conversion.{turned, is_reference, Role, any, simple, element, last_element, property, last_property, value, name, same, each, only, as_simple, as_any, as_value, as_element, as_last_element, as_property, as_last_property, as_name, change, roles, over, seen, both, convert_as, convert_kids}
use Rattle.targets.specs.Post.{Subtree, WordInside, TurnedRow}
use Rattle.conversion.proofs.RuleHolds.{one_kid}
use Rattle.roles.specs.declared.plan.Plan.{Plan}
use Rattle.roles.specs.declared.plan.Plan.TheVariants.{Array, Object, Paren}
use Rattle.roles.specs.Meaning.{commas, kid, aim}
use Rattle.roles.specs.ShortCut.{is_value, is_element, is_initialized, ends_in_target, named_kind}
use Rattle.targets.specs.Post.{Named, NameAt, NameBelow, NameUnder, NameInside, NameSet, named_at}
use Rattle.conversion.proofs.Potentials.{turned_is, turned_records}
use Rattle.targets.proofs.Flat.{no_kid, place_root, root_words, root_text, root_inside, Walk, walk_start, walk_more, walk_next, kid_tree, kid_size, kid_text, whole_next}
use Rattle.targets.proofs.Looking.{reads_kind, reads_kids, reads_size}
use Rattle.targets.proofs.Records.{filled_none}
use Rattle.targets.proofs.Turning.{root_set, same_kids, more_flat, Step, step_turned}
use Rattle.conversion.proofs.Shapes.{SameShape}

-- a tree with another kind at its root, or other kids
abbrev with_kind : ℕ → Tree → Tree
with_kind kind t = node kind (mark_of t) (first_of t) (end_of t) (kids_of t)

abbrev with_kids : Tree → Forest → Tree
with_kids t kids = node (kind_of t) (mark_of t) (first_of t) (end_of t) kids

-- in this role the row gets another kind and no record
abbrev Kept : Tree → Role → Type 0
Kept t role = convert_as t role ≡ turned (with_kind (named_kind (kind_of t)) t) []

name_kept : (t : Tree) → kind_of t ≡ row.Identifier → Kept t name
unfolding convert_as change as_name seen over kind_of mark_of first_of end_of kids_of
name_kept t i = search rules

reference_kept : (t : Tree) (simply : Bool) → is_reference (kind_of t) ≡ true → Kept t (if simply then simple else any)
unfolding convert_as change as_any as_simple seen over kind_of mark_of first_of end_of kids_of
reference_kept t simply h = search rules

value_kept : (t : Tree) → is_value (kind_of t) ≡ true → Kept t value
unfolding convert_as change as_any as_simple as_value seen over kind_of mark_of first_of end_of kids_of
value_kept t h = search rules

element_kept : (t : Tree) (last : Bool) (comma : List Record) → is_element (kind_of t) ≡ true → Kept t (if last then last_element comma else element)
unfolding convert_as change as_any as_simple as_value as_element as_last_element seen over kind_of mark_of first_of end_of kids_of
element_kept t last comma h = search rules

-- a key or an initializer stays
same_turned : (t : Tree) → convert_as t same ≡ turned t []
unfolding convert_as change over seen
same_turned (node k m f e kids) = refl

-- the kids of a property over a value that turns by itself, or over a name
kids_property : (a b b' : Tree) → convert_as b value ≡ turned b' [] → convert_kids (cons a (one b)) (each same value) ≡ turned (cons a (one b')) []
unfolding convert_kids both count
kids_property a b b' v = search (rules, same_turned)

kids_shorthand : (b : Tree) → kind_of b ≡ row.Identifier → convert_kids (one b) (only name) ≡ turned (one (with_kind row.TargetName b)) []
unfolding convert_kids both count
kids_shorthand b i = search (rules, name_kept)

kids_initialized : (b a : Tree) → kind_of b ≡ row.Identifier → convert_kids (cons b (one a)) (each name same) ≡ turned (cons (with_kind row.TargetName b) (one a)) []
unfolding convert_kids both count
kids_initialized b a i = search (rules, same_turned, name_kept)

-- a property, the last one or not, over such kids
abbrev as_one : Bool → List Record → Role
as_one last comma = if last then last_property comma else property

property_turned : (t : Tree) (last : Bool) (comma : List Record) (a b b' : Tree) → kind_of t ≡ row.Property → kids_of t ≡ cons a (one b) → convert_as b value ≡ turned b' []
    → convert_as t (as_one last comma) ≡ turned (with_kind row.TargetProperty (with_kids t (cons a (one b')))) []
unfolding convert_as change as_property as_last_property seen over roles count kind_of mark_of first_of end_of kids_of
property_turned t last comma a b b' i q v = search (rules, kids_property)

shorthand_turned : (t : Tree) (last : Bool) (comma : List Record) (b : Tree) → kind_of t ≡ row.Shorthand → kids_of t ≡ one b → kind_of b ≡ row.Identifier
    → convert_as t (as_one last comma) ≡ turned (with_kind row.TargetShorthand (with_kids t (one (with_kind row.TargetName b)))) []
unfolding convert_as change as_property as_last_property seen over roles count kind_of mark_of first_of end_of kids_of
shorthand_turned t last comma b i q n = search (rules, kids_shorthand)

initialized_turned : (t : Tree) (last : Bool) (comma : List Record) (b a : Tree) → kind_of t ≡ row.ShorthandInit → kids_of t ≡ cons b (one a) → kind_of b ≡ row.Identifier
    → convert_as t (as_one last comma) ≡ turned (with_kind row.TargetShorthandInit (with_kids t (cons (with_kind row.TargetName b) (one a)))) []
unfolding convert_as change as_property as_last_property seen over roles count kind_of mark_of first_of end_of kids_of
initialized_turned t last comma b a i q n = search (rules, kids_initialized)

-- the words with another kind at the root of a subtree
kind_set : {rows : List ℕ} {root : ℕ} (h : Subtree rows root) (kind : ℕ) → set rows (6 * root) kind ≡ h.before ++ (flat (with_kind kind h.tree) ++ h.after)
kind_set {rows} {root} h kind =
    root_set h.tree (kids_of h.tree) kind h.before h.after rows (set rows (6 * root) kind) root (same_kids (kids_of h.tree))
    (root_text h ∙ append_assoc h.before (flats (kids_of h.tree)) (root_words h.tree ++ h.after)) (place_root h) refl

same_root : (t : Tree) (kids : Forest) → SameShape (kids_of t) kids → flat (with_kids t kids) ≡ flats kids ++ root_words t
unfolding flat root_words kind_of mark_of first_of end_of kids_of
same_root t kids s = search rules

same_size : (t : Tree) (kids : Forest) → SameShape (kids_of t) kids → size (with_kids t kids) ≡ size t
unfolding size kind_of mark_of first_of end_of kids_of
same_size t kids s = search rules

kind_size : (t : Tree) (kind : ℕ) → size (with_kind kind t) ≡ size t
unfolding size kind_of mark_of first_of end_of kids_of
kind_size t kind = search rules

-- one kid for another of its size
swap_shape : (front back : Forest) (n n' : Tree) → size n' ≡ size n → SameShape (join front (cons n back)) (join front (cons n' back))
unfolding count sizes
swap_shape front back n n' e =
    record {
      many = rw (count_join front (cons n back), count_join front (cons n' back));
      rows = rw (sizes_join front (cons n back), sizes_join front (cons n' back), e);
    }

-- the words with a kid turned, and then the root
two_set : {rows : List ℕ} {root : ℕ} (h : Subtree rows root) (front back : Forest) (n : Tree) (at below kind : ℕ) → kids_of h.tree ≡ join front (cons n back)
    → set rows (6 * at) below ≡ (h.before ++ flats front) ++ (flat (with_kind below n) ++ (flats back ++ (root_words h.tree ++ h.after)))
    → set (set rows (6 * at) below) (6 * root) kind
    ≡ h.before ++ (flat (with_kind kind (with_kids h.tree (join front (cons (with_kind below n) back)))) ++ h.after)
unfolding flats
two_set {rows} {root} h front back n at below kind q e =
    let n' = with_kind below n in
    let kids = join front (cons n' back) in
    let s : SameShape (kids_of h.tree) kids = rw q (swap_shape front back n n' (kind_size n below)) in
    let text : set rows (6 * at) below ≡ h.before ++ (flat (with_kids h.tree kids) ++ h.after) =
    e ∙ rw (same_root h.tree kids s, flats_join front (cons n' back)) (simp append_assoc) in
    let place : 6 * (root + 1) ≡ length h.before + 6 * size (with_kids h.tree kids) = rw (same_size h.tree kids s) h.place in
    kind_set (record { before = h.before; tree = with_kids h.tree kids; after = h.after; text = text; place = place }) kind

-- the kind that it gets, by its word
kept_at : {rows : List ℕ} {root kind : ℕ} (role : Role) (h : Subtree rows root) → Word rows root 0 kind → Kept h.tree role
    → convert_as h.tree role ≡ turned (with_kind (named_at rows root) h.tree) []
kept_at role h w k = k ∙ ap (λ (n : ℕ). turned (with_kind (named_kind n) h.tree) []) (sym (reads_kind h w) ∙ w.is)

-- the row itself is all there is to convert
kept_here : {rows : List ℕ} {root kind : ℕ} (role : Role) → Word rows root 0 kind → ((t : Tree) → kind_of t ≡ kind → Kept t role) → NameAt rows root role root
unfolding mark_of first_of end_of kids_of
kept_here {rows} {root} {kind} role w kept =
    record {
      is = λ h.
          let n = named_at rows root in
          let t₁ = with_kind n h.tree in
          let place : 6 * (root + 1) ≡ length h.before + 6 * size t₁ = rw (kind_size h.tree n) h.place in
          record {
            made = t₁;
            is = kept_at role h w (kept h.tree (sym (reads_kind h w)));
            text = kind_set (record { before = h.before; tree = t₁; after = h.after; text = kind_set h n; place = place }) n;
          };
    }

-- so of an element
pub element_turned : (t : Tree) (last : Bool) → is_element (kind_of t) ≡ true → convert_as t (kid (Array None) last) ≡ turned (with_kind (named_kind (kind_of t)) t) []
unfolding kid
element_turned t last e = element_kept t last [] e

-- so of a reference, whatever is aimed at
pub reference_turned : {rows : List ℕ} {root kind : ℕ} (simply : Bool) (h : Subtree rows root) → Word rows root 0 kind → is_reference kind ≡ true
    → convert_as h.tree (aim simply) ≡ turned (with_kind (named_at rows root) h.tree) []
reference_turned true h w e = kept_at simple h w (reference_kept h.tree true (ap is_reference (sym (reads_kind h w)) ∙ e))
reference_turned false h w e = kept_at any h w (reference_kept h.tree false (ap is_reference (sym (reads_kind h w)) ∙ e))

pub one_set : {rows : List ℕ} {root : ℕ} (h : Subtree rows root) → set rows (6 * root) (named_at rows root) ≡ h.before ++ (flat (with_kind (named_at rows root) h.tree) ++ h.after)
one_set {rows} {root} h = kind_set h (named_at rows root)

-- a place that is there where a test passes
pub if_found : (P : ℕ → Type 0) (b : Bool) (at : ℕ) (r : Option ℕ) → r ≡ then_some b at → (b ≡ true → P at) → IfSome r P
if_found P true at r e p = rw e (p refl)
if_found P false at r e p = rw e tt

-- an element of an array
pub element_here : {rows : List ℕ} {root : ℕ} {of : Plan} {comma : Option ℕ} {kind : ℕ} → of ≡ Array comma → Word rows root 0 kind → is_element kind ≡ true → NameUnder rows root of root
unfolding kid
element_here {comma = comma} k w e =
    record { order = omega arith; is = λ last. rw k (kept_here _ w (λ t i. element_kept t last (commas comma) (ap is_element i ∙ e))) }

-- a simple target, or any
abbrev pub is_paren : Plan → Bool
is_paren Paren = true
is_paren _ = false

pub reference_here : {rows : List ℕ} {root : ℕ} {of : Plan} {kind : ℕ} → ((last : Bool) → kid of last ≡ (if is_paren of then simple else any)) → Word rows root 0 kind
    → is_reference kind ≡ true → NameUnder rows root of root
reference_here {of = of} aims w e =
    record { order = omega arith; is = λ last. rw (aims last) (kept_here _ w (λ t i. reference_kept t (is_paren of) (ap is_reference i ∙ e))) }

pub property_here : (rows : List ℕ) (root : ℕ) {of : Plan} {comma : Option ℕ} → of ≡ Object comma → (name : Option ℕ) → IfSome name (λ at. NameBelow rows root at)
    → IfSome name (λ at. NameUnder rows root of at)
unfolding kid
property_here rows root k None b = tt
property_here rows root {comma = comma} k (Some at) b = record { order = b.order; is = λ last. rw k (b.is comma last) }

-- all of the conversion is that of the name, with no record
pub turn_named : {rows r : List ℕ} {root end : ℕ} {rows' : List ℕ} {role : Role} {at : ℕ} → NameAt rows root role at → NameSet rows root at rows'
    → TurnedRow rows r root role end rows' r end
turn_named {rows} {r} {end = end} n k =
    record {
      is = λ h t rs a.
          let b = sym a ∙ (n.is h).is in
          rw (turned_is b, turned_records b) (omega arith, record { text = k.text ∙ (n.is h).text; filled = filled_none r end });
    }

pub step_plain : {rows r : List ℕ} {root : ℕ} {of : Plan} {start stop at : ℕ} {rows₁ rows' r' : List ℕ} {start' : ℕ} → NameUnder rows (stop - 1) of at
    → NameSet rows (stop - 1) at rows₁ → rows' ≡ rows₁ → r' ≡ r → start' ≡ start → Step rows r root of start stop rows' r' start'
step_plain {root = root} {stop = stop} n k e f g =
    step_turned (turn_named (n.is (eqb stop root)) k) (ap length k.text ∙ simp length-set) refl e f g

-- one row is set
pub one_name_set : {rows rows' : List ℕ} {at kind kind' : ℕ} → Word rows at 0 kind → kind' ≡ named_kind kind → KindSet rows at kind' rows' → NameSet rows at at rows'
one_name_set {rows} {at = at} w e k =
    record { text = k.text ∙ rw (e, w.is) (sym (set-set rows (6 * at) (named_at rows at) (named_at rows at))) }

pub inside_name : {rows : List ℕ} {root at : ℕ} → Subtree rows root → at ≤ root → NameInside (length rows) root at
inside_name h le = record { order = le; room = root_inside h }

-- what the kind and the number of kids of a property can be, and what stands last in it
data Ends (kind kids last : ℕ) : Type 0 where
  key_value : kind ≡ row.Property → kids ≡ 2 → is_value last ≡ true → Ends kind kids last
  shorthand : kind ≡ row.Shorthand → kids ≡ 1 → last ≡ row.Identifier → Ends kind kids last

ends : (kind kids last : ℕ) → ends_in_target kind kids last ≡ true → Ends kind kids last
ends kind kids last t = search rules

begins : (kind kids : ℕ) → is_initialized kind kids ≡ true → (kind ≡ row.ShorthandInit) × (kids ≡ 2)
begins kind kids t = search rules

of_one : {kids : ℕ} → kids ≡ 1 → 0 < kids
of_one e = omega arith

of_two : {kids : ℕ} → kids ≡ 2 → 0 < kids
of_two e = omega arith

module _ {rows : List ℕ} {root kids : ℕ} (h : Subtree rows root) (wn : Word rows root 4 kids) where
  -- the last kid
  last_kid : 0 < kids → Next (kids_of h.tree)
  last_kid some = walk_more (walk_start h) (let e = reads_kids h wn in omega arith)

  abbrev last_tree : (some : 0 < kids) → Subtree rows (root - 1)
  last_tree some = kid_tree (walk_start h) (last_kid some)

  low : 0 < kids → 1 ≤ root
  low some = let s = kid_size (walk_start h) (last_kid some) in omega arith

  -- the kid before it
  module _ (two : kids ≡ 2) {s s' : ℕ} (ws : Word rows (root - 1) 5 s) (e : s' ≡ s) where
    abbrev past_last : Walk h.before (kids_of h.tree) (flat (last_kid (of_two two)).kid ++ (root_words h.tree ++ h.after)) rows (0 + 1) (root - s')
    past_last = walk_next (walk_start h) (last_kid (of_two two)) (last_kid (of_two two)).kid rows s' (kid_text (walk_start h) (last_kid (of_two two))) (e ∙ reads_size (last_tree (of_two two)) ws)

    first_kid : Next (last_kid (of_two two)).rest
    first_kid = walk_more past_last (let c = reads_kids h wn in omega arith)

    abbrev first_tree : Subtree rows (root - s' - 1)
    first_tree = kid_tree past_last first_kid

    room : (s' ≤ root) × (1 ≤ root - s')
    room =
        let a = kid_size (walk_start h) (last_kid (of_two two)) in
        let b = kid_size past_last first_kid in
        let c = reads_size (last_tree (of_two two)) ws in
        (omega arith, omega arith)

    -- and no other
    first_alone : first_kid.rest ≡ nil
    unfolding count
    first_alone =
        let c = ap count (whole_next past_last first_kid) ∙ count_join first_kid.rest (cons first_kid.kid (one (last_kid (of_two two)).kid)) in
        let d = reads_kids h wn in
        no_kid first_kid.rest (omega arith)

    first_is : kids_of h.tree ≡ cons first_kid.kid (one (last_kid (of_two two)).kid)
    unfolding join
    first_is = whole_next past_last first_kid ∙ ap (λ (f : Forest). join f (cons first_kid.kid (one (last_kid (of_two two)).kid))) first_alone

-- the name of a shorthand with an initializer
pub named_first : {rows : List ℕ} {root kind kids s s' x : ℕ} {r : Bool} → Word rows root 0 kind → Word rows root 4 kids → r ≡ is_initialized kind kids → r ≡ true
    → Word rows (root - 1) 5 s → s' ≡ s → Word rows (root - s' - 1) 0 x → x ≡ row.Identifier → NameBelow rows root (root - s' - 1)
unfolding join flats
named_first {rows} {root} {kind} {kids} {s' = s'} wk wn e t ws es wx i =
    let b = begins kind kids (sym e ∙ t) in
    record {
      order = omega arith;
      is = λ held last.
          record {
            is = λ h.
                let init = (last_kid h wn (of_two b.1)).kid in
                let name = (first_kid h wn b.1 ws es).kid in
                let tree = first_tree h wn b.1 ws es in
                let R = root_words h.tree ++ h.after in
                let q = first_is h wn b.1 ws es in
                let k : kind_of name ≡ row.Identifier = sym (reads_kind tree wx) ∙ i in
                let kind_is : get_or rows (6 * root + 0) 0 ≡ row.ShorthandInit = sym wk.is ∙ b.0 in
                let below_is : get_or rows (6 * (root - s' - 1) + 0) 0 ≡ row.Identifier = sym wx.is ∙ i in
                let text =
                kind_set tree row.TargetName
                ∙ ap (λ (f : Forest). (h.before ++ flats f) ++ (flat (with_kind row.TargetName name) ++ (flat init ++ R))) (first_alone h wn b.1 ws es)
                ∙ ap (λ (l : List ℕ). (h.before ++ flats nil) ++ (flat (with_kind row.TargetName name) ++ l)) (sym (more_flat init nil R)) in
                record {
                  made = _;
                  is = initialized_turned h.tree last (commas held) name init (sym (reads_kind h wk) ∙ b.0) q k;
                  text = rw (kind_is, below_is) (two_set h nil (one init) name (root - s' - 1) row.TargetName row.TargetShorthandInit q text);
                };
          };
    }

-- the value of a property, or the name of a shorthand
module _ {rows : List ℕ} {root kind kids x : ℕ} (wk : Word rows root 0 kind) (wn : Word rows root 4 kids) (wx : Word rows (root - 1) 0 x)
    (closes : Bool) (comma : List Record) (h : Subtree rows root) where
  last_here : Ends kind kids x → Named rows root (as_one closes comma) (root - 1) h
  unfolding join flats count
  last_here (key_value k n v) =
      let last = last_kid h wn (of_two n) in
      let tree = last_tree h wn (of_two n) in
      let c = ap count last.is ∙ count_join last.rest (one last.kid) in
      let d = reads_kids h wn in
      let single : count last.rest ≡ 1 = omega arith in
      let a = one_kid last.rest (rw single refl) in
      let q : kids_of h.tree ≡ cons a.0 (one last.kid) = last.is ∙ ap (λ (f : Forest). join f (one last.kid)) a.1 in
      let kind_is : get_or rows (6 * root + 0) 0 ≡ row.Property = sym wk.is ∙ k in
      let below = named_at rows (root - 1) in
      let below_is : named_kind (kind_of last.kid) ≡ below = ap named_kind (sym (reads_kind tree wx) ∙ wx.is) in
      let turns : convert_as last.kid value ≡ turned (with_kind below last.kid) [] =
      value_kept last.kid (ap is_value (sym (reads_kind tree wx)) ∙ v)
      ∙ ap (λ (k : ℕ). turned (with_kind k last.kid) []) below_is in
      let text =
      kind_set tree below
      ∙ ap (λ (f : Forest). (h.before ++ flats f) ++ (flat (with_kind below last.kid) ++ (root_words h.tree ++ h.after))) a.1 in
      record {
        made = _;
        is = property_turned h.tree closes comma a.0 last.kid _ (sym (reads_kind h wk) ∙ k) q turns;
        text = rw kind_is (two_set h (one a.0) nil last.kid (root - 1) below row.TargetProperty q text);
      }
  last_here (shorthand k n i) =
      let last = last_kid h wn (of_one n) in
      let tree = last_tree h wn (of_one n) in
      let c = ap count last.is ∙ count_join last.rest (one last.kid) in
      let d = reads_kids h wn in
      let none : last.rest ≡ nil = no_kid last.rest (omega arith) in
      let q : kids_of h.tree ≡ one last.kid = last.is ∙ ap (λ (f : Forest). join f (one last.kid)) none in
      let kind_is : get_or rows (6 * root + 0) 0 ≡ row.Shorthand = sym wk.is ∙ k in
      let below_is : get_or rows (6 * (root - 1) + 0) 0 ≡ row.Identifier = sym wx.is ∙ i in
      let text =
      kind_set tree row.TargetName
      ∙ ap (λ (f : Forest). (h.before ++ flats f) ++ (flat (with_kind row.TargetName last.kid) ++ (root_words h.tree ++ h.after))) none in
      record {
        made = _;
        is = shorthand_turned h.tree closes comma last.kid (sym (reads_kind h wk) ∙ k) q (sym (reads_kind tree wx) ∙ i);
        text = rw (kind_is, below_is) (two_set h nil nil last.kid (root - 1) row.TargetName row.TargetShorthand q text);
      }

pub named_last : {rows : List ℕ} {root kind kids x : ℕ} {r : Bool} → Word rows root 0 kind → Word rows root 4 kids → Word rows (root - 1) 0 x → r ≡ ends_in_target kind kids x
    → r ≡ true → NameBelow rows root (root - 1)
named_last {kind = kind} {kids = kids} {x = x} wk wn wx e t =
    record { order = omega arith; is = λ held last. record { is = λ h. last_here wk wn wx last (commas held) h (ends kind kids x (sym e ∙ t)) } }

-- the places that are looked at are there
pub last_low : {rows : List ℕ} {root kids : ℕ} → Subtree rows root → Word rows root 4 kids → (kids ≡ 0 → ⊥) → 1 ≤ root
last_low h wn some = low h wn (omega (arith, some))

-- a word of a row is there
pub word_inside : {rows : List ℕ} {root : ℕ} (word : ℕ) → Subtree rows root → word < 6 → WordInside (length rows) root word
word_inside word h lt = let i = root_inside h in record { room = omega arith }

pub below_inside : {rows : List ℕ} {root n : ℕ} (word : ℕ) → Subtree rows root → n ≤ root → word < 6 → WordInside (length rows) n word
below_inside word h le lt = let i = root_inside h in record { room = omega arith }

pub first_low : {rows : List ℕ} {root kind kids : ℕ} {r : Bool} → Subtree rows root → Word rows root 0 kind → Word rows root 4 kids → r ≡ is_initialized kind kids → r ≡ true → 1 ≤ root
first_low {kind = kind} {kids = kids} h wk wn e t = low h wn (of_two (begins kind kids (sym e ∙ t)).1)

pub first_room : {rows : List ℕ} {root kind kids s s' : ℕ} {r : Bool} → Subtree rows root → Word rows root 0 kind → Word rows root 4 kids → r ≡ is_initialized kind kids → r ≡ true
    → Word rows (root - 1) 5 s → s' ≡ s → (s' ≤ root) × (1 ≤ root - s')
first_room {kind = kind} {kids = kids} h wk wn e t ws es = room h wn (begins kind kids (sym e ∙ t)).1 ws es
