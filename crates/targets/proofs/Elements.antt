-- An Array whose kids all become elements by themselves: what is found of it, and what is made of it.
-- Assumes nothing.
use Rattle.std.specs.Prelude.{if◌then◌else◌, Ok, None}
use Prim.Native.Nat.{ℕ, ◌+◌, ◌-◌, ◌≤◌, ◌<◌}
use mathlib.Core.Path.{◌≡◌, refl, sym, ap, ◌∙◌}
use mathlib.Core.Bool.{Bool, true, false}
use mathlib.Core.List.{List, []}
use native.Mathlib.Omega.{arith}
use borrow.Author.Rules.{rules}
use lib.Dec.{eqb}
use lib.ListN.{length}
use Rattle.rows.specs.Row as row
use Rattle.rows.specs.Tree.{Tree, Forest, node, nil, cons, count, kind_of, mark_of, first_of, end_of, kids_of}
use Rattle.rows.specs.Record.{Record}
use Rattle.rows.specs.Post.{Word, KindSet}
use Rattle.rows.proofs.Rows.{Next}
use Rattle.conversion.specs.Conversion as def
use Rattle.conversion.specs.Conversion.{Outcome, turned, refused, change, as_any, roles, over, both, convert_as, convert_kids}
use Rattle.conversion.proofs.RuleHolds.{refused_turned}
use Rattle.conversion.proofs.Potentials.{turned_records}
use Rattle.roles.specs.declared.plan.Plan.TheVariants.{Array}
use Rattle.roles.specs.Meaning as means
use Rattle.roles.specs.ShortCut.{is_element, named_kind}
use Rattle.targets.specs.Post.{Subtree, SizeInside, WordInside, FirstRow, near, begins_of, PlanAt, RowConverted}
use Rattle.targets.specs.Post.{all_elements, PlainArray, PlainReady, PlainTurned}
use Rattle.targets.proofs.Flat.{Walk, walk_start, walk_some, walk_next, walk_past, whole_next, root_inside, kid_tree, kid_size, kid_text}
use Rattle.targets.proofs.Looking.{reads_kind, reads_size}
use Rattle.targets.proofs.Records.{filled_none, written_none}
use Rattle.targets.proofs.Judging.{by_change}
use Rattle.targets.proofs.Turning.{Turning, KidsReady, first_element, rest_elements, elements_join, turn_ends}
use Rattle.targets.proofs.Finishing.{finished}
use Rattle.targets.proofs.ShortCuts.{element_turned}

-- the kids after a row are elements
pub record PlainHere {rows : List ℕ} {root : ℕ} (h : Subtree rows root) (end : ℕ) : Type 0 where
  pub after : ℕ
  pub tail : List ℕ
  pub walk : Walk h.before (kids_of h.tree) tail rows after end
  pub all : all_elements walk.passed ≡ true

pub record Plainly (rows : List ℕ) (root end : ℕ) : Type 0 where
  pub here : (h : Subtree rows root) → PlainHere h end

pub plain_starts : {rows : List ℕ} {root : ℕ} → Plainly rows root root
unfolding all_elements
plain_starts = record { here = λ h. record { after = 0; tail = _; walk = walk_start h; all = refl } }

not_both : (b c : Bool) → b ≡ false → (if b then c else false) ≡ true → ⊥
not_both b c e h = search rules

is_false : (b : Bool) → (b ≡ true → ⊥) → false ≡ b
is_false b h = search rules

module _ {rows : List ℕ} {root end first : ℕ} (j : Plainly rows root end) (f : FirstRow rows root first) (lt : first < end) (h : Subtree rows root) where
  the_next : Next (j.here h).walk.front
  the_next = walk_some (j.here h).walk (j.here h).walk.stop (f.is h) lt

  abbrev the_kid : Subtree rows (end - 1)
  the_kid = kid_tree (j.here h).walk the_next

  pub kid_word : WordInside (length rows) (end - 1) 0
  kid_word = let i = root_inside the_kid in record { room = omega arith }

  pub kid_inside : SizeInside (length rows) end
  kid_inside = let i = root_inside the_kid in record { some = omega arith; room = omega arith }

  pub kid_fits : {x : ℕ} → Word rows (end - 1) 5 x → (0 < x) × (x ≤ end)
  kid_fits s = let e = reads_size the_kid s in let k = kid_size (j.here h).walk the_next in (omega arith, omega arith)

  -- one that is none
  no_element : {kind : ℕ} → Word rows (end - 1) 0 kind → is_element kind ≡ false → false ≡ all_elements (kids_of h.tree)
  unfolding all_elements
  no_element w e =
      is_false (all_elements (kids_of h.tree))
      (λ all.
      not_both (is_element (kind_of the_next.kid)) _ (ap is_element (sym (reads_kind the_kid w)) ∙ e)
      (elements_join the_next.rest (cons the_next.kid (j.here h).walk.passed) (ap all_elements (sym (whole_next (j.here h).walk the_next)) ∙ all)).1)

pub plain_fails : {rows : List ℕ} {root end first kind : ℕ} {b : Bool} → Plainly rows root end → FirstRow rows root first → first < end → Word rows (end - 1) 0 kind
    → b ≡ is_element kind → b ≡ false → PlainArray rows root false
plain_fails j f lt w e n = record { is = λ h. no_element j f lt h w (sym e ∙ n) }

pub plain_again : {rows : List ℕ} {root end first kind size' : ℕ} {b : Bool} → Plainly rows root end → FirstRow rows root first → first < end → Word rows (end - 1) 0 kind
    → b ≡ is_element kind → b ≡ true → Word rows (end - 1) 5 size' → Plainly rows root (end - size')
unfolding all_elements
plain_again {rows} {size' = size'} j f lt w e t s =
    record {
      here = λ h.
          let n = the_next j f lt h in
          let a = j.here h in
          record {
            after = a.after + 1;
            tail = _;
            walk = walk_next a.walk n n.kid rows size' (kid_text a.walk n) (reads_size (the_kid j f lt h) s);
            all = rw (ap is_element (sym (reads_kind (the_kid j f lt h) w)) ∙ sym e ∙ t) a.all;
          };
    }

pub plain_ends : {rows : List ℕ} {root end first : ℕ} → Plainly rows root end → FirstRow rows root first → end ≤ first → PlainArray rows root true
plain_ends j f ge = record { is = λ h. sym (ap all_elements (sym (walk_past (j.here h).walk (f.is h) ge).0) ∙ (j.here h).all) }

-- all kids turn
pub elements_turned : (ts : Forest) → all_elements ts ≡ true → (us : Forest) × (convert_kids ts (means.kids (Array None)) ≡ turned us [])
unfolding all_elements convert_kids both
elements_turned nil h = (nil, refl)
elements_turned (cons t ts) h =
    let r = elements_turned ts (rest_elements (is_element (kind_of t)) _ h) in
    (cons (node (named_kind (kind_of t)) (mark_of t) (first_of t) (end_of t) (kids_of t)) r.0, rw (element_turned t (eqb (count ts) 0) (first_element (is_element (kind_of t)) _ h), r.1))

-- what an Array becomes
array_change : (t : Tree) (begins : ℕ) → kind_of t ≡ row.Array → means.plan begins (Array None) ≡ change def.any (near t)
unfolding means.plan means.kind means.before means.after means.kid change as_any near kind_of
array_change t begins i = search rules

pub plain_plan : {rows : List ℕ} {root : ℕ} (h : Subtree rows root) → kind_of h.tree ≡ row.Array → PlanAt rows root def.any (Array None)
plain_plan h i =
    record { is = λ g. array_change g.tree _ (sym (reads_kind g (record { is = refl })) ∙ reads_kind h (record { is = refl }) ∙ i) }

over_plain : (t : Tree) (us : Forest) → convert_kids (kids_of t) (means.kids (Array None)) ≡ turned us []
    → over (def.turn row.TargetArray [] (means.kids (Array None)) []) t (convert_kids (kids_of t) (roles (def.turn row.TargetArray [] (means.kids (Array None)) [])))
    ≡ turned (node row.TargetArray (mark_of t) (first_of t) (end_of t) us) []
unfolding over roles kids_of mark_of first_of end_of
over_plain t us q = search rules

array_turn : (begins : ℕ) → means.plan begins (Array None) ≡ def.turn row.TargetArray [] (means.kids (Array None)) []
unfolding means.plan means.kind means.before means.after
array_turn begins = search rules

plain_accepts : {rows : List ℕ} {root : ℕ} (h : Subtree rows root) → kind_of h.tree ≡ row.Array → all_elements (kids_of h.tree) ≡ true
    → (t : Tree) × (convert_as h.tree def.any ≡ turned t [])
plain_accepts h i all =
    let r = elements_turned (kids_of h.tree) all in
    (_, by_change (plain_plan h i) h (array_turn _) ∙ over_plain h.tree r.0 r.1)

pub plain_room : (begins : ℕ) → length (means.before begins (Array None)) + length {A = Record} [] ≤ 0
unfolding means.before
plain_room begins = search rules

abbrev pub plain_kids : {rows : List ℕ} {root : ℕ} → PlainReady rows root → KidsReady rows root (Array None) 0
plain_kids p =
    record {
      rooted = p.rooted;
      kindly = record { made = (elements_turned (kids_of p.rooted.tree) p.plain).0; records = []; is = (elements_turned (kids_of p.rooted.tree) p.plain).1 };
      room = plain_room (begins_of p.rooted.tree);
    }

pub plain_turned : {rows₀ : List ℕ} {root : ℕ} {rows : List ℕ} {stop first : ℕ} {rows' : List ℕ} → PlainReady rows₀ root → Turning rows₀ root [] (Array None) 0 rows [] 0 stop
    → FirstRow rows root first → stop ≤ first → KindSet rows root row.TargetArray rows' → PlainTurned rows₀ root rows'
unfolding means.kind means.before means.after
plain_turned p t f ge k =
    record {
      is = λ h i all u rs q.
          ((turn_ends (plain_plan p.rooted p.array) refl (written_none refl) (omega arith) refl t f ge
          (finished k refl (written_none refl))).is h u rs q).1.text;
    }

pub plain_ready : {rows : List ℕ} {root kind : ℕ} {b : Bool} → Subtree rows root → Word rows root 0 kind → kind ≡ row.Array → PlainArray rows root b → b ≡ true → PlainReady rows root
plain_ready h w i p t = record { rooted = h; array = sym (reads_kind h w) ∙ i; plain = sym (p.is h) ∙ t }

pub convert_plain : {rows r rows' : List ℕ} {root used kind : ℕ} (simple : Bool) {b : Bool} → simple ≡ false → Word rows root 0 kind → kind ≡ row.Array
    → PlainArray rows root b → b ≡ true → PlainTurned rows root rows' → RowConverted rows r root (means.aim simple) used rows' r (Ok 0)
convert_plain {r = r} {used = used} simple s w i p t x =
    rw s (record {
      done = λ h u rs q.
          let k = sym (reads_kind h w) ∙ i in
          let all = sym (p.is h) ∙ t in
          let e = turned_records (sym (plain_accepts h k all).1 ∙ q) in
          rw (sym e) (refl, record { text = x.is h k all u rs q; filled = filled_none r used });
      fail = λ h cause q.
          absurd (refused_turned (sym q ∙ (plain_accepts h (sym (reads_kind h w) ∙ i) (sym (p.is h) ∙ t)).1));
    })
