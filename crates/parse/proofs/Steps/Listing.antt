-- A list: parts with commas between them, up to a closing token. Once for all six lists: what holds at each turn of the loop that reads one, and each way through it; then the six.
-- Assumes nothing.
use Rattle.std.specs.Prelude.{if◌then◌else◌, Ok, Err}
use Prim.Native.Nat.{ℕ, ◌+◌, ◌*◌, ◌≤◌, ◌<◌, suc, ◌-◌}
use mathlib.Core.Path.{◌≡◌, refl, sym, subst, ◌∙◌, ap}
use mathlib.Core.List.{List, [], ◌++◌}
use mathlib.Core.Bool.{Bool, true, false}
use native.Mathlib.Omega.{arith}
use lib.ListN.{length, get_or}
use borrow.Author.Tests.{ne_eqb}
use Rattle.tokens.specs.Kind.{Comma, RParen, RBrack, RCurly, Dot3}
use Rattle.tokens.specs.declared.cause.Cause.{Cause}
use Rattle.tokens.proofs.Stands.{stands, stands_not}
use Rattle.tokens.specs.Bool.{◌is◌}
use Rattle.rows.specs.Tree.{Tree, Forest, node, nil, one, join, count, kind_of, kids_of}
use Rattle.rows.specs.Record.{Record}
use Rattle.rows.specs.Row as Row
use Rattle.rows.specs.Post.{Grown, Word}
use Rattle.rows.proofs.Rows.{count_join}
use Rattle.grammar.specs.Sheet.{sheet_of, Out, done, fail, leaf, after_records, Sheet, first_tree}
use Rattle.grammar.specs.Job.{Job, binding_rest, Asks, binding_element, assignment, spread, property, arguments, elements, properties, parameters, binding_property}
use Rattle.grammar.specs.Job.{binding_elements, binding_properties}
use Rattle.grammar.specs.Binding.{binding_rest_of}
use Rattle.grammar.specs.Step.{step, read}
use Rattle.grammar.specs.Reading.{box}
use Rattle.laws.proofs.Bounds.{Limits, Bound, bounded, limits, reads, step_bound}
use Rattle.laws.specs.Settles.{μ}
use Rattle.laws.proofs.Good.{Reads, Answers, Ends, ends_done, ends_fail, ends_stuck, good, yields, says, follows}
use Rattle.build.specs.Post.{cursor, Comes, ReadTo, Refused, Made, Unmade, Met, MetList, Leafed, Topped, ClosedTo, MetClosed}
use Rattle.build.specs.declared.cursor.Cursor.{Cursor}
use Rattle.build.proofs.Ends.{Moved}
use Rattle.build.proofs.Makes.{made_none, made_then, made_at, made_leaf, stands_made, unmade_past, unmade_after, count_one, is_topped}
use Rattle.build.proofs.Rules as Rule
use Rattle.waiting.proofs.Shared.{after_none, after_done, said_then, comes_to}
use Rattle.waiting.proofs.Root.{two_rows, kid_kind}
use Rattle.parse.proofs.Steps.Cursors.{leafed_now, Along}
use Rattle.parse.proofs.Steps.Head.{is_listed}
use Rattle.parse.proofs.Steps.Rest.{not_closed}

-- a nonterminal that gives one tree, and no more than a row beyond one a token
pub record Within (ks fs : List ℕ) (at : ℕ) (job : Job) : Type 0 where
  pub slack : ℕ
  pub small : slack ≤ 1
  pub limited : limits (sheet_of ks fs) job ≡ reads (sheet_of ks fs) at slack 0

-- A list: the token that closes it, and where a part begins; the kind of its row after a part, and after the part at a place and a comma;
-- the list from a place on, by the kind and the kids so far, and a part at a place; what is made of the kids, by the kind and the end. And its rules.
pub record Listing (ks fs : List ℕ) : Type 1 where
  pub close : ℕ
  pub begins : ℕ → Type 0
  pub plain : ℕ
  pub later : ℕ → ℕ
  pub list : ℕ → ℕ → Forest → Job
  pub part : ℕ → Job
  pub whole : ℕ → ℕ → Forest → Forest
  pub within : (at : ℕ) → Within ks fs at (part at)
  pub ends : {at kind : ℕ} {m : List ℕ} {so_far : Forest} → get_or ks at 0 ≡ close → Comes ks fs (list at kind so_far) m (done (at + 1) (whole kind (at + 1) so_far) [] m)
  pub fails : {at kind : ℕ} {m m' : List ℕ} {so_far : Forest} {c : Cause} → begins (get_or ks at 0) → Comes ks fs (part at) m (fail c m') → Comes ks fs (list at kind so_far) m (fail c m')
  pub more : {at p kind : ℕ} {m m' : List ℕ} {ts so_far : Forest} {rs : List Record} {out : Out (List ℕ)} → begins (get_or ks at 0) → Comes ks fs (part at) m (done p ts rs m')
      → get_or ks p 0 ≡ Comma → Comes ks fs (list (p + 1) (later at) (join so_far ts)) m' out → Comes ks fs (list at kind so_far) m (after_records rs out)
  pub last : {at p kind : ℕ} {m m' : List ℕ} {ts so_far : Forest} {rs : List Record} → begins (get_or ks at 0) → Comes ks fs (part at) m (done p ts rs m') → get_or ks p 0 ≡ close
      → Comes ks fs (list at kind so_far) m (done (p + 1) (whole plain (p + 1) (join so_far ts)) rs m')
  pub stray : {at p kind : ℕ} {m m' : List ℕ} {ts so_far : Forest} {rs : List Record} → begins (get_or ks at 0) → Comes ks fs (part at) m (done p ts rs m')
      → (get_or ks p 0 ≡ Comma → ⊥) → (get_or ks p 0 ≡ close → ⊥) → Comes ks fs (list at kind so_far) m (fail (Cause.Unexpected p) m')

-- the loop began at the cursor c, with rows from `from` on; now it is here, with so many kids
pub record SoFar {ks fs : List ℕ} (l : Listing ks fs) (r₀ s₀ m₀ : List ℕ) (start : Job) (from : ℕ) (c : Cursor) (r s m : List ℕ) (here : Cursor) (kids kind : ℕ) : Type 0 where
  pub along : Along ks c here kids
  pub wide : 6 * from ≤ length r₀
  pub deep : 2 * c.records ≤ length s₀
  pub rows_long : length r ≡ length r₀
  pub records_long : length s ≡ length s₀
  pub trees : Forest
  pub records : List Record
  pub counted : kids ≡ count trees
  pub made : Made r₀ s₀ from c.records r s here trees records
  pub rest : (out : Out (List ℕ)) → Comes ks fs (l.list here.at kind trees) m out → Comes ks fs start m₀ (after_records records out)

module _ {ks fs r s m : List ℕ} (l : Listing ks fs) {kind : ℕ} {c : Cursor} (inside : c.at ≤ length ks) (deep : 2 * c.records ≤ length s) where
  starts_with : {from kids : ℕ} {ts : Forest} → 6 * from ≤ length r → kids ≤ 1 → kids ≡ count ts → Made r s from c.records r s c ts []
      → SoFar l r s m (l.list c.at kind ts) from c r s m c kids kind
  starts_with {ts = ts} wide small counted made =
      record {
        along = record { low = omega arith; high = inside; some = omega arith; few = omega arith; said = omega arith; number = omega arith };
        wide = wide;
        deep = deep;
        rows_long = refl;
        records_long = refl;
        trees = ts;
        records = [];
        counted = counted;
        made = made;
        rest = λ out h. comes_to h (sym (after_none out));
      }

  -- with no kid, and over one that stands
  pub starts : 6 * c.rows ≤ length r → SoFar l r s m (l.list c.at kind nil) c.rows c r s m c 0 kind
  unfolding count
  starts wide = starts_with wide (omega arith) refl (made_at made_none refl refl)

  pub starts_over : {from : ℕ} {left : Tree} → 6 * from ≤ length r → Grown r from r c.rows (one left) → SoFar l r s m (l.list c.at kind (one left)) from c r s m c 1 kind
  unfolding count
  starts_over wide g = starts_with wide (omega arith) refl (stands_made c g)

-- the same over the tree before the list, whatever it is
pub record OverSoFar {ks fs : List ℕ} (l : Listing ks fs) (r₀ s₀ m₀ : List ℕ) (from : ℕ) (c : Cursor) (r s m : List ℕ) (here : Cursor) (kids kind : ℕ) : Type 0 where
  pub along : Along ks c here kids
  pub over : (left : Tree) → Grown r₀ from r₀ c.rows (one left) → SoFar l r₀ s₀ m₀ (l.list c.at kind (one left)) from c r s m here kids kind

pub over_left : {ks fs r₀ s₀ m₀ : List ℕ} {l : Listing ks fs} {from : ℕ} {c : Cursor} {r s m : List ℕ} {here : Cursor} {kids kind : ℕ} (left : Tree) → Grown r₀ from r₀ c.rows (one left)
    → ((left : Tree) → Grown r₀ from r₀ c.rows (one left) → SoFar l r₀ s₀ m₀ (l.list c.at kind (one left)) from c r s m here kids kind)
    → OverSoFar l r₀ s₀ m₀ from c r s m here kids kind
over_left left g f = record { along = (f left g).along; over = f }

-- how far a part moves the cursor
pub record Parted (ks : List ℕ) (at n k : ℕ) (d : Cursor) (ts : Forest) : Type 0 where
  pub forward : at < d.at
  pub inside : d.at ≤ length ks
  pub more : n ≤ d.rows
  pub few : d.rows + at ≤ n + d.at + 1
  pub said : d.records + at ≤ k + d.at
  pub lone : count ts ≡ 1

pub parted : {ks fs r₀ s₀ m₀ r s m : List ℕ} {job : Job} {at n k : ℕ} {d : Cursor} → Within ks fs at job → (g : ReadTo ks fs r₀ s₀ m₀ r s m job n k d) → Parted ks at n k d g.trees
parted {d = d} v g =
    let b = subst (λ (x : Limits). Bound x d.at g.trees g.records) v.limited (bounded g.comes.settles) in
    let u = g.made.grown.used in
    let q = g.made.recorded.used in
    let o = v.small in
    record { forward = omega arith; inside = omega arith; more = omega arith; few = omega arith; said = omega arith; lone = count_one _ _ b.single }

-- the list is read up to its end: what is made of its kids, before a row is written over them
pub record Closes (ks fs r₀ s₀ m₀ r s m : List ℕ) (start : Job) (from k : ℕ) (whole : Forest → Forest) (end : ℕ) (d : Cursor) (kids : ℕ) : Type 0 where
  pub trees : Forest
  pub records : List Record
  pub comes : Comes ks fs start m₀ (done end (whole trees) records m)
  pub made : Made r₀ s₀ from k r s d trees records
  pub counted : kids ≡ count trees

-- how many rows and kids the list has, against the tokens from b on
pub record Counted (ks : List ℕ) (b d : Cursor) (end kids : ℕ) : Type 0 where
  pub high : end ≤ length ks
  pub some : b.rows ≤ d.rows
  pub few : d.rows + b.at ≤ b.rows + end
  pub number : kids + b.at ≤ end + 1

-- a list with a row over it has ended, on one of the ways out of its loop
pub record Ended (ks fs r₀ s₀ m₀ r s m : List ℕ) (start : Job) (from : ℕ) (b : Cursor) (kind first end : ℕ) (d : Cursor) (kids : ℕ) : Type 0 where
  pub closed : Closes ks fs r₀ s₀ m₀ r s m start from b.records (λ ts. one (node kind first first end ts)) end d kids
  pub counted : Counted ks b d end kids

pub ended : {ks fs r₀ s₀ m₀ r s m r' s' m' : List ℕ} {start : Job} {from kind kind' first end end' kids kids' : ℕ} {b d d' : Cursor} → r ≡ r' → s ≡ s' → m ≡ m' → d ≡ d'
    → kids ≡ kids' → kind ≡ kind' → end ≡ end'
    → Closes ks fs r₀ s₀ m₀ r' s' m' start from b.records (λ ts. one (node kind' first first end' ts)) end' d' kids' → Counted ks b d' end' kids'
    → Ended ks fs r₀ s₀ m₀ r s m start from b kind first end d kids
ended e₁ e₂ e₃ e₄ e₅ e₆ e₇ h n = rw (e₁, e₂, e₃, e₄, e₅, e₆, e₇) record { closed = h; counted = n }

module _ {ks fs r₀ s₀ m₀ r s m : List ℕ} {start : Job} {from k end kids : ℕ} {d : Cursor} where
  pub topped : {r' : List ℕ} {u : Cursor} {kind first : ℕ} → Closes ks fs r₀ s₀ m₀ r s m start from k (λ ts. one (node kind first first end ts)) end d kids
      → Topped r d kind first first end kids from r' u → Met ks fs r₀ s₀ m₀ r' s m start from k (Ok u)
  topped h top = is_topped top h.comes h.made h.counted

  pub listed : Closes ks fs r₀ s₀ m₀ r s m start from k (λ ts. ts) end d kids → MetList ks fs r₀ s₀ m₀ r s m start from k (Ok ((cursor end d.rows d.records), kids))
  listed h = is_listed record { trees = h.trees; records = h.records; comes = h.comes; made = made_at h.made refl refl; counted = h.counted }

-- a rest and its closing token
pub closed_after : {ks fs r₀ s₀ m₀ r s m : List ℕ} {at close n k : ℕ} {d : Cursor} (g : ClosedTo ks fs r₀ s₀ m₀ r s m (binding_rest at) close n k d) → 0 < close
    → Moved ks at n k d 0
closed_after {ks} {close = close} {d = d} g pos =
    let b = bounded g.comes.settles in
    let u = g.made.grown.used in
    let v = g.made.recorded.used in
    let e = g.past in
    let lt = stands_not ks g.end (λ z. let q : close ≡ 0 = sym g.token ∙ z in omega arith) in
    record { forward = omega arith; inside = omega arith; more = omega arith; few = omega arith; said = omega arith }

module _ {ks fs : List ℕ} {l : Listing ks fs} {r₀ s₀ m₀ : List ℕ} {start : Job} {from : ℕ} {c : Cursor} {r s m : List ℕ} {here : Cursor} {kids kind : ℕ}
    (w : SoFar l r₀ s₀ m₀ start from c r s m here kids kind) where
  -- it is refused, and nothing is left of it: at a part that is refused, and after one that is made
  module _ {p : Cause} {r' s' m' : List ℕ} (h : Comes ks fs (l.list here.at kind w.trees) m (fail p m')) where
    pub gives_up : Unmade r s here.rows here.records r' s' → Refused ks fs r₀ s₀ m₀ r' s' m' start from c.records p
    unfolding after_records
    gives_up u = record { comes = w.rest _ h; unmade = unmade_after w.wide w.deep w.made u }

    pub gives_up_past : {d : Cursor} {ts : Forest} {rs : List Record} → Made r s here.rows here.records r' s' d ts rs → Refused ks fs r₀ s₀ m₀ r' s' m' start from c.records p
    unfolding after_records
    gives_up_past a = record { comes = w.rest _ h; unmade = unmade_past w.wide w.deep (made_then w.made a) }

  -- it ends with one more tree
  closes_with : {r' s' m' : List ℕ} {whole : Forest → Forest} {end : ℕ} {d : Cursor} {ts : Forest} {rs : List Record} → Made r s here.rows here.records r' s' d ts rs → count ts ≡ 1
      → Comes ks fs (l.list here.at kind w.trees) m (done end (whole (join w.trees ts)) rs m') → Closes ks fs r₀ s₀ m₀ r' s' m' start from c.records whole end d (kids + 1)
  unfolding after_records
  closes_with {ts = ts} {rs} a o h =
      record {
        trees = join w.trees ts;
        records = w.records ++ rs;
        comes = w.rest _ h;
        made = made_then w.made a;
        counted = omega (arith, w.counted, o, count_join w.trees ts);
      }

  -- it goes on with one more tree, which takes a row beyond one a token at most
  goes_on : {r' s' m' : List ℕ} {d e : Cursor} {ts : Forest} {rs : List Record} {kind' : ℕ} → Made r s here.rows here.records r' s' d ts rs → count ts ≡ 1
      → here.at < e.at → e.at ≤ length ks → here.rows ≤ e.rows → e.rows + here.at ≤ here.rows + e.at → e.records + here.at ≤ here.records + e.at
      → d.rows ≡ e.rows → d.records ≡ e.records → length r' ≡ length r → length s' ≡ length s
      → ((out : Out (List ℕ)) → Comes ks fs (l.list e.at kind' (join w.trees ts)) m' out → Comes ks fs (l.list here.at kind w.trees) m (after_records rs out))
      → SoFar l r₀ s₀ m₀ start from c r' s' m' e (kids + 1) kind'
  goes_on {ts = ts} {rs} a o forward inside more few said i j i' j' f =
      record {
        along = let v = w.along in record { low = omega arith; high = inside; some = omega arith; few = omega arith; said = omega arith; number = omega arith };
        wide = w.wide;
        deep = w.deep;
        rows_long = i' ∙ w.rows_long;
        records_long = j' ∙ w.records_long;
        trees = join w.trees ts;
        records = w.records ++ rs;
        counted = omega (arith, w.counted, o, count_join w.trees ts);
        made = made_at (made_then w.made a) i j;
        rest = λ out h. said_then w.records rs out (w.rest _ (f out h));
      }

  -- at the closing token, and at a hole
  module _ {y : ℕ} (k : y ≡ get_or ks here.at 0) where
    pub ends : y ≡ l.close → Closes ks fs r₀ s₀ m₀ r s m start from c.records (l.whole kind (here.at + 1)) (here.at + 1) here kids
    ends t =
        record {
          trees = w.trees;
          records = w.records;
          comes = comes_to (w.rest _ (l.ends (sym k ∙ t))) (after_done w.records _ _ _);
          made = w.made;
          counted = w.counted;
        }

    pub holes : {r' : List ℕ} {d : Cursor} {kind' : ℕ} → y ≡ Comma → Leafed r here Row.Hole r' d → length r' ≡ length r
        → ((out : Out (List ℕ)) → Comes ks fs (l.list (here.at + 1) kind' (join w.trees (one (leaf Row.Hole here.at)))) m out → Comes ks fs (l.list here.at kind w.trees) m out)
        → SoFar l r₀ s₀ m₀ start from c r' s m d (kids + 1) kind'
    unfolding count
    holes {kind' = kind'} t top e f =
        let now = leafed_now top in
        let st = stands ks (sym k ∙ t) in
        goes_on (made_leaf top) refl (omega (arith, now)) (omega (arith, now, st)) (omega (arith, now)) (omega (arith, now)) (omega (arith, now)) refl refl e refl
        (λ out h. comes_to (f out (subst (λ (i : ℕ). Comes ks fs (l.list i kind' (join w.trees (one (leaf Row.Hole here.at)))) m out) now.at_is h)) (sym (after_none out)))

  -- at a part
  begun : {y : ℕ} → y ≡ get_or ks here.at 0 → l.begins y → l.begins (get_or ks here.at 0)
  begun k t = subst (λ (i : ℕ). l.begins i) k t

  module _ {y : ℕ} {r' s' m' : List ℕ} (k : y ≡ get_or ks here.at 0) (t : l.begins y) where
    pub refuses : {p : Cause} → Met ks fs r s m r' s' m' (l.part here.at) here.rows here.records (Err p) → Refused ks fs r₀ s₀ m₀ r' s' m' start from c.records p
    refuses h = let f = h.fail_at _ refl in gives_up (l.fails (begun k t) f.comes) f.unmade

    module _ {d : Cursor} (h : Met ks fs r s m r' s' m' (l.part here.at) here.rows here.records (Ok d)) where
      pub moves : Parted ks here.at here.rows here.records d (h.done_to d refl).trees
      moves = parted (l.within here.at) (h.done_to d refl)

      module _ {z : ℕ} (k' : z ≡ get_or ks d.at 0) where
        pub opens : (z ≡ l.close → ⊥) → (z ≡ Comma → ⊥) → Refused ks fs r₀ s₀ m₀ r' s' m' start from c.records (Cause.Unexpected d.at)
        opens n n' = let a = h.done_to d refl in gives_up_past (l.stray (begun k t) a.comes (λ q. n' (k' ∙ q)) (λ q. n (k' ∙ q))) a.made

        pub closes : z ≡ l.close → Closes ks fs r₀ s₀ m₀ r' s' m' start from c.records (l.whole l.plain (d.at + 1)) (d.at + 1) d (kids + 1)
        closes v = let a = h.done_to d refl in closes_with a.made moves.lone (l.last (begun k t) a.comes (sym k' ∙ v))

        pub turns : {kind' : ℕ} → z ≡ Comma → l.later here.at ≡ kind' → length r' ≡ length r → length s' ≡ length s
            → SoFar l r₀ s₀ m₀ start from c r' s' m' (cursor (d.at + 1) d.rows d.records) (kids + 1) kind'
        turns v by i j =
            let a = h.done_to d refl in
            let b = moves in
            let st = stands ks (sym k' ∙ v) in
            goes_on a.made b.lone (omega (arith, b)) (omega (arith, st)) (omega (arith, b)) (omega (arith, b)) (omega (arith, b)) refl refl i j
            (λ out g. l.more (begun k t) a.comes (sym k' ∙ v) (subst (λ (q : ℕ). Comes ks fs (l.list (d.at + 1) q (join w.trees a.trees)) m' out) (sym by) g))

  -- at a rest
  module _ {close : ℕ} {r' s' m' : List ℕ} where
    pub rest_refuses : {p : Cause} → MetClosed ks fs r s m r' s' m' (binding_rest here.at) close Cause.RestLast here.rows here.records (Err p)
        → ((q : Cause) → Comes ks fs (binding_rest here.at) m (fail q m') → Comes ks fs (l.list here.at kind w.trees) m (fail q m'))
        → ((i : ℕ) (ts : Forest) (rs : List Record) → Comes ks fs (binding_rest here.at) m (done i ts rs m') → (get_or ks i 0 ≡ close → ⊥)
        → Comes ks fs (l.list here.at kind w.trees) m (fail (Cause.RestLast i) m'))
        → Refused ks fs r₀ s₀ m₀ r' s' m' start from c.records p
    rest_refuses h f g = let a = h.closed_fail _ refl in gives_up (not_closed f g a.why) a.unmade

    pub rest_closes : {d : Cursor} (h : MetClosed ks fs r s m r' s' m' (binding_rest here.at) close Cause.RestLast here.rows here.records (Ok d))
        → Comes ks fs (l.list here.at kind w.trees) m
        (done ((h.closed_to d refl).end + 1) (l.whole l.plain ((h.closed_to d refl).end + 1) (join w.trees (h.closed_to d refl).trees)) (h.closed_to d refl).records m')
        → Closes ks fs r₀ s₀ m₀ r' s' m' start from c.records (l.whole l.plain d.at) d.at d (kids + 1)
    rest_closes {d} h f =
        let g = h.closed_to d refl in
        closes_with g.made (count_one _ _ (bounded g.comes.settles).single)
        (subst (λ (i : ℕ). Comes ks fs (l.list here.at kind w.trees) m (done i (l.whole l.plain i (join w.trees g.trees)) g.records m')) (sym g.past) f)

-- THE SIX LISTS: arguments, 13.3; elements and properties, 13.2.4 and 13.2.5; parameters, 15.1; the elements and properties of patterns, 14.3.3.
-- an element or an argument, and a part of an object
pub item_within : (ks fs : List ℕ) (at : ℕ) (dots : Bool) → Within ks fs at (if dots then spread at else assignment at)
item_within ks fs at true = record { slack = 0; small = omega arith; limited = refl }
item_within ks fs at false = record { slack = 0; small = omega arith; limited = refl }

pub part_within : (ks fs : List ℕ) (at : ℕ) (dots : Bool) → Within ks fs at (if dots then spread at else property at)
part_within ks fs at true = record { slack = 0; small = omega arith; limited = refl }
part_within ks fs at false = record { slack = 1; small = omega arith; limited = refl }

module _ (ks fs : List ℕ) where
  abbrev pub arguments_list : ℕ → Listing ks fs
  arguments_list first =
      record {
        close = RParen;
        begins = λ y. y ≡ RParen → ⊥;
        plain = Row.Call;
        later = λ at. Row.Call;
        list = λ at kind so_far. arguments first at so_far;
        part = λ at. if get_or ks at 0 is Dot3 then spread at else assignment at;
        whole = λ kind end ts. one (node Row.Call first first end ts);
        within = λ at. item_within ks fs at (get_or ks at 0 is Dot3);
        ends = λ t. Rule.arguments_end t;
        fails = λ n h. Rule.arguments_fail n h;
        more = λ n h t g. Rule.arguments_more n h t g;
        last = λ n h t. Rule.arguments_last n h t;
        stray = λ n h t t'. Rule.arguments_open n h t t';
      }

  abbrev pub elements_list : ℕ → Listing ks fs
  elements_list first =
      record {
        close = RBrack;
        begins = λ y. (y ≡ RBrack → ⊥) × (y ≡ Comma → ⊥);
        plain = Row.Array;
        later = λ at. if get_or ks at 0 is Dot3 then Row.ArrayRestComma else Row.Array;
        list = λ at kind so_far. elements first at kind so_far;
        part = λ at. if get_or ks at 0 is Dot3 then spread at else assignment at;
        whole = λ kind end ts. one (node kind first first end ts);
        within = λ at. item_within ks fs at (get_or ks at 0 is Dot3);
        ends = λ t. Rule.elements_end t;
        fails = λ n h. Rule.elements_fail n.0 n.1 h;
        more = λ n h t g. Rule.elements_more n.0 n.1 h t g;
        last = λ n h t. Rule.elements_last n.0 n.1 h t;
        stray = λ n h t t'. Rule.elements_open n.0 n.1 h t t';
      }

  abbrev pub properties_list : ℕ → Listing ks fs
  properties_list first =
      record {
        close = RCurly;
        begins = λ y. y ≡ RCurly → ⊥;
        plain = Row.Object;
        later = λ at. if get_or ks at 0 is Dot3 then Row.ObjectRestComma else Row.Object;
        list = λ at kind so_far. properties first at kind so_far;
        part = λ at. if get_or ks at 0 is Dot3 then spread at else property at;
        whole = λ kind end ts. one (node kind first first end ts);
        within = λ at. part_within ks fs at (get_or ks at 0 is Dot3);
        ends = λ t. Rule.properties_end t;
        fails = λ n h. Rule.properties_fail n h;
        more = λ n h t g. Rule.properties_more n h t g;
        last = λ n h t. Rule.properties_last n h t;
        stray = λ n h t t'. Rule.properties_open n h t t';
      }

  abbrev pub parameters_list : Listing ks fs
  parameters_list =
      record {
        close = RParen;
        begins = λ y. (y ≡ RParen → ⊥) × (y ≡ Dot3 → ⊥);
        plain = 0;
        later = λ at. 0;
        list = λ at kind so_far. parameters at so_far;
        part = λ at. binding_element at;
        whole = λ kind end ts. ts;
        within = λ at. record { slack = 0; small = omega arith; limited = refl };
        ends = λ t. Rule.parameters_end t;
        fails = λ n h. Rule.parameters_fails n.0 n.1 h;
        more = λ n h t g. Rule.parameters_more n.0 n.1 h t g;
        last = λ n h t. Rule.parameters_last n.0 n.1 h t;
        stray = λ n h t t'. Rule.parameters_open n.0 n.1 h t t';
      }

  abbrev pub binding_elements_list : ℕ → Listing ks fs
  binding_elements_list first =
      record {
        close = RBrack;
        begins = λ y. (y ≡ RBrack → ⊥) × (y ≡ Comma → ⊥) × (y ≡ Dot3 → ⊥);
        plain = Row.BindingArray;
        later = λ at. Row.BindingArray;
        list = λ at kind so_far. binding_elements first at so_far;
        part = λ at. binding_element at;
        whole = λ kind end ts. one (node Row.BindingArray first first end ts);
        within = λ at. record { slack = 0; small = omega arith; limited = refl };
        ends = λ t. Rule.binding_elements_end t;
        fails = λ n h. Rule.binding_elements_fails n.0 n.1 n.2 h;
        more = λ n h t g. Rule.binding_elements_more n.0 n.1 n.2 h t g;
        last = λ n h t. Rule.binding_elements_last n.0 n.1 n.2 h t;
        stray = λ n h t t'. Rule.binding_elements_open n.0 n.1 n.2 h t t';
      }

  abbrev pub binding_properties_list : ℕ → Listing ks fs
  binding_properties_list first =
      record {
        close = RCurly;
        begins = λ y. (y ≡ RCurly → ⊥) × (y ≡ Dot3 → ⊥);
        plain = Row.BindingObject;
        later = λ at. Row.BindingObject;
        list = λ at kind so_far. binding_properties first at so_far;
        part = λ at. binding_property at;
        whole = λ kind end ts. one (node Row.BindingObject first first end ts);
        within = λ at. record { slack = 1; small = omega arith; limited = refl };
        ends = λ t. Rule.binding_properties_end t;
        fails = λ n h. Rule.binding_properties_fails n.0 n.1 h;
        more = λ n h t g. Rule.binding_properties_more n.0 n.1 h t g;
        last = λ n h t. Rule.binding_properties_last n.0 n.1 h t;
        stray = λ n h t t'. Rule.binding_properties_open n.0 n.1 h t t';
      }

-- What a rest looks like: one tree with one kid.
pub record RestOf (ts : Forest) : Type 0 where
  pub mark : ℕ
  pub first : ℕ
  pub end : ℕ
  pub kid : Tree
  pub looks : ts ≡ one (node Row.BindingRest mark first end (one kid))

abbrev Any : Job → Type 0
Any job = Unit {0}

abbrev Nothing : Cause → Type 0
Nothing cause = Unit {0}

rest_reads : {N : Type 0} (sheet : Sheet) {ask : Asks N} → Answers Any (λ job. Bound (limits sheet job)) Nothing ask → (at : ℕ)
    → Reads (λ end trees records. RestOf trees) Nothing (binding_rest_of sheet ask at)
unfolding binding_rest_of
rest_reads sheet h at =
    follows (h.with (binding_element (at + 1)) tt)
    (λ argument rs b. says _ (yields _ _ record {
      mark = at;
      first = at;
      end = argument.end;
      kid = first_tree argument.trees;
      looks = ap (λ (ts : Forest). one (node Row.BindingRest at at argument.end ts)) b.single;
    }))

pub rest_shape : {ks fs m m' : List ℕ} {at p : ℕ} {ts : Forest} {rs : List Record} → Comes ks fs (binding_rest at) m (done p ts rs m') → RestOf ts
unfolding read step
rest_shape {ks} {fs} {m} {m'} {at} {p} {ts} {rs} h =
    go ((rest_reads (sheet_of ks fs)
    (good (box (sheet_of ks fs)) (sheet_of ks fs) Any (λ job. Bound (limits (sheet_of ks fs) job)) Nothing
    record { with = λ ask q. record { with = λ job _. step_bound (box (sheet_of ks fs)) (sheet_of ks fs) q job } } (μ (sheet_of ks fs) (binding_rest at))) at).with m)
    (h.settles.with (suc (μ (sheet_of ks fs) (binding_rest at))) (omega arith))
  where
    go : {out : Out (List ℕ)} → Ends (λ end trees records. RestOf trees) Nothing out → out ≡ done p ts rs m' → RestOf ts
    go (ends_done q us rs' n e g) e' = let a : us ≡ ts = cc in record { mark = g.mark; first = g.first; end = g.end; kid = g.kid; looks = sym a ∙ g.looks }
    go (ends_fail cause n e f) e' = let z : ◌≡◌ {A = ℕ} 0 1 = cc in absurd (omega arith)
    go (ends_stuck e) e' = let z : ◌≡◌ {A = ℕ} 0 1 = cc in absurd (omega arith)

-- the rest of an object pattern and its `}`: it has two rows at least, and its argument is a name or not
module _ {ks fs r₀ s₀ m₀ r s m : List ℕ} {at n k : ℕ} {d : Cursor} (g : ClosedTo ks fs r₀ s₀ m₀ r s m (binding_rest at) RCurly n k d) where
  pub rest_rows : n + 2 ≤ d.rows
  rest_rows = two_rows (rw (rest_shape g.comes).looks at g.made.grown)

  module _ {z first : ℕ} {so_far : Forest} (wide : 6 * n ≤ length r₀) (word : Word r (d.rows - 2) 0 z) (t : get_or ks at 0 ≡ Dot3) where
    pub rest_no_name : (z ≡ Row.BindingName → ⊥) → Comes ks fs (binding_properties first at so_far) m₀ (fail (Cause.RestName (at + 1)) m)
    unfolding kids_of first_tree
    rest_no_name v =
        let o = rest_shape g.comes in
        let q = kid_kind wide (rw o.looks at g.made.grown) word in
        Rule.binding_properties_rest_no_name t (rw o.looks at g.comes) g.token (ne_eqb _ _ (λ i. v (q ∙ i)))

    pub rest_named : z ≡ Row.BindingName
        → Comes ks fs (binding_properties first at so_far) m₀ (done (g.end + 1) (one (node Row.BindingObject first first (g.end + 1) (join so_far g.trees))) g.records m)
    unfolding kids_of first_tree
    rest_named v =
        let o = rest_shape g.comes in
        let q : kind_of o.kid ≡ Row.BindingName = sym (kid_kind wide (rw o.looks at g.made.grown) word) ∙ v in
        rw o.looks (Rule.binding_properties_rest t (rw o.looks at g.comes) g.token (rw q))
