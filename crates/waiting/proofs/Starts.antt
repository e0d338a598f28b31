-- `start` and the loop of `assign`: each way out of the one, and each way through the other.
-- Assumes nothing.
use Rattle.std.specs.Prelude.{if◌then◌else◌, Result, Ok, Err}
use Prim.Native.Nat.{ℕ, ◌+◌, ◌-◌, ◌*◌, ◌/◌, ◌≤◌, ◌<◌}
use mathlib.Core.Path.{◌≡◌, refl, sym, ap, subst, ◌∙◌}
use mathlib.Core.Bool.{Bool, true, false, not}
use mathlib.Core.List.{List, [], ◌++◌}
use native.Mathlib.Omega.{arith}
use lib.ListN.{length, get_or, take, drop, length-append, length-drop}
use lib.Seq.{length-take-le, take-append-le}
use Rattle.tokens.specs.Bool.{◌is◌}
use Rattle.tokens.specs.Kind.{Async}
use Rattle.tokens.specs.declared.cause.Cause.{Cause}
use Rattle.rows.specs.Tree.{flats}
use Rattle.rows.specs.Row as Row
use Rattle.grammar.specs.Sheet.{sheet_of}
use Rattle.grammar.specs.Assignment.{is_async_name}
use Rattle.grammar.specs.Job.{Job, assignment, value, binary, unary, head, body}
use Rattle.build.specs.Post.{cursor, Room, Met, MetAfter, MetList, Refused, Leafed}
use Rattle.build.specs.declared.cursor.Cursor.{Cursor}
use Rattle.build.specs.Post.{Step}
use Rattle.build.specs.Post.{Listed}
use Rattle.heads.specs.Heads.{way_at, way_of, arrow_kind}
use Rattle.heads.specs.declared.Way.{Way}
use Rattle.build.proofs.Ends.{is_fail, moved}
use Rattle.heads.specs.declared.Head.{Head}
use Rattle.trees.proofs.Walks.{some_rows}
use Rattle.laws.proofs.Bounds.{bounded}
use Rattle.waiting.proofs.Assign.{Past, assign_arrows, assign_fails}
use Rattle.waiting.proofs.Value.{binary_grouped, binary_refuses, async_stands, value_asyncs, value_refuses}
use Rattle.waiting.specs.Waiting.{Choice, is_operation, floor_of, begun, Whole, all_words, Spare, Comes-all, Outcome, Starts, Opens, Ends, Awaits}
use Rattle.waiting.specs.Post.{spot, GroupAt, BodyFits, WaitsBody, Goes, StartFits, AfterStart}
use Rattle.waiting.specs.Post.{OpenedTo, OperandTo, MetStart}
use Rattle.waiting.specs.declared.Next.{Next}
use Rattle.waiting.specs.declared.Spot.{Spot}
use Rattle.waiting.specs.declared.Start.{Start}
use Rattle.waiting.proofs.Links.{met_from, met_wider, grown_inside, same_first, held_lent, room_below}
use Rattle.waiting.proofs.Groups.{goes_fail, body_awaits}

is_true : (b : Bool) → not b ≡ false → b ≡ true
is_true true e = refl
is_true false e = absurd (cc)

-- where the whole begins
abbrev pub whole_of : List ℕ → List ℕ → List ℕ → Cursor → Whole
whole_of r s m c = record { rows = r; records = s; notes = m; at = c.at; made = c.rows; said = c.records }

pub awaits_first : {ks fs r s m : List ℕ} {c : Cursor} {base : ℕ} → Room ks r s c → base ≡ length r / 6 → Awaits ks fs (whole_of r s m c) m r s base base true c.at c
unfolding Ends all_words
awaits_first {ks} {fs} {r} {s} {m} {c} {base} room e =
    record {
      waiting = [];
      held = record { rows = omega arith; room = omega (arith, e); tail = drop (6 * base) r; text = refl };
      forward = omega arith;
      spare = omega (arith, room, e);
      operand = refl;
      starts = record {
        goes = λ r' s' m' x long a.
            record { refused = λ cause q. a; read = λ d q. subst (λ (y : Step). Met ks fs r s m r' s' m' (assignment c.at) c.rows c.records y) q a };
      };
    }

-- IN THE LOOP: a start is read in the part of the tree below the rows that wait
module _ {ks fs : List ℕ} {all : Whole} {m₀ r₀ s₀ : List ℕ} {base top past : ℕ} {part : Bool} {c : Cursor} (w : Awaits ks fs all m₀ r₀ s₀ base top part past c) where
  pub top_inside : 6 * top ≤ length r₀
  top_inside = let e = w.held.rows in let q = w.held.room in omega arith

  low_long : length (take (6 * top) r₀) ≡ 6 * top
  low_long = length-take-le (6 * top) r₀ top_inside

  rows_below : c.rows ≤ top
  rows_below = omega (arith, w.spare)

  -- as from the whole tree, and over all of it
  whole_met : {r' s' m' : List ℕ} {job : Job} {x : Step} → Met ks fs (take (6 * top) r₀) s₀ m₀ r' s' m' job c.rows c.records x → Met ks fs r₀ s₀ m₀ r' s' m' job c.rows c.records x
  whole_met a = met_from (same_first r₀ c.rows top rows_below) a

  job_as : (b : Bool) → part ≡ b → {r' s' m' : List ℕ} {x : Step} → length s' ≡ length s₀
      → Met ks fs r₀ s₀ m₀ r' s' m' (if b then assignment c.at else binary (floor_of ks w.waiting) c.at) c.rows c.records x
      → Outcome ks fs all (Ends ks fs all base w.waiting) r' s' m' x
  job_as b e {r'} {s'} {m'} {x} l a = w.starts.goes r' s' m' x l (rw e a)

  module _ (low s m : List ℕ) (long : length low ≡ 6 * top) (deep : length s ≡ length s₀) where
    now_long : length (low ++ drop (6 * top) r₀) ≡ length r₀
    now_long = let e = length-append low (drop (6 * top) r₀) in let q = length-drop (6 * top) r₀ in omega (arith, top_inside)

    -- a refusal
    pub start_refused : {cause : Cause} → Refused ks fs (take (6 * top) r₀) s₀ m₀ low s m (if part then assignment c.at else unary c.at) c.rows c.records cause
        → Comes-all ks fs all (low ++ drop (6 * top) r₀) s m (Err cause)
    start_refused {cause} f = go part refl f
      where
        wider : {job : Job} → Refused ks fs (take (6 * top) r₀) s₀ m₀ low s m job c.rows c.records cause → Met ks fs r₀ s₀ m₀ (low ++ drop (6 * top) r₀) s m job c.rows c.records (Err cause)
        wider g = whole_met (met_wider (let e = low_long in omega (arith, rows_below)) (drop (6 * top) r₀) (omega (arith, rows_below, long)) (is_fail refl g))

        go : (b : Bool) → part ≡ b → Refused ks fs (take (6 * top) r₀) s₀ m₀ low s m (if b then assignment c.at else unary c.at) c.rows c.records cause → Comes-all ks fs all (low ++ drop (6 * top) r₀) s m (Err cause)
        go true e g = (job_as true e deep (wider g)).refused cause refl
        go false e g = (job_as false e deep (binary_refuses (room_below w.spare top_inside) (wider g) refl)).refused cause refl

    -- a head
    module _ {d : Cursor} {h : Head} (o : OpenedTo ks fs (take (6 * top) r₀) s₀ m₀ low s m part c.at c.rows c.records d h) where
      opened_spare : Spare ks s top d
      opened_spare = omega (arith, w.spare, o.fits, o.forward, o.more, o.few, o.said, deep)

      pub opened_fits : BodyFits (length (low ++ drop (6 * top) r₀)) (length s) d h top
      opened_fits = omega (arith, opened_spare, o.fits, now_long, top_inside)

      opens : Opens ks fs all (Ends ks fs all base w.waiting) (low ++ drop (6 * top) r₀) s m d h
      opens =
          record {
            goes = λ r' s' m' x l a.
                let below : h.from ≤ top = omega (arith, opened_spare, o.fits) in
                let same : take (6 * h.from) (low ++ drop (6 * top) r₀) ≡ take (6 * h.from) low = take-append-le (6 * h.from) low (drop (6 * top) r₀) (omega (arith, below, long)) in
                let b : MetAfter ks fs low s m r' s' m' (body h.kind h.first d.at) h.from d.rows h.kids d.records x =
                record {
                  over_all = λ trees number g.
                      met_from same (a.over_all trees number record {
                        used = g.used;
                        text =
                            take-append-le (6 * d.rows) low (drop (6 * top) r₀) (grown_inside (omega (arith, below, long)) g)
                            ∙ g.text
                            ∙ ap (λ (l : List ℕ). l ++ flats trees) (sym same);
                      });
                } in
                job_as true o.is_part (l ∙ deep) (whole_met (o.goes r' s' m' x b));
          }

      pub opened_awaits : {r' s' : List ℕ} {x : Result Next Cause} → WaitsBody ks fs (low ++ drop (6 * top) r₀) s d h top r' s' x → length r' ≡ length (low ++ drop (6 * top) r₀) → Goes ks fs all m d.at r' s' base x
      opened_awaits a l =
          body_awaits w.waiting (held_lent low w.held long) (w.operand ∙ ap not o.is_part) opened_spare o.fits o.no_operation o.no_choice opens a l

    -- an operand
    module _ {d : Cursor} (o : OperandTo ks fs (take (6 * top) r₀) s₀ m₀ low s m part c.at c.rows c.records d) where
      read : Met ks fs o.rows₁ o.records₁ o.notes₁ (low ++ drop (6 * top) r₀) s m (unary c.at) c.rows c.records (Ok d)
      read = met_wider (let e = low_long in let f = o.rows_long in omega (arith, rows_below)) (drop (6 * top) r₀) (omega (arith, rows_below, long)) o.read

      spare₁ : Spare ks o.records₁ top c
      spare₁ = omega (arith, w.spare, o.records_long)

      room₁ : 6 * top ≤ length o.rows₁
      room₁ = let e = low_long in let f = o.rows_long in omega arith

      starts₁ : Starts ks fs all (Ends ks fs all base w.waiting) (begun ks w.waiting c.at) o.rows₁ o.records₁ o.notes₁ c
      starts₁ = rw w.operand (go part refl)
        where
          go : (b : Bool) → part ≡ b
              → Starts ks fs all (Ends ks fs all base w.waiting) (if not b then binary (floor_of ks w.waiting) c.at else value c.at) o.rows₁ o.records₁ o.notes₁ c
          go true e = record { goes = λ r' s' m' x l a. job_as true e (l ∙ o.records_long) (whole_met (o.past e r' s' m' x a)) }
          go false e =
              record {
                goes = λ r' s' m' x l a. job_as false e (l ∙ o.records_long) (whole_met (rw (sym (o.rows_same e), sym (o.records_same e), sym (o.notes_same e)) a));
              }

      pub operand_group : GroupAt ks fs all m w.waiting (low ++ drop (6 * top) r₀) s (record { end = d; first = c.at; from = c.rows; top = top }) base
      operand_group =
          record {
            held = held_lent low w.held long;
            linked = record {
              rows₀ = o.rows₁;
              records₀ = o.records₁;
              notes₀ = o.notes₁;
              said₀ = c.records;
              spare = spare₁;
              room = room₁;
              deep = deep ∙ sym o.records_long;
              plain = λ i. o.plain (is_true part (sym w.operand ∙ i));
              grouped = binary_grouped (room_below spare₁ room₁) read refl;
              starts = starts₁;
            };
          }

-- THE WAYS OUT OF `start`
-- what is asked of each is enough
module _ (ks fs r₀ s₀ m₀ r s m : List ℕ) (part : Bool) (at n k : ℕ) where
  abbrev Got : Result Start Cause → Type 0
  Got (Ok (Start.Opened d h)) = OpenedTo ks fs r₀ s₀ m₀ r s m part at n k d h
  Got (Ok (Start.Operand d)) = OperandTo ks fs r₀ s₀ m₀ r s m part at n k d
  Got (Err cause) = Refused ks fs r₀ s₀ m₀ r s m (if part then assignment at else unary at) n k cause

  starts_so : (x : Result Start Cause) → Got x → MetStart ks fs r₀ s₀ m₀ r s m part at n k x
  starts_so x a = record { opened_to = λ d h e. rw e at a; operand_to = λ d e. rw e at a; fail_at = λ cause e. rw e at a }

-- arrows are no operators
arrow_no_operation : (async : Bool) → is_operation (if async then Row.AsyncArrow else Row.Arrow) ≡ false
arrow_no_operation true = refl
arrow_no_operation false = refl

arrow_no_choice : (async : Bool) → (if async then Row.AsyncArrow else Row.Arrow) ≡ Choice → ⊥
arrow_no_choice true e = omega (arith, e)
arrow_no_choice false e = omega (arith, e)

module _ {ks fs r₀ s₀ m₀ : List ℕ} {part : Bool} {c : Cursor} (room : Room ks r₀ s₀ c) where
  -- a head that was read
  pub start_opens : {r s m : List ℕ} {y : Listed} {d : Cursor} {kids : ℕ} {h : Head} (w : Way) → part ≡ true → way_of w ≡ way_at ks fs m₀ c.at → (w ≡ Way.Pass → ⊥)
      → MetList ks fs r₀ s₀ m₀ r s m (head c.at) c.rows c.records y → y ≡ Ok (d, kids)
      → h ≡ record { kind = arrow_kind ks c.at; first = c.at; from = c.rows; kids = kids }
      → MetStart ks fs r₀ s₀ m₀ r s m part c.at c.rows c.records (Ok (Start.Opened d h))
  unfolding arrow_kind
  start_opens {d = d} {kids} {h} w p t i a q e =
      let g = a.list_to _ _ q in
      let b = bounded g.comes.settles in
      let rows = g.made.grown.used in
      let records = g.made.recorded.used in
      let counted = g.counted in
      let some = some_rows g.trees in
      let kind : h.kind ≡ arrow_kind ks c.at = ap (λ (z : Head). z.kind) e in
      starts_so _ _ _ _ _ _ _ _ _ _ _ _ (Ok (Start.Opened _ _)) record {
        is_part = p;
        fits = rw e (omega arith);
        forward = omega arith;
        more = omega arith;
        few = omega arith;
        said = omega arith;
        no_operation = ap is_operation kind ∙ arrow_no_operation (get_or ks c.at 0 is Async);
        no_choice = λ z. arrow_no_choice (get_or ks c.at 0 is Async) (sym kind ∙ z);
        goes = λ r' s' m' x f. assign_arrows w room t i a q e f;
      }

  -- a head that is read for good and fails
  pub start_commits : {r s m : List ℕ} {y : Listed} {cause : Cause} {w : Way} → part ≡ true → way_of w ≡ way_at ks fs m₀ c.at → w ≡ Way.Commit
      → MetList ks fs r₀ s₀ m₀ r s m (head c.at) c.rows c.records y → y ≡ Err cause
      → MetStart ks fs r₀ s₀ m₀ r s m part c.at c.rows c.records (Err cause)
  start_commits {r} {s} {m} {cause = cause} p t e a q =
      starts_so _ _ _ _ _ _ _ _ _ _ _ _ (Err _) (subst (λ (b : Bool). Refused ks fs r₀ s₀ m₀ r s m (if b then assignment c.at else unary c.at) c.rows c.records cause) (sym p) ((assign_fails t e a q).fail_at _ refl))

  -- Async and a name before `=>`, past a head
  pub start_asyncs : {r₁ s₁ m₁ r : List ℕ} {k : ℕ} {b : Bool} {d : Cursor} {h : Head} → part ≡ true → Past ks fs r₀ s₀ m₀ r₁ s₁ m₁ k c → b ≡ is_async_name (sheet_of ks fs) c.at → b ≡ true
      → Leafed r₁ (cursor (c.at + 1) c.rows k) Row.BindingName r d → h ≡ record { kind = Row.AsyncArrow; first = c.at; from = c.rows; kids = 1 }
      → MetStart ks fs r₀ s₀ m₀ r s₁ m₁ part c.at c.rows c.records (Ok (Start.Opened d h))
  start_asyncs {r₁} {s₁} {m₁} {r} {k} {b} {d} {h} p past i j top e =
      let stands = async_stands ks fs c.at i j in
      let place = ap (λ (z : Cursor). z.at) top.is in
      let rows = ap (λ (z : Cursor). z.rows) top.is in
      let records = ap (λ (z : Cursor). z.records) top.is in
      let here : Room ks r₁ s₁ (cursor c.at c.rows k) =
      omega (arith, room, past.long, past.deep, past.same) in
      let first = ap (λ (z : Head). z.first) e in
      let from = ap (λ (z : Head). z.from) e in
      let kids = ap (λ (z : Head). z.kids) e in
      let kind = ap (λ (z : Head). z.kind) e in
      starts_so _ _ _ _ _ _ _ _ _ _ _ _ (Ok (Start.Opened _ _)) record {
        is_part = p;
        fits = omega (arith, stands, place, first, rows, from, kids);
        forward = omega (arith, place);
        more = omega (arith, rows);
        few = omega (arith, place, rows);
        said = omega (arith, place, records, past.same);
        no_operation = ap is_operation kind;
        no_choice = λ z. omega (arith, kind, z);
        goes = λ r' s' m' x f.
            past.goes r' s' m' x
            (value_asyncs here i j top (rw e at f));
      }

-- where an operand starts: past a head, or where none could be
pub record Passed (ks fs r₀ s₀ m₀ r₁ s₁ m₁ : List ℕ) (part : Bool) (k : ℕ) (c : Cursor) : Type 0 where
  pub long : length r₁ ≡ length r₀
  pub deep : length s₁ ≡ length s₀
  pub same : k ≡ c.records
  pub plain : part ≡ true → is_async_name (sheet_of ks fs) c.at ≡ false
  pub past : part ≡ true → (r s m : List ℕ) (x : Step) → Met ks fs r₁ s₁ m₁ r s m (value c.at) c.rows c.records x → Met ks fs r₀ s₀ m₀ r s m (assignment c.at) c.rows c.records x
  pub rows_same : part ≡ false → r₁ ≡ r₀
  pub records_same : part ≡ false → s₁ ≡ s₀
  pub notes_same : part ≡ false → m₁ ≡ m₀

module _ {ks fs r₀ s₀ m₀ r₁ s₁ m₁ : List ℕ} {part : Bool} {k : ℕ} {c : Cursor} where
  pub passed_part : {r₂ s₂ m₂ : List ℕ} {k₂ : ℕ} {b : Bool} → part ≡ true → Past ks fs r₀ s₀ m₀ r₂ s₂ m₂ k₂ c → b ≡ is_async_name (sheet_of ks fs) c.at → b ≡ false
      → r₁ ≡ r₂ → s₁ ≡ s₂ → m₁ ≡ m₂ → k ≡ k₂ → Passed ks fs r₀ s₀ m₀ r₁ s₁ m₁ part k c
  passed_part p past i j e f g h =
      record {
        long = ap length e ∙ past.long;
        deep = ap length f ∙ past.deep;
        same = h ∙ past.same;
        plain = λ z. sym i ∙ j;
        past = λ z r s m x a. past.goes r s m x (rw (sym e, sym f, sym g, past.same) a);
        rows_same = λ z. absurd (cc);
        records_same = λ z. absurd (cc);
        notes_same = λ z. absurd (cc);
      }

  pub passed_operand : part ≡ false → r₁ ≡ r₀ → s₁ ≡ s₀ → m₁ ≡ m₀ → k ≡ c.records → Passed ks fs r₀ s₀ m₀ r₁ s₁ m₁ part k c
  passed_operand p e f g h =
      record {
        long = ap length e;
        deep = ap length f;
        same = h;
        plain = λ z. absurd (cc);
        past = λ z. absurd (cc);
        rows_same = λ z. e;
        records_same = λ z. f;
        notes_same = λ z. g;
      }

-- the same, with all named
pub passed_as : (ks fs r₀ s₀ m₀ r₁ s₁ m₁ : List ℕ) (part : Bool) (k : ℕ) (c : Cursor) → Passed ks fs r₀ s₀ m₀ r₁ s₁ m₁ part k c → Passed ks fs r₀ s₀ m₀ r₁ s₁ m₁ part k c
passed_as ks fs r₀ s₀ m₀ r₁ s₁ m₁ part k c p = p

module _ {ks fs r₀ s₀ m₀ r₁ s₁ m₁ : List ℕ} {part : Bool} {k : ℕ} {c : Cursor} (room : Room ks r₀ s₀ c) (p : Passed ks fs r₀ s₀ m₀ r₁ s₁ m₁ part k c) {r s m : List ℕ} {x : Step}
    (a : Met ks fs r₁ s₁ m₁ r s m (unary c.at) c.rows k x) where
  operand_met : Met ks fs r₁ s₁ m₁ r s m (unary c.at) c.rows c.records x
  operand_met = subst (λ (i : ℕ). Met ks fs r₁ s₁ m₁ r s m (unary c.at) c.rows i x) p.same a

  pub start_operand : {d : Cursor} → x ≡ Ok d → MetStart ks fs r₀ s₀ m₀ r s m part c.at c.rows c.records (Ok (Start.Operand d))
  start_operand {d} e =
      starts_so _ _ _ _ _ _ _ _ _ _ _ _ (Ok (Start.Operand _)) record {
        rows₁ = r₁;
        records₁ = s₁;
        notes₁ = m₁;
        rows_long = p.long;
        records_long = p.deep;
        plain = p.plain;
        past = p.past;
        rows_same = p.rows_same;
        records_same = p.records_same;
        notes_same = p.notes_same;
        read = subst (λ (y : Step). Met ks fs r₁ s₁ m₁ r s m (unary c.at) c.rows c.records y) e operand_met;
      }

  pub start_fails : {cause : Cause} → x ≡ Err cause → MetStart ks fs r₀ s₀ m₀ r s m part c.at c.rows c.records (Err cause)
  start_fails {cause} e = starts_so _ _ _ _ _ _ _ _ _ _ _ _ (Err cause) (go part refl)
    where
      failed : Met ks fs r₁ s₁ m₁ r s m (unary c.at) c.rows c.records (Err cause)
      failed = subst (λ (y : Step). Met ks fs r₁ s₁ m₁ r s m (unary c.at) c.rows c.records y) e operand_met

      here : Room ks r₁ s₁ c
      here = omega (arith, room, p.long, p.deep)

      go : (b : Bool) → part ≡ b → Refused ks fs r₀ s₀ m₀ r s m (if b then assignment c.at else unary c.at) c.rows c.records cause
      go true q = (p.past q r s m _ (value_refuses here refl (p.plain q) (binary_refuses here failed refl) refl)).fail_at _ refl
      go false q = rw (sym (p.rows_same q), sym (p.records_same q), sym (p.notes_same q)) (failed.fail_at _ refl)

-- THE LOOP OF `assign`
-- what waits now, from where it began
pub record Looping (ks fs r₀ s₀ m₀ : List ℕ) (b : Cursor) (base : ℕ) (r s m : List ℕ) (n : Spot) : Type 0 where
  pub rows_long : length r ≡ length r₀
  pub records_long : length s ≡ length s₀
  pub awaits : Awaits ks fs (whole_of r₀ s₀ m₀ b) m r s base n.top n.part b.at n.here

pub looping_starts : {ks fs r s m : List ℕ} {b : Cursor} {base : ℕ} → Room ks r s b → base ≡ length r / 6 → Looping ks fs r s m b base r s m (spot b base true)
looping_starts room e = record { rows_long = refl; records_long = refl; awaits = awaits_first room e }

-- a start was read, and what waits and what is next
pub record Stepped (ks fs : List ℕ) (all : Whole) (m : List ℕ) (at row_words record_words : ℕ) (r s : List ℕ) (base : ℕ) (x : Result Next Cause) : Type 0 where
  pub rows_long : length r ≡ row_words
  pub records_long : length s ≡ record_words
  pub place : ℕ
  pub forward : at < place
  pub goes : Goes ks fs all m place r s base x

module _ {ks fs r₀ s₀ m₀ : List ℕ} {b : Cursor} {base : ℕ} {r s m : List ℕ} {n : Spot} (w : Looping ks fs r₀ s₀ m₀ b base r s m n)
    (low s₁ m₁ : List ℕ) (long : length low ≡ 6 * n.top) (deep : length s₁ ≡ length s) {got : Result Start Cause}
    (a : MetStart ks fs (take (6 * n.top) r) s m low s₁ m₁ n.part n.here.at n.here.rows n.here.records got) where
  all_long : length (low ++ drop (6 * n.top) r) ≡ length r₀
  all_long = let e = length-append low (drop (6 * n.top) r) in let q = length-drop (6 * n.top) r in omega (arith, top_inside w.awaits, w.rows_long, long)

  pub start_fits : StartFits ks fs (low ++ drop (6 * n.top) r) s₁ got n base
  start_fits =
      record {
        opened = λ d h e. opened_fits w.awaits low s₁ m₁ long deep (a.opened_to d h e);
        operand = λ d e.
            record { all = whole_of r₀ s₀ m₀ b; m = m₁; ws = w.awaits.waiting; at = operand_group w.awaits low s₁ m₁ long deep (a.operand_to d e) };
      }

  pub stepped : {r' s' : List ℕ} {x : Result Next Cause} → AfterStart ks fs (low ++ drop (6 * n.top) r) s₁ got n base r' s' x → length r' ≡ length (low ++ drop (6 * n.top) r) → length s' ≡ length s₁
      → Stepped ks fs (whole_of r₀ s₀ m₀ b) m₁ n.here.at (length r₀) (length s₀) r' s' base x
  stepped {r'} {s'} {x} f l l' = go got refl
    where
      at_place : (place : ℕ) → n.here.at < place → Goes ks fs (whole_of r₀ s₀ m₀ b) m₁ place r' s' base x → Stepped ks fs (whole_of r₀ s₀ m₀ b) m₁ n.here.at (length r₀) (length s₀) r' s' base x
      at_place place h g = record { rows_long = l ∙ all_long; records_long = l' ∙ deep ∙ w.records_long; place = place; forward = h; goes = g }

      go : (y : Result Start Cause) → got ≡ y → Stepped ks fs (whole_of r₀ s₀ m₀ b) m₁ n.here.at (length r₀) (length s₀) r' s' base x
      go (Ok (Start.Opened d h)) e =
          let o = a.opened_to d h e in
          at_place d.at o.forward (opened_awaits w.awaits low s₁ m₁ long deep o (f.opened d h e) l)
      go (Ok (Start.Operand d)) e =
          let o = a.operand_to d e in
          let v = moved _ (o.read.done_to d refl) refl in
          at_place d.at v.forward ((f.operand d e).goes (whole_of r₀ s₀ m₀ b) m₁ w.awaits.waiting (operand_group w.awaits low s₁ m₁ long deep o))
      go (Err cause) e =
          let q = f.failed cause e in
          at_place (n.here.at + 1) (omega arith) (goes_fail q.gives (rw (q.rows_same, q.records_same) (start_refused w.awaits low s₁ m₁ long deep (a.fail_at cause e))))

awaits_from : {ks fs : List ℕ} {all : Whole} {m r s : List ℕ} {base top past past' : ℕ} {part : Bool} {c : Cursor} → past' ≤ past → Awaits ks fs all m r s base top part past c
    → Awaits ks fs all m r s base top part past' c
awaits_from h w = record { waiting = w.waiting; held = w.held; forward = omega (arith, h, w.forward); spare = w.spare; operand = w.operand; starts = w.starts }

module _ {ks fs r₀ s₀ m₀ : List ℕ} {b : Cursor} {base : ℕ} {r s m : List ℕ} {n : Spot} (w : Looping ks fs r₀ s₀ m₀ b base r s m n)
    {r' s' m' : List ℕ} {x : Result Next Cause} (p : Stepped ks fs (whole_of r₀ s₀ m₀ b) m' n.here.at (length r₀) (length s₀) r' s' base x) {t : Spot} (e : x ≡ Ok (Next.Read t)) where
  pub looping_again : Looping ks fs r₀ s₀ m₀ b base r' s' m' t
  looping_again = record { rows_long = p.rows_long; records_long = p.records_long; awaits = awaits_from (omega (arith, p.forward, w.awaits.forward)) (p.goes.reads t e) }

  pub looping_less : length ks - t.here.at < length ks - n.here.at
  looping_less = let a = p.goes.reads t e in omega (arith, p.forward, a.forward, a.spare)
