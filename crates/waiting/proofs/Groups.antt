-- The functions of this crate. Those on one row that waits, in plain terms: what the calls and tests on the way gave, and what the contract asks. `finish_parts`: what waits for
-- a part is made one after the other. `after_binary` and `follow`: from a group that was read to what is read next.
-- Assumes nothing.
use Rattle.std.specs.Prelude.{if◌then◌else◌, Result, Ok, Err}
use Prim.Native.Nat.{ℕ, ◌+◌, ◌-◌, ◌*◌, ◌≤◌, ◌<◌}
use mathlib.Core.Path.{◌≡◌, refl, sym, ap, subst, ◌∙◌}
use mathlib.Core.Bool.{Bool, false, true}
use mathlib.Core.List.{List, [], ◌∷◌}
use native.Mathlib.Omega.{arith}
use lib.ListN.{length, get_or, take, drop, set, length-append, length-drop}
use lib.Seq.{drop-set-add, take-set-le, length-take-le, take-append-le}
use Rattle.tokens.specs.Kind.{Colon, LCurly, Arrow, Eq, Question, Question2, Amp2}
use Rattle.tokens.proofs.Stands.{stands_not}
use Rattle.tokens.specs.declared.cause.Cause.{Cause}
use Rattle.build.specs.Post.{Topped, HeadFits, Operand}
use Rattle.build.specs.declared.cursor.Cursor.{Cursor}
use lib.Dec.{leb, ltb}
use borrow.Author.Tests.{lt-ltb, eq-eqb, eqb-true, eqb-false, le-leb, leb-true, leb-false, ltb-true}
use Rattle.tokens.specs.Bool.{◌is◌, between}
use Rattle.rows.specs.Post.{Pushed}
use Rattle.targets.specs.Outcome.{Conversion}
use Rattle.grammar.specs.Binary.{operation_kind, right_floor}
use Rattle.heads.specs.declared.Head.{Head}
use Rattle.build.specs.Operation.{Finished}
use native.Mathlib.Decide.{ℕ_discrete}
use Rattle.operators.specs.Precedence.{expression_level}
use Rattle.grammar.specs.Assignment.{is_assignment_operator}
use Rattle.laws.proofs.Good.{and_left, and_right}
use Rattle.rows.specs.Row as Row
use Rattle.waiting.specs.Waiting.{Waiting, operation, part, choice, Choice, is_operation, all_words, Whole, Comes-all, Ends, Awaits, kind_for, Breaks, awaits_operand, floor_of, Held, Spare, Opens, Linked}
use Rattle.waiting.specs.Post.{word, LastPartFits, PartAt, Otherwise, Goes, spot, ends_operand, FinishedOperation, WaitsOperand, WaitsRight, WaitsBody, opens_body, Followed, OperationFits, WaitFits, WaitsChoice, NameBody, GroupAt, PartEnding, PartEnded, Grouping, Level, FollowedLevel}
use Rattle.waiting.specs.declared.Next.{Next}
use Rattle.waiting.specs.declared.Spot.{Spot}
use Rattle.waiting.proofs.Links.{held_word, held_kind, held_next, held_below, held_some, held_none, starts_from, pushed_kept, same_first, finished_wider, held_lent, held_waits, held_inside, linked_spare, operand_ends, waits_operand, operand, part_ends, no_name_ends, waits_choice, right_refused, right_spare, waits_right, no_operation, no_choice, name_opens, body_refuses, body_spare, waits_body}
use Rattle.waiting.specs.declared.Group.{Group}
use Rattle.waiting.proofs.Value.{operator_stands, assignment_stands}

-- `wait_body`: past an arrow's `=>`
pub body_goes : {ks fs r s r' s' : List ℕ} {d c : Cursor} {h : Head} {top : ℕ} {x : Result Next Cause} → get_or ks (d.at + 1) 0 is LCurly ≡ false
    → x ≡ Ok (Next.Read (spot c (top - 1) true)) → Breaks fs s d s' c → Pushed r (top - 1) h.kind d.at h.first 0 (h.kids + 1) h.from r' → WaitsBody ks fs r s d h top r' s' x
body_goes {c = c} t e p q = record { block = λ z. absurd (eqb-false _ _ t z); waits = λ z. record { c = c; gives = e; breaks = p; pushed = q } }

-- THE ROWS THAT WAIT FOR A PART
-- what is asked of each is enough
module _ (ks fs : List ℕ) (all : Whole) (m r s : List ℕ) (at base : ℕ) where
  abbrev Then : Result Next Cause → Type 0
  Then (Ok (Next.Read n)) = Awaits ks fs all m r s base n.top n.part (at + 1) n.here
  Then (Ok (Next.Ended c)) = Comes-all ks fs all r s m (Ok c)
  Then (Err cause) = Comes-all ks fs all r s m (Err cause)

  goes : (x : Result Next Cause) → Then x → Goes ks fs all m at r s base x
  goes x a = record { reads = λ n e. rw e at a; ended = λ d e. rw e at a; refused = λ cause e. rw e at a }

module _ {ks fs : List ℕ} {all : Whole} {m r s : List ℕ} {at base : ℕ} {x : Result Next Cause} where
  pub goes_reads : {n : Spot} → x ≡ Ok (Next.Read n) → Awaits ks fs all m r s base n.top n.part (at + 1) n.here → Goes ks fs all m at r s base x
  goes_reads {n} e a = rw e (goes ks fs all m r s at base (Ok (Next.Read n)) a)

  pub goes_fail : {cause : Cause} → x ≡ Err cause → Comes-all ks fs all r s m (Err cause) → Goes ks fs all m at r s base x
  goes_fail {cause} e a = rw e (goes ks fs all m r s at base (Err cause) a)

-- the place by an equation
pub goes_at : {ks fs : List ℕ} {all : Whole} {m r s : List ℕ} {at at' base : ℕ} {x : Result Next Cause} → at ≡ at' → Goes ks fs all m at r s base x → Goes ks fs all m at' r s base x
goes_at {ks} {fs} {all} {m} {r} {s} {base = base} {x} e h = subst (λ (i : ℕ). Goes ks fs all m i r s base x) e h

-- THE LOOP
-- what waits now
pub record Parts (ks fs : List ℕ) (all : Whole) (m r s : List ℕ) (c : Cursor) (top base : ℕ) : Type 0 where
  pub ws : List Waiting
  pub at : PartAt ks fs all m ws r s c top base

-- from where it began
pub record Finishing (ks r₀ : List ℕ) (d : Cursor) (waiting base : ℕ) (r : List ℕ) (c : Cursor) (top : ℕ) : Type 0 where
  pub long : length r ≡ length r₀
  pub place : c.at ≡ d.at
  pub goes : (fs : List ℕ) (all : Whole) (m s : List ℕ) (ws : List Waiting) → PartAt ks fs all m ws r₀ s d waiting base → Parts ks fs all m r s c top base

-- the first_part, by its kind: it lacks its last part only, or is a Conditional before its `:`
data First (ks fs : List ℕ) (all : Whole) (m r s : List ℕ) (c : Cursor) (top base : ℕ) : Type 0 where
  a_part : (kind mark first kids from : ℕ) (i : is_operation kind ≡ false) (j : kind ≡ Choice → ⊥) (ws : List Waiting)
      → PartAt ks fs all m (part kind mark first kids from i j ∷ ws) r s c top base → (get_or r (6 * top) 0 ≡ Choice → ⊥) → First ks fs all m r s c top base
  a_choice : (mark first from : ℕ) (ws : List Waiting) → PartAt ks fs all m (choice mark first from ∷ ws) r s c top base → get_or r (6 * top) 0 ≡ Choice → First ks fs all m r s c top base

module _ {ks fs : List ℕ} {all : Whole} {m r s : List ℕ} {c : Cursor} {top base : ℕ} where
  -- nothing waits: the whole is read
  parts_end : Parts ks fs all m r s c top base → base ≤ top → Goes ks fs all m c.at r s base (Ok (Next.Ended c))
  unfolding Ends
  parts_end p le = go p.ws p.at
    where
      go : (ws : List Waiting) → PartAt ks fs all m ws r s c top base → Goes ks fs all m c.at r s base (Ok (Next.Ended c))
      go [] a = goes ks fs all m r s c.at base (Ok (Next.Ended c)) a.ends
      go (w ∷ ws) a = absurd (held_none a.held le)

  module _ (p : Parts ks fs all m r s c top base) (lt : top < base) where
    first_part : First ks fs all m r s c top base
    first_part = go p.ws p.at
      where
        go : (ws : List Waiting) → PartAt ks fs all m ws r s c top base → First ks fs all m r s c top base
        go [] a = absurd (held_some a.held lt)
        go (operation mark first left from ∷ ws) a = let e = a.no_operand in absurd (cc)
        go (part kind mark first kids from i j ∷ ws) a = a_part kind mark first kids from i j ws a (λ e. j (sym (held_kind a.held) ∙ e))
        go (choice mark first from ∷ ws) a = a_choice mark first from ws a (held_kind a.held)

    -- a row that lacks its last part only is made
    module _ (other : get_or r (6 * top) 0 ≡ Choice → ⊥) where
      parts_fit : LastPartFits r c top
      unfolding Ends
      parts_fit = go first_part
        where
          go : First ks fs all m r s c top base → LastPartFits r c top
          go (a_choice mark first from ws a e) = absurd (other e)
          go (a_part kind mark first kids from i j ws a _) =
              let h = a.held in
              omega (arith, h.rows, h.room, a.ends.fits, held_word h 1, held_word h 2, held_word h 4, held_word h 5)

      parts_made : {r' : List ℕ} {u : Cursor} → Topped r c (get_or r (6 * top) 0) (word r top 1) (word r top 2) c.at (word r top 4) (word r top 5) r' u → length r' ≡ length r
          → Parts ks fs all m r' s u (top + 1) base
      unfolding Ends
      parts_made {r'} {u} t long = go first_part
        where
          go : First ks fs all m r s c top base → Parts ks fs all m r' s u (top + 1) base
          go (a_choice mark first from ws a e) = absurd (other e)
          go (a_part kind mark first kids from i j ws a _) =
              let h = a.held in
              let e = a.ends in
              let rows = h.rows in
              let made : Topped r c kind mark first c.at kids from r' u = rw (sym (held_kind h), sym (held_word h 1), sym (held_word h 2), sym (held_word h 4), sym (held_word h 5)) t in
              record {
                ws = ws;
                at = record {
                  held = held_below (held_next (part kind mark first kids from i j) h) (omega (arith, e.fits.row.room)) made.pushed long;
                  no_operand = e.no_operand;
                  ends = e.made r' u made;
                };
              }

    -- a Conditional waits for its `:`
    module _ (is_choice : get_or r (6 * top) 0 ≡ Choice) where
      parts_choice_place : c.at ≤ 2048
      unfolding Ends
      parts_choice_place = go first_part
        where
          go : First ks fs all m r s c top base → c.at ≤ 2048
          go (a_part _ _ _ _ _ _ _ ws a other) = absurd (other is_choice)
          go (a_choice mark first from ws a e) = omega (arith, a.ends.spare)

      parts_choice : {r' : List ℕ} {x : Result Next Cause} → Otherwise ks r c top r' x → length r' ≡ length r → Goes ks fs all m c.at r' s base x
      unfolding Ends all_words
      parts_choice {r'} {x} o long = go first_part (ℕ_discrete (get_or ks c.at 0) Colon)
        where
          at_colon : (mark first from : ℕ) (ws : List Waiting) → PartAt ks fs all m (choice mark first from ∷ ws) r s c top base → get_or ks c.at 0 ≡ Colon → Goes ks fs all m c.at r' s base x
          at_colon mark first from ws a e =
              let q = o.colon e in
              let h = a.held in
              let rows = h.rows in
              let room = h.room in
              let spare = a.ends.spare in
              let stands : c.at < length ks = stands_not ks c.at (λ z. let y : ◌≡◌ {A = ℕ} Colon 0 = sym e ∙ z in omega arith) in
              let zero : 6 * top ≡ 6 * top + 0 = omega arith in
              goes_reads q.gives record {
                waiting = part Row.Conditional mark first 3 from refl (λ z. omega (arith, z)) ∷ ws;
                held = record {
                  rows = h.rows;
                  room = omega (arith, room, long);
                  tail = h.tail;
                  text =
                      ap (drop (6 * top)) (q.set.text ∙ ap (λ (i : ℕ). set r i Row.Conditional) zero)
                      ∙ drop-set-add (6 * top) r 0 Row.Conditional
                      ∙ ap (λ (l : List ℕ). set l 0 Row.Conditional) h.text;
                };
                forward = omega arith;
                spare = omega (arith, spare, rows, stands);
                operand = refl;
                starts = starts_from (ap (take (6 * c.rows)) q.set.text ∙ take-set-le (6 * c.rows) r (6 * top) Row.Conditional (omega (arith, spare, stands, rows))) (a.ends.colon e);
              }

          go : First ks fs all m r s c top base → Dec (get_or ks c.at 0 ≡ Colon) → Goes ks fs all m c.at r' s base x
          go (a_part _ _ _ _ _ _ _ ws a other) _ = absurd (other is_choice)
          go (a_choice mark first from ws a _) (yes e) = at_colon mark first from ws a e
          go (a_choice mark first from ws a _) (no e) = let q = o.no_colon e in goes_fail q.gives (rw q.same (a.ends.no_colon e))

-- each turn of the loop, and each way out of it
module _ {ks r₀ : List ℕ} {d : Cursor} {waiting base : ℕ} {r : List ℕ} {c : Cursor} {top : ℕ} (w : Finishing ks r₀ d waiting base r c top) where
  parts_now : (e : PartEnding ks r₀ d waiting base) → Parts ks e.fs e.all e.m r e.s c top base
  parts_now e = w.goes e.fs e.all e.m e.s e.ws e.at

  pub finishing_fits : PartEnding ks r₀ d waiting base → top < base → (get_or r (6 * top) 0 ≡ Choice → ⊥) → LastPartFits r c top
  finishing_fits e lt other = parts_fit (parts_now e) lt other

  pub finishing_place : PartEnding ks r₀ d waiting base → top < base → get_or r (6 * top) 0 ≡ Choice → c.at ≤ 2048
  finishing_place e lt i = parts_choice_place (parts_now e) lt i

  pub finishing_made : {r' : List ℕ} {u : Cursor} → top < base → (get_or r (6 * top) 0 ≡ Choice → ⊥)
      → Topped r c (get_or r (6 * top) 0) (word r top 1) (word r top 2) c.at (word r top 4) (word r top 5) r' u → length r' ≡ length r → Finishing ks r₀ d waiting base r' u (top + 1)
  finishing_made lt other t l =
      record {
        long = l ∙ w.long;
        place = ap (λ (x : Cursor). x.at) t.is ∙ w.place;
        goes = λ fs all m s ws p. parts_made (w.goes fs all m s ws p) lt other t l;
      }

  pub finishing_stops : {r' : List ℕ} {x : Result Next Cause} → top < base → get_or r (6 * top) 0 ≡ Choice → Otherwise ks r c top r' x → length r' ≡ length r
      → PartEnded ks r₀ d waiting base r' x
  finishing_stops lt i o l = record { goes = λ fs all m s ws p. goes_at w.place (parts_choice (w.goes fs all m s ws p) lt i o l) }

  pub finishing_ends : base ≤ top → PartEnded ks r₀ d waiting base r (Ok (Next.Ended c))
  finishing_ends le = record { goes = λ fs all m s ws p. goes_at w.place (parts_end (w.goes fs all m s ws p) le) }

-- AN ARROW'S BODY, from its `=>` on
pub body_awaits : {ks fs : List ℕ} {all : Whole} {base : ℕ} (ws : List Waiting) {top : ℕ} {r s m : List ℕ} {d : Cursor} {h : Head} {r' s' : List ℕ} {x : Result Next Cause}
    → Held ks r top base ws → awaits_operand ws ≡ false → Spare ks s top d → HeadFits ks d h → is_operation h.kind ≡ false → (h.kind ≡ Choice → ⊥)
    → Opens ks fs all (Ends ks fs all base ws) r s m d h → WaitsBody ks fs r s d h top r' s' x → length r' ≡ length r → Goes ks fs all m d.at r' s' base x
body_awaits {ks} {fs} {all} {base} ws {top} {r} {s} {m} {d} {h} {r'} {s'} {x} held i p f a z o w long = by (ℕ_discrete (get_or ks (d.at + 1) 0) LCurly)
  where
    wide : 6 * top ≤ length r
    wide = let e = held.rows in let q = held.room in omega arith

    by : Dec (get_or ks (d.at + 1) 0 ≡ LCurly) → Goes ks fs all m d.at r' s' base x
    by (yes e) = let q = w.block e in goes_fail q.gives (rw (q.rows_same, q.records_same) (body_refuses ws held.rows i p wide f o refl e))
    by (no e) =
        let q = w.waits e in
        let b = q.breaks in
        let some : 1 ≤ top = omega (arith, p, f) in
        goes_reads q.gives record {
          waiting = part h.kind d.at h.first (h.kids + 1) h.from a z ∷ ws;
          held = held_waits held (omega (arith, some)) q.pushed long refl;
          forward = omega (arith, b.at);
          spare = body_spare ws held.rows i p wide f o refl e b a z;
          operand = refl;
          starts = starts_from (pushed_kept q.c.rows (omega (arith, p, f, b)) (omega (arith, wide)) q.pushed) (waits_body ws held.rows i p wide f o refl e b a z);
        }

module _ {ks fs : List ℕ} {all : Whole} {m : List ℕ} {r s : List ℕ} {g : Group} {base : ℕ} where
  -- what is known of the place where a group ends
  module _ (ws : List Waiting) (a : GroupAt ks fs all m ws r s g base) where
    abbrev spare : Spare ks s g.top g.end
    spare = linked_spare a.held.rows a.linked

    group_wide : 6 * g.top ≤ length r
    group_wide = let e = a.held.rows in let q = a.held.room in omega arith

    group_fits : WaitFits (length r) g
    group_fits = omega (arith, spare, a.linked.grouped, group_wide)

    group_some : 1 ≤ g.end.rows
    group_some = omega (arith, a.linked.grouped)

    group_from : g.from < g.top
    group_from = omega (arith, spare, a.linked.grouped)

    -- an operator waits
    operand_awaits : {above : ℕ} {r' : List ℕ} {x : Result Next Cause} → above ≡ expression_level (get_or ks g.end.at 0) → floor_of ks ws < above → WaitsOperand ks r g r' x → length r' ≡ length r
        → Goes ks fs all m g.end.at r' s base x
    operand_awaits v lt w long =
        let p = spare in
        let fit = group_fits in
        let h = waits_operand a.held.rows a.linked refl v lt in
        let n = operator_stands ks refl v lt in
        goes_reads w.gives record {
          waiting = operation g.end.at g.first g.end.rows g.from ∷ ws;
          held = held_waits a.held (omega (arith, fit.some)) w.pushed long refl;
          forward = omega arith;
          spare = omega (arith, p, n, fit.some);
          operand = refl;
          starts = starts_from (pushed_kept g.end.rows (omega (arith, p, n)) (omega (arith, fit.inside)) w.pushed) h;
        }

    -- WHERE THE BINARY LEVEL ENDS
    module _ (i : awaits_operand ws ≡ false) (none : expression_level (get_or ks g.end.at 0) ≡ 0) where
      pub choice_awaits : {r' : List ℕ} {x : Result Next Cause} → get_or ks g.end.at 0 ≡ Question → WaitsChoice r g r' x → length r' ≡ length r → Goes ks fs all m g.end.at r' s base x
      choice_awaits q w long =
          let p = spare in
          let fit = group_fits in
          let n = stands_not ks g.end.at (λ z. let y : ◌≡◌ {A = ℕ} Question 0 = sym q ∙ z in omega arith) in
          goes_reads w.gives record {
            waiting = choice g.end.at g.first g.from ∷ ws;
            held = held_waits a.held (omega (arith, fit.some)) w.pushed long refl;
            forward = omega arith;
            spare = omega (arith, p, n, fit.some);
            operand = refl;
            starts =
                starts_from (pushed_kept g.end.rows (omega (arith, p, n)) (omega (arith, fit.inside)) w.pushed)
                (waits_choice a.held.rows a.linked i refl refl none r refl group_wide q);
          }

      -- nothing follows
      pub part_at : opens_body ks r g ≡ false → is_assignment_operator (get_or ks g.end.at 0) ≡ false → (get_or ks g.end.at 0 ≡ Question → ⊥) → PartAt ks fs all m ws r s g.end g.top base
      part_at no_name no_operator q = record { held = a.held; no_operand = i; ends = by (ℕ_discrete (get_or ks g.end.at 0) Arrow) }
        where
          other : get_or ks g.end.at 0 ≡ Arrow → word r (g.end.rows - 1) 0 ≡ Row.Identifier → ⊥
          other e f =
              let y : ◌≡◌ {A = Bool} true false = sym (rw (eq-eqb (get_or ks g.end.at 0) Arrow e, eq-eqb (word r (g.end.rows - 1) 0) Row.Identifier f)) ∙ no_name in
              cc

          by : Dec (get_or ks g.end.at 0 ≡ Arrow) → Ends ks fs all base ws r s m g.end
          by (yes e) = no_name_ends a.held.rows a.linked i refl refl none r refl group_wide e record { is = refl } (other e)
          by (no e) = part_ends a.held.rows a.linked i refl refl none r refl group_wide refl no_operator q e

      -- the arrow of one name
      pub name_awaits : {r' s' : List ℕ} {x : Result Next Cause} → opens_body ks r g ≡ true → NameBody ks fs r s g r' s' x → length r' ≡ length r → Goes ks fs all m g.end.at r' s' base x
      name_awaits both w long =
          let arrow : get_or ks g.end.at 0 ≡ Arrow = eqb-true _ _ (and_left (get_or ks g.end.at 0 is Arrow) (word r (g.end.rows - 1) 0 is Row.Identifier) both) in
          let name : word r (g.end.rows - 1) 0 ≡ Row.Identifier = eqb-true _ _ (and_right (get_or ks g.end.at 0 is Arrow) (word r (g.end.rows - 1) 0 is Row.Identifier) both) in
          let n = stands_not ks g.end.at (λ z. let y : ◌≡◌ {A = ℕ} Arrow 0 = sym arrow ∙ z in omega arith) in
          let p = spare in
          let q = a.linked.grouped in
          let rows = ap (λ (c : Cursor). c.rows) w.leafed.is in
          let records = ap (λ (c : Cursor). c.records) w.leafed.is in
          body_awaits ws (held_below a.held group_from w.leafed.pushed w.long) i
          (omega (arith, p, q, rows, records)) (omega (arith, n, q, rows)) refl (λ z. omega (arith, z))
          (name_opens a.held.rows a.linked i refl refl none r refl group_wide arrow record { is = refl } name w.leafed refl) w.waits (long ∙ sym w.long)

      -- an assignment
      -- the part of the tree below the rows that wait
      low_same : take (6 * g.end.rows) (take (6 * g.top) r) ≡ take (6 * g.end.rows) r
      low_same = same_first r g.end.rows g.top (omega (arith, spare))

      low_wide : 6 * g.top ≤ length (take (6 * g.top) r)
      low_wide = let e = length-take-le (6 * g.top) r group_wide in omega arith

      module _ (e : is_assignment_operator (get_or ks g.end.at 0) ≡ true) where
        pub right_operand : Operand ks (take (6 * g.top) r) g.end g.first g.from
        right_operand = operand a.held.rows a.linked i refl refl none (take (6 * g.top) r) low_same low_wide (assignment_stands ks g.end.at refl refl e)

        pub right_awaits : {r' s' : List ℕ} {x : Result Next Cause} → WaitsRight ks r s g r' s' x → length r' ≡ length r → length s' ≡ length s → Goes ks fs all m g.end.at r' s' base x
        right_awaits {r'} {s'} {x} w long deep = by w.turned refl
          where
            root : g.end.rows ≡ g.end.rows - 1 + 1
            root = omega (arith, group_some)

            stands : g.end.at < length ks
            stands = assignment_stands ks g.end.at refl refl e

            by : (z : Conversion) → w.turned ≡ z → Goes ks fs all m g.end.at r' s' base x
            by (Err cause) q =
                let f = w.refused cause q in
                goes_fail f.gives (rw f.text (right_refused a.held.rows a.linked i refl refl none (take (6 * g.top) r) low_same low_wide refl e root w.converted deep (drop (6 * g.top) r) (omega (arith, spare, w.long)) q))
            by (Ok count) q =
                let f = w.waits count q in
                let p = spare in
                let fit = group_fits in
                let lent = held_lent w.low a.held w.long in
                let same = length-append w.low (drop (6 * g.top) r) in
                let rest = length-drop (6 * g.top) r in
                goes_reads f.gives record {
                  waiting = part (kind_for (get_or ks g.end.at 0 is Eq)) g.end.at g.first 2 g.from (no_operation (get_or ks g.end.at 0 is Eq)) (no_choice (get_or ks g.end.at 0 is Eq)) ∷ ws;
                  held = held_waits lent (omega (arith, fit.some)) f.pushed (omega (arith, long, same, rest, w.long, fit.inside)) refl;
                  forward = omega arith;
                  spare = right_spare a.held.rows a.linked i refl refl none (take (6 * g.top) r) low_same low_wide refl e root w.converted deep q;
                  operand = refl;
                  starts =
                      starts_from (pushed_kept g.end.rows (omega (arith, p, stands)) (omega (arith, same, rest, w.long, fit.inside)) f.pushed
                      ∙ take-append-le (6 * g.end.rows) w.low (drop (6 * g.top) r) (omega (arith, w.long, p)))
                      (waits_right a.held.rows a.linked i refl refl none (take (6 * g.top) r) low_same low_wide refl e root w.converted deep q);
                }

-- THE LOOP OVER THE OPERATORS THAT WAIT
-- a group, and what waits now
pub record Groups (ks fs : List ℕ) (all : Whole) (m r s : List ℕ) (g : Group) (base : ℕ) : Type 0 where
  pub ws : List Waiting
  pub at : GroupAt ks fs all m ws r s g base

-- from the operand that was read
pub record Following (ks fs r₀ s₀ : List ℕ) (g₀ : Group) (base : ℕ) (r s : List ℕ) (g : Group) : Type 0 where
  pub rows_long : length r ≡ length r₀
  pub records_long : length s ≡ length s₀
  pub place : g.end.at ≡ g₀.end.at
  pub goes : (all : Whole) (m : List ℕ) (ws : List Waiting) → GroupAt ks fs all m ws r₀ s₀ g₀ base → Groups ks fs all m r s g base

-- what `ends_operand` tells
record Ends-here (r : List ℕ) (top base level : ℕ) : Type 0 where
  inside : top < base
  operator : is_operation (get_or r (6 * top) 0) ≡ true
  within : level ≤ word r top 4

ends_here : (r : List ℕ) (top base level : ℕ) → ends_operand r top base level ≡ true → Ends-here r top base level
ends_here r top base level e = go (ltb top base) (is_operation (get_or r (6 * top) 0)) (leb level (word r top 4)) refl refl refl e
  where
    go : (a b c : Bool) → ltb top base ≡ a → is_operation (get_or r (6 * top) 0) ≡ b → leb level (word r top 4) ≡ c → (if a then (if b then c else false) else false) ≡ true → Ends-here r top base level
    go true true true p q t z = record { inside = ltb-true _ _ p; operator = q; within = leb-true _ _ t }
    go true true false p q t z = absurd (cc)
    go true false c p q t z = absurd (cc)
    go false b c p q t z = absurd (cc)

operation_is : (ks : List ℕ) (mark : ℕ) → is_operation (operation_kind (get_or ks mark 0)) ≡ true
unfolding operation_kind
operation_is ks mark = go (between Question2 Amp2 (get_or ks mark 0))
  where
    go : (b : Bool) → is_operation (if b then Row.Logical else Row.Binary) ≡ true
    go true = refl
    go false = refl

-- an operator waits first, and its operand ends
yes_ends : (ks r : List ℕ) (level : ℕ) {top base mark first left from : ℕ} {ws : List Waiting} → Held ks r top base (operation mark first left from ∷ ws) → leb level (word r top 4) ≡ true
    → ends_operand r top base level ≡ true
yes_ends ks r level {top} {base} {mark} h e =
    rw (lt-ltb top base (held_inside h)) (subst (λ (b : Bool). (if b then leb level (word r top 4) else false) ≡ true) (sym (operation_is ks mark) ∙ ap is_operation (sym (held_kind h))) e)

-- an operator waits first
record Operator (ks fs : List ℕ) (all : Whole) (m r s : List ℕ) (g : Group) (base : ℕ) : Type 0 where
  mark : ℕ
  first : ℕ
  left : ℕ
  from : ℕ
  ws : List Waiting
  at : GroupAt ks fs all m (operation mark first left from ∷ ws) r s g base

module _ {ks fs : List ℕ} {all : Whole} {m r s : List ℕ} {g : Group} {base : ℕ} {level : ℕ} (v : level ≡ expression_level (get_or ks g.end.at 0)) where
  -- the innermost is an operator, whose right operand ends here
  module _ (p : Groups ks fs all m r s g base) (ends : ends_operand r g.top base level ≡ true) where
    here : Ends-here r g.top base level
    here = ends_here r g.top base level ends

    innermost : Operator ks fs all m r s g base
    innermost = go p.ws p.at
      where
        go : (ws : List Waiting) → GroupAt ks fs all m ws r s g base → Operator ks fs all m r s g base
        go [] a = absurd (held_some a.held here.inside)
        go (part kind mark first kids from z _ ∷ ws) a = let y = sym here.operator ∙ ap is_operation (held_kind a.held) ∙ z in absurd (cc)
        go (choice mark first from ∷ ws) a = let y : true ≡ false = sym here.operator ∙ ap is_operation (held_kind a.held) in absurd (cc)
        go (operation mark first left from ∷ ws) a = record { mark = mark; first = first; left = left; from = from; ws = ws; at = a }

    following_fits : OperationFits r s g
    unfolding Ends
    following_fits =
        let h = innermost.at.held in
        let e = operand_ends h.rows innermost.at.linked refl v refl (subst (λ (i : ℕ). level ≤ i) (held_word h 4) here.within) in
        omega (arith, h.rows, h.room, e, held_word h 1, held_word h 2, held_word h 3, held_word h 5)

    following_made : {r' s' : List ℕ} {u : Group} → FinishedOperation ks r s g r' s' u → length r' ≡ length r → length s' ≡ length s → Groups ks fs all m r' s' u base
    unfolding Ends
    following_made {r'} {s'} {u} f long deep =
        let i = innermost in
        let mark = i.mark in
        let first = i.first in
        let left = i.left in
        let from = i.from in
        let ws = i.ws in
        let h = i.at.held in
        let e = operand_ends h.rows i.at.linked refl v refl (subst (λ (n : ℕ). level ≤ n) (held_word h 4) here.within) in
        let rows = h.rows in
        let room = h.room in
        let fin : Finished ks (take (6 * (g.top + 1)) r) s g.end mark first left from f.low s' u.end =
        rw (sym (held_word h 1), sym (held_word h 2), sym (held_word h 3), sym (held_word h 5)) f.made in
        let whole : Finished ks r s g.end mark first left from r' s' u.end =
        rw f.text (finished_wider {t = g.top + 1} (omega (arith, e.left_before)) (omega (arith, e.room, rows)) (omega (arith, e.from_before)) (omega arith) fin (drop (6 * (g.top + 1)) r)) in
        let linked : Linked ks fs all (Ends ks fs all base ws) ws (base - length ws) r' s' m u.end first from = e.made r' s' u.end long deep whole in
        let top : base - length ws ≡ u.top = omega (arith, rows, f.top) in
        record {
          ws = ws;
          at = record {
            held = rw (f.top, f.text) (held_lent f.low (held_next (operation mark first left from) h) f.long);
            linked = rw (sym top, f.first ∙ held_word h 2, f.from ∙ held_word h 5) linked;
          };
        }

  -- it is not, or reads on
  module _ (no : ends_operand r g.top base level ≡ false) where
    following_floor : (ws : List Waiting) → GroupAt ks fs all m ws r s g base → (level ≡ 0 → ⊥) → floor_of ks ws < level
    following_floor [] a some = omega (arith, some)
    following_floor (part kind mark first kids from _ _ ∷ ws) a some = omega (arith, some)
    following_floor (choice mark first from ∷ ws) a some = omega (arith, some)
    following_floor (operation mark first left from ∷ ws) a some = by (leb level (word r g.top 4)) refl
      where
        by : (c : Bool) → leb level (word r g.top 4) ≡ c → right_floor (get_or ks mark 0) < level
        by true e = let y = yes_ends ks r level a.held e in absurd (cc)
        by false e = subst (λ (i : ℕ). i < level) (held_word a.held 4) (leb-false _ _ e)

    following_level : (ws : List Waiting) → GroupAt ks fs all m ws r s g base → level ≡ 0 → awaits_operand ws ≡ false
    following_level [] a zero = refl
    following_level (part kind mark first kids from _ _ ∷ ws) a zero = refl
    following_level (choice mark first from ∷ ws) a zero = refl
    following_level (operation mark first left from ∷ ws) a zero =
        let y = yes_ends ks r level a.held (le-leb level (word r g.top 4) (omega (arith, zero))) in absurd (cc)

-- each turn of the loop, and each way out of it
module _ {ks fs r₀ s₀ : List ℕ} {g₀ : Group} {base : ℕ} {r s : List ℕ} {g : Group} (w : Following ks fs r₀ s₀ g₀ base r s g) where
  groups_now : (e : Grouping ks fs r₀ s₀ g₀ base) → Groups ks fs e.all e.m r s g base
  groups_now e = w.goes e.all e.m e.ws e.at

  pub follow_waits : Grouping ks fs r₀ s₀ g₀ base → WaitFits (length r) g
  follow_waits e = let q = groups_now e in group_fits q.ws q.at

module _ {ks fs r₀ s₀ : List ℕ} {g₀ : Group} {base : ℕ} {r s : List ℕ} {g : Group} (w : Following ks fs r₀ s₀ g₀ base r s g) (level : ℕ) (at_end : level ≡ expression_level (get_or ks g₀.end.at 0)) where
  here_too : level ≡ expression_level (get_or ks g.end.at 0)
  here_too = rw w.place at_end

  pub follow_fits : Grouping ks fs r₀ s₀ g₀ base → ends_operand r g.top base level ≡ true → OperationFits r s g
  follow_fits e ends = following_fits here_too (groups_now w e) ends

  pub follow_made : {r' s' : List ℕ} {u : Group} → ends_operand r g.top base level ≡ true → FinishedOperation ks r s g r' s' u → length r' ≡ length r → length s' ≡ length s
      → Following ks fs r₀ s₀ g₀ base r' s' u
  follow_made ends f l l' =
      record {
        rows_long = l ∙ w.rows_long;
        records_long = l' ∙ w.records_long;
        place = f.made.place ∙ w.place;
        goes = λ all m ws p. following_made here_too (w.goes all m ws p) ends f l l';
      }

  pub follow_operand : {r' : List ℕ} {x : Result Next Cause} → ends_operand r g.top base level ≡ false → (level ≡ 0 → ⊥) → WaitsOperand ks r g r' x → length r' ≡ length r
      → Followed ks fs r₀ s₀ g₀ base r' s x
  follow_operand reads_on some o l =
      record {
        goes = λ all m ws p.
            let q = w.goes all m ws p in
            goes_at w.place (operand_awaits q.ws q.at here_too (following_floor here_too reads_on q.ws q.at some) o l);
      }

  pub follow_level : Grouping ks fs r₀ s₀ g₀ base → ends_operand r g.top base level ≡ false → level ≡ 0 → Level ks fs r s g base
  follow_level e reads_on zero =
      let q = groups_now w e in
      record {
        grouping = record { all = e.all; m = e.m; ws = q.ws; at = q.at };
        no_operand = following_level here_too reads_on q.ws q.at zero;
        no_operator = sym here_too ∙ zero;
      }

  pub follow_ends : {r' s' : List ℕ} {x : Result Next Cause} → ends_operand r g.top base level ≡ false → level ≡ 0 → FollowedLevel ks fs r s g base r' s' x
      → Followed ks fs r₀ s₀ g₀ base r' s' x
  follow_ends reads_on zero f =
      record {
        goes = λ all m ws p.
            let q = w.goes all m ws p in
            goes_at w.place (f.goes all m q.ws q.at (following_level here_too reads_on q.ws q.at zero) (sym here_too ∙ zero));
      }
