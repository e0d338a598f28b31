-- What waits, and what comes of it: only the first rows matter to what was read; the rows that wait, as words; and each way from one state of the loop to the next.
-- Assumes nothing.
use Rattle.std.specs.Prelude.{Ok, Err}
use Prim.Native.Nat.{ℕ, ◌+◌, ◌-◌, ◌*◌, ◌≤◌, ◌<◌}
use mathlib.Core.Path.{◌≡◌, refl, sym, ap, subst, ◌∙◌}
use mathlib.Core.Bool.{Bool, true, false, not}
use mathlib.Core.List.{List, [], ◌∷◌, ◌++◌, append_assoc}
use native.Mathlib.Omega.{arith}
use lib.ListN.{length, get_or, take, drop, length-append, length-take, length-drop, take-append-drop}
use Rattle.tokens.specs.Bool.{◌is◌}
use Rattle.tokens.specs.Kind.{Eq, Arrow, Question}
use Rattle.tokens.specs.declared.cause.Cause.{Cause}
use Rattle.tokens.proofs.Stands.{stands_not}
use Rattle.operators.specs.Precedence.{expression_level}
use Rattle.rows.specs.Post.{Word, Pushed, Grown, Kept}
use Rattle.grammar.specs.Job.{Job, assignment, value, binary, assign, conditional}
use Rattle.grammar.specs.Assignment.{is_assignment_operator}
use Rattle.grammar.specs.Binary.{right_floor, operation_kind}
use Rattle.targets.specs.Outcome.{Conversion}
use Rattle.build.specs.Post.{cursor, Room, Met, Leafed, Operand, HeadFits}
use Rattle.build.specs.declared.cursor.Cursor.{Cursor}
use Rattle.build.specs.Post.{Step}
use Rattle.build.proofs.Ends.{is_done, moved}
use Rattle.heads.specs.declared.Head.{Head}
use lib.Seq.{take-take, take-append-le, length-take-le, drop-append_seam, drop-drop, get_or-drop}
use Rattle.rows.specs.Tree.{Forest, node, cons, one, flats, row}
use Rattle.build.specs.Operation.{Finished}
use Rattle.rows.specs.Row as Row
use Rattle.roles.specs.Meaning as means
use Rattle.targets.specs.Post as Targets
use Rattle.waiting.specs.Waiting.{Grouped, kind_for, Breaks, Waiting, operation, part, choice, is_operation, Choice, awaits_operand, floor_of, begun, Whole, Spare, Comes-all, Outcome, Starts, Opens, Linked, Ends, words, all_words, Held}
use Rattle.waiting.proofs.Value.{assignment_stands, operand_rows, binary_ends, binary_stops, binary_operates, value_refuses, value_operand, value_choices, value_ends, value_stays, value_assigned, value_arrows, choice_fails, choice_opens, choice_fails_after, choice_done, assigned_few, assigned_refuses, assigned_fails, assigned_done, body_curlies, body_refused, body_dones}
use Rattle.waiting.proofs.Root.{length_flats}

-- THE FIRST ROWS
-- rows that were added are inside
pub grown_inside : {r₀ r : List ℕ} {n d : ℕ} {ts : Forest} → 6 * n ≤ length r₀ → Grown r₀ n r d ts → 6 * d ≤ length r
grown_inside {r₀} {r} {n} {d} {ts} room g =
    let e = ap length g.text in
    let a = length-append (take (6 * n) r₀) (flats ts) in
    let b = length-take-le (6 * n) r₀ room in
    let f = length_flats ts in
    let u = g.used in
    let t = length-take (6 * d) r in
    omega arith

-- what is said of rows, of other rows
module _ {ks fs r₀ r₁ s₀ m₀ r r' s m : List ℕ} {job : Job} {n k : ℕ} {x : Step} where
  met_rows : ((d : ℕ) (ts : Forest) → Grown r₀ n r d ts → Grown r₁ n r' d ts) → (Kept r₀ n r → Kept r₁ n r') → Met ks fs r₀ s₀ m₀ r s m job n k x → Met ks fs r₁ s₀ m₀ r' s m job n k x
  met_rows grow keep f =
      record {
        done_to = λ d q.
            let g = f.done_to d q in
            record { trees = g.trees; records = g.records; comes = g.comes; made = record { grown = grow d.rows g.trees g.made.grown; recorded = g.made.recorded } };
        fail_at = λ c q. let g = f.fail_at c q in record { comes = g.comes; unmade = record { kept = keep g.unmade.kept; kept_records = g.unmade.kept_records } };
      }

-- another list with the same first rows, where it began
pub met_from : {ks fs r₀ r₁ s₀ m₀ r s m : List ℕ} {job : Job} {n k : ℕ} {x : Step} → take (6 * n) r₀ ≡ take (6 * n) r₁ → Met ks fs r₀ s₀ m₀ r s m job n k x → Met ks fs r₁ s₀ m₀ r s m job n k x
met_from e f = met_rows (λ d ts g. record { used = g.used; text = g.text ∙ ap (λ (l : List ℕ). l ++ flats ts) e }) (λ h. record { text = h.text ∙ e }) f

-- where it was done
pub met_to : {ks fs r₀ s₀ m₀ r r' s m : List ℕ} {job : Job} {n k : ℕ} {d : Cursor} → take (6 * d.rows) r' ≡ take (6 * d.rows) r → Met ks fs r₀ s₀ m₀ r s m job n k (Ok d)
    → Met ks fs r₀ s₀ m₀ r' s m job n k (Ok d)
met_to e f =
    let g = f.done_to _ refl in
    let text = e ∙ g.made.grown.text in
    is_done refl record { trees = g.trees; records = g.records; comes = g.comes; made = record { grown = record { used = g.made.grown.used; text = text }; recorded = g.made.recorded } }

-- words after the part of a tree that was lent
module _ {r₀ low : List ℕ} {n : ℕ} (room : 6 * n ≤ length r₀) (after : List ℕ) where
  pub grown_wider : {d : ℕ} {ts : Forest} → Grown r₀ n low d ts → Grown r₀ n (low ++ after) d ts
  grown_wider {d} g = record { used = g.used; text = take-append-le (6 * d) low after (grown_inside room g) ∙ g.text }

  pub met_wider : {ks fs s₀ m₀ s m : List ℕ} {job : Job} {k : ℕ} {x : Step} → 6 * n ≤ length low → Met ks fs r₀ s₀ m₀ low s m job n k x → Met ks fs r₀ s₀ m₀ (low ++ after) s m job n k x
  met_wider h f = met_rows (λ d ts g. grown_wider g) (λ g. record { text = take-append-le (6 * n) low after h ∙ g.text }) f

-- the rows before a row that is written
pub pushed_kept : {r r' : List ℕ} {n kind mark first end kids size : ℕ} (k : ℕ) → k ≤ n → 6 * n ≤ length r → Pushed r n kind mark first end kids size r' → take (6 * k) r' ≡ take (6 * k) r
pushed_kept {r} {r'} {n} {kind} {mark} {first} {end} {kids} {size} k h room p =
    sym (take-take (6 * k) (6 * (n + 1)) r' (omega arith))
    ∙ ap (take (6 * k)) p.text
    ∙ take-append-le (6 * k) (take (6 * n) r) (row kind mark first end kids size) (let e = length-take-le (6 * n) r room in omega arith)
    ∙ take-take (6 * k) (6 * n) r (omega arith)

-- the part of a tree that is lent has the tree's first rows
pub same_first : (r : List ℕ) (n t : ℕ) → n ≤ t → take (6 * n) (take (6 * t) r) ≡ take (6 * n) r
same_first r n t h = take-take (6 * n) (6 * t) r (omega arith)

-- what stands in a tree stands in the part of it that is lent
pub grown_narrower : {r : List ℕ} {t n d : ℕ} {ts : Forest} → n ≤ t → d ≤ t → Grown r n r d ts → Grown (take (6 * t) r) n (take (6 * t) r) d ts
grown_narrower {r} {t} {n} {d} {ts} h k g = record { used = g.used; text = same_first r d t k ∙ g.text ∙ ap (λ (l : List ℕ). l ++ flats ts) (sym (same_first r n t h)) }

-- an operator's row that was made in the part that is lent
pub finished_wider : {ks r s low s' : List ℕ} {t : ℕ} {d u : Cursor} {mark first left from : ℕ} → left ≤ d.rows → d.rows ≤ t → from ≤ left → 6 * t ≤ length r
    → Finished ks (take (6 * t) r) s d mark first left from low s' u → (after : List ℕ) → Finished ks r s d mark first left from (low ++ after) s' u
finished_wider {ks} {r} {s} {low} {s'} {t} {d} {u} {mark} {first} {left} {from} h k i room f after =
    record {
      place = f.place;
      made = λ fs a b ga gb.
          let m = f.made fs a b (grown_narrower {t = t} (omega arith) (omega arith) ga) (grown_narrower {t = t} (omega arith) k gb) in
          let ts = one (node (operation_kind (get_or ks mark 0)) mark first d.at (cons a (one b))) in
          let part : 6 * from ≤ length (take (6 * t) r) = let e = length-take-le (6 * t) r room in omega arith in
          let w = grown_wider part after m.grown in
          record { grown = record { used = w.used; text = w.text ∙ ap (λ (l : List ℕ). l ++ flats ts) (same_first r from t (omega arith)) }; recorded = m.recorded };
    }

-- ROWS THAT WAIT
module _ {ks r : List ℕ} {top base : ℕ} {ws : List Waiting} where
  -- what was lent below them came back
  pub held_lent : (low : List ℕ) → Held ks r top base ws → length low ≡ 6 * top → Held ks (low ++ drop (6 * top) r) top base ws
  held_lent low h e =
      let len = length-append low (drop (6 * top) r) in
      let len' = length-drop (6 * top) r in
      record {
        rows = h.rows;
        room = let z = h.rows in let y = h.room in omega arith;
        tail = h.tail;
        text = ap (λ (i : ℕ). drop i (low ++ drop (6 * top) r)) (sym e) ∙ drop-append_seam low (drop (6 * top) r) ∙ h.text;
      }

  -- one more waits
  pub held_waits : {r' : List ℕ} {n kind mark first left kids from : ℕ} {w : Waiting} → Held ks r top base ws → top ≡ n + 1 → Pushed r n kind mark first left kids from r' → length r' ≡ length r
      → words ks w ≡ row kind mark first left kids from → Held ks r' n base (w ∷ ws)
  unfolding all_words
  held_waits {r'} {n} {kind} {mark} {first} {left} {kids} {from} {w} h t p e q =
      let whole : r' ≡ (take (6 * n) r ++ row kind mark first left kids from) ++ drop (6 * (n + 1)) r =
      sym (take-append-drop (6 * (n + 1)) r') ∙ ap (λ (l : List ℕ). l ++ drop (6 * (n + 1)) r') p.text
      ∙ ap (λ (l : List ℕ). (take (6 * n) r ++ row kind mark first left kids from) ++ l) p.rest in
      let room = h.room in
      let rows = h.rows in
      let before : length (take (6 * n) r) ≡ 6 * n = length-take-le (6 * n) r (omega arith) in
      record {
        rows = omega arith;
        room = omega arith;
        tail = h.tail;
        text =
            ap (drop (6 * n)) (whole ∙ append_assoc (take (6 * n) r) (row kind mark first left kids from) (drop (6 * (n + 1)) r))
            ∙ ap (λ (i : ℕ). drop i (take (6 * n) r ++ (row kind mark first left kids from ++ drop (6 * (n + 1)) r))) (sym before)
            ∙ drop-append_seam (take (6 * n) r) (row kind mark first left kids from ++ drop (6 * (n + 1)) r)
            ∙ ap (λ (i : ℕ). row kind mark first left kids from ++ drop (6 * i) r) (sym t)
            ∙ ap (λ (l : List ℕ). row kind mark first left kids from ++ l) h.text
            ∙ ap (λ (l : List ℕ). l ++ (all_words ks ws ++ h.tail)) (sym q)
            ∙ sym (append_assoc (words ks w) (all_words ks ws) h.tail);
      }

  -- a row is written below them
  pub held_below : {r' : List ℕ} {n kind mark first end kids size : ℕ} → Held ks r top base ws → n < top → Pushed r n kind mark first end kids size r' → length r' ≡ length r → Held ks r' top base ws
  held_below {r'} {n} h t p e =
      let room = h.room in
      let i : 6 * top ≡ 6 * (n + 1) + 6 * (top - (n + 1)) = omega arith in
      record {
        rows = h.rows;
        room = omega arith;
        tail = h.tail;
        text = past r' ∙ ap (drop (6 * (top - (n + 1)))) p.rest ∙ sym (past r) ∙ h.text;
      }
    where
      past : (l : List ℕ) → drop (6 * top) l ≡ drop (6 * (top - (n + 1))) (drop (6 * (n + 1)) l)
      past l = let i : 6 * top ≡ 6 * (n + 1) + 6 * (top - (n + 1)) = omega arith in ap (λ (x : ℕ). drop x l) i ∙ sym (drop-drop (6 * (top - (n + 1))) (6 * (n + 1)) l)

-- the innermost, word by word
module _ {ks r : List ℕ} {top base : ℕ} {ws : List Waiting} {w : Waiting} (h : Held ks r top base (w ∷ ws)) where
  pub held_word : (i : ℕ) → get_or r (6 * top + i) 0 ≡ get_or (words ks w ++ (all_words ks ws ++ h.tail)) i 0
  unfolding all_words
  held_word i = sym (get_or-drop (6 * top) r i 0) ∙ ap (λ (l : List ℕ). get_or l i 0) (h.text ∙ append_assoc (words ks w) (all_words ks ws) h.tail)

  pub held_inside : top < base
  held_inside = let z = h.rows in omega arith

  pub held_kind : get_or r (6 * top) 0 ≡ get_or (words ks w ++ (all_words ks ws ++ h.tail)) 0 0
  held_kind = let e : 6 * top ≡ 6 * top + 0 = omega arith in ap (λ (i : ℕ). get_or r i 0) e ∙ held_word 0

-- the innermost waits no more
pub held_next : {ks r : List ℕ} {top base : ℕ} {ws : List Waiting} (w : Waiting) → Held ks r top base (w ∷ ws) → Held ks r (top + 1) base ws
unfolding all_words
held_next {ks} {r} {top} {base} {ws} w h =
    let rows = h.rows in
    let e : 6 * (top + 1) ≡ 6 * top + 6 = omega arith in
    record {
      rows = omega arith;
      room = h.room;
      tail = h.tail;
      text = ap (λ (i : ℕ). drop i r) e ∙ sym (drop-drop 6 (6 * top) r) ∙ ap (drop 6) h.text ∙ six w;
    }
  where
    six : (w : Waiting) → drop 6 ((words ks w ++ all_words ks ws) ++ h.tail) ≡ all_words ks ws ++ h.tail
    six (operation mark first left from) = refl
    six (part kind mark first kids from _ _) = refl
    six (choice mark first from) = refl

-- some row waits, or none does
pub held_some : {ks r : List ℕ} {top base : ℕ} → Held ks r top base [] → top < base → ⊥
held_some h lt = let e = h.rows in omega arith

pub held_none : {ks r : List ℕ} {top base : ℕ} {w : Waiting} {ws : List Waiting} → Held ks r top base (w ∷ ws) → base ≤ top → ⊥
held_none h le = let e = h.rows in omega arith

-- WHAT COMES
-- room in words for what is read below the rows that wait
pub room_below : {ks r s : List ℕ} {top : ℕ} {c : Cursor} → Spare ks s top c → 6 * top ≤ length r → Room ks r s c
room_below p h = omega arith

-- what began, by what it waits for
begun_operand : (ks : List ℕ) (ws : List Waiting) (first : ℕ) → awaits_operand ws ≡ true → begun ks ws first ≡ binary (floor_of ks ws) first
begun_operand ks ws first e = rw e

begun_value : (ks : List ℕ) (ws : List Waiting) (first : ℕ) → awaits_operand ws ≡ false → begun ks ws first ≡ value first
begun_value ks ws first e = rw e

floor_none : (ks : List ℕ) (ws : List Waiting) → awaits_operand ws ≡ false → floor_of ks ws ≡ 0
floor_none ks [] e = refl
floor_none ks (operation mark first left from ∷ ws) e = absurd (cc)
floor_none ks (part kind mark first kids from _ _ ∷ ws) e = refl
floor_none ks (choice mark first from ∷ ws) e = refl

-- rows of assignments are no operator's
pub no_operation : (plain : Bool) → is_operation (kind_for plain) ≡ false
no_operation true = refl
no_operation false = refl

pub no_choice : (plain : Bool) → kind_for plain ≡ Choice → ⊥
no_choice true e = omega (arith, e)
no_choice false e = omega (arith, e)

no_assignment_arrow : {k : ℕ} → k ≡ Arrow → is_assignment_operator k ≡ false
unfolding is_assignment_operator
no_assignment_arrow e = rw e

module _ {ks fs : List ℕ} {all : Whole} where
  -- from another list with the same first rows
  pub starts_from : {next : List ℕ → List ℕ → List ℕ → Cursor → Type 0} {job : Job} {r r' s m : List ℕ} {c : Cursor} → take (6 * c.rows) r' ≡ take (6 * c.rows) r
      → Starts ks fs all next job r s m c → Starts ks fs all next job r' s m c
  starts_from e h = record { goes = λ r'' s'' m'' x long a. h.goes r'' s'' m'' x long (met_from e a) }

module _ {ks fs : List ℕ} {all : Whole} {base : ℕ} {ws : List Waiting} {top : ℕ} {r s m : List ℕ} {u : Cursor} {first from : ℕ}
    (fits : top + length ws ≡ base) (l : Linked ks fs all (Ends ks fs all base ws) ws top r s m u first from) where
  abbrev here : Room ks l.rows₀ l.records₀ (cursor first from l.said₀)
  here = room_below l.spare l.room

  -- as the job that began with the group
  as_begun : {job : Job} {r' s' m' : List ℕ} {x : Step} → begun ks ws first ≡ job → length s' ≡ length s
      → Met ks fs l.rows₀ l.records₀ l.notes₀ r' s' m' job from l.said₀ x → Outcome ks fs all (Ends ks fs all base ws) r' s' m' x
  as_begun {r' = r'} {s'} {m'} {x} e long a = l.starts.goes r' s' m' x (long ∙ l.deep) (rw e a)

  -- room where the group ends
  pub linked_spare : Spare ks s top u
  linked_spare = omega (arith, l.spare, l.grouped, l.deep)

  -- a refusal of the operand that was waited for, or of the binary level
  stops : {r' s' m' : List ℕ} {x : Step} {cause : Cause} → length s' ≡ length s → Met ks fs l.rows₀ l.records₀ l.notes₀ r' s' m' (binary (floor_of ks ws) first) from l.said₀ x
      → x ≡ Err cause → Comes-all ks fs all r' s' m' x
  stops {r'} {s'} {m'} {x} {cause} long a e = go (awaits_operand ws) refl
    where
      go : (b : Bool) → awaits_operand ws ≡ b → Comes-all ks fs all r' s' m' x
      go true i = (as_begun (begun_operand ks ws first i) long a).refused cause e
      go false i = (as_begun (begun_value ks ws first i) long (value_refuses here refl (l.plain i) (rw (floor_none ks ws i) at a) e)).refused cause e

  module _ {operator above : ℕ} (t : operator ≡ get_or ks u.at 0) (v : above ≡ expression_level operator) where
    -- the operand that was waited for ends here
    pub operand_ends : awaits_operand ws ≡ true → above ≤ floor_of ks ws → Ends ks fs all base ws r s m u
    operand_ends i le = (as_begun (begun_operand ks ws first i) refl (binary_ends l.grouped t v le)).read u refl

    module _ (lt : floor_of ks ws < above) where
      abbrev now : Waiting
      now = operation u.at first u.rows from

      -- an operator waits for its right operand
      pub waits_operand : Starts ks fs all (Ends ks fs all base (now ∷ ws)) (binary (right_floor (get_or ks u.at 0)) (u.at + 1)) r s m (cursor (u.at + 1) u.rows u.records)
      unfolding Ends
      waits_operand =
          record {
            goes = λ r' s' m' x long a.
                record {
                  refused = λ cause e. stops long (binary_stops l.grouped t v lt (ap right_floor (sym t)) a e) e;
                  read = λ d e.
                      let g = a.done_to d e in
                      let w = moved _ g refl in
                      let some = operand_rows g in
                      let p = linked_spare in
                      let q = l.grouped in
                      record {
                        room = omega (arith, w, p, fits);
                        deep = omega (arith, w, p, long);
                        rows_small = omega (arith, w, p);
                        records_small = omega (arith, w, p);
                        place_small = omega (arith, w, p);
                        mark_small = omega (arith, p);
                        first_small = omega (arith, l.spare);
                        from_before = q.some;
                        left_before = some;
                        made = λ r'' s'' z _ long' fin.
                            record {
                              rows₀ = l.rows₀;
                              records₀ = l.records₀;
                              notes₀ = l.notes₀;
                              said₀ = l.said₀;
                              spare = subst (λ (i : ℕ). Spare ks l.records₀ i (cursor first from l.said₀)) (omega (arith, fits)) l.spare;
                              room = omega (arith, l.room, fits);
                              deep = long' ∙ long ∙ l.deep;
                              plain = l.plain;
                              grouped =
                                  subst (λ (i : ℕ). Grouped ks fs l.rows₀ l.records₀ l.notes₀ (floor_of ks ws) first from l.said₀ r'' s'' m' z i) (sym fin.place)
                                  (binary_operates l.grouped t v lt (ap right_floor (sym t)) a e (grown_inside q.wide q.made.grown) fin);
                              starts = l.starts;
                            };
                      };
                };
          }

  -- THE ASSIGNMENT LEVEL PAST A HEAD: no operator waits, and none follows the group; in any rows that begin alike
  module _ {operator above : ℕ} (i : awaits_operand ws ≡ false) (t : operator ≡ get_or ks u.at 0) (v : above ≡ expression_level operator) (none : above ≡ 0)
      (rows : List ℕ) (low : take (6 * u.rows) rows ≡ take (6 * u.rows) r) (wide : 6 * top ≤ length rows) where
    -- the binary level ends here
    pub level : Met ks fs l.rows₀ l.records₀ l.notes₀ rows s m (binary 0 first) from l.said₀ (Ok u)
    level = met_to low (rw (floor_none ks ws i) at (binary_ends l.grouped t v (omega (arith, none))))

    valued : {r' s' m' : List ℕ} {x : Step} → length s' ≡ length s → Met ks fs l.rows₀ l.records₀ l.notes₀ r' s' m' (value first) from l.said₀ x
        → Outcome ks fs all (Ends ks fs all base ws) r' s' m' x
    valued long a = as_begun (begun_value ks ws first i) long a

    -- the group, as an operand of what follows it
    abbrev pub operand : u.at < length ks → Operand ks rows u first from
    operand next = value_operand here refl (l.plain i) level refl t next

    group_room : Room ks rows s u
    group_room = room_below linked_spare wide

    -- nothing follows
    pub part_ends : {b : Bool} → b ≡ is_assignment_operator operator → b ≡ false → (operator ≡ Question → ⊥) → (operator ≡ Arrow → ⊥) → Ends ks fs all base ws rows s m u
    part_ends o e q a = (valued refl (value_ends here refl (l.plain i) level refl t a o e q)).read u refl

    -- `=>` after what is no name
    pub no_name_ends : {z : ℕ} → operator ≡ Arrow → Word rows (u.rows - 1) 0 z → (z ≡ Row.Identifier → ⊥) → Ends ks fs all base ws rows s m u
    no_name_ends a w h = (valued refl (value_stays here refl (l.plain i) level refl t a w h)).read u refl

    -- a Conditional waits for its `:`, and then for its last part
    module _ (q : operator ≡ Question) where
      next : u.at < length ks
      next = stands_not ks u.at (λ z. let y : ◌≡◌ {A = ℕ} Question 0 = sym q ∙ t ∙ z in omega arith)

      no_arrow : operator ≡ Arrow → ⊥
      no_arrow e = let z : ◌≡◌ {A = ℕ} Arrow Question = sym e ∙ q in omega arith

      no_assignment : is_assignment_operator operator ≡ false
      unfolding is_assignment_operator
      no_assignment = rw q

      chosen : {r' s' m' : List ℕ} {x : Step} → length s' ≡ length s → Met ks fs rows s m r' s' m' (conditional first u.at (operand next).left) from u.records x
          → Outcome ks fs all (Ends ks fs all base ws) r' s' m' x
      chosen long a = valued long (value_choices here refl (l.plain i) level refl t no_arrow refl no_assignment q a)

      pub waits_choice : Starts ks fs all (Ends ks fs all base (choice u.at first from ∷ ws)) (assignment (u.at + 1)) rows s m (cursor (u.at + 1) u.rows u.records)
      unfolding Ends
      waits_choice =
          let p = linked_spare in
          let o = operand next in
          record {
            goes = λ r' s' m' x long a.
                record {
                  refused = λ cause e. (chosen long (choice_fails group_room o a e)).refused cause e;
                  read = λ d e.
                      let w = moved _ (a.done_to d e) refl in
                      record {
                        spare = omega (arith, p, w, fits, next, long);
                        no_colon = λ z. (chosen long (choice_opens group_room o a e refl z)).refused _ refl;
                        colon = λ z.
                            record {
                              goes = λ r'' s'' m'' y long' b.
                                  record {
                                    refused = λ cause f. (chosen (long' ∙ long) (choice_fails_after group_room o a e refl z b f)).refused cause f;
                                    read = λ c f.
                                        let w' = moved _ (b.done_to c f) refl in
                                        record {
                                          no_operand = i;
                                          fits = omega (arith, p, w, w', fits, l.spare, l.grouped);
                                          made = λ r''' v top. (chosen (long' ∙ long) (choice_done group_room o a e refl z b f top)).read v refl;
                                        };
                                  };
                            };
                      };
                };
          }

    -- an assignment waits for its right side: its left side is converted
    module _ {b : Bool} (o : b ≡ is_assignment_operator operator) (e : b ≡ true) {root : ℕ} (n : u.rows ≡ root + 1) {r₁ s₁ : List ℕ} {z : Conversion}
        (h : Targets.RowConverted rows s root (means.aim (not (operator is Eq))) u.records r₁ s₁ z) (deep₁ : length s₁ ≡ length s) where
      equals : u.at < length ks
      equals = assignment_stands ks u.at t o e

      no_body : operator ≡ Arrow → ⊥
      no_body q = let y : ◌≡◌ {A = Bool} true false = sym e ∙ o ∙ no_assignment_arrow q in let x : ◌≡◌ {A = ℕ} 0 1 = cc in omega arith

      abbrev over : Operand ks rows u first from
      over = operand equals

      assigned : {r' s' m' : List ℕ} {x : Step} → length s' ≡ length s → Met ks fs rows s m r' s' m' (assign first u.at over.left) from u.records x
          → Outcome ks fs all (Ends ks fs all base ws) r' s' m' x
      assigned long a = valued long (value_assigned here refl (l.plain i) level refl t no_body o e a)

      pub right_refused : (after : List ℕ) → 6 * u.rows ≤ length r₁ → {cause : Cause} → z ≡ Err cause → Comes-all ks fs all (r₁ ++ after) s₁ m (Err cause)
      right_refused after tall q =
          let g = l.grouped in
          (assigned deep₁ (met_wider (omega (arith, wide, linked_spare, g)) after (omega (arith, tall, g)) (assigned_refuses group_room over t n h q))).refused _ refl

      module _ {counted : ℕ} (q : z ≡ Ok counted) where
        pub right_spare : Spare ks s₁ (top - 1) (cursor (u.at + 1) u.rows (u.records + counted))
        right_spare = omega (arith, linked_spare, assigned_few group_room over t n h q, equals, deep₁)

        pub waits_right : Starts ks fs all (Ends ks fs all base (part (kind_for (operator is Eq)) u.at first 2 from (no_operation (operator is Eq)) (no_choice (operator is Eq)) ∷ ws)) (assignment (u.at + 1)) r₁ s₁ m (cursor (u.at + 1) u.rows (u.records + counted))
        unfolding Ends
        waits_right =
            let p = linked_spare in
            record {
              goes = λ r' s' m' x long a.
                  record {
                    refused = λ cause f. (assigned (long ∙ deep₁) (assigned_fails group_room over t n h q a f)).refused cause f;
                    read = λ d f.
                        let w = moved _ (a.done_to d f) refl in
                        record {
                          no_operand = i;
                          fits = omega (arith, p, w, fits, l.spare, l.grouped);
                          made = λ r'' v top. (assigned (long ∙ deep₁) (assigned_done group_room over t n h q a f refl top)).read v refl;
                        };
                  };
            }

    -- the name of an arrow without parentheses: what its body comes to
    pub name_opens : {r₂ : List ℕ} {z : ℕ} {c : Cursor} → operator ≡ Arrow → Word rows (u.rows - 1) 0 z → z ≡ Row.Identifier → Leafed rows (cursor first from u.records) Row.BindingName r₂ c
        → {h : Head} → h ≡ record { kind = Row.Arrow; first = first; from = from; kids = 1 } → Opens ks fs all (Ends ks fs all base ws) r₂ s m (cursor u.at c.rows c.records) h
    name_opens a w k top e =
        rw e record {
          goes = λ r' s' m' x long f. valued long (value_arrows here refl (l.plain i) level refl t a w k top f);
        }

-- A HEAD WAS READ, and its `=>` stands here
module _ {ks fs : List ℕ} {all : Whole} {base : ℕ} (ws : List Waiting) {top : ℕ} {r s m : List ℕ} {d : Cursor} {h : Head}
    (fits : top + length ws ≡ base) (i : awaits_operand ws ≡ false) (p : Spare ks s top d) (wide : 6 * top ≤ length r) (f : HeadFits ks d h) (o : Opens ks fs all (Ends ks fs all base ws) r s m d h) where
  abbrev body_room : Room ks r s d
  body_room = room_below p wide

  pub body_refuses : {y : ℕ} → y ≡ get_or ks (d.at + 1) 0 → y ≡ 22 → Comes-all ks fs all r s m (Err (Cause.Unexpected (d.at + 1)))
  body_refuses k t = (o.goes r s m _ refl (body_curlies body_room f k t)).refused _ refl

  module _ {y : ℕ} {s₁ : List ℕ} {c : Cursor} (k : y ≡ get_or ks (d.at + 1) 0) (t : y ≡ 22 → ⊥) (b : Breaks fs s d s₁ c) (a : is_operation h.kind ≡ false) (z : h.kind ≡ Choice → ⊥) where
    pub body_spare : Spare ks s₁ (top - 1) c
    body_spare = omega (arith, p, f, b.at, b.rows, b.few, b.long)

    pub waits_body : Starts ks fs all (Ends ks fs all base (part h.kind d.at h.first (h.kids + 1) h.from a z ∷ ws)) (assignment c.at) r s₁ m c
    unfolding Ends
    waits_body =
        record {
          goes = λ r' s' m' x long e.
              record {
                refused = λ cause q. (o.goes r' s' m' x (long ∙ b.long) (body_refused body_room f k t b e q)).refused cause q;
                read = λ g q.
                    let w = moved _ (e.done_to g q) refl in
                    record {
                      no_operand = i;
                      fits = omega (arith, p, w, fits, b.at, b.rows, b.few, f);
                      made = λ r'' v top. (o.goes r'' s' m' _ (long ∙ b.long) (body_dones body_room f k t b e q top)).read v refl;
                    };
              };
        }
