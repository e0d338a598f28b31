-- What comes of an AssignmentExpression where a head may open (13.15), by the way there and by the head: each way. For `start`.
-- Assumes nothing.
use Rattle.std.specs.Prelude.{if◌then◌else◌, Ok, Err}
use Prim.Native.Nat.{ℕ, ◌<◌}
use mathlib.Core.Path.{◌≡◌, refl, sym, ap, ◌∙◌}
use mathlib.Core.Bool.{Bool, true, false}
use mathlib.Core.List.{List}
use native.Mathlib.Omega.{arith}
use lib.ListN.{length, set, get_or}
use Rattle.tokens.specs.declared.cause.Cause.{Cause}
use Rattle.rows.specs.Tree.{Forest}
use Rattle.rows.specs.Record.{Record}
use Rattle.grammar.specs.Sheet.{sheet_of, Out, done, after_records}
use Rattle.grammar.specs.Job.{Job, assignment, value, head, body}
use Rattle.grammar.specs.Arrow as Grammar
use Rattle.grammar.specs.Reading.{box}
use Rattle.laws.proofs.Good.{inside}
use Rattle.build.specs.Post.{Room, Comes, Met, MetAfter, MetList}
use Rattle.heads.specs.Heads.{Dropped, may_open, way_at, way_of, arrow_kind}
use Rattle.build.specs.declared.cursor.Cursor.{Cursor}
use Rattle.build.specs.Post.{Step}
use Rattle.build.specs.Post.{Listed}
use Rattle.heads.specs.declared.Head.{Head}
use Rattle.heads.specs.declared.Way.{Way}
use Rattle.build.proofs.Ways.{assignment_passes, assignment_tries, assignment_gives_up, assignment_commits, assignment_fails}
use Rattle.build.proofs.Ends.{is_fail}
use Rattle.waiting.proofs.Value.{goes_on}
use Rattle.build.proofs.Makes.{stands_now, made_again, unmade_again}

-- a way that is neither passing nor reading for good
pub is_tried : (w : Way) → (w ≡ Way.Pass → ⊥) → (w ≡ Way.Commit → ⊥) → w ≡ Way.Attempt
is_tried Way.Pass i j = absurd (i refl)
is_tried Way.Attempt i j = refl
is_tried Way.Commit i j = absurd (j refl)

-- where a head is tried, a token stands
pub tried_stands : (ks fs m : List ℕ) (at : ℕ) {w : Way} → way_of w ≡ way_at ks fs m at → w ≡ Way.Attempt → at < length ks
unfolding way_at way_of may_open
tried_stands ks fs m at {w} t e = go (may_open (get_or ks at 0)) refl
  where
    go : (b : Bool) → may_open (get_or ks at 0) ≡ b → at < length ks
    go true q = inside (sheet_of ks fs) at may_open refl q
    go false q =
        let z : Grammar.attempt ≡ Grammar.pass = sym (ap way_of e) ∙ t ∙ ap (λ (b : Bool). if b then (box (sheet_of ks fs)).way at m else Grammar.pass) q in
        absurd (cc)

module _ {ks fs r₀ s₀ m₀ : List ℕ} {c : Cursor} where
  assign_passes : {r s m : List ℕ} {x : Step} {w : Way} → way_of w ≡ way_at ks fs m₀ c.at → w ≡ Way.Pass
      → Met ks fs r₀ s₀ m₀ r s m (value c.at) c.rows c.records x → Met ks fs r₀ s₀ m₀ r s m (assignment c.at) c.rows c.records x
  unfolding way_of
  assign_passes h e a =
      let w = sym h ∙ ap way_of e in
      record {
        done_to = λ d q. let g = a.done_to d q in record { trees = g.trees; records = g.records; comes = assignment_passes w g.comes; made = g.made };
        fail_at = λ p q. let g = a.fail_at p q in record { comes = assignment_passes w g.comes; unmade = g.unmade };
      }

  arrow_of : {r₁ s₁ m₁ r s m : List ℕ} {x : Step} {y : Listed} {d : Cursor} {kids : ℕ} {h : Head} → Room ks r₀ s₀ c
      → ((p : ℕ) (ts : Forest) (rs : List Record) (out : Out (List ℕ)) → Comes ks fs (head c.at) m₀ (done p ts rs m₁) → Comes ks fs (body (arrow_kind ks c.at) c.at p ts) m₁ out
      → Comes ks fs (assignment c.at) m₀ (after_records rs out))
      → MetList ks fs r₀ s₀ m₀ r₁ s₁ m₁ (head c.at) c.rows c.records y → y ≡ Ok (d, kids)
      → h ≡ record { kind = arrow_kind ks c.at; first = c.at; from = c.rows; kids = kids }
      → MetAfter ks fs r₁ s₁ m₁ r s m (body h.kind h.first d.at) h.from d.rows h.kids d.records x
      → Met ks fs r₀ s₀ m₀ r s m (assignment c.at) c.rows c.records x
  arrow_of {r₁} {s₁} {m₁} {r} {s} {m} {x} {d = d} {kids} {h} room rule a q e b =
      let g = a.list_to _ _ q in
      let b' = rw e at b in
      let f = b'.over_all g.trees g.counted (stands_now (omega (arith, room)) g.made.grown) in
      goes_on room (λ out u. rule _ _ _ out g.comes u) g.made f

  -- a head that was read, and its body
  pub assign_arrows : {r₁ s₁ m₁ r s m : List ℕ} {x : Step} {y : Listed} {d : Cursor} {kids : ℕ} {h : Head} (w : Way) → Room ks r₀ s₀ c → way_of w ≡ way_at ks fs m₀ c.at
      → (w ≡ Way.Pass → ⊥) → MetList ks fs r₀ s₀ m₀ r₁ s₁ m₁ (head c.at) c.rows c.records y → y ≡ Ok (d, kids)
      → h ≡ record { kind = arrow_kind ks c.at; first = c.at; from = c.rows; kids = kids }
      → MetAfter ks fs r₁ s₁ m₁ r s m (body h.kind h.first d.at) h.from d.rows h.kids d.records x
      → Met ks fs r₀ s₀ m₀ r s m (assignment c.at) c.rows c.records x
  unfolding way_of
  assign_arrows Way.Pass room t i a q u b = absurd (i refl)
  assign_arrows Way.Attempt room t i a q u b = arrow_of room (λ p ts rs out i j. assignment_tries (sym t) i j) a q u b
  assign_arrows Way.Commit room t i a q u b = arrow_of room (λ p ts rs out i j. assignment_commits (sym t) i j) a q u b

  pub assign_fails : {r₁ s₁ m₁ : List ℕ} {y : Listed} {p : Cause} {w : Way} → way_of w ≡ way_at ks fs m₀ c.at → w ≡ Way.Commit
      → MetList ks fs r₀ s₀ m₀ r₁ s₁ m₁ (head c.at) c.rows c.records y → y ≡ Err p
      → Met ks fs r₀ s₀ m₀ r₁ s₁ m₁ (assignment c.at) c.rows c.records (Err p)
  unfolding way_of
  assign_fails t e a q = let g = a.list_fail _ q in is_fail refl record { comes = assignment_fails (sym t ∙ ap way_of e) g.comes; unmade = g.unmade }

-- past a head, with k records: what the value comes to is what the assignment level comes to
pub record Past (ks fs r₀ s₀ m₀ r₁ s₁ m₁ : List ℕ) (k : ℕ) (c : Cursor) : Type 0 where
  pub long : length r₁ ≡ length r₀
  pub deep : length s₁ ≡ length s₀
  pub same : k ≡ c.records
  pub goes : (r s m : List ℕ) (x : Step) → Met ks fs r₁ s₁ m₁ r s m (value c.at) c.rows k x → Met ks fs r₀ s₀ m₀ r s m (assignment c.at) c.rows c.records x

-- rows, records, notes and the number of records under other names
now : {ks fs r₁ s₁ m₁ r₂ s₂ m₂ r s m : List ℕ} {job : Job} {n k₁ k₂ : ℕ} {x : Step} → r₁ ≡ r₂ → s₁ ≡ s₂ → m₁ ≡ m₂ → k₁ ≡ k₂ → Met ks fs r₁ s₁ m₁ r s m job n k₁ x
    → Met ks fs r₂ s₂ m₂ r s m job n k₂ x
now i j l o a = rw (sym i, sym j, sym l, sym o) a

module _ {ks fs r₀ s₀ m₀ r₁ s₁ m₁ : List ℕ} {k : ℕ} {c : Cursor} {w : Way} (t : way_of w ≡ way_at ks fs m₀ c.at) where
  -- no head is tried
  pub past_none : w ≡ Way.Pass → r₁ ≡ r₀ → s₁ ≡ s₀ → m₁ ≡ m₀ → k ≡ c.records → Past ks fs r₀ s₀ m₀ r₁ s₁ m₁ k c
  past_none e i j l o = record { long = ap length i; deep = ap length j; same = o; goes = λ r s m x a. assign_passes t e (now i j l o a) }

  -- a head that failed is given up: it is dropped
  pub past_given_up : {r₂ s₂ m₂ m₃ : List ℕ} {k₃ : ℕ} {y : Listed} {p : Cause} → w ≡ Way.Attempt → MetList ks fs r₀ s₀ m₀ r₂ s₂ m₂ (head c.at) c.rows c.records y → y ≡ Err p
      → Dropped m₂ c.at c.records m₃ k₃ → length r₂ ≡ length r₀ → length s₂ ≡ length s₀ → r₁ ≡ r₂ → s₁ ≡ s₂ → m₁ ≡ m₃ → k ≡ k₃ → Past ks fs r₀ s₀ m₀ r₁ s₁ m₁ k c
  unfolding way_of
  past_given_up {r₂} {s₂} {m₂} e a q d u v i j l o =
      let g = a.list_fail _ q in
      let w = sym t ∙ ap way_of e in
      record {
        long = ap length i ∙ u;
        deep = ap length j ∙ v;
        same = o ∙ d.records;
        goes = λ r s m x b.
            let b' : Met ks fs r₂ s₂ (set m₂ c.at 1) r s m (value c.at) c.rows c.records x = now i j (l ∙ d.noted) (o ∙ d.records) b in
            record {
              done_to = λ d z. let f = b'.done_to d z in
                  record { trees = f.trees; records = f.records; comes = assignment_gives_up w g.comes f.comes; made = made_again g.unmade f.made };
              fail_at = λ p z. let f = b'.fail_at p z in record { comes = assignment_gives_up w g.comes f.comes; unmade = unmade_again g.unmade f.unmade };
            };
      }

pub past_as : (ks fs r₀ s₀ m₀ r₁ s₁ m₁ : List ℕ) (k : ℕ) (c : Cursor) → Past ks fs r₀ s₀ m₀ r₁ s₁ m₁ k c → Past ks fs r₀ s₀ m₀ r₁ s₁ m₁ k c
past_as ks fs r₀ s₀ m₀ r₁ s₁ m₁ k c p = p
