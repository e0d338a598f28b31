-- `comma`, 13.16: its loop, and each way out of it.
-- Assumes nothing.
use Rattle.std.specs.Prelude.{Ok, Err}
use Prim.Native.Nat.{ℕ, zero, suc, ◌+◌, ◌≤◌}
use mathlib.Core.Path.{◌≡◌, refl, sym, ◌∙◌}
use mathlib.Core.List.{List, [], ◌++◌}
use native.Mathlib.Omega.{arith}
use lib.ListN.{length, get_or}
use Rattle.tokens.specs.Kind.{Comma}
use Rattle.tokens.specs.declared.cause.Cause.{Cause}
use Rattle.tokens.proofs.Stands.{stands}
use Rattle.rows.specs.Tree.{Forest, nil, join, count}
use Rattle.rows.specs.Record.{Record}
use Rattle.rows.specs.Row as Row
use Rattle.rows.proofs.Rows.{count_join}
use Rattle.grammar.specs.Sheet.{Out, done, fail, after_records}
use Rattle.grammar.specs.Job.{expression, sequence, assignment}
use Rattle.build.specs.Post.{cursor, Comes, Room, Made, Met, Topped}
use Rattle.build.specs.declared.cursor.Cursor.{Cursor}
use Rattle.build.proofs.Rules.{expression_fails, expression_one, expression_more, sequence_ends, sequence_fails, sequence_more}
use Rattle.build.proofs.Ends.{is_done, is_fail, moved, single}
use Rattle.build.proofs.Makes.{made_none, made_then, made_at, unmade_after, count_one, is_topped}
use Rattle.waiting.proofs.Shared.{after_done, after_fail, said_then, comes_to}
use Rattle.parse.proofs.Steps.Cursors.{Along}

-- the Expression began at c; the parts so far stand, and the next one begins here. The first comma is at `mark`, once there is one
pub record CommaSoFar (ks fs r₀ s₀ m₀ : List ℕ) (c : Cursor) (r s m : List ℕ) (here : Cursor) (kids mark : ℕ) : Type 0 where
  pub marked : mark ≤ length ks
  pub along : Along ks c here kids
  pub few : here.rows + kids + c.at ≤ c.rows + here.at
  pub rows_long : length r ≡ length r₀
  pub records_long : length s ≡ length s₀
  pub so_far : Forest
  pub said : List Record
  pub counted : kids ≡ count so_far
  pub made : Made r₀ s₀ c.rows c.records r s here so_far said
  -- the next part is refused
  pub stops : {cause : Cause} {m' : List ℕ} → Comes ks fs (assignment here.at) m (fail cause m') → Comes ks fs (expression c.at) m₀ (fail cause m')
  -- the next part is the only one
  pub only : {p : ℕ} {ts : Forest} {rs : List Record} {m' : List ℕ} → kids ≡ 0 → Comes ks fs (assignment here.at) m (done p ts rs m') → (get_or ks p 0 ≡ Comma → ⊥)
      → Comes ks fs (expression c.at) m₀ (done p (join so_far ts) (said ++ rs) m')
  -- after the next part the Sequence goes on
  pub goes : {p comma : ℕ} {ts : Forest} {rs : List Record} {m' : List ℕ} {out : Out (List ℕ)} → (kids ≡ 0 → comma ≡ p) → ((kids ≡ 0 → ⊥) → comma ≡ mark)
      → Comes ks fs (assignment here.at) m (done p ts rs m') → (kids ≡ 0 → get_or ks p 0 ≡ Comma)
      → Comes ks fs (sequence c.at comma p (join so_far ts)) m' out → Comes ks fs (expression c.at) m₀ (after_records (said ++ rs) out)

pub comma_starts : {ks fs r s m : List ℕ} {c : Cursor} {mark : ℕ} → Room ks r s c → mark ≡ c.at → CommaSoFar ks fs r s m c r s m c 0 mark
unfolding count join
comma_starts {ks} {fs} {r} {s} {m} {c} {mark} room e =
    record {
      marked = omega (arith, room, e);
      along = record { low = omega arith; high = room.inside; some = omega arith; few = omega arith; said = omega arith; number = omega arith };
      few = omega arith;
      rows_long = refl;
      records_long = refl;
      so_far = nil;
      said = [];
      counted = refl;
      made = made_at made_none refl refl;
      stops = λ h. expression_fails h;
      only = λ z h n. expression_one h n;
      goes = λ at_first later h k f. expression_more h (k refl) (rw (at_first refl) at f);
    }

pub comma_some : (kids : ℕ) → (kids + 1 ≡ 1 → ⊥) → 1 ≤ kids
comma_some zero h = absurd (h refl)
comma_some (suc kids) h = omega arith

module _ {ks fs r₀ s₀ m₀ r₁ s₁ m₁ r s m : List ℕ} {c here : Cursor} {kids mark : ℕ} (w : CommaSoFar ks fs r₀ s₀ m₀ c r₁ s₁ m₁ here kids mark) where
  pub comma_stops : {p : Cause} → Room ks r₀ s₀ c → Met ks fs r₁ s₁ m₁ r s m (assignment here.at) here.rows here.records (Err p)
      → Met ks fs r₀ s₀ m₀ r s m (expression c.at) c.rows c.records (Err p)
  comma_stops room h =
      let f = h.fail_at _ refl in
      is_fail refl record { comes = w.stops f.comes; unmade = unmade_after (omega (arith, room)) (omega (arith, room)) w.made f.unmade }

  module _ {d : Cursor} {y : ℕ} (h : Met ks fs r₁ s₁ m₁ r s m (assignment here.at) here.rows here.records (Ok d)) (k : y ≡ get_or ks d.at 0) where
    pub comma_one : (y ≡ Comma → ⊥) → kids + 1 ≡ 1 → Met ks fs r₀ s₀ m₀ r s m (expression c.at) c.rows c.records (Ok d)
    comma_one t z =
        let a = h.done_to _ refl in
        is_done refl record {
          trees = join w.so_far a.trees;
          records = w.said ++ a.records;
          comes = w.only (omega (arith, z)) a.comes (λ q. t (k ∙ q));
          made = made_then w.made a.made;
        }

    pub comma_ends : {r' : List ℕ} {u : Cursor} → (y ≡ Comma → ⊥) → (kids + 1 ≡ 1 → ⊥) → Topped r d Row.Sequence mark c.at d.at (kids + 1) c.rows r' u
        → Met ks fs r₀ s₀ m₀ r' s m (expression c.at) c.rows c.records (Ok u)
    comma_ends t some top =
        let a = h.done_to _ refl in
        let one_a = count_one _ _ (single _ a refl) in
        let more : kids ≡ 0 → ⊥ = λ z. some (omega (arith, z)) in
        is_topped top (comes_to (w.goes (λ z. absurd (more z)) (λ n. refl) a.comes (λ z. absurd (more z)) (sequence_ends (λ q. t (k ∙ q)))) (after_done (w.said ++ a.records) _ _ _))
        (made_then w.made a.made) (omega (arith, w.counted, one_a, count_join w.so_far a.trees))

    comma_turns : {comma : ℕ} → y ≡ Comma → (kids ≡ 0 → comma ≡ d.at) → ((kids ≡ 0 → ⊥) → comma ≡ mark) → comma ≤ length ks → length r ≡ length r₁ → length s ≡ length s₁
        → CommaSoFar ks fs r₀ s₀ m₀ c r s m (cursor (d.at + 1) d.rows d.records) (kids + 1) comma
    comma_turns {comma} t at_first later small l l' =
        let a = h.done_to _ refl in
        let g = moved _ a refl in
        let st = stands ks (sym k ∙ t) in
        let one_a = count_one _ _ (single _ a refl) in
        record {
          marked = small;
          along = let v = w.along in record { low = omega arith; high = omega arith; some = omega arith; few = omega arith; said = omega arith; number = omega arith };
          few = omega (arith, w, g);
          rows_long = omega (arith, w);
          records_long = omega (arith, w);
          so_far = join w.so_far a.trees;
          said = w.said ++ a.records;
          counted = omega (arith, w.counted, one_a, count_join w.so_far a.trees);
          made = made_at (made_then w.made a.made) refl refl;
          stops = λ f. comes_to (w.goes at_first later a.comes (λ z. sym k ∙ t) (sequence_fails (sym k ∙ t) f)) (after_fail (w.said ++ a.records) _ _);
          only = λ z f n. absurd (omega (arith, z));
          goes = λ {rs = rs} {out = out} none same f q f'.
              said_then (w.said ++ a.records) rs out
              (w.goes at_first later a.comes (λ z. sym k ∙ t) (sequence_more (sym k ∙ t) f (rw (same (λ z. omega (arith, z))) at f')));
        }

    -- the first comma, and any other
    pub comma_marks : y ≡ Comma → kids + 1 ≡ 1 → length r ≡ length r₁ → length s ≡ length s₁
        → CommaSoFar ks fs r₀ s₀ m₀ c r s m (cursor (d.at + 1) d.rows d.records) (kids + 1) d.at
    comma_marks t z l l' = comma_turns t (λ q. refl) (λ n. absurd (n (omega (arith, z)))) (omega (arith, stands ks (sym k ∙ t))) l l'

    pub comma_again : y ≡ Comma → (kids + 1 ≡ 1 → ⊥) → length r ≡ length r₁ → length s ≡ length s₁
        → CommaSoFar ks fs r₀ s₀ m₀ c r s m (cursor (d.at + 1) d.rows d.records) (kids + 1) mark
    comma_again t some l l' = comma_turns t (λ z. absurd (some (omega (arith, z)))) (λ n. refl) w.marked l l'
