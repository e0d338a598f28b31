-- `property`, 13.2.5: each way out of it.
-- Assumes nothing.
use Rattle.std.specs.Prelude.{Ok, Err}
use Prim.Native.Nat.{ℕ, ◌+◌, ◌<◌}
use mathlib.Core.Path.{◌≡◌, refl, sym, ◌∙◌}
use mathlib.Core.Bool.{true, false}
use mathlib.Core.List.{List, [], ◌++◌}
use native.Mathlib.Omega.{arith}
use lib.ListN.{length, get_or}
use Rattle.tokens.specs.declared.cause.Cause.{Cause}
use Rattle.tokens.proofs.Stands.{stands}
use Rattle.rows.specs.Tree.{Forest, node, one, join, count}
use Rattle.rows.specs.Record.{Record}
use Rattle.rows.specs.Row as Row
use Rattle.rows.proofs.Rows.{count_join}
use Rattle.grammar.specs.Sheet.{done, fail, leaf}
use Rattle.grammar.specs.Job.{assignment, key, property}
use Rattle.build.specs.Operation.{is_shorthand}
use Rattle.build.specs.Post.{Room, Comes, Made, Met, Leafed, Topped}
use Rattle.build.specs.declared.cursor.Cursor.{Cursor}
use Rattle.build.proofs.Rules.{property_shorthand, property_init_fails, property_init, property_key_fails, property_no_colon, property_value_fails, property_done}
use Rattle.build.proofs.Ends.{is_fail, moved, single}
use Rattle.build.proofs.Makes.{made_leaf, made_then, unmade_past, unmade_after, count_one, is_topped}
use Rattle.parse.proofs.Steps.Cursors.{leafed_now, Along}

-- the property that began at c has its name or key, and its `=` or `:` stands at d: what follows makes the property
pub record Keyed (ks fs r₀ s₀ m₀ : List ℕ) (c : Cursor) (r s m : List ℕ) (d : Cursor) (kind mark : ℕ) : Type 0 where
  pub next : d.at < length ks
  pub forward : c.at < d.at
  pub along : Along ks c d 0
  pub marked : mark < length ks
  pub rows_long : length r ≡ length r₀
  pub records_long : length s ≡ length s₀
  pub trees : Forest
  pub records : List Record
  pub lone : count trees ≡ 1
  pub made : Made r₀ s₀ c.rows c.records r s d trees records
  pub fails : {cause : Cause} {m' : List ℕ} → Comes ks fs (assignment (d.at + 1)) m (fail cause m') → Comes ks fs (property c.at) m₀ (fail cause m')
  pub goes : {e : ℕ} {ts : Forest} {rs : List Record} {m' : List ℕ} → Comes ks fs (assignment (d.at + 1)) m (done e ts rs m')
      → Comes ks fs (property c.at) m₀ (done e (one (node kind mark c.at e (join trees ts))) (records ++ rs) m')

module _ {ks fs r₀ s₀ m₀ : List ℕ} {c : Cursor} (room : Room ks r₀ s₀ c) where
  pub property_shorthands : {r₁ r : List ℕ} {d u : Cursor} {y : ℕ} → true ≡ is_shorthand ks c.at → Leafed r₀ c Row.Identifier r₁ d → y ≡ get_or ks (c.at + 1) 0 → (y ≡ 63 → ⊥)
      → Topped r₁ d Row.Shorthand c.at c.at (c.at + 1) 1 c.rows r u
      → Met ks fs r₀ s₀ m₀ r s₀ m₀ (property c.at) c.rows c.records (Ok u)
  unfolding count
  property_shorthands t low k o top = is_topped top (property_shorthand (sym t) (λ q. o (k ∙ q))) (made_leaf low) refl

  pub property_refuses : {r s m : List ℕ} {p : Cause} → false ≡ is_shorthand ks c.at → Met ks fs r₀ s₀ m₀ r s m (key c.at) c.rows c.records (Err p)
      → Met ks fs r₀ s₀ m₀ r s m (property c.at) c.rows c.records (Err p)
  property_refuses t h = let f = h.fail_at _ refl in is_fail refl record { comes = property_key_fails (sym t) f.comes; unmade = f.unmade }

  pub property_opens : {r s m : List ℕ} {d : Cursor} {y : ℕ} → false ≡ is_shorthand ks c.at → Met ks fs r₀ s₀ m₀ r s m (key c.at) c.rows c.records (Ok d) → y ≡ get_or ks d.at 0
      → (y ≡ 25 → ⊥) → Met ks fs r₀ s₀ m₀ r s m (property c.at) c.rows c.records (Err (Cause.Unexpected d.at))
  property_opens t h k o =
      let a = h.done_to _ refl in
      is_fail refl record { comes = property_no_colon (sym t) a.comes (λ q. o (k ∙ q)); unmade = unmade_past (omega (arith, room)) (omega (arith, room)) a.made }

  -- a name and its `=`; a key and its `:`
  pub keyed_name : {r₁ : List ℕ} {d : Cursor} {y : ℕ} → true ≡ is_shorthand ks c.at → Leafed r₀ c Row.Identifier r₁ d → y ≡ get_or ks (c.at + 1) 0 → y ≡ 63 → length r₁ ≡ length r₀
      → Keyed ks fs r₀ s₀ m₀ c r₁ s₀ m₀ d Row.ShorthandInit (c.at + 1)
  unfolding count join
  keyed_name {d = d} t low k o l =
      let now = leafed_now low in
      let st = stands ks (sym k ∙ o) in
      let past : d.at + 1 ≡ c.at + 2 = omega (arith, now) in
      record {
        next = omega (arith, now, st);
        forward = omega (arith, now);
        along = record { low = omega arith; high = omega arith; some = omega arith; few = omega arith; said = omega arith; number = omega arith };
        marked = st;
        rows_long = l;
        records_long = refl;
        trees = one (leaf Row.Identifier c.at);
        records = [];
        lone = refl;
        made = made_leaf low;
        fails = λ h. property_init_fails (sym t) (sym k ∙ o) (rw past at h);
        goes = λ h. property_init (sym t) (sym k ∙ o) (rw past at h);
      }

  pub keyed_key : {r₁ s₁ m₁ : List ℕ} {d : Cursor} {y : ℕ} → false ≡ is_shorthand ks c.at → Met ks fs r₀ s₀ m₀ r₁ s₁ m₁ (key c.at) c.rows c.records (Ok d) → y ≡ get_or ks d.at 0
      → y ≡ 25 → length r₁ ≡ length r₀ → length s₁ ≡ length s₀ → Keyed ks fs r₀ s₀ m₀ c r₁ s₁ m₁ d Row.Property c.at
  keyed_key t h k o l l' =
      let a = h.done_to _ refl in
      let g = moved _ a refl in
      let st = stands ks (sym k ∙ o) in
      record {
        next = st;
        forward = g.forward;
        along = record { low = omega arith; high = omega arith; some = omega arith; few = omega arith; said = omega arith; number = omega arith };
        marked = omega (arith, g, st);
        rows_long = l;
        records_long = l';
        trees = a.trees;
        records = a.records;
        lone = count_one _ _ (single _ a refl);
        made = a.made;
        fails = λ f. property_value_fails (sym t) a.comes (sym k ∙ o) f;
        goes = λ f. property_done (sym t) a.comes (sym k ∙ o) f;
      }

-- the same where the two ways meet
pub keyed_as : {ks fs r₀ s₀ m₀ r' s' m' r s m : List ℕ} {c d d' : Cursor} {kind kind' mark mark' : ℕ} → r ≡ r' → s ≡ s' → m ≡ m' → d ≡ d' → kind ≡ kind' → mark ≡ mark'
    → Keyed ks fs r₀ s₀ m₀ c r' s' m' d' kind' mark' → Keyed ks fs r₀ s₀ m₀ c r s m d kind mark
keyed_as e e' e'' q q' q'' h = rw (e, e', e'', q, q', q'') h

module _ {ks fs r₀ s₀ m₀ r₁ s₁ m₁ : List ℕ} {c d : Cursor} {kind mark : ℕ} (w : Keyed ks fs r₀ s₀ m₀ c r₁ s₁ m₁ d kind mark) where
  pub property_fails_after : {r s m : List ℕ} {p : Cause} → Room ks r₀ s₀ c → Met ks fs r₁ s₁ m₁ r s m (assignment (d.at + 1)) d.rows d.records (Err p)
      → Met ks fs r₀ s₀ m₀ r s m (property c.at) c.rows c.records (Err p)
  property_fails_after room h =
      let f = h.fail_at _ refl in
      is_fail refl record { comes = w.fails f.comes; unmade = unmade_after (omega (arith, room)) (omega (arith, room)) w.made f.unmade }

  pub property_dones : {r₂ r s m : List ℕ} {e u : Cursor} → Met ks fs r₁ s₁ m₁ r₂ s m (assignment (d.at + 1)) d.rows d.records (Ok e)
      → Topped r₂ e kind mark c.at e.at 2 c.rows r u → Met ks fs r₀ s₀ m₀ r s m (property c.at) c.rows c.records (Ok u)
  property_dones h top =
      let g = h.done_to _ refl in
      let one_g = count_one _ _ (single _ g refl) in
      is_topped top (w.goes g.comes) (made_then w.made g.made) (omega (arith, w.lone, one_g, count_join w.trees g.trees))
