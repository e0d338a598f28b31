-- `rest` and `last`, 14.3.3: each way out of them.
-- Assumes nothing.
use Rattle.std.specs.Prelude.{Ok, Err}
use Prim.Native.Nat.{ℕ, ◌+◌, ◌-◌, ◌<◌}
use mathlib.Core.Path.{◌≡◌, refl, sym, ◌∙◌}
use mathlib.Core.List.{List, append-nil}
use native.Mathlib.Omega.{arith}
use borrow.Author.Tests.{ne_eqb}
use lib.ListN.{length, get_or}
use Rattle.tokens.specs.declared.cause.Cause.{Cause}
use Rattle.rows.specs.Tree.{Tree, Forest, one, count, kind_of}
use Rattle.rows.specs.Record.{Record}
use Rattle.rows.specs.Row as Row
use Rattle.rows.specs.Post.{Word}
use Rattle.grammar.specs.Sheet.{sheet_of, done, fail, first_tree}
use Rattle.grammar.specs.Job.{Job, binding_element, binding_rest}
use Rattle.laws.proofs.Bounds.{limits, reads}
use Rattle.build.specs.Post.{cursor, Comes, Room, Met, ReadTo, Made, MetClosed, NotClosed, not_read, no_token, Topped, Said}
use Rattle.build.specs.declared.cursor.Cursor.{Cursor}
use Rattle.build.proofs.Rules.{rest_fails, rest_done}
use Rattle.build.proofs.Ends.{is_fail, single}
use Rattle.build.proofs.Results.{at_ok, at_err, not_ok, not_err}
use Rattle.build.proofs.Makes.{made_said, made_at, unmade_past, is_topped}
use Rattle.waiting.proofs.Root.{some_row, root_kind, root_mark}
use Rattle.parse.proofs.Steps.Cursors.{Now, now}

-- one tree was read: what it comes to and what was made, by that tree
pub record OneTo (ks fs r₀ s₀ m₀ r s m : List ℕ) (job : Job) (n k : ℕ) (d : Cursor) (trees : Forest) : Type 0 where
  pub tree : Tree
  pub records : List Record
  pub alone : trees ≡ one tree
  pub comes : Comes ks fs job m₀ (done d.at (one tree) records m)
  pub made : Made r₀ s₀ n k r s d (one tree) records
  pub some : n < d.rows

module _ {ks fs r₀ s₀ m₀ r s m : List ℕ} {job : Job} {n k : ℕ} {d : Cursor} where
  pub one_of : (g : ReadTo ks fs r₀ s₀ m₀ r s m job n k d) → g.trees ≡ one (first_tree g.trees) → OneTo ks fs r₀ s₀ m₀ r s m job n k d g.trees
  one_of g o =
      let made : Made r₀ s₀ n k r s d (one (first_tree g.trees)) g.records = rw (← o) g.made in
      record { tree = first_tree g.trees; records = g.records; alone = o; comes = rw (← o) g.comes; made = made; some = some_row made.grown }

  pub one_to : (at : ℕ) (g : ReadTo ks fs r₀ s₀ m₀ r s m job n k d) → limits (sheet_of ks fs) job ≡ reads (sheet_of ks fs) at 0 0 → OneTo ks fs r₀ s₀ m₀ r s m job n k d g.trees
  one_to at g e = one_of g (single at g e)

-- where a record was written, the cursor has one more
pub said_to : {s₀ s : List ℕ} {c d : Cursor} {number place : ℕ} → Said s₀ c number place s d → Now d c.at c.rows (c.records + 1)
said_to h = now h.is

module _ {ks fs r₀ s₀ m₀ : List ℕ} {c : Cursor} (room : Room ks r₀ s₀ c) (here : c.at < length ks) where
  pub rest_refused : {r s m : List ℕ} {p : Cause} → Met ks fs r₀ s₀ m₀ r s m (binding_element (c.at + 1)) c.rows c.records (Err p)
      → Met ks fs r₀ s₀ m₀ r s m (binding_rest c.at) c.rows c.records (Err p)
  rest_refused h = let f = h.fail_at _ refl in is_fail refl record { comes = rest_fails here f.comes; unmade = f.unmade }

  pub rest_bare : {r₁ r s m : List ℕ} {d u : Cursor} {y : ℕ} → Met ks fs r₀ s₀ m₀ r₁ s m (binding_element (c.at + 1)) c.rows c.records (Ok d)
      → Word r₁ (d.rows - 1) 0 y → (y ≡ 34 → ⊥) → Topped r₁ d Row.BindingRest c.at c.at d.at 1 c.rows r u
      → Met ks fs r₀ s₀ m₀ r s m (binding_rest c.at) c.rows c.records (Ok u)
  unfolding count
  rest_bare h w t top =
      let a = one_to _ (h.done_to _ refl) refl in
      let k = root_kind (omega (arith, room)) a.made.grown w in
      is_topped top (rw (ne_eqb (kind_of a.tree) Row.BindingDefault (λ q. t (k ∙ q)), append-nil) at (rest_done here a.comes)) a.made refl

  pub rest_initialized : {r₁ s₁ r s m : List ℕ} {d e u : Cursor} {y z : ℕ} → Met ks fs r₀ s₀ m₀ r₁ s₁ m (binding_element (c.at + 1)) c.rows c.records (Ok d)
      → Word r₁ (d.rows - 1) 0 y → y ≡ 34 → Word r₁ (d.rows - 1) 1 z → Said s₁ d 2 z s e → Topped r₁ e Row.BindingRest c.at c.at e.at 1 c.rows r u
      → Met ks fs r₀ s₀ m₀ r s m (binding_rest c.at) c.rows c.records (Ok u)
  unfolding count
  rest_initialized h w t w' said top =
      let a = one_to _ (h.done_to _ refl) refl in
      let k = root_kind (omega (arith, room)) a.made.grown w in
      let p = root_mark (omega (arith, room)) a.made.grown w' in
      is_topped top (rw ((said_to said).at_is, p) (rw (sym k ∙ t) at (rest_done here a.comes))) (made_said a.made said) refl

-- `inside` and `last`: a part and its closing token
module _ {ks fs r₀ s₀ m₀ r s m : List ℕ} {c : Cursor} {job : Job} {close : ℕ} {cause_at : ℕ → Cause} (room : Room ks r₀ s₀ c) where
  pub closed_refused : {p : Cause} → Met ks fs r₀ s₀ m₀ r s m job c.rows c.records (Err p) → MetClosed ks fs r₀ s₀ m₀ r s m job close cause_at c.rows c.records (Err p)
  closed_refused h =
      let f = h.fail_at _ refl in
      record { closed_to = not_ok _ refl; closed_fail = at_err _ refl (record { why = not_read f.comes; unmade = f.unmade }) }

  module _ {d : Cursor} {y : ℕ} (h : Met ks fs r₀ s₀ m₀ r s m job c.rows c.records (Ok d)) (k : y ≡ get_or ks d.at 0) where
    pub closed_open : (y ≡ close → ⊥) → MetClosed ks fs r₀ s₀ m₀ r s m job close cause_at c.rows c.records (Err (cause_at d.at))
    closed_open t =
        let a = h.done_to _ refl in
        record {
          closed_to = not_ok _ refl;
          closed_fail = at_err _ refl
              (record { why = no_token _ _ _ a.comes (λ q. t (k ∙ q)) refl; unmade = unmade_past (omega (arith, room)) (omega (arith, room)) a.made });
        }

    pub closed_done : y ≡ close → MetClosed ks fs r₀ s₀ m₀ r s m job close cause_at c.rows c.records (Ok (cursor (d.at + 1) d.rows d.records))
    closed_done t =
        let a = h.done_to _ refl in
        record {
          closed_to = at_ok _ refl
              (record { end = d.at; trees = a.trees; records = a.records; comes = a.comes; token = sym k ∙ t; past = refl; made = made_at a.made refl refl });
          closed_fail = not_err _ refl;
        }

-- a part or its closing token is refused, and so is what they stand in
pub not_closed : {ks fs m m' : List ℕ} {part whole : Job} {close : ℕ} {cause_at : ℕ → Cause} {cause : Cause} → ((q : Cause) → Comes ks fs part m (fail q m') → Comes ks fs whole m (fail q m'))
    → ((i : ℕ) (ts : Forest) (rs : List Record) → Comes ks fs part m (done i ts rs m') → (get_or ks i 0 ≡ close → ⊥) → Comes ks fs whole m (fail (cause_at i) m'))
    → NotClosed ks fs m m' part close cause_at cause → Comes ks fs whole m (fail cause m')
not_closed f g (not_read h) = f _ h
not_closed f g (no_token end ts rs h t e) = rw e (g end ts rs h t)
