-- `left`, 13.3: its loop over the links, and each way out of it.
-- Assumes nothing.
use Rattle.std.specs.Prelude.{Ok, Err}
use Prim.Native.Nat.{ℕ, ◌+◌, ◌*◌, ◌≤◌, ◌<◌}
use mathlib.Core.Path.{◌≡◌, refl, sym, ap, subst, ◌∙◌}
use mathlib.Core.Bool.{true, false}
use mathlib.Core.List.{List, [], ◌++◌, append-nil}
use native.Mathlib.Omega.{arith}
use lib.ListN.{length, get_or}
use Rattle.tokens.specs.Token.{is_word}
use Rattle.tokens.specs.declared.cause.Cause.{Cause}
use Rattle.tokens.proofs.Stands.{stands}
use Rattle.rows.specs.Tree.{Tree, node, nil, cons, one, join, count}
use Rattle.rows.specs.Record.{Record}
use Rattle.rows.specs.Row as Row
use Rattle.rows.specs.Post.{Grown}
use Rattle.grammar.specs.Sheet.{Out, after_records}
use Rattle.grammar.specs.Job.{primary, left_hand_side, links, expression, arguments}
use Rattle.laws.proofs.Owed.{owes, owed, oweds}
use Rattle.laws.proofs.Bounds.{bounded, oweds_nil, oweds_cons, owed_node}
use Rattle.build.specs.Post.{Room, Comes, Made, Met, MetOver, MetClosed, Topped, Operand}
use Rattle.build.specs.declared.cursor.Cursor.{Cursor}
use Rattle.build.specs.Post.{Step}
use Rattle.build.proofs.Rules.{Reaches, key_word, left_fails, left_more, links_end, links_no_word, links_member, links_index_fails, links_index_open, links_index, links_call_fails, links_call}
use Rattle.build.proofs.Ends.{is_done, is_fail, moved, single}
use Rattle.build.proofs.Makes.{stands_now, made_then, made_top, made_over, unmade_past, unmade_after, unmade_over, count_one}
use Rattle.waiting.proofs.Shared.{after_none, after_done, said_then, comes_to}
use Rattle.parse.proofs.Steps.Cursors.{topped_now}
use Rattle.parse.proofs.Steps.Rest.{one_of, one_to, not_closed}
use Rattle.build.proofs.Steps.Inside.{closed_read}

-- What began at a place, with n rows and k records before it, is one tree up to here, and the rest of it is what follows.
pub record Linked (ks fs r₀ s₀ m₀ : List ℕ) (at n k : ℕ) (r s m : List ℕ) (here : Cursor) : Type 0 where
  pub wide : 6 * n ≤ length r₀
  pub deep : 2 * k ≤ length s₀
  pub forward : at < here.at
  pub inside : here.at ≤ length ks
  pub some : n < here.rows
  pub few : here.rows + at ≤ n + here.at
  pub tree : Tree
  pub said : List Record
  pub few_records : here.records + owed tree + at ≤ k + here.at
  pub made : Made r₀ s₀ n k r s here (one tree) said
  pub rest : (out : Out (List ℕ)) → Comes ks fs (links at here.at tree) m out → Comes ks fs (left_hand_side at) m₀ (after_records said out)

-- the loop, which began at b: what was linked there is linked here
pub record Linking (ks fs r₁ s₁ m₁ : List ℕ) (at n : ℕ) (b : Cursor) (r s m : List ℕ) (here : Cursor) : Type 0 where
  pub rows_long : length r ≡ length r₁
  pub records_long : length s ≡ length s₁
  pub goes : (r₀ s₀ m₀ : List ℕ) (k : ℕ) → Linked ks fs r₀ s₀ m₀ at n k r₁ s₁ m₁ b → Linked ks fs r₀ s₀ m₀ at n k r s m here

pub left_turns : {ks fs r₁ s₁ m₁ r s m r' s' m' : List ℕ} {at n : ℕ} {b here u : Cursor} → Linking ks fs r₁ s₁ m₁ at n b r s m here → length r' ≡ length r → length s' ≡ length s
    → ((r₀ s₀ m₀ : List ℕ) (k : ℕ) → Linked ks fs r₀ s₀ m₀ at n k r s m here → Linked ks fs r₀ s₀ m₀ at n k r' s' m' u) → Linking ks fs r₁ s₁ m₁ at n b r' s' m' u
left_turns v p q turn = record { rows_long = p ∙ v.rows_long; records_long = q ∙ v.records_long; goes = λ r₀ s₀ m₀ k w. turn r₀ s₀ m₀ k (v.goes r₀ s₀ m₀ k w) }

-- what one tree owes
pub owed_one : (t : Tree) → oweds (one t) ≡ owed t
owed_one t = omega (arith, oweds_cons t nil, oweds_nil)

pub word_stands : (ks : List ℕ) {at y : ℕ} → y ≡ get_or ks at 0 → true ≡ is_word y → at < length ks
word_stands ks {at} {y} k n =
    let e : is_word (get_or ks at 0) ≡ true = ap is_word (sym k) ∙ sym n in
    let w = bounded (key_word {ks = ks} {fs = ks} {at = at} {m = ks} (rw e refl)).settles in
    omega arith

module _ {ks fs r₀ s₀ m₀ : List ℕ} {c : Cursor} (room : Room ks r₀ s₀ c) where
  pub left_refuses : {r s m : List ℕ} {p : Cause} → Met ks fs r₀ s₀ m₀ r s m (primary c.at) c.rows c.records (Err p)
      → Met ks fs r₀ s₀ m₀ r s m (left_hand_side c.at) c.rows c.records (Err p)
  left_refuses h = let f = h.fail_at _ refl in is_fail refl record { comes = left_fails f.comes; unmade = f.unmade }

  -- where the loop is
  pub left_linked : {r₁ s₁ m₁ r s m : List ℕ} {d here : Cursor} → Met ks fs r₀ s₀ m₀ r₁ s₁ m₁ (primary c.at) c.rows c.records (Ok d)
      → Linking ks fs r₁ s₁ m₁ c.at c.rows d r s m here → Linked ks fs r₀ s₀ m₀ c.at c.rows c.records r s m here
  left_linked h v =
      let g = h.done_to _ refl in
      let w = moved _ g refl in
      let a = one_to _ g refl in
      v.goes r₀ s₀ m₀ c.records record {
        wide = omega (arith, room);
        deep = omega (arith, room);
        forward = w.forward;
        inside = w.inside;
        some = a.some;
        few = w.few;
        tree = a.tree;
        said = a.records;
        few_records = omega (arith, w, ap oweds a.alone, owed_one a.tree);
        made = a.made;
        rest = λ out f. left_more a.comes f;
      }

module _ {ks fs r₀ s₀ m₀ : List ℕ} {at n k₀ : ℕ} {r₁ s₁ m₁ : List ℕ} {here : Cursor} {y : ℕ} (w : Linked ks fs r₀ s₀ m₀ at n k₀ r₁ s₁ m₁ here) (k : y ≡ get_or ks here.at 0) where
  -- one more link
  relinks : {r s m : List ℕ} {d : Cursor} {left : Tree} (rs : List Record) → here.at < d.at → d.at ≤ length ks → n < d.rows → d.rows + at ≤ n + d.at → d.records + owed left + at ≤ k₀ + d.at
      → Made r₀ s₀ n k₀ r s d (one left) (w.said ++ rs) → ((out : Out (List ℕ)) → Comes ks fs (links at d.at left) m out → Comes ks fs (links at here.at w.tree) m₁ (after_records rs out))
      → Linked ks fs r₀ s₀ m₀ at n k₀ r s m d
  relinks {left = left} rs forward inside some few few_records made f =
      record {
        wide = w.wide;
        deep = w.deep;
        forward = omega (arith, w);
        inside = inside;
        some = some;
        few = few;
        tree = left;
        said = w.said ++ rs;
        few_records = few_records;
        made = made;
        rest = λ out h. said_then w.said rs out (w.rest _ (f out h));
      }

  pub left_ends : (y ≡ 27 → ⊥) → (y ≡ 20 → ⊥) → (y ≡ 18 → ⊥) → Met ks fs r₀ s₀ m₀ r₁ s₁ m₁ (left_hand_side at) n k₀ (Ok here)
  left_ends a b c =
      is_done refl record {
        trees = one w.tree;
        records = w.said;
        comes = comes_to (w.rest _ (links_end (λ q. a (k ∙ q)) (λ q. b (k ∙ q)) (λ q. c (k ∙ q)))) (after_done w.said _ _ _);
        made = w.made;
      }

  -- a member
  pub left_no_word : {z : ℕ} → y ≡ 27 → z ≡ get_or ks (here.at + 1) 0 → false ≡ is_word z
      → Met ks fs r₀ s₀ m₀ r₁ s₁ m₁ (left_hand_side at) n k₀ (Err (Cause.Unexpected (here.at + 1)))
  unfolding after_records
  left_no_word t l i =
      is_fail refl record {
        comes = w.rest _ (links_no_word (sym k ∙ t) (ap is_word (sym l) ∙ sym i));
        unmade = unmade_past w.wide w.deep w.made;
      }

  pub left_member : {z : ℕ} {r : List ℕ} {u : Cursor} → y ≡ 27 → z ≡ get_or ks (here.at + 1) 0 → true ≡ is_word z
      → Topped r₁ here Row.Member (here.at + 1) at (here.at + 2) 1 n r u → Linked ks fs r₀ s₀ m₀ at n k₀ r s₁ m₁ u
  unfolding count owes
  left_member t l i top =
      let now = topped_now top in
      let word = word_stands ks l i in
      let owe = owed_node Row.Member (here.at + 1) at (here.at + 2) (one w.tree) in
      relinks {left = node Row.Member (here.at + 1) at (here.at + 2) (one w.tree)} [] (omega (arith, now)) (omega (arith, word, now)) (omega (arith, w, now)) (omega (arith, w, now))
      (omega (arith, w.few_records, now, owe, owed_one w.tree)) (rw append-nil (made_top w.made top refl))
      (λ out f. rw after_none (links_member (sym k ∙ t) (ap is_word (sym l) ∙ sym i) (rw now.at_is at f)))

  -- an index
  pub left_index_refuses : {r s m : List ℕ} {p : Cause} → y ≡ 20
      → MetClosed ks fs r₁ s₁ m₁ r s m (expression (here.at + 1)) 21 Cause.Unexpected here.rows here.records (Err p)
      → Met ks fs r₀ s₀ m₀ r s m (left_hand_side at) n k₀ (Err p)
  unfolding after_records
  left_index_refuses t h =
      let f = h.closed_fail _ refl in
      is_fail refl record {
        comes = w.rest _ (not_closed (λ q. links_index_fails (sym k ∙ t)) (λ i ts rs. links_index_open (sym k ∙ t)) f.why);
        unmade = unmade_after w.wide w.deep w.made f.unmade;
      }

  pub left_index : {r₂ r s m : List ℕ} {d u : Cursor} → y ≡ 20
      → MetClosed ks fs r₁ s₁ m₁ r₂ s m (expression (here.at + 1)) 21 Cause.Unexpected here.rows here.records (Ok d)
      → Topped r₂ d Row.Index at at d.at 2 n r u → Linked ks fs r₀ s₀ m₀ at n k₀ r s m u
  unfolding count join owes
  left_index {m = m} {d = d} t h top =
      let g = h.closed_to _ refl in
      let inner = closed_read g in
      let move = moved _ inner refl in
      let last = stands ks g.token in
      let now = topped_now top in
      let past = g.past in
      let owe = owed_node Row.Index at at d.at (cons w.tree g.trees) in
      let one_g = count_one _ _ (single _ inner refl) in
      relinks {left = node Row.Index at at d.at (cons w.tree g.trees)} g.records (omega (arith, now, move, past)) (omega (arith, last, now, past)) (omega (arith, w, now, move))
      (omega (arith, w, now, move, past)) (omega (arith, w.few_records, now, move, past, owe, oweds_cons w.tree g.trees)) (made_top (made_then w.made g.made) top (omega (arith, one_g)))
      (λ out f.
      links_index (sym k ∙ t) g.comes g.token
      (subst (λ (q : ℕ). Comes ks fs (links at q (node Row.Index at at q (cons w.tree g.trees))) m out) past (rw now.at_is at f)))

  -- a call
  stands_here : Grown r₁ n r₁ here.rows (one w.tree)
  stands_here = stands_now w.wide w.made.grown

  pub left_operand : Room ks r₁ s₁ here → y ≡ 18 → k₀ ≤ at → Operand ks r₁ here at n
  left_operand room t le =
      record {
        next = stands ks (sym k ∙ t);
        began = w.forward;
        some = w.some;
        left = w.tree;
        stands = stands_here;
        few_rows = w.few;
        few_records = omega (arith, w.few_records, le);
      }

  abbrev Called : (r s m : List ℕ) → Step → Type 0
  Called r s m x = MetOver ks fs r₁ s₁ m₁ r s m (λ left. arguments at (here.at + 1) (one left)) n here.rows here.records x

  module _ {r s m : List ℕ} (t : y ≡ 18) where
    pub left_call_refuses : {p : Cause} → Called r s m (Err p) → Met ks fs r₀ s₀ m₀ r s m (left_hand_side at) n k₀ (Err p)
    unfolding after_records
    left_call_refuses h =
        let f = (h.over_one w.tree stands_here).fail_at _ refl in
        is_fail refl record { comes = w.rest _ (links_call_fails (sym k ∙ t) f.comes); unmade = unmade_over w.wide w.deep w.made f.unmade }

    -- how far it goes
    pub left_call_reaches : {d : Cursor} → Called r s m (Ok d) → Reaches ks here.at d.at
    left_call_reaches h =
        let g = (h.over_one w.tree stands_here).done_to _ refl in
        let b = bounded g.comes.settles in
        record { forward = omega arith; inside = omega arith }

    pub left_call : {d : Cursor} → Called r s m (Ok d) → Linked ks fs r₀ s₀ m₀ at n k₀ r s m d
    left_call h =
        let g = (h.over_one w.tree stands_here).done_to _ refl in
        let b = bounded g.comes.settles in
        let a = one_of g b.single in
        let owe = ap oweds a.alone ∙ owed_one a.tree in
        let used = g.made.grown.used in
        let said = g.made.recorded.used in
        let before = w.made.grown.used in
        relinks a.records (omega (arith, b)) (omega (arith, b)) a.some (omega (arith, w, b, used, before)) (omega (arith, w.few_records, b, owe, owed_one w.tree, said))
        (made_over w.wide w.made a.made) (λ out f. links_call (sym k ∙ t) a.comes f)
