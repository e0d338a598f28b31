-- `prefixes`, 13.5 and 13.4: the rows of prefix operators from the innermost out, each turn and each way out.
-- Assumes nothing.
use Rattle.std.specs.Prelude.{Ok, Err}
use Prim.Native.Nat.{ℕ, zero, suc, ◌+◌, ◌-◌, ◌*◌, ◌≤◌, ◌<◌}
use mathlib.Core.Path.{◌≡◌, refl, sym, ap, subst, ◌∙◌}
use mathlib.Core.Bool.{Bool, true, false}
use mathlib.Core.List.{List, [], ◌++◌, append-nil, append_assoc}
use native.Mathlib.Nat.{add-zero}
use native.Mathlib.Omega.{arith}
use lib.Dec.{eqb}
use lib.ListN.{length, get_or}
use borrow.Author.Tests.{eqb-true}
use Rattle.tokens.specs.Bool.{◌or◌}
use Rattle.tokens.specs.Kind.{Plus2, Minus2}
use Rattle.tokens.specs.declared.cause.Cause.{Cause}
use Rattle.tokens.proofs.Stands.{stands_not}
use Rattle.rows.specs.Tree.{Tree, node, one, count}
use Rattle.rows.specs.Record.{Record}
use Rattle.rows.specs.Row as Row
use Rattle.rows.specs.Post.{Grown}
use Rattle.rows.proofs.Rows.{grown_row}
use Rattle.conversion.specs.Conversion.{simple}
use Rattle.conversion.specs.Conversion.{potential, potentials}
use Rattle.targets.specs.Post as Targets
use Rattle.targets.specs.Outcome.{Conversion}
use Rattle.grammar.specs.Sheet.{done, fail}
use Rattle.grammar.specs.Job.{unary}
use Rattle.grammar.specs.Update.{is_unary_operator, is_update_operator}
use Rattle.build.specs.Post.{cursor, Comes, Made, Topped}
use Rattle.build.specs.Operation.{is_prefix_operator, PrefixFits, PrefixedTo, PrefixedFail, Before, MetPrefixes}
use Rattle.build.specs.declared.cursor.Cursor.{Cursor}
use Rattle.build.specs.Post.{Step}
use Rattle.build.proofs.Rules.{unary_fails, unary_done, update_fails, update_refused, update_done}
use Rattle.build.proofs.Makes.{stands_now, stands_made, made_top, made_over, unmade_past}
use Rattle.build.proofs.Converts.{rooted, Turned, is_turned, is_refused, turned_few}
use Rattle.build.proofs.Results.{at_ok, at_err, not_ok, not_err}

-- what may stand before an operand stands before the end
pub prefix_stands : (ks : List ℕ) (i : ℕ) → is_prefix_operator (get_or ks i 0) ≡ true → i < length ks
unfolding is_unary_operator is_update_operator
prefix_stands ks i e = stands_not ks i (λ z. let y = rw z at e in absurd (cc))

-- it is an operator of 13.5 or an update, and not both
update_not_unary : (k : ℕ) → is_update_operator k ≡ true → is_unary_operator k ≡ false
unfolding is_unary_operator is_update_operator
update_not_unary k e = go (eqb k Plus2) refl (eqb k Minus2) refl e
  where
    go : (a : Bool) → eqb k Plus2 ≡ a → (b : Bool) → eqb k Minus2 ≡ b → (a or b) ≡ true → is_unary_operator k ≡ false
    go true p b q t = rw (eqb-true k Plus2 p)
    go false p true q t = rw (eqb-true k Minus2 q)
    go false p false q t = absurd (cc)

else_unary : (a b : Bool) → (a or b) ≡ true → b ≡ false → a ≡ true
else_unary true b e f = refl
else_unary false b e f = absurd (cc)

module _ {ks fs : List ℕ} {m₀ m : List ℕ} {c : Cause} where
  fails_at : (i : ℕ) → is_prefix_operator (get_or ks i 0) ≡ true → Comes ks fs (unary (i + 1)) m₀ (fail c m) → Comes ks fs (unary i) m₀ (fail c m)
  fails_at i e h = go (is_update_operator (get_or ks i 0)) refl
    where
      go : (b : Bool) → is_update_operator (get_or ks i 0) ≡ b → Comes ks fs (unary i) m₀ (fail c m)
      go true u = update_fails (prefix_stands ks i e) (update_not_unary _ u) u h
      go false u = unary_fails (prefix_stands ks i e) (else_unary _ _ e u) h

  -- every prefix operator fails where its operand does
  through : (first n : ℕ) → ((i : ℕ) → first ≤ i → i < first + n → is_prefix_operator (get_or ks i 0) ≡ true) → Comes ks fs (unary (first + n)) m₀ (fail c m)
      → Comes ks fs (unary first) m₀ (fail c m)
  through first zero h f = subst (λ (i : ℕ). Comes ks fs (unary i) m₀ (fail c m)) (add-zero first) f
  through first (suc n) h f =
      through first n (λ i a b. h i a (omega arith))
      (fails_at (first + n) (h (first + n) (omega arith) (omega arith))
      (subst (λ (i : ℕ). Comes ks fs (unary i) m₀ (fail c m)) (let e : first + suc n ≡ first + n + 1 = omega arith in e) f))

  pub all_fail : (first at : ℕ) → first ≤ at → ((i : ℕ) → first ≤ i → i < at → is_prefix_operator (get_or ks i 0) ≡ true) → Comes ks fs (unary at) m₀ (fail c m)
      → Comes ks fs (unary first) m₀ (fail c m)
  all_fail first at le h f =
      let e : at ≡ first + (at - first) = omega arith in
      through first (at - first) (λ i a b. h i a (omega arith)) (subst (λ (i : ℕ). Comes ks fs (unary i) m₀ (fail c m)) e f)

-- what the operand and the operators from here on come to
pub record Sofar (ks fs r₀ s₀ : List ℕ) (d : Cursor) (at from : ℕ) (m₀ m : List ℕ) (rs : List Record) (r s : List ℕ) (here : Cursor) : Type 0 where
  pub tree : Tree
  pub records : List Record
  pub comes : Comes ks fs (unary at) m₀ (done d.at (one tree) (rs ++ records) m)
  pub made : Made r₀ s₀ from d.records r s here (one tree) records
  pub deep : 2 * (here.records + potential tree) ≤ length s₀

-- the loop: so many rows are written, and some tree stands there
pub record Prefixing (ks r₀ s₀ : List ℕ) (d : Cursor) (first start from : ℕ) (r s : List ℕ) (here : Cursor) (at : ℕ) : Type 0 where
  pub low : first ≤ at
  pub high : at ≤ start
  pub place : here.at ≡ d.at
  pub rows : here.rows + at ≡ d.rows + start
  pub rows_long : length r ≡ length r₀
  pub records_long : length s ≡ length s₀
  pub now_one : Tree
  pub stands : Grown r from r here.rows (one now_one)
  pub deep : 2 * (here.records + potential now_one) ≤ length s₀
  pub small : here.records + potential now_one ≤ 2048
  pub so : (fs m₀ m : List ℕ) (rs : List Record) → Before ks fs r₀ s₀ d start from m₀ m rs → Sofar ks fs r₀ s₀ d at from m₀ m rs r s here

-- a row of no record over one tree owes what the tree owes
unary_owes : (mark end : ℕ) (t : Tree) → potential (node Row.Unary mark mark end (one t)) ≡ potential t
unfolding potential potentials
unary_owes mark end t = omega arith

update_owes : (mark end : ℕ) (t : Tree) → potential (node Row.PrefixUpdate mark mark end (one t)) ≡ potential t
unfolding potential potentials
update_owes mark end t = omega arith

module _ {ks r₀ s₀ : List ℕ} {d : Cursor} {first start from : ℕ} (fits : PrefixFits ks r₀ s₀ d first start from) where
  pub prefixes_start : Prefixing ks r₀ s₀ d first start from r₀ s₀ d start
  prefixes_start =
      record {
        low = fits.before;
        high = omega arith;
        place = refl;
        rows = refl;
        rows_long = refl;
        records_long = refl;
        now_one = fits.operand;
        stands = fits.stands;
        deep = fits.deep;
        small = fits.records_small;
        so = λ fs m₀ m rs b. record {
          tree = b.left;
          records = [];
          comes = subst (λ (l : List Record). Comes ks fs (unary start) m₀ (done d.at (one b.left) l m)) (sym (append-nil rs)) b.comes;
          made = stands_made d b.stands;
          deep = b.deep;
        };
      }

  pub prefixes_done : {r s : List ℕ} {here : Cursor} {at : ℕ} → Prefixing ks r₀ s₀ d first start from r s here at → at ≤ first → MetPrefixes ks r₀ s₀ d first start from r s (Ok here)
  prefixes_done {r} {s} {here} {at} w e =
      record {
        done_to = λ u q fs m₀ m rs b.
            let z = w.so fs m₀ m rs b in
            let p : at ≡ first = omega (arith, w) in
            at_ok (λ (x : Cursor). PrefixedTo ks fs r₀ s₀ d first from m₀ m rs r s x) refl
            record {
              tree = z.tree;
              records = z.records;
              comes = rw (w.place, sym p) z.comes;
              made = z.made;
            } u q;
        fail_at = not_err _ refl;
      }

  -- an operator of 13.5
  pub prefixes_unary : {r s r' : List ℕ} {here u : Cursor} {at : ℕ} → Prefixing ks r₀ s₀ d first start from r s here at → first < at
      → is_update_operator (get_or ks (at - 1) 0) ≡ false → Topped r here Row.Unary (at - 1) (at - 1) d.at 1 from r' u → length r' ≡ length r
      → Prefixing ks r₀ s₀ d first start from r' s u (at - 1)
  unfolding count
  prefixes_unary {r} {s} {r'} {here} {u} {at} w lt e top l =
      let i = at - 1 in
      let back : i + 1 ≡ at = omega arith in
      let isa = ap (λ (x : Cursor). x.at) top.is in
      let isr = ap (λ (x : Cursor). x.rows) top.is in
      let iss = ap (λ (x : Cursor). x.records) top.is in
      let op = fits.operators i (omega arith) (omega (arith, w)) in
      let one_op : is_unary_operator (get_or ks i 0) ≡ true = else_unary _ _ op e in
      let owes = unary_owes i d.at w.now_one in
      record {
        low = omega arith;
        high = omega (arith, w);
        place = isa;
        rows = omega (arith, w, isr);
        rows_long = l ∙ w.rows_long;
        records_long = w.records_long;
        now_one = node Row.Unary i i d.at (one w.now_one);
        stands = subst (λ (n : ℕ). Grown r' from r' n (one (node Row.Unary i i d.at (one w.now_one)))) (sym isr) (stands_now (omega (arith, w, fits)) (grown_row w.stands top.pushed refl refl refl refl));
        deep = omega (arith, w, iss, owes);
        small = omega (arith, w, iss, owes);
        so = λ fs m₀ m rs b.
            let z = w.so fs m₀ m rs b in
            let owes_it = unary_owes i d.at z.tree in
            record {
              tree = node Row.Unary i i d.at (one z.tree);
              records = z.records;
              comes = unary_done (prefix_stands ks i op) one_op (subst (λ (j : ℕ). Comes ks fs (unary j) m₀ (done d.at (one z.tree) (rs ++ z.records) m)) (sym back) z.comes);
              made = made_top z.made top refl;
              deep = omega (arith, z, iss, owes_it);
            };
      }

  inside : {r s : List ℕ} {here : Cursor} {at : ℕ} → Prefixing ks r₀ s₀ d first start from r s here at → first < at → at - 1 < length ks
  inside {at = at} w lt = prefix_stands ks (at - 1) (fits.operators (at - 1) (omega arith) (omega (arith, w)))

  -- an update of what is no simple target
  pub prefixes_refuse : {r s r' s' : List ℕ} {here : Cursor} {at : ℕ} {x : Conversion} {y : Step} {cause : Cause} → Prefixing ks r₀ s₀ d first start from r s here at → first < at
      → is_update_operator (get_or ks (at - 1) 0) ≡ true → Targets.RowConverted r s (here.rows - 1) simple here.records r' s' x → x ≡ Err cause → y ≡ Err cause
      → MetPrefixes ks r₀ s₀ d first start from r' s' y
  prefixes_refuse {r} {s} {r'} {s'} {here} {at} w lt u c e y =
      let n : here.rows ≡ here.rows - 1 + 1 = omega (arith, w, fits) in
      let i = at - 1 in
      let back : i + 1 ≡ at = omega arith in
      record {
        done_to = not_ok _ y;
        fail_at = λ other j fs m₀ m rs b.
            let z = w.so fs m₀ m rs b in
            let g = stands_now (omega (arith, w, fits)) z.made.grown in
            let t = is_refused c z.tree g n (omega (arith, w, fits)) (omega (arith, w, z)) e in
            at_err (λ (c : Cause). PrefixedFail ks fs r₀ s₀ d first from m₀ m r' s' c) y
            record {
              comes = all_fail first i (omega arith) (λ l lo hi. fits.operators l lo (omega (arith, w))) (update_refused (inside w lt) (update_not_unary _ u) u (subst (λ (j : ℕ). Comes ks fs (unary j) m₀ (done d.at (one z.tree) (rs ++ z.records) m)) (sym back) z.comes) t.converts);
              unmade = rw (t.rows_same, t.records_same) (unmade_past (omega (arith, fits)) (omega (arith, b)) z.made);
            } other j;
      }

  -- an update of a simple target: what is made of the operand and the operators so far
  sofar_update : {fs m₀ m r s r₁ r' s' : List ℕ} {rs : List Record} {here v : Cursor} {at counted : ℕ} → Prefixing ks r₀ s₀ d first start from r s here at → first < at
      → is_update_operator (get_or ks (at - 1) 0) ≡ true → (z : Sofar ks fs r₀ s₀ d at from m₀ m rs r s here)
      → Turned r s from here.rows here.records z.tree simple counted r₁ s'
      → Topped r₁ (cursor here.at here.rows (here.records + counted)) Row.PrefixUpdate (at - 1) (at - 1) d.at 1 from r' v → Sofar ks fs r₀ s₀ d (at - 1) from m₀ m rs r' s' v
  unfolding count
  sofar_update {fs} {m₀} {m} {rs = rs} {here} {at = at} w lt u z y top =
      let i = at - 1 in
      let back : i + 1 ≡ at = omega arith in
      let iss = ap (λ (x : Cursor). x.records) top.is in
      let fewer = turned_few y in
      let owes = update_owes i d.at y.target in
      record {
        tree = node Row.PrefixUpdate i i d.at (one y.target);
        records = z.records ++ y.records;
        comes =
            rw (sym (append_assoc rs z.records y.records))
            (update_done (inside w lt) (update_not_unary _ u) u (subst (λ (j : ℕ). Comes ks fs (unary j) m₀ (done d.at (one z.tree) (rs ++ z.records) m)) (sym back) z.comes) y.converts);
        made = made_top (made_over (omega (arith, fits)) z.made (y.made here.at)) top refl;
        deep = omega (arith, z.deep, iss, owes, fewer);
      }

  pub prefixes_update : {r s r₁ r' s' : List ℕ} {here v : Cursor} {at counted : ℕ} {x : Conversion} → Prefixing ks r₀ s₀ d first start from r s here at → first < at
      → is_update_operator (get_or ks (at - 1) 0) ≡ true → Targets.RowConverted r s (here.rows - 1) simple here.records r₁ s' x → x ≡ Ok counted
      → Topped r₁ (cursor here.at here.rows (here.records + counted)) Row.PrefixUpdate (at - 1) (at - 1) d.at 1 from r' v → length r₁ ≡ length r → length s' ≡ length s → length r' ≡ length r₁
      → Prefixing ks r₀ s₀ d first start from r' s' v (at - 1)
  unfolding count
  prefixes_update {r} {s} {r₁} {r'} {s'} {here} {v} {at} {counted = counted} w lt u c e top l₁ l₂ l₃ =
      let n : here.rows ≡ here.rows - 1 + 1 = omega (arith, w, fits) in
      let i = at - 1 in
      let isr = ap (λ (y : Cursor). y.rows) top.is in
      let iss = ap (λ (y : Cursor). y.records) top.is in
      let t = is_turned c w.now_one w.stands n (omega (arith, w, fits)) (omega (arith, w)) e in
      let few = turned_few t in
      let owes = update_owes i d.at t.target in
      record {
        low = omega arith;
        high = omega (arith, w);
        place = ap (λ (y : Cursor). y.at) top.is;
        rows = omega (arith, w, isr);
        rows_long = l₃ ∙ l₁ ∙ w.rows_long;
        records_long = l₂ ∙ w.records_long;
        now_one = node Row.PrefixUpdate i i d.at (one t.target);
        stands =
            subst (λ (h : ℕ). Grown r' from r' h (one (node Row.PrefixUpdate i i d.at (one t.target)))) (sym isr)
            (stands_now (omega (arith, w, fits)) (grown_row (t.made d.at).grown top.pushed refl refl refl refl));
        deep = omega (arith, w, iss, owes, few);
        small = omega (arith, w, iss, owes, few);
        so = λ fs m₀ m rs b.
            let z = w.so fs m₀ m rs b in
            sofar_update w lt u z (is_turned c z.tree (stands_now (omega (arith, w, fits)) z.made.grown) n (omega (arith, w, fits)) (omega (arith, w, z)) e) top;
      }

  -- room for a conversion
  pub prefixes_room : {r s : List ℕ} {here : Cursor} {at : ℕ} → Prefixing ks r₀ s₀ d first start from r s here at → Targets.Room r (here.rows - 1) (length s) here.records
  prefixes_room w = record { rooted = rooted w.stands (omega (arith, w, fits)) (omega (arith, w, fits)); room = omega (arith, w) }

  -- and its records are few
  pub prefixes_few : {r s r₁ s' : List ℕ} {here : Cursor} {at counted : ℕ} {x : Conversion} → Prefixing ks r₀ s₀ d first start from r s here at
      → Targets.RowConverted r s (here.rows - 1) simple here.records r₁ s' x → x ≡ Ok counted → here.records + counted ≤ 2048
  prefixes_few w c e =
      let few = turned_few (is_turned c w.now_one w.stands (omega (arith, w, fits)) (omega (arith, w, fits)) (omega (arith, w)) e) in
      omega (arith, w, few)
