-- `head`, 15.3 and 15.9: each way out of it.
-- Assumes nothing.
use Rattle.std.specs.Prelude.{Ok, Err}
use Prim.Native.Nat.{ℕ, ◌+◌}
use mathlib.Core.Path.{◌≡◌, refl, sym, ◌∙◌}
use mathlib.Core.List.{List}
use native.Mathlib.Omega.{arith}
use borrow.Author.Tests.{ne_eqb}
use lib.ListN.{get_or}
use Rattle.tokens.specs.declared.cause.Cause.{Cause}
use Rattle.rows.specs.Tree.{Forest, nil}
use Rattle.rows.specs.Record.{Record}
use Rattle.grammar.specs.Sheet.{done, fail}
use Rattle.grammar.specs.Job.{Job, head, parameters}
use Rattle.build.specs.Post.{Comes, Room, Refused, ListTo, MetList}
use Rattle.build.specs.declared.cursor.Cursor.{Cursor}
use Rattle.build.specs.Post.{Listed}
use Rattle.build.proofs.Rules.{head_break, head_async_no_paren, head_async_fails, head_async_no_arrow, head_async_done, head_no_paren, head_fails, head_no_arrow, head_done}
use Rattle.build.proofs.Results.{at_ok, at_err, not_ok, not_err}
use Rattle.build.proofs.Makes.{unmade_none, unmade_past}

-- a list that is done, and one that fails
module _ {ks fs r₀ s₀ m₀ r s m : List ℕ} {job : Job} {n k : ℕ} where
  pub is_listed : {d : Cursor} {kids : ℕ} → ListTo ks fs r₀ s₀ m₀ r s m job n k d kids → MetList ks fs r₀ s₀ m₀ r s m job n k (Ok (d, kids))
  is_listed h = record {
    list_to = λ d kids q. at_ok (λ (z : Cursor × ℕ). ListTo ks fs r₀ s₀ m₀ r s m job n k z.0 z.1) refl h (d, kids) q;
    list_fail = not_err _ refl;
  }

  pub is_not_listed : {p : Cause} {x : Listed} → x ≡ Err p → Refused ks fs r₀ s₀ m₀ r s m job n k p → MetList ks fs r₀ s₀ m₀ r s m job n k x
  is_not_listed e h = record { list_to = λ d kids q. not_ok (λ _. ListTo ks fs r₀ s₀ m₀ r s m job n k d kids) e (d, kids) q; list_fail = at_err _ e h }

-- where the `(` of a head stands: here, or after Async with no line break
pub data Opens (ks fs : List ℕ) (at paren : ℕ) : Type 0 where
  plain : (get_or ks at 0 ≡ 2 → ⊥) → paren ≡ at → Opens ks fs at paren
  asynced : get_or ks at 0 ≡ 2 → (get_or fs (at + 1) 0 ≡ 1 → ⊥) → paren ≡ at + 1 → Opens ks fs at paren

pub opens_plain : {ks fs : List ℕ} {at paren y : ℕ} → y ≡ get_or ks at 0 → (y ≡ 2 → ⊥) → paren ≡ at → Opens ks fs at paren
opens_plain k t e = plain (λ q. t (k ∙ q)) e

pub opens_async : {ks fs : List ℕ} {at paren y z : ℕ} → y ≡ get_or ks at 0 → y ≡ 2 → z ≡ get_or fs (at + 1) 0 → (z ≡ 1 → ⊥) → paren ≡ at + 1 → Opens ks fs at paren
opens_async k t l u e = asynced (sym k ∙ t) (λ q. u (l ∙ q)) e

module _ {ks fs m : List ℕ} {at paren : ℕ} where
  no_paren : Opens ks fs at paren → (get_or ks paren 0 ≡ 18 → ⊥) → Comes ks fs (head at) m (fail (Cause.Unexpected paren) m)
  no_paren (plain n e) p = rw e (head_no_paren n (rw e at p))
  no_paren (asynced a n e) p = rw e (head_async_no_paren a (ne_eqb _ _ n) (rw e at p))

  module _ {m' : List ℕ} where
    paren_fails : {c : Cause} → Opens ks fs at paren → get_or ks paren 0 ≡ 18 → Comes ks fs (parameters (paren + 1) nil) m (fail c m') → Comes ks fs (head at) m (fail c m')
    paren_fails (plain n e) p h = head_fails n (rw e at p) (rw e at h)
    paren_fails (asynced a n e) p h = head_async_fails a (ne_eqb _ _ n) (rw e at p) (rw e at h)

    paren_no_arrow : {p : ℕ} {ts : Forest} {rs : List Record} → Opens ks fs at paren → get_or ks paren 0 ≡ 18 → Comes ks fs (parameters (paren + 1) nil) m (done p ts rs m')
        → (get_or ks p 0 ≡ 29 → ⊥) → Comes ks fs (head at) m (fail (Cause.Unexpected p) m')
    paren_no_arrow (plain n e) o h t = head_no_arrow n (rw e at o) (rw e at h) t
    paren_no_arrow (asynced a n e) o h t = head_async_no_arrow a (ne_eqb _ _ n) (rw e at o) (rw e at h) t

    paren_done : {p : ℕ} {ts : Forest} {rs : List Record} → Opens ks fs at paren → get_or ks paren 0 ≡ 18 → Comes ks fs (parameters (paren + 1) nil) m (done p ts rs m')
        → get_or ks p 0 ≡ 29 → Comes ks fs (head at) m (done p ts rs m')
    paren_done (plain n e) o h t = head_done n (rw e at o) (rw e at h) t
    paren_done (asynced a n e) o h t = head_async_done a (ne_eqb _ _ n) (rw e at o) (rw e at h) t

module _ {ks fs r₀ s₀ m₀ : List ℕ} {c : Cursor} (room : Room ks r₀ s₀ c) where
  pub head_breaks : {y z : ℕ} → y ≡ get_or ks c.at 0 → y ≡ 2 → z ≡ get_or fs (c.at + 1) 0 → z ≡ 1
      → MetList ks fs r₀ s₀ m₀ r₀ s₀ m₀ (head c.at) c.rows c.records (Err (Cause.Unexpected (c.at + 1)))
  head_breaks k t l u = is_not_listed refl record { comes = head_break (sym k ∙ t) (rw (sym l ∙ u)); unmade = unmade_none }

  module _ {paren y : ℕ} (o : Opens ks fs c.at paren) (k : y ≡ get_or ks paren 0) where
    pub head_no_parens : (y ≡ 18 → ⊥) → MetList ks fs r₀ s₀ m₀ r₀ s₀ m₀ (head c.at) c.rows c.records (Err (Cause.Unexpected paren))
    head_no_parens t = is_not_listed refl record { comes = no_paren o (λ q. t (k ∙ q)); unmade = unmade_none }

    module _ (t : y ≡ 18) {r s m : List ℕ} where
      pub head_refused : {p : Cause} → MetList ks fs r₀ s₀ m₀ r s m (parameters (paren + 1) nil) c.rows c.records (Err p)
          → MetList ks fs r₀ s₀ m₀ r s m (head c.at) c.rows c.records (Err p)
      head_refused h = let f = h.list_fail _ refl in is_not_listed refl record { comes = paren_fails o (sym k ∙ t) f.comes; unmade = f.unmade }

      pub head_no_arrows : {d : Cursor} {kids z : ℕ} → MetList ks fs r₀ s₀ m₀ r s m (parameters (paren + 1) nil) c.rows c.records (Ok (d, kids)) → z ≡ get_or ks d.at 0 → (z ≡ 29 → ⊥)
          → MetList ks fs r₀ s₀ m₀ r s m (head c.at) c.rows c.records (Err (Cause.Unexpected d.at))
      head_no_arrows h l u =
          let f = h.list_to _ _ refl in
          is_not_listed refl record { comes = paren_no_arrow o (sym k ∙ t) f.comes (λ q. u (l ∙ q)); unmade = unmade_past (omega (arith, room)) (omega (arith, room)) f.made }

      pub head_dones : {d : Cursor} {kids z : ℕ} → MetList ks fs r₀ s₀ m₀ r s m (parameters (paren + 1) nil) c.rows c.records (Ok (d, kids)) → z ≡ get_or ks d.at 0 → z ≡ 29
          → MetList ks fs r₀ s₀ m₀ r s m (head c.at) c.rows c.records (Ok (d, kids))
      head_dones h l u =
          let f = h.list_to _ _ refl in
          is_listed record { trees = f.trees; records = f.records; comes = paren_done o (sym k ∙ t) f.comes (sym l ∙ u); made = f.made; counted = f.counted }
