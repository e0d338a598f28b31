-- An expression of one token: what it comes to at each level, from the primary expression up to the assignment expression.
-- Assumes nothing.
use Rattle.std.specs.Prelude.{if◌then◌else◌, Ok, Some, None}
use Prim.Native.Nat.{ℕ, ◌+◌, ◌≤◌, ◌<◌}
use mathlib.Core.Path.{◌≡◌, refl, sym, ap, ◌∙◌}
use mathlib.Core.Bool.{Bool, true, false}
use mathlib.Core.List.{List, []}
use native.Mathlib.Omega.{arith}
use native.Mathlib.Decide.{ℕ_discrete}
use lib.Dec.{leb}
use lib.ListN.{length, get_or}
use borrow.Author.Tests.{eqb-true, eqb-false, leb-true, leb-false, le-leb, lt-leb, ne_eqb}
use Rattle.tokens.specs.Bool.{◌or◌, ◌and◌, ◌is◌, between}
use Rattle.tokens.specs.Kind.{Async, This, Dot3, LParen, RParen, LBrack, RBrack, RCurly, Comma, Colon, Question, Dot, Arrow}
use Rattle.tokens.specs.Token.{is_name, is_literal}
use Rattle.operators.specs.Precedence.{level, expression_level}
use Rattle.rows.specs.Tree.{one, kind_of}
use Rattle.rows.specs.Row as Row
use Rattle.grammar.specs.Sheet.{Out, done, leaf, after_records}
use Rattle.grammar.specs.Job.{primary, unary, binary, value, assignment, spread}
use Rattle.grammar.specs.Assignment.{is_assignment_operator, is_async_name}
use Rattle.grammar.specs.Update.{is_unary_operator, is_update_operator}
use Rattle.laws.proofs.Good.{and_left, and_right}
use Rattle.laws.proofs.Bounds.{bounded}
use Rattle.build.specs.Post.{Comes, Met, Leafed}
use Rattle.heads.specs.Heads.{may_open}
use Rattle.heads.specs.Singles.{single_row, goes_on, closes, single_operand, single_part}
use Rattle.build.specs.declared.cursor.Cursor.{Cursor}
use Rattle.build.proofs.Rules.{primary_name, primary_this, primary_literal, left_more, links_end, postfix_none, unary_none, binary_more, operators_end, value_stops}
use Rattle.heads.proofs.Opens.{closed}
use Rattle.build.proofs.Ways.{assignment_passes}
use Rattle.build.proofs.Makes.{is_leafed}

pub neither : (a b : Bool) → (a or b) ≡ false → (a ≡ false) × (b ≡ false)
neither true b e = let z : ◌≡◌ {A = ℕ} 0 1 = cc in absurd (omega arith)
neither false b e = (refl, e)

no_and : (a b : Bool) → b ≡ false → (a and b) ≡ false
no_and true b e = e
no_and false b e = refl

-- KINDS
-- the kinds of one token are small
single_small : {x : ℕ} (k : ℕ) → single_row k ≡ Some x → k ≤ 22
unfolding single_row is_name is_literal
single_small {x} k h = go (leb k 22) refl
  where
    go : (b : Bool) → leb k 22 ≡ b → k ≤ 22
    go true q = leb-true k 22 q
    go false q =
        let l : 22 < k = leb-false k 22 q in
        let e : None ≡ Some x = rw (le-leb 1 k (omega arith), lt-leb k 5 (omega arith), ne_eqb k This (λ z. omega arith), le-leb 8 k (omega arith), lt-leb k 13 (omega arith)) at h in
        absurd (cc)

-- a token that is no expression
pub no_single : (k : ℕ) → single_row k ≡ None → (is_name k ≡ false) × (k ≡ This → ⊥) × (is_literal k ≡ false)
unfolding single_row
no_single k e = go (is_name k) (k is This) (is_literal k) refl refl refl e
  where
    go : (n t l : Bool) → is_name k ≡ n → k is This ≡ t → is_literal k ≡ l → (if n then Some Row.Identifier else if t then Some Row.This else if l then Some Row.Literal else None) ≡ None
        → (is_name k ≡ false) × (k ≡ This → ⊥) × (is_literal k ≡ false)
    go true t l p q r e = absurd (cc)
    go false true l p q r e = absurd (cc)
    go false false true p q r e = absurd (cc)
    go false false false p q r e = (p, eqb-false _ _ q, r)

-- what may follow an operand of one token that ends there, and an assignment expression
unlinked : (k : ℕ) → goes_on k ≡ false → (is_update_operator k ≡ false) × (k ≡ Dot → ⊥) × (k ≡ LBrack → ⊥) × (k ≡ LParen → ⊥)
unfolding goes_on
unlinked k e = let a = neither _ _ e in let b = neither _ _ a.1 in let d = neither _ _ b.1 in (a.0, eqb-false _ _ b.0, eqb-false _ _ d.0, eqb-false _ _ d.1)

record Follows (k : ℕ) : Type 0 where
  links : goes_on k ≡ false
  no_operator : expression_level k ≡ 0
  no_arrow : k is Arrow ≡ false
  no_assignment : is_assignment_operator k ≡ false
  no_question : k is Question ≡ false

module _ (k : ℕ) where
  by : (l : ℕ) → k ≡ l → goes_on l ≡ false → expression_level l ≡ 0 → l is Arrow ≡ false → is_assignment_operator l ≡ false → l is Question ≡ false → Follows k
  by l e a b c d f = rw e record { links = a; no_operator = b; no_arrow = c; no_assignment = d; no_question = f }

  follows : closes k ≡ true → Follows k
  unfolding closes goes_on is_update_operator expression_level level is_assignment_operator
  follows e = go (between Comma Colon k) refl e
    where
      last : (x y : Bool) → k is RParen ≡ x → k is RBrack ≡ y → (x or y or k is RCurly) ≡ true → Follows k
      last true y p q t = by RParen (eqb-true k RParen p) refl refl refl refl refl
      last false true p q t = by RBrack (eqb-true k RBrack q) refl refl refl refl refl
      last false false p q t = by RCurly (eqb-true k RCurly t) refl refl refl refl refl

      near : 24 ≤ k → k ≤ 25 → Dec (k ≡ 24) → Follows k
      near a b (yes z) = by 24 z refl refl refl refl refl
      near a b (no z) = by 25 (omega arith) refl refl refl refl refl

      go : (x : Bool) → between Comma Colon k ≡ x → (x or k is RParen or k is RBrack or k is RCurly) ≡ true → Follows k
      go true p t = near (leb-true _ _ (and_left (leb Comma k) (leb k Colon) p)) (leb-true _ _ (and_right (leb Comma k) (leb k Colon) p)) (ℕ_discrete k 24)
      go false p t = last (k is RParen) (k is RBrack) refl refl t

-- WHAT IS COME TO
module _ (ks fs : List ℕ) (at : ℕ) (m : List ℕ) where
  abbrev token : ℕ
  token = get_or ks at 0

  abbrev single : ℕ → Out (List ℕ)
  single x = done (at + 1) (one (leaf x at)) [] m

  module _ {x : ℕ} (h : single_row token ≡ Some x) where
    primary_single : Comes ks fs (primary at) m (single x)
    unfolding single_row
    primary_single = go (is_name token) (token is This) (is_literal token) refl refl refl h
      where
        go : (n t l : Bool) → is_name token ≡ n → token is This ≡ t → is_literal token ≡ l
            → (if n then Some Row.Identifier else if t then Some Row.This else if l then Some Row.Literal else None) ≡ Some x → Comes ks fs (primary at) m (single x)
        go true t l p q r e = let i : Row.Identifier ≡ x = cc in rw (← i) (primary_name p)
        go false true l p q r e = let i : Row.This ≡ x = cc in rw (← i) (primary_this (eqb-true _ _ q))
        go false false true p q r e = let i : Row.Literal ≡ x = cc in rw (← i) (primary_literal p (eqb-false _ _ q) r)
        go false false false p q r e = absurd (cc)

    unary_single : goes_on (get_or ks (at + 1) 0) ≡ false → Comes ks fs (unary at) m (single x)
    unfolding after_records is_unary_operator is_update_operator
    unary_single g =
        let s = single_small token h in
        let f = unlinked _ g in
        unary_none (rw (lt-leb 30 token (omega arith), ne_eqb token 57 (λ z. omega arith), ne_eqb token 58 (λ z. omega arith)))
        (rw (ne_eqb token 36 (λ z. omega arith), ne_eqb token 37 (λ z. omega arith)))
        (postfix_none (left_more primary_single (links_end f.1 f.2 f.3)) (rw f.0))

    module _ (f : Follows (get_or ks (at + 1) 0)) where
      binary_single : Comes ks fs (binary 0 at) m (single x)
      unfolding after_records
      binary_single = binary_more (unary_single f.links) (operators_end (rw f.no_operator))

      value_single : (token is Async) ≡ false → Comes ks fs (value at) m (single x)
      unfolding is_async_name
      value_single a = value_stops (rw a) binary_single (no_and (kind_of (leaf x at) is Row.Identifier) _ f.no_arrow) f.no_assignment (eqb-false _ _ f.no_question)

      assignment_single : (token is Async) ≡ false → Comes ks fs (assignment at) m (single x)
      unfolding may_open single_row is_name is_literal
      assignment_single a =
          assignment_passes (closed ks fs m at (rw (ne_eqb token LParen (λ q. let e : None ≡ Some x = rw q at h in cc), a))) (value_single a)

-- THE FUNCTIONS
-- a token of one expression stands before the end
module _ (ks : List ℕ) (at : ℕ) where
  single_stands : {x : ℕ} → single_row (get_or ks at 0) ≡ Some x → at < length ks
  single_stands h = let w = bounded (primary_single ks ks at ks h).settles in omega arith

  pub primary_stands : {x y : ℕ} → y ≡ get_or ks at 0 → Some x ≡ single_row y → at < length ks
  primary_stands k e = single_stands (sym (e ∙ ap single_row k))

  -- what an operand, and a part, of one token has after it
  module _ {x : ℕ} where
    operand_is : Some x ≡ single_operand ks at → (goes_on (get_or ks (at + 1) 0) ≡ false) × (single_row (get_or ks at 0) ≡ Some x)
    unfolding single_operand
    operand_is e = go (goes_on (get_or ks (at + 1) 0)) e
      where
        go : (b : Bool) → Some x ≡ (if b then None else single_row (get_or ks at 0)) → (b ≡ false) × (single_row (get_or ks at 0) ≡ Some x)
        go true q = absurd (cc)
        go false q = (refl, sym q)

    part_is : Some x ≡ single_part ks at → (closes (get_or ks (at + 1) 0) ≡ true) × (get_or ks at 0 is Async ≡ false) × (single_row (get_or ks at 0) ≡ Some x)
    unfolding single_part
    part_is e = go (closes (get_or ks (at + 1) 0)) (get_or ks at 0 is Async) e
      where
        go : (b a : Bool) → Some x ≡ (if b then (if a then None else single_row (get_or ks at 0)) else None)
            → (b ≡ true) × (a ≡ false) × (single_row (get_or ks at 0) ≡ Some x)
        go true true q = absurd (cc)
        go true false q = (refl, refl, sym q)
        go false a q = absurd (cc)

  pub unary_stands : {x : ℕ} → Some x ≡ single_operand ks at → at < length ks
  unary_stands e = single_stands (operand_is e).1

  pub assign_stands : {x : ℕ} → Some x ≡ single_part ks at → at < length ks
  assign_stands e = single_stands (part_is e).2

module _ {ks fs r₀ s₀ m₀ r : List ℕ} {c d : Cursor} {x : ℕ} (top : Leafed r₀ c x r d) where
  pub primary_singles : {y : ℕ} → y ≡ get_or ks c.at 0 → Some x ≡ single_row y → Met ks fs r₀ s₀ m₀ r s₀ m₀ (primary c.at) c.rows c.records (Ok d)
  primary_singles k e = is_leafed top (primary_single ks fs c.at m₀ (sym (e ∙ ap single_row k)))

  pub unary_singles : Some x ≡ single_operand ks c.at → Met ks fs r₀ s₀ m₀ r s₀ m₀ (unary c.at) c.rows c.records (Ok d)
  unary_singles e = let o = operand_is ks c.at e in is_leafed top (unary_single ks fs c.at m₀ o.1 o.0)

  pub assign_singles : Some x ≡ single_part ks c.at → Met ks fs r₀ s₀ m₀ r s₀ m₀ (assignment c.at) c.rows c.records (Ok d)
  assign_singles e = let o = part_is ks c.at e in is_leafed top (assignment_single ks fs c.at m₀ o.2 (follows _ o.0) o.1)

  -- as an element or an argument
  pub item_singles : Some x ≡ single_part ks c.at
      → Met ks fs r₀ s₀ m₀ r s₀ m₀ (if get_or ks c.at 0 is Dot3 then spread c.at else assignment c.at) c.rows c.records (Ok d)
  item_singles e =
      let s = single_small _ (part_is ks c.at e).2 in
      rw (ne_eqb (get_or ks c.at 0) Dot3 (λ z. omega (arith, s, z))) (assign_singles e)
