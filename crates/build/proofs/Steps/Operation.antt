-- `finish` and `postfix`: what is made of operators once their operands stand.
-- Assumes nothing.
use Rattle.std.specs.Prelude.{if◌then◌else◌, Ok, Err, Option, Some, None}
use Prim.Native.Nat.{ℕ, ◌+◌, ◌-◌, ◌*◌, ◌≤◌, ◌<◌}
use mathlib.Core.Path.{◌≡◌, refl, sym, ap, ◌∙◌}
use mathlib.Core.Bool.{Bool, true, false, not}
use mathlib.Core.List.{List, [], ◌∷◌, ◌++◌, append-nil}
use native.Mathlib.Omega.{arith}
use lib.ListN.{length, get_or, take}
use lib.Seq.{length-take-le, get_or-take, get_or-append-add}
use borrow.Author.Tests.{eqb-true, ne_eqb}
use Rattle.tokens.specs.Bool.{◌and◌, ◌is◌}
use Rattle.tokens.specs.Kind.{Question2, Star2}
use Rattle.tokens.specs.declared.cause.Cause.{Cause}
use Rattle.tokens.proofs.Stands.{stands_not}
use Rattle.rows.specs.Tree.{Tree, Forest, node, one, join, row, count, sizes, flats, kind_of, mark_of}
use Rattle.rows.specs.Record.{Record, says, mixed_coalesce, unary_power}
use Rattle.rows.specs.Row as Row
use Rattle.rows.specs.Post.{Grown}
use Rattle.rows.proofs.Flat.{length_flats}
use Rattle.rows.proofs.Rows.{grown_join}
use Rattle.conversion.specs.Conversion.{simple}
use Rattle.targets.specs.Post as Targets
use Rattle.targets.specs.Outcome.{Conversion}
use Rattle.grammar.specs.Sheet.{sheet_of}
use Rattle.grammar.specs.Binary.{operation_kind, is_or_and, operation_records}
use Rattle.grammar.specs.Update.{is_update_operator}
use Rattle.build.specs.Post.{cursor, Topped, Said, Step}
use Rattle.build.specs.Operation.{record_number, FinishFits, Finished, OperandFits, PostfixTo, PostfixFail, MetPostfix}
use Rattle.build.specs.declared.cursor.Cursor.{Cursor}
use Rattle.build.proofs.Rules.{postfix_none, postfix_refused, postfix_done}
use Rattle.build.proofs.Makes.{stands_made, made_top, made_said}
use Rattle.build.proofs.Results.{at_ok, at_err, not_ok, not_err}
use Rattle.build.proofs.Converts.{rooted, is_turned, is_refused, turned_few}

-- a word of the root row of a tree that stands
root_word : (r : List ℕ) (from n root j : ℕ) (kind mark first end : ℕ) (kids : Forest) → Grown r from r n (one (node kind mark first end kids)) → n ≡ root + 1 → 6 * n ≤ length r → j < 6
    → get_or r (6 * root + j) 0 ≡ get_or (row kind mark first end (count kids) (sizes kids + 1)) j 0
unfolding sizes flats
root_word r from n root j kind mark first end kids g e room small =
    let u = g.used in
    let b = length-take-le (6 * from) r (omega (arith, u)) in
    let f = length_flats kids in
    let words = row kind mark first end (count kids) (sizes kids + 1) in
    let place : 6 * root + j ≡ length (take (6 * from) r) + (length (flats kids) + j) = omega (arith, u, b, f) in
    sym (get_or-take (6 * n) r (6 * root + j) 0 (omega arith))
    ∙ ap (λ (l : List ℕ). get_or l (6 * root + j) 0) (g.text ∙ ap (λ (l : List ℕ). take (6 * from) r ++ l) (append-nil (flats kids ++ words)))
    ∙ ap (λ (i : ℕ). get_or (take (6 * from) r ++ (flats kids ++ words)) i 0) place
    ∙ get_or-append-add (take (6 * from) r) (flats kids ++ words) (length (flats kids) + j) 0
    ∙ get_or-append-add (flats kids) words j 0

pub root_kind : (r : List ℕ) (from n root : ℕ) (t : Tree) → Grown r from r n (one t) → n ≡ root + 1 → 6 * n ≤ length r → get_or r (6 * root + 0) 0 ≡ kind_of t
unfolding kind_of
root_kind r from n root (node kind mark first end kids) g e room = root_word r from n root 0 kind mark first end kids g e room (omega arith)

pub root_mark : (r : List ℕ) (from n root : ℕ) (t : Tree) → Grown r from r n (one t) → n ≡ root + 1 → 6 * n ≤ length r → get_or r (6 * root + 1) 0 ≡ mark_of t
unfolding mark_of
root_mark r from n root (node kind mark first end kids) g e room = root_word r from n root 1 kind mark first end kids g e room (omega arith)

-- the record of a row by its number
abbrev numbered : Option ℕ → ℕ → List Record
numbered (Some number) at = says number at ∷ []
numbered None at = []

choose : (coalesces mixes powers unary : Bool) (at : ℕ) → (coalesces ≡ true → powers ≡ false)
    → (if coalesces and mixes then mixed_coalesce at ∷ [] else []) ++ (if powers and unary then unary_power at ∷ [] else [])
    ≡ numbered (if coalesces then (if mixes then Some 6 else None) else if powers and unary then Some 7 else None) at
choose true true true unary at h = let e : true ≡ false = h refl in absurd (cc)
choose true false true unary at h = let e : true ≡ false = h refl in absurd (cc)
choose true true false unary at h = refl
choose true false false unary at h = refl
choose false mixes true true at h = refl
choose false mixes true false at h = refl
choose false mixes false unary at h = refl

module _ (ks : List ℕ) {r₀ s₀ : List ℕ} {d : Cursor} {at first left from : ℕ} (fits : FinishFits r₀ s₀ d at first left from) where
  records_are : (fs : List ℕ) (a b : Tree) → Grown r₀ from r₀ left (one a) → Grown r₀ left r₀ d.rows (one b)
      → operation_records (sheet_of ks fs) at a b ≡ numbered (record_number ks r₀ at (left - 1) (d.rows - 1)) at
  unfolding operation_records is_or_and
  records_are fs a b g h =
      let ka = root_kind r₀ from left (left - 1) a g (omega arith) (omega arith) in
      let ma = root_mark r₀ from left (left - 1) a g (omega arith) (omega arith) in
      let kb = root_kind r₀ left d.rows (d.rows - 1) b h (omega arith) (omega arith) in
      let mb = root_mark r₀ left d.rows (d.rows - 1) b h (omega arith) (omega arith) in
      rw (sym ka, sym ma, sym kb, sym mb)
      (choose (get_or ks at 0 is Question2) _ (get_or ks at 0 is Star2) _ at (λ e. let f = eqb-true (get_or ks at 0) Question2 e in ne_eqb (get_or ks at 0) Star2 (λ i. omega arith)))

  pub finish_none : {r : List ℕ} {kind : ℕ} {u : Cursor} → record_number ks r₀ at (left - 1) (d.rows - 1) ≡ None → kind ≡ operation_kind (get_or ks at 0)
      → Topped r₀ d kind at first d.at 2 from r u → Finished ks r₀ s₀ d at first left from r s₀ u
  unfolding count join
  finish_none n k top =
      record {
        place = ap (λ (x : Cursor). x.at) top.is;
        made = λ fs a b g h. rw (records_are fs a b g h, n, sym k) (made_top (stands_made d (grown_join g h)) top refl);
      }

  pub finish_says : {r s : List ℕ} {number kind : ℕ} {v u : Cursor} → record_number ks r₀ at (left - 1) (d.rows - 1) ≡ Some number → kind ≡ operation_kind (get_or ks at 0)
      → Topped r₀ d kind at first d.at 2 from r v → Said s₀ v number at s u → Finished ks r₀ s₀ d at first left from r s u
  unfolding count join
  finish_says n k top said =
      record {
        place = ap (λ (x : Cursor). x.at) said.is ∙ ap (λ (x : Cursor). x.at) top.is;
        made = λ fs a b g h. rw (records_are fs a b g h, n, sym k) (made_said (made_top (stands_made d (grown_join g h)) top refl) said);
      }

module _ {ks fs r₀ s₀ : List ℕ} {d : Cursor} {first from : ℕ} (fits : OperandFits ks r₀ s₀ d from) where
  -- no update follows, or one on another line
  pub postfix_stays : (is_update_operator (get_or ks d.at 0) and not (get_or fs d.at 0 is 1)) ≡ false → MetPostfix ks fs r₀ s₀ d first from r₀ s₀ (Ok d)
  postfix_stays e =
      record {
        done_to = λ u q left g deep.
            at_ok (λ (x : Cursor). PostfixTo ks fs r₀ s₀ d first from r₀ s₀ left x) refl
            record { tree = left; records = []; comes = λ h. rw append-nil (postfix_none h e); made = stands_made d g } u q;
        fail_at = not_err _ refl;
      }

  -- an update of what is no simple target
  pub postfix_refuses : {r s : List ℕ} {x : Conversion} {y : Step} {cause : Cause} → (is_update_operator (get_or ks d.at 0) and not (get_or fs d.at 0 is 1)) ≡ true
      → Targets.RowConverted r₀ s₀ (d.rows - 1) simple d.records r s x → x ≡ Err cause → y ≡ Err cause → MetPostfix ks fs r₀ s₀ d first from r s y
  postfix_refuses {r} {s} e c q i =
      record {
        done_to = not_ok _ i;
        fail_at = λ other j left g deep.
            let t = is_refused c left g (omega (arith, fits)) (omega (arith, fits)) deep q in
            at_err (λ (c : Cause). PostfixFail ks fs r₀ s₀ d first from r s left c) i
            record { comes = λ h. postfix_refused h e t.converts; rows_same = t.rows_same; records_same = t.records_same } other j;
      }

  -- an update of a simple target
  pub postfix_updates : {r₁ r s : List ℕ} {x : Conversion} {counted : ℕ} {u : Cursor} → (is_update_operator (get_or ks d.at 0) and not (get_or fs d.at 0 is 1)) ≡ true
      → Targets.RowConverted r₀ s₀ (d.rows - 1) simple d.records r₁ s x → x ≡ Ok counted
      → Topped r₁ (cursor d.at d.rows (d.records + counted)) Row.PostfixUpdate d.at first (d.at + 1) 1 from r u → MetPostfix ks fs r₀ s₀ d first from r s (Ok u)
  unfolding count
  postfix_updates {r = r} {s} {u = u} e c q top =
      record {
        done_to = λ v i left g deep.
            let t = is_turned c left g (omega (arith, fits)) (omega (arith, fits)) deep q in
            at_ok (λ (x : Cursor). PostfixTo ks fs r₀ s₀ d first from r s left x) refl
            record {
              tree = node Row.PostfixUpdate d.at first (d.at + 1) (one t.target);
              records = t.records;
              comes = λ h. rw (ap (λ (y : Cursor). y.at) top.is) (postfix_done h e t.converts);
              made = made_top (t.made d.at) top refl;
            } v i;
        fail_at = not_err _ refl;
      }

-- room for a conversion
pub postfix_room : {ks r s : List ℕ} {d : Cursor} {from : ℕ} → OperandFits ks r s d from → Targets.Room r (d.rows - 1) (length s) d.records
postfix_room o = record { rooted = rooted o.stands (omega (arith, o)) (omega (arith, o)); room = o.deep }

-- and its records are few
pub postfix_few : {ks r₀ s₀ r s : List ℕ} {d : Cursor} {from counted : ℕ} {x : Conversion} → OperandFits ks r₀ s₀ d from → Targets.RowConverted r₀ s₀ (d.rows - 1) simple d.records r s x
    → x ≡ Ok counted → 2 * (d.records + counted) ≤ length s₀
postfix_few fits c q = let few = turned_few (is_turned c fits.operand fits.stands (omega (arith, fits)) (omega (arith, fits)) fits.deep q) in omega (arith, fits, few)

-- an update stands before the end
pub update_stands : (ks : List ℕ) (at : ℕ) → is_update_operator (get_or ks at 0) ≡ true → at < length ks
unfolding is_update_operator
update_stands ks at e = stands_not ks at (λ z. let y = rw z at e in absurd (cc))
