-- Conversion turns potential into records: what it records and what could still be recorded of the converted tree is no more
-- than what could be recorded of the tree, and of a comma that is handed down to the last kid.
-- Assumes nothing.
use Rattle.std.specs.Prelude.{if◌then◌else◌}
use Prim.Native.Nat.{ℕ, ◌+◌, ◌≤◌}
use mathlib.Core.Path.{◌≡◌, refl, sym, ap}
use mathlib.Core.Bool.{Bool, true, false, not}
use mathlib.Core.List.{List, [], ◌∷◌, ◌++◌}
use native.Mathlib.Omega.{arith}
use lib.Dec.{eqb}
use lib.ListN.{length, length-append}
use borrow.Author.Tests.{eqb-true}
use Rattle.tokens.specs.Bool.{◌and◌, ◌or◌}
use Rattle.tokens.specs.declared.cause.Cause.{Cause}
use Rattle.rows.specs.Row as row
use Rattle.rows.specs.Tree.{Tree, Forest, node, nil, cons, count, first_of, size, sizes}
use Rattle.rows.specs.Record.{Record, rest_argument, rest_comma, compound_default}
use Rattle.conversion.specs.Conversion.{Outcome, turned, refused, Role, Change, refuse, keep, turn, only, each, is_with, is_closed, is_array_or_object, is_reference, last_of, inner_kind, Seen, seen, as_simple, as_any, as_value, as_element, as_last_element, as_property, as_last_property, as_name, change, roles, over, convert_as, convert_kids}
use Rattle.tokens.specs.Cause.{number, place}
use Rattle.conversion.proofs.Relabelled.{Relabel, kept, target}
use Rattle.conversion.proofs.KidRoles.{elements, properties, key_and_value, name_and_initializer}
use Rattle.conversion.specs.Conversion.{may_record, potential, potentials}
use Rattle.conversion.proofs.RuleHolds.{either_way, both_true, refused_turned, follows, cons_parts}
pub use Rattle.conversion.proofs.RuleHolds.{turned_is, turned_records}

abbrev pub weight : ℕ → ℕ
weight kind = if may_record kind then 1 else 0

-- the comma that a role hands down
abbrev pub comma_count : Role → ℕ
comma_count Role.any = 0
comma_count Role.simple = 0
comma_count Role.element = 0
comma_count (Role.last_element comma) = length comma
comma_count Role.property = 0
comma_count (Role.last_property comma) = length comma
comma_count Role.value = 0
comma_count Role.name = 0
comma_count Role.same = 0

-- only the last kid is handed a comma
unfoldable pub Quiet : (ℕ → Role) → Type 0
Quiet each = (n : ℕ) → comma_count (each (n + 1)) ≡ 0

-- what a change does of a row: it refuses it at its first token, or relabels it, and gives and hands down no more records than so many
pub data Fair (r : Seen) (w : ℕ) : Change → Type 0 where
  refuses : {c : Cause} → place c ≡ r.first → 9 ≤ number c → number c ≤ 10 → Fair r w (refuse c)
  keeps : {kind : ℕ} {records : List Record} → Relabel r.kind kind → length records + weight kind ≤ w → Fair r w (keep kind records)
  turns : {kind : ℕ} {before : List Record} {each : ℕ → Role} {after : List Record} → Relabel r.kind kind
      → length before + length after + weight kind + comma_count (each 0) ≤ w → Quiet each → Fair r w (turn kind before each after)

-- the role of the last kid, and that of the others, which is handed nothing
quiet_each : (others last : Role) → comma_count others ≡ 0 → Quiet (each others last)
unfolding Quiet
quiet_each others last e n = rw (follows n) e

quiet_only : (role : Role) → comma_count role ≡ 0 → Quiet (only role)
unfolding Quiet
quiet_only role e n = e

-- the kinds of target rows, which record nothing
record IsTarget (kind : ℕ) : Type 0 where
  low : row.TargetName ≤ kind
  high : kind ≤ row.TargetShorthandInit
  none : weight kind ≡ 0

module _ (r : Seen) where
  fair_if : {w : ℕ} (b : Bool) {x y : Change} → (b ≡ true → Fair r w x) → Fair r w y → Fair r w (if b then x else y)
  fair_if true p q = p refl
  fair_if false p q = q

  to : {w : ℕ} (kind : ℕ) (records : List Record) → IsTarget kind → length records ≤ w → Fair r w (keep kind records)
  to kind records k h = keeps {kind = kind} {records = records} (target k.low k.high) (omega arith)

  over_kids : {w : ℕ} (kind : ℕ) (kids : ℕ → Role) → IsTarget kind → comma_count (kids 0) ≤ w → Quiet kids → Fair r w (turn kind [] kids [])
  over_kids kind kids k h q = turns {kind = kind} {before = []} {each = kids} {after = []} (target k.low k.high) (omega arith) q

  some : (kind : ℕ) {w : ℕ} → weight kind ≡ 1 → weight r.kind ≤ w → eqb r.kind kind ≡ true → 1 ≤ w
  some kind o h is = let e = rw (eqb-true r.kind kind is) at h in omega arith

  fair_simple : (w : ℕ) → Fair r w (as_simple r)
  unfolding as_simple
  fair_simple w =
      fair_if (eqb r.kind row.Identifier) (λ _. to row.TargetName [] (omega arith) (omega arith))
      (fair_if (eqb r.kind row.Member) (λ _. to row.TargetMember [] (omega arith) (omega arith))
      (fair_if (eqb r.kind row.Index) (λ _. to row.TargetIndex [] (omega arith) (omega arith))
      (fair_if (is_with r row.Paren 1 and not (is_array_or_object r.last))
      (λ _. over_kids row.TargetParen (only Role.simple) (omega arith) (omega arith) (quiet_only Role.simple refl))
      (refuses refl (omega arith) (omega arith)))))

  fair_any : (w : ℕ) → weight r.kind ≤ w → Fair r w (as_any r)
  unfolding as_any
  fair_any w h =
      fair_if (eqb r.kind row.Array) (λ _. array [] (omega arith))
      (fair_if (is_closed r row.ArrayRestComma)
      (λ is. array (rest_comma r.first ∷ []) (some row.ArrayRestComma refl h (both_true (eqb r.kind row.ArrayRestComma) _ is).0))
      (fair_if (eqb r.kind row.Object) (λ _. object [] (omega arith))
      (fair_if (is_closed r row.ObjectRestComma)
      (λ is. object (rest_comma r.first ∷ []) (some row.ObjectRestComma refl h (both_true (eqb r.kind row.ObjectRestComma) _ is).0))
      (fair_simple w))))
    where
      array : (comma : List Record) → length comma ≤ w → Fair r w (turn row.TargetArray [] (elements comma) [])
      array comma l = over_kids row.TargetArray (elements comma) (omega arith) l (quiet_each Role.element (Role.last_element comma) refl)

      object : (comma : List Record) → length comma ≤ w → Fair r w (turn row.TargetObject [] (properties comma) [])
      object comma l = over_kids row.TargetObject (properties comma) (omega arith) l (quiet_each Role.property (Role.last_property comma) refl)

  fair_value : (w : ℕ) → weight r.kind ≤ w → Fair r w (as_value r)
  unfolding as_value
  fair_value w h =
      fair_if (eqb r.kind row.Assign) (λ _. to row.TargetDefault [] (omega arith) (omega arith))
      (fair_if (eqb r.kind row.CompoundAssign) (λ is. to row.TargetDefault (compound_default r.mark ∷ []) (omega arith) (some row.CompoundAssign refl h is)) (fair_any w h))

  hole : {w : ℕ} → r.kind ≡ row.Hole → Fair r w (keep row.Hole [])
  hole e = keeps {kind = row.Hole} {records = []} (rw e kept) (omega arith)

  fair_element : (w : ℕ) → weight r.kind ≤ w → Fair r w (as_element r)
  unfolding as_element
  fair_element w h =
      fair_if (eqb r.kind row.Hole) (λ is. hole (eqb-true r.kind row.Hole is))
      (fair_if (eqb r.kind row.Spread) (λ _. refuses refl (omega arith) (omega arith)) (fair_value w h))

  fair_property : (w : ℕ) → Fair r w (as_property r)
  unfolding as_property
  fair_property w =
      fair_if (is_with r row.Shorthand 1) (λ _. over_kids row.TargetShorthand (only Role.name) (omega arith) (omega arith) (quiet_only Role.name refl))
      (fair_if (is_with r row.ShorthandInit 2) (λ _. over_kids row.TargetShorthandInit name_and_initializer (omega arith) (omega arith) (quiet_each Role.name Role.same refl))
      (fair_if (is_with r row.Property 2) (λ _. over_kids row.TargetProperty key_and_value (omega arith) (omega arith) (quiet_each Role.same Role.value refl))
      (fair_if (eqb r.kind row.Spread) (λ _. refuses refl (omega arith) (omega arith)) (refuses refl (omega arith) (omega arith)))))

  -- a Spread that becomes a rest
  rest : (comma before after : List Record) → length before + length after ≤ 1 + length comma → is_with r row.Spread 1 ≡ true
      → Fair r (weight r.kind + length comma) (turn row.TargetRest before (only Role.any) after)
  rest comma before after h is =
      let e : weight r.kind ≡ 1 = rw (eqb-true r.kind row.Spread (both_true (eqb r.kind row.Spread) _ is).0) in
      let few : length before + length after + weight row.TargetRest + 0 ≤ weight r.kind + length comma = omega arith in
      turns {kind = row.TargetRest} (target {kind' = row.TargetRest} (omega arith) (omega arith)) few (quiet_only Role.any refl)

  fair : (role : Role) → length r.in_array ≤ 1 → length r.in_object ≤ 1 → Fair r (weight r.kind + comma_count role) (change role r)
  unfolding change as_name as_last_element as_last_property
  fair Role.any a o = fair_any _ (omega arith)
  fair Role.simple a o = fair_simple _
  fair Role.element a o = fair_element _ (omega arith)
  fair (Role.last_element comma) a o = fair_if (is_with r row.Spread 1) (rest comma r.in_array comma (omega arith)) (fair_element _ (omega arith))
  fair Role.property a o = fair_property _
  fair (Role.last_property comma) a o = fair_if (is_with r row.Spread 1) (rest comma (r.in_object ++ comma) [] (simp length-append (omega arith))) (fair_property _)
  fair Role.value a o = fair_value _ (omega arith)
  fair Role.name a o = fair_if (eqb r.kind row.Identifier) (λ _. to row.TargetName [] (omega arith) (omega arith)) (refuses refl (omega arith) (omega arith))
  fair Role.same a o = keeps {kind = r.kind} {records = []} kept (omega arith)

none_or_one : (b : Bool) (r : Record) → length (if b then [] else r ∷ []) ≤ 1
none_or_one b r = either_way (λ rs. length rs ≤ 1) b (λ _. omega arith) (λ _. omega arith)

-- so is every change
pub changes : (t : Tree) (role : Role) → Fair (seen t) (weight (seen t).kind + comma_count role) (change role (seen t))
unfolding seen
changes (node k m f e kids) role =
    fair (seen (node k m f e kids)) role
    (none_or_one (is_reference (inner_kind (last_of kids)) or is_array_or_object (inner_kind (last_of kids))) (rest_argument (first_of (last_of kids))))
    (none_or_one (is_reference (inner_kind (last_of kids))) (rest_argument (first_of (last_of kids))))

-- the comma that kids are handed
abbrev pub extra : (ℕ → Role) → Forest → ℕ
extra each nil = 0
extra each (cons t ts) = comma_count (each 0)

pub record Paid (have give : ℕ) (records : List Record) : Type 0 where
  pub is : length records + give ≤ have

extra_less : (each : ℕ → Role) (ts : Forest) → extra each ts ≤ comma_count (each 0)
extra_less each nil = omega arith
extra_less each (cons t ts) = omega arith

over_pays : {r : Seen} {w : ℕ} (ch : Change) → Fair r w ch → (k m f e : ℕ) (kids : Forest) (out : Outcome Forest) (t' : Tree) (rs : List Record)
    → over ch (node k m f e kids) out ≡ turned t' rs
    → ((ts' : Forest) (rs' : List Record) → Quiet (roles ch) → out ≡ turned ts' rs' → Paid (potentials kids + extra (roles ch) kids) (potentials ts') rs')
    → Paid (w + potentials kids) (potential t') rs
unfolding over roles potential
over_pays (refuse c) fr k m f e kids out t' rs h ih = absurd (refused_turned h)
over_pays {w} (keep kind records) (keeps l few) k m f e kids out t' rs h ih =
    let fits : length records + (weight kind + potentials kids) ≤ w + potentials kids = omega arith in
    record { is = rw (sym (turned_is h), sym (turned_records h)) fits }
over_pays (turn kind before each after) fr k m f e kids (refused c) t' rs h ih = absurd (refused_turned h)
over_pays {w} (turn kind before each after) (turns l few quiet) k m f e kids (turned ts' rs') t' rs h ih =
    let p = ih ts' rs' quiet refl in
    let fits : length (before ++ rs' ++ after) + (weight kind + potentials ts') ≤ w + potentials kids =
    simp length-append (omega (arith, p.is, extra_less each kids)) in
    record { is = rw (sym (turned_is h), sym (turned_records h)) fits }

paid_more : {v w give : ℕ} {rs : List Record} → v ≤ w → Paid v give rs → Paid w give rs
paid_more h p = record { is = omega (arith, p.is) }

-- kids, the last of which is handed the comma
extra_cons : (each : ℕ → Role) (ts : Forest) → Quiet each → comma_count (each (count ts)) + extra each ts ≤ comma_count (each 0)
unfolding Quiet count
extra_cons each nil quiet = omega arith
extra_cons each (cons t ts) quiet = omega (arith, quiet (count ts))

mutual
  unfolding convert_as convert_kids potential potentials seen

  pub pays : (t : Tree) (role : Role) (t' : Tree) (rs : List Record) → convert_as t role ≡ turned t' rs → Paid (potential t + comma_count role) (potential t') rs
  pays (node k m f e kids) role t' rs h =
      paid_more (omega arith)
      (over_pays (change role (seen (node k m f e kids)))
      (changes (node k m f e kids) role) k m f e kids
      (convert_kids kids (roles (change role (seen (node k m f e kids))))) t' rs h
      (λ ts' rs' quiet q. pays_kids kids (roles (change role (seen (node k m f e kids)))) quiet ts' rs' q))

  pub pays_kids : (ts : Forest) (each : ℕ → Role) → Quiet each → (ts' : Forest) (rs : List Record) → convert_kids ts each ≡ turned ts' rs
      → Paid (potentials ts + extra each ts) (potentials ts') rs
  pays_kids nil each quiet ts' rs h = let fits : length {A = Record} [] + potentials nil ≤ 0 + 0 = omega arith in record { is = rw (sym (turned_is h), sym (turned_records h)) fits }
  pays_kids (cons t ts) each quiet ts' rs h =
      let b = cons_parts t ts each ts' rs h in
      let p = pays t (each (count ts)) b.one b.first b.one_is in
      let q = pays_kids ts each quiet b.rest b.later b.rest_is in
      record { is = omega (arith, simp length-append at (ap length b.records), ap potentials b.made, p.is, q.is, extra_cons each ts quiet) }

pub weight_one : (k : ℕ) → weight k ≤ 1
weight_one k = either_way (λ n. n ≤ 1) (may_record k) (λ _. omega arith) (λ _. omega arith)

-- a row could be recorded once
mutual
  unfolding potential potentials size sizes

  pub potential_size : (t : Tree) → potential t ≤ size t
  potential_size (node k m f e kids) = let h : potentials kids ≤ sizes kids = potentials_sizes kids in omega (arith, weight_one k)

  pub potentials_sizes : (ts : Forest) → potentials ts ≤ sizes ts
  potentials_sizes nil = omega arith
  potentials_sizes (cons t ts) =
      let h : potential t ≤ size t = potential_size t in
      let g : potentials ts ≤ sizes ts = potentials_sizes ts in
      omega arith
