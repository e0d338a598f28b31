-- What conversion makes of a derived expression, with no record, is derived as a target: the refined grammar of 13.15.5 and 8.6.4 holds of all that converts so.
-- Assumes nothing.
use Rattle.std.specs.Prelude.{if◌then◌else◌}
use Prim.Native.Nat.{ℕ, zero, suc, ◌+◌}
use mathlib.Core.Path.{◌≡◌, refl, sym, ap, ◌∙◌, subst}
use mathlib.Core.Bool.{Bool, true, false, not}
use mathlib.Core.List.{List, [], ◌∷◌, ◌++◌, append_assoc, append-nil}
use native.Mathlib.Omega.{arith}
use lib.Dec.{eqb, leb}
use borrow.Author.Tests.{ne_eqb}
use Rattle.tokens.specs.Bool.{◌is◌, ◌or◌, ◌and◌}
use Rattle.tokens.specs.Kind.{LParen, RParen, LBrack, RBrack, LCurly, RCurly, Comma, Colon, Dot, Dot3, Eq}
use Rattle.tokens.specs.declared.cause.Cause.{Cause}
use Rattle.rows.specs.Tree.{Tree, Forest, node, nil, cons, one, join, count, kind_of, first_of}
use Rattle.rows.specs.Row as Row
use Rattle.rows.specs.Record.{Record, rest_comma, rest_argument, compound_default}
use Rattle.rows.proofs.Rows.{count_join, join_nil, join_assoc}
use Rattle.conversion.specs.Conversion as C
use Rattle.conversion.specs.Conversion.{Role, any, simple, element, last_element, property, last_property, value, name, same, Outcome, turned, refused, Change, turn, only, seen, as_simple, as_any, as_value, as_element, as_last_element, as_property, as_last_property, as_name, change, roles, over, both, last_of, is_array_or_object, inner_kind, array_argument, object_argument, convert_as, convert_kids}
use Rattle.conversion.proofs.KidRoles.{elements, properties, key_and_value}
use Rattle.grammar.specs.Sheet.{Sheet, leaf, first_tree}
use Rattle.ecma262.specs.Derives as D
use Rattle.exact.specs.Terminals.{tier_row}
use Rattle.exact.proofs.Terminals.{line}
use Rattle.ecma262.specs.Derives.{Tok, OneOf, identifiers, identifier_names, assignment_operators, Links, Nonterminal, ListOf, Elided, Elision, PropertyName, LinkedExpression, LeftHandSideExpression, UnaryExpression, ShortCircuitExpression, AssignmentExpression, SimpleTarget, AssignmentPattern, DestructuringAssignmentTarget, AssignmentElement, AssignmentRestElement, AssignmentProperty, AssignmentRestProperty, Expression, ends_in_spread, array_row, object_row, Derives}
use Rattle.exact.proofs.Roots.{Root, not_both, root_assignment, root_expression, spread_last, Each, each_one, each_more, Past, past, Silent, said, silent_left, silent_right}

-- OUTCOMES
-- a row that is turned over its kids
record Over (kind mark first end : ℕ) (before after : List Record) (kids : Outcome Forest) (u : Tree) (records : List Record) : Type 0 where
  into : Forest
  said : List Record
  kids_turn : kids ≡ turned into said
  is_row : u ≡ node kind mark first end into
  are : records ≡ before ++ said ++ after

over_turn : (kind' kind mark first end : ℕ) (before after : List Record) (f : ℕ → Role) (ts : Forest) (kids : Outcome Forest) (u : Tree) (records : List Record)
    → over (turn kind' before f after) (node kind mark first end ts) kids ≡ turned u records → Over kind' mark first end before after kids u records
unfolding over
over_turn kind' kind mark first end before after f ts (turned us more) u records e =
    let a : node kind' mark first end us ≡ u = cc in
    let b : before ++ more ++ after ≡ records = cc in
    record { into = us; said = more; kids_turn = refl; is_row = sym a; are = sym b }
over_turn kind' kind mark first end before after f ts (refused cause) u records e = let z : ◌≡◌ {A = ℕ} 0 1 = cc in absurd (omega arith)

-- a row that is kept over its kids
record Kept (t u : Tree) (before records : List Record) : Type 0 where
  is_row : u ≡ t
  are : records ≡ before

kept : {t u : Tree} {before records : List Record} → turned t before ≡ turned u records → Kept t u before records
kept {t} {u} {before} {records} e = let a : t ≡ u = cc in let b : before ≡ records = cc in record { is_row = sym a; are = sym b }

never : {A : Type 0} {t : Tree} {records : List Record} {cause : _} → refused cause ≡ turned t records → A
never e = let z : ◌≡◌ {A = ℕ} 0 1 = cc in absurd (omega arith)

-- a first tree and the rest
pub record Two (first : Outcome Tree) (rest : Outcome Forest) (vs : Forest) (records : List Record) : Type 0 where
  pub head : Tree
  pub tail : Forest
  pub head_said : List Record
  pub tail_said : List Record
  pub head_turns : first ≡ turned head head_said
  pub tail_turns : rest ≡ turned tail tail_said
  pub is_forest : vs ≡ cons head tail
  pub are : records ≡ head_said ++ tail_said

pub two : (first : Outcome Tree) (rest : Outcome Forest) (vs : Forest) (records : List Record) → both first rest ≡ turned vs records → Two first rest vs records
unfolding both
two (refused cause) rest vs records e = let z : ◌≡◌ {A = ℕ} 0 1 = cc in absurd (omega arith)
two (turned t said) (refused cause) vs records e = let z : ◌≡◌ {A = ℕ} 0 1 = cc in absurd (omega arith)
two (turned t said) (turned ts more) vs records e =
    let a : cons t ts ≡ vs = cc in
    let b : said ++ more ≡ records = cc in
    record { head = t; tail = ts; head_said = said; tail_said = more; head_turns = refl; tail_turns = refl; is_forest = sym a; are = sym b }

-- two forests, one after the other, of which the first is seen in roles of its own
record Split (ts us : Forest) (f g : ℕ → Role) (vs : Forest) (records : List Record) : Type 0 where
  left : Forest
  right : Forest
  left_said : List Record
  right_said : List Record
  left_turns : convert_kids ts g ≡ turned left left_said
  right_turns : convert_kids us f ≡ turned right right_said
  is_forest : vs ≡ join left right
  are : records ≡ left_said ++ right_said

split : (ts us : Forest) (f g : ℕ → Role) → ((n : ℕ) → f (n + count us) ≡ g n) → (vs : Forest) (records : List Record) → convert_kids (join ts us) f ≡ turned vs records → Split ts us f g vs records
unfolding convert_kids join both
split nil us f g h vs records e = record { left = nil; right = vs; left_said = []; right_said = records; left_turns = refl; right_turns = e; is_forest = refl; are = refl }
split (cons t ts) us f g h vs records e = go (two (convert_as t (f (count (join ts us)))) (convert_kids (join ts us) f) vs records e) (split ts us f g h)
  where
    go : Two (convert_as t (f (count (join ts us)))) (convert_kids (join ts us) f) vs records
        → ((vs : Forest) (records : List Record) → convert_kids (join ts us) f ≡ turned vs records → Split ts us f g vs records) → Split (cons t ts) us f g vs records
    go r ih =
        let q = ih r.tail r.tail_said r.tail_turns in
        let k : f (count (join ts us)) ≡ g (count ts) = ap f (count_join ts us) ∙ h (count ts) in
        let c : convert_as t (g (count ts)) ≡ turned r.head r.head_said = ap (convert_as t) (sym k) ∙ r.head_turns in
        record {
          left = cons r.head q.left;
          right = q.right;
          left_said = r.head_said ++ q.left_said;
          right_said = q.right_said;
          left_turns = rw (c, q.left_turns);
          right_turns = q.right_turns;
          is_forest = r.is_forest ∙ ap (cons r.head) q.is_forest;
          are = r.are ∙ ap (λ (l : List Record). r.head_said ++ l) q.are ∙ sym (append_assoc r.head_said q.left_said q.right_said);
        }

-- a single tree
record Single (t : Tree) (role : Role) (vs : Forest) (records : List Record) : Type 0 where
  into : Tree
  turns : convert_as t role ≡ turned into records
  is_forest : vs ≡ one into

single : (t : Tree) (f : ℕ → Role) (vs : Forest) (records : List Record) → convert_kids (one t) f ≡ turned vs records → Single t (f 0) vs records
unfolding convert_kids count
single t f vs records e =
    let r = two (convert_as t (f 0)) (turned nil []) vs records e in
    let a = kept_forest r.tail_turns in
    record {
      into = r.head;
      turns = r.head_turns ∙ ap (turned r.head) (sym (r.are ∙ ap (λ (l : List Record). r.head_said ++ l) a.1 ∙ append-nil r.head_said));
      is_forest = r.is_forest ∙ ap (cons r.head) a.0;
    }
  where
    kept_forest : {ts : Forest} {rs : List Record} → turned nil [] ≡ turned ts rs → (ts ≡ nil) × (rs ≡ [])
    kept_forest {ts} {rs} e = let a : nil ≡ ts = cc in let b : [] ≡ rs = cc in (sym a, sym b)

-- ROLES
-- the roles in which an expression is converted, and what it then is
pub data Expected : Role → Type 0 where
  as_target : Expected any
  as_simple_target : Expected simple
  as_content : Expected value
  as_middle : Expected element
  as_last : (comma : List Record) → Expected (last_element comma)

abbrev pub aim : Role → Nonterminal
aim any = DestructuringAssignmentTarget
aim simple = SimpleTarget
aim value = AssignmentElement
aim element = AssignmentElement
aim (last_element comma) = AssignmentElement
aim property = Expression
aim (last_property comma) = Expression
aim name = Expression
aim same = Expression

-- the kinds of rows that an expression can be converted of, and of those that stand in literals
unfoldable turnable : ℕ → Bool
turnable k =
    k is Row.Identifier or k is Row.Member or k is Row.Index or k is Row.Paren or k is Row.Array or k is Row.ArrayRestComma or k is Row.Object or k is Row.ObjectRestComma
    or k is Row.Assign or k is Row.CompoundAssign or k is Row.Hole or k is Row.Spread

or_first : (a b : Bool) → a or b ≡ false → a ≡ false
or_first false b e = refl
or_first true b e = e

or_second : (a b : Bool) → a or b ≡ false → b ≡ false
or_second false b e = e
or_second true b e = let z : ◌≡◌ {A = ℕ} 0 1 = cc in absurd (omega arith)

-- all other rows are refused
refuses : (kind mark first end : ℕ) (kids : Forest) → turnable kind ≡ false → (role : Role) → Expected role → (u : Tree) (records : List Record)
    → convert_as (node kind mark first end kids) role ≡ turned u records → ⊥
unfolding turnable convert_as change as_any as_simple as_value as_element as_last_element seen over roles
refuses kind mark first end kids h role x u records e =
    let r1 = or_second (kind is Row.Identifier) _ h in
    let r2 = or_second (kind is Row.Member) _ r1 in
    let r3 = or_second (kind is Row.Index) _ r2 in
    let r4 = or_second (kind is Row.Paren) _ r3 in
    let r5 = or_second (kind is Row.Array) _ r4 in
    let r6 = or_second (kind is Row.ArrayRestComma) _ r5 in
    let r7 = or_second (kind is Row.Object) _ r6 in
    let r8 = or_second (kind is Row.ObjectRestComma) _ r7 in
    let r9 = or_second (kind is Row.Assign) _ r8 in
    let r10 = or_second (kind is Row.CompoundAssign) _ r9 in
    go x (or_first (kind is Row.Identifier) _ h) (or_first (kind is Row.Member) _ r1) (or_first (kind is Row.Index) _ r2) (or_first (kind is Row.Paren) _ r3)
    (or_first (kind is Row.Array) _ r4) (or_first (kind is Row.ArrayRestComma) _ r5) (or_first (kind is Row.Object) _ r6) (or_first (kind is Row.ObjectRestComma) _ r7)
    (or_first (kind is Row.Assign) _ r8) (or_first (kind is Row.CompoundAssign) _ r9) (or_first (kind is Row.Hole) _ r10) (or_second (kind is Row.Hole) _ r10) e
  where
    go : {role : Role} → Expected role → kind is Row.Identifier ≡ false → kind is Row.Member ≡ false → kind is Row.Index ≡ false → kind is Row.Paren ≡ false → kind is Row.Array ≡ false
        → kind is Row.ArrayRestComma ≡ false → kind is Row.Object ≡ false → kind is Row.ObjectRestComma ≡ false → kind is Row.Assign ≡ false → kind is Row.CompoundAssign ≡ false
        → kind is Row.Hole ≡ false → kind is Row.Spread ≡ false → convert_as (node kind mark first end kids) role ≡ turned u records → ⊥
    go as_target a b c d f g i j k l m n e = never (rw (a, b, c, d, f, g, i, j) at e)
    go as_simple_target a b c d f g i j k l m n e = never (rw (a, b, c, d) at e)
    go as_content a b c d f g i j k l m n e = never (rw (a, b, c, d, f, g, i, j, k, l) at e)
    go as_middle a b c d f g i j k l m n e = never (rw (a, b, c, d, f, g, i, j, k, l, m, n) at e)
    go (as_last comma) a b c d f g i j k l m n e = never (rw (a, b, c, d, f, g, i, j, k, l, m, n) at e)

-- what an expression becomes in each role
pub record Turns (s : Sheet) (i j : ℕ) (ts : Forest) : Type 0 where
  pub with : {role : Role} → Expected role → (u : Tree) (records : List Record) → convert_as (first_tree ts) role ≡ turned u records → Silent records → Derives s (aim role) i j (one u)

-- the last row of a literal: one more of them, or a Spread as a rest, where the record of its comma fits
pub data LastKid (s : Sheet) (x rest : Nonterminal) (i j : ℕ) (spreads : Bool) (comma : List Record) (us : Forest) : Type 0 where
  last_plain : spreads ≡ false → Derives s x i j us → LastKid s x rest i j spreads comma us
  last_rest : spreads ≡ true → Silent comma → Derives s rest i j us → LastKid s x rest i j spreads comma us

-- a row of a literal: in the middle, and as the last
pub record KidTurns (x rest : Nonterminal) (middle : Role) (last : List Record → Role) (s : Sheet) (i j : ℕ) (ts : Forest) : Type 0 where
  pub tree : Tree
  pub is_one : ts ≡ one tree
  pub in_middle : (u : Tree) (records : List Record) → convert_as tree middle ≡ turned u records → Silent records → Derives s x i j (one u)
  pub at_end : (comma : List Record) (u : Tree) (records : List Record) → convert_as tree (last comma) ≡ turned u records → Silent records
      → LastKid s x rest i j (kind_of tree is Row.Spread) comma (one u)

abbrev pub ElementTurns : Sheet → ℕ → ℕ → Forest → Type 0
ElementTurns = KidTurns AssignmentElement AssignmentRestElement element last_element

abbrev pub PropertyTurns : Sheet → ℕ → ℕ → Forest → Type 0
PropertyTurns = KidTurns AssignmentProperty AssignmentRestProperty property last_property

-- ELEMENTS
-- roles in which a hole stays
pub data Holey : Role → Type 0 where
  holey_middle : Holey element
  holey_last : (comma : List Record) → Holey (last_element comma)

pub hole_stays : {role : Role} (at : ℕ) → Holey role → convert_as (leaf Row.Hole at) role ≡ turned (leaf Row.Hole at) []
unfolding convert_as convert_kids change as_element as_last_element seen over roles count
hole_stays at holey_middle = refl
hole_stays at (holey_last comma) = refl

pub holey : (comma : List Record) (n : ℕ) → Holey (elements comma n)
holey comma zero = holey_last comma
holey comma (suc n) = rw (ne_eqb (suc n) 0 (λ e. omega arith)) holey_middle

-- an element that another follows is in the middle
pub followed : (comma : List Record) (more : ℕ) (n : ℕ) → elements comma (n + suc more) ≡ element
followed comma more n = rw (ne_eqb (n + suc more) 0 (λ e. omega arith))

-- and so is a property
pub followed_property : (comma : List Record) (n : ℕ) → properties comma (n + 1) ≡ property
followed_property comma n = rw (ne_eqb (n + 1) 0 (λ e. omega arith))

module _ {s : Sheet} where
  holes_stay : {i j : ℕ} {hs : Forest} → Derives s Elision i j hs → (f : ℕ → Role) → ((n : ℕ) → Holey (f n)) → (us : Forest) (records : List Record) → convert_kids hs f ≡ turned us records → us ≡ hs
  unfolding convert_kids count
  holes_stay D.no_elision f h us records e = let a : nil ≡ us = cc in sym a
  holes_stay (D.elision {p = p} {ts = ts} d t) f h us records e =
      let r = split ts (one (leaf Row.Hole p)) f (λ n. f (n + 1)) (λ n. refl) us records e in
      let a = holes_stay d (λ n. f (n + 1)) (λ n. h (n + 1)) r.left r.left_said r.left_turns in
      let q = single (leaf Row.Hole p) f r.right r.right_said r.right_turns in
      let b = kept (sym (hole_stays p (h 0)) ∙ q.turns) in
      r.is_forest ∙ ap (λ (x : Forest). join x r.right) a ∙ ap (join ts) (q.is_forest ∙ ap one b.is_row)

one_count : {ts : Forest} (t : Tree) → ts ≡ one t → count ts ≡ 1
unfolding count
one_count t e = rw e

ends : (hs ts : Forest) (t : Tree) → ts ≡ one t → ends_in_spread (join hs ts) ≡ kind_of t is Row.Spread
ends hs ts t e = ap (λ (v : Forest). ends_in_spread (join hs v)) e ∙ spread_last hs t

lone_ends : (ts : Forest) (t : Tree) → ts ≡ one t → ends_in_spread ts ≡ kind_of t is Row.Spread
unfolding join
lone_ends ts t e = ends nil ts t e

-- LISTS
-- what stands in the list of a literal: its roles, what it becomes in the middle and as the last, and that only the last tells whether the list ends in a Spread
record Kids (s : Sheet) (x rest : Nonterminal) (middle : Role) (last : List Record → ℕ → Role) (Kid : ℕ → ℕ → Forest → Type 0) : Type 0 where
  in_middle : {i j : ℕ} {ts : Forest} → Kid i j ts → (us : Forest) (records : List Record) → convert_kids ts (only middle) ≡ turned us records → Silent records → Derives s x i j us
  at_end : {i j : ℕ} {ts : Forest} → Kid i j ts → (comma : List Record) (us : Forest) (records : List Record) → convert_kids ts (last comma) ≡ turned us records → Silent records
      → LastKid s x rest i j (ends_in_spread ts) comma us
  goes_before : {i j : ℕ} {ts : Forest} → Kid i j ts → (comma : List Record) (n : ℕ) → last comma (n + count ts) ≡ middle
  spreads : {i j : ℕ} {us : Forest} → Kid i j us → (ts : Forest) → ends_in_spread (join ts us) ≡ ends_in_spread us

-- a list of which the last closes the literal
data LastList (s : Sheet) (x rest : Nonterminal) (i j : ℕ) (spreads : Bool) (comma : List Record) (us : Forest) : Type 0 where
  plain_list : spreads ≡ false → Derives s (ListOf x) i j us → LastList s x rest i j spreads comma us
  rest_only : spreads ≡ true → Silent comma → Derives s rest i j us → LastList s x rest i j spreads comma us
  rest_after : (p : ℕ) (xs ys : Forest) → spreads ≡ true → Silent comma → Derives s (ListOf x) i p xs → Tok s p Comma → Derives s rest (p + 1) j ys → us ≡ join xs ys
      → LastList s x rest i j spreads comma us

module _ {s : Sheet} {x rest : Nonterminal} {i j : ℕ} {spreads : Bool} {us : Forest} where
  -- before a comma that closes, a list ends in no Spread
  open_list : {comma : List Record} → spreads ≡ false → LastList s x rest i j spreads comma us → Derives s (ListOf x) i j us
  open_list b (plain_list n l) = l
  open_list b (rest_only n c l) = absurd (not_both n b)
  open_list b (rest_after q xs ys n c l t r e) = absurd (not_both n b)

  closed_list : {r : Record} → spreads ≡ true → LastList s x rest i j spreads (r ∷ []) us → ⊥
  closed_list b (plain_list n l) = not_both b n
  closed_list b (rest_only n c l) = said c
  closed_list b (rest_after q xs ys n c l t r e) = said c

module _ {s : Sheet} {x rest : Nonterminal} {middle : Role} {last : List Record → ℕ → Role} {Kid : ℕ → ℕ → Forest → Type 0} (k : Kids s x rest middle last Kid) where
  list_middle : {i j : ℕ} {ts : Forest} → Each s Kid i j ts → (us : Forest) (records : List Record) → convert_kids ts (only middle) ≡ turned us records → Silent records
      → Derives s (ListOf x) i j us
  list_middle (each_one d) us records e f = D.first_of_list (k.in_middle d us records e f)
  list_middle (each_more {ts = ts} {us = vs} l t d) us records e f =
      let r = split ts vs (only middle) (only middle) (λ n. refl) us records e in
      let g : Silent (r.left_said ++ r.right_said) = subst Silent r.are f in
      rw r.is_forest
      (D.next_of_list (list_middle l r.left r.left_said r.left_turns (silent_left r.left_said r.right_said g)) t
      (k.in_middle d r.right r.right_said r.right_turns (silent_right r.left_said r.right_said g)))

  list_last : {i j : ℕ} {ts : Forest} → Each s Kid i j ts → (comma : List Record) (us : Forest) (records : List Record) → convert_kids ts (last comma) ≡ turned us records → Silent records
      → LastList s x rest i j (ends_in_spread ts) comma us
  list_last {i} {j} (each_one d) comma us records e f = go (k.at_end d comma us records e f)
    where
      go : {b : Bool} → LastKid s x rest i j b comma us → LastList s x rest i j b comma us
      go (last_plain n d) = plain_list n (D.first_of_list d)
      go (last_rest n c d) = rest_only n c d
  list_last {i} {j} (each_more {p = p} {ts = ts} {us = vs} l t d) comma us records e f =
      let r = split ts vs (last comma) (only middle) (k.goes_before d comma) us records e in
      let g : Silent (r.left_said ++ r.right_said) = subst Silent r.are f in
      rw (k.spreads d ts)
      (go r.left r.right r.is_forest (list_middle l r.left r.left_said r.left_turns (silent_left r.left_said r.right_said g))
      (k.at_end d comma r.right r.right_said r.right_turns (silent_right r.left_said r.right_said g)))
    where
      go : {b : Bool} (ls rs : Forest) → us ≡ join ls rs → Derives s (ListOf x) i p ls → LastKid s x rest (p + 1) j b comma rs → LastList s x rest i j b comma us
      go ls rs q l (last_plain n d) = plain_list n (rw q (D.next_of_list l t d))
      go ls rs q l (last_rest n c d) = rest_after p ls rs n c l t d q

suc_last : (n : ℕ) → n + 1 ≡ suc n
suc_last n = omega arith

module _ {s : Sheet} where
  -- an element after holes, in the middle and as the last
  element_middle : {i j : ℕ} {ts : Forest} → Past s (ElementTurns s) i j ts → (us : Forest) (records : List Record) → convert_kids ts (only element) ≡ turned us records → Silent records
      → Derives s (Elided AssignmentElement) i j us
  element_middle (past {hs = hs} {ts = ts} h x) us records e f =
      let r = split hs ts (only element) (only element) (λ n. refl) us records e in
      let a = holes_stay h (only element) (λ n. holey_middle) r.left r.left_said r.left_turns in
      let q = single x.tree (only element) r.right r.right_said (ap (λ (v : Forest). convert_kids v (only element)) (sym x.is_one) ∙ r.right_turns) in
      let g : Silent (r.left_said ++ r.right_said) = subst Silent r.are f in
      let d = x.in_middle q.into r.right_said q.turns (silent_right r.left_said r.right_said g) in
      rw (r.is_forest, a, q.is_forest) (D.elided h d)

  element_last : {i j : ℕ} {ts : Forest} → Past s (ElementTurns s) i j ts → (comma : List Record) (us : Forest) (records : List Record) → convert_kids ts (elements comma) ≡ turned us records
      → Silent records → LastKid s (Elided AssignmentElement) (Elided AssignmentRestElement) i j (ends_in_spread ts) comma us
  element_last {i} {j} (past {p = p} {hs = hs} {ts = ts} h x) comma us records e f =
      let r = split hs ts (elements comma) (only element) (λ n. ap (λ (m : ℕ). elements comma (n + m)) (one_count x.tree x.is_one) ∙ followed comma 0 n) us records e in
      let a = holes_stay h (only element) (λ n. holey_middle) r.left r.left_said r.left_turns in
      let q = single x.tree (elements comma) r.right r.right_said (ap (λ (v : Forest). convert_kids v (elements comma)) (sym x.is_one) ∙ r.right_turns) in
      let g : Silent (r.left_said ++ r.right_said) = subst Silent r.are f in
      rw (ends hs ts x.tree x.is_one)
      (go (r.is_forest ∙ ap (λ (v : Forest). join v r.right) a ∙ ap (join hs) q.is_forest) (x.at_end comma q.into r.right_said q.turns (silent_right r.left_said r.right_said g)))
    where
      go : {b : Bool} {u : Tree} → us ≡ join hs (one u) → LastKid s AssignmentElement AssignmentRestElement p j b comma (one u)
          → LastKid s (Elided AssignmentElement) (Elided AssignmentRestElement) i j b comma us
      go q (last_plain n d) = last_plain n (rw q (D.elided h d))
      go q (last_rest n c d) = last_rest n c (rw q (D.elided h d))

  element_before : {i j : ℕ} {ts : Forest} → Past s (ElementTurns s) i j ts → (comma : List Record) (n : ℕ) → elements comma (n + count ts) ≡ element
  element_before (past {hs = hs} {ts = ts} h x) comma n =
      ap (λ (m : ℕ). elements comma (n + m)) (count_join hs ts ∙ ap (λ (m : ℕ). count hs + m) (one_count x.tree x.is_one) ∙ suc_last (count hs)) ∙ followed comma (count hs) n

  element_spreads : {i j : ℕ} {us : Forest} → Past s (ElementTurns s) i j us → (ts : Forest) → ends_in_spread (join ts us) ≡ ends_in_spread us
  element_spreads (past {hs = hs} {ts = us} h x) ts =
      ap ends_in_spread (sym (join_assoc ts hs us)) ∙ ends (join ts hs) us x.tree x.is_one ∙ sym (ends hs us x.tree x.is_one)

  in_arrays : Kids s (Elided AssignmentElement) (Elided AssignmentRestElement) element elements (Past s (ElementTurns s))
  in_arrays = record { in_middle = λ d. element_middle d; at_end = λ d. element_last d; goes_before = λ d. element_before d; spreads = λ d. element_spreads d }

  -- a property, in the middle and as the last
  property_middle : {i j : ℕ} {ts : Forest} → PropertyTurns s i j ts → (us : Forest) (records : List Record) → convert_kids ts (only property) ≡ turned us records → Silent records
      → Derives s AssignmentProperty i j us
  property_middle x us records e f =
      let q = single x.tree (only property) us records (ap (λ (v : Forest). convert_kids v (only property)) (sym x.is_one) ∙ e) in
      rw q.is_forest (x.in_middle q.into records q.turns f)

  property_last : {i j : ℕ} {ts : Forest} → PropertyTurns s i j ts → (comma : List Record) (us : Forest) (records : List Record) → convert_kids ts (properties comma) ≡ turned us records
      → Silent records → LastKid s AssignmentProperty AssignmentRestProperty i j (ends_in_spread ts) comma us
  property_last {ts = ts} x comma us records e f =
      let q = single x.tree (properties comma) us records (ap (λ (v : Forest). convert_kids v (properties comma)) (sym x.is_one) ∙ e) in
      rw (lone_ends ts x.tree x.is_one, q.is_forest) (x.at_end comma q.into records q.turns f)

  property_before : {i j : ℕ} {ts : Forest} → PropertyTurns s i j ts → (comma : List Record) (n : ℕ) → properties comma (n + count ts) ≡ property
  property_before x comma n = ap (λ (m : ℕ). properties comma (n + m)) (one_count x.tree x.is_one) ∙ followed_property comma n

  property_spreads : {i j : ℕ} {us : Forest} → PropertyTurns s i j us → (ts : Forest) → ends_in_spread (join ts us) ≡ ends_in_spread us
  property_spreads {us = us} x ts = ends ts us x.tree x.is_one ∙ sym (lone_ends us x.tree x.is_one)

  in_objects : Kids s AssignmentProperty AssignmentRestProperty property properties (PropertyTurns s)
  in_objects = record { in_middle = λ d. property_middle d; at_end = λ d. property_last d; goes_before = λ d. property_before d; spreads = λ d. property_spreads d }

  -- LITERALS
  -- a literal that in each role but one is turned over its kids is an AssignmentPattern
  literal_turns : {i j : ℕ} (kind kind' mark first end : ℕ) (ts : Forest) (f : ℕ → Role) → change any (seen (node kind mark first end ts)) ≡ turn kind' [] f []
      → change value (seen (node kind mark first end ts)) ≡ turn kind' [] f [] → change element (seen (node kind mark first end ts)) ≡ turn kind' [] f []
      → ((comma : List Record) → change (last_element comma) (seen (node kind mark first end ts)) ≡ turn kind' [] f [])
      → ((u : Tree) (records : List Record) → convert_as (node kind mark first end ts) simple ≡ turned u records → ⊥)
      → ((us : Forest) (records : List Record) → convert_kids ts f ≡ turned us records → Silent records → Derives s AssignmentPattern i j (one (node kind' mark first end us)))
      → Turns s i j (one (node kind mark first end ts))
  unfolding first_tree convert_as roles
  literal_turns {i} {j} kind kind' mark first end ts g a b c d n h = record { with = go }
    where
      pattern : (x : Change) → x ≡ turn kind' [] g [] → (u : Tree) (records : List Record) → over x (node kind mark first end ts) (convert_kids ts (roles x)) ≡ turned u records → Silent records
          → Derives s AssignmentPattern i j (one u)
      pattern x q u records e f =
          let r = over_turn kind' kind mark first end [] [] g ts (convert_kids ts g) u records (rw q at e) in
          rw r.is_row (h r.into r.said r.kids_turn (subst Silent (r.are ∙ append-nil r.said) f))

      go : {role : Role} → Expected role → (u : Tree) (records : List Record) → convert_as (first_tree (one (node kind mark first end ts))) role ≡ turned u records → Silent records
          → Derives s (aim role) i j (one u)
      go as_target u records e f = D.target_pattern (pattern _ a u records e f)
      go as_simple_target u records e f = absurd (n u records e)
      go as_content u records e f = D.target_element (D.target_pattern (pattern _ b u records e f))
      go as_middle u records e f = D.target_element (D.target_pattern (pattern _ c u records e f))
      go (as_last comma) u records e f = D.target_element (D.target_pattern (pattern _ (d comma) u records e f))

  -- what the literals become, and what must be shown of them
  array_turns : {i j : ℕ} (mark first end : ℕ) (ts : Forest)
      → ((us : Forest) (records : List Record) → convert_kids ts (elements []) ≡ turned us records → Silent records → Derives s AssignmentPattern i j (one (node Row.TargetArray mark first end us)))
      → Turns s i j (one (node Row.Array mark first end ts))
  unfolding convert_as change as_any as_simple as_value as_element as_last_element seen over
  array_turns mark first end ts h = literal_turns Row.Array Row.TargetArray mark first end ts (elements []) refl refl refl (λ comma. refl) (λ u records e. never e) h

  array_closed_turns : {i j : ℕ} (mark first end : ℕ) (ts : Forest) → kind_of (last_of ts) is Row.Spread ≡ true
      → ((us : Forest) (records : List Record) → convert_kids ts (elements (rest_comma first ∷ [])) ≡ turned us records → Silent records
      → Derives s AssignmentPattern i j (one (node Row.TargetArray mark first end us)))
      → Turns s i j (one (node Row.ArrayRestComma mark first end ts))
  unfolding convert_as change as_any as_simple as_value as_element as_last_element seen over
  array_closed_turns mark first end ts l h =
      literal_turns Row.ArrayRestComma Row.TargetArray mark first end ts (elements (rest_comma first ∷ [])) (rw l) (rw l) (rw l) (λ comma. rw l) (λ u records e. never e) h

  object_turns : {i j : ℕ} (mark first end : ℕ) (ts : Forest)
      → ((us : Forest) (records : List Record) → convert_kids ts (properties []) ≡ turned us records → Silent records → Derives s AssignmentPattern i j (one (node Row.TargetObject mark first end us)))
      → Turns s i j (one (node Row.Object mark first end ts))
  unfolding convert_as change as_any as_simple as_value as_element as_last_element seen over
  object_turns mark first end ts h = literal_turns Row.Object Row.TargetObject mark first end ts (properties []) refl refl refl (λ comma. refl) (λ u records e. never e) h

  object_closed_turns : {i j : ℕ} (mark first end : ℕ) (ts : Forest) → kind_of (last_of ts) is Row.Spread ≡ true
      → ((us : Forest) (records : List Record) → convert_kids ts (properties (rest_comma first ∷ [])) ≡ turned us records → Silent records
      → Derives s AssignmentPattern i j (one (node Row.TargetObject mark first end us)))
      → Turns s i j (one (node Row.ObjectRestComma mark first end ts))
  unfolding convert_as change as_any as_simple as_value as_element as_last_element seen over
  object_closed_turns mark first end ts l h =
      literal_turns Row.ObjectRestComma Row.TargetObject mark first end ts (properties (rest_comma first ∷ [])) (rw l) (rw l) (rw l) (λ comma. rw l) (λ u records e. never e) h

-- the last of some rows is a Spread, in two words
spread_is_last : (ts : Forest) → ends_in_spread ts ≡ kind_of (last_of ts) is Row.Spread
unfolding ends_in_spread kind_of
spread_is_last nil = refl
spread_is_last (cons (node kind mark first end kids) nil) = refl
spread_is_last (cons t (cons u us)) = spread_is_last (cons u us)

module _ {s : Sheet} where
  -- [ Elision opt ]
  empty_array_turns : {i p : ℕ} {ts : Forest} → Tok s i LBrack → Derives s Elision (i + 1) p ts → Tok s p RBrack → Turns s i (p + 1) (one (node Row.Array i i (p + 1) ts))
  empty_array_turns {i} {p} {ts} o d c =
      array_turns i i (p + 1) ts (λ us records e f. let q = holes_stay d (elements []) (holey []) us records e in rw q (D.target_array_empty o d c))

  -- [ ElementList ]
  list_array_turns : {i p : ℕ} {ts : Forest} → Tok s i LBrack → Each s (Past s (ElementTurns s)) (i + 1) p ts → Tok s p RBrack → Turns s i (p + 1) (one (node Row.Array i i (p + 1) ts))
  list_array_turns {i} {p} {ts} o d c = array_turns i i (p + 1) ts (λ us records e f. go us (list_last in_arrays d [] us records e f))
    where
      go : (us : Forest) → LastList s (Elided AssignmentElement) (Elided AssignmentRestElement) (i + 1) p (ends_in_spread ts) [] us → Derives s AssignmentPattern i (p + 1) (one (node Row.TargetArray i i (p + 1) us))
      go us (plain_list n l) = D.target_array_list o l c
      go us (rest_only n x l) = D.target_array_rest o l c
      go us (rest_after q xs ys n x l t r e) = rw e (D.target_array_list_rest o l t r c)

  -- [ ElementList , ]
  comma_array_turns : {i p : ℕ} (ts : Forest) → Tok s i LBrack → Each s (Past s (ElementTurns s)) (i + 1) p ts → Tok s p Comma → Tok s (p + 1) RBrack
      → Turns s i (p + 1 + 1) (one (node (array_row ts) i i (p + 1 + 1) ts))
  unfolding array_row
  comma_array_turns {i} {p} ts o d t c = by (ends_in_spread ts) refl
    where
      by : (b : Bool) → ends_in_spread ts ≡ b → Turns s i (p + 1 + 1) (one (node (if b then Row.ArrayRestComma else Row.Array) i i (p + 1 + 1) ts))
      by true b =
          array_closed_turns i i (p + 1 + 1) ts (sym (spread_is_last ts) ∙ b) (λ us records e f. absurd (closed_list b (list_last in_arrays d (rest_comma i ∷ []) us records e f)))
      by false b =
          array_turns i i (p + 1 + 1) ts
          (λ us records e f. subst (λ (v : Forest). Derives s AssignmentPattern i (p + 1 + 1) (one (node Row.TargetArray i i (p + 1 + 1) v))) (join_nil us)
          (D.target_array_comma o (open_list b (list_last in_arrays d [] us records e f)) t D.no_elision c))

  -- [ ElementList , Elision opt ]
  elision_array_turns : {i p q : ℕ} {ts us : Forest} → Tok s i LBrack → Each s (Past s (ElementTurns s)) (i + 1) p ts → Tok s p Comma → Derives s Elision (p + 1) q us → Tok s q RBrack
      → Turns s i (q + 1) (one (node (array_row (join ts us)) i i (q + 1) (join ts us)))
  unfolding array_row kind_of count
  elision_array_turns {ts = ts} o d t D.no_elision c = rw (join_nil ts) (comma_array_turns ts o d t c)
  elision_array_turns {i} {p} {ts = ts} o d t (D.elision {p = r} {ts = hs} h u) c =
      let hole : Forest = one (leaf Row.Hole r) in
      let b : ends_in_spread (join ts (join hs hole)) ≡ false = ap ends_in_spread (sym (join_assoc ts hs hole)) ∙ spread_last (join ts hs) (leaf Row.Hole r) in
      let k : count (join hs hole) ≡ suc (count hs) = count_join hs hole ∙ suc_last (count hs) in
      rw b (array_turns i i (r + 1 + 1) (join ts (join hs hole))
      (λ us records e f. go us (split ts (join hs hole) (elements []) (only element) (λ n. ap (λ (m : ℕ). elements [] (n + m)) k ∙ followed [] (count hs) n) us records e) f))
    where
      go : {records : List Record} (us : Forest) → (x : Split ts (join hs (one (leaf Row.Hole r))) (elements []) (only element) us records)
          → Silent records → Derives s AssignmentPattern i (r + 1 + 1) (one (node Row.TargetArray i i (r + 1 + 1) us))
      go us x f =
          let l = list_middle in_arrays d x.left x.left_said x.left_turns (silent_left x.left_said x.right_said (subst Silent x.are f)) in
          let q = holes_stay (D.elision h u) (elements []) (holey []) x.right x.right_said x.right_turns in
          rw (x.is_forest, q) (D.target_array_comma o l t (D.elision h u) c)

module _ {s : Sheet} where
  -- OBJECTS
  -- { }
  empty_object_turns : {i : ℕ} → Tok s i LCurly → Tok s (i + 1) RCurly → Turns s i (i + 2) (one (node Row.Object i i (i + 2) nil))
  unfolding convert_kids
  empty_object_turns {i} o c = object_turns i i (i + 2) nil (λ us records e f. let q : nil ≡ us = cc in rw (sym q) (D.target_object_empty o c))

  -- { PropertyDefinitionList }
  list_object_turns : {i p : ℕ} {ts : Forest} → Tok s i LCurly → Each s (PropertyTurns s) (i + 1) p ts → Tok s p RCurly → Turns s i (p + 1) (one (node Row.Object i i (p + 1) ts))
  list_object_turns {i} {p} {ts} o d c = object_turns i i (p + 1) ts (λ us records e f. go us (list_last in_objects d [] us records e f))
    where
      go : (us : Forest) → LastList s AssignmentProperty AssignmentRestProperty (i + 1) p (ends_in_spread ts) [] us → Derives s AssignmentPattern i (p + 1) (one (node Row.TargetObject i i (p + 1) us))
      go us (plain_list n l) = D.target_object_list o l c
      go us (rest_only n x l) = D.target_object_rest o l c
      go us (rest_after q xs ys n x l t r e) = rw e (D.target_object_list_rest o l t r c)

  -- { PropertyDefinitionList , }
  comma_object_turns : {i p : ℕ} {ts : Forest} → Tok s i LCurly → Each s (PropertyTurns s) (i + 1) p ts → Tok s p Comma → Tok s (p + 1) RCurly
      → Turns s i (p + 2) (one (node (object_row ts) i i (p + 2) ts))
  unfolding object_row
  comma_object_turns {i} {p} {ts} o d t c = by (ends_in_spread ts) refl
    where
      by : (b : Bool) → ends_in_spread ts ≡ b → Turns s i (p + 2) (one (node (if b then Row.ObjectRestComma else Row.Object) i i (p + 2) ts))
      by true b = object_closed_turns i i (p + 2) ts (sym (spread_is_last ts) ∙ b) (λ us records e f. absurd (closed_list b (list_last in_objects d (rest_comma i ∷ []) us records e f)))
      by false b = object_turns i i (p + 2) ts (λ us records e f. D.target_object_comma o (open_list b (list_last in_objects d [] us records e f)) t c)

-- ROWS
-- a key or an initializer stays as it is
pub same_stays : (t : Tree) → convert_as t same ≡ turned t []
unfolding convert_as change seen over
same_stays (node kind mark first end kids) = refl

-- what is no literal converts to any target as to a simple one
pub any_simple : (t : Tree) → is_array_or_object (kind_of t) ≡ false → convert_as t any ≡ convert_as t simple
unfolding convert_as change as_any seen kind_of
any_simple (node kind mark first end kids) h =
    rw (differs Row.Array refl, differs Row.ArrayRestComma refl, differs Row.Object refl, differs Row.ObjectRestComma refl)
  where
    differs : (a : ℕ) → is_array_or_object a ≡ true → kind is a ≡ false
    differs a t = ne_eqb kind a (λ q. not_both (ap is_array_or_object q ∙ t) h)

-- a literal as the argument of an object's rest is record 3
literal_argument : (t : Tree) → is_array_or_object (kind_of t) ≡ true → object_argument t ≡ rest_argument (first_of t) ∷ []
unfolding kind_of first_of inner_kind
literal_argument (node kind mark first end kids) h = rw (differs Row.Paren refl, differs Row.Identifier refl, differs Row.Member refl, differs Row.Index refl)
  where
    differs : (a : ℕ) → is_array_or_object a ≡ false → kind is a ≡ false
    differs a t = ne_eqb kind a (λ q. not_both h (ap is_array_or_object q ∙ t))

-- names, members, indexes and Parens convert alike in each role
unfoldable pub simple_kind : ℕ → Bool
simple_kind k = k is Row.Identifier or k is Row.Member or k is Row.Index or k is Row.Paren

pub alike : {role : Role} (kind mark first end : ℕ) (kids : Forest) → simple_kind kind ≡ true → Expected role → convert_as (node kind mark first end kids) role ≡ convert_as (node kind mark first end kids) simple
unfolding simple_kind convert_as change as_any as_value as_element as_last_element seen
alike {role} kind mark first end kids h x = go x
  where
    differs : (a : ℕ) → simple_kind a ≡ false → kind is a ≡ false
    differs a t = ne_eqb kind a (λ q. not_both h (ap simple_kind q ∙ t))

    go : {role : Role} → Expected role → convert_as (node kind mark first end kids) role ≡ convert_as (node kind mark first end kids) simple
    go as_target = rw (differs Row.Array refl, differs Row.ArrayRestComma refl, differs Row.Object refl, differs Row.ObjectRestComma refl)
    go as_simple_target = refl
    go as_content = rw (differs Row.Array refl, differs Row.ArrayRestComma refl, differs Row.Object refl, differs Row.ObjectRestComma refl, differs Row.Assign refl, differs Row.CompoundAssign refl)
    go as_middle =
        rw (differs Row.Array refl, differs Row.ArrayRestComma refl, differs Row.Object refl, differs Row.ObjectRestComma refl, differs Row.Assign refl, differs Row.CompoundAssign refl, differs Row.Hole refl, differs Row.Spread refl)
    go (as_last comma) =
        rw (differs Row.Array refl, differs Row.ArrayRestComma refl, differs Row.Object refl, differs Row.ObjectRestComma refl, differs Row.Assign refl, differs Row.CompoundAssign refl, differs Row.Hole refl, differs Row.Spread refl)

module _ {s : Sheet} where
  -- a simple target is a target in each role
  wrap : {role : Role} {i j : ℕ} {ts : Forest} → Expected role → Derives s SimpleTarget i j ts → Derives s (aim role) i j ts
  wrap as_target d = D.target_simple d
  wrap as_simple_target d = d
  wrap as_content d = D.target_element (D.target_simple d)
  wrap as_middle d = D.target_element (D.target_simple d)
  wrap (as_last comma) d = D.target_element (D.target_simple d)

  simple_turns : {i j : ℕ} (kind mark first end : ℕ) (ts : Forest) → simple_kind kind ≡ true
      → ((u : Tree) (records : List Record) → convert_as (node kind mark first end ts) simple ≡ turned u records → Silent records → Derives s SimpleTarget i j (one u))
      → Turns s i j (one (node kind mark first end ts))
  unfolding first_tree
  simple_turns kind mark first end ts k h = record { with = λ x u records e f. wrap x (h u records (sym (alike kind mark first end ts k x) ∙ e) f) }

  name_turns : {i : ℕ} → OneOf identifiers s i → Turns s i (i + 1) (one (leaf Row.Identifier i))
  unfolding simple_kind convert_as change as_simple seen over
  name_turns {i} n = simple_turns Row.Identifier i i (i + 1) nil refl (λ u records e f. rw (kept e).is_row (D.target_name n))

  index_turns : {c : Links} {i p q : ℕ} {ts us : Forest} → Derives s (LinkedExpression c) i p ts → Tok s p LBrack → Derives s Expression (p + 1) q us → Tok s q RBrack
      → Turns s i (q + 1) (one (node Row.Index i i (q + 1) (join ts us)))
  unfolding simple_kind convert_as change as_simple seen over
  index_turns {i = i} {q = q} {ts} {us} d o e c = simple_turns Row.Index i i (q + 1) (join ts us) refl (λ u records x f. rw (kept x).is_row (D.target_index d o e c))

  member_turns : {c : Links} {i p : ℕ} {ts : Forest} → Derives s (LinkedExpression c) i p ts → Tok s p Dot → OneOf identifier_names s (p + 1)
      → Turns s i (p + 2) (one (node Row.Member (p + 1) i (p + 2) ts))
  unfolding simple_kind convert_as change as_simple seen over
  member_turns {i = i} {p} {ts} d o e = simple_turns Row.Member (p + 1) i (p + 2) ts refl (λ u records x f. rw (kept x).is_row (D.target_member d o e))

  -- ( Expression ) over a simple target
  paren_turns : {i p : ℕ} {ts : Forest} → Tok s i LParen → Root s (i + 1) p ts → Turns s (i + 1) p ts → Tok s p RParen → Turns s i (p + 1) (one (node Row.Paren i i (p + 1) ts))
  unfolding simple_kind convert_as change as_simple seen roles over
  paren_turns {i} {p} {ts} o r h c =
      simple_turns Row.Paren i i (p + 1) ts refl (λ u records e f. go (eqb (count ts) 1 and not (is_array_or_object (kind_of (last_of ts)))) u records e f)
    where
      either : Bool → Change
      either b = if b then turn Row.TargetParen [] (only simple) [] else C.refuse (Cause.Target i)

      go : (b : Bool) (u : Tree) (records : List Record) → over (either b) (node Row.Paren i i (p + 1) ts) (convert_kids ts (roles (either b))) ≡ turned u records → Silent records
          → Derives s SimpleTarget i (p + 1) (one u)
      go true u records e f =
          let x = over_turn Row.TargetParen Row.Paren i i (p + 1) [] [] (only simple) ts (convert_kids ts (only simple)) u records e in
          let q = single (first_tree ts) (only simple) x.into x.said (ap (λ (v : Forest). convert_kids v (only simple)) (sym r.lone) ∙ x.kids_turn) in
          let d = h.with as_simple_target q.into x.said q.turns (subst Silent (x.are ∙ append-nil x.said) f) in
          rw (x.is_row, q.is_forest) (D.target_parenthesized o d c)
      go false u records e f = never e

  -- LeftHandSideExpression = AssignmentExpression as an element with its Initializer
  assign_turns : {i p j : ℕ} {ts us : Forest} → Derives s DestructuringAssignmentTarget i p ts → Tok s p Eq → Derives s AssignmentExpression (p + 1) j us
      → Turns s i j (one (node Row.Assign p i j (join ts us)))
  unfolding first_tree convert_as change as_any as_simple as_value as_element as_last_element seen over
  assign_turns {i} {p} {j} {ts} {us} d t x = record { with = go }
    where
      go : {role : Role} → Expected role → (u : Tree) (records : List Record) → convert_as (first_tree (one (node Row.Assign p i j (join ts us)))) role ≡ turned u records → Silent records
          → Derives s (aim role) i j (one u)
      go as_target u records e f = never e
      go as_simple_target u records e f = never e
      go as_content u records e f = rw (kept e).is_row (D.target_default d t x)
      go as_middle u records e f = rw (kept e).is_row (D.target_default d t x)
      go (as_last comma) u records e f = rw (kept e).is_row (D.target_default d t x)

  compound_turns : {i p j : ℕ} {ts us : Forest} → Derives s SimpleTarget i p ts → OneOf assignment_operators s p → Derives s AssignmentExpression (p + 1) j us
      → Turns s i j (one (node Row.CompoundAssign p i j (join ts us)))
  unfolding first_tree convert_as change as_any as_simple as_value as_element as_last_element seen over
  compound_turns {i} {p} {j} {ts} {us} d t x = record { with = go }
    where
      made : (u : Tree) (records : List Record) → turned (node Row.TargetDefault p i j (join ts us)) (compound_default p ∷ []) ≡ turned u records → Silent records → Derives s AssignmentElement i j (one u)
      made u records e f = let k = kept e in absurd (said (subst Silent k.are f))

      go : {role : Role} → Expected role → (u : Tree) (records : List Record) → convert_as (first_tree (one (node Row.CompoundAssign p i j (join ts us)))) role ≡ turned u records → Silent records
          → Derives s (aim role) i j (one u)
      go as_target u records e f = never e
      go as_simple_target u records e f = never e
      go as_content u records e f = made u records e f
      go as_middle u records e f = made u records e f
      go (as_last comma) u records e f = made u records e f

  -- a row that is no target
  stays : {i j : ℕ} (kind mark first end : ℕ) (ts : Forest) → turnable kind ≡ false → Turns s i j (one (node kind mark first end ts))
  unfolding first_tree
  stays kind mark first end ts k = record { with = λ {role} x u records e f. absurd (refuses kind mark first end ts k role x u records e) }

  -- ELEMENTS AND PROPERTIES, ONE BY ONE
  plain_element_turns : {i j : ℕ} {ts : Forest} → Root s i j ts → Turns s i j ts → ElementTurns s i j ts
  plain_element_turns {ts = ts} r h =
      record {
        tree = first_tree ts;
        is_one = r.lone;
        in_middle = λ u records e f. h.with as_middle u records e f;
        at_end = λ comma u records e f. last_plain r.no_spread (h.with (as_last comma) u records e f);
      }

  spread_element_turns : {i j : ℕ} {ts : Forest} → Tok s i Dot3 → Root s (i + 1) j ts → Turns s (i + 1) j ts → ElementTurns s i j (one (node Row.Spread i i j ts))
  unfolding convert_as change as_element as_last_element seen roles over kind_of
  spread_element_turns {i} {j} {ts} t r h = record { tree = node Row.Spread i i j ts; is_one = refl; in_middle = λ u records e f. never e; at_end = λ comma u records e f. go comma (eqb (count ts) 1) u records e f }
    where
      either : List Record → Bool → Change
      either comma b = if b then turn Row.TargetRest (array_argument (last_of ts)) (only any) comma else C.refuse (Cause.Spread i)

      go : (comma : List Record) (b : Bool) (u : Tree) (records : List Record) → over (either comma b) (node Row.Spread i i j ts) (convert_kids ts (roles (either comma b))) ≡ turned u records → Silent records
          → LastKid s AssignmentElement AssignmentRestElement i j (kind_of (node Row.Spread i i j ts) is Row.Spread) comma (one u)
      go comma true u records e f =
          let before = array_argument (last_of ts) in
          let x = over_turn Row.TargetRest Row.Spread i i j before comma (only any) ts (convert_kids ts (only any)) u records e in
          let q = single (first_tree ts) (only any) x.into x.said (ap (λ (v : Forest). convert_kids v (only any)) (sym r.lone) ∙ x.kids_turn) in
          let y = subst Silent x.are f in
          let g = silent_right before x.said (silent_left (before ++ x.said) comma y) in
          let d = h.with as_target q.into x.said q.turns g in
          last_rest refl (silent_right (before ++ x.said) comma y) (rw (x.is_row, q.is_forest) (D.target_rest t d))
      go comma false u records e f = never e

  spread_property_turns : {i j : ℕ} {ts : Forest} → Tok s i Dot3 → Root s (i + 1) j ts → Turns s (i + 1) j ts → PropertyTurns s i j (one (node Row.Spread i i j ts))
  unfolding convert_as change as_property as_last_property seen roles over kind_of
  spread_property_turns {i} {j} {ts} t r h = record { tree = node Row.Spread i i j ts; is_one = refl; in_middle = λ u records e f. never e; at_end = λ comma u records e f. go comma (eqb (count ts) 1) u records e f }
    where
      either : List Record → Bool → Change
      either comma b = if b then turn Row.TargetRest (object_argument (last_of ts) ++ comma) (only any) [] else C.refuse (Cause.Spread i)

      is_last : last_of ts ≡ first_tree ts
      is_last = ap last_of r.lone

      rest : (u : Tree) (records : List Record) → Silent (object_argument (last_of ts)) → convert_as (first_tree ts) any ≡ turned u records → Silent records → (b : Bool) → is_array_or_object (kind_of (first_tree ts)) ≡ b
          → Derives s AssignmentRestProperty i j (one (node Row.TargetRest i i j (one u)))
      rest u records a e f false b = D.target_rest_property t (h.with as_simple_target u records (sym (any_simple (first_tree ts) b) ∙ e) f)
      rest u records a e f true b = by (h.with as_target u records e f)
        where
          by : Derives s DestructuringAssignmentTarget (i + 1) j (one u) → Derives s AssignmentRestProperty i j (one (node Row.TargetRest i i j (one u)))
          by (D.target_simple d) = D.target_rest_property t d
          by (D.target_pattern d) = absurd (said (subst Silent (ap object_argument is_last ∙ literal_argument (first_tree ts) b) a))

      go : (comma : List Record) (b : Bool) (u : Tree) (records : List Record) → over (either comma b) (node Row.Spread i i j ts) (convert_kids ts (roles (either comma b))) ≡ turned u records → Silent records
          → LastKid s AssignmentProperty AssignmentRestProperty i j (kind_of (node Row.Spread i i j ts) is Row.Spread) comma (one u)
      go comma true u records e f =
          let argument = object_argument (last_of ts) in
          let before = argument ++ comma in
          let x = over_turn Row.TargetRest Row.Spread i i j before [] (only any) ts (convert_kids ts (only any)) u records e in
          let q = single (first_tree ts) (only any) x.into x.said (ap (λ (v : Forest). convert_kids v (only any)) (sym r.lone) ∙ x.kids_turn) in
          let y = silent_left (before ++ x.said) [] (subst Silent x.are f) in
          let g = silent_right before x.said y in
          let k = silent_left before x.said y in
          let d = rest q.into x.said (silent_left argument comma k) q.turns g (is_array_or_object (kind_of (first_tree ts))) refl in
          last_rest refl (silent_right argument comma k) (rw (x.is_row, q.is_forest) d)
      go comma false u records e f = never e

  -- a property that is no Spread converts alike in the middle and as the last
  plain_property : {i j : ℕ} (kind mark first end : ℕ) (ts : Forest) → kind is Row.Spread ≡ false
      → ((u : Tree) (records : List Record) → convert_as (node kind mark first end ts) property ≡ turned u records → Silent records → Derives s AssignmentProperty i j (one u))
      → PropertyTurns s i j (one (node kind mark first end ts))
  unfolding convert_as change as_last_property seen roles kind_of
  plain_property kind mark first end ts k h =
      record { tree = node kind mark first end ts; is_one = refl; in_middle = h; at_end = λ comma u records e f. last_plain k (h u records (rw k at e) f) }

  shorthand_turns : {i : ℕ} → OneOf identifiers s i → PropertyTurns s i (i + 1) (one (node Row.Shorthand i i (i + 1) (one (leaf Row.Identifier i))))
  unfolding convert_as convert_kids change as_property as_name seen roles over both count
  shorthand_turns {i} n = plain_property Row.Shorthand i i (i + 1) (one (leaf Row.Identifier i)) refl (λ u records e f. rw (kept e).is_row (D.target_shorthand n))

  cover_turns : {i j : ℕ} (t : Tree) → OneOf identifiers s i → Tok s (i + 1) Eq → Derives s AssignmentExpression (i + 2) j (one t)
      → PropertyTurns s i j (one (node Row.ShorthandInit (i + 1) i j (cons (leaf Row.Identifier i) (one t))))
  unfolding convert_as convert_kids change as_property as_name seen roles over both count
  cover_turns {i} {j} t n o d =
      plain_property Row.ShorthandInit (i + 1) i j (cons (leaf Row.Identifier i) (one t)) refl
      (λ u records e f. rw (kept (rw (same_stays t) at e)).is_row (D.target_shorthand_default n o d))

  property_turns : {i p j : ℕ} (k t : Tree) → Derives s PropertyName i p (one k) → Tok s p Colon → Turns s (p + 1) j (one t)
      → PropertyTurns s i j (one (node Row.Property i i j (cons k (one t))))
  unfolding first_tree convert_as convert_kids change as_property seen roles count join
  property_turns {i} {p} {j} k t d o h =
      plain_property Row.Property i i j (cons k (one t)) refl
      (λ u records e f.
      let x = over_turn Row.TargetProperty Row.Property i i j [] [] key_and_value (cons k (one t)) (convert_kids (cons k (one t)) key_and_value) u records e in
      let y = two (convert_as k same) (convert_kids (one t) key_and_value) x.into x.said x.kids_turn in
      let z = kept (sym (same_stays k) ∙ y.head_turns) in
      let q = single t key_and_value y.tail y.tail_said y.tail_turns in
      let g : Silent (y.head_said ++ y.tail_said) = subst Silent (x.are ∙ append-nil x.said ∙ y.are) f in
      let v = h.with as_content q.into y.tail_said q.turns (silent_right y.head_said y.tail_said g) in
      rw (x.is_row, y.is_forest, z.is_row, q.is_forest) (D.target_property d o v))

-- a property's key is one tree
lone_key : {s : Sheet} {i j : ℕ} {ts : Forest} → Derives s PropertyName i j ts → ts ≡ one (first_tree ts)
unfolding first_tree
lone_key (D.literal_name n) = refl
lone_key (D.computed_name o d c) = refl

-- forests of one tree, named
cover_turns_at : {s : Sheet} {i j : ℕ} (ts : Forest) → ts ≡ one (first_tree ts) → OneOf identifiers s i → Tok s (i + 1) Eq → Derives s AssignmentExpression (i + 2) j ts
    → PropertyTurns s i j (one (node Row.ShorthandInit (i + 1) i j (cons (leaf Row.Identifier i) ts)))
cover_turns_at {s} {i} {j} ts q n o d =
    subst (λ (v : Forest). PropertyTurns s i j (one (node Row.ShorthandInit (i + 1) i j (cons (leaf Row.Identifier i) v)))) (sym q)
    (cover_turns (first_tree ts) n o (subst (Derives s AssignmentExpression (i + 2) j) q d))

property_turns_at : {s : Sheet} {i p j : ℕ} (ks ts : Forest) → ks ≡ one (first_tree ks) → ts ≡ one (first_tree ts) → Derives s PropertyName i p ks → Tok s p Colon → Turns s (p + 1) j ts
    → PropertyTurns s i j (one (node Row.Property i i j (join ks ts)))
unfolding join
property_turns_at {s} {i} {p} {j} ks ts a b d o h =
    let e : join ks ts ≡ cons (first_tree ks) (one (first_tree ts)) = ap (λ (v : Forest). join v ts) a ∙ ap (cons (first_tree ks)) b in
    subst (λ (v : Forest). PropertyTurns s i j (one (node Row.Property i i j v))) (sym e)
    (property_turns (first_tree ks) (first_tree ts) (subst (Derives s PropertyName i p) a d) o (subst (Turns s (p + 1) j) b h))

-- the row of a tier is no target
tier_stays : {s : Sheet} {i j : ℕ} (tier mark first end : ℕ) (ts : Forest) → Turns s i j (one (node (tier_row tier) mark first end ts))
unfolding tier_row turnable
tier_stays {s} {i} {j} tier mark first end ts = go (leb tier 3)
  where
    go : (b : Bool) → Turns s i j (one (node (if b then Row.Logical else Row.Binary) mark first end ts))
    go true = stays _ mark first end ts refl
    go false = stays _ mark first end ts refl

-- EVERY EXPRESSION: the statement, `made`
-- what is shown of each nonterminal: of the expressions, and of what stands in literals
abbrev pub Made : Sheet → Nonterminal → ℕ → ℕ → Forest → Type 0
Made s (ListOf x) i j ts = Each s (Made s x) i j ts
Made s (Elided x) i j ts = Past s (Made s x) i j ts
Made s D.PrimaryExpression i j ts = Turns s i j ts
Made s D.ArrayLiteral i j ts = Turns s i j ts
Made s D.Elision i j ts = Unit {0}
Made s D.SpreadElement i j ts = ElementTurns s i j ts × PropertyTurns s i j ts
Made s D.Element i j ts = ElementTurns s i j ts
Made s D.ObjectLiteral i j ts = Turns s i j ts
Made s D.PropertyDefinition i j ts = PropertyTurns s i j ts
Made s D.PropertyName i j ts = Unit {0}
Made s (D.LinkedExpression c) i j ts = Turns s i j ts
Made s D.Arguments i j ts = Unit {0}
Made s D.LeftHandSideExpression i j ts = Turns s i j ts
Made s D.UpdateExpression i j ts = Turns s i j ts
Made s D.UnaryExpression i j ts = Turns s i j ts
Made s (D.TierExpression l) i j ts = Turns s i j ts
Made s D.CoalesceExpressionHead i j ts = Unit {0}
Made s D.CoalesceExpression i j ts = Turns s i j ts
Made s D.ShortCircuitExpression i j ts = Turns s i j ts
Made s D.ConditionalExpression i j ts = Turns s i j ts
Made s D.AssignmentExpression i j ts = Turns s i j ts
Made s D.SimpleTarget i j ts = Unit {0}
Made s D.AssignmentPattern i j ts = Unit {0}
Made s D.DestructuringAssignmentTarget i j ts = Unit {0}
Made s D.AssignmentElement i j ts = Unit {0}
Made s D.AssignmentRestElement i j ts = Unit {0}
Made s D.AssignmentProperty i j ts = Unit {0}
Made s D.AssignmentRestProperty i j ts = Unit {0}
Made s (D.Commas c) i j ts = Unit {0}
Made s D.Expression i j ts = Turns s i j ts
Made s D.Binding i j ts = Unit {0}
Made s D.BindingPattern i j ts = Unit {0}
Made s D.BindingElement i j ts = Unit {0}
Made s D.BindingRestElement i j ts = Unit {0}
Made s D.BindingProperty i j ts = Unit {0}
Made s D.BindingRestProperty i j ts = Unit {0}
Made s D.FormalParameters i j ts = Unit {0}
Made s D.ArrowFormalParameters i j ts = Unit {0}
Made s D.ArrowParameters i j ts = Unit {0}
Made s D.AsyncArrowHead i j ts = Unit {0}
Made s D.ConciseBody i j ts = Unit {0}

pub made : {s : Sheet} {x : Nonterminal} {i j : ℕ} {ts : Forest} → Derives s x i j ts → Made s x i j ts
unfolding turnable
made (D.first_of_list d) = each_one (made d)
made (D.next_of_list l t d) = each_more (made l) t (made d)
made (D.elided h d) = past h (made d)
made (D.this _) = stays _ _ _ _ _ refl
made (D.identifier n) = name_turns n
made (D.literal _) = stays _ _ _ _ _ refl
made (D.array d) = made d
made (D.object d) = made d
made (D.parenthesized o d c) = paren_turns o (root_expression d) (made d) c
made (D.array_empty o d c) = empty_array_turns o d c
made (D.array_list o d c) = list_array_turns o (made d) c
made (D.array_comma o d t h c) = elision_array_turns o (made d) t h c
made D.no_elision = tt
made (D.elision _ _) = tt
made (D.spread t d) = (spread_element_turns t (root_assignment d) (made d), spread_property_turns t (root_assignment d) (made d))
made (D.plain_element d) = plain_element_turns (root_assignment d) (made d)
made (D.spread_element d) = (made d).0
made (D.object_empty o c) = empty_object_turns o c
made (D.object_list o d c) = list_object_turns o (made d) c
made (D.object_comma o d t c) = comma_object_turns o (made d) t c
made (D.shorthand n) = shorthand_turns n
made (D.cover_initialized n t d) = cover_turns_at _ (root_assignment d).lone n t d
made (D.property k t d) = property_turns_at _ _ (lone_key k) (root_assignment d).lone k t (made d)
made (D.spread_property d) = (made d).1
made (D.literal_name _) = tt
made (D.computed_name _ _ _) = tt
made (D.primary d) = made d
made (D.index d o e c) = index_turns d o e c
made (D.member d o e) = member_turns d o e
made (D.call _ _) = stays _ _ _ _ _ refl
made (D.linked d) = made d
made (D.no_arguments _ _) = tt
made (D.arguments _ _ _) = tt
made (D.arguments_comma _ _ _ _) = tt
made (D.left_hand_side d) = made d
made (D.postfix _ _ _) = stays _ _ _ _ _ refl
made (D.prefix _ _) = stays _ _ _ _ _ refl
made (D.update d) = made d
made (D.unary _ _) = stays _ _ _ _ _ refl
made (D.no_power d) = made d
made (D.power _ _ _) = stays _ _ _ _ _ refl
made (D.no_operation l d) = made d
made (D.operation l _ _ _) = rw (line l).row_is (tier_stays _ _ _ _ _)
made (D.head_coalesce _) = tt
made (D.head_or _) = tt
made (D.coalesce _ _ _) = stays _ _ _ _ _ refl
made (D.short_circuit_or d) = made d
made (D.short_circuit_coalesce d) = made d
made (D.short_circuit d) = made d
made (D.conditional _ _ _ _ _) = stays _ _ _ _ _ refl
made (D.no_assignment d) = made d
made (D.arrow _ _ _ _) = stays _ _ _ _ _ refl
made (D.async_arrow _ _ _ _) = stays _ _ _ _ _ refl
made (D.assign d t e) = assign_turns d t e
made (D.compound_assign d t e) = compound_turns d t e
made (D.target_name _) = tt
made (D.target_index _ _ _ _) = tt
made (D.target_member _ _ _) = tt
made (D.target_parenthesized _ _ _) = tt
made (D.target_simple _) = tt
made (D.target_pattern _) = tt
made (D.target_array_empty _ _ _) = tt
made (D.target_array_rest _ _ _) = tt
made (D.target_array_list _ _ _) = tt
made (D.target_array_comma _ _ _ _ _) = tt
made (D.target_array_list_rest _ _ _ _ _) = tt
made (D.target_object_empty _ _) = tt
made (D.target_object_rest _ _ _) = tt
made (D.target_object_list _ _ _) = tt
made (D.target_object_comma _ _ _ _) = tt
made (D.target_object_list_rest _ _ _ _ _) = tt
made (D.target_element _) = tt
made (D.target_default _ _ _) = tt
made (D.target_rest _ _) = tt
made (D.target_shorthand _) = tt
made (D.target_shorthand_default _ _ _) = tt
made (D.target_property _ _ _) = tt
made (D.target_rest_property _ _) = tt
made (D.no_comma d) = made d
made (D.sequence _) = stays _ _ _ _ _ refl
made (D.first_comma _ _ _) = tt
made (D.next_comma _ _ _) = tt
made (D.binding_name _) = tt
made (D.binding_pattern _) = tt
made (D.binding_object_empty _ _) = tt
made (D.binding_object_rest _ _ _) = tt
made (D.binding_object_list _ _ _) = tt
made (D.binding_object_comma _ _ _ _) = tt
made (D.binding_object_list_rest _ _ _ _ _) = tt
made (D.binding_array_empty _ _ _) = tt
made (D.binding_array_rest _ _ _) = tt
made (D.binding_array_list _ _ _) = tt
made (D.binding_array_comma _ _ _ _ _) = tt
made (D.binding_array_list_rest _ _ _ _ _) = tt
made (D.no_default _) = tt
made (D.binding_default _ _ _) = tt
made (D.binding_rest _ _) = tt
made (D.binding_shorthand _) = tt
made (D.binding_shorthand_default _ _ _) = tt
made (D.binding_property _ _ _) = tt
made (D.binding_rest_property _ _) = tt
made D.no_parameters = tt
made (D.rest_parameter _) = tt
made (D.parameters _) = tt
made (D.parameters_comma _ _) = tt
made (D.parameters_rest _ _ _) = tt
made (D.arrow_formal_parameters _ _ _) = tt
made (D.arrow_name _) = tt
made (D.arrow_parameters _) = tt
made (D.concise_body _ _) = tt
made (D.async_name _ _ _) = tt
made (D.async_parameters _ _ _) = tt
