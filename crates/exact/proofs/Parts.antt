-- What the plain reader reads of each nonterminal of ECMA-262's grammar, from what it reads of the nonterminal's parts: one record for what is shown of
-- a nonterminal, one lemma for each of its productions. Targets have a file of their own.
-- Assumes nothing.
use Rattle.std.specs.Prelude.{if◌then◌else◌}
use mathlib.Core.List.{[]}
use Prim.Native.Nat.{ℕ, suc, ◌+◌, ◌<◌, ◌≤◌}
use mathlib.Core.Path.{◌≡◌, refl, sym, ap, ◌∙◌, subst}
use mathlib.Core.Bool.{Bool, true, false, not}
use native.Mathlib.Omega.{arith}
use lib.Dec.{ltb, leb}
use lib.ListN.{length}
use native.Mathlib.Decide.{ℕ_discrete}
use borrow.Author.Tests.{ne_eqb, lt-ltb, le-ltb, leb-true, leb-false, le-leb, lt-leb}
use Rattle.tokens.specs.Bool.{◌or◌, ◌and◌, ◌is◌}
use Rattle.tokens.specs.Kind.{Async, LParen, Colon, Dot3, Eq, This, RParen, LBrack, RBrack, LCurly, RCurly, Comma, Question, Dot, Arrow, Question2, Star2}
use Rattle.tokens.specs.Token.{is_name, is_word, is_literal}
use Rattle.tokens.specs.declared.cause.Cause.{Cause}
use Rattle.tokens.proofs.Stands.{stands}
use Rattle.operators.specs.Precedence.{expression_level, level}
use Rattle.rows.specs.Tree.{Tree, Forest, node, cons, one, join, kind_of, nil, mark_of, kids_of}
use Rattle.rows.specs.Row as Row
use Rattle.conversion.specs.Conversion.{any, simple, turned, convert_as}
use Rattle.grammar.specs.Sheet.{Sheet, token, done, fail, first_tree, after_records, or_else, try, leaf}
use Rattle.grammar.specs.Job.{Job, assignment, value, assign, binary, operators, binding_element, binding_rest, head, body}
use Rattle.grammar.specs.Binary.{operation_kind, right_floor, operation_records, is_or_and}
use Rattle.grammar.specs.Arrow.{by_way, choose, noting, arrow_of, assignment_of}
use Rattle.grammar.specs.Step.{step}
use Rattle.grammar.specs.Reading.{plain}
use Rattle.laws.specs.Settles.{Settles, μ, Comes, comes_done, comes_fail}
use Rattle.laws.proofs.Bounds.{bounded}
use Rattle.laws.proofs.Rules.{Word, Rules, rules, settles_by}
use Rattle.ecma262.specs.Derives.{Tok, SameLine, Elision, ends_in_spread, array_row, object_row, Derives}
use Rattle.rows.proofs.Rows.{join_nil, join_assoc}
use Rattle.grammar.specs.Job as J
use Rattle.grammar.specs.Update.{is_unary_operator, is_update_operator}
use Rattle.grammar.specs.Assignment.{is_assignment_operator, is_async_name}
use Rattle.laws.proofs.Steady.{settles}
use Rattle.laws.proofs.Good.{inside}
use Rattle.ecma262.specs.Derives as D
use Rattle.laws.proofs.Readings as Readings
use Rattle.exact.proofs.Terminals.{Of, Operator, power_floor, other_floor, row_of_tier}
use Rattle.exact.specs.Terminals.{is_key, is_prefix, is_update, tier_row}
use Rattle.exact.proofs.Roots.{not_both, spread_last, Each, each_one, each_more, Past, past}
use Rattle.exact.proofs.Follow.{Opening, async_opening, other_opening, no_head, is_closer, Closed, closed_by, test_not, closed_test, Tail, tail_kind, closed_tail, closed_level, operator_tail, is_operand, Operand, operand_name, Second, no_async_name, closed_no_name, positive_level}

-- the plain reader reads the nonterminal so, without a record
abbrev pub Reads : Sheet → Job → ℕ → Forest → Type 0
Reads s job j ts = Settles plain s job tt (done j ts [] tt)

-- no records before none
pub quiet : {s : Sheet} {job : Job} {j : ℕ} {ts : Forest} → Settles plain s job tt (after_records [] (done j ts [] tt)) → Reads s job j ts
unfolding after_records
quiet h = h

-- a token that stands somewhere stands inside
pub here : {s : Sheet} {at k : ℕ} → Tok s at (suc k) → at < length s.kinds
here {s} t = stands s.kinds t.kind_is

-- both must hold
pub and_false : (a : Bool) {b : Bool} → b ≡ false → a and b ≡ false
and_false true e = e
and_false false e = refl

module _ {s : Sheet} where
  itself : Word plain s (Settles plain s)
  itself = record { settled = λ h. h; given = λ h. h }

  pub plainly : Rules s (Settles plain s)
  plainly = rules itself

  -- 13.15, by whether a head is read
  pub assignment_other : {at q : ℕ} {us : Forest} → token s at is LParen or token s at is Async ≡ false → Reads s (value at) q us → Reads s (assignment at) q us
  unfolding step assignment_of
  assignment_other n b = settles_by (λ f le. rw (n, b.with f (omega arith)))

  pub assignment_past : {at q : ℕ} {us : Forest} {cause : Cause} → token s at is LParen or token s at is Async ≡ true → Settles plain s (head at) tt (fail cause tt) → Reads s (value at) q us
      → Reads s (assignment at) q us
  unfolding step assignment_of choose by_way try or_else noting
  assignment_past o r b = settles_by (λ f le. rw (o, r.with f (omega arith), b.with f (omega arith)))

  pub assignment_head : {at p q : ℕ} {ts us : Forest} → Tok s at LParen → Reads s (head at) p ts → Reads s (body Row.Arrow at p ts) q us → Reads s (assignment at) q us
  unfolding step assignment_of choose by_way try or_else arrow_of after_records
  assignment_head o a b = let i = here o in let w = bounded a in settles_by (λ f le. rw (o.kind_is, a.with f (omega arith), o.kind_is, b.with f (omega arith)))

  pub assignment_async : {at p q : ℕ} {ts us : Forest} → Tok s at Async → Reads s (head at) p ts → Reads s (body Row.AsyncArrow at p ts) q us → Reads s (assignment at) q us
  unfolding step assignment_of choose by_way try or_else arrow_of after_records
  assignment_async o a b = let i = here o in let w = bounded a in settles_by (λ f le. rw (o.kind_is, a.with f (omega arith), o.kind_is, b.with f (omega arith)))

  -- rules of which one side is known
  pub assign_equals : {at p first : ℕ} {left u : Tree} {ts : Forest} → Tok s at Eq → convert_as left any ≡ turned u [] → Reads s (assignment (at + 1)) p ts
      → Reads s (assign first at left) p (one (node Row.Assign at first p (cons u ts)))
  unfolding join
  assign_equals {p = p} {first} {left} {u} {ts} t c a = rw t.kind_is at (plainly.assign_done {p = p} {first = first} {ts = ts} {left = left} {t = u} {rs = []} (here t) (rw t.kind_is c) a)

  pub assign_compound : {at p first : ℕ} {left u : Tree} {ts : Forest} → token s at is Eq ≡ false → at < length s.kinds → convert_as left simple ≡ turned u [] → Reads s (assignment (at + 1)) p ts
      → Reads s (assign first at left) p (one (node Row.CompoundAssign at first p (cons u ts)))
  unfolding join
  assign_compound {p = p} {first} {left} {u} {ts} t i c a = rw t at (plainly.assign_done {p = p} {first = first} {ts = ts} {left = left} {t = u} {rs = []} i (rw t c) a)

  pub operators_more : {floor first at p q : ℕ} {left t : Tree} {us : Forest} → at < length s.kinds → ltb floor (expression_level (token s at)) ≡ true
      → Reads s (binary (right_floor (token s at)) (at + 1)) p (one t) → operation_records s at left t ≡ []
      → Reads s (operators floor first p (node (operation_kind (token s at)) at first p (cons left (one t)))) q us → Reads s (operators floor first at left) q us
  unfolding after_records
  operators_more i l a r b = rw r at (plainly.operators_more i l a b)

  pub binding_rest_done : {at p : ℕ} {ts : Forest} → Tok s at Dot3 → Reads s (binding_element (at + 1)) p ts → kind_of (first_tree ts) is Row.BindingDefault ≡ false
      → Reads s (binding_rest at) p (one (node Row.BindingRest at at p ts))
  binding_rest_done t a n = rw n at (plainly.rest_done (here t) a)

  -- a name that is no key
  pub unpaired : {at : ℕ} → Of is_name s at → token s (at + 1) is Colon ≡ false → (is_name (token s at) and not (token s (at + 1) is Colon)) ≡ true
  unpaired n c = rw (n.holds, c)

-- WHERE NO HEAD BEGINS
-- what opens nothing is no head for the plain reader either
pub past_head : {s : Sheet} {i j : ℕ} {ts : Forest} → Opening s i → Reads s (J.value i) j ts → Reads s (J.assignment i) j ts
past_head {s} {i} {j} {ts} o r = go (token s i is LParen or token s i is Async) refl (settles plain s (J.head i) (omega arith) tt)
  where
    go : (b : Bool) → token s i is LParen or token s i is Async ≡ b → Comes plain s (J.head i) tt → Reads s (J.assignment i) j ts
    go false e h = assignment_other e r
    go true e (comes_done end trees records after h) = absurd (no_head o (Readings.balanced plain s (μ s (J.head i)) (J.head i) tt (h.with (μ s (J.head i)) (omega arith))))
    go true e (comes_fail cause after h) = assignment_past e h r

-- LISTS
-- after an item: a comma, and the list goes on, or it closes
pub data After (s : Sheet) (job : ℕ → Forest → Job) (Close : ℕ → Forest → ℕ → Forest → Type 0) (p : ℕ) (so_far : Forest) (e : ℕ) (out : Forest) : Type 0 where
  and_comma : Tok s p Comma → Reads s (job (p + 1) so_far) e out → After s job Close p so_far e out
  and_close : Close p so_far e out → After s job Close p so_far e out

module _ {s : Sheet} (job : ℕ → Forest → Job) (Close : ℕ → Forest → ℕ → Forest → Type 0) {P : ℕ → ℕ → Forest → Type 0}
    (item : (at p : ℕ) (so_far us : Forest) (e : ℕ) (out : Forest) → P at p us → After s job Close p (join so_far us) e out → Reads s (job at so_far) e out) where
  pub loop : {i p : ℕ} {ts : Forest} → Each s P i p ts → (so_far : Forest) (e : ℕ) (out : Forest) → After s job Close p (join so_far ts) e out → Reads s (job i so_far) e out
  loop {i} {p} (each_one {ts = ts} x) so_far e out a = item i p so_far ts e out x a
  loop {i} {p} (each_more {p = q} {ts = ts} {us = us} l t x) so_far e out a =
      loop l so_far e out (and_comma t (item (q + 1) p (join so_far ts) us e out x (subst (λ (v : Forest). After s job Close p v e out) (sym (join_assoc so_far ts us)) a)))

-- ITEMS
-- an element of an array literal, or an argument
pub record ItemDone (s : Sheet) (i j : ℕ) (ts : Forest) : Type 0 where
  pub reads : Closed s j → Reads s (if token s i is Dot3 then J.spread i else J.assignment i) j ts
  pub no_bracket : token s i is RBrack ≡ false
  pub no_paren : token s i is RParen ≡ false
  pub no_comma : token s i is Comma ≡ false
  pub spreads : (us : Forest) → ends_in_spread (join us ts) ≡ token s i is Dot3

-- a part of an object literal
pub record PartDone (s : Sheet) (i j : ℕ) (ts : Forest) : Type 0 where
  pub reads : Closed s j → token s j is Colon ≡ false → Reads s (if token s i is Dot3 then J.spread i else J.property i) j ts
  pub no_curly : token s i is RCurly ≡ false
  pub spreads : (us : Forest) → ends_in_spread (join us ts) ≡ token s i is Dot3

-- ARRAYS
-- the list closes with its bracket
pub data Closing (s : Sheet) (close kind first : ℕ) (p : ℕ) (so_far : Forest) : ℕ → Forest → Type 0 where
  closing : Tok s p close → Closing s close kind first p so_far (p + 1) (one (node kind first first (p + 1) so_far))

abbrev pub elements_from : ℕ → ℕ → Forest → Job
elements_from first at so_far = J.elements first at (array_row so_far) so_far

abbrev pub properties_from : ℕ → ℕ → Forest → Job
properties_from first at so_far = J.properties first at (object_row so_far) so_far

-- the holes of an elision, and what comes after them
pub holes_then : {s : Sheet} {first i p : ℕ} {hs : Forest} → Derives s Elision i p hs → (so_far : Forest) {e : ℕ} {out : Forest} → Reads s (elements_from first p (join so_far hs)) e out
    → Reads s (elements_from first i so_far) e out
unfolding array_row kind_of
holes_then {s} {first} {i} D.no_elision so_far {e} {out} r = subst (λ (v : Forest). Reads s (elements_from first i v) e out) (join_nil so_far) r
holes_then {s} {first} {i} (D.elision {p = p} {ts = hs} d t) so_far {e} {out} r =
    holes_then d so_far
    (plainly.elements_hole t.kind_is (subst (λ (v : Forest). Reads s (J.elements first (p + 1) Row.Array v) e out) (sym (join_assoc so_far hs (one (leaf Row.Hole p))))
    (subst (λ (n : ℕ). Reads s (J.elements first (p + 1) n (join so_far (join hs (one (leaf Row.Hole p))))) e out) hole_kind r)))
  where
    hole_kind : array_row (join so_far (join hs (one (leaf Row.Hole p)))) ≡ Row.Array
    hole_kind = ap array_row (sym (join_assoc so_far hs (one (leaf Row.Hole p)))) ∙ ap (λ (b : Bool). if b then Row.ArrayRestComma else Row.Array) (spread_last (join so_far hs) (leaf Row.Hole p))

-- one more element of an array, and what comes after it
pub element_item : {s : Sheet} (first at p : ℕ) (so_far us : Forest) (e : ℕ) (out : Forest) → Past s (ItemDone s) at p us → After s (elements_from first) (Closing s RBrack Row.Array first) p (join so_far us) e out
    → Reads s (elements_from first at so_far) e out
unfolding array_row
element_item {s} first at p so_far _ e out (past {p = q} {hs = hs} {ts = ts} h x) a = holes_then h so_far (go (subst (λ (v : Forest). After s (elements_from first) (Closing s RBrack Row.Array first) p v e out) (sym (join_assoc so_far hs ts)) a))
  where
    go : {e : ℕ} {out : Forest} → After s (elements_from first) (Closing s RBrack Row.Array first) p (join (join so_far hs) ts) e out → Reads s (elements_from first q (join so_far hs)) e out
    go {e} {out} (and_comma t r) =
        quiet (plainly.elements_more x.no_bracket x.no_comma (x.reads (closed_by _ refl t)) t.kind_is
        (subst (λ (n : ℕ). Reads s (J.elements first (p + 1) n (join (join so_far hs) ts)) e out) (ap (λ (b : Bool). if b then Row.ArrayRestComma else Row.Array) (x.spreads (join so_far hs))) r))
    go (and_close (closing t)) = plainly.elements_last x.no_bracket x.no_comma (x.reads (closed_by _ refl t)) t.kind_is

module _ {s : Sheet} where
  -- [ Elision opt ]
  pub array_empty_reads : {i p : ℕ} {ts : Forest} → Tok s i LBrack → Derives s Elision (i + 1) p ts → Tok s p RBrack → Reads s (J.primary i) (p + 1) (one (node (array_row ts) i i (p + 1) ts))
  unfolding join array_row ends_in_spread
  array_empty_reads o d c = plainly.primary_array o.kind_is (holes_then d nil (plainly.elements_end c.kind_is))

  -- [ ElementList ]
  pub array_list_reads : {i p : ℕ} {ts : Forest} → Tok s i LBrack → Each s (Past s (ItemDone s)) (i + 1) p ts → Tok s p RBrack → Reads s (J.primary i) (p + 1) (one (node Row.Array i i (p + 1) ts))
  unfolding join array_row ends_in_spread
  array_list_reads {i} {p} {ts} o l c =
      plainly.primary_array o.kind_is (loop (elements_from i) (Closing s RBrack Row.Array i) (element_item i) l nil (p + 1) (one (node Row.Array i i (p + 1) ts)) (and_close (closing c)))

  -- [ ElementList , Elision opt ]
  pub array_comma_reads : {i p q : ℕ} {ts us : Forest} → Tok s i LBrack → Each s (Past s (ItemDone s)) (i + 1) p ts → Tok s p Comma → Derives s Elision (p + 1) q us → Tok s q RBrack
      → Reads s (J.primary i) (q + 1) (one (node (array_row (join ts us)) i i (q + 1) (join ts us)))
  unfolding join array_row ends_in_spread
  array_comma_reads {i} {q = q} {ts} {us} o l t d c =
      plainly.primary_array o.kind_is
      (loop (elements_from i) (Closing s RBrack Row.Array i) (element_item i) l nil (q + 1) (one (node (array_row (join ts us)) i i (q + 1) (join ts us)))
      (and_comma t (holes_then d ts (plainly.elements_end c.kind_is))))

-- OBJECTS
pub part_item : {s : Sheet} (first at p : ℕ) (so_far us : Forest) (e : ℕ) (out : Forest) → PartDone s at p us → After s (properties_from first) (Closing s RCurly Row.Object first) p (join so_far us) e out
    → Reads s (properties_from first at so_far) e out
unfolding object_row
part_item {s} first at p so_far us e out x (and_comma t r) =
    quiet (plainly.properties_more x.no_curly (x.reads (closed_by _ refl t) (ap (λ (k : ℕ). k is Colon) t.kind_is)) t.kind_is
    (subst (λ (n : ℕ). Reads s (J.properties first (p + 1) n (join so_far us)) e out) (ap (λ (b : Bool). if b then Row.ObjectRestComma else Row.Object) (x.spreads so_far)) r))
part_item first at p so_far us _ _ x (and_close (closing t)) = plainly.properties_last x.no_curly (x.reads (closed_by _ refl t) (ap (λ (k : ℕ). k is Colon) t.kind_is)) t.kind_is

module _ {s : Sheet} where
  pub object_empty_reads : {i : ℕ} → Tok s i LCurly → Tok s (i + 1) RCurly → Reads s (J.primary i) (i + 2) (one (node Row.Object i i (i + 2) nil))
  object_empty_reads {i} o c = let e : i + 1 + 1 ≡ i + 2 = omega arith in plainly.primary_object o.kind_is (subst (λ (n : ℕ). Reads s (J.properties i (i + 1) Row.Object nil) n (one (node Row.Object i i n nil))) e (plainly.properties_end c.kind_is))

  pub object_list_reads : {i p : ℕ} {ts : Forest} → Tok s i LCurly → Each s (PartDone s) (i + 1) p ts → Tok s p RCurly → Reads s (J.primary i) (p + 1) (one (node Row.Object i i (p + 1) ts))
  unfolding join object_row ends_in_spread
  object_list_reads {i} {p} {ts} o l c =
      plainly.primary_object o.kind_is (loop (properties_from i) (Closing s RCurly Row.Object i) (part_item i) l nil (p + 1) (one (node Row.Object i i (p + 1) ts)) (and_close (closing c)))

  pub object_comma_reads : {i p : ℕ} {ts : Forest} → Tok s i LCurly → Each s (PartDone s) (i + 1) p ts → Tok s p Comma → Tok s (p + 1) RCurly
      → Reads s (J.primary i) (p + 2) (one (node (object_row ts) i i (p + 2) ts))
  unfolding join object_row ends_in_spread
  object_comma_reads {i} {p} {ts} o l t c =
      let e : p + 1 + 1 ≡ p + 2 = omega arith in
      plainly.primary_object o.kind_is
      (loop (properties_from i) (Closing s RCurly Row.Object i) (part_item i) l nil (p + 2) (one (node (object_row ts) i i (p + 2) ts))
      (and_comma t (subst (λ (n : ℕ). Reads s (properties_from i (p + 1) ts) n (one (node (object_row ts) i i n ts))) e (plainly.properties_end c.kind_is))))

-- ARGUMENTS
pub argument_item : {s : Sheet} (first at p : ℕ) (so_far us : Forest) (e : ℕ) (out : Forest) → ItemDone s at p us → After s (J.arguments first) (Closing s RParen Row.Call first) p (join so_far us) e out
    → Reads s (J.arguments first at so_far) e out
argument_item first at p so_far us e out x (and_comma t r) = quiet (plainly.arguments_more x.no_paren (x.reads (closed_by _ refl t)) t.kind_is r)
argument_item first at p so_far us _ _ x (and_close (closing t)) = plainly.arguments_last x.no_paren (x.reads (closed_by _ refl t)) t.kind_is

-- a call's arguments, after any callee
pub record ArgumentsDone (s : Sheet) (i j : ℕ) (ts : Forest) : Type 0 where
  pub opens : Tok s i LParen
  pub reads : (first : ℕ) (so_far : Forest) → Reads s (J.arguments first (i + 1) so_far) j (one (node Row.Call first first j (join so_far ts)))

module _ {s : Sheet} where
  pub no_arguments_done : {i : ℕ} → Tok s i LParen → Tok s (i + 1) RParen → ArgumentsDone s i (i + 2) nil
  no_arguments_done {i} o c =
      let e : i + 1 + 1 ≡ i + 2 = omega arith in
      record {
        opens = o;
        reads = λ first so_far. rw (join_nil so_far) (subst (λ (n : ℕ). Reads s (J.arguments first (i + 1) so_far) n (one (node Row.Call first first n so_far))) e (plainly.arguments_end c.kind_is));
      }

  pub arguments_done : {i p : ℕ} {ts : Forest} → Tok s i LParen → Each s (ItemDone s) (i + 1) p ts → Tok s p RParen → ArgumentsDone s i (p + 1) ts
  arguments_done {i} {p} {ts} o l c =
      record { opens = o; reads = λ first so_far. loop (J.arguments first) (Closing s RParen Row.Call first) (argument_item first) l so_far (p + 1) (one (node Row.Call first first (p + 1) (join so_far ts))) (and_close (closing c)) }

  pub arguments_comma_done : {i p : ℕ} {ts : Forest} → Tok s i LParen → Each s (ItemDone s) (i + 1) p ts → Tok s p Comma → Tok s (p + 1) RParen → ArgumentsDone s i (p + 2) ts
  arguments_comma_done {i} {p} {ts} o l t c =
      let e : p + 1 + 1 ≡ p + 2 = omega arith in
      record {
        opens = o;
        reads = λ first so_far. loop (J.arguments first) (Closing s RParen Row.Call first) (argument_item first) l so_far (p + 2) (one (node Row.Call first first (p + 2) (join so_far ts)))
            (and_comma t (subst (λ (n : ℕ). Reads s (J.arguments first (p + 1) (join so_far ts)) n (one (node Row.Call first first n (join so_far ts)))) e (plainly.arguments_end c.kind_is)));
      }

-- BINDINGS
pub record ElementBound (s : Sheet) (i j : ℕ) (ts : Forest) : Type 0 where
  pub reads : Closed s j → Reads s (J.binding_element i) j ts
  pub no_bracket : token s i is RBrack ≡ false
  pub no_paren : token s i is RParen ≡ false
  pub no_comma : token s i is Comma ≡ false
  pub no_dots : token s i is Dot3 ≡ false

-- a BindingRestElement
pub record RestBound (s : Sheet) (i j : ℕ) (ts : Forest) : Type 0 where
  pub dots : Tok s i Dot3
  pub reads : Closed s j → Reads s (J.binding_rest i) j ts

-- a BindingProperty
pub record PropertyBound (s : Sheet) (i j : ℕ) (ts : Forest) : Type 0 where
  pub reads : Closed s j → token s j is Colon ≡ false → Reads s (J.binding_property i) j ts
  pub no_curly : token s i is RCurly ≡ false
  pub no_dots : token s i is Dot3 ≡ false

-- a BindingRestProperty: its argument is a name
pub record RestPropertyBound (s : Sheet) (i j : ℕ) (ts : Forest) : Type 0 where
  pub dots : Tok s i Dot3
  pub reads : Closed s j → Reads s (J.binding_rest i) j ts
  pub is_name_only : kind_of (first_tree (kids_of (first_tree ts))) is Row.BindingName ≡ true

-- the holes of an elision in a pattern, and what comes after them
pub binding_holes_then : {s : Sheet} {first i p : ℕ} {hs : Forest} → Derives s Elision i p hs → (so_far : Forest) {e : ℕ} {out : Forest} → Reads s (J.binding_elements first p (join so_far hs)) e out
    → Reads s (J.binding_elements first i so_far) e out
binding_holes_then {s} {first} {i} D.no_elision so_far {e} {out} r = subst (λ (v : Forest). Reads s (J.binding_elements first i v) e out) (join_nil so_far) r
binding_holes_then {s} {first} {i} (D.elision {p = p} {ts = hs} d t) so_far {e} {out} r =
    binding_holes_then d so_far (plainly.binding_elements_hole t.kind_is (subst (λ (v : Forest). Reads s (J.binding_elements first (p + 1) v) e out) (sym (join_assoc so_far hs (one (leaf Row.Hole p)))) r))

-- one more element of an array pattern, and what comes after it
pub bound_item : {s : Sheet} (first at p : ℕ) (so_far us : Forest) (e : ℕ) (out : Forest) → Past s (ElementBound s) at p us
    → After s (J.binding_elements first) (Closing s RBrack Row.BindingArray first) p (join so_far us) e out → Reads s (J.binding_elements first at so_far) e out
bound_item {s} first at p so_far _ e out (past {p = q} {hs = hs} {ts = ts} h x) a =
    binding_holes_then h so_far (go (subst (λ (v : Forest). After s (J.binding_elements first) (Closing s RBrack Row.BindingArray first) p v e out) (sym (join_assoc so_far hs ts)) a))
  where
    go : {e : ℕ} {out : Forest} → After s (J.binding_elements first) (Closing s RBrack Row.BindingArray first) p (join (join so_far hs) ts) e out → Reads s (J.binding_elements first q (join so_far hs)) e out
    go (and_comma t r) = quiet (plainly.binding_elements_more x.no_bracket x.no_comma x.no_dots (x.reads (closed_by _ refl t)) t.kind_is r)
    go (and_close (closing t)) = plainly.binding_elements_last x.no_bracket x.no_comma x.no_dots (x.reads (closed_by _ refl t)) t.kind_is

-- one more property of an object pattern, and what comes after it
pub bound_property : {s : Sheet} (first at p : ℕ) (so_far us : Forest) (e : ℕ) (out : Forest) → PropertyBound s at p us
    → After s (J.binding_properties first) (Closing s RCurly Row.BindingObject first) p (join so_far us) e out → Reads s (J.binding_properties first at so_far) e out
bound_property first at p so_far us e out x (and_comma t r) = quiet (plainly.binding_properties_more x.no_curly x.no_dots (x.reads (closed_by _ refl t) (ap (λ (k : ℕ). k is Colon) t.kind_is)) t.kind_is r)
bound_property first at p so_far us _ _ x (and_close (closing t)) = plainly.binding_properties_last x.no_curly x.no_dots (x.reads (closed_by _ refl t) (ap (λ (k : ℕ). k is Colon) t.kind_is)) t.kind_is

module _ {s : Sheet} where
  -- the rest of an array pattern, after holes
  pub rest_reads : {first i p : ℕ} {us : Forest} (so_far : Forest) → Past s (RestBound s) i p us → Tok s p RBrack
      → Reads s (J.binding_elements first i so_far) (p + 1) (one (node Row.BindingArray first first (p + 1) (join so_far us)))
  rest_reads {first} {i} {p} so_far (past {hs = hs} {ts = ts} h x) c =
      subst (λ (v : Forest). Reads s (J.binding_elements first i so_far) (p + 1) (one (node Row.BindingArray first first (p + 1) v))) (join_assoc so_far hs ts)
      (binding_holes_then h so_far (plainly.binding_elements_rest x.dots.kind_is (x.reads (closed_by _ refl c)) c.kind_is))

  pub bound_array_empty : {i p : ℕ} {ts : Forest} → Tok s i LBrack → Derives s Elision (i + 1) p ts → Tok s p RBrack → Reads s (J.binding i) (p + 1) (one (node Row.BindingArray i i (p + 1) ts))
  unfolding join
  bound_array_empty o d c = plainly.binding_array o.kind_is (binding_holes_then d nil (plainly.binding_elements_end c.kind_is))

  pub bound_array_rest : {i p : ℕ} {ts : Forest} → Tok s i LBrack → Past s (RestBound s) (i + 1) p ts → Tok s p RBrack → Reads s (J.binding i) (p + 1) (one (node Row.BindingArray i i (p + 1) ts))
  unfolding join
  bound_array_rest o x c = plainly.binding_array o.kind_is (rest_reads nil x c)

  pub bound_array_list : {i p : ℕ} {ts : Forest} → Tok s i LBrack → Each s (Past s (ElementBound s)) (i + 1) p ts → Tok s p RBrack → Reads s (J.binding i) (p + 1) (one (node Row.BindingArray i i (p + 1) ts))
  unfolding join
  bound_array_list {i} {p} {ts} o l c =
      plainly.binding_array o.kind_is (loop (J.binding_elements i) (Closing s RBrack Row.BindingArray i) (bound_item i) l nil (p + 1) (one (node Row.BindingArray i i (p + 1) ts)) (and_close (closing c)))

  pub bound_array_comma : {i p q : ℕ} {ts us : Forest} → Tok s i LBrack → Each s (Past s (ElementBound s)) (i + 1) p ts → Tok s p Comma → Derives s Elision (p + 1) q us → Tok s q RBrack
      → Reads s (J.binding i) (q + 1) (one (node Row.BindingArray i i (q + 1) (join ts us)))
  unfolding join
  bound_array_comma {i} {q = q} {ts} {us} o l t d c =
      plainly.binding_array o.kind_is
      (loop (J.binding_elements i) (Closing s RBrack Row.BindingArray i) (bound_item i) l nil (q + 1) (one (node Row.BindingArray i i (q + 1) (join ts us)))
      (and_comma t (binding_holes_then d ts (plainly.binding_elements_end c.kind_is))))

  pub bound_array_list_rest : {i p q : ℕ} {ts us : Forest} → Tok s i LBrack → Each s (Past s (ElementBound s)) (i + 1) p ts → Tok s p Comma → Past s (RestBound s) (p + 1) q us → Tok s q RBrack
      → Reads s (J.binding i) (q + 1) (one (node Row.BindingArray i i (q + 1) (join ts us)))
  unfolding join
  bound_array_list_rest {i} {q = q} {ts} {us} o l t x c =
      plainly.binding_array o.kind_is
      (loop (J.binding_elements i) (Closing s RBrack Row.BindingArray i) (bound_item i) l nil (q + 1) (one (node Row.BindingArray i i (q + 1) (join ts us))) (and_comma t (rest_reads ts x c)))

  pub bound_object_empty : {i : ℕ} → Tok s i LCurly → Tok s (i + 1) RCurly → Reads s (J.binding i) (i + 2) (one (node Row.BindingObject i i (i + 2) nil))
  bound_object_empty {i} o c = let e : i + 1 + 1 ≡ i + 2 = omega arith in plainly.binding_object o.kind_is (subst (λ (n : ℕ). Reads s (J.binding_properties i (i + 1) nil) n (one (node Row.BindingObject i i n nil))) e (plainly.binding_properties_end c.kind_is))

  pub bound_object_rest : {i p : ℕ} {ts : Forest} → Tok s i LCurly → RestPropertyBound s (i + 1) p ts → Tok s p RCurly → Reads s (J.binding i) (p + 1) (one (node Row.BindingObject i i (p + 1) ts))
  unfolding join
  bound_object_rest o x c = plainly.binding_object o.kind_is (plainly.binding_properties_rest x.dots.kind_is (x.reads (closed_by _ refl c)) c.kind_is x.is_name_only)

  pub bound_object_list : {i p : ℕ} {ts : Forest} → Tok s i LCurly → Each s (PropertyBound s) (i + 1) p ts → Tok s p RCurly → Reads s (J.binding i) (p + 1) (one (node Row.BindingObject i i (p + 1) ts))
  unfolding join
  bound_object_list {i} {p} {ts} o l c =
      plainly.binding_object o.kind_is (loop (J.binding_properties i) (Closing s RCurly Row.BindingObject i) (bound_property i) l nil (p + 1) (one (node Row.BindingObject i i (p + 1) ts)) (and_close (closing c)))

  pub bound_object_comma : {i p : ℕ} {ts : Forest} → Tok s i LCurly → Each s (PropertyBound s) (i + 1) p ts → Tok s p Comma → Tok s (p + 1) RCurly → Reads s (J.binding i) (p + 2) (one (node Row.BindingObject i i (p + 2) ts))
  unfolding join
  bound_object_comma {i} {p} {ts} o l t c =
      let e : p + 1 + 1 ≡ p + 2 = omega arith in
      plainly.binding_object o.kind_is
      (loop (J.binding_properties i) (Closing s RCurly Row.BindingObject i) (bound_property i) l nil (p + 2) (one (node Row.BindingObject i i (p + 2) ts))
      (and_comma t (subst (λ (n : ℕ). Reads s (J.binding_properties i (p + 1) ts) n (one (node Row.BindingObject i i n ts))) e (plainly.binding_properties_end c.kind_is))))

  pub bound_object_list_rest : {i p q : ℕ} {ts us : Forest} → Tok s i LCurly → Each s (PropertyBound s) (i + 1) p ts → Tok s p Comma → RestPropertyBound s (p + 1) q us → Tok s q RCurly
      → Reads s (J.binding i) (q + 1) (one (node Row.BindingObject i i (q + 1) (join ts us)))
  unfolding join
  bound_object_list_rest {i} {q = q} {ts} {us} o l t x c =
      plainly.binding_object o.kind_is
      (loop (J.binding_properties i) (Closing s RCurly Row.BindingObject i) (bound_property i) l nil (q + 1) (one (node Row.BindingObject i i (q + 1) (join ts us)))
      (and_comma t (plainly.binding_properties_rest x.dots.kind_is (x.reads (closed_by _ refl c)) c.kind_is x.is_name_only)))

-- PARAMETERS
pub data ClosingParameters (s : Sheet) (p : ℕ) (so_far : Forest) : ℕ → Forest → Type 0 where
  closing_parameters : Tok s p RParen → ClosingParameters s p so_far (p + 1) so_far

-- one more parameter, and what comes after it
pub bound_parameter : {s : Sheet} (at p : ℕ) (so_far us : Forest) (e : ℕ) (out : Forest) → ElementBound s at p us → After s J.parameters (ClosingParameters s) p (join so_far us) e out → Reads s (J.parameters at so_far) e out
bound_parameter at p so_far us e out x (and_comma t r) = quiet (plainly.parameters_more x.no_paren x.no_dots (x.reads (closed_by _ refl t)) t.kind_is r)
bound_parameter at p so_far us _ _ x (and_close (closing_parameters t)) = plainly.parameters_last x.no_paren x.no_dots (x.reads (closed_by _ refl t)) t.kind_is

-- the parameters of a head, up to past their `)`
pub record ParametersDone (s : Sheet) (i j : ℕ) (ts : Forest) : Type 0 where
  pub reads : Tok s j RParen → Reads s (J.parameters i nil) (j + 1) ts

module _ {s : Sheet} where
  pub no_parameters_done : {i : ℕ} → ParametersDone s i i nil
  no_parameters_done = record { reads = λ t. plainly.parameters_end t.kind_is }

  pub rest_parameter_done : {i j : ℕ} {ts : Forest} → RestBound s i j ts → ParametersDone s i j ts
  unfolding join
  rest_parameter_done x = record { reads = λ t. plainly.parameters_rest x.dots.kind_is (x.reads (closed_by _ refl t)) t.kind_is }

  pub parameters_done : {i j : ℕ} {ts : Forest} → Each s (ElementBound s) i j ts → ParametersDone s i j ts
  unfolding join
  parameters_done {i} {j} {ts} l = record { reads = λ t. loop J.parameters (ClosingParameters s) bound_parameter l nil (j + 1) ts (and_close (closing_parameters t)) }

  pub parameters_comma_done : {i p : ℕ} {ts : Forest} → Each s (ElementBound s) i p ts → Tok s p Comma → ParametersDone s i (p + 1) ts
  unfolding join
  parameters_comma_done {i} {p} {ts} l t = record { reads = λ u. loop J.parameters (ClosingParameters s) bound_parameter l nil (p + 1 + 1) ts (and_comma t (plainly.parameters_end u.kind_is)) }

  pub parameters_rest_done : {i p j : ℕ} {ts us : Forest} → Each s (ElementBound s) i p ts → Tok s p Comma → RestBound s (p + 1) j us → ParametersDone s i j (join ts us)
  unfolding join
  parameters_rest_done {i} {p} {j} {ts} {us} l t x =
      record { reads = λ u. loop J.parameters (ClosingParameters s) bound_parameter l nil (j + 1) (join ts us) (and_comma t (plainly.parameters_rest x.dots.kind_is (x.reads (closed_by _ refl u)) u.kind_is)) }

-- OPERANDS
-- what begins an operand is no prefix operator
pub operand_small : (k : ℕ) → is_operand k ≡ true → k ≤ 22
unfolding is_operand is_name is_literal
operand_small k e = go (leb k 22) refl
  where
    go : (b : Bool) → leb k 22 ≡ b → k ≤ 22
    go true q = leb-true k 22 q
    go false q =
        let l : 22 < k = leb-false k 22 q in
        absurd (not_both e
        (rw (le-leb 1 k (omega arith), lt-leb k 5 (omega arith), ne_eqb k This (λ z. omega arith), le-leb 8 k (omega arith), lt-leb k 13 (omega arith), ne_eqb k LParen (λ z. omega arith), ne_eqb k LBrack (λ z. omega arith), ne_eqb k LCurly (λ z. omega arith))))

-- so it is neither an operator of 13.5
pub not_prefix : (k : ℕ) → k ≤ 22 → is_unary_operator k ≡ false
unfolding is_unary_operator
not_prefix k h = rw (lt-leb 30 k (omega arith), ne_eqb k 57 (λ z. omega arith), ne_eqb k 58 (λ z. omega arith))

-- nor one of 13.4
pub not_update : (k : ℕ) → k ≤ 22 → is_update_operator k ≡ false
unfolding is_update_operator
not_update k h = rw (ne_eqb k 36 (λ z. omega arith), ne_eqb k 37 (λ z. omega arith))

-- no link follows
pub record Unlinked (s : Sheet) (j : ℕ) : Type 0 where
  pub no_dot : token s j is Dot ≡ false
  pub no_brack : token s j is LBrack ≡ false
  pub no_paren : token s j is LParen ≡ false

pub unlinked : {s : Sheet} {j : ℕ} → Tail s j → Unlinked s j
unlinked t = record { no_dot = t.no_dot; no_brack = t.no_brack; no_paren = t.no_paren }

-- ++ and -- are no links
pub update_unlinked : {s : Sheet} {j : ℕ} → Of is_update s j → Unlinked s j
unfolding is_update
update_unlinked {s} {j} t = record { no_dot = test_not (token s j) is_update Dot refl t.holds; no_brack = test_not (token s j) is_update LBrack refl t.holds; no_paren = test_not (token s j) is_update LParen refl t.holds }

-- a MemberExpression or CallExpression: what is read after its tree as links is what the LeftHandSideExpression comes to
pub record ChainDone (s : Sheet) (i j : ℕ) (ts : Forest) : Type 0 where
  pub tree : Tree
  pub is_one : ts ≡ one tree
  pub goes : (e : ℕ) (out : Forest) → Reads s (J.links i j tree) e out → Reads s (J.left_hand_side i) e out
  pub operand : Operand s i

-- a LeftHandSideExpression, where no link follows
pub record LeftDone (s : Sheet) (i j : ℕ) (ts : Forest) : Type 0 where
  pub reads : Unlinked s j → Reads s (J.left_hand_side i) j ts
  pub operand : Operand s i

-- an UpdateExpression or UnaryExpression, where neither a link nor a postfix operator follows
pub record UnaryDone (s : Sheet) (i j : ℕ) (ts : Forest) : Type 0 where
  pub reads : Tail s j → Reads s (J.unary i) j ts

module _ {s : Sheet} where
  pub primary_chain : {i j : ℕ} {ts : Forest} → ts ≡ one (first_tree ts) → Operand s i → Reads s (J.primary i) j ts → ChainDone s i j ts
  primary_chain {ts = ts} r o a = record { tree = first_tree ts; is_one = r; goes = λ e out b. quiet (plainly.left_more (rw (r) at a) b); operand = o }

  -- a chain and one more link
  linked : {i p j : ℕ} {ts : Forest} → (x : ChainDone s i p ts) (t : Tree) → ((e : ℕ) (out : Forest) → Reads s (J.links i j t) e out → Reads s (J.links i p x.tree) e out) → ChainDone s i j (one t)
  linked x t f = record { tree = t; is_one = refl; goes = λ e out b. x.goes e out (f e out b); operand = x.operand }

  pub member_chain : {i p : ℕ} {ts : Forest} → ChainDone s i p ts → Tok s p Dot → Of is_word s (p + 1) → ChainDone s i (p + 2) (one (node Row.Member (p + 1) i (p + 2) ts))
  member_chain {i} {p} {ts} x t o = linked x (node Row.Member (p + 1) i (p + 2) ts) (λ e out b. plainly.links_member t.kind_is o.holds (rw x.is_one at b))

  pub index_chain : {i p q : ℕ} {ts us : Forest} → ChainDone s i p ts → Tok s p LBrack → Reads s (J.expression (p + 1)) q us → Tok s q RBrack → ChainDone s i (q + 1) (one (node Row.Index i i (q + 1) (join ts us)))
  unfolding join
  index_chain {i} {p} {q} {ts} {us} x t a c =
      linked x (node Row.Index i i (q + 1) (join ts us)) (λ e out b. quiet (plainly.links_index t.kind_is a c.kind_is (rw x.is_one at b)))

  pub call_chain : {i p j : ℕ} {ts us : Forest} → ChainDone s i p ts → ArgumentsDone s p j us → ChainDone s i j (one (node Row.Call i i j (join ts us)))
  call_chain {i} {p} {j} {ts} {us} x a =
      linked x (node Row.Call i i j (join ts us)) (λ e out b. quiet (plainly.links_call a.opens.kind_is
      (subst (λ (v : Forest). Reads s (J.arguments i (p + 1) v) j (one (node Row.Call i i j (join v us)))) x.is_one (a.reads i ts)) (rw x.is_one at b)))

  pub chain_left : {i j : ℕ} {ts : Forest} → ChainDone s i j ts → LeftDone s i j ts
  chain_left x = record { reads = λ u. rw x.is_one (x.goes _ _ (plainly.links_end u.no_dot u.no_brack u.no_paren)); operand = x.operand }

  pub left_unary : {i j : ℕ} {ts : Forest} → LeftDone s i j ts → UnaryDone s i j ts
  left_unary {i} x =
      let l = operand_small (token s i) x.operand.begins in
      record { reads = λ t. plainly.unary_none (not_prefix (token s i) l) (not_update (token s i) l) (plainly.postfix_none (x.reads (unlinked t)) t.no_postfix) }

  pub prefix_unary : {i j : ℕ} {ts : Forest} → Of is_prefix s i → UnaryDone s (i + 1) j ts → UnaryDone s i j (one (node Row.Unary i i j ts))
  unfolding is_prefix is_unary_operator
  prefix_unary {i} o x = record { reads = λ t. plainly.unary_done (inside s i is_prefix refl o.holds) o.holds (x.reads t) }

-- OPERATORS
pub record TierDone (s : Sheet) (l i j : ℕ) (ts : Forest) : Type 0 where
  pub tree : Tree
  pub is_one : ts ≡ one tree
  pub low : l ≤ 12
  pub goes : (floor : ℕ) → floor < l → Tail s j → expression_level (token s j) ≤ l → expression_level (token s j) ≤ 11 → (e : ℕ) (out : Forest) → Reads s (J.operators floor i j tree) e out
      → Reads s (J.binary floor i) e out

-- `??` and what may stand left of it
pub record CoalesceDone (s : Sheet) (i j : ℕ) (ts : Forest) : Type 0 where
  pub tree : Tree
  pub is_one : ts ≡ one tree
  pub bare : is_or_and s tree ≡ false
  pub goes : Tail s j → expression_level (token s j) ≤ 1 → (e : ℕ) (out : Forest) → Reads s (J.operators 0 i j tree) e out → Reads s (J.binary 0 i) e out

-- a ShortCircuitExpression, where no operator follows
pub record ShortDone (s : Sheet) (i j : ℕ) (ts : Forest) : Type 0 where
  pub reads : Tail s j → expression_level (token s j) ≡ 0 → Reads s (J.binary 0 i) j ts

-- no record is said of an operator of a tier, nor of `**` after an UpdateExpression, nor of `??` between bare operands
pub no_records : (s : Sheet) (p l : ℕ) (left right : Tree) → 2 ≤ l → l ≤ 11 → expression_level (token s p) ≡ l → operation_records s p left right ≡ []
unfolding operation_records expression_level level
no_records s p l left right h k e =
    rw (
      ne_eqb (token s p) Question2 (λ q. let z : expression_level (token s p) ≡ 1 = ap expression_level q in omega arith),
      ne_eqb (token s p) Star2 (λ q. let z : expression_level (token s p) ≡ 12 = ap expression_level q in omega arith),
    )

pub no_power_record : (s : Sheet) (p : ℕ) (left right : Tree) → Tok s p Star2 → kind_of left is Row.Unary ≡ false → operation_records s p left right ≡ []
unfolding operation_records
no_power_record s p left right t k = rw (t.kind_is, k)

pub no_coalesce_record : (s : Sheet) (p : ℕ) (left right : Tree) → Tok s p Question2 → is_or_and s left ≡ false → is_or_and s right ≡ false → operation_records s p left right ≡ []
unfolding operation_records
no_coalesce_record s p left right t a b = rw (t.kind_is, a, b)

record Known : Type 0 where
  star_level : expression_level Star2 ≡ 12
  coalesce_level : expression_level Question2 ≡ 1
  question_level : expression_level Question ≡ 0
  arrow_level : expression_level Arrow ≡ 0
  star_row : operation_kind Star2 ≡ Row.Binary
  coalesce_row : operation_kind Question2 ≡ Row.Logical
  coalesce_floor : right_floor Question2 ≡ 1

known : Known
unfolding operation_kind right_floor expression_level level
known = record { star_level = refl; coalesce_level = refl; question_level = refl; arrow_level = refl; star_row = refl; coalesce_row = refl; coalesce_floor = refl }

-- an operator stands inside
pub operator_here : {s : Sheet} {p l : ℕ} → 2 ≤ l → Operator s p l → p < length s.kinds
unfolding expression_level level
operator_here {s} {p} {l} h o = inside s p (λ k. leb 1 (expression_level k)) refl (positive_level (expression_level (token s p)) l h o.level_is)

-- two trees as kids
pub two_kids : {ts us : Forest} {t u : Tree} → ts ≡ one t → us ≡ one u → join ts us ≡ cons t (one u)
unfolding join
two_kids {us = us} {t} a b = ap (λ (v : Forest). join v us) a ∙ ap (cons t) b

module _ {s : Sheet} where
  pub unary_tier : {i j : ℕ} {ts : Forest} → ts ≡ one (first_tree ts) → UnaryDone s i j ts → TierDone s 12 i j ts
  unary_tier {ts = ts} r x =
      record { tree = first_tree ts; is_one = r; low = omega arith; goes = λ floor lt t a b e out c. quiet (plainly.binary_more (rw (r) at (x.reads t)) c) }

  pub tier_down : {l i j : ℕ} {ts : Forest} → TierDone s (suc l) i j ts → TierDone s l i j ts
  tier_down x = record { tree = x.tree; is_one = x.is_one; low = let b = x.low in omega arith; goes = λ floor lt t a b e out c. x.goes floor (omega arith) t (omega arith) b e out c }

  -- an operator between two operands that are one tree each
  over_operator : {floor i p j e k : ℕ} {x y : Tree} {ts us out : Forest} → ts ≡ one x → us ≡ one y → k ≡ operation_kind (token s p) → p < length s.kinds
      → ltb floor (expression_level (token s p)) ≡ true → Reads s (J.binary (right_floor (token s p)) (p + 1)) j (one y) → operation_records s p x y ≡ []
      → Reads s (J.operators floor i j (node k p i j (join ts us))) e out → Reads s (J.operators floor i p x) e out
  over_operator {floor} {i} {p} {j} {e} {out = out} a b k h l r n c =
      operators_more h l r n (subst (λ (z : Tree). Reads s (J.operators floor i j z) e out) (rw k (ap (node (operation_kind (token s p)) p i j) (two_kids a b))) c)

  -- an operator and its right operand
  pub operation_tier : {l i p j : ℕ} {ts us : Forest} → 2 ≤ l → TierDone s l i p ts → Operator s p l → TierDone s (suc l) (p + 1) j us → TierDone s l i j (one (node (tier_row l) p i j (join ts us)))
  operation_tier {l} {i} {p} {j} {ts} {us} h x o y =
      record {
        tree = node (tier_row l) p i j (join ts us);
        is_one = refl;
        low = x.low;
        goes = λ floor lt t a b e out c. x.goes floor lt (operator_tail h o) (omega (arith, o.level_is)) (let k = y.low in omega (arith, o.level_is)) e out (step floor lt t a b e out c);
      }
    where
      at_most : l ≤ 11
      at_most = let k = y.low in omega arith

      step : (floor : ℕ) → floor < l → Tail s j → expression_level (token s j) ≤ l → expression_level (token s j) ≤ 11 → (e : ℕ) (out : Forest)
          → Reads s (J.operators floor i j (node (tier_row l) p i j (join ts us))) e out → Reads s (J.operators floor i p x.tree) e out
      step floor lt t a b e out c =
          let k = y.low in
          let fl : right_floor (token s p) ≡ l = other_floor (token s p) (omega (arith, o.level_is)) ∙ o.level_is in
          let right : Reads s (J.binary l (p + 1)) j (one y.tree) = y.goes l (omega arith) t (omega arith) b j (one y.tree) (plainly.operators_end (le-ltb _ _ a)) in
          let k : tier_row l ≡ operation_kind (token s p) = sym (row_of_tier (token s p) (omega (arith, o.level_is)) ∙ ap tier_row o.level_is) in
          over_operator x.is_one y.is_one k (operator_here h o) (rw o.level_is (lt-ltb _ _ lt)) (rw fl right) (no_records s p l x.tree y.tree h at_most o.level_is) c

  -- `**` after an UpdateExpression
  pub power_tier : {i p j : ℕ} {ts us : Forest} → ts ≡ one (first_tree ts) → UnaryDone s i p ts → kind_of (first_tree ts) is Row.Unary ≡ false → Tok s p Star2 → TierDone s 12 (p + 1) j us
      → TierDone s 12 i j (one (node Row.Binary p i j (join ts us)))
  power_tier {i} {p} {j} {ts} {us} r x n o y =
      record {
        tree = node Row.Binary p i j (join ts us);
        is_one = refl;
        low = omega arith;
        goes = λ floor lt t a b e out c. quiet (plainly.binary_more (rw (r) at (x.reads (tail_kind _ refl refl refl refl refl o))) (step floor lt t b e out c));
      }
    where
      step : (floor : ℕ) → floor < 12 → Tail s j → expression_level (token s j) ≤ 11 → (e : ℕ) (out : Forest) → Reads s (J.operators floor i j (node Row.Binary p i j (join ts us))) e out
          → Reads s (J.operators floor i p (first_tree ts)) e out
      step floor lt t b e out c =
          let v : expression_level (token s p) ≡ 12 = ap expression_level o.kind_is ∙ known.star_level in
          let fl : right_floor (token s p) ≡ 11 = ap right_floor o.kind_is ∙ power_floor in
          let right : Reads s (J.binary 11 (p + 1)) j (one y.tree) = y.goes 11 (omega arith) t (omega arith) b j (one y.tree) (plainly.operators_end (le-ltb _ _ b)) in
          over_operator r y.is_one (sym (ap operation_kind o.kind_is ∙ known.star_row)) (here o) (rw v (lt-ltb _ _ lt)) (rw fl right) (no_power_record s p (first_tree ts) y.tree o n) c

  -- `??` between a head and a BitwiseORExpression
  pub tier_head : {i j : ℕ} {ts : Forest} → TierDone s 4 i j ts → is_or_and s (first_tree ts) ≡ false → CoalesceDone s i j ts
  unfolding first_tree
  tier_head x n =
      record {
        tree = x.tree;
        is_one = x.is_one;
        bare = ap (λ (v : Forest). is_or_and s (first_tree v)) (sym x.is_one) ∙ n;
        goes = λ t a e out c. x.goes 0 (omega arith) t (omega arith) (omega arith) e out c;
      }

  pub coalesce_done : {i p j : ℕ} {ts us : Forest} → CoalesceDone s i p ts → Tok s p Question2 → TierDone s 4 (p + 1) j us → is_or_and s (first_tree us) ≡ false
      → CoalesceDone s i j (one (node Row.Logical p i j (join ts us)))
  unfolding first_tree is_or_and kind_of mark_of
  coalesce_done {i} {p} {j} {ts} {us} x o y n =
      record {
        tree = node Row.Logical p i j (join ts us);
        is_one = refl;
        bare = rw o.kind_is;
        goes = λ t a e out c. x.goes (tail_kind _ refl refl refl refl refl o) (let v : expression_level (token s p) ≡ 1 = ap expression_level o.kind_is ∙ known.coalesce_level in omega arith) e out (step t a e out c);
      }
    where
      step : Tail s j → expression_level (token s j) ≤ 1 → (e : ℕ) (out : Forest) → Reads s (J.operators 0 i j (node Row.Logical p i j (join ts us))) e out → Reads s (J.operators 0 i p x.tree) e out
      step t a e out c =
          let v : expression_level (token s p) ≡ 1 = ap expression_level o.kind_is ∙ known.coalesce_level in
          let fl : right_floor (token s p) ≡ 1 = ap right_floor o.kind_is ∙ known.coalesce_floor in
          let right : Reads s (J.binary 1 (p + 1)) j (one y.tree) = y.goes 1 (omega arith) t (omega arith) (omega arith) j (one y.tree) (plainly.operators_end (le-ltb _ _ a)) in
          over_operator x.is_one y.is_one (sym (ap operation_kind o.kind_is ∙ known.coalesce_row)) (here o) (rw v (lt-ltb 0 1 (omega arith))) (rw fl right)
          (no_coalesce_record s p x.tree y.tree o x.bare (ap (λ (z : Forest). is_or_and s (first_tree z)) (sym y.is_one) ∙ n)) c

  pub tier_short : {i j : ℕ} {ts : Forest} → TierDone s 2 i j ts → ShortDone s i j ts
  tier_short {i} {j} x = record { reads = λ t a. rw x.is_one (x.goes 0 (omega arith) t (omega arith) (omega arith) j (one x.tree) (plainly.operators_end (le-ltb 0 (expression_level (token s j)) (omega arith)))) }

  pub coalesce_short : {i j : ℕ} {ts : Forest} → CoalesceDone s i j ts → ShortDone s i j ts
  coalesce_short {i} {j} x = record { reads = λ t a. rw x.is_one (x.goes t (omega arith) j (one x.tree) (plainly.operators_end (le-ltb 0 (expression_level (token s j)) (omega arith)))) }

  -- an operand alone
  pub unary_short : {i j : ℕ} {ts : Forest} → ts ≡ one (first_tree ts) → UnaryDone s i j ts → ShortDone s i j ts
  unary_short {i} {j} {ts} r x = record { reads = λ t a. rw (r) (quiet (plainly.binary_more (rw (r) at (x.reads t)) (plainly.operators_end (le-ltb 0 (expression_level (token s j)) (omega arith))))) }

-- CONDITIONALS, ASSIGNMENTS, ARROWS
pub record ValueDone (s : Sheet) (i j : ℕ) (ts : Forest) : Type 0 where
  pub reads : Closed s j → Reads s (J.value i) j ts

-- an AssignmentExpression, where something closes it
pub record AssignmentDone (s : Sheet) (i j : ℕ) (ts : Forest) : Type 0 where
  pub reads : Closed s j → Reads s (J.assignment i) j ts

-- a ConciseBody
pub record BodyDone (s : Sheet) (i j : ℕ) (ts : Forest) : Type 0 where
  pub no_curly : token s i is LCurly ≡ false
  pub reads : Closed s j → Reads s (J.assignment i) j ts

-- an Expression, where something other than a comma closes it
pub record ExpressionDone (s : Sheet) (i j : ℕ) (ts : Forest) : Type 0 where
  pub reads : Closed s j → token s j is Comma ≡ false → Reads s (J.expression i) j ts

-- the parts of a Sequence: what is read after them is what the Expression comes to
pub record CommasDone (s : Sheet) (comma i j : ℕ) (ts : Forest) : Type 0 where
  pub goes : Closed s j → (e : ℕ) (out : Forest) → Reads s (J.sequence i comma j ts) e out → Reads s (J.expression i) e out

-- parameters before their `=>`: what comes after them is what the assignment level comes to
pub record ParametersRead (s : Sheet) (kind i p : ℕ) (ts : Forest) : Type 0 where
  pub goes : Tok s p Arrow → (e : ℕ) (out : Forest) → Reads s (J.body kind i p ts) e out → Reads s (J.assignment i) e out

-- parameters in parentheses
pub record FormalDone (s : Sheet) (i j : ℕ) (ts : Forest) : Type 0 where
  pub opens : Tok s i LParen
  pub reads : Reads s (J.parameters (i + 1) nil) j ts

pub closed_assignment : {s : Sheet} {j : ℕ} → Closed s j → is_assignment_operator (token s j) ≡ false
unfolding is_assignment_operator
closed_assignment x = closed_test is_assignment_operator refl refl refl refl refl refl x

pub closed_not : {s : Sheet} {j : ℕ} (k : ℕ) → is_closer k ≡ false → Closed s j → token s j is k ≡ false
closed_not {s} {j} k e x = test_not (token s j) is_closer k e x.closes

module _ {s : Sheet} where
  pub short_value : {i j : ℕ} {ts : Forest} → ts ≡ one (first_tree ts) → Second s i j → ShortDone s i j ts → ValueDone s i j ts
  short_value {ts = ts} r n x =
      record {
        reads = λ c. rw (r)
            (plainly.value_stops (no_async_name n (closed_no_name c)) (rw (r) at (x.reads (closed_tail c) (closed_level c))) (and_false (kind_of (first_tree ts) is Row.Identifier) (closed_not Arrow refl c)) (closed_assignment c) (closed_not Question refl c));
      }

  pub conditional_value : {i p q j : ℕ} {ts us vs : Forest} → ts ≡ one (first_tree ts) → Second s i p → ShortDone s i p ts → Tok s p Question → AssignmentDone s (p + 1) q us → Tok s q Colon → AssignmentDone s (q + 1) j vs
      → ValueDone s i j (one (node Row.Conditional p i j (join ts (join us vs))))
  unfolding join is_name is_assignment_operator
  conditional_value {i} {p} {q} {j} {ts} {us} {vs} r n x o y c z =
      record {
        reads = λ d. subst (λ (v : Forest). Reads s (J.value i) j (one (node Row.Conditional p i j (join v (join us vs))))) (sym (r))
            (quiet (plainly.value_chooses (no_async_name n (ap is_name o.kind_is)) (rw (r) at (x.reads (tail_kind _ refl refl refl refl refl o) (ap expression_level o.kind_is ∙ known.question_level)))
            (and_false (kind_of (first_tree ts) is Row.Identifier) (ap (λ (k : ℕ). k is Arrow) o.kind_is)) (ap is_assignment_operator o.kind_is) (ap (λ (k : ℕ). k is Question) o.kind_is)
            (plainly.conditional_done (here o) (y.reads (closed_by _ refl c)) c.kind_is (z.reads d))));
      }

  pub past_value : {i j : ℕ} {ts : Forest} → (Closed s j → Opening s i) → ValueDone s i j ts → AssignmentDone s i j ts
  past_value o x = record { reads = λ c. past_head (o c) (x.reads c) }

  -- an arrow function
  pub arrow_done : {kind i p j : ℕ} {ts us : Forest} → ParametersRead s kind i p ts → Tok s p Arrow → SameLine s p → BodyDone s (p + 1) j us → AssignmentDone s i j (one (node kind p i j (join ts us)))
  arrow_done {kind} {i} {ts = ts} x t l y = record { reads = λ c. x.goes t _ _ (rw l.unbroken at (plainly.body_done {first = i} {kind = kind} {so_far = ts} (here t) y.no_curly (y.reads c))) }

  -- one name before `=>`
  pub name_opening : {i : ℕ} → Of is_name s i → (Tok s (i + 1) LParen → ⊥) → Opening s i
  unfolding is_name
  name_opening {i} n m = by (ℕ_discrete (token s i) Async)
    where
      by : Dec (token s i ≡ Async) → Opening s i
      by (yes e) = async_opening (record { kind_is = e }) m
      by (no e) = other_opening (λ t. not_both n.holds (ap is_name t.kind_is)) (λ t. e t.kind_is)

  pub name_read : {i : ℕ} → Of is_name s i → ParametersRead s Row.Arrow i (i + 1) (one (leaf Row.BindingName i))
  unfolding kind_of first_tree is_name
  name_read {i} n = record { goes = λ t e out b. past_head (name_opening n (λ u. omega (arith, sym t.kind_is ∙ u.kind_is))) (quiet (plainly.value_arrow (async t) (reads t) refl t.kind_is b)) }
    where
      async : Tok s (i + 1) Arrow → is_async_name s i ≡ false
      async t = no_async_name (record { alone = λ a b. refl }) (ap is_name t.kind_is)

      reads : Tok s (i + 1) Arrow → Reads s (J.binary 0 i) (i + 1) (one (leaf Row.Identifier i))
      reads t = (unary_short refl (left_unary (chain_left (primary_chain refl (operand_name n) (plainly.primary_name n.holds))))).reads (tail_kind _ refl refl refl refl refl t) (ap expression_level t.kind_is ∙ known.arrow_level)

  -- parameters in parentheses
  pub parameters_read : {i p : ℕ} {ts : Forest} → FormalDone s i p ts → ParametersRead s Row.Arrow i p ts
  parameters_read x = record { goes = λ t e out b. assignment_head x.opens (plainly.head_done (ap (λ (k : ℕ). k is Async) x.opens.kind_is) x.opens.kind_is x.reads t.kind_is) b }

  pub async_parameters_read : {i p : ℕ} {ts : Forest} → Tok s i Async → SameLine s (i + 1) → FormalDone s (i + 1) p ts → ParametersRead s Row.AsyncArrow i p ts
  async_parameters_read o l x = record { goes = λ t e out b. let h = plainly.head_async_done o.kind_is l.unbroken x.opens.kind_is x.reads t.kind_is in assignment_async o h b }

  pub async_name_read : {i : ℕ} → Tok s i Async → Of is_name s (i + 1) → SameLine s (i + 1) → ParametersRead s Row.AsyncArrow i (i + 2) (one (leaf Row.BindingName (i + 1)))
  unfolding is_async_name is_name
  async_name_read {i} o n l =
      record {
        goes = λ t e out b. past_head (async_opening o (λ u. not_both n.holds (ap is_name u.kind_is)))
            (plainly.value_async (rw (o.kind_is, n.holds, l.unbroken, t.kind_is)) b);
      }

  -- 13.16
  pub first_commas : {comma i j : ℕ} {ts us : Forest} → AssignmentDone s i comma ts → Tok s comma Comma → AssignmentDone s (comma + 1) j us → CommasDone s comma i j (join ts us)
  first_commas x t y = record { goes = λ c e out b. quiet (plainly.expression_more (x.reads (closed_by _ refl t)) t.kind_is (quiet (plainly.sequence_more t.kind_is (y.reads c) b))) }

  pub next_commas : {comma i p j : ℕ} {ts us : Forest} → CommasDone s comma i p ts → Tok s p Comma → AssignmentDone s (p + 1) j us → CommasDone s comma i j (join ts us)
  next_commas x t y = record { goes = λ c e out b. x.goes (closed_by _ refl t) e out (quiet (plainly.sequence_more t.kind_is (y.reads c) b)) }

  pub sequence_done : {comma i j : ℕ} {ts : Forest} → CommasDone s comma i j ts → ExpressionDone s i j (one (node Row.Sequence comma i j ts))
  sequence_done x = record { reads = λ c n. x.goes c _ _ (plainly.sequence_ends n) }

  pub no_comma_done : {i j : ℕ} {ts : Forest} → AssignmentDone s i j ts → ExpressionDone s i j ts
  no_comma_done x = record { reads = λ c n. plainly.expression_one (x.reads c) n }

-- KEYS AND PROPERTIES
pub record KeyDone (s : Sheet) (i j : ℕ) (ts : Forest) : Type 0 where
  pub lone : ts ≡ one (first_tree ts)
  pub reads : Reads s (J.key i) j ts
  pub paired : Tok s j Colon → is_name (token s i) and not (token s (i + 1) is Colon) ≡ false
  pub no_curly : token s i is RCurly ≡ false
  pub no_dots : token s i is Dot3 ≡ false

module _ {s : Sheet} where
  pub literal_key : {i : ℕ} → Of is_key s i → KeyDone s i (i + 1) (one (leaf Row.Key i))
  unfolding is_key is_word first_tree
  literal_key {i} n =
      record {
        lone = refl;
        reads = plainly.key_word n.holds;
        paired = λ t. and_false (is_name (token s i)) (ap (λ (k : ℕ). not (k is Colon)) t.kind_is);
        no_curly = test_not (token s i) is_key RCurly refl n.holds;
        no_dots = test_not (token s i) is_key Dot3 refl n.holds;
      }

  pub computed_key : {i p : ℕ} {ts : Forest} → Tok s i LBrack → AssignmentDone s (i + 1) p ts → Tok s p RBrack → KeyDone s i (p + 1) (one (node Row.ComputedKey i i (p + 1) ts))
  unfolding is_name first_tree
  computed_key {i} o x c =
      record { lone = refl; reads = plainly.key_done o.kind_is (x.reads (closed_by _ refl c)) c.kind_is; paired = λ t. rw o.kind_is; no_curly = rw o.kind_is; no_dots = rw o.kind_is }

-- a part of an object literal that begins with a name or a key
pub plain_part : {s : Sheet} {i j : ℕ} (kind mark first end : ℕ) (kids : Forest) → kind is Row.Spread ≡ false → token s i is RCurly ≡ false → token s i is Dot3 ≡ false
    → (Closed s j → token s j is Colon ≡ false → Reads s (J.property i) j (one (node kind mark first end kids))) → PartDone s i j (one (node kind mark first end kids))
unfolding kind_of
plain_part kind mark first end kids k n d r =
    record { reads = λ c e. rw d (r c e); no_curly = n; spreads = λ us. spread_last us (node kind mark first end kids) ∙ k ∙ sym d }

module _ {s : Sheet} where
  name_curly : {i : ℕ} → Of is_name s i → token s i is RCurly ≡ false
  unfolding is_name
  name_curly {i} n = test_not (token s i) is_name RCurly refl n.holds

  name_dots : {i : ℕ} → Of is_name s i → token s i is Dot3 ≡ false
  unfolding is_name
  name_dots {i} n = test_not (token s i) is_name Dot3 refl n.holds

  pub shorthand_part : {i : ℕ} → Of is_name s i → PartDone s i (i + 1) (one (node Row.Shorthand i i (i + 1) (one (leaf Row.Identifier i))))
  shorthand_part {i} n = plain_part Row.Shorthand i i (i + 1) (one (leaf Row.Identifier i)) refl (name_curly n) (name_dots n) (λ c e. plainly.property_shorthand (unpaired n e) (closed_not Eq refl c))

  pub cover_part : {i j : ℕ} {ts : Forest} → Of is_name s i → Tok s (i + 1) Eq → AssignmentDone s (i + 2) j ts → PartDone s i j (one (node Row.ShorthandInit (i + 1) i j (cons (leaf Row.Identifier i) ts)))
  cover_part {i} {j} {ts} n t x = plain_part Row.ShorthandInit (i + 1) i j (cons (leaf Row.Identifier i) ts) refl (name_curly n) (name_dots n) (λ c e. plainly.property_init (unpaired n (ap (λ (k : ℕ). k is Colon) t.kind_is)) t.kind_is (x.reads c))

  pub pair_part : {i p j : ℕ} {ts us : Forest} → KeyDone s i p ts → Tok s p Colon → AssignmentDone s (p + 1) j us → PartDone s i j (one (node Row.Property i i j (join ts us)))
  pair_part {i} {p} {j} {ts} {us} k t x = plain_part Row.Property i i j (join ts us) refl k.no_curly k.no_dots (λ c e. plainly.property_done (k.paired t) k.reads t.kind_is (x.reads c))

  pub spread_part : {i j : ℕ} {ts : Forest} → Tok s i Dot3 → AssignmentDone s (i + 1) j ts → PartDone s i j (one (node Row.Spread i i j ts))
  unfolding kind_of
  spread_part {i} {j} {ts} t x =
      record {
        reads = λ c e. rw t.kind_is (plainly.spread_done (here t) (x.reads c));
        no_curly = rw t.kind_is;
        spreads = λ us. spread_last us (node Row.Spread i i j ts) ∙ sym (ap (λ (k : ℕ). k is Dot3) t.kind_is);
      }

  -- the same in binding patterns
  pub bound_shorthand : {i : ℕ} → Of is_name s i → PropertyBound s i (i + 1) (one (node Row.BindingShorthand i i (i + 1) (one (leaf Row.BindingName i))))
  bound_shorthand n = record { reads = λ c e. plainly.binding_property_shorthand (unpaired n e) (closed_not Eq refl c); no_curly = name_curly n; no_dots = name_dots n }

  pub bound_shorthand_default : {i j : ℕ} {ts : Forest} → Of is_name s i → Tok s (i + 1) Eq → AssignmentDone s (i + 2) j ts
      → PropertyBound s i j (one (node Row.BindingShorthandInit (i + 1) i j (cons (leaf Row.BindingName i) ts)))
  bound_shorthand_default n t x = record { reads = λ c e. plainly.binding_property_init (unpaired n (ap (λ (k : ℕ). k is Colon) t.kind_is)) t.kind_is (x.reads c); no_curly = name_curly n; no_dots = name_dots n }

  pub bound_pair : {i p j : ℕ} {ts us : Forest} → KeyDone s i p ts → Tok s p Colon → ElementBound s (p + 1) j us → PropertyBound s i j (one (node Row.Property i i j (join ts us)))
  bound_pair k t x = record { reads = λ c e. plainly.binding_property_done (k.paired t) k.reads t.kind_is (x.reads c); no_curly = k.no_curly; no_dots = k.no_dots }
