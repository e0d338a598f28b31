-- What ECMA-262 derives as a target the plain reader reads as an expression, and that expression converts to the target's rows without a record: one record
-- for what is shown of a nonterminal of 13.15.5, one lemma for each of its productions.
-- Assumes nothing.
use Rattle.std.specs.Prelude.{if◌then◌else◌}
use Prim.Native.Nat.{ℕ, suc, ◌+◌, ◌≤◌}
use mathlib.Core.Path.{◌≡◌, refl, sym, ap, ◌∙◌, subst}
use mathlib.Core.Bool.{Bool, true, false}
use mathlib.Core.List.{List, []}
use native.Mathlib.Omega.{arith}
use lib.Dec.{leb}
use borrow.Author.Tests.{ne_eqb, leb-true, le-leb, lt-leb}
use Rattle.tokens.specs.Bool.{◌is◌}
use Rattle.tokens.specs.Kind.{LParen, RParen, LBrack, RBrack, LCurly, RCurly, Comma, Colon, Dot, Dot3, Arrow, Eq}
use Rattle.tokens.specs.Token.{is_name, is_word, is_literal}
use Rattle.rows.specs.Tree.{Tree, Forest, node, nil, cons, one, join, count, kind_of}
use Rattle.rows.specs.Row as Row
use Rattle.rows.specs.Record.{Record}
use Rattle.rows.proofs.Rows.{join_nil, join_assoc, count_join}
use Rattle.conversion.specs.Conversion.{Role, any, simple, element, last_element, property, last_property, value, turned, only, seen, as_simple, as_any, as_value, as_element, as_last_element, as_property, as_last_property, as_name, change, roles, over, both, is_array_or_object, inner_kind, inner_kinds, is_reference, array_argument, convert_as, convert_kids}
use Rattle.conversion.proofs.KidRoles.{elements, properties}
use Rattle.grammar.specs.Sheet.{Sheet, token, first_tree, leaf}
use Rattle.grammar.specs.Job as J
use Rattle.grammar.specs.Assignment.{is_assignment_operator}
use Rattle.laws.proofs.Good.{inside, and_left, and_right}
use Rattle.ecma262.specs.Derives as D
use Rattle.exact.proofs.Terminals.{Of, past_levels}
use Rattle.exact.specs.Terminals.{is_prefix, is_update, is_compound}
use Rattle.ecma262.specs.Derives.{Tok, Elision, ends_in_spread, array_row, object_row, Derives}
use Rattle.exact.proofs.Roots.{not_both, spread_last, Each, each_one, each_more, Past, past}
use Rattle.exact.proofs.Convert.{Expected, as_target, as_simple_target, as_content, as_middle, as_last, simple_kind, alike, followed, followed_property, Holey, holey_middle, hole_stays, holey, same_stays, Two, two}
use Rattle.exact.proofs.Follow.{Opening, Closed, test_not, tail_by, tail_kind, is_operand, is_start, Operand, Start, operand_name, Second, no_async_name, closed_by, operand_kind}
use Rattle.exact.proofs.Sound.{nothing_left, nothing_right}
use Rattle.exact.proofs.Parts.{Reads, plainly, quiet, here, and_false, assign_compound, assign_equals, past_head, ItemDone, PartDone, array_empty_reads, array_list_reads, array_comma_reads, object_empty_reads, object_list_reads, object_comma_reads, ChainDone, LeftDone, primary_chain, member_chain, index_chain, chain_left, left_unary, unary_short, short_value, AssignmentDone, past_value, no_comma_done, KeyDone, shorthand_part, cover_part, pair_part, spread_part}

-- CONVERSION, WHERE NOTHING IS SAID
-- one tree, and two forests one after the other
pub one_turns : (f : ℕ → Role) (t u : Tree) → convert_as t (f 0) ≡ turned u [] → convert_kids (one t) f ≡ turned (one u) []
unfolding convert_kids both count
one_turns f t u e = rw e

pub join_turns : (ts us vs ws : Forest) (f g : ℕ → Role) → ((n : ℕ) → f (n + count us) ≡ g n) → convert_kids ts g ≡ turned vs [] → convert_kids us f ≡ turned ws [] → convert_kids (join ts us) f ≡ turned (join vs ws) []
unfolding convert_kids join both
join_turns nil us vs ws f g h a b = let e : nil ≡ vs = cc in b ∙ ap (λ (x : Forest). turned (join x ws) []) e
join_turns (cons t ts) us vs ws f g h a b = go (two (convert_as t (g (count ts))) (convert_kids ts g) vs [] a) (λ xs e. join_turns ts us xs ws f g h e b)
  where
    go : Two (convert_as t (g (count ts))) (convert_kids ts g) vs [] → ((xs : Forest) → convert_kids ts g ≡ turned xs [] → convert_kids (join ts us) f ≡ turned (join xs ws) [])
        → both (convert_as t (f (count (join ts us)))) (convert_kids (join ts us) f) ≡ turned (join vs ws) []
    go r ih =
        let p = nothing_left r.head_said r.tail_said (sym r.are) in
        let q = nothing_right r.head_said r.tail_said (sym r.are) in
        let k : f (count (join ts us)) ≡ g (count ts) = ap f (count_join ts us) ∙ h (count ts) in
        let c : convert_as t (f (count (join ts us))) ≡ turned r.head [] = ap (convert_as t) k ∙ r.head_turns ∙ ap (turned r.head) p in
        let d = ih r.tail (r.tail_turns ∙ ap (turned r.tail) q) in
        let m : cons r.head (join r.tail ws) ≡ join vs ws = ap (λ (x : Forest). join x ws) (sym r.is_forest) in
        rw (c, d) (ap (λ (x : Forest). turned x []) m)

-- holes stay
pub holes_turn : {s : Sheet} {i p : ℕ} {hs : Forest} → Derives s Elision i p hs → (f : ℕ → Role) → ((n : ℕ) → Holey (f n)) → convert_kids hs f ≡ turned hs []
unfolding convert_kids count
holes_turn D.no_elision f h = refl
holes_turn (D.elision {p = p} {ts = hs} d t) f h =
    join_turns hs (one (leaf Row.Hole p)) hs (one (leaf Row.Hole p)) f (λ n. f (n + 1)) (λ n. refl) (holes_turn d (λ n. f (n + 1)) (λ n. h (n + 1))) (one_turns f (leaf Row.Hole p) (leaf Row.Hole p) (hole_stays p (h 0)))

pub holes_array : {s : Sheet} {i p : ℕ} {hs : Forest} → Derives s Elision i p hs → array_row hs ≡ Row.Array
unfolding array_row ends_in_spread kind_of
holes_array D.no_elision = refl
holes_array (D.elision {p = p} {ts = hs} d t) = rw (spread_last hs (leaf Row.Hole p))

-- the roles of elements, and those of any target
pub data Inner : Role → Type 0 where
  in_value : Inner value
  in_middle : Inner element
  in_last : (comma : List Record) → Inner (last_element comma)

pub inner_expected : {role : Role} → Inner role → Expected role
inner_expected in_value = as_content
inner_expected in_middle = as_middle
inner_expected (in_last comma) = as_last comma

-- SIMPLE TARGETS
-- a simple target: an operand that is read and converts to it in each role
pub record SimpleDone (s : Sheet) (i j : ℕ) (ts : Forest) : Type 0 where
  pub tree : Tree
  pub into : Tree
  pub is_one : ts ≡ one into
  pub left : LeftDone s i j (one tree)
  pub turns : {role : Role} → Expected role → convert_as tree role ≡ turned into []
  pub refers : is_reference (inner_kind tree) ≡ true
  pub no_spread : kind_of tree is Row.Spread ≡ false
  pub no_literal : is_array_or_object (kind_of tree) ≡ false

pub no_simple_literal : (k : ℕ) → simple_kind k ≡ true → is_array_or_object k ≡ false
unfolding simple_kind
no_simple_literal k e = go (is_array_or_object k) refl
  where
    go : (b : Bool) → is_array_or_object k ≡ b → b ≡ false
    go false q = refl
    go true q =
        let l : 5 ≤ k = leb-true 5 k (and_left (leb 5 k) (leb k 8) q) in
        let u : k ≤ 8 = leb-true k 8 (and_right (leb 5 k) (leb k 8) q) in
        absurd (not_both e (rw (ne_eqb k Row.Identifier (λ z. omega arith), ne_eqb k Row.Member (λ z. omega arith), ne_eqb k Row.Index (λ z. omega arith), ne_eqb k Row.Paren (λ z. omega arith))))

pub simple_done : {s : Sheet} {i j : ℕ} (kind mark first end : ℕ) (ts : Forest) (into : Tree) → simple_kind kind ≡ true → LeftDone s i j (one (node kind mark first end ts))
    → convert_as (node kind mark first end ts) simple ≡ turned into [] → is_reference (inner_kind (node kind mark first end ts)) ≡ true → SimpleDone s i j (one into)
unfolding kind_of simple_kind
simple_done kind mark first end ts into k l c r =
    record {
      tree = node kind mark first end ts;
      into = into;
      is_one = refl;
      left = l;
      turns = λ x. alike kind mark first end ts k x ∙ c;
      refers = r;
      no_spread = ne_eqb kind Row.Spread (λ e. not_both k (ap simple_kind e));
      no_literal = no_simple_literal kind k;
    }

module _ {s : Sheet} where
  pub name_source : {i : ℕ} → Of is_name s i → SimpleDone s i (i + 1) (one (leaf Row.TargetName i))
  unfolding simple_kind convert_as change as_simple seen over inner_kind first_tree
  name_source {i} n = simple_done Row.Identifier i i (i + 1) nil (leaf Row.TargetName i) refl (chain_left (primary_chain refl (operand_name n) (plainly.primary_name n.holds))) refl refl

  pub index_source : {i p q : ℕ} {ts us : Forest} → ChainDone s i p ts → Tok s p LBrack → Reads s (J.expression (p + 1)) q us → Tok s q RBrack
      → SimpleDone s i (q + 1) (one (node Row.TargetIndex i i (q + 1) (join ts us)))
  unfolding simple_kind convert_as change as_simple seen over inner_kind
  index_source {i} {q = q} {ts} {us} x t a c = simple_done Row.Index i i (q + 1) (join ts us) (node Row.TargetIndex i i (q + 1) (join ts us)) refl (chain_left (index_chain x t a c)) refl refl

  pub member_source : {i p : ℕ} {ts : Forest} → ChainDone s i p ts → Tok s p Dot → Of is_word s (p + 1) → SimpleDone s i (p + 2) (one (node Row.TargetMember (p + 1) i (p + 2) ts))
  unfolding simple_kind convert_as change as_simple seen over inner_kind
  member_source {i} {p} {ts} x t o = simple_done Row.Member (p + 1) i (p + 2) ts (node Row.TargetMember (p + 1) i (p + 2) ts) refl (chain_left (member_chain x t o)) refl refl

  -- an operand alone as an AssignmentExpression and as an Expression
  pub left_assignment : {i j : ℕ} {t : Tree} → Second s i j → (Closed s j → Opening s i) → LeftDone s i j (one t) → AssignmentDone s i j (one t)
  unfolding first_tree
  left_assignment n o l = past_value o (short_value refl n (unary_short refl (left_unary l)))

  pub paren_source : {i p : ℕ} {ts : Forest} → Tok s i LParen → Second s (i + 1) p → (Closed s p → Opening s (i + 1)) → SimpleDone s (i + 1) p ts → Tok s p RParen
      → SimpleDone s i (p + 1) (one (node Row.TargetParen i i (p + 1) ts))
  unfolding simple_kind convert_as convert_kids change as_simple seen roles over both inner_kind inner_kinds first_tree count is_operand is_name is_literal
  paren_source {i} {p} {ts} o n op x c =
      subst (λ (v : Forest). SimpleDone s i (p + 1) (one (node Row.TargetParen i i (p + 1) v))) (sym x.is_one)
      (simple_done Row.Paren i i (p + 1) (one x.tree) (node Row.TargetParen i i (p + 1) (one x.into)) refl
      (chain_left (primary_chain refl (operand_kind LParen refl o)
      (plainly.primary_paren o.kind_is ((no_comma_done (left_assignment n op x.left)).reads (closed_by _ refl c) (ap (λ (k : ℕ). k is Comma) c.kind_is)) c.kind_is)))
      (rw (x.no_literal, x.turns as_simple_target)) x.refers)

-- ANY TARGETS
-- a DestructuringAssignmentTarget: an operand that is read and converts to it as any target and as an element
pub record TargetDone (s : Sheet) (i j : ℕ) (ts : Forest) : Type 0 where
  pub tree : Tree
  pub into : Tree
  pub is_one : ts ≡ one into
  pub left : LeftDone s i j (one tree)
  pub as_any_target : convert_as tree any ≡ turned into []
  pub inside_turns : {role : Role} → Inner role → convert_as tree role ≡ turned into []
  pub rest : array_argument tree ≡ []
  pub no_spread : kind_of tree is Row.Spread ≡ false

-- an AssignmentPattern: a literal that is read and converts to it
pub record PatternDone (s : Sheet) (i j : ℕ) (ts : Forest) : Type 0 where
  pub tree : Tree
  pub into : Tree
  pub is_one : ts ≡ one into
  pub operand : Operand s i
  pub reads : Reads s (J.primary i) j (one tree)
  pub as_any_target : convert_as tree any ≡ turned into []
  pub inside_turns : {role : Role} → Inner role → convert_as tree role ≡ turned into []
  pub rest : array_argument tree ≡ []
  pub no_spread : kind_of tree is Row.Spread ≡ false

module _ {s : Sheet} where
  pub simple_target : {i j : ℕ} {ts : Forest} → SimpleDone s i j ts → TargetDone s i j ts
  simple_target x =
      record {
        tree = x.tree;
        into = x.into;
        is_one = x.is_one;
        left = x.left;
        as_any_target = x.turns as_target;
        inside_turns = λ r. x.turns (inner_expected r);
        rest = rw x.refers;
        no_spread = x.no_spread;
      }

  pub pattern_target : {i j : ℕ} {ts : Forest} → PatternDone s i j ts → TargetDone s i j ts
  unfolding first_tree
  pattern_target x =
      record {
        tree = x.tree;
        into = x.into;
        is_one = x.is_one;
        left = chain_left (primary_chain refl x.operand x.reads);
        as_any_target = x.as_any_target;
        inside_turns = x.inside_turns;
        rest = x.rest;
        no_spread = x.no_spread;
      }

  pattern_of : {i j : ℕ} (t u : Tree) → Operand s i → Reads s (J.primary i) j (one t) → convert_as t any ≡ turned u [] → convert_as t value ≡ turned u [] → convert_as t element ≡ turned u []
      → ((comma : List Record) → convert_as t (last_element comma) ≡ turned u []) → array_argument t ≡ [] → kind_of t is Row.Spread ≡ false → PatternDone s i j (one u)
  pattern_of t u o r a b c d e n = record { tree = t; into = u; is_one = refl; operand = o; reads = r; as_any_target = a; inside_turns = go; rest = e; no_spread = n }
    where
      go : {role : Role} → Inner role → convert_as t role ≡ turned u []
      go in_value = b
      go in_middle = c
      go (in_last comma) = d comma

  -- an array literal that is read and whose kids turn
  pub array_pattern : {i j : ℕ} (ks us : Forest) → Tok s i LBrack → Reads s (J.primary i) j (one (node Row.Array i i j ks)) → convert_kids ks (elements []) ≡ turned us []
      → PatternDone s i j (one (node Row.TargetArray i i j us))
  unfolding convert_as change as_any as_value as_element as_last_element seen roles over kind_of inner_kind is_operand is_name is_literal
  array_pattern {i} {j} ks us o r c = pattern_of (node Row.Array i i j ks) (node Row.TargetArray i i j us) (operand_kind LBrack refl o) r (rw c) (rw c) (rw c) (λ comma. rw c) refl refl

  pub object_pattern : {i j : ℕ} (ks us : Forest) → Tok s i LCurly → Reads s (J.primary i) j (one (node Row.Object i i j ks)) → convert_kids ks (properties []) ≡ turned us []
      → PatternDone s i j (one (node Row.TargetObject i i j us))
  unfolding convert_as change as_any as_value as_element as_last_element seen roles over kind_of inner_kind is_operand is_name is_literal
  object_pattern {i} {j} ks us o r c = pattern_of (node Row.Object i i j ks) (node Row.TargetObject i i j us) (operand_kind LCurly refl o) r (rw c) (rw c) (rw c) (λ comma. rw c) refl refl

  -- ASSIGNMENTS
  pub assign_source : {i p j : ℕ} {ts us : Forest} → Second s i p → Opening s i → TargetDone s i p ts → Tok s p Eq → AssignmentDone s (p + 1) j us → AssignmentDone s i j (one (node Row.Assign p i j (join ts us)))
  unfolding first_tree join is_name is_assignment_operator
  assign_source {i} {p} {j} {ts} {us} n op x t y =
      record {
        reads = λ c. subst (λ (v : Forest). Reads s (J.assignment i) j (one (node Row.Assign p i j (join v us)))) (sym x.is_one)
            (past_head op (quiet (plainly.value_assigns (no_async_name n (ap is_name t.kind_is))
            ((unary_short refl (left_unary x.left)).reads (tail_kind _ refl refl refl refl refl t) (past_levels (token s p) (omega (arith, t.kind_is))))
            (and_false (kind_of x.tree is Row.Identifier) (ap (λ (k : ℕ). k is Arrow) t.kind_is)) (ap is_assignment_operator t.kind_is) (assign_equals t x.as_any_target (y.reads c)))));
      }

  pub compound_source : {i p j : ℕ} {ts us : Forest} → Second s i p → Opening s i → SimpleDone s i p ts → Of is_compound s p → AssignmentDone s (p + 1) j us
      → AssignmentDone s i j (one (node Row.CompoundAssign p i j (join ts us)))
  unfolding first_tree join is_name is_assignment_operator is_compound
  compound_source {i} {p} {j} {ts} {us} n op x t y =
      let l : 64 ≤ token s p = leb-true 64 (token s p) (and_left (leb 64 (token s p)) (leb (token s p) 78) t.holds) in
      let u : leb (token s p) 78 ≡ true = and_right (leb 64 (token s p)) (leb (token s p) 78) t.holds in
      record {
        reads = λ c. subst (λ (v : Forest). Reads s (J.assignment i) j (one (node Row.CompoundAssign p i j (join v us)))) (sym x.is_one)
            (past_head op (quiet (plainly.value_assigns (no_async_name n (name_small (token s p) l))
            ((unary_short refl (left_unary x.left)).reads (tail_by is_compound refl refl refl refl refl t.holds) (past_levels (token s p) (omega arith)))
            (and_false (kind_of x.tree is Row.Identifier) (test_not (token s p) is_compound Arrow refl t.holds)) (rw (le-leb 63 (token s p) (omega arith)) u)
            (assign_compound (test_not (token s p) is_compound Eq refl t.holds) (inside s p is_compound refl t.holds) (x.turns as_simple_target) (y.reads c)))));
      }
    where
      name_small : (k : ℕ) → 64 ≤ k → is_name k ≡ false
      name_small k h = rw (le-leb 1 k (omega arith), lt-leb k 5 (omega arith))

-- ELEMENTS
-- an AssignmentElement: an AssignmentExpression that is read and converts to it in each role of an element
pub record ElementDone (s : Sheet) (i j : ℕ) (ts : Forest) : Type 0 where
  pub tree : Tree
  pub into : Tree
  pub is_one : ts ≡ one into
  pub whole : AssignmentDone s i j (one tree)
  pub start : Start s i
  pub turns : {role : Role} → Inner role → convert_as tree role ≡ turned into []
  pub no_spread : kind_of tree is Row.Spread ≡ false

-- a rest, read as a spread
pub record RestDone (s : Sheet) (i j : ℕ) (ts : Forest) : Type 0 where
  pub tree : Tree
  pub into : Tree
  pub is_one : ts ≡ one into
  pub item : ItemDone s i j (one tree)
  pub turns : convert_as tree (last_element []) ≡ turned into []

pub start_not : {s : Sheet} {i : ℕ} (k : ℕ) → is_start k ≡ false → Start s i → token s i is k ≡ false
start_not {s} {i} k f x = test_not (token s i) is_start k f x.starts

module _ {s : Sheet} where
  -- an AssignmentExpression as an element
  pub assignment_item : {i j : ℕ} {ts : Forest} (t : Tree) → ts ≡ one t → Start s i → kind_of t is Row.Spread ≡ false → AssignmentDone s i j ts → ItemDone s i j ts
  unfolding is_start is_operand is_name is_literal is_prefix is_update
  assignment_item {i} t q st n x =
      let d : token s i is Dot3 ≡ false = start_not Dot3 refl st in
      record {
        reads = λ c. rw d (x.reads c);
        no_bracket = start_not RBrack refl st;
        no_paren = start_not RParen refl st;
        no_comma = start_not Comma refl st;
        spreads = λ us. ap (λ (v : Forest). ends_in_spread (join us v)) q ∙ spread_last us t ∙ n ∙ sym d;
      }

  -- a spread as an element
  pub spread_item : {i j : ℕ} {ts : Forest} → Tok s i Dot3 → AssignmentDone s (i + 1) j ts → ItemDone s i j (one (node Row.Spread i i j ts))
  unfolding kind_of
  spread_item {i} {j} {ts} t x =
      record {
        reads = λ c. rw t.kind_is (plainly.spread_done (here t) (x.reads c));
        no_bracket = rw t.kind_is;
        no_paren = rw t.kind_is;
        no_comma = rw t.kind_is;
        spreads = λ us. spread_last us (node Row.Spread i i j ts) ∙ sym (ap (λ (k : ℕ). k is Dot3) t.kind_is);
      }

  pub target_element_done : {i j : ℕ} {ts : Forest} → Start s i → Second s i j → (Closed s j → Opening s i) → TargetDone s i j ts → ElementDone s i j ts
  target_element_done st n op x = record { tree = x.tree; into = x.into; is_one = x.is_one; start = st; whole = left_assignment n op x.left; turns = x.inside_turns; no_spread = x.no_spread }

  pub default_element_done : {i p j : ℕ} {ks : Forest} → Start s i → AssignmentDone s i j (one (node Row.Assign p i j ks)) → ElementDone s i j (one (node Row.TargetDefault p i j ks))
  unfolding convert_as change as_value as_element as_last_element seen over kind_of
  default_element_done {i} {p} {j} {ks} st x = record { tree = node Row.Assign p i j ks; into = node Row.TargetDefault p i j ks; is_one = refl; start = st; whole = x; turns = go; no_spread = refl }
    where
      go : {role : Role} → Inner role → convert_as (node Row.Assign p i j ks) role ≡ turned (node Row.TargetDefault p i j ks) []
      go in_value = refl
      go in_middle = refl
      go (in_last comma) = refl

  pub rest_done : {i j : ℕ} {ts : Forest} → Tok s i Dot3 → Second s (i + 1) j → (Closed s j → Opening s (i + 1)) → TargetDone s (i + 1) j ts → RestDone s i j (one (node Row.TargetRest i i j ts))
  unfolding convert_as convert_kids change as_last_element seen roles over both count
  rest_done {i} {j} {ts} t n op x =
      record {
        tree = node Row.Spread i i j (one x.tree);
        into = node Row.TargetRest i i j (one x.into);
        is_one = ap (λ (v : Forest). one (node Row.TargetRest i i j v)) x.is_one;
        item = spread_item t (left_assignment n op x.left);
        turns = rw (x.rest, x.as_any_target);
      }

-- a list of elements, read as an ElementList
pub record ListSource (s : Sheet) (i p : ℕ) (us : Forest) : Type 0 where
  pub trees : Forest
  pub items : Each s (Past s (ItemDone s)) i p trees
  pub in_the_middle : convert_kids trees (only element) ≡ turned us []
  pub at_the_end : convert_kids trees (elements []) ≡ turned us []
  pub no_spread : ends_in_spread trees ≡ false

pub count_one : (t : Tree) → count (one t) ≡ 1
unfolding count
count_one t = refl

-- roles of what stands before one more element
pub before_last : (t : Tree) (n : ℕ) → elements [] (n + count (one t)) ≡ element
before_last t n = ap (λ (m : ℕ). elements [] (n + m)) (count_one t) ∙ followed [] 0 n

pub before_more : (hs : Forest) (t : Tree) (n : ℕ) → elements [] (n + count (join hs (one t))) ≡ element
before_more hs t n =
    ap (λ (m : ℕ). elements [] (n + m)) (count_join hs (one t) ∙ ap (λ (m : ℕ). count hs + m) (count_one t) ∙ suc_last (count hs)) ∙ followed [] (count hs) n
  where
    suc_last : (n : ℕ) → n + 1 ≡ suc n
    suc_last n = omega arith

-- one element after holes
pub past_middle : {s : Sheet} {i p : ℕ} (hs : Forest) (t u : Tree) → Derives s Elision i p hs → convert_as t element ≡ turned u [] → convert_kids (join hs (one t)) (only element) ≡ turned (join hs (one u)) []
past_middle hs t u h e = join_turns hs (one t) hs (one u) (only element) (only element) (λ n. refl) (holes_turn h (only element) (λ n. holey_middle)) (one_turns (only element) t u e)

pub past_last : {s : Sheet} {i p : ℕ} (hs : Forest) (t u : Tree) → Derives s Elision i p hs → convert_as t (last_element []) ≡ turned u [] → convert_kids (join hs (one t)) (elements []) ≡ turned (join hs (one u)) []
past_last hs t u h e = join_turns hs (one t) hs (one u) (elements []) (only element) (before_last t) (holes_turn h (only element) (λ n. holey_middle)) (one_turns (elements []) t u e)

module _ {s : Sheet} where
  pub elements_source : {i p : ℕ} {us : Forest} → Each s (Past s (ElementDone s)) i p us → ListSource s i p us
  elements_source {i} {p} (each_one (past {hs = hs} {ts = ts} h x)) =
      subst (λ (v : Forest). ListSource s i p (join hs v)) (sym x.is_one)
      (record {
        trees = join hs (one x.tree);
        items = each_one (past h (assignment_item x.tree refl x.start x.no_spread x.whole));
        in_the_middle = past_middle hs x.tree x.into h (x.turns in_middle);
        at_the_end = past_last hs x.tree x.into h (x.turns (in_last []));
        no_spread = spread_last hs x.tree ∙ x.no_spread;
      })
  elements_source {i} {p} (each_more {ts = vs} l t (past {hs = hs} {ts = ts} h x)) =
      let y = elements_source l in
      let more = join hs (one x.tree) in
      subst (λ (v : Forest). ListSource s i p (join vs (join hs v))) (sym x.is_one)
      (record {
        trees = join y.trees more;
        items = each_more y.items t (past h (assignment_item x.tree refl x.start x.no_spread x.whole));
        in_the_middle = join_turns y.trees more vs (join hs (one x.into)) (only element) (only element) (λ n. refl) y.in_the_middle (past_middle hs x.tree x.into h (x.turns in_middle));
        at_the_end = join_turns y.trees more vs (join hs (one x.into)) (elements []) (only element) (before_more hs x.tree) y.in_the_middle (past_last hs x.tree x.into h (x.turns (in_last [])));
        no_spread = ap ends_in_spread (sym (join_assoc y.trees hs (one x.tree))) ∙ spread_last (join y.trees hs) x.tree ∙ x.no_spread;
      })

  -- ARRAY PATTERNS
  pub array_empty_source : {i p : ℕ} {ts : Forest} → Tok s i LBrack → Derives s Elision (i + 1) p ts → Tok s p RBrack → PatternDone s i (p + 1) (one (node Row.TargetArray i i (p + 1) ts))
  array_empty_source {i} {p} {ts} o d c =
      array_pattern ts ts o (subst (λ (k : ℕ). Reads s (J.primary i) (p + 1) (one (node k i i (p + 1) ts))) (holes_array d) (array_empty_reads o d c)) (holes_turn d (elements []) (holey []))

  pub array_rest_source : {i p : ℕ} {ts : Forest} → Tok s i LBrack → Past s (RestDone s) (i + 1) p ts → Tok s p RBrack → PatternDone s i (p + 1) (one (node Row.TargetArray i i (p + 1) ts))
  array_rest_source {i} {p} o (past {hs = hs} {ts = ts} h x) c =
      subst (λ (v : Forest). PatternDone s i (p + 1) (one (node Row.TargetArray i i (p + 1) (join hs v)))) (sym x.is_one)
      (array_pattern (join hs (one x.tree)) (join hs (one x.into)) o (array_list_reads o (each_one (past h x.item)) c) (past_last hs x.tree x.into h x.turns))

  pub array_list_source : {i p : ℕ} {ts : Forest} → Tok s i LBrack → Each s (Past s (ElementDone s)) (i + 1) p ts → Tok s p RBrack → PatternDone s i (p + 1) (one (node Row.TargetArray i i (p + 1) ts))
  array_list_source {i} {p} {ts} o l c = let y = elements_source l in array_pattern y.trees ts o (array_list_reads o y.items c) y.at_the_end

  pub array_comma_source : {i p q : ℕ} {ts us : Forest} → Tok s i LBrack → Each s (Past s (ElementDone s)) (i + 1) p ts → Tok s p Comma → Derives s Elision (p + 1) q us → Tok s q RBrack
      → PatternDone s i (q + 1) (one (node Row.TargetArray i i (q + 1) (join ts us)))
  unfolding array_row kind_of count
  array_comma_source {i} {p} {q} {ts} {us} o l t d c =
      array_pattern (join y.trees us) (join ts us) o (subst (λ (k : ℕ). Reads s (J.primary i) (q + 1) (one (node k i i (q + 1) (join y.trees us)))) (row d) (array_comma_reads o y.items t d c)) (turn_all d)
    where
      y : ListSource s (i + 1) p ts
      y = elements_source l

      row : {a b : ℕ} {hs : Forest} → Derives s Elision a b hs → array_row (join y.trees hs) ≡ Row.Array
      row D.no_elision = rw (join_nil y.trees, y.no_spread)
      row (D.elision {p = r} {ts = hs} h u) = rw (sym (join_assoc y.trees hs (one (leaf Row.Hole r))), spread_last (join y.trees hs) (leaf Row.Hole r))

      turn_all : {a b : ℕ} {hs : Forest} → Derives s Elision a b hs → convert_kids (join y.trees hs) (elements []) ≡ turned (join ts hs) []
      turn_all D.no_elision = rw (join_nil y.trees, join_nil ts) y.at_the_end
      turn_all (D.elision {p = r} {ts = hs} h u) =
          join_turns y.trees (join hs (one (leaf Row.Hole r))) ts (join hs (one (leaf Row.Hole r))) (elements []) (only element) (before_more hs (leaf Row.Hole r)) y.in_the_middle (holes_turn (D.elision h u) (elements []) (holey []))

  pub array_list_rest_source : {i p q : ℕ} {ts us : Forest} → Tok s i LBrack → Each s (Past s (ElementDone s)) (i + 1) p ts → Tok s p Comma → Past s (RestDone s) (p + 1) q us → Tok s q RBrack
      → PatternDone s i (q + 1) (one (node Row.TargetArray i i (q + 1) (join ts us)))
  array_list_rest_source {i} {p} {q} {ts = vs} o l t (past {hs = hs} {ts = ts} h x) c =
      let y = elements_source l in
      let more = join hs (one x.tree) in
      subst (λ (v : Forest). PatternDone s i (q + 1) (one (node Row.TargetArray i i (q + 1) (join vs (join hs v))))) (sym x.is_one)
      (array_pattern (join y.trees more) (join vs (join hs (one x.into))) o (array_list_reads o (each_more y.items t (past h x.item)) c)
      (join_turns y.trees more vs (join hs (one x.into)) (elements []) (only element) (before_more hs x.tree) y.in_the_middle (past_last hs x.tree x.into h x.turns)))

-- PROPERTIES
-- an AssignmentProperty: a property that is read and converts to it
pub record PropertyDone (s : Sheet) (i j : ℕ) (ts : Forest) : Type 0 where
  pub tree : Tree
  pub into : Tree
  pub is_one : ts ≡ one into
  pub part : PartDone s i j (one tree)
  pub in_the_middle : convert_as tree property ≡ turned into []
  pub at_the_end : convert_as tree (last_property []) ≡ turned into []
  pub no_spread : kind_of tree is Row.Spread ≡ false

-- an AssignmentRestProperty: a spread that is read and converts to it
pub record RestPropertyDone (s : Sheet) (i j : ℕ) (ts : Forest) : Type 0 where
  pub tree : Tree
  pub into : Tree
  pub is_one : ts ≡ one into
  pub part : PartDone s i j (one tree)
  pub at_the_end : convert_as tree (last_property []) ≡ turned into []

module _ {s : Sheet} where
  pub shorthand_source : {i : ℕ} → Of is_name s i → PropertyDone s i (i + 1) (one (node Row.TargetShorthand i i (i + 1) (one (leaf Row.TargetName i))))
  unfolding convert_as convert_kids change as_property as_last_property as_name seen roles over both count kind_of
  shorthand_source {i} n =
      record {
        tree = node Row.Shorthand i i (i + 1) (one (leaf Row.Identifier i));
        into = node Row.TargetShorthand i i (i + 1) (one (leaf Row.TargetName i));
        is_one = refl;
        part = shorthand_part n;
        in_the_middle = refl;
        at_the_end = refl;
        no_spread = refl;
      }

  pub shorthand_default_source : {i j : ℕ} {ts : Forest} → Of is_name s i → Tok s (i + 1) Eq → ts ≡ one (first_tree ts) → AssignmentDone s (i + 2) j ts
      → PropertyDone s i j (one (node Row.TargetShorthandInit (i + 1) i j (cons (leaf Row.TargetName i) ts)))
  unfolding convert_as convert_kids change as_property as_last_property as_name seen roles over both count kind_of
  shorthand_default_source {i} {j} {ts} n t q x =
      record {
        tree = node Row.ShorthandInit (i + 1) i j (cons (leaf Row.Identifier i) (one (first_tree ts)));
        into = node Row.TargetShorthandInit (i + 1) i j (cons (leaf Row.TargetName i) (one (first_tree ts)));
        is_one = ap (λ (v : Forest). one (node Row.TargetShorthandInit (i + 1) i j (cons (leaf Row.TargetName i) v))) q;
        part = subst (λ (v : Forest). PartDone s i j (one (node Row.ShorthandInit (i + 1) i j (cons (leaf Row.Identifier i) v)))) q (cover_part n t x);
        in_the_middle = rw (same_stays (first_tree ts));
        at_the_end = rw (same_stays (first_tree ts));
        no_spread = refl;
      }

  pub pair_source : {i p j : ℕ} {ks us : Forest} → KeyDone s i p ks → Tok s p Colon → ElementDone s (p + 1) j us → PropertyDone s i j (one (node Row.TargetProperty i i j (join ks us)))
  unfolding convert_as convert_kids change as_property as_last_property seen roles over both count kind_of join
  pair_source {i} {p} {j} {ks} {us} k t x =
      record {
        tree = node Row.Property i i j (cons (first_tree ks) (one x.tree));
        into = node Row.TargetProperty i i j (cons (first_tree ks) (one x.into));
        is_one = ap (λ (v : Forest). one (node Row.TargetProperty i i j v)) (ap (λ (v : Forest). join v us) k.lone ∙ ap (cons (first_tree ks)) x.is_one);
        part = subst (λ (v : Forest). PartDone s i j (one (node Row.Property i i j v))) (ap (λ (v : Forest). join v (one x.tree)) k.lone) (pair_part k t x.whole);
        in_the_middle = rw (same_stays (first_tree ks), x.turns in_value);
        at_the_end = rw (same_stays (first_tree ks), x.turns in_value);
        no_spread = refl;
      }

  pub rest_property_source : {i j : ℕ} {ts : Forest} → Tok s i Dot3 → Second s (i + 1) j → (Closed s j → Opening s (i + 1)) → SimpleDone s (i + 1) j ts → RestPropertyDone s i j (one (node Row.TargetRest i i j ts))
  unfolding convert_as convert_kids change as_last_property seen roles over both count
  rest_property_source {i} {j} {ts} t n op x =
      record {
        tree = node Row.Spread i i j (one x.tree);
        into = node Row.TargetRest i i j (one x.into);
        is_one = ap (λ (v : Forest). one (node Row.TargetRest i i j v)) x.is_one;
        part = spread_part t (left_assignment n op x.left);
        at_the_end = rw (x.refers, x.turns as_target);
      }

-- a list of properties, read as a PropertyDefinitionList
pub record PropertiesSource (s : Sheet) (i p : ℕ) (us : Forest) : Type 0 where
  pub trees : Forest
  pub parts : Each s (PartDone s) i p trees
  pub in_the_middle : convert_kids trees (only property) ≡ turned us []
  pub at_the_end : convert_kids trees (properties []) ≡ turned us []
  pub no_spread : ends_in_spread trees ≡ false

pub before_last_property : (t : Tree) (n : ℕ) → properties [] (n + count (one t)) ≡ property
before_last_property t n = ap (λ (m : ℕ). properties [] (n + m)) (count_one t) ∙ followed_property [] n

module _ {s : Sheet} where
  pub properties_source : {i p : ℕ} {us : Forest} → Each s (PropertyDone s) i p us → PropertiesSource s i p us
  unfolding join
  properties_source {i} {p} (each_one x) =
      subst (PropertiesSource s i p) (sym x.is_one)
      (record {
        trees = one x.tree;
        parts = each_one x.part;
        in_the_middle = one_turns (only property) x.tree x.into x.in_the_middle;
        at_the_end = one_turns (properties []) x.tree x.into x.at_the_end;
        no_spread = spread_last nil x.tree ∙ x.no_spread;
      })
  properties_source {i} {p} (each_more {ts = vs} l t x) =
      let y = properties_source l in
      subst (λ (v : Forest). PropertiesSource s i p (join vs v)) (sym x.is_one)
      (record {
        trees = join y.trees (one x.tree);
        parts = each_more y.parts t x.part;
        in_the_middle = join_turns y.trees (one x.tree) vs (one x.into) (only property) (only property) (λ n. refl) y.in_the_middle (one_turns (only property) x.tree x.into x.in_the_middle);
        at_the_end = join_turns y.trees (one x.tree) vs (one x.into) (properties []) (only property) (before_last_property x.tree) y.in_the_middle (one_turns (properties []) x.tree x.into x.at_the_end);
        no_spread = spread_last y.trees x.tree ∙ x.no_spread;
      })

  -- OBJECT PATTERNS
  pub object_empty_source : {i : ℕ} → Tok s i LCurly → Tok s (i + 1) RCurly → PatternDone s i (i + 2) (one (node Row.TargetObject i i (i + 2) nil))
  unfolding convert_kids
  object_empty_source o c = object_pattern nil nil o (object_empty_reads o c) refl

  pub object_rest_source : {i p : ℕ} {ts : Forest} → Tok s i LCurly → RestPropertyDone s (i + 1) p ts → Tok s p RCurly → PatternDone s i (p + 1) (one (node Row.TargetObject i i (p + 1) ts))
  object_rest_source {i} {p} o x c =
      subst (λ (v : Forest). PatternDone s i (p + 1) (one (node Row.TargetObject i i (p + 1) v))) (sym x.is_one)
      (object_pattern (one x.tree) (one x.into) o (object_list_reads o (each_one x.part) c) (one_turns (properties []) x.tree x.into x.at_the_end))

  pub object_list_source : {i p : ℕ} {ts : Forest} → Tok s i LCurly → Each s (PropertyDone s) (i + 1) p ts → Tok s p RCurly → PatternDone s i (p + 1) (one (node Row.TargetObject i i (p + 1) ts))
  object_list_source {ts = ts} o l c = let y = properties_source l in object_pattern y.trees ts o (object_list_reads o y.parts c) y.at_the_end

  pub object_comma_source : {i p : ℕ} {ts : Forest} → Tok s i LCurly → Each s (PropertyDone s) (i + 1) p ts → Tok s p Comma → Tok s (p + 1) RCurly → PatternDone s i (p + 2) (one (node Row.TargetObject i i (p + 2) ts))
  unfolding object_row
  object_comma_source {i} {p} {ts} o l t c =
      let y = properties_source l in
      let k : object_row y.trees ≡ Row.Object = ap (λ (b : Bool). if b then Row.ObjectRestComma else Row.Object) y.no_spread in
      object_pattern y.trees ts o (subst (λ (n : ℕ). Reads s (J.primary i) (p + 2) (one (node n i i (p + 2) y.trees))) k (object_comma_reads o y.parts t c)) y.at_the_end

  pub object_list_rest_source : {i p q : ℕ} {ts us : Forest} → Tok s i LCurly → Each s (PropertyDone s) (i + 1) p ts → Tok s p Comma → RestPropertyDone s (p + 1) q us → Tok s q RCurly
      → PatternDone s i (q + 1) (one (node Row.TargetObject i i (q + 1) (join ts us)))
  object_list_rest_source {i} {p} {q} {ts} o l t x c =
      let y = properties_source l in
      subst (λ (v : Forest). PatternDone s i (q + 1) (one (node Row.TargetObject i i (q + 1) (join ts v)))) (sym x.is_one)
      (object_pattern (join y.trees (one x.tree)) (join ts (one x.into)) o (object_list_reads o (each_more y.parts t x.part) c)
      (join_turns y.trees (one x.tree) ts (one x.into) (properties []) (only property) (before_last_property x.tree) y.in_the_middle (one_turns (properties []) x.tree x.into x.at_the_end)))
