-- COMPLETE: what ECMA-262 derives the plain reader reads, with the same tree and no record, where nothing follows that would belong to it.
-- What is shown of each nonterminal is `Done`; the statements stand at the end.
-- Assumes nothing.
use Rattle.std.specs.Prelude.{if◌then◌else◌}
use Prim.Native.Nat.{ℕ, ◌+◌, ◌≤◌}
use mathlib.Core.Path.{◌≡◌, refl, sym, ap, ◌∙◌, subst}
use mathlib.Core.Bool.{Bool, true, false}
use mathlib.Core.List.{List, [], ◌++◌}
use native.Mathlib.Omega.{arith}
use lib.Dec.{leb}
use lib.ListN.{length, get_or-eq_default}
use borrow.Author.Tests.{eqb-true, ne_eqb, eq-eqb, lt-leb, leb-true}
use Rattle.tokens.specs.Bool.{◌is◌, ◌or◌}
use Rattle.tokens.specs.Kind.{This, RParen, LBrack, RBrack, LCurly, Comma, Dot3, Eq}
use Rattle.tokens.specs.Token.{is_name, is_literal}
use Rattle.rows.specs.Tree.{Tree, Forest, node, one, join, kind_of, kids_of}
use Rattle.rows.specs.Row as Row
use Rattle.rows.specs.Record.{Record}
use Rattle.grammar.specs.Sheet.{Sheet, token, first_tree, leaf}
use Rattle.grammar.specs.Job as J
use Rattle.grammar.specs.Update.{is_unary_operator, is_update_operator}
use Rattle.grammar.specs.Binary.{is_or_and}
use Rattle.grammar.specs.Step.{plenty}
use Rattle.laws.proofs.Settles.{in_plenty}
use Rattle.grammar.specs.Reading.{plain, unconverteds, whole, reading}
use Rattle.laws.proofs.Good.{inside, whole_from, and_left, and_right}
use Rattle.ecma262.specs.Derives as D
use Rattle.exact.specs.Terminals.{tier_row, is_update, Line}
use Rattle.exact.proofs.Terminals.{Of, Operator, line, operator, as_read, compounds, keys, literal_tokens, names, unary, updates, words}
use Rattle.ecma262.specs.Derives.{Tok, one_of, OneOf, SameLine, assignment_operators, Links, Nonterminal, ListOf, Elided, Elision, PrimaryExpression, LinkedExpression, UpdateExpression, UnaryExpression, TierExpression, ConditionalExpression, Expression, Binding, BindingElement, array_row, object_row, Derives, Derived}
use Rattle.exact.proofs.Roots.{not_both, root_primary, root_update, root_unary, root_short_circuit, root_assignment, Each, each_one, each_more, Past, past, Shaped, in_brackets, in_braces, binding_shape}
use Rattle.exact.proofs.Convert.{as_simple_target}
use Rattle.exact.proofs.Sound.{says_nothing}
use Rattle.exact.proofs.Follow.{Opening, Ends, kind_ends, test_ends, short_circuit_opening, simple_opening, target_opening, is_closer, Closed, test_not, closed_ends, Operand, as_start, operand_chain, operand_simple, operand_target, start_of_assignment, second_short_circuit, second_target, second_simple, closed_by}
use Rattle.exact.proofs.Parts.{Reads, plainly, binding_rest_done, ItemDone, PartDone, array_empty_reads, array_list_reads, array_comma_reads, object_empty_reads, object_list_reads, object_comma_reads, ArgumentsDone, no_arguments_done, arguments_done, arguments_comma_done, ElementBound, RestBound, PropertyBound, RestPropertyBound, bound_array_empty, bound_array_rest, bound_array_list, bound_array_comma, bound_array_list_rest, bound_object_empty, bound_object_rest, bound_object_list, bound_object_comma, bound_object_list_rest, ParametersDone, no_parameters_done, rest_parameter_done, parameters_done, parameters_comma_done, parameters_rest_done, operand_small, not_prefix, not_update, update_unlinked, ChainDone, LeftDone, UnaryDone, primary_chain, member_chain, index_chain, call_chain, chain_left, left_unary, prefix_unary, TierDone, CoalesceDone, ShortDone, unary_tier, tier_down, operation_tier, power_tier, tier_head, coalesce_done, tier_short, coalesce_short, ValueDone, AssignmentDone, BodyDone, ExpressionDone, CommasDone, ParametersRead, FormalDone, short_value, conditional_value, past_value, arrow_done, name_read, parameters_read, async_parameters_read, async_name_read, first_commas, next_commas, sequence_done, no_comma_done, KeyDone, literal_key, computed_key, shorthand_part, cover_part, pair_part, spread_part, bound_shorthand, bound_shorthand_default, bound_pair, closed_not}
use Rattle.exact.proofs.Sources.{holes_array, SimpleDone, name_source, index_source, member_source, paren_source, TargetDone, PatternDone, simple_target, pattern_target, assign_source, compound_source, ElementDone, RestDone, assignment_item, spread_item, target_element_done, default_element_done, rest_done, array_empty_source, array_rest_source, array_list_source, array_comma_source, array_list_rest_source, PropertyDone, RestPropertyDone, shorthand_source, shorthand_default_source, pair_source, rest_property_source, object_empty_source, object_rest_source, object_list_source, object_comma_source, object_list_rest_source}

-- KINDS OF ROWS
either_low : (b : Bool) (k l : ℕ) → k ≤ 8 → l ≤ 8 → (if b then k else l) ≤ 18
either_low true k l a c = omega arith
either_low false k l a c = omega arith

-- the row of an operand, and of an UpdateExpression: no Unary and no Logical
record Low (ts : Forest) : Type 0 where
  no_unary : kind_of (first_tree ts) is Row.Unary ≡ false
  no_logical : kind_of (first_tree ts) is Row.Logical ≡ false

low : (kind mark first end : ℕ) (kids : Forest) → kind ≤ 18 → Low (one (node kind mark first end kids))
unfolding kind_of first_tree
low kind mark first end kids h = record { no_unary = ne_eqb kind Row.Unary (λ e. omega arith); no_logical = ne_eqb kind Row.Logical (λ e. omega arith) }

module _ {s : Sheet} where
  primary_low : {i j : ℕ} {ts : Forest} → Derives s PrimaryExpression i j ts → Low ts
  unfolding array_row object_row
  primary_low (D.this t) = low _ _ _ _ _ (omega arith)
  primary_low (D.identifier t) = low _ _ _ _ _ (omega arith)
  primary_low (D.literal t) = low _ _ _ _ _ (omega arith)
  primary_low (D.array (D.array_empty o d c)) = low _ _ _ _ _ (omega arith)
  primary_low (D.array (D.array_list o d c)) = low _ _ _ _ _ (omega arith)
  primary_low (D.array (D.array_comma {ts = ts} {us = us} o d t e c)) = low _ _ _ _ _ (either_low (D.ends_in_spread (join ts us)) Row.ArrayRestComma Row.Array (omega arith) (omega arith))
  primary_low (D.object (D.object_empty o c)) = low _ _ _ _ _ (omega arith)
  primary_low (D.object (D.object_list o d c)) = low _ _ _ _ _ (omega arith)
  primary_low (D.object (D.object_comma {ts = ts} o d t c)) = low _ _ _ _ _ (either_low (D.ends_in_spread ts) Row.ObjectRestComma Row.Object (omega arith) (omega arith))
  primary_low (D.parenthesized o d c) = low _ _ _ _ _ (omega arith)

  chain_low : {c : Links} {i j : ℕ} {ts : Forest} → Derives s (LinkedExpression c) i j ts → Low ts
  chain_low (D.primary d) = primary_low d
  chain_low (D.index d o e c) = low _ _ _ _ _ (omega arith)
  chain_low (D.member d o e) = low _ _ _ _ _ (omega arith)
  chain_low (D.call d e) = low _ _ _ _ _ (omega arith)

  update_low : {i j : ℕ} {ts : Forest} → Derives s UpdateExpression i j ts → Low ts
  unfolding kind_of first_tree
  update_low (D.left_hand_side (D.linked d)) = chain_low d
  update_low (D.postfix d t l) = record { no_unary = refl; no_logical = refl }
  update_low (D.prefix t d) = record { no_unary = refl; no_logical = refl }

  update_kind : {i j : ℕ} {ts : Forest} → Derives s UpdateExpression i j ts → kind_of (first_tree ts) is Row.Unary ≡ false
  update_kind d = (update_low d).no_unary

  unary_logical : {i j : ℕ} {ts : Forest} → Derives s UnaryExpression i j ts → kind_of (first_tree ts) is Row.Logical ≡ false
  unfolding kind_of first_tree
  unary_logical (D.update d) = (update_low d).no_logical
  unary_logical (D.unary t d) = refl

  -- from BitwiseORExpression on no row is Logical
  tier_logical : {tier i j : ℕ} {ts : Forest} → Derives s (TierExpression tier) i j ts → 4 ≤ tier → kind_of (first_tree ts) is Row.Logical ≡ false
  unfolding kind_of first_tree tier_row
  tier_logical (D.no_power d) h = unary_logical d
  tier_logical (D.power d t e) h = refl
  tier_logical (D.no_operation l d) h = tier_logical d (omega (arith, (line l).next))
  tier_logical (D.operation {x = x} l d t e) h = rw ((line l).row_is, lt-leb x 3 (omega arith))

  tier_bare : {tier i j : ℕ} {ts : Forest} → Derives s (TierExpression tier) i j ts → 4 ≤ tier → is_or_and s (first_tree ts) ≡ false
  unfolding is_or_and
  tier_bare d h = rw (tier_logical d h)

  -- what is no arrow function begins with no head
  conditional_opening : {i j : ℕ} {ts : Forest} → Derives s ConditionalExpression i j ts → Closed s j → Opening s i
  conditional_opening (D.short_circuit d) c = short_circuit_opening d (closed_ends c)
  conditional_opening (D.conditional d t e u f) c = short_circuit_opening d (kind_ends _ refl refl t)

compound_ends : {s : Sheet} {at : ℕ} → OneOf assignment_operators s at → Ends s at
compound_ends t = test_ends (one_of assignment_operators) refl refl t.holds

-- ++ and -- are no prefix operators of 13.5
update_no_prefix : (k : ℕ) → is_update k ≡ true → is_unary_operator k ≡ false
unfolding is_update is_unary_operator
update_no_prefix k e = go (k is 36) refl e
  where
    go : (b : Bool) → k is 36 ≡ b → b or k is 37 ≡ true → is_unary_operator k ≡ false
    go true q e = rw (eqb-true k 36 q)
    go false q e = rw (eqb-true k 37 e)

-- THE OTHER PRODUCTIONS
module _ {s : Sheet} where
  -- 13.7 to 13.13, by the line of the operators
  looser_tier : {x y row i j : ℕ} {operators : List ℕ} {ts : Forest} → Line x operators y row → TierDone s y i j ts → TierDone s x i j ts
  looser_tier {i = i} {j} {ts = ts} l d = tier_down (subst (λ (n : ℕ). TierDone s n i j ts) l.next d)

  line_tier : {x y row i p j : ℕ} {operators : List ℕ} {ts us : Forest} → Line x operators y row → TierDone s x i p ts → Operator s p x → TierDone s y (p + 1) j us
      → TierDone s x i j (one (node row p i j (join ts us)))
  line_tier {p = p} {j} {us = us} l d t e = rw l.row_is (operation_tier l.low d t (subst (λ (n : ℕ). TierDone s n (p + 1) j us) l.next e))

  literal_reads : {i : ℕ} → Of is_literal s i → Reads s (J.primary i) (i + 1) (one (leaf Row.Literal i))
  unfolding is_literal is_name
  literal_reads {i} n = plainly.primary_literal (nameless (is_name (token s i)) refl) (test_not (token s i) is_literal This refl n.holds) n.holds
    where
      nameless : (b : Bool) → is_name (token s i) ≡ b → b ≡ false
      nameless false e = refl
      nameless true e =
          let a : token s i ≤ 5 = leb-true (token s i) 5 (and_right (leb 1 (token s i)) (leb (token s i) 5) e) in
          let b : 8 ≤ token s i = leb-true 8 (token s i) (and_left (leb 8 (token s i)) (leb (token s i) 13) n.holds) in
          absurd (omega arith)

  empty_array_reads : {i p : ℕ} {ts : Forest} → Tok s i LBrack → Derives s Elision (i + 1) p ts → Tok s p RBrack → Reads s (J.primary i) (p + 1) (one (node Row.Array i i (p + 1) ts))
  empty_array_reads {i} {p} {ts} o d c = subst (λ (k : ℕ). Reads s (J.primary i) (p + 1) (one (node k i i (p + 1) ts))) (holes_array d) (array_empty_reads o d c)

  postfix_done : {i p : ℕ} {ts : Forest} → Operand s i → SimpleDone s i p ts → Of is_update s p → SameLine s p → UnaryDone s i (p + 1) (one (node Row.PostfixUpdate p i (p + 1) ts))
  unfolding is_update is_update_operator
  postfix_done {i} {p} o x t l =
      let k = operand_small (token s i) o.begins in
      record {
        reads = λ _. rw x.is_one
            (plainly.unary_none (not_prefix (token s i) k) (not_update (token s i) k) (plainly.postfix_done (x.left.reads (update_unlinked t)) (rw (t.holds, l.unbroken)) (x.turns as_simple_target)));
      }

  prefix_done : {i j : ℕ} {ts : Forest} → Of is_update s i → SimpleDone s (i + 1) j ts → UnaryDone s i j (one (node Row.PrefixUpdate i i j ts))
  unfolding is_update is_update_operator is_unary_operator
  prefix_done {i} t x =
      record {
        reads = λ e. rw x.is_one
            (plainly.update_done (inside s i is_update refl t.holds) (update_no_prefix (token s i) t.holds) t.holds ((left_unary x.left).reads e) (x.turns as_simple_target));
      }

  -- a token of one kind is of no other
  kind_not : {i : ℕ} (k l : ℕ) → k is l ≡ false → Tok s i l → token s i is k ≡ false
  kind_not {i} k l f t = ne_eqb (token s i) k (λ e. not_both (eq-eqb k l (sym e ∙ t.kind_is)) f)

  -- bindings
  binding_start : {i j : ℕ} {ts : Forest} → Derives s Binding i j ts → (k : ℕ) → is_name k ≡ false → k is LBrack ≡ false → k is LCurly ≡ false → token s i is k ≡ false
  binding_start {i} (D.binding_name n) k a b c = test_not (token s i) is_name k a (as_read names n).holds
  binding_start {i} (D.binding_pattern d) k a b c = by (binding_shape d)
    where
      by : {j : ℕ} {ts : Forest} → Shaped s Row.BindingArray Row.BindingObject i j ts → token s i is k ≡ false
      by (in_brackets o) = kind_not k LBrack b o
      by (in_braces o) = kind_not k LCurly c o

  binding_plain : {i j : ℕ} {ts : Forest} → Derives s Binding i j ts → kind_of (first_tree ts) is Row.BindingDefault ≡ false
  unfolding kind_of first_tree
  binding_plain (D.binding_name n) = refl
  binding_plain (D.binding_pattern d) = by (binding_shape d)
    where
      by : {i j : ℕ} {ts : Forest} → Shaped s Row.BindingArray Row.BindingObject i j ts → kind_of (first_tree ts) is Row.BindingDefault ≡ false
      by (in_brackets _) = refl
      by (in_braces _) = refl

  bound_start : {i j k : ℕ} {ts us : Forest} → Derives s Binding i j ts → (Closed s k → Reads s (J.binding_element i) k us) → ElementBound s i k us
  unfolding is_name
  bound_start d r =
      record { reads = r; no_bracket = binding_start d RBrack refl refl refl; no_paren = binding_start d RParen refl refl refl; no_comma = binding_start d Comma refl refl refl; no_dots = binding_start d Dot3 refl refl refl }

  plain_bound : {i j : ℕ} {ts : Forest} → Derives s Binding i j ts → Reads s (J.binding i) j ts → ElementBound s i j ts
  plain_bound d x = bound_start d (λ c. plainly.element_bare x (closed_not Eq refl c))

  default_bound : {i p j : ℕ} {ts us : Forest} → Derives s Binding i p ts → Reads s (J.binding i) p ts → Tok s p Eq → AssignmentDone s (p + 1) j us
      → ElementBound s i j (one (node Row.BindingDefault p i j (join ts us)))
  default_bound d x t y = bound_start d (λ c. plainly.element_init x t.kind_is (y.reads c))

  rest_bound : {i j : ℕ} {ts : Forest} → Tok s i Dot3 → Derives s Binding (i + 1) j ts → Reads s (J.binding (i + 1)) j ts → RestBound s i j (one (node Row.BindingRest i i j ts))
  rest_bound t d x = record { dots = t; reads = λ c. binding_rest_done t (plainly.element_bare x (closed_not Eq refl c)) (binding_plain d) }

  rest_name_bound : {i : ℕ} → Tok s i Dot3 → Of is_name s (i + 1) → RestPropertyBound s i (i + 2) (one (node Row.BindingRest i i (i + 2) (one (leaf Row.BindingName (i + 1)))))
  unfolding kind_of kids_of first_tree
  rest_name_bound {i} t n =
      let e : i + 1 + 1 ≡ i + 2 = omega arith in
      record {
        dots = t;
        reads = λ c. binding_rest_done t (plainly.element_bare (subst (λ (m : ℕ). Reads s (J.binding (i + 1)) m (one (leaf Row.BindingName (i + 1)))) e (plainly.binding_name n.holds)) (closed_not Eq refl c)) refl;
        is_name_only = refl;
      }

-- WHAT IS SHOWN
abbrev pub Done : Sheet → Nonterminal → ℕ → ℕ → Forest → Type 0
Done s (ListOf x) i j ts = Each s (Done s x) i j ts
Done s (Elided x) i j ts = Past s (Done s x) i j ts
Done s D.PrimaryExpression i j ts = Reads s (J.primary i) j ts
Done s D.ArrayLiteral i j ts = Reads s (J.primary i) j ts
Done s D.Elision i j ts = Unit {0}
Done s D.SpreadElement i j ts = ItemDone s i j ts × PartDone s i j ts
Done s D.Element i j ts = ItemDone s i j ts
Done s D.ObjectLiteral i j ts = Reads s (J.primary i) j ts
Done s D.PropertyDefinition i j ts = PartDone s i j ts
Done s D.PropertyName i j ts = KeyDone s i j ts
Done s (D.LinkedExpression c) i j ts = ChainDone s i j ts
Done s D.Arguments i j ts = ArgumentsDone s i j ts
Done s D.LeftHandSideExpression i j ts = LeftDone s i j ts
Done s D.UpdateExpression i j ts = UnaryDone s i j ts
Done s D.UnaryExpression i j ts = UnaryDone s i j ts
Done s (D.TierExpression l) i j ts = TierDone s l i j ts
Done s D.CoalesceExpressionHead i j ts = CoalesceDone s i j ts
Done s D.CoalesceExpression i j ts = CoalesceDone s i j ts
Done s D.ShortCircuitExpression i j ts = ShortDone s i j ts
Done s D.ConditionalExpression i j ts = ValueDone s i j ts
Done s D.AssignmentExpression i j ts = AssignmentDone s i j ts
Done s D.SimpleTarget i j ts = SimpleDone s i j ts
Done s D.AssignmentPattern i j ts = PatternDone s i j ts
Done s D.DestructuringAssignmentTarget i j ts = TargetDone s i j ts
Done s D.AssignmentElement i j ts = ElementDone s i j ts
Done s D.AssignmentRestElement i j ts = RestDone s i j ts
Done s D.AssignmentProperty i j ts = PropertyDone s i j ts
Done s D.AssignmentRestProperty i j ts = RestPropertyDone s i j ts
Done s (D.Commas comma) i j ts = CommasDone s comma i j ts
Done s D.Expression i j ts = ExpressionDone s i j ts
Done s D.Binding i j ts = Reads s (J.binding i) j ts
Done s D.BindingPattern i j ts = Reads s (J.binding i) j ts
Done s D.BindingElement i j ts = ElementBound s i j ts
Done s D.BindingRestElement i j ts = RestBound s i j ts
Done s D.BindingProperty i j ts = PropertyBound s i j ts
Done s D.BindingRestProperty i j ts = RestPropertyBound s i j ts
Done s D.FormalParameters i j ts = ParametersDone s i j ts
Done s D.ArrowFormalParameters i j ts = FormalDone s i j ts
Done s D.ArrowParameters i j ts = ParametersRead s Row.Arrow i j ts
Done s D.AsyncArrowHead i j ts = ParametersRead s Row.AsyncArrow i j ts
Done s D.ConciseBody i j ts = BodyDone s i j ts

pub complete : {s : Sheet} {x : Nonterminal} {i j : ℕ} {ts : Forest} → Derives s x i j ts → Done s x i j ts
complete (D.first_of_list d) = each_one (complete d)
complete (D.next_of_list l t d) = each_more (complete l) t (complete d)
complete (D.elided h d) = past h (complete d)
complete (D.this t) = plainly.primary_this t.kind_is
complete (D.identifier n) = plainly.primary_name (as_read names n).holds
complete (D.literal n) = literal_reads (as_read literal_tokens n)
complete (D.array d) = complete d
complete (D.object d) = complete d
complete (D.parenthesized o d c) = plainly.primary_paren o.kind_is ((complete d).reads (closed_by _ refl c) (ap (λ (k : ℕ). k is Comma) c.kind_is)) c.kind_is
complete (D.array_empty o d c) = empty_array_reads o d c
complete (D.array_list o d c) = array_list_reads o (complete d) c
complete (D.array_comma o d t e c) = array_comma_reads o (complete d) t e c
complete D.no_elision = tt
complete (D.elision _ _) = tt
complete (D.spread t d) = (spread_item t (complete d), spread_part t (complete d))
complete (D.plain_element {ts = ts} d) = assignment_item (first_tree ts) (root_assignment d).lone (start_of_assignment d) (root_assignment d).no_spread (complete d)
complete (D.spread_element d) = (complete d).0
complete (D.object_empty o c) = object_empty_reads o c
complete (D.object_list o d c) = object_list_reads o (complete d) c
complete (D.object_comma o d t c) = object_comma_reads o (complete d) t c
complete (D.shorthand n) = shorthand_part (as_read names n)
complete (D.cover_initialized n t d) = cover_part (as_read names n) t (complete d)
complete (D.property k t d) = pair_part (complete k) t (complete d)
complete (D.spread_property d) = (complete d).1
complete (D.literal_name n) = literal_key (as_read keys n)
complete (D.computed_name o d c) = computed_key o (complete d) c
complete (D.primary d) = primary_chain (root_primary d).lone (operand_chain (D.primary d)) (complete d)
complete (D.index d o e c) = index_chain (complete d) o ((complete e).reads (closed_by _ refl c) (ap (λ (k : ℕ). k is Comma) c.kind_is)) c
complete (D.member d o e) = member_chain (complete d) o (as_read words e)
complete (D.call d e) = call_chain (complete d) (complete e)
complete (D.linked d) = chain_left (complete d)
complete (D.no_arguments o c) = no_arguments_done o c
complete (D.arguments o d c) = arguments_done o (complete d) c
complete (D.arguments_comma o d t c) = arguments_comma_done o (complete d) t c
complete (D.left_hand_side d) = left_unary (complete d)
complete (D.postfix d t l) = postfix_done (operand_simple d) (complete d) (as_read updates t) l
complete (D.prefix t d) = prefix_done (as_read updates t) (complete d)
complete (D.update d) = complete d
complete (D.unary t d) = prefix_unary (as_read unary t) (complete d)
complete (D.no_power d) = unary_tier (root_unary d).lone (complete d)
complete (D.power d t e) = power_tier (root_update d).lone (complete d) (update_kind d) t (complete e)
complete (D.no_operation l d) = looser_tier (line l) (complete d)
complete (D.operation l d t e) = line_tier (line l) (complete d) (operator l t) (complete e)
complete (D.head_coalesce d) = complete d
complete (D.head_or d) = tier_head (complete d) (tier_bare d (omega arith))
complete (D.coalesce d t e) = coalesce_done (complete d) t (complete e) (tier_bare e (omega arith))
complete (D.short_circuit_or d) = tier_short (complete d)
complete (D.short_circuit_coalesce d) = coalesce_short (complete d)
complete (D.short_circuit d) = short_value (root_short_circuit d).lone (second_short_circuit d) (complete d)
complete (D.conditional d t e u f) = conditional_value (root_short_circuit d).lone (second_short_circuit d) (complete d) t (complete e) u (complete f)
complete (D.no_assignment d) = past_value (conditional_opening d) (complete d)
complete (D.arrow d t l e) = arrow_done (complete d) t l (complete e)
complete (D.async_arrow d t l e) = arrow_done (complete d) t l (complete e)
complete (D.assign d t e) = assign_source (second_target d) (target_opening d (kind_ends _ refl refl t)) (complete d) t (complete e)
complete (D.compound_assign d t e) = compound_source (second_simple d) (simple_opening d (compound_ends t)) (complete d) (as_read compounds t) (complete e)
complete (D.target_name n) = name_source (as_read names n)
complete (D.target_index d o e c) = index_source (complete d) o ((complete e).reads (closed_by _ refl c) (ap (λ (k : ℕ). k is Comma) c.kind_is)) c
complete (D.target_member d o e) = member_source (complete d) o (as_read words e)
complete (D.target_parenthesized o d c) = paren_source o (second_simple d) (λ e. simple_opening d (closed_ends e)) (complete d) c
complete (D.target_simple d) = simple_target (complete d)
complete (D.target_pattern d) = pattern_target (complete d)
complete (D.target_array_empty o d c) = array_empty_source o d c
complete (D.target_array_rest o d c) = array_rest_source o (complete d) c
complete (D.target_array_list o d c) = array_list_source o (complete d) c
complete (D.target_array_comma o d t e c) = array_comma_source o (complete d) t e c
complete (D.target_array_list_rest o d t e c) = array_list_rest_source o (complete d) t (complete e) c
complete (D.target_object_empty o c) = object_empty_source o c
complete (D.target_object_rest o d c) = object_rest_source o (complete d) c
complete (D.target_object_list o d c) = object_list_source o (complete d) c
complete (D.target_object_comma o d t c) = object_comma_source o (complete d) t c
complete (D.target_object_list_rest o d t e c) = object_list_rest_source o (complete d) t (complete e) c
complete (D.target_element d) = target_element_done (as_start (operand_target d)) (second_target d) (λ e. target_opening d (closed_ends e)) (complete d)
complete (D.target_default d t e) = default_element_done (as_start (operand_target d)) (assign_source (second_target d) (target_opening d (kind_ends _ refl refl t)) (complete d) t (complete e))
complete (D.target_rest t d) = rest_done t (second_target d) (λ e. target_opening d (closed_ends e)) (complete d)
complete (D.target_shorthand n) = shorthand_source (as_read names n)
complete (D.target_shorthand_default n t d) = shorthand_default_source (as_read names n) t (root_assignment d).lone (complete d)
complete (D.target_property k t d) = pair_source (complete k) t (complete d)
complete (D.target_rest_property t d) = rest_property_source t (second_simple d) (λ e. simple_opening d (closed_ends e)) (complete d)
complete (D.no_comma d) = no_comma_done (complete d)
complete (D.sequence d) = sequence_done (complete d)
complete (D.first_comma d t e) = first_commas (complete d) t (complete e)
complete (D.next_comma d t e) = next_commas (complete d) t (complete e)
complete (D.binding_name n) = plainly.binding_name (as_read names n).holds
complete (D.binding_pattern d) = complete d
complete (D.binding_object_empty o c) = bound_object_empty o c
complete (D.binding_object_rest o d c) = bound_object_rest o (complete d) c
complete (D.binding_object_list o d c) = bound_object_list o (complete d) c
complete (D.binding_object_comma o d t c) = bound_object_comma o (complete d) t c
complete (D.binding_object_list_rest o d t e c) = bound_object_list_rest o (complete d) t (complete e) c
complete (D.binding_array_empty o d c) = bound_array_empty o d c
complete (D.binding_array_rest o d c) = bound_array_rest o (complete d) c
complete (D.binding_array_list o d c) = bound_array_list o (complete d) c
complete (D.binding_array_comma o d t e c) = bound_array_comma o (complete d) t e c
complete (D.binding_array_list_rest o d t e c) = bound_array_list_rest o (complete d) t (complete e) c
complete (D.no_default d) = plain_bound d (complete d)
complete (D.binding_default d t e) = default_bound d (complete d) t (complete e)
complete (D.binding_rest t d) = rest_bound t d (complete d)
complete (D.binding_shorthand n) = bound_shorthand (as_read names n)
complete (D.binding_shorthand_default n t d) = bound_shorthand_default (as_read names n) t (complete d)
complete (D.binding_property k t d) = bound_pair (complete k) t (complete d)
complete (D.binding_rest_property t n) = rest_name_bound t (as_read names n)
complete D.no_parameters = no_parameters_done
complete (D.rest_parameter d) = rest_parameter_done (complete d)
complete (D.parameters d) = parameters_done (complete d)
complete (D.parameters_comma d t) = parameters_comma_done (complete d) t
complete (D.parameters_rest d t e) = parameters_rest_done (complete d) t (complete e)
complete (D.arrow_formal_parameters o d c) = record { opens = o; reads = (complete d).reads c }
complete (D.arrow_name n) = name_read (as_read names n)
complete (D.arrow_parameters d) = parameters_read (complete d)
complete (D.concise_body n d) = record { no_curly = n.other; reads = (complete d).reads }
complete (D.async_name t n l) = async_name_read t (as_read names n) l
complete (D.async_parameters t l d) = async_parameters_read t l (complete d)

-- THE STATEMENTS
-- past the last token there is nothing
past_the_end : (s : Sheet) → token s (length s.kinds) ≡ 0
past_the_end s = get_or-eq_default s.kinds 0 {n = length s.kinds} (omega arith)

pub at_the_end : (s : Sheet) → Closed s (length s.kinds)
at_the_end s = record { closes = ap is_closer (past_the_end s) }

pub not_comma : (s : Sheet) → token s (length s.kinds) is Comma ≡ false
not_comma s = ap (λ (k : ℕ). k is Comma) (past_the_end s)

module _ {s : Sheet} {t : Tree} where
  -- 13.16: what the standard has as an Expression over the whole list is what the plain reader reads, with no record
  pub complete_expression : Derived s Expression 0 (length s.kinds) t → reading plain s (J.expression 0) tt ≡ whole (one t) [] tt
  unfolding unconverteds
  complete_expression d =
      let r = (complete d.derivation).reads (at_the_end s) (not_comma s) in
      whole_from plain s (J.expression 0) tt (r.with (plenty s) (in_plenty s (J.expression 0))) ∙ ap (λ (l : List Record). whole (one t) (l ++ []) tt) (says_nothing t d.no_cover)

  -- 14.3.3: the same of a BindingElement and the pattern entry
  pub complete_binding : Derived s BindingElement 0 (length s.kinds) t → reading plain s (J.binding_element 0) tt ≡ whole (one t) [] tt
  unfolding unconverteds
  complete_binding d =
      let r = (complete d.derivation).reads (at_the_end s) in
      whole_from plain s (J.binding_element 0) tt (r.with (plenty s) (in_plenty s (J.binding_element 0))) ∙ ap (λ (l : List Record). whole (one t) (l ++ []) tt) (says_nothing t d.no_cover)
