-- The grammar's productions as rules: what a nonterminal comes to, from what its parts come to. One rule for each way through a production, for any policy.
-- `Gives` is what a reader says of a nonterminal that comes to something (`Word`): the box's reader and the plain one use the same rules.
-- Nothing but this file looks at the bound on the steps. Assumes nothing.
use Rattle.std.specs.Prelude.{if◌then◌else◌}
use Prim.Native.Nat.{ℕ, zero, suc, ◌+◌, ◌-◌, ◌*◌, ◌≤◌, ◌<◌}
use mathlib.Core.Path.{◌≡◌}
use mathlib.Core.Bool.{Bool, true, false, not}
use mathlib.Core.List.{List, [], ◌∷◌, ◌++◌, append-nil}
use native.Mathlib.Omega.{arith}
use lib.Dec.{ltb}
use lib.ListN.{length}
use Rattle.tokens.specs.Bool.{◌or◌, ◌and◌, ◌is◌}
use Rattle.tokens.specs.Kind.{Async, This, Str, Number, LParen, RParen, LBrack, RBrack, LCurly, RCurly, Comma, Colon, Question, Dot, Dot3, Arrow, Eq}
use Rattle.tokens.specs.Token.{is_name, is_word, is_literal}
use Rattle.tokens.specs.declared.cause.Cause.{Cause}
use Rattle.tokens.proofs.Stands.{stands}
use Rattle.operators.specs.Precedence.{expression_level}
use Rattle.rows.specs.Tree.{Tree, Forest, node, nil, cons, one, join, kind_of, mark_of, kids_of}
use Rattle.rows.specs.Record.{Record, break_before_arrow, rest_initializer}
use Rattle.rows.specs.Row as Row
use Rattle.conversion.specs.Conversion.{any, simple, turned, refused, convert_as}
use Rattle.grammar.specs.Sheet.{Sheet, token, break_before, Out, done, fail, first_tree, leaf, after_records, and_then, ◌>>=◌, yield, refuse, say}
use Rattle.grammar.specs.Job.{Job, expression, sequence, assignment, value, assign, conditional, binary, operators, unary, postfix, left_hand_side, links, arguments, primary, elements, properties, property, key, spread, binding, binding_element, binding_elements, binding_properties, binding_property, binding_rest, head, parameters, body}
use Rattle.grammar.specs.Comma.{expression_of, sequence_of}
use Rattle.grammar.specs.Assignment.{is_assignment_operator, assign_of, conditional_of, after_binary, is_async_name, value_of}
use Rattle.grammar.specs.Binary.{operation_kind, right_floor, operation_records, binary_of, operators_of}
use Rattle.grammar.specs.Update.{is_unary_operator, is_update_operator, converted_to, unary_of, postfix_of}
use Rattle.grammar.specs.LeftHandSide.{left_hand_side_of, links_of, arguments_of}
use Rattle.grammar.specs.Primary.{parenthesized_of, primary_of, spread_of, elements_of, properties_of, shorthand_of, property_of, key_of}
use Rattle.grammar.specs.Binding.{binding_of, binding_element_of, binding_rest_of, binding_elements_of, binding_properties_of, binding_shorthand_of, binding_property_of}
use Rattle.grammar.specs.Arrow.{Policy, head_of, parenthesized_head_of, parameters_of, body_of}
use Rattle.grammar.specs.Step.{step, read}
use Rattle.laws.specs.Settles.{μ, rank, Settles}
use Rattle.laws.proofs.Bounds.{Bound, limits, bounded}

positive : (job : Job) → 1 ≤ rank job
positive (expression at) = omega arith
positive (sequence first comma at so_far) = omega arith
positive (assignment at) = omega arith
positive (value at) = omega arith
positive (assign first at left) = omega arith
positive (conditional first at test) = omega arith
positive (binary floor at) = omega arith
positive (operators floor first at left) = omega arith
positive (unary at) = omega arith
positive (postfix at) = omega arith
positive (left_hand_side at) = omega arith
positive (links first at left) = omega arith
positive (arguments first at so_far) = omega arith
positive (primary at) = omega arith
positive (elements first at kind so_far) = omega arith
positive (properties first at kind so_far) = omega arith
positive (property at) = omega arith
positive (key at) = omega arith
positive (spread at) = omega arith
positive (binding at) = omega arith
positive (binding_element at) = omega arith
positive (binding_elements first at so_far) = omega arith
positive (binding_properties first at so_far) = omega arith
positive (binding_property at) = omega arith
positive (binding_rest at) = omega arith
positive (head at) = omega arith
positive (parameters at so_far) = omega arith
positive (body kind first at so_far) = omega arith

-- a nonterminal comes to what its production gives, with any bound on the steps that is large enough
pub settles_by : {N : Type 0} {policy : Policy N} {sheet : Sheet} {job : Job} {m : N} {out : Out N}
    → ((f : ℕ) → μ sheet job ≤ suc f → step policy sheet (read policy sheet f) job m ≡ out) → Settles policy sheet job m out
unfolding read
settles_by {N} {policy} {sheet} {job} {m} {out} h = record { with = go }
  where
    go : (f : ℕ) → μ sheet job ≤ f → read policy sheet f job m ≡ out
    go zero le = let p : 1 ≤ rank job = positive job in absurd (omega arith)
    go (suc f) le = h f le

-- an element or an argument, and a part of an object: a spread or something else, at the same place
item_steps : (sheet : Sheet) (at : ℕ) (spreads : Bool) → μ sheet (if spreads then spread at else assignment at) ≤ 32 * (length sheet.kinds - at) + 11
item_steps sheet at true = omega arith
item_steps sheet at false = omega arith

part_steps : (sheet : Sheet) (at : ℕ) (spreads : Bool) → μ sheet (if spreads then spread at else property at) ≤ 32 * (length sheet.kinds - at) + 11
part_steps sheet at true = omega arith
part_steps sheet at false = omega arith

-- a reader's word for what a nonterminal comes to
pub record Word {N : Type 0} (policy : Policy N) (sheet : Sheet) (Gives : Job → N → Out N → Type 0) : Type 0 where
  pub settled : {job : Job} {m : N} {out : Out N} → Gives job m out → Settles policy sheet job m out
  pub given : {job : Job} {m : N} {out : Out N} → Settles policy sheet job m out → Gives job m out

-- THE RULES
pub record Rules {N : Type 0} (sheet : Sheet) (Gives : Job → N → Out N → Type 0) : Type 0 where
  -- 13.16
  pub expression_fails : {at : ℕ} {m m' : N} {c : Cause} → Gives (assignment at) m (fail c m') → Gives (expression at) m (fail c m')
  pub expression_one : {at p : ℕ} {m m' : N} {ts : Forest} {rs : List Record} → Gives (assignment at) m (done p ts rs m') → token sheet p is Comma ≡ false
      → Gives (expression at) m (done p ts rs m')
  pub expression_more : {at p : ℕ} {m m' : N} {ts : Forest} {rs : List Record} {out : Out N} → Gives (assignment at) m (done p ts rs m') → token sheet p ≡ Comma → Gives (sequence at p p ts) m' out
      → Gives (expression at) m (after_records rs out)
  pub sequence_ends : {at first comma : ℕ} {m : N} {so_far : Forest} → token sheet at is Comma ≡ false
      → Gives (sequence first comma at so_far) m (done at (one (node Row.Sequence comma first at so_far)) [] m)
  pub sequence_fails : {at first comma : ℕ} {m m' : N} {so_far : Forest} {c : Cause} → token sheet at ≡ Comma → Gives (assignment (at + 1)) m (fail c m')
      → Gives (sequence first comma at so_far) m (fail c m')
  pub sequence_more : {at p first comma : ℕ} {m m' : N} {ts so_far : Forest} {rs : List Record} {out : Out N} → token sheet at ≡ Comma → Gives (assignment (at + 1)) m (done p ts rs m')
      → Gives (sequence first comma p (join so_far ts)) m' out → Gives (sequence first comma at so_far) m (after_records rs out)
  -- 13.15 and 13.14, past a head
  pub value_async : {at : ℕ} {m : N} {out : Out N} → is_async_name sheet at ≡ true → Gives (body Row.AsyncArrow at (at + 2) (one (leaf Row.BindingName (at + 1)))) m out → Gives (value at) m out
  pub value_fails : {at : ℕ} {m m' : N} {c : Cause} → is_async_name sheet at ≡ false → Gives (binary 0 at) m (fail c m') → Gives (value at) m (fail c m')
  pub value_arrow : {at p : ℕ} {m m' : N} {t : Tree} {rs : List Record} {out : Out N} → is_async_name sheet at ≡ false → Gives (binary 0 at) m (done p (one t) rs m')
      → kind_of t is Row.Identifier ≡ true → token sheet p ≡ Arrow → Gives (body Row.Arrow at p (one (leaf Row.BindingName at))) m' out → Gives (value at) m (after_records rs out)
  pub value_assigns : {at p : ℕ} {m m' : N} {t : Tree} {rs : List Record} {out : Out N} → is_async_name sheet at ≡ false → Gives (binary 0 at) m (done p (one t) rs m')
      → (kind_of t is Row.Identifier and token sheet p is Arrow) ≡ false → is_assignment_operator (token sheet p) ≡ true → Gives (assign at p t) m' out → Gives (value at) m (after_records rs out)
  pub value_chooses : {at p : ℕ} {m m' : N} {t : Tree} {rs : List Record} {out : Out N} → is_async_name sheet at ≡ false → Gives (binary 0 at) m (done p (one t) rs m')
      → (kind_of t is Row.Identifier and token sheet p is Arrow) ≡ false → is_assignment_operator (token sheet p) ≡ false → token sheet p is Question ≡ true → Gives (conditional at p t) m' out
      → Gives (value at) m (after_records rs out)
  pub value_stops : {at p : ℕ} {m m' : N} {t : Tree} {rs : List Record} → is_async_name sheet at ≡ false → Gives (binary 0 at) m (done p (one t) rs m')
      → (kind_of t is Row.Identifier and token sheet p is Arrow) ≡ false → is_assignment_operator (token sheet p) ≡ false → token sheet p is Question ≡ false
      → Gives (value at) m (done p (one t) rs m')
  pub assign_refused : {at first : ℕ} {m : N} {left : Tree} {c : Cause} → convert_as left (if token sheet at is Eq then any else simple) ≡ refused c → Gives (assign first at left) m (fail c m)
  pub assign_fails : {at first : ℕ} {m m' : N} {left t : Tree} {rs : List Record} {c : Cause} → at < length sheet.kinds
      → convert_as left (if token sheet at is Eq then any else simple) ≡ turned t rs → Gives (assignment (at + 1)) m (fail c m') → Gives (assign first at left) m (fail c m')
  pub assign_done : {at p first : ℕ} {m m' : N} {ts : Forest} {left t : Tree} {rs rs' : List Record} → at < length sheet.kinds
      → convert_as left (if token sheet at is Eq then any else simple) ≡ turned t rs → Gives (assignment (at + 1)) m (done p ts rs' m')
      → Gives (assign first at left) m (done p (one (node (if token sheet at is Eq then Row.Assign else Row.CompoundAssign) at first p (join (one t) ts))) (rs ++ rs') m')
  pub conditional_fails : {at first : ℕ} {m m' : N} {left : Tree} {c : Cause} → at < length sheet.kinds → Gives (assignment (at + 1)) m (fail c m')
      → Gives (conditional first at left) m (fail c m')
  pub conditional_no_colon : {at p first : ℕ} {m m' : N} {ts : Forest} {left : Tree} {rs : List Record} → at < length sheet.kinds → Gives (assignment (at + 1)) m (done p ts rs m')
      → token sheet p is Colon ≡ false → Gives (conditional first at left) m (fail (Cause.Unexpected p) m')
  pub conditional_fails_after : {at p first : ℕ} {m m' m'' : N} {ts : Forest} {left : Tree} {rs : List Record} {c : Cause} → at < length sheet.kinds
      → Gives (assignment (at + 1)) m (done p ts rs m') → token sheet p ≡ Colon → Gives (assignment (p + 1)) m' (fail c m'') → Gives (conditional first at left) m (fail c m'')
  pub conditional_done : {at p q first : ℕ} {m m' m'' : N} {ts us : Forest} {left : Tree} {rs rs' : List Record} → at < length sheet.kinds → Gives (assignment (at + 1)) m (done p ts rs m')
      → token sheet p ≡ Colon → Gives (assignment (p + 1)) m' (done q us rs' m'')
      → Gives (conditional first at left) m (done q (one (node Row.Conditional at first q (cons left (join ts us)))) (rs ++ rs') m'')
  -- 13.6 to 13.13
  pub binary_fails : {at floor : ℕ} {m m' : N} {c : Cause} → Gives (unary at) m (fail c m') → Gives (binary floor at) m (fail c m')
  pub binary_more : {at p floor : ℕ} {m m' : N} {t : Tree} {rs : List Record} {out : Out N} → Gives (unary at) m (done p (one t) rs m') → Gives (operators floor at p t) m' out
      → Gives (binary floor at) m (after_records rs out)
  pub operators_end : {at first floor : ℕ} {m : N} {left : Tree} → ltb floor (expression_level (token sheet at)) ≡ false → Gives (operators floor first at left) m (done at (one left) [] m)
  pub operators_fail : {at first floor : ℕ} {m m' : N} {left : Tree} {c : Cause} → at < length sheet.kinds → ltb floor (expression_level (token sheet at)) ≡ true
      → Gives (binary (right_floor (token sheet at)) (at + 1)) m (fail c m') → Gives (operators floor first at left) m (fail c m')
  pub operators_more : {at p first floor : ℕ} {m m' : N} {left t : Tree} {rs : List Record} {out : Out N} → at < length sheet.kinds → ltb floor (expression_level (token sheet at)) ≡ true
      → Gives (binary (right_floor (token sheet at)) (at + 1)) m (done p (one t) rs m')
      → Gives (operators floor first p (node (operation_kind (token sheet at)) at first p (cons left (one t)))) m' out
      → Gives (operators floor first at left) m (after_records rs (after_records (operation_records sheet at left t) out))
  -- 13.5 and 13.4
  pub unary_fails : {at : ℕ} {m m' : N} {c : Cause} → at < length sheet.kinds → is_unary_operator (token sheet at) ≡ true → Gives (unary (at + 1)) m (fail c m') → Gives (unary at) m (fail c m')
  pub unary_done : {at p : ℕ} {m m' : N} {ts : Forest} {rs : List Record} → at < length sheet.kinds → is_unary_operator (token sheet at) ≡ true → Gives (unary (at + 1)) m (done p ts rs m')
      → Gives (unary at) m (done p (one (node Row.Unary at at p ts)) rs m')
  pub update_fails : {at : ℕ} {m m' : N} {c : Cause} → at < length sheet.kinds → is_unary_operator (token sheet at) ≡ false → is_update_operator (token sheet at) ≡ true
      → Gives (unary (at + 1)) m (fail c m') → Gives (unary at) m (fail c m')
  pub update_refused : {at p : ℕ} {m m' : N} {t : Tree} {rs : List Record} {c : Cause} → at < length sheet.kinds → is_unary_operator (token sheet at) ≡ false
      → is_update_operator (token sheet at) ≡ true → Gives (unary (at + 1)) m (done p (one t) rs m') → convert_as t simple ≡ refused c → Gives (unary at) m (fail c m')
  pub update_done : {at p : ℕ} {m m' : N} {t u : Tree} {rs rs' : List Record} → at < length sheet.kinds → is_unary_operator (token sheet at) ≡ false → is_update_operator (token sheet at) ≡ true
      → Gives (unary (at + 1)) m (done p (one t) rs m') → convert_as t simple ≡ turned u rs' → Gives (unary at) m (done p (one (node Row.PrefixUpdate at at p (one u))) (rs ++ rs') m')
  pub unary_none : {at : ℕ} {m : N} {out : Out N} → is_unary_operator (token sheet at) ≡ false → is_update_operator (token sheet at) ≡ false → Gives (postfix at) m out → Gives (unary at) m out
  pub postfix_fails : {at : ℕ} {m m' : N} {c : Cause} → Gives (left_hand_side at) m (fail c m') → Gives (postfix at) m (fail c m')
  pub postfix_none : {at p : ℕ} {m m' : N} {ts : Forest} {rs : List Record} → Gives (left_hand_side at) m (done p ts rs m')
      → (is_update_operator (token sheet p) and not (break_before sheet p)) ≡ false → Gives (postfix at) m (done p ts rs m')
  pub postfix_refused : {at p : ℕ} {m m' : N} {t : Tree} {rs : List Record} {c : Cause} → Gives (left_hand_side at) m (done p (one t) rs m')
      → (is_update_operator (token sheet p) and not (break_before sheet p)) ≡ true → convert_as t simple ≡ refused c → Gives (postfix at) m (fail c m')
  pub postfix_done : {at p : ℕ} {m m' : N} {t u : Tree} {rs rs' : List Record} → Gives (left_hand_side at) m (done p (one t) rs m')
      → (is_update_operator (token sheet p) and not (break_before sheet p)) ≡ true → convert_as t simple ≡ turned u rs'
      → Gives (postfix at) m (done (p + 1) (one (node Row.PostfixUpdate p at (p + 1) (one u))) (rs ++ rs') m')
  -- 13.3
  pub left_fails : {at : ℕ} {m m' : N} {c : Cause} → Gives (primary at) m (fail c m') → Gives (left_hand_side at) m (fail c m')
  pub left_more : {at p : ℕ} {m m' : N} {t : Tree} {rs : List Record} {out : Out N} → Gives (primary at) m (done p (one t) rs m') → Gives (links at p t) m' out
      → Gives (left_hand_side at) m (after_records rs out)
  pub links_end : {at first : ℕ} {m : N} {left : Tree} → token sheet at is Dot ≡ false → token sheet at is LBrack ≡ false → token sheet at is LParen ≡ false
      → Gives (links first at left) m (done at (one left) [] m)
  pub links_no_word : {at first : ℕ} {m : N} {left : Tree} → token sheet at ≡ Dot → is_word (token sheet (at + 1)) ≡ false → Gives (links first at left) m (fail (Cause.Unexpected (at + 1)) m)
  pub links_member : {at first : ℕ} {m : N} {left : Tree} {out : Out N} → token sheet at ≡ Dot → is_word (token sheet (at + 1)) ≡ true
      → Gives (links first (at + 2) (node Row.Member (at + 1) first (at + 2) (one left))) m out → Gives (links first at left) m out
  pub links_index_fails : {at first : ℕ} {m m' : N} {left : Tree} {c : Cause} → token sheet at ≡ LBrack → Gives (expression (at + 1)) m (fail c m') → Gives (links first at left) m (fail c m')
  pub links_index_open : {at p first : ℕ} {m m' : N} {ts : Forest} {left : Tree} {rs : List Record} → token sheet at ≡ LBrack → Gives (expression (at + 1)) m (done p ts rs m')
      → token sheet p is RBrack ≡ false → Gives (links first at left) m (fail (Cause.Unexpected p) m')
  pub links_index : {at p first : ℕ} {m m' : N} {ts : Forest} {left : Tree} {rs : List Record} {out : Out N} → token sheet at ≡ LBrack → Gives (expression (at + 1)) m (done p ts rs m')
      → token sheet p ≡ RBrack → Gives (links first (p + 1) (node Row.Index first first (p + 1) (cons left ts))) m' out → Gives (links first at left) m (after_records rs out)
  pub links_call_fails : {at first : ℕ} {m m' : N} {left : Tree} {c : Cause} → token sheet at ≡ LParen → Gives (arguments first (at + 1) (one left)) m (fail c m')
      → Gives (links first at left) m (fail c m')
  pub links_call : {at p first : ℕ} {m m' : N} {left t : Tree} {rs : List Record} {out : Out N} → token sheet at ≡ LParen → Gives (arguments first (at + 1) (one left)) m (done p (one t) rs m')
      → Gives (links first p t) m' out → Gives (links first at left) m (after_records rs out)
  pub arguments_end : {at first : ℕ} {m : N} {so_far : Forest} → token sheet at ≡ RParen
      → Gives (arguments first at so_far) m (done (at + 1) (one (node Row.Call first first (at + 1) so_far)) [] m)
  pub arguments_fail : {at first : ℕ} {m m' : N} {so_far : Forest} {c : Cause} → token sheet at is RParen ≡ false
      → Gives (if token sheet at is Dot3 then spread at else assignment at) m (fail c m') → Gives (arguments first at so_far) m (fail c m')
  pub arguments_more : {at p first : ℕ} {m m' : N} {ts so_far : Forest} {rs : List Record} {out : Out N} → token sheet at is RParen ≡ false
      → Gives (if token sheet at is Dot3 then spread at else assignment at) m (done p ts rs m') → token sheet p ≡ Comma → Gives (arguments first (p + 1) (join so_far ts)) m' out
      → Gives (arguments first at so_far) m (after_records rs out)
  pub arguments_last : {at p first : ℕ} {m m' : N} {ts so_far : Forest} {rs : List Record} → token sheet at is RParen ≡ false
      → Gives (if token sheet at is Dot3 then spread at else assignment at) m (done p ts rs m') → token sheet p ≡ RParen
      → Gives (arguments first at so_far) m (done (p + 1) (one (node Row.Call first first (p + 1) (join so_far ts))) rs m')
  pub arguments_open : {at p first : ℕ} {m m' : N} {ts so_far : Forest} {rs : List Record} → token sheet at is RParen ≡ false
      → Gives (if token sheet at is Dot3 then spread at else assignment at) m (done p ts rs m') → token sheet p is Comma ≡ false → token sheet p is RParen ≡ false
      → Gives (arguments first at so_far) m (fail (Cause.Unexpected p) m')
  -- 13.2, an expression
  pub primary_name : {at : ℕ} {m : N} → is_name (token sheet at) ≡ true → Gives (primary at) m (done (at + 1) (one (leaf Row.Identifier at)) [] m)
  pub primary_this : {at : ℕ} {m : N} → token sheet at ≡ This → Gives (primary at) m (done (at + 1) (one (leaf Row.This at)) [] m)
  pub primary_literal : {at : ℕ} {m : N} → is_name (token sheet at) ≡ false → token sheet at is This ≡ false → is_literal (token sheet at) ≡ true
      → Gives (primary at) m (done (at + 1) (one (leaf Row.Literal at)) [] m)
  pub primary_paren_fails : {at : ℕ} {m m' : N} {c : Cause} → token sheet at ≡ LParen → Gives (expression (at + 1)) m (fail c m') → Gives (primary at) m (fail c m')
  pub primary_paren_open : {at p : ℕ} {m m' : N} {ts : Forest} {rs : List Record} → token sheet at ≡ LParen → Gives (expression (at + 1)) m (done p ts rs m') → token sheet p is RParen ≡ false
      → Gives (primary at) m (fail (Cause.Unexpected p) m')
  pub primary_paren : {at p : ℕ} {m m' : N} {ts : Forest} {rs : List Record} → token sheet at ≡ LParen → Gives (expression (at + 1)) m (done p ts rs m') → token sheet p ≡ RParen
      → Gives (primary at) m (done (p + 1) (one (node Row.Paren at at (p + 1) ts)) rs m')
  pub primary_array : {at : ℕ} {m : N} {out : Out N} → token sheet at ≡ LBrack → Gives (elements at (at + 1) Row.Array nil) m out → Gives (primary at) m out
  pub primary_object : {at : ℕ} {m : N} {out : Out N} → token sheet at ≡ LCurly → Gives (properties at (at + 1) Row.Object nil) m out → Gives (primary at) m out
  pub primary_none : {at : ℕ} {m : N} → is_name (token sheet at) ≡ false → token sheet at is This ≡ false → is_literal (token sheet at) ≡ false → token sheet at is LParen ≡ false
      → token sheet at is LBrack ≡ false → token sheet at is LCurly ≡ false → Gives (primary at) m (fail (Cause.Unexpected at) m)
  pub spread_fails : {at : ℕ} {m m' : N} {c : Cause} → at < length sheet.kinds → Gives (assignment (at + 1)) m (fail c m') → Gives (spread at) m (fail c m')
  pub spread_done : {at p : ℕ} {m m' : N} {ts : Forest} {rs : List Record} → at < length sheet.kinds → Gives (assignment (at + 1)) m (done p ts rs m')
      → Gives (spread at) m (done p (one (node Row.Spread at at p ts)) rs m')
  -- 13.2, the elements of an array
  pub elements_end : {at first kind : ℕ} {m : N} {so_far : Forest} → token sheet at ≡ RBrack
      → Gives (elements first at kind so_far) m (done (at + 1) (one (node kind first first (at + 1) so_far)) [] m)
  pub elements_hole : {at first kind : ℕ} {m : N} {so_far : Forest} {out : Out N} → token sheet at ≡ Comma → Gives (elements first (at + 1) Row.Array (join so_far (one (leaf Row.Hole at)))) m out
      → Gives (elements first at kind so_far) m out
  pub elements_fail : {at first kind : ℕ} {m m' : N} {so_far : Forest} {c : Cause} → token sheet at is RBrack ≡ false → token sheet at is Comma ≡ false
      → Gives (if token sheet at is Dot3 then spread at else assignment at) m (fail c m') → Gives (elements first at kind so_far) m (fail c m')
  pub elements_more : {at p first kind : ℕ} {m m' : N} {ts so_far : Forest} {rs : List Record} {out : Out N} → token sheet at is RBrack ≡ false → token sheet at is Comma ≡ false
      → Gives (if token sheet at is Dot3 then spread at else assignment at) m (done p ts rs m') → token sheet p ≡ Comma
      → Gives (elements first (p + 1) (if token sheet at is Dot3 then Row.ArrayRestComma else Row.Array) (join so_far ts)) m' out → Gives (elements first at kind so_far) m (after_records rs out)
  pub elements_last : {at p first kind : ℕ} {m m' : N} {ts so_far : Forest} {rs : List Record} → token sheet at is RBrack ≡ false → token sheet at is Comma ≡ false
      → Gives (if token sheet at is Dot3 then spread at else assignment at) m (done p ts rs m') → token sheet p ≡ RBrack
      → Gives (elements first at kind so_far) m (done (p + 1) (one (node Row.Array first first (p + 1) (join so_far ts))) rs m')
  pub elements_open : {at p first kind : ℕ} {m m' : N} {ts so_far : Forest} {rs : List Record} → token sheet at is RBrack ≡ false → token sheet at is Comma ≡ false
      → Gives (if token sheet at is Dot3 then spread at else assignment at) m (done p ts rs m') → token sheet p is Comma ≡ false → token sheet p is RBrack ≡ false
      → Gives (elements first at kind so_far) m (fail (Cause.Unexpected p) m')
  -- 13.2, the parts of an object
  pub properties_end : {at first kind : ℕ} {m : N} {so_far : Forest} → token sheet at ≡ RCurly
      → Gives (properties first at kind so_far) m (done (at + 1) (one (node kind first first (at + 1) so_far)) [] m)
  pub properties_fail : {at first kind : ℕ} {m m' : N} {so_far : Forest} {c : Cause} → token sheet at is RCurly ≡ false
      → Gives (if token sheet at is Dot3 then spread at else property at) m (fail c m') → Gives (properties first at kind so_far) m (fail c m')
  pub properties_more : {at p first kind : ℕ} {m m' : N} {ts so_far : Forest} {rs : List Record} {out : Out N} → token sheet at is RCurly ≡ false
      → Gives (if token sheet at is Dot3 then spread at else property at) m (done p ts rs m') → token sheet p ≡ Comma
      → Gives (properties first (p + 1) (if token sheet at is Dot3 then Row.ObjectRestComma else Row.Object) (join so_far ts)) m' out
      → Gives (properties first at kind so_far) m (after_records rs out)
  pub properties_last : {at p first kind : ℕ} {m m' : N} {ts so_far : Forest} {rs : List Record} → token sheet at is RCurly ≡ false
      → Gives (if token sheet at is Dot3 then spread at else property at) m (done p ts rs m') → token sheet p ≡ RCurly
      → Gives (properties first at kind so_far) m (done (p + 1) (one (node Row.Object first first (p + 1) (join so_far ts))) rs m')
  pub properties_open : {at p first kind : ℕ} {m m' : N} {ts so_far : Forest} {rs : List Record} → token sheet at is RCurly ≡ false
      → Gives (if token sheet at is Dot3 then spread at else property at) m (done p ts rs m') → token sheet p is Comma ≡ false → token sheet p is RCurly ≡ false
      → Gives (properties first at kind so_far) m (fail (Cause.Unexpected p) m')
  pub property_shorthand : {at : ℕ} {m : N} → (is_name (token sheet at) and not (token sheet (at + 1) is Colon)) ≡ true → token sheet (at + 1) is Eq ≡ false
      → Gives (property at) m (done (at + 1) (one (node Row.Shorthand at at (at + 1) (one (leaf Row.Identifier at)))) [] m)
  pub property_init_fails : {at : ℕ} {m m' : N} {c : Cause} → (is_name (token sheet at) and not (token sheet (at + 1) is Colon)) ≡ true → token sheet (at + 1) ≡ Eq
      → Gives (assignment (at + 2)) m (fail c m') → Gives (property at) m (fail c m')
  pub property_init : {at p : ℕ} {m m' : N} {ts : Forest} {rs : List Record} → (is_name (token sheet at) and not (token sheet (at + 1) is Colon)) ≡ true → token sheet (at + 1) ≡ Eq
      → Gives (assignment (at + 2)) m (done p ts rs m') → Gives (property at) m (done p (one (node Row.ShorthandInit (at + 1) at p (cons (leaf Row.Identifier at) ts))) rs m')
  pub property_key_fails : {at : ℕ} {m m' : N} {c : Cause} → (is_name (token sheet at) and not (token sheet (at + 1) is Colon)) ≡ false → Gives (key at) m (fail c m')
      → Gives (property at) m (fail c m')
  pub property_no_colon : {at p : ℕ} {m m' : N} {ts : Forest} {rs : List Record} → (is_name (token sheet at) and not (token sheet (at + 1) is Colon)) ≡ false → Gives (key at) m (done p ts rs m')
      → token sheet p is Colon ≡ false → Gives (property at) m (fail (Cause.Unexpected p) m')
  pub property_value_fails : {at p : ℕ} {m m' m'' : N} {ts : Forest} {rs : List Record} {c : Cause} → (is_name (token sheet at) and not (token sheet (at + 1) is Colon)) ≡ false
      → Gives (key at) m (done p ts rs m') → token sheet p ≡ Colon → Gives (assignment (p + 1)) m' (fail c m'') → Gives (property at) m (fail c m'')
  pub property_done : {at p q : ℕ} {m m' m'' : N} {ts us : Forest} {rs rs' : List Record} → (is_name (token sheet at) and not (token sheet (at + 1) is Colon)) ≡ false
      → Gives (key at) m (done p ts rs m') → token sheet p ≡ Colon → Gives (assignment (p + 1)) m' (done q us rs' m'')
      → Gives (property at) m (done q (one (node Row.Property at at q (join ts us))) (rs ++ rs') m'')
  pub key_word : {at : ℕ} {m : N} → (is_word (token sheet at) or token sheet at is Str or token sheet at is Number) ≡ true → Gives (key at) m (done (at + 1) (one (leaf Row.Key at)) [] m)
  pub key_none : {at : ℕ} {m : N} → (is_word (token sheet at) or token sheet at is Str or token sheet at is Number) ≡ false → token sheet at is LBrack ≡ false
      → Gives (key at) m (fail (Cause.Unexpected at) m)
  pub key_fails : {at : ℕ} {m m' : N} {c : Cause} → token sheet at ≡ LBrack → Gives (assignment (at + 1)) m (fail c m') → Gives (key at) m (fail c m')
  pub key_open : {at p : ℕ} {m m' : N} {ts : Forest} {rs : List Record} → token sheet at ≡ LBrack → Gives (assignment (at + 1)) m (done p ts rs m') → token sheet p is RBrack ≡ false
      → Gives (key at) m (fail (Cause.Unexpected p) m')
  pub key_done : {at p : ℕ} {m m' : N} {ts : Forest} {rs : List Record} → token sheet at ≡ LBrack → Gives (assignment (at + 1)) m (done p ts rs m') → token sheet p ≡ RBrack
      → Gives (key at) m (done (p + 1) (one (node Row.ComputedKey at at (p + 1) ts)) rs m')
  -- 14.3.3
  pub binding_name : {at : ℕ} {m : N} → is_name (token sheet at) ≡ true → Gives (binding at) m (done (at + 1) (one (leaf Row.BindingName at)) [] m)
  pub binding_array : {at : ℕ} {m : N} {out : Out N} → token sheet at ≡ LBrack → Gives (binding_elements at (at + 1) nil) m out → Gives (binding at) m out
  pub binding_object : {at : ℕ} {m : N} {out : Out N} → token sheet at ≡ LCurly → Gives (binding_properties at (at + 1) nil) m out → Gives (binding at) m out
  pub binding_none : {at : ℕ} {m : N} → is_name (token sheet at) ≡ false → token sheet at is LBrack ≡ false → token sheet at is LCurly ≡ false → Gives (binding at) m (fail (Cause.Unexpected at) m)
  pub element_fails : {at : ℕ} {m m' : N} {c : Cause} → Gives (binding at) m (fail c m') → Gives (binding_element at) m (fail c m')
  pub element_bare : {at p : ℕ} {m m' : N} {ts : Forest} {rs : List Record} → Gives (binding at) m (done p ts rs m') → token sheet p is Eq ≡ false → Gives (binding_element at) m (done p ts rs m')
  pub element_init_fails : {at p : ℕ} {m m' m'' : N} {ts : Forest} {rs : List Record} {c : Cause} → Gives (binding at) m (done p ts rs m') → token sheet p ≡ Eq
      → Gives (assignment (p + 1)) m' (fail c m'') → Gives (binding_element at) m (fail c m'')
  pub element_init : {at p q : ℕ} {m m' m'' : N} {ts us : Forest} {rs rs' : List Record} → Gives (binding at) m (done p ts rs m') → token sheet p ≡ Eq
      → Gives (assignment (p + 1)) m' (done q us rs' m'') → Gives (binding_element at) m (done q (one (node Row.BindingDefault p at q (join ts us))) (rs ++ rs') m'')
  pub rest_fails : {at : ℕ} {m m' : N} {c : Cause} → at < length sheet.kinds → Gives (binding_element (at + 1)) m (fail c m') → Gives (binding_rest at) m (fail c m')
  pub rest_done : {at p : ℕ} {m m' : N} {ts : Forest} {rs : List Record} → at < length sheet.kinds → Gives (binding_element (at + 1)) m (done p ts rs m')
      → Gives (binding_rest at) m (done p (one (node Row.BindingRest at at p ts)) (rs ++ (if kind_of (first_tree ts) is Row.BindingDefault then rest_initializer (mark_of (first_tree ts)) ∷ [] else [])) m')
  pub binding_elements_end : {at first : ℕ} {m : N} {so_far : Forest} → token sheet at ≡ RBrack
      → Gives (binding_elements first at so_far) m (done (at + 1) (one (node Row.BindingArray first first (at + 1) so_far)) [] m)
  pub binding_elements_hole : {at first : ℕ} {m : N} {so_far : Forest} {out : Out N} → token sheet at ≡ Comma → Gives (binding_elements first (at + 1) (join so_far (one (leaf Row.Hole at)))) m out
      → Gives (binding_elements first at so_far) m out
  pub binding_elements_rest_fails : {at first : ℕ} {m m' : N} {so_far : Forest} {c : Cause} → token sheet at ≡ Dot3 → Gives (binding_rest at) m (fail c m')
      → Gives (binding_elements first at so_far) m (fail c m')
  pub binding_elements_rest_open : {at p first : ℕ} {m m' : N} {ts so_far : Forest} {rs : List Record} → token sheet at ≡ Dot3 → Gives (binding_rest at) m (done p ts rs m')
      → token sheet p is RBrack ≡ false → Gives (binding_elements first at so_far) m (fail (Cause.RestLast p) m')
  pub binding_elements_rest : {at p first : ℕ} {m m' : N} {ts so_far : Forest} {rs : List Record} → token sheet at ≡ Dot3 → Gives (binding_rest at) m (done p ts rs m') → token sheet p ≡ RBrack
      → Gives (binding_elements first at so_far) m (done (p + 1) (one (node Row.BindingArray first first (p + 1) (join so_far ts))) rs m')
  pub binding_elements_fails : {at first : ℕ} {m m' : N} {so_far : Forest} {c : Cause} → token sheet at is RBrack ≡ false → token sheet at is Comma ≡ false → token sheet at is Dot3 ≡ false
      → Gives (binding_element at) m (fail c m') → Gives (binding_elements first at so_far) m (fail c m')
  pub binding_elements_more : {at p first : ℕ} {m m' : N} {ts so_far : Forest} {rs : List Record} {out : Out N} → token sheet at is RBrack ≡ false → token sheet at is Comma ≡ false
      → token sheet at is Dot3 ≡ false → Gives (binding_element at) m (done p ts rs m') → token sheet p ≡ Comma → Gives (binding_elements first (p + 1) (join so_far ts)) m' out
      → Gives (binding_elements first at so_far) m (after_records rs out)
  pub binding_elements_last : {at p first : ℕ} {m m' : N} {ts so_far : Forest} {rs : List Record} → token sheet at is RBrack ≡ false → token sheet at is Comma ≡ false
      → token sheet at is Dot3 ≡ false → Gives (binding_element at) m (done p ts rs m') → token sheet p ≡ RBrack
      → Gives (binding_elements first at so_far) m (done (p + 1) (one (node Row.BindingArray first first (p + 1) (join so_far ts))) rs m')
  pub binding_elements_open : {at p first : ℕ} {m m' : N} {ts so_far : Forest} {rs : List Record} → token sheet at is RBrack ≡ false → token sheet at is Comma ≡ false
      → token sheet at is Dot3 ≡ false → Gives (binding_element at) m (done p ts rs m') → token sheet p is Comma ≡ false → token sheet p is RBrack ≡ false
      → Gives (binding_elements first at so_far) m (fail (Cause.Unexpected p) m')
  -- 14.3.3, the parts of an object
  pub binding_properties_end : {at first : ℕ} {m : N} {so_far : Forest} → token sheet at ≡ RCurly
      → Gives (binding_properties first at so_far) m (done (at + 1) (one (node Row.BindingObject first first (at + 1) so_far)) [] m)
  pub binding_properties_rest_fails : {at first : ℕ} {m m' : N} {so_far : Forest} {c : Cause} → token sheet at ≡ Dot3 → Gives (binding_rest at) m (fail c m')
      → Gives (binding_properties first at so_far) m (fail c m')
  pub binding_properties_rest_open : {at p first : ℕ} {m m' : N} {ts so_far : Forest} {rs : List Record} → token sheet at ≡ Dot3 → Gives (binding_rest at) m (done p ts rs m')
      → token sheet p is RCurly ≡ false → Gives (binding_properties first at so_far) m (fail (Cause.RestLast p) m')
  pub binding_properties_rest_no_name : {at p first : ℕ} {m m' : N} {ts so_far : Forest} {rs : List Record} → token sheet at ≡ Dot3 → Gives (binding_rest at) m (done p ts rs m')
      → token sheet p ≡ RCurly → kind_of (first_tree (kids_of (first_tree ts))) is Row.BindingName ≡ false → Gives (binding_properties first at so_far) m (fail (Cause.RestName (at + 1)) m')
  pub binding_properties_rest : {at p first : ℕ} {m m' : N} {ts so_far : Forest} {rs : List Record} → token sheet at ≡ Dot3 → Gives (binding_rest at) m (done p ts rs m') → token sheet p ≡ RCurly
      → kind_of (first_tree (kids_of (first_tree ts))) is Row.BindingName ≡ true
      → Gives (binding_properties first at so_far) m (done (p + 1) (one (node Row.BindingObject first first (p + 1) (join so_far ts))) rs m')
  pub binding_properties_fails : {at first : ℕ} {m m' : N} {so_far : Forest} {c : Cause} → token sheet at is RCurly ≡ false → token sheet at is Dot3 ≡ false
      → Gives (binding_property at) m (fail c m') → Gives (binding_properties first at so_far) m (fail c m')
  pub binding_properties_more : {at p first : ℕ} {m m' : N} {ts so_far : Forest} {rs : List Record} {out : Out N} → token sheet at is RCurly ≡ false → token sheet at is Dot3 ≡ false
      → Gives (binding_property at) m (done p ts rs m') → token sheet p ≡ Comma → Gives (binding_properties first (p + 1) (join so_far ts)) m' out
      → Gives (binding_properties first at so_far) m (after_records rs out)
  pub binding_properties_last : {at p first : ℕ} {m m' : N} {ts so_far : Forest} {rs : List Record} → token sheet at is RCurly ≡ false → token sheet at is Dot3 ≡ false
      → Gives (binding_property at) m (done p ts rs m') → token sheet p ≡ RCurly
      → Gives (binding_properties first at so_far) m (done (p + 1) (one (node Row.BindingObject first first (p + 1) (join so_far ts))) rs m')
  pub binding_properties_open : {at p first : ℕ} {m m' : N} {ts so_far : Forest} {rs : List Record} → token sheet at is RCurly ≡ false → token sheet at is Dot3 ≡ false
      → Gives (binding_property at) m (done p ts rs m') → token sheet p is Comma ≡ false → token sheet p is RCurly ≡ false
      → Gives (binding_properties first at so_far) m (fail (Cause.Unexpected p) m')
  pub binding_property_shorthand : {at : ℕ} {m : N} → (is_name (token sheet at) and not (token sheet (at + 1) is Colon)) ≡ true → token sheet (at + 1) is Eq ≡ false
      → Gives (binding_property at) m (done (at + 1) (one (node Row.BindingShorthand at at (at + 1) (one (leaf Row.BindingName at)))) [] m)
  pub binding_property_init_fails : {at : ℕ} {m m' : N} {c : Cause} → (is_name (token sheet at) and not (token sheet (at + 1) is Colon)) ≡ true → token sheet (at + 1) ≡ Eq
      → Gives (assignment (at + 2)) m (fail c m') → Gives (binding_property at) m (fail c m')
  pub binding_property_init : {at p : ℕ} {m m' : N} {ts : Forest} {rs : List Record} → (is_name (token sheet at) and not (token sheet (at + 1) is Colon)) ≡ true → token sheet (at + 1) ≡ Eq
      → Gives (assignment (at + 2)) m (done p ts rs m') → Gives (binding_property at) m (done p (one (node Row.BindingShorthandInit (at + 1) at p (cons (leaf Row.BindingName at) ts))) rs m')
  pub binding_property_key_fails : {at : ℕ} {m m' : N} {c : Cause} → (is_name (token sheet at) and not (token sheet (at + 1) is Colon)) ≡ false → Gives (key at) m (fail c m')
      → Gives (binding_property at) m (fail c m')
  pub binding_property_no_colon : {at p : ℕ} {m m' : N} {ts : Forest} {rs : List Record} → (is_name (token sheet at) and not (token sheet (at + 1) is Colon)) ≡ false
      → Gives (key at) m (done p ts rs m') → token sheet p is Colon ≡ false → Gives (binding_property at) m (fail (Cause.Unexpected p) m')
  pub binding_property_value_fails : {at p : ℕ} {m m' m'' : N} {ts : Forest} {rs : List Record} {c : Cause} → (is_name (token sheet at) and not (token sheet (at + 1) is Colon)) ≡ false
      → Gives (key at) m (done p ts rs m') → token sheet p ≡ Colon → Gives (binding_element (p + 1)) m' (fail c m'') → Gives (binding_property at) m (fail c m'')
  pub binding_property_done : {at p q : ℕ} {m m' m'' : N} {ts us : Forest} {rs rs' : List Record} → (is_name (token sheet at) and not (token sheet (at + 1) is Colon)) ≡ false
      → Gives (key at) m (done p ts rs m') → token sheet p ≡ Colon → Gives (binding_element (p + 1)) m' (done q us rs' m'')
      → Gives (binding_property at) m (done q (one (node Row.Property at at q (join ts us))) (rs ++ rs') m'')
  -- 15.3 and 15.9
  pub parameters_end : {at : ℕ} {m : N} {so_far : Forest} → token sheet at ≡ RParen → Gives (parameters at so_far) m (done (at + 1) so_far [] m)
  pub parameters_rest_fails : {at : ℕ} {m m' : N} {so_far : Forest} {c : Cause} → token sheet at ≡ Dot3 → Gives (binding_rest at) m (fail c m') → Gives (parameters at so_far) m (fail c m')
  pub parameters_rest_open : {at p : ℕ} {m m' : N} {ts so_far : Forest} {rs : List Record} → token sheet at ≡ Dot3 → Gives (binding_rest at) m (done p ts rs m') → token sheet p is RParen ≡ false
      → Gives (parameters at so_far) m (fail (Cause.RestLast p) m')
  pub parameters_rest : {at p : ℕ} {m m' : N} {ts so_far : Forest} {rs : List Record} → token sheet at ≡ Dot3 → Gives (binding_rest at) m (done p ts rs m') → token sheet p ≡ RParen
      → Gives (parameters at so_far) m (done (p + 1) (join so_far ts) rs m')
  pub parameters_fails : {at : ℕ} {m m' : N} {so_far : Forest} {c : Cause} → token sheet at is RParen ≡ false → token sheet at is Dot3 ≡ false → Gives (binding_element at) m (fail c m')
      → Gives (parameters at so_far) m (fail c m')
  pub parameters_more : {at p : ℕ} {m m' : N} {ts so_far : Forest} {rs : List Record} {out : Out N} → token sheet at is RParen ≡ false → token sheet at is Dot3 ≡ false
      → Gives (binding_element at) m (done p ts rs m') → token sheet p ≡ Comma → Gives (parameters (p + 1) (join so_far ts)) m' out → Gives (parameters at so_far) m (after_records rs out)
  pub parameters_last : {at p : ℕ} {m m' : N} {ts so_far : Forest} {rs : List Record} → token sheet at is RParen ≡ false → token sheet at is Dot3 ≡ false
      → Gives (binding_element at) m (done p ts rs m') → token sheet p ≡ RParen → Gives (parameters at so_far) m (done (p + 1) (join so_far ts) rs m')
  pub parameters_open : {at p : ℕ} {m m' : N} {ts so_far : Forest} {rs : List Record} → token sheet at is RParen ≡ false → token sheet at is Dot3 ≡ false
      → Gives (binding_element at) m (done p ts rs m') → token sheet p is Comma ≡ false → token sheet p is RParen ≡ false → Gives (parameters at so_far) m (fail (Cause.Unexpected p) m')
  pub head_break : {at : ℕ} {m : N} → token sheet at ≡ Async → break_before sheet (at + 1) ≡ true → Gives (head at) m (fail (Cause.Unexpected (at + 1)) m)
  pub head_async_no_paren : {at : ℕ} {m : N} → token sheet at ≡ Async → break_before sheet (at + 1) ≡ false → token sheet (at + 1) is LParen ≡ false
      → Gives (head at) m (fail (Cause.Unexpected (at + 1)) m)
  pub head_async_fails : {at : ℕ} {m m' : N} {c : Cause} → token sheet at ≡ Async → break_before sheet (at + 1) ≡ false → token sheet (at + 1) ≡ LParen
      → Gives (parameters (at + 1 + 1) nil) m (fail c m') → Gives (head at) m (fail c m')
  pub head_async_no_arrow : {at p : ℕ} {m m' : N} {ts : Forest} {rs : List Record} → token sheet at ≡ Async → break_before sheet (at + 1) ≡ false → token sheet (at + 1) ≡ LParen
      → Gives (parameters (at + 1 + 1) nil) m (done p ts rs m') → token sheet p is Arrow ≡ false → Gives (head at) m (fail (Cause.Unexpected p) m')
  pub head_async_done : {at p : ℕ} {m m' : N} {ts : Forest} {rs : List Record} → token sheet at ≡ Async → break_before sheet (at + 1) ≡ false → token sheet (at + 1) ≡ LParen
      → Gives (parameters (at + 1 + 1) nil) m (done p ts rs m') → token sheet p ≡ Arrow → Gives (head at) m (done p ts rs m')
  pub head_no_paren : {at : ℕ} {m : N} → token sheet at is Async ≡ false → token sheet at is LParen ≡ false → Gives (head at) m (fail (Cause.Unexpected at) m)
  pub head_fails : {at : ℕ} {m m' : N} {c : Cause} → token sheet at is Async ≡ false → token sheet at ≡ LParen → Gives (parameters (at + 1) nil) m (fail c m') → Gives (head at) m (fail c m')
  pub head_no_arrow : {at p : ℕ} {m m' : N} {ts : Forest} {rs : List Record} → token sheet at is Async ≡ false → token sheet at ≡ LParen → Gives (parameters (at + 1) nil) m (done p ts rs m')
      → token sheet p is Arrow ≡ false → Gives (head at) m (fail (Cause.Unexpected p) m')
  pub head_done : {at p : ℕ} {m m' : N} {ts : Forest} {rs : List Record} → token sheet at is Async ≡ false → token sheet at ≡ LParen → Gives (parameters (at + 1) nil) m (done p ts rs m')
      → token sheet p ≡ Arrow → Gives (head at) m (done p ts rs m')
  pub body_curly : {at first kind : ℕ} {m : N} {so_far : Forest} → token sheet (at + 1) ≡ LCurly → Gives (body kind first at so_far) m (fail (Cause.Unexpected (at + 1)) m)
  pub body_fails : {at first kind : ℕ} {m m' : N} {so_far : Forest} {c : Cause} → at < length sheet.kinds → token sheet (at + 1) is LCurly ≡ false → Gives (assignment (at + 1)) m (fail c m')
      → Gives (body kind first at so_far) m (fail c m')
  pub body_done : {at p first kind : ℕ} {m m' : N} {ts so_far : Forest} {rs : List Record} → at < length sheet.kinds → token sheet (at + 1) is LCurly ≡ false
      → Gives (assignment (at + 1)) m (done p ts rs m')
      → Gives (body kind first at so_far) m (done p (one (node kind at first p (join so_far ts))) ((if break_before sheet at then break_before_arrow at ∷ [] else []) ++ rs) m')

-- any reader's word obeys them
module _ {N : Type 0} {policy : Policy N} {sheet : Sheet} {Gives : Job → N → Out N → Type 0} (word : Word policy sheet Gives) where
  settle : {job : Job} {m : N} {out : Out N} → ((f : ℕ) → μ sheet job ≤ suc f → step policy sheet (read policy sheet f) job m ≡ out) → Gives job m out
  settle h = word.given (settles_by h)

  reads : {job : Job} {m : N} {out : Out N} → Gives job m out → (f : ℕ) → μ sheet job ≤ f → read policy sheet f job m ≡ out
  reads h = (word.settled h).with

  within : {job : Job} {m m' : N} {p : ℕ} {ts : Forest} {rs : List Record} → Gives job m (done p ts rs m') → Bound (limits sheet job) p ts rs
  within h = bounded (word.settled h)

  item_reaches : {m m' : N} {p : ℕ} {ts : Forest} {rs : List Record} (at : ℕ) (spreads : Bool) → Gives (if spreads then spread at else assignment at) m (done p ts rs m') → at < p
  item_reaches at true h = let w = within h in omega arith
  item_reaches at false h = let w = within h in omega arith

  part_reaches : {m m' : N} {p : ℕ} {ts : Forest} {rs : List Record} (at : ℕ) (spreads : Bool) → Gives (if spreads then spread at else property at) m (done p ts rs m') → at < p
  part_reaches at true h = let w = within h in omega arith
  part_reaches at false h = let w = within h in omega arith

  -- they hold
  pub rules : Rules sheet Gives
  unfolding step expression_of ◌>>=◌ and_then after_records yield sequence_of value_of after_binary first_tree assign_of converted_to conditional_of refuse binary_of operators_of say unary_of postfix_of left_hand_side_of links_of arguments_of primary_of parenthesized_of spread_of elements_of properties_of property_of shorthand_of key_of binding_of binding_element_of binding_rest_of binding_elements_of binding_properties_of binding_property_of binding_shorthand_of parameters_of head_of parenthesized_head_of body_of
  rules =
      record {
        -- 13.16
        expression_fails = λ h1. settle (λ f le. rw (reads h1 f (omega arith)));
        expression_one = λ h1 h2. settle (λ f le. rw (reads h1 f (omega arith), h2) (simp append-nil));
        expression_more = λ h1 h2 h3. let w1 = within h1 in let s2 = stands sheet.kinds h2 in settle (λ f le. rw (reads h1 f (omega arith), h2, reads h3 f (omega arith)));
        sequence_ends = λ h1. settle (λ f le. rw h1);
        sequence_fails = λ h1 h2. let s1 = stands sheet.kinds h1 in settle (λ f le. rw (h1, reads h2 f (omega arith)));
        sequence_more = λ h1 h2 h3. let s1 = stands sheet.kinds h1 in let w2 = within h2 in settle (λ f le. rw (h1, reads h2 f (omega arith), reads h3 f (omega arith)));
        -- 13.15 and 13.14, past a head
        value_async = λ h1 h2. settle (λ f le. rw (h1, reads h2 f (omega arith)));
        value_fails = λ h1 h2. settle (λ f le. rw (h1, reads h2 f (omega arith)));
        value_arrow = λ h1 h2 h3 h4 h5. let w2 = within h2 in let s4 = stands sheet.kinds h4 in settle (λ f le. rw (h1, reads h2 f (omega arith), h3, h4, reads h5 f (omega arith)));
        value_assigns = λ h1 h2 h3 h4 h5. let w2 = within h2 in settle (λ f le. rw (h1, reads h2 f (omega arith), h3, h4, reads h5 f (omega arith)));
        value_chooses = λ h1 h2 h3 h4 h5 h6. let w2 = within h2 in settle (λ f le. rw (h1, reads h2 f (omega arith), h3, h4, h5, reads h6 f (omega arith)));
        value_stops = λ h1 h2 h3 h4 h5. settle (λ f le. rw (h1, reads h2 f (omega arith), h3, h4, h5) (simp append-nil));
        assign_refused = λ h1. settle (λ f le. rw h1);
        assign_fails = λ h1 h2 h3. settle (λ f le. rw (h2, reads h3 f (omega arith)));
        assign_done = λ h1 h2 h3. settle (λ f le. rw (h2, reads h3 f (omega arith)) (simp append-nil));
        conditional_fails = λ h1 h2. settle (λ f le. rw (reads h2 f (omega arith)));
        conditional_no_colon = λ h1 h2 h3. settle (λ f le. rw (reads h2 f (omega arith), h3));
        conditional_fails_after = λ h1 h2 h3 h4. let w2 = within h2 in let s3 = stands sheet.kinds h3 in settle (λ f le. rw (reads h2 f (omega arith), h3, reads h4 f (omega arith)));
        conditional_done = λ h1 h2 h3 h4. let w2 = within h2 in let s3 = stands sheet.kinds h3 in settle (λ f le. rw (reads h2 f (omega arith), h3, reads h4 f (omega arith)) (simp append-nil));
        -- 13.6 to 13.13
        binary_fails = λ h1. settle (λ f le. rw (reads h1 f (omega arith)));
        binary_more = λ h1 h2. let w1 = within h1 in settle (λ f le. rw (reads h1 f (omega arith), reads h2 f (omega arith)));
        operators_end = λ h1. settle (λ f le. rw h1);
        operators_fail = λ h1 h2 h3. settle (λ f le. rw (h2, reads h3 f (omega arith)));
        operators_more = λ h1 h2 h3 h4. let w3 = within h3 in settle (λ f le. rw (h2, reads h3 f (omega arith), reads h4 f (omega arith)));
        -- 13.5 and 13.4
        unary_fails = λ h1 h2 h3. settle (λ f le. rw (h2, reads h3 f (omega arith)));
        unary_done = λ h1 h2 h3. settle (λ f le. rw (h2, reads h3 f (omega arith)) (simp append-nil));
        update_fails = λ h1 h2 h3 h4. settle (λ f le. rw (h2, h3, reads h4 f (omega arith)));
        update_refused = λ h1 h2 h3 h4 h5. settle (λ f le. rw (h2, h3, reads h4 f (omega arith), h5));
        update_done = λ h1 h2 h3 h4 h5. settle (λ f le. rw (h2, h3, reads h4 f (omega arith), h5) (simp append-nil));
        unary_none = λ h1 h2 h3. settle (λ f le. rw (h1, h2, reads h3 f (omega arith)));
        postfix_fails = λ h1. settle (λ f le. rw (reads h1 f (omega arith)));
        postfix_none = λ h1 h2. settle (λ f le. rw (reads h1 f (omega arith), h2) (simp append-nil));
        postfix_refused = λ h1 h2 h3. settle (λ f le. rw (reads h1 f (omega arith), h2, h3));
        postfix_done = λ h1 h2 h3. settle (λ f le. rw (reads h1 f (omega arith), h2, h3) (simp append-nil));
        -- 13.3
        left_fails = λ h1. settle (λ f le. rw (reads h1 f (omega arith)));
        left_more = λ h1 h2. let w1 = within h1 in settle (λ f le. rw (reads h1 f (omega arith), reads h2 f (omega arith)));
        links_end = λ h1 h2 h3. settle (λ f le. rw (h1, h2, h3));
        links_no_word = λ h1 h2. settle (λ f le. rw (h1, h2));
        links_member = λ h1 h2 h3. let s1 = stands sheet.kinds h1 in settle (λ f le. rw (h1, h2, reads h3 f (omega arith)));
        links_index_fails = λ h1 h2. let s1 = stands sheet.kinds h1 in settle (λ f le. rw (h1, reads h2 f (omega arith)));
        links_index_open = λ h1 h2 h3. let s1 = stands sheet.kinds h1 in settle (λ f le. rw (h1, reads h2 f (omega arith), h3));
        links_index = λ h1 h2 h3 h4. let s1 = stands sheet.kinds h1 in let w2 = within h2 in let s3 = stands sheet.kinds h3 in
            settle (λ f le. rw (h1, reads h2 f (omega arith), h3, reads h4 f (omega arith)));
        links_call_fails = λ h1 h2. let s1 = stands sheet.kinds h1 in settle (λ f le. rw (h1, reads h2 f (omega arith)));
        links_call = λ h1 h2 h3. let s1 = stands sheet.kinds h1 in let w2 = within h2 in settle (λ f le. rw (h1, reads h2 f (omega arith), reads h3 f (omega arith)));
        arguments_end = λ h1. settle (λ f le. rw h1);
        arguments_fail = λ {at} h1 h2. let u2 = item_steps sheet at (token sheet at is Dot3) in settle (λ f le. rw (h1, reads h2 f (omega arith)));
        arguments_more = λ {at} h1 h2 h3 h4. let u2 = item_steps sheet at (token sheet at is Dot3) in let w2 = item_reaches at (token sheet at is Dot3) h2 in let s3 = stands sheet.kinds h3 in
            settle (λ f le. rw (h1, reads h2 f (omega arith), h3, reads h4 f (omega arith)));
        arguments_last = λ {at} h1 h2 h3. let u2 = item_steps sheet at (token sheet at is Dot3) in settle (λ f le. rw (h1, reads h2 f (omega arith), h3) (simp append-nil));
        arguments_open = λ {at} h1 h2 h3 h4. let u2 = item_steps sheet at (token sheet at is Dot3) in settle (λ f le. rw (h1, reads h2 f (omega arith), h3, h4));
        -- 13.2, an expression
        primary_name = λ h1. settle (λ f le. rw h1);
        primary_this = λ h1. unfold is_name in (settle (λ f le. rw h1));
        primary_literal = λ h1 h2 h3. settle (λ f le. rw (h1, h2, h3));
        primary_paren_fails = λ h1 h2. unfold is_name is_literal in (let s1 = stands sheet.kinds h1 in settle (λ f le. rw (h1, reads h2 f (omega arith))));
        primary_paren_open = λ h1 h2 h3. unfold is_name is_literal in (let s1 = stands sheet.kinds h1 in settle (λ f le. rw (h1, reads h2 f (omega arith), h3)));
        primary_paren = λ h1 h2 h3. unfold is_name is_literal in (let s1 = stands sheet.kinds h1 in settle (λ f le. rw (h1, reads h2 f (omega arith), h3) (simp append-nil)));
        primary_array = λ h1 h2. unfold is_name is_literal in (let s1 = stands sheet.kinds h1 in settle (λ f le. rw (h1, reads h2 f (omega arith))));
        primary_object = λ h1 h2. unfold is_name is_literal in (let s1 = stands sheet.kinds h1 in settle (λ f le. rw (h1, reads h2 f (omega arith))));
        primary_none = λ h1 h2 h3 h4 h5 h6. settle (λ f le. rw (h1, h2, h3, h4, h5, h6));
        spread_fails = λ h1 h2. settle (λ f le. rw (reads h2 f (omega arith)));
        spread_done = λ h1 h2. settle (λ f le. rw (reads h2 f (omega arith)) (simp append-nil));
        -- 13.2, the elements of an array
        elements_end = λ h1. settle (λ f le. rw h1);
        elements_hole = λ h1 h2. let s1 = stands sheet.kinds h1 in settle (λ f le. rw (h1, reads h2 f (omega arith)));
        elements_fail = λ {at} h1 h2 h3. let u3 = item_steps sheet at (token sheet at is Dot3) in settle (λ f le. rw (h1, h2, reads h3 f (omega arith)));
        elements_more = λ {at} h1 h2 h3 h4 h5. let u3 = item_steps sheet at (token sheet at is Dot3) in let w3 = item_reaches at (token sheet at is Dot3) h3 in let s4 = stands sheet.kinds h4 in
            settle (λ f le. rw (h1, h2, reads h3 f (omega arith), h4, reads h5 f (omega arith)));
        elements_last = λ {at} h1 h2 h3 h4. let u3 = item_steps sheet at (token sheet at is Dot3) in settle (λ f le. rw (h1, h2, reads h3 f (omega arith), h4) (simp append-nil));
        elements_open = λ {at} h1 h2 h3 h4 h5. let u3 = item_steps sheet at (token sheet at is Dot3) in settle (λ f le. rw (h1, h2, reads h3 f (omega arith), h4, h5));
        -- 13.2, the parts of an object
        properties_end = λ h1. settle (λ f le. rw h1);
        properties_fail = λ {at} h1 h2. let u2 = part_steps sheet at (token sheet at is Dot3) in settle (λ f le. rw (h1, reads h2 f (omega arith)));
        properties_more = λ {at} h1 h2 h3 h4. let u2 = part_steps sheet at (token sheet at is Dot3) in let w2 = part_reaches at (token sheet at is Dot3) h2 in let s3 = stands sheet.kinds h3 in
            settle (λ f le. rw (h1, reads h2 f (omega arith), h3, reads h4 f (omega arith)));
        properties_last = λ {at} h1 h2 h3. let u2 = part_steps sheet at (token sheet at is Dot3) in settle (λ f le. rw (h1, reads h2 f (omega arith), h3) (simp append-nil));
        properties_open = λ {at} h1 h2 h3 h4. let u2 = part_steps sheet at (token sheet at is Dot3) in settle (λ f le. rw (h1, reads h2 f (omega arith), h3, h4));
        property_shorthand = λ h1 h2. settle (λ f le. rw (h1, h2));
        property_init_fails = λ h1 h2 h3. let s2 = stands sheet.kinds h2 in settle (λ f le. rw (h1, h2, reads h3 f (omega arith)));
        property_init = λ h1 h2 h3. let s2 = stands sheet.kinds h2 in settle (λ f le. rw (h1, h2, reads h3 f (omega arith)) (simp append-nil));
        property_key_fails = λ h1 h2. settle (λ f le. rw (h1, reads h2 f (omega arith)));
        property_no_colon = λ h1 h2 h3. settle (λ f le. rw (h1, reads h2 f (omega arith), h3));
        property_value_fails = λ h1 h2 h3 h4. let w2 = within h2 in let s3 = stands sheet.kinds h3 in settle (λ f le. rw (h1, reads h2 f (omega arith), h3, reads h4 f (omega arith)));
        property_done = λ h1 h2 h3 h4. let w2 = within h2 in let s3 = stands sheet.kinds h3 in
            settle (λ f le. rw (h1, reads h2 f (omega arith), h3, reads h4 f (omega arith)) (simp append-nil));
        key_word = λ h1. settle (λ f le. rw h1);
        key_none = λ h1 h2. settle (λ f le. rw (h1, h2));
        key_fails = λ h1 h2. unfold is_word in (let s1 = stands sheet.kinds h1 in settle (λ f le. rw (h1, reads h2 f (omega arith))));
        key_open = λ h1 h2 h3. unfold is_word in (let s1 = stands sheet.kinds h1 in settle (λ f le. rw (h1, reads h2 f (omega arith), h3)));
        key_done = λ h1 h2 h3. unfold is_word in (let s1 = stands sheet.kinds h1 in settle (λ f le. rw (h1, reads h2 f (omega arith), h3) (simp append-nil)));
        -- 14.3.3
        binding_name = λ h1. settle (λ f le. rw h1);
        binding_array = λ h1 h2. unfold is_name in (let s1 = stands sheet.kinds h1 in settle (λ f le. rw (h1, reads h2 f (omega arith))));
        binding_object = λ h1 h2. unfold is_name in (let s1 = stands sheet.kinds h1 in settle (λ f le. rw (h1, reads h2 f (omega arith))));
        binding_none = λ h1 h2 h3. settle (λ f le. rw (h1, h2, h3));
        element_fails = λ h1. settle (λ f le. rw (reads h1 f (omega arith)));
        element_bare = λ h1 h2. settle (λ f le. rw (reads h1 f (omega arith), h2) (simp append-nil));
        element_init_fails = λ h1 h2 h3. let w1 = within h1 in let s2 = stands sheet.kinds h2 in settle (λ f le. rw (reads h1 f (omega arith), h2, reads h3 f (omega arith)));
        element_init = λ h1 h2 h3. let w1 = within h1 in let s2 = stands sheet.kinds h2 in settle (λ f le. rw (reads h1 f (omega arith), h2, reads h3 f (omega arith)) (simp append-nil));
        rest_fails = λ h1 h2. settle (λ f le. rw (reads h2 f (omega arith)));
        rest_done = λ h1 h2. settle (λ f le. rw (reads h2 f (omega arith)) (simp append-nil));
        binding_elements_end = λ h1. settle (λ f le. rw h1);
        binding_elements_hole = λ h1 h2. let s1 = stands sheet.kinds h1 in settle (λ f le. rw (h1, reads h2 f (omega arith)));
        binding_elements_rest_fails = λ h1 h2. let s1 = stands sheet.kinds h1 in settle (λ f le. rw (h1, reads h2 f (omega arith)));
        binding_elements_rest_open = λ h1 h2 h3. let s1 = stands sheet.kinds h1 in settle (λ f le. rw (h1, reads h2 f (omega arith), h3));
        binding_elements_rest = λ h1 h2 h3. let s1 = stands sheet.kinds h1 in settle (λ f le. rw (h1, reads h2 f (omega arith), h3) (simp append-nil));
        binding_elements_fails = λ h1 h2 h3 h4. settle (λ f le. rw (h1, h2, h3, reads h4 f (omega arith)));
        binding_elements_more = λ h1 h2 h3 h4 h5 h6. let w4 = within h4 in let s5 = stands sheet.kinds h5 in
            settle (λ f le. rw (h1, h2, h3, reads h4 f (omega arith), h5, reads h6 f (omega arith)));
        binding_elements_last = λ h1 h2 h3 h4 h5. settle (λ f le. rw (h1, h2, h3, reads h4 f (omega arith), h5) (simp append-nil));
        binding_elements_open = λ h1 h2 h3 h4 h5 h6. settle (λ f le. rw (h1, h2, h3, reads h4 f (omega arith), h5, h6));
        -- 14.3.3, the parts of an object
        binding_properties_end = λ h1. settle (λ f le. rw h1);
        binding_properties_rest_fails = λ h1 h2. let s1 = stands sheet.kinds h1 in settle (λ f le. rw (h1, reads h2 f (omega arith)));
        binding_properties_rest_open = λ h1 h2 h3. let s1 = stands sheet.kinds h1 in settle (λ f le. rw (h1, reads h2 f (omega arith), h3));
        binding_properties_rest_no_name = λ h1 h2 h3 h4. let s1 = stands sheet.kinds h1 in settle (λ f le. rw (h1, reads h2 f (omega arith), h3, h4));
        binding_properties_rest = λ h1 h2 h3 h4. let s1 = stands sheet.kinds h1 in settle (λ f le. rw (h1, reads h2 f (omega arith), h3, h4) (simp append-nil));
        binding_properties_fails = λ h1 h2 h3. settle (λ f le. rw (h1, h2, reads h3 f (omega arith)));
        binding_properties_more = λ h1 h2 h3 h4 h5. let w3 = within h3 in let s4 = stands sheet.kinds h4 in settle (λ f le. rw (h1, h2, reads h3 f (omega arith), h4, reads h5 f (omega arith)));
        binding_properties_last = λ h1 h2 h3 h4. settle (λ f le. rw (h1, h2, reads h3 f (omega arith), h4) (simp append-nil));
        binding_properties_open = λ h1 h2 h3 h4 h5. settle (λ f le. rw (h1, h2, reads h3 f (omega arith), h4, h5));
        binding_property_shorthand = λ h1 h2. settle (λ f le. rw (h1, h2));
        binding_property_init_fails = λ h1 h2 h3. let s2 = stands sheet.kinds h2 in settle (λ f le. rw (h1, h2, reads h3 f (omega arith)));
        binding_property_init = λ h1 h2 h3. let s2 = stands sheet.kinds h2 in settle (λ f le. rw (h1, h2, reads h3 f (omega arith)) (simp append-nil));
        binding_property_key_fails = λ h1 h2. settle (λ f le. rw (h1, reads h2 f (omega arith)));
        binding_property_no_colon = λ h1 h2 h3. settle (λ f le. rw (h1, reads h2 f (omega arith), h3));
        binding_property_value_fails = λ h1 h2 h3 h4. let w2 = within h2 in let s3 = stands sheet.kinds h3 in settle (λ f le. rw (h1, reads h2 f (omega arith), h3, reads h4 f (omega arith)));
        binding_property_done = λ h1 h2 h3 h4. let w2 = within h2 in let s3 = stands sheet.kinds h3 in
            settle (λ f le. rw (h1, reads h2 f (omega arith), h3, reads h4 f (omega arith)) (simp append-nil));
        -- 15.3 and 15.9
        parameters_end = λ h1. settle (λ f le. rw h1);
        parameters_rest_fails = λ h1 h2. let s1 = stands sheet.kinds h1 in settle (λ f le. rw (h1, reads h2 f (omega arith)));
        parameters_rest_open = λ h1 h2 h3. let s1 = stands sheet.kinds h1 in settle (λ f le. rw (h1, reads h2 f (omega arith), h3));
        parameters_rest = λ h1 h2 h3. let s1 = stands sheet.kinds h1 in settle (λ f le. rw (h1, reads h2 f (omega arith), h3) (simp append-nil));
        parameters_fails = λ h1 h2 h3. settle (λ f le. rw (h1, h2, reads h3 f (omega arith)));
        parameters_more = λ h1 h2 h3 h4 h5. let w3 = within h3 in let s4 = stands sheet.kinds h4 in settle (λ f le. rw (h1, h2, reads h3 f (omega arith), h4, reads h5 f (omega arith)));
        parameters_last = λ h1 h2 h3 h4. settle (λ f le. rw (h1, h2, reads h3 f (omega arith), h4) (simp append-nil));
        parameters_open = λ h1 h2 h3 h4 h5. settle (λ f le. rw (h1, h2, reads h3 f (omega arith), h4, h5));
        head_break = λ h1 h2. settle (λ f le. rw (h1, h2));
        head_async_no_paren = λ h1 h2 h3. settle (λ f le. rw (h1, h2, h3));
        head_async_fails = λ h1 h2 h3 h4. let s1 = stands sheet.kinds h1 in let s3 = stands sheet.kinds h3 in settle (λ f le. rw (h1, h2, h3, reads h4 f (omega arith)));
        head_async_no_arrow = λ h1 h2 h3 h4 h5. let s1 = stands sheet.kinds h1 in let s3 = stands sheet.kinds h3 in settle (λ f le. rw (h1, h2, h3, reads h4 f (omega arith), h5));
        head_async_done = λ h1 h2 h3 h4 h5. let s1 = stands sheet.kinds h1 in let s3 = stands sheet.kinds h3 in
            settle (λ f le. rw (h1, h2, h3, reads h4 f (omega arith), h5) (simp append-nil));
        head_no_paren = λ h1 h2. settle (λ f le. rw (h1, h2));
        head_fails = λ h1 h2 h3. let s2 = stands sheet.kinds h2 in settle (λ f le. rw (h1, h2, reads h3 f (omega arith)));
        head_no_arrow = λ h1 h2 h3 h4. let s2 = stands sheet.kinds h2 in settle (λ f le. rw (h1, h2, reads h3 f (omega arith), h4));
        head_done = λ h1 h2 h3 h4. let s2 = stands sheet.kinds h2 in settle (λ f le. rw (h1, h2, reads h3 f (omega arith), h4) (simp append-nil));
        body_curly = λ h1. settle (λ f le. rw h1);
        body_fails = λ h1 h2 h3. settle (λ f le. rw (h2, reads h3 f (omega arith)));
        body_done = λ h1 h2 h3. settle (λ f le. rw (h2, reads h3 f (omega arith)) (simp append-nil));
      }
