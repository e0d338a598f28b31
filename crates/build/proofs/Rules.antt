-- The grammar's productions as rules on what a job comes to in the box's reading: those of laws/proofs/Rules.antt, by the names that the reader's proofs cite.
-- Assumes nothing.
use Rattle.std.specs.Prelude.{if◌then◌else◌}
use Prim.Native.Nat.{ℕ, suc, ◌+◌, ◌≤◌, ◌<◌}
use mathlib.Core.Path.{◌≡◌}
use mathlib.Core.Bool.{true, false, not}
use mathlib.Core.List.{List, [], ◌∷◌, ◌++◌}
use lib.Dec.{ltb}
use lib.ListN.{length, get_or}
use borrow.Author.Tests.{ne_eqb}
use Rattle.tokens.specs.Bool.{◌or◌, ◌and◌, ◌is◌}
use Rattle.tokens.specs.Kind.{Async, This, Str, Number, LParen, RParen, LBrack, RBrack, LCurly, RCurly, Comma, Colon, Question, Dot, Dot3, Arrow, Eq}
use Rattle.tokens.specs.Token.{is_name, is_word, is_literal}
use Rattle.tokens.specs.declared.cause.Cause.{Cause}
use Rattle.operators.specs.Precedence.{expression_level}
use Rattle.rows.specs.Tree.{Tree, Forest, node, nil, cons, one, join, kind_of, mark_of, kids_of}
use Rattle.rows.specs.Record.{Record, break_before_arrow, rest_initializer}
use Rattle.rows.specs.Row as Row
use Rattle.conversion.specs.Conversion.{any, simple, turned, refused, convert_as}
use Rattle.grammar.specs.Sheet.{sheet_of, Out, done, fail, first_tree, leaf, after_records}
use Rattle.grammar.specs.Job.{Job, expression, sequence, assignment, value, assign, conditional, binary, operators, unary, postfix, left_hand_side, links, arguments, primary, elements, properties, property, key, spread, binding, binding_element, binding_elements, binding_properties, binding_property, binding_rest, head, parameters, body}
use Rattle.grammar.specs.Assignment.{is_assignment_operator, is_async_name}
use Rattle.grammar.specs.Binary.{operation_kind, right_floor, operation_records}
use Rattle.grammar.specs.Update.{is_unary_operator, is_update_operator}
use Rattle.grammar.specs.Step.{step, read}
use Rattle.grammar.specs.Reading.{box}
use Rattle.laws.specs.Settles.{μ}
use Rattle.laws.proofs.Rules.{Word, settles_by, rules}
use Rattle.build.specs.Post.{Comes}

pub record Reaches (ks : List ℕ) (at p : ℕ) : Type 0 where
  pub forward : at < p
  pub inside : p ≤ length ks

-- one step of the reading
abbrev pub one_step : List ℕ → List ℕ → ℕ → Job → List ℕ → Out (List ℕ)
one_step ks fs f job m = step (box (sheet_of ks fs)) (sheet_of ks fs) (read (box (sheet_of ks fs)) (sheet_of ks fs) f) job m

module _ {ks fs : List ℕ} where
  pub come : {job : Job} {m : List ℕ} {out : Out (List ℕ)} → ((f : ℕ) → μ (sheet_of ks fs) job ≤ suc f → one_step ks fs f job m ≡ out) → Comes ks fs job m out
  come h = record { settles = settles_by h }

  comes : Word (box (sheet_of ks fs)) (sheet_of ks fs) (Comes ks fs)
  comes = record { settled = λ h. h.settles; given = λ h. record { settles = h } }

  -- 13.16
  pub expression_fails : {at : ℕ} {m m' : List ℕ} {c : Cause} → Comes ks fs (assignment at) m (fail c m') → Comes ks fs (expression at) m (fail c m')
  expression_fails = (rules comes).expression_fails

  pub expression_one : {at p : ℕ} {m m' : List ℕ} {ts : Forest} {rs : List Record} → Comes ks fs (assignment at) m (done p ts rs m') → (get_or ks p 0 ≡ Comma → ⊥) → Comes ks fs (expression at) m (done p ts rs m')
  expression_one h1 h2 = (rules comes).expression_one h1 (ne_eqb _ _ h2)

  pub expression_more : {at p : ℕ} {m m' : List ℕ} {ts : Forest} {rs : List Record} {out : Out (List ℕ)} → Comes ks fs (assignment at) m (done p ts rs m') → get_or ks p 0 ≡ Comma → Comes ks fs (sequence at p p ts) m' out → Comes ks fs (expression at) m (after_records rs out)
  expression_more = (rules comes).expression_more

  pub sequence_ends : {at first comma : ℕ} {m : List ℕ} {so_far : Forest} → (get_or ks at 0 ≡ Comma → ⊥) → Comes ks fs (sequence first comma at so_far) m (done at (one (node Row.Sequence comma first at so_far)) [] m)
  sequence_ends h1 = (rules comes).sequence_ends (ne_eqb _ _ h1)

  pub sequence_fails : {at first comma : ℕ} {m m' : List ℕ} {so_far : Forest} {c : Cause} → get_or ks at 0 ≡ Comma → Comes ks fs (assignment (at + 1)) m (fail c m') → Comes ks fs (sequence first comma at so_far) m (fail c m')
  sequence_fails = (rules comes).sequence_fails

  pub sequence_more : {at p first comma : ℕ} {m m' : List ℕ} {ts so_far : Forest} {rs : List Record} {out : Out (List ℕ)} → get_or ks at 0 ≡ Comma → Comes ks fs (assignment (at + 1)) m (done p ts rs m') → Comes ks fs (sequence first comma p (join so_far ts)) m' out → Comes ks fs (sequence first comma at so_far) m (after_records rs out)
  sequence_more = (rules comes).sequence_more

  -- 13.15 and 13.14, past a head
  pub value_async : {at : ℕ} {m : List ℕ} {out : Out (List ℕ)} → is_async_name (sheet_of ks fs) at ≡ true → Comes ks fs (body Row.AsyncArrow at (at + 2) (one (leaf Row.BindingName (at + 1)))) m out → Comes ks fs (value at) m out
  value_async = (rules comes).value_async

  pub value_fails : {at : ℕ} {m m' : List ℕ} {c : Cause} → is_async_name (sheet_of ks fs) at ≡ false → Comes ks fs (binary 0 at) m (fail c m') → Comes ks fs (value at) m (fail c m')
  value_fails = (rules comes).value_fails

  pub value_arrow : {at p : ℕ} {m m' : List ℕ} {t : Tree} {rs : List Record} {out : Out (List ℕ)} → is_async_name (sheet_of ks fs) at ≡ false → Comes ks fs (binary 0 at) m (done p (one t) rs m') → kind_of t is Row.Identifier ≡ true → get_or ks p 0 ≡ Arrow → Comes ks fs (body Row.Arrow at p (one (leaf Row.BindingName at))) m' out → Comes ks fs (value at) m (after_records rs out)
  value_arrow = (rules comes).value_arrow

  pub value_assigns : {at p : ℕ} {m m' : List ℕ} {t : Tree} {rs : List Record} {out : Out (List ℕ)} → is_async_name (sheet_of ks fs) at ≡ false → Comes ks fs (binary 0 at) m (done p (one t) rs m') → (kind_of t is Row.Identifier and get_or ks p 0 is Arrow) ≡ false → is_assignment_operator (get_or ks p 0) ≡ true → Comes ks fs (assign at p t) m' out → Comes ks fs (value at) m (after_records rs out)
  value_assigns = (rules comes).value_assigns

  pub value_chooses : {at p : ℕ} {m m' : List ℕ} {t : Tree} {rs : List Record} {out : Out (List ℕ)} → is_async_name (sheet_of ks fs) at ≡ false → Comes ks fs (binary 0 at) m (done p (one t) rs m') → (kind_of t is Row.Identifier and get_or ks p 0 is Arrow) ≡ false → is_assignment_operator (get_or ks p 0) ≡ false → get_or ks p 0 is Question ≡ true → Comes ks fs (conditional at p t) m' out → Comes ks fs (value at) m (after_records rs out)
  value_chooses = (rules comes).value_chooses

  pub value_stops : {at p : ℕ} {m m' : List ℕ} {t : Tree} {rs : List Record} → is_async_name (sheet_of ks fs) at ≡ false → Comes ks fs (binary 0 at) m (done p (one t) rs m') → (kind_of t is Row.Identifier and get_or ks p 0 is Arrow) ≡ false → is_assignment_operator (get_or ks p 0) ≡ false → (get_or ks p 0 ≡ Question → ⊥) → Comes ks fs (value at) m (done p (one t) rs m')
  value_stops h1 h2 h3 h4 h5 = (rules comes).value_stops h1 h2 h3 h4 (ne_eqb _ _ h5)

  pub assign_refused : {at first : ℕ} {m : List ℕ} {left : Tree} {c : Cause} → convert_as left (if get_or ks at 0 is Eq then any else simple) ≡ refused c → Comes ks fs (assign first at left) m (fail c m)
  assign_refused = (rules comes).assign_refused

  pub assign_fails : {at first : ℕ} {m m' : List ℕ} {left t : Tree} {rs : List Record} {c : Cause} → at < length ks → convert_as left (if get_or ks at 0 is Eq then any else simple) ≡ turned t rs → Comes ks fs (assignment (at + 1)) m (fail c m') → Comes ks fs (assign first at left) m (fail c m')
  assign_fails = (rules comes).assign_fails

  pub assign_done : {at p first : ℕ} {m m' : List ℕ} {ts : Forest} {left t : Tree} {rs rs' : List Record} → at < length ks → convert_as left (if get_or ks at 0 is Eq then any else simple) ≡ turned t rs → Comes ks fs (assignment (at + 1)) m (done p ts rs' m') → Comes ks fs (assign first at left) m (done p (one (node (if get_or ks at 0 is Eq then Row.Assign else Row.CompoundAssign) at first p (join (one t) ts))) (rs ++ rs') m')
  assign_done = (rules comes).assign_done

  pub conditional_fails : {at first : ℕ} {m m' : List ℕ} {left : Tree} {c : Cause} → at < length ks → Comes ks fs (assignment (at + 1)) m (fail c m') → Comes ks fs (conditional first at left) m (fail c m')
  conditional_fails = (rules comes).conditional_fails

  pub conditional_no_colon : {at p first : ℕ} {m m' : List ℕ} {ts : Forest} {left : Tree} {rs : List Record} → at < length ks → Comes ks fs (assignment (at + 1)) m (done p ts rs m') → (get_or ks p 0 ≡ Colon → ⊥) → Comes ks fs (conditional first at left) m (fail (Cause.Unexpected p) m')
  conditional_no_colon h1 h2 h3 = (rules comes).conditional_no_colon h1 h2 (ne_eqb _ _ h3)

  pub conditional_fails_after : {at p first : ℕ} {m m' m'' : List ℕ} {ts : Forest} {left : Tree} {rs : List Record} {c : Cause} → at < length ks → Comes ks fs (assignment (at + 1)) m (done p ts rs m') → get_or ks p 0 ≡ Colon → Comes ks fs (assignment (p + 1)) m' (fail c m'') → Comes ks fs (conditional first at left) m (fail c m'')
  conditional_fails_after = (rules comes).conditional_fails_after

  pub conditional_done : {at p q first : ℕ} {m m' m'' : List ℕ} {ts us : Forest} {left : Tree} {rs rs' : List Record} → at < length ks → Comes ks fs (assignment (at + 1)) m (done p ts rs m') → get_or ks p 0 ≡ Colon → Comes ks fs (assignment (p + 1)) m' (done q us rs' m'') → Comes ks fs (conditional first at left) m (done q (one (node Row.Conditional at first q (cons left (join ts us)))) (rs ++ rs') m'')
  conditional_done = (rules comes).conditional_done

  -- 13.6 to 13.13
  pub binary_fails : {at floor : ℕ} {m m' : List ℕ} {c : Cause} → Comes ks fs (unary at) m (fail c m') → Comes ks fs (binary floor at) m (fail c m')
  binary_fails = (rules comes).binary_fails

  pub binary_more : {at p floor : ℕ} {m m' : List ℕ} {t : Tree} {rs : List Record} {out : Out (List ℕ)} → Comes ks fs (unary at) m (done p (one t) rs m') → Comes ks fs (operators floor at p t) m' out → Comes ks fs (binary floor at) m (after_records rs out)
  binary_more = (rules comes).binary_more

  pub operators_end : {at first floor : ℕ} {m : List ℕ} {left : Tree} → ltb floor (expression_level (get_or ks at 0)) ≡ false → Comes ks fs (operators floor first at left) m (done at (one left) [] m)
  operators_end = (rules comes).operators_end

  pub operators_fail : {at first floor : ℕ} {m m' : List ℕ} {left : Tree} {c : Cause} → at < length ks → ltb floor (expression_level (get_or ks at 0)) ≡ true → Comes ks fs (binary (right_floor (get_or ks at 0)) (at + 1)) m (fail c m') → Comes ks fs (operators floor first at left) m (fail c m')
  operators_fail = (rules comes).operators_fail

  pub operators_more : {at p first floor : ℕ} {m m' : List ℕ} {left t : Tree} {rs : List Record} {out : Out (List ℕ)} → at < length ks → ltb floor (expression_level (get_or ks at 0)) ≡ true → Comes ks fs (binary (right_floor (get_or ks at 0)) (at + 1)) m (done p (one t) rs m') → Comes ks fs (operators floor first p (node (operation_kind (get_or ks at 0)) at first p (cons left (one t)))) m' out → Comes ks fs (operators floor first at left) m (after_records rs (after_records (operation_records (sheet_of ks fs) at left t) out))
  operators_more = (rules comes).operators_more

  -- 13.5 and 13.4
  pub unary_fails : {at : ℕ} {m m' : List ℕ} {c : Cause} → at < length ks → is_unary_operator (get_or ks at 0) ≡ true → Comes ks fs (unary (at + 1)) m (fail c m') → Comes ks fs (unary at) m (fail c m')
  unary_fails = (rules comes).unary_fails

  pub unary_done : {at p : ℕ} {m m' : List ℕ} {ts : Forest} {rs : List Record} → at < length ks → is_unary_operator (get_or ks at 0) ≡ true → Comes ks fs (unary (at + 1)) m (done p ts rs m') → Comes ks fs (unary at) m (done p (one (node Row.Unary at at p ts)) rs m')
  unary_done = (rules comes).unary_done

  pub update_fails : {at : ℕ} {m m' : List ℕ} {c : Cause} → at < length ks → is_unary_operator (get_or ks at 0) ≡ false → is_update_operator (get_or ks at 0) ≡ true → Comes ks fs (unary (at + 1)) m (fail c m') → Comes ks fs (unary at) m (fail c m')
  update_fails = (rules comes).update_fails

  pub update_refused : {at p : ℕ} {m m' : List ℕ} {t : Tree} {rs : List Record} {c : Cause} → at < length ks → is_unary_operator (get_or ks at 0) ≡ false → is_update_operator (get_or ks at 0) ≡ true → Comes ks fs (unary (at + 1)) m (done p (one t) rs m') → convert_as t simple ≡ refused c → Comes ks fs (unary at) m (fail c m')
  update_refused = (rules comes).update_refused

  pub update_done : {at p : ℕ} {m m' : List ℕ} {t u : Tree} {rs rs' : List Record} → at < length ks → is_unary_operator (get_or ks at 0) ≡ false → is_update_operator (get_or ks at 0) ≡ true → Comes ks fs (unary (at + 1)) m (done p (one t) rs m') → convert_as t simple ≡ turned u rs' → Comes ks fs (unary at) m (done p (one (node Row.PrefixUpdate at at p (one u))) (rs ++ rs') m')
  update_done = (rules comes).update_done

  pub unary_none : {at : ℕ} {m : List ℕ} {out : Out (List ℕ)} → is_unary_operator (get_or ks at 0) ≡ false → is_update_operator (get_or ks at 0) ≡ false → Comes ks fs (postfix at) m out → Comes ks fs (unary at) m out
  unary_none = (rules comes).unary_none

  pub postfix_fails : {at : ℕ} {m m' : List ℕ} {c : Cause} → Comes ks fs (left_hand_side at) m (fail c m') → Comes ks fs (postfix at) m (fail c m')
  postfix_fails = (rules comes).postfix_fails

  pub postfix_none : {at p : ℕ} {m m' : List ℕ} {ts : Forest} {rs : List Record} → Comes ks fs (left_hand_side at) m (done p ts rs m') → (is_update_operator (get_or ks p 0) and not (get_or fs p 0 is 1)) ≡ false → Comes ks fs (postfix at) m (done p ts rs m')
  postfix_none = (rules comes).postfix_none

  pub postfix_refused : {at p : ℕ} {m m' : List ℕ} {t : Tree} {rs : List Record} {c : Cause} → Comes ks fs (left_hand_side at) m (done p (one t) rs m') → (is_update_operator (get_or ks p 0) and not (get_or fs p 0 is 1)) ≡ true → convert_as t simple ≡ refused c → Comes ks fs (postfix at) m (fail c m')
  postfix_refused = (rules comes).postfix_refused

  pub postfix_done : {at p : ℕ} {m m' : List ℕ} {t u : Tree} {rs rs' : List Record} → Comes ks fs (left_hand_side at) m (done p (one t) rs m') → (is_update_operator (get_or ks p 0) and not (get_or fs p 0 is 1)) ≡ true → convert_as t simple ≡ turned u rs' → Comes ks fs (postfix at) m (done (p + 1) (one (node Row.PostfixUpdate p at (p + 1) (one u))) (rs ++ rs') m')
  postfix_done = (rules comes).postfix_done

  -- 13.3
  pub left_fails : {at : ℕ} {m m' : List ℕ} {c : Cause} → Comes ks fs (primary at) m (fail c m') → Comes ks fs (left_hand_side at) m (fail c m')
  left_fails = (rules comes).left_fails

  pub left_more : {at p : ℕ} {m m' : List ℕ} {t : Tree} {rs : List Record} {out : Out (List ℕ)} → Comes ks fs (primary at) m (done p (one t) rs m') → Comes ks fs (links at p t) m' out → Comes ks fs (left_hand_side at) m (after_records rs out)
  left_more = (rules comes).left_more

  pub links_end : {at first : ℕ} {m : List ℕ} {left : Tree} → (get_or ks at 0 ≡ Dot → ⊥) → (get_or ks at 0 ≡ LBrack → ⊥) → (get_or ks at 0 ≡ LParen → ⊥) → Comes ks fs (links first at left) m (done at (one left) [] m)
  links_end h1 h2 h3 = (rules comes).links_end (ne_eqb _ _ h1) (ne_eqb _ _ h2) (ne_eqb _ _ h3)

  pub links_no_word : {at first : ℕ} {m : List ℕ} {left : Tree} → get_or ks at 0 ≡ Dot → is_word (get_or ks (at + 1) 0) ≡ false → Comes ks fs (links first at left) m (fail (Cause.Unexpected (at + 1)) m)
  links_no_word = (rules comes).links_no_word

  pub links_member : {at first : ℕ} {m : List ℕ} {left : Tree} {out : Out (List ℕ)} → get_or ks at 0 ≡ Dot → is_word (get_or ks (at + 1) 0) ≡ true → Comes ks fs (links first (at + 2) (node Row.Member (at + 1) first (at + 2) (one left))) m out → Comes ks fs (links first at left) m out
  links_member = (rules comes).links_member

  pub links_index_fails : {at first : ℕ} {m m' : List ℕ} {left : Tree} {c : Cause} → get_or ks at 0 ≡ LBrack → Comes ks fs (expression (at + 1)) m (fail c m') → Comes ks fs (links first at left) m (fail c m')
  links_index_fails = (rules comes).links_index_fails

  pub links_index_open : {at p first : ℕ} {m m' : List ℕ} {ts : Forest} {left : Tree} {rs : List Record} → get_or ks at 0 ≡ LBrack → Comes ks fs (expression (at + 1)) m (done p ts rs m') → (get_or ks p 0 ≡ RBrack → ⊥) → Comes ks fs (links first at left) m (fail (Cause.Unexpected p) m')
  links_index_open h1 h2 h3 = (rules comes).links_index_open h1 h2 (ne_eqb _ _ h3)

  pub links_index : {at p first : ℕ} {m m' : List ℕ} {ts : Forest} {left : Tree} {rs : List Record} {out : Out (List ℕ)} → get_or ks at 0 ≡ LBrack → Comes ks fs (expression (at + 1)) m (done p ts rs m') → get_or ks p 0 ≡ RBrack → Comes ks fs (links first (p + 1) (node Row.Index first first (p + 1) (cons left ts))) m' out → Comes ks fs (links first at left) m (after_records rs out)
  links_index = (rules comes).links_index

  pub links_call_fails : {at first : ℕ} {m m' : List ℕ} {left : Tree} {c : Cause} → get_or ks at 0 ≡ LParen → Comes ks fs (arguments first (at + 1) (one left)) m (fail c m') → Comes ks fs (links first at left) m (fail c m')
  links_call_fails = (rules comes).links_call_fails

  pub links_call : {at p first : ℕ} {m m' : List ℕ} {left t : Tree} {rs : List Record} {out : Out (List ℕ)} → get_or ks at 0 ≡ LParen → Comes ks fs (arguments first (at + 1) (one left)) m (done p (one t) rs m') → Comes ks fs (links first p t) m' out → Comes ks fs (links first at left) m (after_records rs out)
  links_call = (rules comes).links_call

  pub arguments_end : {at first : ℕ} {m : List ℕ} {so_far : Forest} → get_or ks at 0 ≡ RParen → Comes ks fs (arguments first at so_far) m (done (at + 1) (one (node Row.Call first first (at + 1) so_far)) [] m)
  arguments_end = (rules comes).arguments_end

  pub arguments_fail : {at first : ℕ} {m m' : List ℕ} {so_far : Forest} {c : Cause} → (get_or ks at 0 ≡ RParen → ⊥) → Comes ks fs (if get_or ks at 0 is Dot3 then spread at else assignment at) m (fail c m') → Comes ks fs (arguments first at so_far) m (fail c m')
  arguments_fail h1 h2 = (rules comes).arguments_fail (ne_eqb _ _ h1) h2

  pub arguments_more : {at p first : ℕ} {m m' : List ℕ} {ts so_far : Forest} {rs : List Record} {out : Out (List ℕ)} → (get_or ks at 0 ≡ RParen → ⊥) → Comes ks fs (if get_or ks at 0 is Dot3 then spread at else assignment at) m (done p ts rs m') → get_or ks p 0 ≡ Comma → Comes ks fs (arguments first (p + 1) (join so_far ts)) m' out → Comes ks fs (arguments first at so_far) m (after_records rs out)
  arguments_more h1 h2 h3 h4 = (rules comes).arguments_more (ne_eqb _ _ h1) h2 h3 h4

  pub arguments_last : {at p first : ℕ} {m m' : List ℕ} {ts so_far : Forest} {rs : List Record} → (get_or ks at 0 ≡ RParen → ⊥) → Comes ks fs (if get_or ks at 0 is Dot3 then spread at else assignment at) m (done p ts rs m') → get_or ks p 0 ≡ RParen → Comes ks fs (arguments first at so_far) m (done (p + 1) (one (node Row.Call first first (p + 1) (join so_far ts))) rs m')
  arguments_last h1 h2 h3 = (rules comes).arguments_last (ne_eqb _ _ h1) h2 h3

  pub arguments_open : {at p first : ℕ} {m m' : List ℕ} {ts so_far : Forest} {rs : List Record} → (get_or ks at 0 ≡ RParen → ⊥) → Comes ks fs (if get_or ks at 0 is Dot3 then spread at else assignment at) m (done p ts rs m') → (get_or ks p 0 ≡ Comma → ⊥) → (get_or ks p 0 ≡ RParen → ⊥) → Comes ks fs (arguments first at so_far) m (fail (Cause.Unexpected p) m')
  arguments_open h1 h2 h3 h4 = (rules comes).arguments_open (ne_eqb _ _ h1) h2 (ne_eqb _ _ h3) (ne_eqb _ _ h4)

  -- 13.2, an expression
  pub primary_name : {at : ℕ} {m : List ℕ} → is_name (get_or ks at 0) ≡ true → Comes ks fs (primary at) m (done (at + 1) (one (leaf Row.Identifier at)) [] m)
  primary_name = (rules comes).primary_name

  pub primary_this : {at : ℕ} {m : List ℕ} → get_or ks at 0 ≡ This → Comes ks fs (primary at) m (done (at + 1) (one (leaf Row.This at)) [] m)
  primary_this = (rules comes).primary_this

  pub primary_literal : {at : ℕ} {m : List ℕ} → is_name (get_or ks at 0) ≡ false → (get_or ks at 0 ≡ This → ⊥) → is_literal (get_or ks at 0) ≡ true → Comes ks fs (primary at) m (done (at + 1) (one (leaf Row.Literal at)) [] m)
  primary_literal h1 h2 h3 = (rules comes).primary_literal h1 (ne_eqb _ _ h2) h3

  pub primary_paren_fails : {at : ℕ} {m m' : List ℕ} {c : Cause} → get_or ks at 0 ≡ LParen → Comes ks fs (expression (at + 1)) m (fail c m') → Comes ks fs (primary at) m (fail c m')
  primary_paren_fails = (rules comes).primary_paren_fails

  pub primary_paren_open : {at p : ℕ} {m m' : List ℕ} {ts : Forest} {rs : List Record} → get_or ks at 0 ≡ LParen → Comes ks fs (expression (at + 1)) m (done p ts rs m') → (get_or ks p 0 ≡ RParen → ⊥) → Comes ks fs (primary at) m (fail (Cause.Unexpected p) m')
  primary_paren_open h1 h2 h3 = (rules comes).primary_paren_open h1 h2 (ne_eqb _ _ h3)

  pub primary_paren : {at p : ℕ} {m m' : List ℕ} {ts : Forest} {rs : List Record} → get_or ks at 0 ≡ LParen → Comes ks fs (expression (at + 1)) m (done p ts rs m') → get_or ks p 0 ≡ RParen → Comes ks fs (primary at) m (done (p + 1) (one (node Row.Paren at at (p + 1) ts)) rs m')
  primary_paren = (rules comes).primary_paren

  pub primary_array : {at : ℕ} {m : List ℕ} {out : Out (List ℕ)} → get_or ks at 0 ≡ LBrack → Comes ks fs (elements at (at + 1) Row.Array nil) m out → Comes ks fs (primary at) m out
  primary_array = (rules comes).primary_array

  pub primary_object : {at : ℕ} {m : List ℕ} {out : Out (List ℕ)} → get_or ks at 0 ≡ LCurly → Comes ks fs (properties at (at + 1) Row.Object nil) m out → Comes ks fs (primary at) m out
  primary_object = (rules comes).primary_object

  pub primary_none : {at : ℕ} {m : List ℕ} → is_name (get_or ks at 0) ≡ false → (get_or ks at 0 ≡ This → ⊥) → is_literal (get_or ks at 0) ≡ false → (get_or ks at 0 ≡ LParen → ⊥) → (get_or ks at 0 ≡ LBrack → ⊥) → (get_or ks at 0 ≡ LCurly → ⊥) → Comes ks fs (primary at) m (fail (Cause.Unexpected at) m)
  primary_none h1 h2 h3 h4 h5 h6 = (rules comes).primary_none h1 (ne_eqb _ _ h2) h3 (ne_eqb _ _ h4) (ne_eqb _ _ h5) (ne_eqb _ _ h6)

  pub spread_fails : {at : ℕ} {m m' : List ℕ} {c : Cause} → at < length ks → Comes ks fs (assignment (at + 1)) m (fail c m') → Comes ks fs (spread at) m (fail c m')
  spread_fails = (rules comes).spread_fails

  pub spread_done : {at p : ℕ} {m m' : List ℕ} {ts : Forest} {rs : List Record} → at < length ks → Comes ks fs (assignment (at + 1)) m (done p ts rs m') → Comes ks fs (spread at) m (done p (one (node Row.Spread at at p ts)) rs m')
  spread_done = (rules comes).spread_done

  -- 13.2, the elements of an array
  pub elements_end : {at first kind : ℕ} {m : List ℕ} {so_far : Forest} → get_or ks at 0 ≡ RBrack → Comes ks fs (elements first at kind so_far) m (done (at + 1) (one (node kind first first (at + 1) so_far)) [] m)
  elements_end = (rules comes).elements_end

  pub elements_hole : {at first kind : ℕ} {m : List ℕ} {so_far : Forest} {out : Out (List ℕ)} → get_or ks at 0 ≡ Comma → Comes ks fs (elements first (at + 1) Row.Array (join so_far (one (leaf Row.Hole at)))) m out → Comes ks fs (elements first at kind so_far) m out
  elements_hole = (rules comes).elements_hole

  pub elements_fail : {at first kind : ℕ} {m m' : List ℕ} {so_far : Forest} {c : Cause} → (get_or ks at 0 ≡ RBrack → ⊥) → (get_or ks at 0 ≡ Comma → ⊥) → Comes ks fs (if get_or ks at 0 is Dot3 then spread at else assignment at) m (fail c m') → Comes ks fs (elements first at kind so_far) m (fail c m')
  elements_fail h1 h2 h3 = (rules comes).elements_fail (ne_eqb _ _ h1) (ne_eqb _ _ h2) h3

  pub elements_more : {at p first kind : ℕ} {m m' : List ℕ} {ts so_far : Forest} {rs : List Record} {out : Out (List ℕ)} → (get_or ks at 0 ≡ RBrack → ⊥) → (get_or ks at 0 ≡ Comma → ⊥) → Comes ks fs (if get_or ks at 0 is Dot3 then spread at else assignment at) m (done p ts rs m') → get_or ks p 0 ≡ Comma → Comes ks fs (elements first (p + 1) (if get_or ks at 0 is Dot3 then Row.ArrayRestComma else Row.Array) (join so_far ts)) m' out → Comes ks fs (elements first at kind so_far) m (after_records rs out)
  elements_more h1 h2 h3 h4 h5 = (rules comes).elements_more (ne_eqb _ _ h1) (ne_eqb _ _ h2) h3 h4 h5

  pub elements_last : {at p first kind : ℕ} {m m' : List ℕ} {ts so_far : Forest} {rs : List Record} → (get_or ks at 0 ≡ RBrack → ⊥) → (get_or ks at 0 ≡ Comma → ⊥) → Comes ks fs (if get_or ks at 0 is Dot3 then spread at else assignment at) m (done p ts rs m') → get_or ks p 0 ≡ RBrack → Comes ks fs (elements first at kind so_far) m (done (p + 1) (one (node Row.Array first first (p + 1) (join so_far ts))) rs m')
  elements_last h1 h2 h3 h4 = (rules comes).elements_last (ne_eqb _ _ h1) (ne_eqb _ _ h2) h3 h4

  pub elements_open : {at p first kind : ℕ} {m m' : List ℕ} {ts so_far : Forest} {rs : List Record} → (get_or ks at 0 ≡ RBrack → ⊥) → (get_or ks at 0 ≡ Comma → ⊥) → Comes ks fs (if get_or ks at 0 is Dot3 then spread at else assignment at) m (done p ts rs m') → (get_or ks p 0 ≡ Comma → ⊥) → (get_or ks p 0 ≡ RBrack → ⊥) → Comes ks fs (elements first at kind so_far) m (fail (Cause.Unexpected p) m')
  elements_open h1 h2 h3 h4 h5 = (rules comes).elements_open (ne_eqb _ _ h1) (ne_eqb _ _ h2) h3 (ne_eqb _ _ h4) (ne_eqb _ _ h5)

  -- 13.2, the parts of an object
  pub properties_end : {at first kind : ℕ} {m : List ℕ} {so_far : Forest} → get_or ks at 0 ≡ RCurly → Comes ks fs (properties first at kind so_far) m (done (at + 1) (one (node kind first first (at + 1) so_far)) [] m)
  properties_end = (rules comes).properties_end

  pub properties_fail : {at first kind : ℕ} {m m' : List ℕ} {so_far : Forest} {c : Cause} → (get_or ks at 0 ≡ RCurly → ⊥) → Comes ks fs (if get_or ks at 0 is Dot3 then spread at else property at) m (fail c m') → Comes ks fs (properties first at kind so_far) m (fail c m')
  properties_fail h1 h2 = (rules comes).properties_fail (ne_eqb _ _ h1) h2

  pub properties_more : {at p first kind : ℕ} {m m' : List ℕ} {ts so_far : Forest} {rs : List Record} {out : Out (List ℕ)} → (get_or ks at 0 ≡ RCurly → ⊥) → Comes ks fs (if get_or ks at 0 is Dot3 then spread at else property at) m (done p ts rs m') → get_or ks p 0 ≡ Comma → Comes ks fs (properties first (p + 1) (if get_or ks at 0 is Dot3 then Row.ObjectRestComma else Row.Object) (join so_far ts)) m' out → Comes ks fs (properties first at kind so_far) m (after_records rs out)
  properties_more h1 h2 h3 h4 = (rules comes).properties_more (ne_eqb _ _ h1) h2 h3 h4

  pub properties_last : {at p first kind : ℕ} {m m' : List ℕ} {ts so_far : Forest} {rs : List Record} → (get_or ks at 0 ≡ RCurly → ⊥) → Comes ks fs (if get_or ks at 0 is Dot3 then spread at else property at) m (done p ts rs m') → get_or ks p 0 ≡ RCurly → Comes ks fs (properties first at kind so_far) m (done (p + 1) (one (node Row.Object first first (p + 1) (join so_far ts))) rs m')
  properties_last h1 h2 h3 = (rules comes).properties_last (ne_eqb _ _ h1) h2 h3

  pub properties_open : {at p first kind : ℕ} {m m' : List ℕ} {ts so_far : Forest} {rs : List Record} → (get_or ks at 0 ≡ RCurly → ⊥) → Comes ks fs (if get_or ks at 0 is Dot3 then spread at else property at) m (done p ts rs m') → (get_or ks p 0 ≡ Comma → ⊥) → (get_or ks p 0 ≡ RCurly → ⊥) → Comes ks fs (properties first at kind so_far) m (fail (Cause.Unexpected p) m')
  properties_open h1 h2 h3 h4 = (rules comes).properties_open (ne_eqb _ _ h1) h2 (ne_eqb _ _ h3) (ne_eqb _ _ h4)

  pub property_shorthand : {at : ℕ} {m : List ℕ} → (is_name (get_or ks at 0) and not (get_or ks (at + 1) 0 is Colon)) ≡ true → (get_or ks (at + 1) 0 ≡ Eq → ⊥) → Comes ks fs (property at) m (done (at + 1) (one (node Row.Shorthand at at (at + 1) (one (leaf Row.Identifier at)))) [] m)
  property_shorthand h1 h2 = (rules comes).property_shorthand h1 (ne_eqb _ _ h2)

  pub property_init_fails : {at : ℕ} {m m' : List ℕ} {c : Cause} → (is_name (get_or ks at 0) and not (get_or ks (at + 1) 0 is Colon)) ≡ true → get_or ks (at + 1) 0 ≡ Eq → Comes ks fs (assignment (at + 2)) m (fail c m') → Comes ks fs (property at) m (fail c m')
  property_init_fails = (rules comes).property_init_fails

  pub property_init : {at p : ℕ} {m m' : List ℕ} {ts : Forest} {rs : List Record} → (is_name (get_or ks at 0) and not (get_or ks (at + 1) 0 is Colon)) ≡ true → get_or ks (at + 1) 0 ≡ Eq → Comes ks fs (assignment (at + 2)) m (done p ts rs m') → Comes ks fs (property at) m (done p (one (node Row.ShorthandInit (at + 1) at p (cons (leaf Row.Identifier at) ts))) rs m')
  property_init = (rules comes).property_init

  pub property_key_fails : {at : ℕ} {m m' : List ℕ} {c : Cause} → (is_name (get_or ks at 0) and not (get_or ks (at + 1) 0 is Colon)) ≡ false → Comes ks fs (key at) m (fail c m') → Comes ks fs (property at) m (fail c m')
  property_key_fails = (rules comes).property_key_fails

  pub property_no_colon : {at p : ℕ} {m m' : List ℕ} {ts : Forest} {rs : List Record} → (is_name (get_or ks at 0) and not (get_or ks (at + 1) 0 is Colon)) ≡ false → Comes ks fs (key at) m (done p ts rs m') → (get_or ks p 0 ≡ Colon → ⊥) → Comes ks fs (property at) m (fail (Cause.Unexpected p) m')
  property_no_colon h1 h2 h3 = (rules comes).property_no_colon h1 h2 (ne_eqb _ _ h3)

  pub property_value_fails : {at p : ℕ} {m m' m'' : List ℕ} {ts : Forest} {rs : List Record} {c : Cause} → (is_name (get_or ks at 0) and not (get_or ks (at + 1) 0 is Colon)) ≡ false → Comes ks fs (key at) m (done p ts rs m') → get_or ks p 0 ≡ Colon → Comes ks fs (assignment (p + 1)) m' (fail c m'') → Comes ks fs (property at) m (fail c m'')
  property_value_fails = (rules comes).property_value_fails

  pub property_done : {at p q : ℕ} {m m' m'' : List ℕ} {ts us : Forest} {rs rs' : List Record} → (is_name (get_or ks at 0) and not (get_or ks (at + 1) 0 is Colon)) ≡ false → Comes ks fs (key at) m (done p ts rs m') → get_or ks p 0 ≡ Colon → Comes ks fs (assignment (p + 1)) m' (done q us rs' m'') → Comes ks fs (property at) m (done q (one (node Row.Property at at q (join ts us))) (rs ++ rs') m'')
  property_done = (rules comes).property_done

  pub key_word : {at : ℕ} {m : List ℕ} → (is_word (get_or ks at 0) or get_or ks at 0 is Str or get_or ks at 0 is Number) ≡ true → Comes ks fs (key at) m (done (at + 1) (one (leaf Row.Key at)) [] m)
  key_word = (rules comes).key_word

  pub key_none : {at : ℕ} {m : List ℕ} → (is_word (get_or ks at 0) or get_or ks at 0 is Str or get_or ks at 0 is Number) ≡ false → (get_or ks at 0 ≡ LBrack → ⊥) → Comes ks fs (key at) m (fail (Cause.Unexpected at) m)
  key_none h1 h2 = (rules comes).key_none h1 (ne_eqb _ _ h2)

  pub key_fails : {at : ℕ} {m m' : List ℕ} {c : Cause} → get_or ks at 0 ≡ LBrack → Comes ks fs (assignment (at + 1)) m (fail c m') → Comes ks fs (key at) m (fail c m')
  key_fails = (rules comes).key_fails

  pub key_open : {at p : ℕ} {m m' : List ℕ} {ts : Forest} {rs : List Record} → get_or ks at 0 ≡ LBrack → Comes ks fs (assignment (at + 1)) m (done p ts rs m') → (get_or ks p 0 ≡ RBrack → ⊥) → Comes ks fs (key at) m (fail (Cause.Unexpected p) m')
  key_open h1 h2 h3 = (rules comes).key_open h1 h2 (ne_eqb _ _ h3)

  pub key_done : {at p : ℕ} {m m' : List ℕ} {ts : Forest} {rs : List Record} → get_or ks at 0 ≡ LBrack → Comes ks fs (assignment (at + 1)) m (done p ts rs m') → get_or ks p 0 ≡ RBrack → Comes ks fs (key at) m (done (p + 1) (one (node Row.ComputedKey at at (p + 1) ts)) rs m')
  key_done = (rules comes).key_done

  -- 14.3.3
  pub binding_name : {at : ℕ} {m : List ℕ} → is_name (get_or ks at 0) ≡ true → Comes ks fs (binding at) m (done (at + 1) (one (leaf Row.BindingName at)) [] m)
  binding_name = (rules comes).binding_name

  pub binding_array : {at : ℕ} {m : List ℕ} {out : Out (List ℕ)} → get_or ks at 0 ≡ LBrack → Comes ks fs (binding_elements at (at + 1) nil) m out → Comes ks fs (binding at) m out
  binding_array = (rules comes).binding_array

  pub binding_object : {at : ℕ} {m : List ℕ} {out : Out (List ℕ)} → get_or ks at 0 ≡ LCurly → Comes ks fs (binding_properties at (at + 1) nil) m out → Comes ks fs (binding at) m out
  binding_object = (rules comes).binding_object

  pub binding_none : {at : ℕ} {m : List ℕ} → is_name (get_or ks at 0) ≡ false → (get_or ks at 0 ≡ LBrack → ⊥) → (get_or ks at 0 ≡ LCurly → ⊥) → Comes ks fs (binding at) m (fail (Cause.Unexpected at) m)
  binding_none h1 h2 h3 = (rules comes).binding_none h1 (ne_eqb _ _ h2) (ne_eqb _ _ h3)

  pub element_fails : {at : ℕ} {m m' : List ℕ} {c : Cause} → Comes ks fs (binding at) m (fail c m') → Comes ks fs (binding_element at) m (fail c m')
  element_fails = (rules comes).element_fails

  pub element_bare : {at p : ℕ} {m m' : List ℕ} {ts : Forest} {rs : List Record} → Comes ks fs (binding at) m (done p ts rs m') → (get_or ks p 0 ≡ Eq → ⊥) → Comes ks fs (binding_element at) m (done p ts rs m')
  element_bare h1 h2 = (rules comes).element_bare h1 (ne_eqb _ _ h2)

  pub element_init_fails : {at p : ℕ} {m m' m'' : List ℕ} {ts : Forest} {rs : List Record} {c : Cause} → Comes ks fs (binding at) m (done p ts rs m') → get_or ks p 0 ≡ Eq → Comes ks fs (assignment (p + 1)) m' (fail c m'') → Comes ks fs (binding_element at) m (fail c m'')
  element_init_fails = (rules comes).element_init_fails

  pub element_init : {at p q : ℕ} {m m' m'' : List ℕ} {ts us : Forest} {rs rs' : List Record} → Comes ks fs (binding at) m (done p ts rs m') → get_or ks p 0 ≡ Eq → Comes ks fs (assignment (p + 1)) m' (done q us rs' m'') → Comes ks fs (binding_element at) m (done q (one (node Row.BindingDefault p at q (join ts us))) (rs ++ rs') m'')
  element_init = (rules comes).element_init

  pub rest_fails : {at : ℕ} {m m' : List ℕ} {c : Cause} → at < length ks → Comes ks fs (binding_element (at + 1)) m (fail c m') → Comes ks fs (binding_rest at) m (fail c m')
  rest_fails = (rules comes).rest_fails

  pub rest_done : {at p : ℕ} {m m' : List ℕ} {t : Tree} {rs : List Record} → at < length ks → Comes ks fs (binding_element (at + 1)) m (done p (one t) rs m') → Comes ks fs (binding_rest at) m (done p (one (node Row.BindingRest at at p (one t))) (rs ++ (if kind_of t is Row.BindingDefault then rest_initializer (mark_of t) ∷ [] else [])) m')
  unfolding first_tree
  rest_done = (rules comes).rest_done

  pub binding_elements_end : {at first : ℕ} {m : List ℕ} {so_far : Forest} → get_or ks at 0 ≡ RBrack → Comes ks fs (binding_elements first at so_far) m (done (at + 1) (one (node Row.BindingArray first first (at + 1) so_far)) [] m)
  binding_elements_end = (rules comes).binding_elements_end

  pub binding_elements_hole : {at first : ℕ} {m : List ℕ} {so_far : Forest} {out : Out (List ℕ)} → get_or ks at 0 ≡ Comma → Comes ks fs (binding_elements first (at + 1) (join so_far (one (leaf Row.Hole at)))) m out → Comes ks fs (binding_elements first at so_far) m out
  binding_elements_hole = (rules comes).binding_elements_hole

  pub binding_elements_rest_fails : {at first : ℕ} {m m' : List ℕ} {so_far : Forest} {c : Cause} → get_or ks at 0 ≡ Dot3 → Comes ks fs (binding_rest at) m (fail c m') → Comes ks fs (binding_elements first at so_far) m (fail c m')
  binding_elements_rest_fails = (rules comes).binding_elements_rest_fails

  pub binding_elements_rest_open : {at p first : ℕ} {m m' : List ℕ} {ts so_far : Forest} {rs : List Record} → get_or ks at 0 ≡ Dot3 → Comes ks fs (binding_rest at) m (done p ts rs m') → (get_or ks p 0 ≡ RBrack → ⊥) → Comes ks fs (binding_elements first at so_far) m (fail (Cause.RestLast p) m')
  binding_elements_rest_open h1 h2 h3 = (rules comes).binding_elements_rest_open h1 h2 (ne_eqb _ _ h3)

  pub binding_elements_rest : {at p first : ℕ} {m m' : List ℕ} {ts so_far : Forest} {rs : List Record} → get_or ks at 0 ≡ Dot3 → Comes ks fs (binding_rest at) m (done p ts rs m') → get_or ks p 0 ≡ RBrack → Comes ks fs (binding_elements first at so_far) m (done (p + 1) (one (node Row.BindingArray first first (p + 1) (join so_far ts))) rs m')
  binding_elements_rest = (rules comes).binding_elements_rest

  pub binding_elements_fails : {at first : ℕ} {m m' : List ℕ} {so_far : Forest} {c : Cause} → (get_or ks at 0 ≡ RBrack → ⊥) → (get_or ks at 0 ≡ Comma → ⊥) → (get_or ks at 0 ≡ Dot3 → ⊥) → Comes ks fs (binding_element at) m (fail c m') → Comes ks fs (binding_elements first at so_far) m (fail c m')
  binding_elements_fails h1 h2 h3 h4 = (rules comes).binding_elements_fails (ne_eqb _ _ h1) (ne_eqb _ _ h2) (ne_eqb _ _ h3) h4

  pub binding_elements_more : {at p first : ℕ} {m m' : List ℕ} {ts so_far : Forest} {rs : List Record} {out : Out (List ℕ)} → (get_or ks at 0 ≡ RBrack → ⊥) → (get_or ks at 0 ≡ Comma → ⊥) → (get_or ks at 0 ≡ Dot3 → ⊥) → Comes ks fs (binding_element at) m (done p ts rs m') → get_or ks p 0 ≡ Comma → Comes ks fs (binding_elements first (p + 1) (join so_far ts)) m' out → Comes ks fs (binding_elements first at so_far) m (after_records rs out)
  binding_elements_more h1 h2 h3 h4 h5 h6 = (rules comes).binding_elements_more (ne_eqb _ _ h1) (ne_eqb _ _ h2) (ne_eqb _ _ h3) h4 h5 h6

  pub binding_elements_last : {at p first : ℕ} {m m' : List ℕ} {ts so_far : Forest} {rs : List Record} → (get_or ks at 0 ≡ RBrack → ⊥) → (get_or ks at 0 ≡ Comma → ⊥) → (get_or ks at 0 ≡ Dot3 → ⊥) → Comes ks fs (binding_element at) m (done p ts rs m') → get_or ks p 0 ≡ RBrack → Comes ks fs (binding_elements first at so_far) m (done (p + 1) (one (node Row.BindingArray first first (p + 1) (join so_far ts))) rs m')
  binding_elements_last h1 h2 h3 h4 h5 = (rules comes).binding_elements_last (ne_eqb _ _ h1) (ne_eqb _ _ h2) (ne_eqb _ _ h3) h4 h5

  pub binding_elements_open : {at p first : ℕ} {m m' : List ℕ} {ts so_far : Forest} {rs : List Record} → (get_or ks at 0 ≡ RBrack → ⊥) → (get_or ks at 0 ≡ Comma → ⊥) → (get_or ks at 0 ≡ Dot3 → ⊥) → Comes ks fs (binding_element at) m (done p ts rs m') → (get_or ks p 0 ≡ Comma → ⊥) → (get_or ks p 0 ≡ RBrack → ⊥) → Comes ks fs (binding_elements first at so_far) m (fail (Cause.Unexpected p) m')
  binding_elements_open h1 h2 h3 h4 h5 h6 = (rules comes).binding_elements_open (ne_eqb _ _ h1) (ne_eqb _ _ h2) (ne_eqb _ _ h3) h4 (ne_eqb _ _ h5) (ne_eqb _ _ h6)

  -- 14.3.3, the parts of an object
  pub binding_properties_end : {at first : ℕ} {m : List ℕ} {so_far : Forest} → get_or ks at 0 ≡ RCurly → Comes ks fs (binding_properties first at so_far) m (done (at + 1) (one (node Row.BindingObject first first (at + 1) so_far)) [] m)
  binding_properties_end = (rules comes).binding_properties_end

  pub binding_properties_rest_fails : {at first : ℕ} {m m' : List ℕ} {so_far : Forest} {c : Cause} → get_or ks at 0 ≡ Dot3 → Comes ks fs (binding_rest at) m (fail c m') → Comes ks fs (binding_properties first at so_far) m (fail c m')
  binding_properties_rest_fails = (rules comes).binding_properties_rest_fails

  pub binding_properties_rest_open : {at p first : ℕ} {m m' : List ℕ} {ts so_far : Forest} {rs : List Record} → get_or ks at 0 ≡ Dot3 → Comes ks fs (binding_rest at) m (done p ts rs m') → (get_or ks p 0 ≡ RCurly → ⊥) → Comes ks fs (binding_properties first at so_far) m (fail (Cause.RestLast p) m')
  binding_properties_rest_open h1 h2 h3 = (rules comes).binding_properties_rest_open h1 h2 (ne_eqb _ _ h3)

  pub binding_properties_rest_no_name : {at p first : ℕ} {m m' : List ℕ} {so_far : Forest} {t : Tree} {rs : List Record} → get_or ks at 0 ≡ Dot3 → Comes ks fs (binding_rest at) m (done p (one t) rs m') → get_or ks p 0 ≡ RCurly → kind_of (first_tree (kids_of t)) is Row.BindingName ≡ false → Comes ks fs (binding_properties first at so_far) m (fail (Cause.RestName (at + 1)) m')
  unfolding first_tree
  binding_properties_rest_no_name = (rules comes).binding_properties_rest_no_name

  pub binding_properties_rest : {at p first : ℕ} {m m' : List ℕ} {so_far : Forest} {t : Tree} {rs : List Record} → get_or ks at 0 ≡ Dot3 → Comes ks fs (binding_rest at) m (done p (one t) rs m') → get_or ks p 0 ≡ RCurly → kind_of (first_tree (kids_of t)) is Row.BindingName ≡ true → Comes ks fs (binding_properties first at so_far) m (done (p + 1) (one (node Row.BindingObject first first (p + 1) (join so_far (one t)))) rs m')
  unfolding first_tree
  binding_properties_rest = (rules comes).binding_properties_rest

  pub binding_properties_fails : {at first : ℕ} {m m' : List ℕ} {so_far : Forest} {c : Cause} → (get_or ks at 0 ≡ RCurly → ⊥) → (get_or ks at 0 ≡ Dot3 → ⊥) → Comes ks fs (binding_property at) m (fail c m') → Comes ks fs (binding_properties first at so_far) m (fail c m')
  binding_properties_fails h1 h2 h3 = (rules comes).binding_properties_fails (ne_eqb _ _ h1) (ne_eqb _ _ h2) h3

  pub binding_properties_more : {at p first : ℕ} {m m' : List ℕ} {ts so_far : Forest} {rs : List Record} {out : Out (List ℕ)} → (get_or ks at 0 ≡ RCurly → ⊥) → (get_or ks at 0 ≡ Dot3 → ⊥) → Comes ks fs (binding_property at) m (done p ts rs m') → get_or ks p 0 ≡ Comma → Comes ks fs (binding_properties first (p + 1) (join so_far ts)) m' out → Comes ks fs (binding_properties first at so_far) m (after_records rs out)
  binding_properties_more h1 h2 h3 h4 h5 = (rules comes).binding_properties_more (ne_eqb _ _ h1) (ne_eqb _ _ h2) h3 h4 h5

  pub binding_properties_last : {at p first : ℕ} {m m' : List ℕ} {ts so_far : Forest} {rs : List Record} → (get_or ks at 0 ≡ RCurly → ⊥) → (get_or ks at 0 ≡ Dot3 → ⊥) → Comes ks fs (binding_property at) m (done p ts rs m') → get_or ks p 0 ≡ RCurly → Comes ks fs (binding_properties first at so_far) m (done (p + 1) (one (node Row.BindingObject first first (p + 1) (join so_far ts))) rs m')
  binding_properties_last h1 h2 h3 h4 = (rules comes).binding_properties_last (ne_eqb _ _ h1) (ne_eqb _ _ h2) h3 h4

  pub binding_properties_open : {at p first : ℕ} {m m' : List ℕ} {ts so_far : Forest} {rs : List Record} → (get_or ks at 0 ≡ RCurly → ⊥) → (get_or ks at 0 ≡ Dot3 → ⊥) → Comes ks fs (binding_property at) m (done p ts rs m') → (get_or ks p 0 ≡ Comma → ⊥) → (get_or ks p 0 ≡ RCurly → ⊥) → Comes ks fs (binding_properties first at so_far) m (fail (Cause.Unexpected p) m')
  binding_properties_open h1 h2 h3 h4 h5 = (rules comes).binding_properties_open (ne_eqb _ _ h1) (ne_eqb _ _ h2) h3 (ne_eqb _ _ h4) (ne_eqb _ _ h5)

  pub binding_property_shorthand : {at : ℕ} {m : List ℕ} → (is_name (get_or ks at 0) and not (get_or ks (at + 1) 0 is Colon)) ≡ true → (get_or ks (at + 1) 0 ≡ Eq → ⊥) → Comes ks fs (binding_property at) m (done (at + 1) (one (node Row.BindingShorthand at at (at + 1) (one (leaf Row.BindingName at)))) [] m)
  binding_property_shorthand h1 h2 = (rules comes).binding_property_shorthand h1 (ne_eqb _ _ h2)

  pub binding_property_init_fails : {at : ℕ} {m m' : List ℕ} {c : Cause} → (is_name (get_or ks at 0) and not (get_or ks (at + 1) 0 is Colon)) ≡ true → get_or ks (at + 1) 0 ≡ Eq → Comes ks fs (assignment (at + 2)) m (fail c m') → Comes ks fs (binding_property at) m (fail c m')
  binding_property_init_fails = (rules comes).binding_property_init_fails

  pub binding_property_init : {at p : ℕ} {m m' : List ℕ} {ts : Forest} {rs : List Record} → (is_name (get_or ks at 0) and not (get_or ks (at + 1) 0 is Colon)) ≡ true → get_or ks (at + 1) 0 ≡ Eq → Comes ks fs (assignment (at + 2)) m (done p ts rs m') → Comes ks fs (binding_property at) m (done p (one (node Row.BindingShorthandInit (at + 1) at p (cons (leaf Row.BindingName at) ts))) rs m')
  binding_property_init = (rules comes).binding_property_init

  pub binding_property_key_fails : {at : ℕ} {m m' : List ℕ} {c : Cause} → (is_name (get_or ks at 0) and not (get_or ks (at + 1) 0 is Colon)) ≡ false → Comes ks fs (key at) m (fail c m') → Comes ks fs (binding_property at) m (fail c m')
  binding_property_key_fails = (rules comes).binding_property_key_fails

  pub binding_property_no_colon : {at p : ℕ} {m m' : List ℕ} {ts : Forest} {rs : List Record} → (is_name (get_or ks at 0) and not (get_or ks (at + 1) 0 is Colon)) ≡ false → Comes ks fs (key at) m (done p ts rs m') → (get_or ks p 0 ≡ Colon → ⊥) → Comes ks fs (binding_property at) m (fail (Cause.Unexpected p) m')
  binding_property_no_colon h1 h2 h3 = (rules comes).binding_property_no_colon h1 h2 (ne_eqb _ _ h3)

  pub binding_property_value_fails : {at p : ℕ} {m m' m'' : List ℕ} {ts : Forest} {rs : List Record} {c : Cause} → (is_name (get_or ks at 0) and not (get_or ks (at + 1) 0 is Colon)) ≡ false → Comes ks fs (key at) m (done p ts rs m') → get_or ks p 0 ≡ Colon → Comes ks fs (binding_element (p + 1)) m' (fail c m'') → Comes ks fs (binding_property at) m (fail c m'')
  binding_property_value_fails = (rules comes).binding_property_value_fails

  pub binding_property_done : {at p q : ℕ} {m m' m'' : List ℕ} {ts us : Forest} {rs rs' : List Record} → (is_name (get_or ks at 0) and not (get_or ks (at + 1) 0 is Colon)) ≡ false → Comes ks fs (key at) m (done p ts rs m') → get_or ks p 0 ≡ Colon → Comes ks fs (binding_element (p + 1)) m' (done q us rs' m'') → Comes ks fs (binding_property at) m (done q (one (node Row.Property at at q (join ts us))) (rs ++ rs') m'')
  binding_property_done = (rules comes).binding_property_done

  -- 15.3 and 15.9
  pub parameters_end : {at : ℕ} {m : List ℕ} {so_far : Forest} → get_or ks at 0 ≡ RParen → Comes ks fs (parameters at so_far) m (done (at + 1) so_far [] m)
  parameters_end = (rules comes).parameters_end

  pub parameters_rest_fails : {at : ℕ} {m m' : List ℕ} {so_far : Forest} {c : Cause} → get_or ks at 0 ≡ Dot3 → Comes ks fs (binding_rest at) m (fail c m') → Comes ks fs (parameters at so_far) m (fail c m')
  parameters_rest_fails = (rules comes).parameters_rest_fails

  pub parameters_rest_open : {at p : ℕ} {m m' : List ℕ} {ts so_far : Forest} {rs : List Record} → get_or ks at 0 ≡ Dot3 → Comes ks fs (binding_rest at) m (done p ts rs m') → (get_or ks p 0 ≡ RParen → ⊥) → Comes ks fs (parameters at so_far) m (fail (Cause.RestLast p) m')
  parameters_rest_open h1 h2 h3 = (rules comes).parameters_rest_open h1 h2 (ne_eqb _ _ h3)

  pub parameters_rest : {at p : ℕ} {m m' : List ℕ} {ts so_far : Forest} {rs : List Record} → get_or ks at 0 ≡ Dot3 → Comes ks fs (binding_rest at) m (done p ts rs m') → get_or ks p 0 ≡ RParen → Comes ks fs (parameters at so_far) m (done (p + 1) (join so_far ts) rs m')
  parameters_rest = (rules comes).parameters_rest

  pub parameters_fails : {at : ℕ} {m m' : List ℕ} {so_far : Forest} {c : Cause} → (get_or ks at 0 ≡ RParen → ⊥) → (get_or ks at 0 ≡ Dot3 → ⊥) → Comes ks fs (binding_element at) m (fail c m') → Comes ks fs (parameters at so_far) m (fail c m')
  parameters_fails h1 h2 h3 = (rules comes).parameters_fails (ne_eqb _ _ h1) (ne_eqb _ _ h2) h3

  pub parameters_more : {at p : ℕ} {m m' : List ℕ} {ts so_far : Forest} {rs : List Record} {out : Out (List ℕ)} → (get_or ks at 0 ≡ RParen → ⊥) → (get_or ks at 0 ≡ Dot3 → ⊥) → Comes ks fs (binding_element at) m (done p ts rs m') → get_or ks p 0 ≡ Comma → Comes ks fs (parameters (p + 1) (join so_far ts)) m' out → Comes ks fs (parameters at so_far) m (after_records rs out)
  parameters_more h1 h2 h3 h4 h5 = (rules comes).parameters_more (ne_eqb _ _ h1) (ne_eqb _ _ h2) h3 h4 h5

  pub parameters_last : {at p : ℕ} {m m' : List ℕ} {ts so_far : Forest} {rs : List Record} → (get_or ks at 0 ≡ RParen → ⊥) → (get_or ks at 0 ≡ Dot3 → ⊥) → Comes ks fs (binding_element at) m (done p ts rs m') → get_or ks p 0 ≡ RParen → Comes ks fs (parameters at so_far) m (done (p + 1) (join so_far ts) rs m')
  parameters_last h1 h2 h3 h4 = (rules comes).parameters_last (ne_eqb _ _ h1) (ne_eqb _ _ h2) h3 h4

  pub parameters_open : {at p : ℕ} {m m' : List ℕ} {ts so_far : Forest} {rs : List Record} → (get_or ks at 0 ≡ RParen → ⊥) → (get_or ks at 0 ≡ Dot3 → ⊥) → Comes ks fs (binding_element at) m (done p ts rs m') → (get_or ks p 0 ≡ Comma → ⊥) → (get_or ks p 0 ≡ RParen → ⊥) → Comes ks fs (parameters at so_far) m (fail (Cause.Unexpected p) m')
  parameters_open h1 h2 h3 h4 h5 = (rules comes).parameters_open (ne_eqb _ _ h1) (ne_eqb _ _ h2) h3 (ne_eqb _ _ h4) (ne_eqb _ _ h5)

  pub head_break : {at : ℕ} {m : List ℕ} → get_or ks at 0 ≡ Async → get_or fs (at + 1) 0 is 1 ≡ true → Comes ks fs (head at) m (fail (Cause.Unexpected (at + 1)) m)
  head_break = (rules comes).head_break

  pub head_async_no_paren : {at : ℕ} {m : List ℕ} → get_or ks at 0 ≡ Async → get_or fs (at + 1) 0 is 1 ≡ false → (get_or ks (at + 1) 0 ≡ LParen → ⊥) → Comes ks fs (head at) m (fail (Cause.Unexpected (at + 1)) m)
  head_async_no_paren h1 h2 h3 = (rules comes).head_async_no_paren h1 h2 (ne_eqb _ _ h3)

  pub head_async_fails : {at : ℕ} {m m' : List ℕ} {c : Cause} → get_or ks at 0 ≡ Async → get_or fs (at + 1) 0 is 1 ≡ false → get_or ks (at + 1) 0 ≡ LParen → Comes ks fs (parameters (at + 1 + 1) nil) m (fail c m') → Comes ks fs (head at) m (fail c m')
  head_async_fails = (rules comes).head_async_fails

  pub head_async_no_arrow : {at p : ℕ} {m m' : List ℕ} {ts : Forest} {rs : List Record} → get_or ks at 0 ≡ Async → get_or fs (at + 1) 0 is 1 ≡ false → get_or ks (at + 1) 0 ≡ LParen → Comes ks fs (parameters (at + 1 + 1) nil) m (done p ts rs m') → (get_or ks p 0 ≡ Arrow → ⊥) → Comes ks fs (head at) m (fail (Cause.Unexpected p) m')
  head_async_no_arrow h1 h2 h3 h4 h5 = (rules comes).head_async_no_arrow h1 h2 h3 h4 (ne_eqb _ _ h5)

  pub head_async_done : {at p : ℕ} {m m' : List ℕ} {ts : Forest} {rs : List Record} → get_or ks at 0 ≡ Async → get_or fs (at + 1) 0 is 1 ≡ false → get_or ks (at + 1) 0 ≡ LParen → Comes ks fs (parameters (at + 1 + 1) nil) m (done p ts rs m') → get_or ks p 0 ≡ Arrow → Comes ks fs (head at) m (done p ts rs m')
  head_async_done = (rules comes).head_async_done

  pub head_no_paren : {at : ℕ} {m : List ℕ} → (get_or ks at 0 ≡ Async → ⊥) → (get_or ks at 0 ≡ LParen → ⊥) → Comes ks fs (head at) m (fail (Cause.Unexpected at) m)
  head_no_paren h1 h2 = (rules comes).head_no_paren (ne_eqb _ _ h1) (ne_eqb _ _ h2)

  pub head_fails : {at : ℕ} {m m' : List ℕ} {c : Cause} → (get_or ks at 0 ≡ Async → ⊥) → get_or ks at 0 ≡ LParen → Comes ks fs (parameters (at + 1) nil) m (fail c m') → Comes ks fs (head at) m (fail c m')
  head_fails h1 h2 h3 = (rules comes).head_fails (ne_eqb _ _ h1) h2 h3

  pub head_no_arrow : {at p : ℕ} {m m' : List ℕ} {ts : Forest} {rs : List Record} → (get_or ks at 0 ≡ Async → ⊥) → get_or ks at 0 ≡ LParen → Comes ks fs (parameters (at + 1) nil) m (done p ts rs m') → (get_or ks p 0 ≡ Arrow → ⊥) → Comes ks fs (head at) m (fail (Cause.Unexpected p) m')
  head_no_arrow h1 h2 h3 h4 = (rules comes).head_no_arrow (ne_eqb _ _ h1) h2 h3 (ne_eqb _ _ h4)

  pub head_done : {at p : ℕ} {m m' : List ℕ} {ts : Forest} {rs : List Record} → (get_or ks at 0 ≡ Async → ⊥) → get_or ks at 0 ≡ LParen → Comes ks fs (parameters (at + 1) nil) m (done p ts rs m') → get_or ks p 0 ≡ Arrow → Comes ks fs (head at) m (done p ts rs m')
  head_done h1 h2 h3 h4 = (rules comes).head_done (ne_eqb _ _ h1) h2 h3 h4

  pub body_curly : {at first kind : ℕ} {m : List ℕ} {so_far : Forest} → get_or ks (at + 1) 0 ≡ LCurly → Comes ks fs (body kind first at so_far) m (fail (Cause.Unexpected (at + 1)) m)
  body_curly = (rules comes).body_curly

  pub body_fails : {at first kind : ℕ} {m m' : List ℕ} {so_far : Forest} {c : Cause} → at < length ks → (get_or ks (at + 1) 0 ≡ LCurly → ⊥) → Comes ks fs (assignment (at + 1)) m (fail c m') → Comes ks fs (body kind first at so_far) m (fail c m')
  body_fails h1 h2 h3 = (rules comes).body_fails h1 (ne_eqb _ _ h2) h3

  pub body_done : {at p first kind : ℕ} {m m' : List ℕ} {ts so_far : Forest} {rs : List Record} → at < length ks → (get_or ks (at + 1) 0 ≡ LCurly → ⊥) → Comes ks fs (assignment (at + 1)) m (done p ts rs m') → Comes ks fs (body kind first at so_far) m (done p (one (node kind at first p (join so_far ts))) ((if get_or fs at 0 is 1 then break_before_arrow at ∷ [] else []) ++ rs) m')
  body_done h1 h2 h3 = (rules comes).body_done h1 (ne_eqb _ _ h2) h3
