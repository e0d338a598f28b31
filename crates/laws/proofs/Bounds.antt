-- Room: where a nonterminal is done, how many rows and records there are then, and that it gives one tree. `limits` has a line a nonterminal;
-- `bounded`, at the end, says that each keeps its limits; `room`, that rows never exceed tokens and records never exceed tokens.
-- Assumes nothing.
use Rattle.std.specs.Prelude.{if◌then◌else◌}
use Prim.Native.Nat.{ℕ, ◌+◌, ◌-◌, ◌≤◌, max}
use mathlib.Core.Path.{◌≡◌, refl, sym, ap, ◌∙◌}
use mathlib.Core.Bool.{Bool, true, false, not}
use mathlib.Core.List.{List, [], ◌∷◌, ◌++◌}
use native.Mathlib.Omega.{arith}
use lib.Dec.{ltb}
use lib.ListN.{length, length-append}
use borrow.Author.Tests.{eqb-true}
use Rattle.tokens.specs.Bool.{◌or◌, ◌and◌, ◌is◌, between}
use Rattle.tokens.specs.Kind.{Async, Str, Number, LCurly, Comma, Colon, Dot3, Arrow, Question2, Amp2, Star2, Eq}
use Rattle.tokens.specs.Token.{is_name, is_word, is_literal}
use Rattle.operators.specs.Precedence.{expression_level}
use Rattle.rows.specs.Row as Row
use Rattle.rows.specs.Tree.{Tree, Forest, node, nil, cons, one, join, size, sizes, kind_of, mark_of}
use Rattle.rows.specs.Record.{Record, break_before_arrow, rest_initializer}
use Rattle.conversion.specs.Conversion.{Role, any, simple}
use Rattle.conversion.proofs.RuleHolds.{either_way}
use Rattle.grammar.specs.Sheet.{Sheet, token, break_before, done, first_tree, tree, leaf}
use Rattle.grammar.specs.Job.{Job, expression, sequence, assignment, value, assign, conditional, binary, operators, unary, postfix, left_hand_side, links, arguments, primary, elements, properties, property, key, spread, binding, binding_element, binding_elements, binding_properties, binding_property, binding_rest, head, parameters, body, Asks}
use Rattle.grammar.specs.Assignment.{is_assignment_operator, is_async_name}
use Rattle.grammar.specs.Binary.{operation_kind, right_floor, is_or_and, operation_records}
use Rattle.grammar.specs.Update.{is_unary_operator, is_update_operator, converted}
use Rattle.grammar.specs.Binding.{argument_of}
use Rattle.grammar.specs.Arrow.{Policy, parenthesized_head_of}
use Rattle.grammar.specs.Step.{step, read}
use Rattle.laws.specs.Settles.{Settles, μ}
use Rattle.grammar.specs.Reading.{unconverteds, whole, reading}
use Rattle.laws.proofs.Good.{productions, wants, came, Reads, Answers, Preserved, good, good_done, yields, refuses, says, follows, heads, test, token_test, converts, so, inside, and_left}
pub use Rattle.laws.proofs.Good.{Any, Nothing}
use Rattle.laws.proofs.Owed.{owes, owes_one, owed, oweds, lent, sizes_join, oweds_join, same_size, pays, pays_lasts}

-- what a nonterminal at a place is bound by: the least and the most that its end can be; the rows and the dues (records, and what rows owe) that
-- it may have beyond one a token; and if it gives exactly one tree
pub record Limits : Type 0 where
  pub at : ℕ
  pub least : ℕ
  pub most : ℕ
  pub rows : ℕ
  pub dues : ℕ
  pub lone : Bool

-- a nonterminal that reads a token at least
abbrev pub reads : Sheet → ℕ → ℕ → ℕ → Limits
reads sheet at rows dues = record { at = at; least = at + 1; most = length sheet.kinds; rows = rows; dues = dues; lone = true }

-- a loop that may end where it is
abbrev pub goes_on : Sheet → ℕ → ℕ → ℕ → Limits
goes_on sheet at rows dues = record { at = at; least = at; most = max at (length sheet.kinds); rows = rows; dues = dues; lone = true }

-- any number of trees
abbrev pub reads_any : Sheet → ℕ → ℕ → ℕ → Limits
reads_any sheet at rows dues = record { at = at; least = at + 1; most = length sheet.kinds; rows = rows; dues = dues; lone = false }

-- any number of trees, up to the `=>`, which stands
abbrev pub reads_head : Sheet → ℕ → Limits
reads_head sheet at = record { at = at; least = at + 1; most = length sheet.kinds - 1; rows = 0; dues = 0; lone = false }

-- what the row of a Sequence still costs where this token stands: its first comma pays for it
unfoldable pub fee : ℕ → ℕ
fee kind = if kind is Comma then 0 else 1

-- The bounds of each nonterminal. What stands so far counts; a lone shorthand has two rows over one token, so a property may have one more,
-- for which the comma or brace after it pays; the row of an object is paid by the brace before it; the row of a Sequence by its first comma.
abbrev pub limits : Sheet → Job → Limits
limits sheet (expression at) = reads sheet at 0 0
limits sheet (sequence first comma at so_far) = goes_on sheet at (sizes so_far + fee (token sheet at)) (oweds so_far)
limits sheet (assignment at) = reads sheet at 0 0
limits sheet (value at) = reads sheet at 0 0
limits sheet (assign first at left) = reads sheet at (size left) (owed left)
limits sheet (conditional first at test) = reads sheet at (size test) (owed test)
limits sheet (binary floor at) = reads sheet at 0 0
limits sheet (operators floor first at left) = goes_on sheet at (size left) (owed left)
limits sheet (unary at) = reads sheet at 0 0
limits sheet (postfix at) = reads sheet at 0 0
limits sheet (left_hand_side at) = reads sheet at 0 0
limits sheet (links first at left) = goes_on sheet at (size left) (owed left)
limits sheet (arguments first at so_far) = reads sheet at (sizes so_far) (oweds so_far)
limits sheet (primary at) = reads sheet at 0 0
limits sheet (elements first at kind so_far) = reads sheet at (sizes so_far) (oweds so_far)
limits sheet (properties first at kind so_far) = reads sheet at (sizes so_far + 1) (oweds so_far)
limits sheet (property at) = reads sheet at 1 0
limits sheet (key at) = reads sheet at 0 0
limits sheet (spread at) = reads sheet at 0 0
limits sheet (binding at) = reads sheet at 0 0
limits sheet (binding_element at) = reads sheet at 0 0
limits sheet (binding_elements first at so_far) = reads sheet at (sizes so_far) (oweds so_far)
limits sheet (binding_properties first at so_far) = reads sheet at (sizes so_far + 1) (oweds so_far)
limits sheet (binding_property at) = reads sheet at 1 0
limits sheet (binding_rest at) = reads sheet at 0 0
limits sheet (head at) = reads_head sheet at
limits sheet (parameters at so_far) = reads_any sheet at (sizes so_far) (oweds so_far)
limits sheet (body kind first at so_far) = reads sheet at (sizes so_far) (owes kind + oweds so_far)

-- an end, a number of rows and a number of dues within limits
pub record Within (l : Limits) (end rows dues : ℕ) : Type 0 where
  pub forward : l.least ≤ end
  pub inside : end ≤ l.most
  pub room : rows + l.at ≤ l.rows + end
  pub paid : dues + l.at ≤ l.dues + end

abbrev pub Single : Bool → Forest → Type 0
Single true trees = trees ≡ one (first_tree trees)
Single false trees = Unit {0}

pub record Bound (l : Limits) (end : ℕ) (trees : Forest) (records : List Record) : Type 0 where
  pub within : Within l end (sizes trees) (length records + oweds trees)
  pub single : Single l.lone trees

pub sizes_nil : sizes nil ≡ 0
unfolding sizes
sizes_nil = refl

pub oweds_nil : oweds nil ≡ 0
unfolding oweds
oweds_nil = refl

pub sizes_cons : (t : Tree) (ts : Forest) → sizes (cons t ts) ≡ size t + sizes ts
unfolding sizes
sizes_cons t ts = refl

pub oweds_cons : (t : Tree) (ts : Forest) → oweds (cons t ts) ≡ owed t + oweds ts
unfolding oweds
oweds_cons t ts = refl

pub size_node : (kind mark first end : ℕ) (kids : Forest) → size (node kind mark first end kids) ≡ sizes kids + 1
unfolding size
size_node kind mark first end kids = refl

pub owed_node : (kind mark first end : ℕ) (kids : Forest) → owed (node kind mark first end kids) ≡ owes kind + oweds kids
unfolding owed owes
owed_node kind mark first end kids = refl

ruleset weights = (length-append, sizes_join, oweds_join, sizes_nil, oweds_nil, sizes_cons, oweds_cons, size_node, owed_node)

single_one : (lone : Bool) (t : Tree) → Single lone (one t)
unfolding first_tree
single_one true t = refl
single_one false t = tt

pub fee_comma : {kind : ℕ} → kind ≡ Comma → fee kind ≡ 0
unfolding fee
fee_comma e = rw e

pub fee_one : (kind : ℕ) → fee kind ≤ 1
unfolding fee
fee_one kind = either_way (λ n. n ≤ 1) (kind is Comma) (λ _. omega arith) (λ _. omega arith)

-- one tree within limits
lone : {l : Limits} {end : ℕ} (t : Tree) {records : List Record} → Within l end (sizes (one t)) (length records + oweds (one t)) → Bound l end (one t) records
lone {l} t w = record { within = w; single = single_one l.lone t }

-- exactly one tree has the rows and dues of all
pub record Alone (trees : Forest) : Type 0 where
  pub rows : size (first_tree trees) ≡ sizes trees
  pub dues : owed (first_tree trees) ≡ oweds trees

pub alone : {trees : Forest} → trees ≡ one (first_tree trees) → Alone trees
alone {trees} e =
    record {
      rows = sym (ap sizes e ∙ simp (sizes_cons, sizes_nil) (omega arith));
      dues = sym (ap oweds e ∙ simp (oweds_cons, oweds_nil) (omega arith));
    }

-- what conversion makes of a tree
record Target (at : ℕ) (left : Tree) (end : ℕ) (trees : Forest) (records : List Record) : Type 0 where
  there : end ≡ at
  rows : sizes trees ≡ size left
  dues : length records + oweds trees ≤ owed left

target : (role : Role) (at : ℕ) (left : Tree) → lent role ≡ 0 → {N : Type 0} → Reads {N = N} (Target at left) (λ cause. Unit {0}) (converted role at left)
target role at left z =
    converts role at left
    (λ t records e. record {
      there = refl;
      rows = simp (sizes_cons, sizes_nil) (omega (arith, same_size left role t records e));
      dues = simp (oweds_cons, oweds_nil) (omega (arith, pays left role t records e));
    })
    (λ cause e. tt)

one_at_most : (holds : Bool) (r : Record) → length (if holds then r ∷ [] else []) ≤ 1
one_at_most holds r = either_way (λ rs. length rs ≤ 1) holds (λ _. omega arith) (λ _. omega arith)

arrow_free : (async : Bool) → owes (if async then Row.AsyncArrow else Row.Arrow) ≡ 0
unfolding owes
arrow_free async = either_way (λ kind. owes kind ≡ 0) async (λ _. refl) (λ _. refl)

-- an operator says at most one thing, and its row owes nothing
none_or_one : (a b : Bool) (r s : Record) → (a ≡ true → b ≡ false) → length ((if a then r ∷ [] else []) ++ (if b then s ∷ [] else [])) ≤ 1
none_or_one true b r s h = rw (h refl) (omega arith)
none_or_one false true r s h = omega arith
none_or_one false false r s h = omega arith

pub operation_one : (sheet : Sheet) (at : ℕ) (left right : Tree) → length (operation_records sheet at left right) ≤ 1
unfolding operation_records
operation_one sheet at left right =
    none_or_one (token sheet at is Question2 and (is_or_and sheet left or is_or_and sheet right)) (token sheet at is Star2 and kind_of left is Row.Unary) _ _
    (λ e. rw (eqb-true (token sheet at) Question2 (and_left _ _ e)))

pub operation_free : (kind : ℕ) → owes (operation_kind kind) ≡ 0
unfolding operation_kind owes
operation_free kind = either_way (λ row. owes row ≡ 0) (between Question2 Amp2 kind) (λ _. refl) (λ _. refl)

pub lent_either : (plain : Bool) → lent (if plain then any else simple) ≡ 0
lent_either plain = either_way (λ role. lent role ≡ 0) plain (λ _. refl) (λ _. refl)

-- THE PRODUCTIONS
module _ {N : Type 0} (policy : Policy N) (sheet : Sheet) {ask : Asks N} (h : Answers Any (λ job. Bound (limits sheet job)) Nothing ask) where
  asked : (job : Job) → Reads (Bound (limits sheet job)) Nothing (ask job)
  asked job = h.with job tt

  -- another part, or a spread
  or_spread : (at rows : ℕ) (other : Job) → Reads (Bound (reads sheet at rows 0)) Nothing (ask other) → (dots : Bool) → Reads (Bound (reads sheet at rows 0)) Nothing (ask (if dots then spread at else other))
  or_spread at rows other o true = so (asked (spread at)) (λ end trees more c. record { within = omega arith; single = c.single })
  or_spread at rows other o false = o

  -- 15.3 and 15.9
  parenthesized_head_bound : (at : ℕ) → Reads (Bound (limits sheet (head at))) Nothing (parenthesized_head_of sheet ask at)
  unfolding productions
  parenthesized_head_bound at =
      wants sheet _ _ _ tt (λ t. follows (asked (parameters (at + 1) nil))
      (λ list rs b. wants sheet _ _ _ tt
      (λ t. yields _ _ (record { within = simp weights (omega (arith, simp weights at b.within)); single = tt }))))

  -- every production
  pub step_bound : (job : Job) → Reads (Bound (limits sheet job)) Nothing (step policy sheet ask job)
  unfolding productions is_name is_word is_literal is_update_operator fee owes
  -- 13.16
  step_bound (expression at) =
      follows (asked (assignment at))
      (λ part rs b. token_test sheet _ _
      (λ t. so (asked (sequence at part.end part.end part.trees)) (λ end trees more c. record { within = simp weights (omega (arith, fee_comma t.kind_is)); single = c.single }))
      (yields _ _ (record { within = simp weights (omega arith); single = b.single })))
  step_bound (sequence first comma at so_far) =
      test (token sheet at is Comma)
      (λ t. follows (asked (assignment (at + 1)))
      (λ part rs b. so (asked (sequence first comma part.end (join so_far part.trees)))
      (λ end trees more c. record { within = simp weights (omega (arith, simp weights at c.within, fee_one (token sheet part.end))); single = c.single })))
      (λ f. yields _ _ (lone _ (simp (weights, f) (omega arith))))
  step_bound (assignment at) =
      heads policy sheet ask at (asked (value at)) (asked (head at))
      (λ list rs b. so (asked (body _ at list.end list.trees))
      (λ end trees more c. record { within = simp weights (omega (arith, arrow_free (token sheet at is Async))); single = c.single }))
  step_bound (value at) =
      test (is_async_name sheet at)
      (λ t. so (asked (body Row.AsyncArrow at (at + 2) (one (leaf Row.BindingName (at + 1)))))
      (λ end trees more c. record { within = omega (arith, simp weights at c.within); single = c.single }))
      (λ _. follows (asked (binary 0 at))
      (λ left rs b. test (kind_of (tree left) is Row.Identifier and token sheet left.end is Arrow)
      (λ t. so (asked (body Row.Arrow at left.end (one (leaf Row.BindingName at))))
      (λ end trees more c. record { within = simp weights (omega (arith, simp weights at c.within)); single = c.single }))
      (λ _. test (is_assignment_operator (token sheet left.end))
      (λ t. so (asked (assign at left.end (tree left))) (λ end trees more c. record { within = simp weights (omega (arith, alone b.single)); single = c.single }))
      (λ _. token_test sheet _ _
      (λ t. so (asked (conditional at left.end (tree left))) (λ end trees more c. record { within = simp weights (omega (arith, alone b.single)); single = c.single }))
      (yields _ _ (record { within = simp weights (omega arith); single = b.single }))))))
  step_bound (assign first at left) =
      let kind = if token sheet at is Eq then Row.Assign else Row.CompoundAssign in
      follows (target (if token sheet at is Eq then any else simple) at left (lent_either (token sheet at is Eq)))
      (λ target rs b. follows (asked (assignment (at + 1)))
      (λ right more c. yields _ _ (lone _ (simp weights (omega (arith, owes_one kind))))))
  step_bound (conditional first at left) =
      follows (asked (assignment (at + 1)))
      (λ if_true rs b. wants sheet _ _ _ tt (λ t. follows (asked (assignment (if_true.end + 1)))
      (λ if_false more c. yields _ _ (lone _ (simp weights (omega arith))))))
  -- 13.6 to 13.13
  step_bound (binary floor at) =
      follows (asked (unary at))
      (λ left rs b. so (asked (operators floor at left.end (tree left)))
      (λ end trees more c. record { within = simp weights (omega (arith, alone b.single)); single = c.single }))
  step_bound (operators floor first at left) =
      test (ltb floor (expression_level (token sheet at)))
      (λ t. follows (asked (binary (right_floor (token sheet at)) (at + 1)))
      (λ right rs b. says _ (so (asked (operators floor first right.end (node (operation_kind (token sheet at)) at first right.end (cons left right.trees))))
      (λ end trees more c. record {
        within = simp weights (omega (arith, simp weights at c.within, operation_free (token sheet at), operation_one sheet at left (tree right)));
        single = c.single;
      }))))
      (λ _. yields _ _ (lone _ (simp weights (omega arith))))
  -- 13.5 and 13.4
  step_bound (unary at) =
      test (is_unary_operator (token sheet at))
      (λ t. follows (asked (unary (at + 1))) (λ operand rs b. yields _ _ (lone _ (simp weights (omega arith)))))
      (λ _. test (is_update_operator (token sheet at))
      (λ t. follows (asked (unary (at + 1)))
      (λ operand rs b. follows (target simple operand.end (tree operand) refl)
      (λ target more c. yields _ _ (lone _ (simp weights (omega (arith, alone b.single)))))))
      (λ _. asked (postfix at)))
  step_bound (postfix at) =
      follows (asked (left_hand_side at))
      (λ operand rs b. test (is_update_operator (token sheet operand.end) and not (break_before sheet operand.end))
      (λ t. follows (target simple operand.end (tree operand) refl)
      (λ target more c. yields _ _ (lone _ (simp weights
      (omega (arith, alone b.single, inside sheet operand.end is_update_operator refl (and_left (is_update_operator (token sheet operand.end)) _ t)))))))
      (λ _. yields _ _ (record { within = simp weights (omega arith); single = b.single })))
  -- 13.3
  step_bound (left_hand_side at) =
      follows (asked (primary at))
      (λ base rs b. so (asked (links at base.end (tree base)))
      (λ end trees more c. record { within = simp weights (omega (arith, alone b.single)); single = c.single }))
  step_bound (links first at left) =
      token_test sheet _ _
      (λ t. test (is_word (token sheet (at + 1)))
      (λ w. so (asked (links first (at + 2) (node Row.Member (at + 1) first (at + 2) (one left))))
      (λ end trees more c. record { within = omega (arith, simp weights at c.within, inside sheet (at + 1) is_word refl w); single = c.single }))
      (λ _. refuses _ tt))
      (token_test sheet _ _
      (λ t. follows (asked (expression (at + 1)))
      (λ inner rs b. wants sheet _ _ _ tt
      (λ t. so (asked (links first (inner.end + 1) (node Row.Index first first (inner.end + 1) (cons left inner.trees))))
      (λ end trees more c. record { within = simp weights (omega (arith, simp weights at c.within)); single = c.single }))))
      (token_test sheet _ _
      (λ t. follows (asked (arguments first (at + 1) (one left)))
      (λ call rs b. so (asked (links first call.end (tree call)))
      (λ end trees more c. record { within = simp weights (omega (arith, simp weights at b.within, alone b.single)); single = c.single })))
      (yields _ _ (lone _ (simp weights (omega arith))))))
  step_bound (arguments first at so_far) =
      token_test sheet _ _ (λ t. yields _ _ (lone _ (simp weights (omega arith))))
      (follows (or_spread at 0 (assignment at) (asked (assignment at)) (token sheet at is Dot3))
      (λ argument rs b. token_test sheet _ _
      (λ t. so (asked (arguments first (argument.end + 1) (join so_far argument.trees)))
      (λ end trees more c. record { within = simp weights (omega (arith, simp weights at c.within)); single = c.single }))
      (wants sheet _ _ _ tt (λ t. yields _ _ (lone _ (simp weights (omega arith)))))))
  -- 13.2
  step_bound (primary at) =
      test (is_name (token sheet at)) (λ t. yields _ _ (lone _ (simp weights (omega (arith, inside sheet at is_name refl t)))))
      (λ _. token_test sheet _ _ (λ t. yields _ _ (lone _ (simp weights (omega arith))))
      (test (is_literal (token sheet at)) (λ t. yields _ _ (lone _ (simp weights (omega (arith, inside sheet at is_literal refl t)))))
      (λ _. token_test sheet _ _
      (λ t. follows (asked (expression (at + 1)))
      (λ inner rs b. wants sheet _ _ _ tt (λ t. yields _ _ (lone _ (simp weights (omega arith))))))
      (token_test sheet _ _
      (λ t. so (asked (elements at (at + 1) Row.Array nil)) (λ end trees more c. record { within = omega (arith, simp weights at c.within); single = c.single }))
      (wants sheet _ _ _ tt
      (λ t. so (asked (properties at (at + 1) Row.Object nil)) (λ end trees more c. record { within = omega (arith, simp weights at c.within); single = c.single })))))))
  step_bound (elements first at kind so_far) =
      token_test sheet _ _ (λ t. yields _ _ (lone _ (simp weights (omega (arith, owes_one kind)))))
      (token_test sheet _ _
      (λ t. so (asked (elements first (at + 1) Row.Array (join so_far (one (leaf Row.Hole at)))))
      (λ end trees more c. record { within = omega (arith, simp weights at c.within); single = c.single }))
      (follows (or_spread at 0 (assignment at) (asked (assignment at)) (token sheet at is Dot3))
      (λ element rs b. token_test sheet _ _
      (λ t. so (asked (elements first (element.end + 1) _ (join so_far element.trees)))
      (λ end trees more c. record { within = simp weights (omega (arith, simp weights at c.within)); single = c.single }))
      (wants sheet _ _ _ tt (λ t. yields _ _ (lone _ (simp weights (omega arith))))))))
  step_bound (properties first at kind so_far) =
      token_test sheet _ _ (λ t. yields _ _ (lone _ (simp weights (omega (arith, owes_one kind)))))
      (follows (or_spread at 1 (property at) (asked (property at)) (token sheet at is Dot3))
      (λ part rs b. token_test sheet _ _
      (λ t. so (asked (properties first (part.end + 1) _ (join so_far part.trees)))
      (λ end trees more c. record { within = simp weights (omega (arith, simp weights at c.within)); single = c.single }))
      (wants sheet _ _ _ tt (λ t. yields _ _ (lone _ (simp weights (omega arith)))))))
  step_bound (property at) =
      test (is_name (token sheet at) and not (token sheet (at + 1) is Colon))
      (λ n. token_test sheet _ _
      (λ t. follows (asked (assignment (at + 2))) (λ initializer rs b. yields _ _ (lone _ (simp weights (omega arith)))))
      (yields _ _ (lone _ (simp weights (omega (arith, inside sheet at is_name refl (and_left (is_name (token sheet at)) _ n)))))))
      (λ _. follows (asked (key at))
      (λ name rs b. wants sheet _ _ _ tt
      (λ t. follows (asked (assignment (name.end + 1))) (λ content more c. yields _ _ (lone _ (simp weights (omega arith)))))))
  step_bound (key at) =
      test (is_word (token sheet at) or token sheet at is Str or token sheet at is Number)
      (λ t. yields _ _ (lone _ (simp weights (omega (arith, inside sheet at (λ k. is_word k or k is Str or k is Number) refl t)))))
      (λ _. wants sheet _ _ _ tt (λ t. follows (asked (assignment (at + 1)))
      (λ inner rs b. wants sheet _ _ _ tt (λ t. yields _ _ (lone _ (simp weights (omega arith)))))))
  step_bound (spread at) = follows (asked (assignment (at + 1))) (λ argument rs b. yields _ _ (lone _ (simp weights (omega arith))))
  -- 14.3.3
  step_bound (binding at) =
      test (is_name (token sheet at)) (λ t. yields _ _ (lone _ (simp weights (omega (arith, inside sheet at is_name refl t)))))
      (λ _. token_test sheet _ _
      (λ t. so (asked (binding_elements at (at + 1) nil)) (λ end trees more c. record { within = omega (arith, simp weights at c.within); single = c.single }))
      (wants sheet _ _ _ tt
      (λ t. so (asked (binding_properties at (at + 1) nil)) (λ end trees more c. record { within = omega (arith, simp weights at c.within); single = c.single }))))
  step_bound (binding_element at) =
      follows (asked (binding at))
      (λ target rs b. token_test sheet _ _
      (λ t. follows (asked (assignment (target.end + 1))) (λ initializer more c. yields _ _ (lone _ (simp weights (omega arith)))))
      (yields _ _ (record { within = simp weights (omega arith); single = b.single })))
  step_bound (binding_elements first at so_far) =
      token_test sheet _ _ (λ t. yields _ _ (lone _ (simp weights (omega arith))))
      (token_test sheet _ _
      (λ t. so (asked (binding_elements first (at + 1) (join so_far (one (leaf Row.Hole at)))))
      (λ end trees more c. record { within = omega (arith, simp weights at c.within); single = c.single }))
      (token_test sheet _ _
      (λ t. follows (asked (binding_rest at))
      (λ rest rs b. wants sheet _ _ _ tt (λ t. yields _ _ (lone _ (simp weights (omega arith))))))
      (follows (asked (binding_element at))
      (λ element rs b. token_test sheet _ _
      (λ t. so (asked (binding_elements first (element.end + 1) (join so_far element.trees)))
      (λ end trees more c. record { within = simp weights (omega (arith, simp weights at c.within)); single = c.single }))
      (wants sheet _ _ _ tt (λ t. yields _ _ (lone _ (simp weights (omega arith)))))))))
  step_bound (binding_properties first at so_far) =
      token_test sheet _ _ (λ t. yields _ _ (lone _ (simp weights (omega arith))))
      (token_test sheet _ _
      (λ t. follows (asked (binding_rest at))
      (λ rest rs b. wants sheet _ _ _ tt
      (λ t. test (kind_of (argument_of (tree rest)) is Row.BindingName) (λ _. yields _ _ (lone _ (simp weights (omega arith)))) (λ _. refuses _ tt))))
      (follows (asked (binding_property at))
      (λ part rs b. token_test sheet _ _
      (λ t. so (asked (binding_properties first (part.end + 1) (join so_far part.trees)))
      (λ end trees more c. record { within = simp weights (omega (arith, simp weights at c.within)); single = c.single }))
      (wants sheet _ _ _ tt (λ t. yields _ _ (lone _ (simp weights (omega arith))))))))
  step_bound (binding_property at) =
      test (is_name (token sheet at) and not (token sheet (at + 1) is Colon))
      (λ n. token_test sheet _ _
      (λ t. follows (asked (assignment (at + 2))) (λ initializer rs b. yields _ _ (lone _ (simp weights (omega arith)))))
      (yields _ _ (lone _ (simp weights (omega (arith, inside sheet at is_name refl (and_left (is_name (token sheet at)) _ n)))))))
      (λ _. follows (asked (key at))
      (λ name rs b. wants sheet _ _ _ tt
      (λ t. follows (asked (binding_element (name.end + 1))) (λ content more c. yields _ _ (lone _ (simp weights (omega arith)))))))
  step_bound (binding_rest at) =
      follows (asked (binding_element (at + 1)))
      (λ argument rs b. says _ (yields _ _ (lone _ (simp weights
      (omega (arith, one_at_most (kind_of (tree argument) is Row.BindingDefault) (rest_initializer (mark_of (tree argument)))))))))
  step_bound (head at) =
      token_test sheet _ _
      (λ t. test (not (break_before sheet (at + 1)))
      (λ _. so (parenthesized_head_bound (at + 1)) (λ end trees more c. record { within = omega arith; single = tt }))
      (λ _. refuses _ tt))
      (parenthesized_head_bound at)
  step_bound (parameters at so_far) =
      token_test sheet _ _ (λ t. yields _ _ (record { within = omega arith; single = tt }))
      (token_test sheet _ _
      (λ t. follows (asked (binding_rest at))
      (λ rest rs b. wants sheet _ _ _ tt (λ t. yields _ _ (record { within = simp weights (omega arith); single = tt }))))
      (follows (asked (binding_element at))
      (λ parameter rs b. token_test sheet _ _
      (λ t. so (asked (parameters (parameter.end + 1) (join so_far parameter.trees)))
      (λ end trees more c. record { within = simp weights (omega (arith, simp weights at c.within)); single = tt }))
      (wants sheet _ _ _ tt (λ t. yields _ _ (record { within = simp weights (omega arith); single = tt }))))))
  step_bound (body kind first at so_far) =
      says _ (test (not (token sheet (at + 1) is LCurly))
      (λ _. follows (asked (assignment (at + 1)))
      (λ inner rs b. yields _ _ (lone _ (simp weights (omega (arith, one_at_most (break_before sheet at) (break_before_arrow at)))))))
      (λ _. refuses _ tt))

-- THE STATEMENTS
module _ {N : Type 0} (policy : Policy N) (sheet : Sheet) where
  preserved : Preserved policy sheet Any (λ job. Bound (limits sheet job)) Nothing
  preserved = record { with = λ ask h. record { with = λ job _. step_bound policy sheet h job } }

  pub all_bounded : (steps : ℕ) → Answers {N = N} Any (λ job. Bound (limits sheet job)) Nothing (read policy sheet steps)
  all_bounded steps = good policy sheet Any (λ job. Bound (limits sheet job)) Nothing preserved steps

  -- a nonterminal that is done keeps its limits, with any policy, from any notes, at any bound on the steps
  pub bounded_at : (steps : ℕ) (job : Job) (notes : N) {end : ℕ} {trees : Forest} {records : List Record} {after : N}
      → read policy sheet steps job notes ≡ done end trees records after → Bound (limits sheet job) end trees records
  bounded_at steps job notes e = good_done policy sheet Any (λ job. Bound (limits sheet job)) Nothing steps (all_bounded steps) job tt notes e

-- the same of what a nonterminal comes to
pub bounded : {N : Type 0} {policy : Policy N} {sheet : Sheet} {job : Job} {before after : N} {end : ℕ} {trees : Forest} {records : List Record}
    → Settles policy sheet job before (done end trees records after) → Bound (limits sheet job) end trees records
bounded {policy = policy} {sheet} {job} {before} s = bounded_at policy sheet (μ sheet job) job before (s.with _ (omega arith))

-- rows never exceed tokens, and records never exceed tokens
pub record Room (sheet : Sheet) (trees : Forest) (records : List Record) : Type 0 where
  pub rows : sizes trees ≤ length sheet.kinds
  pub records_too : length records ≤ length sheet.kinds

module _ {N : Type 0} (policy : Policy N) (sheet : Sheet) (notes : N) {trees : Forest} {records : List Record} {after : N} where
  pub room : reading policy sheet (expression 0) notes ≡ whole trees records after → Room sheet trees records
  room e =
      let c = came policy sheet (expression 0) notes e in
      let b = bounded_at policy sheet _ (expression 0) notes c.done_at_end in
      record { rows = omega arith; records_too = rw (c.then_unconverted, length-append c.said (unconverteds trees)) (omega (arith, pays_lasts trees)) }

  pub room_of_pattern : reading policy sheet (binding_element 0) notes ≡ whole trees records after → Room sheet trees records
  room_of_pattern e =
      let c = came policy sheet (binding_element 0) notes e in
      let b = bounded_at policy sheet _ (binding_element 0) notes c.done_at_end in
      record { rows = omega arith; records_too = rw (c.then_unconverted, length-append c.said (unconverteds trees)) (omega (arith, pays_lasts trees)) }
