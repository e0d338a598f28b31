-- The trees of a reading are well-formed: every row has the kids that the table of shapes gives its kind. Each nonterminal gives trees of a class of
-- its own, as the grammar has them; so the reading of a whole list is an Expression, and that of a pattern a Binding with or without an initializer.
-- The statements, at the end: `whole_is_well_formed`, `pattern_is_well_formed`, `formed_at`. Assumes nothing.
use Rattle.std.specs.Prelude.{if◌then◌else◌}
use Prim.Native.Nat.{ℕ, suc, ◌+◌, ◌≤◌, ◌<◌}
use mathlib.Core.Path.{◌≡◌, refl}
use mathlib.Core.Bool.{Bool, true, false, not}
use mathlib.Core.List.{List, [], ◌∷◌}
use native.Mathlib.Omega.{arith}
use native.Mathlib.Decide.{ℕ_discrete}
use lib.Dec.{eqb, leb, ltb}
use lib.ListN.{drop}
use borrow.Author.Tests.{eqb-true, eqb-false, ne_eqb, ltb-true, ltb-false, leb-true, not-true}
use Rattle.tokens.specs.Bool.{◌or◌, ◌and◌, ◌is◌, between}
use Rattle.tokens.specs.Kind.{Async, As, Satisfies, Str, Number, LCurly, Comma, Colon, Dot3, Arrow, Question2, Pipe2, Amp2, Star2, Eq}
use Rattle.tokens.specs.Token.{is_name, is_word, is_literal}
use Rattle.operators.specs.Precedence.{tiers, among, level_from, level, expression_level}
use Rattle.rows.specs.Row as Row
use Rattle.rows.specs.Shape.{is_listed, is_left_hand_side, is_unary, is_binary, is_logical, is_assignment, is_expression, is_binding, is_parameter, is_simple_target, is_target, is_body, nothing, only, exactly, shape_of, may_end, last_kind}
use Rattle.laws.proofs.RowKinds.{is_element, is_key, is_argument, is_binding_element, is_property, is_binding_property, any_closed}
use Rattle.rows.specs.Tree.{Tree, Forest, node, nil, cons, one, join, count, kind_of, kids_of}
use Rattle.rows.specs.Record.{Record}
use Rattle.rows.proofs.Rows.{count_join}
use Rattle.conversion.specs.Conversion.{Role, any, simple}
use Rattle.conversion.proofs.RuleHolds.{either_way}
use Rattle.grammar.specs.Sheet.{Sheet, token, break_before, done, first_tree, tree, leaf}
use Rattle.grammar.specs.Job.{Job, expression, sequence, assignment, value, assign, conditional, binary, operators, unary, postfix, left_hand_side, links, arguments, primary, elements, properties, property, key, spread, binding, binding_element, binding_elements, binding_properties, binding_property, binding_rest, head, parameters, body, Asks}
use Rattle.grammar.specs.Assignment.{is_assignment_operator, is_async_name}
use Rattle.grammar.specs.Binary.{operation_kind, right_floor}
use Rattle.grammar.specs.Update.{is_unary_operator, is_update_operator, converted}
use Rattle.grammar.specs.Binding.{argument_of}
use Rattle.grammar.specs.Arrow.{Policy, parenthesized_head_of}
use Rattle.grammar.specs.Step.{step, read, plenty}
use Rattle.grammar.specs.Reading.{whole, reading}
use Rattle.laws.proofs.Good.{productions, wants, came, Meaning, Reads, Answers, Preserved, good, good_done, yields, refuses, says, follows, heads, test, token_test, converts, so, and_left, and_right}
use Rattle.laws.proofs.Bounds.{Nothing, fee, fee_comma, fee_one}
use Rattle.laws.proofs.Formed.{shapes, or_left, or_right, no_ending, one_ending, Middle, one_more, one_closing, no_more, Kids, KidsOf, in_front, then_rest, free, held, Formed, row_formed, AllFormed, all_nil, all_cons, is_well_formed, Converted, converted_formed}
use Rattle.laws.specs.Promises.{Kinds, Ends, Class, of, within, in_class, In, OneTree}

-- a tree that is Formed, and may stand where the class is asked
pub record Well (class : Class) (t : Tree) : Type 0 where
  pub formed : Formed t
  pub fits : In class t

-- and if it is an object, it begins with `{`
pub record Term (sheet : Sheet) (class : Class) (at : ℕ) (t : Tree) : Type 0 where
  pub well : Well class t
  pub braced : between Row.Object Row.ObjectRestComma (kind_of t) ≡ true → token sheet at ≡ LCurly

-- exactly one tree, of which P holds
pub data Sole (P : Tree → Type 0) : Forest → Type 0 where
  sole : {t : Tree} → P t → Sole P (one t)

-- P holds of all trees
pub data All (P : Tree → Type 0) : Forest → Type 0 where
  no_tree : All P nil
  and_tree : {t : Tree} {ts : Forest} → P t → All P ts → All P (cons t ts)

-- an operand above a floor: above that of `&&` it is no Logical
pub record Operand (sheet : Sheet) (floor at : ℕ) (t : Tree) : Type 0 where
  pub term : Term sheet (of is_logical) at t
  pub bare : 3 ≤ floor → In (of is_binary) t

-- the parameters of an arrow
pub record Parameters (ts : Forest) : Type 0 where
  pub are_formed : AllFormed ts
  pub are_parameters : Middle (may_end Row.Arrow) is_parameter (only Row.BindingRest) [] ts

-- a rest, over its argument
pub data Rest : Tree → Type 0 where
  rest_over : {mark first end : ℕ} {t : Tree} → Well (of is_parameter) t → Rest (node Row.BindingRest mark first end (one t))

-- a callee and its arguments so far
pub data Called : Forest → Type 0 where
  called : {t : Tree} {ts : Forest} → Well (of is_left_hand_side) t → All (Well (of is_argument)) ts → Called (cons t ts)

pub data IsArrow (kind : ℕ) : Type 0 where
  is_plain : kind ≡ Row.Arrow → IsArrow kind
  is_async : kind ≡ Row.AsyncArrow → IsArrow kind

-- the literal may be closed here
abbrev pub Closes : Sheet → ℕ → ℕ → Forest → Type 0
Closes sheet first kind so_far = (end : ℕ) → Term sheet (of is_left_hand_side) first (node kind first first end so_far)

-- what a nonterminal must have so far
abbrev pub Fit : Sheet → Job → Type 0
Fit sheet (expression at) = Unit {0}
Fit sheet (sequence first comma at so_far) = All (Well (of is_assignment)) so_far × (1 + fee (token sheet at) ≤ count so_far)
Fit sheet (assignment at) = Unit {0}
Fit sheet (value at) = Unit {0}
Fit sheet (assign first at left) = Formed left
Fit sheet (conditional first at left) = Well (of is_logical) left
Fit sheet (binary floor at) = Unit {0}
Fit sheet (operators floor first at left) = Operand sheet floor first left × (3 < expression_level (token sheet at) → In (of is_binary) left)
Fit sheet (unary at) = Unit {0}
Fit sheet (postfix at) = Unit {0}
Fit sheet (left_hand_side at) = Unit {0}
Fit sheet (links first at left) = Term sheet (of is_left_hand_side) first left
Fit sheet (arguments first at so_far) = Called so_far
Fit sheet (primary at) = Unit {0}
Fit sheet (elements first at kind so_far) = All (Well (of is_element)) so_far × Closes sheet first kind so_far
Fit sheet (properties first at kind so_far) = All (Well (within (may_end Row.Object) is_property)) so_far × Closes sheet first kind so_far × (token sheet first ≡ LCurly)
Fit sheet (property at) = Unit {0}
Fit sheet (key at) = Unit {0}
Fit sheet (spread at) = Unit {0}
Fit sheet (binding at) = Unit {0}
Fit sheet (binding_element at) = Unit {0}
Fit sheet (binding_elements first at so_far) = All (Well (of is_binding_element)) so_far
Fit sheet (binding_properties first at so_far) = All (Well (within (may_end Row.BindingObject) is_binding_property)) so_far
Fit sheet (binding_property at) = Unit {0}
Fit sheet (binding_rest at) = Unit {0}
Fit sheet (head at) = Unit {0}
Fit sheet (parameters at so_far) = All (Well (of is_parameter)) so_far
Fit sheet (body kind first at so_far) = IsArrow kind × Parameters so_far

-- the trees that a nonterminal gives
abbrev pub Gives : Sheet → Job → ℕ → Forest → Type 0
Gives sheet (expression at) end trees = Sole (Well (of is_expression)) trees
Gives sheet (sequence first comma at so_far) end trees = Sole (Well (of is_expression)) trees
Gives sheet (assignment at) end trees = Sole (Term sheet (of is_assignment) at) trees
Gives sheet (value at) end trees = Sole (Term sheet (of is_assignment) at) trees
Gives sheet (assign first at left) end trees = Sole (Term sheet (of is_assignment) first) trees
Gives sheet (conditional first at left) end trees = Sole (Term sheet (of is_assignment) first) trees
Gives sheet (binary floor at) end trees = Sole (Operand sheet floor at) trees × (expression_level (token sheet end) ≤ floor)
Gives sheet (operators floor first at left) end trees = Sole (Operand sheet floor first) trees × (expression_level (token sheet end) ≤ floor)
Gives sheet (unary at) end trees = Sole (Term sheet (of is_unary) at) trees
Gives sheet (postfix at) end trees = Sole (Term sheet (of is_unary) at) trees
Gives sheet (left_hand_side at) end trees = Sole (Term sheet (of is_left_hand_side) at) trees
Gives sheet (links first at left) end trees = Sole (Term sheet (of is_left_hand_side) first) trees
Gives sheet (arguments first at so_far) end trees = Sole (Term sheet (of is_left_hand_side) first) trees
Gives sheet (primary at) end trees = Sole (Term sheet (of is_left_hand_side) at) trees
Gives sheet (elements first at kind so_far) end trees = Sole (Term sheet (of is_left_hand_side) first) trees
Gives sheet (properties first at kind so_far) end trees = Sole (Term sheet (of is_left_hand_side) first) trees
Gives sheet (property at) end trees = Sole (Well (within (may_end Row.Object) is_property)) trees
Gives sheet (key at) end trees = Sole (Well (of is_key)) trees
Gives sheet (spread at) end trees = Sole (Well (of (only Row.Spread))) trees
Gives sheet (binding at) end trees = Sole (Well (of is_binding)) trees
Gives sheet (binding_element at) end trees = Sole (Well (of is_parameter)) trees
Gives sheet (binding_elements first at so_far) end trees = Sole (Well (of is_binding)) trees
Gives sheet (binding_properties first at so_far) end trees = Sole (Well (of is_binding)) trees
Gives sheet (binding_property at) end trees = Sole (Well (within (may_end Row.BindingObject) is_binding_property)) trees
Gives sheet (binding_rest at) end trees = Sole Rest trees
Gives sheet (head at) end trees = Parameters trees
Gives sheet (parameters at so_far) end trees = Parameters trees
Gives sheet (body kind first at so_far) end trees = Sole (Term sheet (of is_assignment) first) trees

-- TREES
sole_so : {P Q : Tree → Type 0} {ts : Forest} → Sole P ts → ((t : Tree) → P t → Q t) → Sole Q ts
sole_so (sole p) f = sole (f _ p)

sole_first : {P : Tree → Type 0} {ts : Forest} → Sole P ts → P (first_tree ts)
unfolding first_tree
sole_first (sole p) = p

all_join : {P : Tree → Type 0} {ts us : Forest} → All P ts → All P us → All P (join ts us)
unfolding join
all_join no_tree u = u
all_join (and_tree p a) u = and_tree p (all_join a u)

all_sole : {P : Tree → Type 0} {ts : Forest} → Sole P ts → All P ts
all_sole (sole p) = and_tree p no_tree

all_formed : {class : Class} {ts : Forest} → All (Well class) ts → AllFormed ts
all_formed no_tree = all_nil
all_formed (and_tree w a) = all_cons w.formed (all_formed a)

all_many : {ends : Ends} {many closing : Kinds} {ending : List Kinds} {ts us : Forest} → All (Well (within ends many)) ts → Middle ends many closing ending us
    → Middle ends many closing ending (join ts us)
unfolding join
all_many no_tree m = m
all_many (and_tree w a) m = one_more w.fits (all_many a m)

formed_join : {ts us : Forest} → AllFormed ts → AllFormed us → AllFormed (join ts us)
unfolding join
formed_join all_nil u = u
formed_join (all_cons f a) u = all_cons f (formed_join a u)

all_middle : {ends : Ends} {many closing : Kinds} {ts : Forest} → All (Well (within ends many)) ts → Middle ends many closing [] ts
all_middle no_tree = no_more no_ending
all_middle (and_tree w a) = one_more w.fits (all_middle a)

-- a wider class
well_so : {c d : Class} {t : Tree} → Well c t → (In c t → In d t) → Well d t
well_so w f = record { formed = w.formed; fits = f w.fits }

term_so : {sheet : Sheet} {c d : Class} {at : ℕ} {t : Tree} → Term sheet c at t → (In c t → In d t) → Term sheet d at t
term_so e f = record { well = well_so e.well f; braced = e.braced }

wider : {a b : Kinds} {t : Tree} → ((k : ℕ) → a k ≡ true → b k ≡ true) → In (of a) t → In (of b) t
unfolding in_class
wider {t = t} f i = record { holds = f (kind_of t) i.holds }

-- of one kind
spread_is : {t : Tree} → In (of (only Row.Spread)) t → kind_of t ≡ Row.Spread
unfolding in_class only
spread_is i = eqb-true _ _ i.holds

-- a Spread, where a class has it whatever its last kid
spread_in : {class : Class} {t : Tree} → ((last : ℕ) → in_class class Row.Spread last ≡ true) → In (of (only Row.Spread)) t → In class t
spread_in f i = record { holds = rw (spread_is i) (f _) }

-- ROWS
-- a row of a class, by its kind
well_of : {class : Class} {kind mark first end : ℕ} {kids : Forest} → Formed (node kind mark first end kids) → in_class class kind (last_kind 0 kids) ≡ true → Well class (node kind mark first end kids)
unfolding kind_of kids_of
well_of f e = record { formed = f; fits = record { holds = e } }

-- a row that is no object
term_of : {sheet : Sheet} {class : Class} {at kind mark first end : ℕ} {kids : Forest} → Formed (node kind mark first end kids) → in_class class kind (last_kind 0 kids) ≡ true
    → between Row.Object Row.ObjectRestComma kind ≡ false → Term sheet class at (node kind mark first end kids)
unfolding kind_of
term_of f e n = record { well = well_of f e; braced = λ q. let z : ◌≡◌ {A = ℕ} 0 1 = cc in absurd (omega arith) }

make : {kind mark first end : ℕ} {kids : Forest} → is_listed kind ≡ true → KidsOf kind kids → AllFormed kids → Formed (node kind mark first end kids)
make l k a = row_formed l k a

-- kids of these kinds and no others
nothing_more : {ends : Ends} {many closing : Kinds} → Kids ends many closing [] [] nil
nothing_more = then_rest (no_more no_ending)

leaf_row : {kind mark first end : ℕ} → shape_of kind ≡ exactly [] → is_listed kind ≡ true → Formed (node kind mark first end nil)
leaf_row e l = make l (rw e nothing_more) all_nil

-- where the last kid of a kid does not matter
well_held : (kind : ℕ) {kinds : Kinds} {t : Tree} → free kind kinds ≡ true → Well (of kinds) t → Well (within (may_end kind) kinds) t
well_held kind f w = well_so w (λ i. held kind f i)

all_held : (kind : ℕ) {kinds : Kinds} {ts : Forest} → free kind kinds ≡ true → All (Well (of kinds)) ts → All (Well (within (may_end kind) kinds)) ts
all_held kind f no_tree = no_tree
all_held kind f (and_tree w a) = and_tree (well_held kind f w) (all_held kind f a)

row_of_one : {a : Kinds} {kind mark first end : ℕ} {ts : Forest} → shape_of kind ≡ exactly (a ∷ []) → is_listed kind and free kind a ≡ true → Sole (Well (of a)) ts
    → Formed (node kind mark first end ts)
row_of_one {a} {kind} e l (sole w) =
    make (and_left _ _ l) (rw e (in_front (held kind (and_right (is_listed kind) _ l) w.fits) nothing_more)) (all_cons w.formed all_nil)

row_of_tree_and : {a b : Kinds} {kind mark first end : ℕ} {t : Tree} {us : Forest} → shape_of kind ≡ exactly (a ∷ b ∷ []) → is_listed kind and free kind a and free kind b ≡ true
    → Well (of a) t → Sole (Well (of b)) us → Formed (node kind mark first end (cons t us))
row_of_tree_and {a} {b} {kind} e l w (sole v) =
    let f = and_right (is_listed kind) _ l in
    make (and_left _ _ l) (rw e (in_front (held kind (and_left _ _ f) w.fits) (in_front (held kind (and_right (free kind a) _ f) v.fits) nothing_more)))
    (all_cons w.formed (all_cons v.formed all_nil))

row_of_two : {a b : Kinds} {kind mark first end : ℕ} {ts us : Forest} → shape_of kind ≡ exactly (a ∷ b ∷ []) → is_listed kind and free kind a and free kind b ≡ true → Sole (Well (of a)) ts
    → Sole (Well (of b)) us → Formed (node kind mark first end (join ts us))
unfolding join
row_of_two e l (sole w) v = row_of_tree_and e l w v

row_of_three : {a b c : Kinds} {kind mark first end : ℕ} {t : Tree} {us vs : Forest} → shape_of kind ≡ exactly (a ∷ b ∷ c ∷ [])
    → is_listed kind and free kind a and free kind b and free kind c ≡ true → Well (of a) t → Sole (Well (of b)) us → Sole (Well (of c)) vs
    → Formed (node kind mark first end (cons t (join us vs)))
unfolding join
row_of_three {a} {b} {c} {kind} e l w (sole v) (sole u) =
    let f = and_right (is_listed kind) _ l in
    let g = and_right (free kind a) _ f in
    make (and_left _ _ l)
    (rw e (in_front (held kind (and_left _ _ f) w.fits) (in_front (held kind (and_left _ _ g) v.fits) (in_front (held kind (and_right (free kind b) _ g) u.fits) nothing_more))))
    (all_cons w.formed (all_cons v.formed (all_cons u.formed all_nil)))

row_closed : {a b : Kinds} {kind mark first end : ℕ} {ts us : Forest} → shape_of kind ≡ any_closed a b → is_listed kind ≡ true → All (Well (within (may_end kind) a)) ts
    → Sole (Well (within (may_end kind) b)) us → Formed (node kind mark first end (join ts us))
row_closed e l w (sole v) = make l (rw e (then_rest (all_many w (one_closing v.fits no_ending)))) (formed_join (all_formed w) (all_cons v.formed all_nil))

row_closable : {a b : Kinds} {kind mark first end : ℕ} {ts : Forest} → shape_of kind ≡ any_closed a b → is_listed kind ≡ true → All (Well (within (may_end kind) a)) ts
    → Formed (node kind mark first end ts)
row_closable e l w = make l (rw e (then_rest (all_middle w))) (all_formed w)

-- a Sequence of two at least
sequence_kids : {ts : Forest} → All (Well (of is_assignment)) ts → 2 ≤ count ts → Kids (may_end Row.Sequence) is_assignment nothing [] (is_assignment ∷ is_assignment ∷ []) ts
unfolding count free is_left_hand_side is_unary is_binary is_logical is_assignment
sequence_kids no_tree l = absurd (omega arith)
sequence_kids (and_tree w no_tree) l = absurd (omega arith)
sequence_kids (and_tree w (and_tree v a)) l =
    in_front (held Row.Sequence refl w.fits) (in_front (held Row.Sequence refl v.fits) (then_rest (all_middle (all_held Row.Sequence refl a))))

sequence_row : {mark first end : ℕ} {ts : Forest} → All (Well (of is_assignment)) ts → 2 ≤ count ts → Well (of is_expression) (node Row.Sequence mark first end ts)
unfolding shapes
sequence_row a l = well_of (make refl (sequence_kids a l) (all_formed a)) refl

-- a Call
call_row : (sheet : Sheet) {mark at first end : ℕ} {ts : Forest} → Called ts → Term sheet (of is_left_hand_side) at (node Row.Call mark first end ts)
unfolding shapes
call_row sheet (called w a) =
    term_of (make refl (in_front (held Row.Call refl w.fits) (then_rest (all_middle (all_held Row.Call refl a)))) (all_cons w.formed (all_formed a))) refl refl

call_join : {ts us : Forest} → Called ts → Sole (Well (of is_argument)) us → Called (join ts us)
unfolding join
call_join (called w a) u = called w (all_join a (all_sole u))

-- a literal whose last kid is a spread
spread_last : (kind : ℕ) {kinds : Kinds} {ts us : Forest} → free kind (only Row.Spread) ≡ true → All (Well (within (may_end kind) kinds)) ts → Sole (Well (of (only Row.Spread))) us
    → Middle (may_end kind) kinds nothing (only Row.Spread ∷ []) (join ts us)
spread_last kind f a (sole w) = all_many a (no_more (one_ending (held kind f w.fits)))

spread_formed : {class : Class} {ts us : Forest} → All (Well class) ts → Sole (Well (of (only Row.Spread))) us → AllFormed (join ts us)
spread_formed a (sole w) = formed_join (all_formed a) (all_cons w.formed all_nil)

-- arrays may be closed
array_closes : (sheet : Sheet) (first : ℕ) {ts : Forest} → All (Well (of is_element)) ts → Closes sheet first Row.Array ts
unfolding shapes
array_closes sheet first a end = term_of (row_closable refl refl (all_held Row.Array refl a)) refl refl

array_comma_closes : (sheet : Sheet) (first : ℕ) {ts us : Forest} → All (Well (of is_element)) ts → Sole (Well (of (only Row.Spread))) us → Closes sheet first Row.ArrayRestComma (join ts us)
unfolding shapes
array_comma_closes sheet first a s end =
    term_of (make refl (then_rest (spread_last Row.ArrayRestComma refl (all_held Row.ArrayRestComma refl a) s)) (spread_formed a s)) refl refl

-- and so may objects
object_closes : (sheet : Sheet) (first : ℕ) {ts : Forest} → token sheet first ≡ LCurly → All (Well (within (may_end Row.Object) is_property)) ts → Closes sheet first Row.Object ts
unfolding shapes
object_closes sheet first t a end = record { well = well_of (row_closable refl refl a) refl; braced = λ e. t }

object_comma_closes : (sheet : Sheet) (first : ℕ) {ts us : Forest} → token sheet first ≡ LCurly → All (Well (within (may_end Row.Object) is_property)) ts → Sole (Well (of (only Row.Spread))) us
    → Closes sheet first Row.ObjectRestComma (join ts us)
unfolding shapes
object_comma_closes sheet first t a s end =
    record { well = well_of (make refl (then_rest (spread_last Row.ObjectRestComma refl a s)) (spread_formed a s)) refl; braced = λ e. t }

-- an arrow: its parameters, and a body that is no object
body_fits : (sheet : Sheet) (at : ℕ) {t : Tree} → token sheet at is LCurly ≡ false → Term sheet (of is_assignment) at t → In (of is_body) t
unfolding in_class is_body
body_fits sheet at {t} n e =
    record { holds = either_way (λ b. b ≡ true) (between Row.Object Row.ObjectRestComma (kind_of t)) (λ q. absurd (eqb-false _ _ n (e.braced q))) (λ _. e.well.fits.holds) }

arrow_middle : {ts : Forest} {t : Tree} → Middle (may_end Row.Arrow) is_parameter (only Row.BindingRest) [] ts → In (of is_body) t
    → Middle (may_end Row.Arrow) is_parameter (only Row.BindingRest) (is_body ∷ []) (join ts (one t))
unfolding join free is_left_hand_side is_unary is_binary is_logical is_assignment is_body
arrow_middle (one_more i m) b = one_more i (arrow_middle m b)
arrow_middle (one_closing i no_ending) b = one_closing i (one_ending (held Row.Arrow refl b))
arrow_middle (no_more no_ending) b = no_more (one_ending (held Row.Arrow refl b))

arrow_row : (sheet : Sheet) (at place : ℕ) {kind mark first end : ℕ} {ts us : Forest} → IsArrow kind → Parameters ts → token sheet place is LCurly ≡ false
    → Sole (Term sheet (of is_assignment) place) us → Term sheet (of is_assignment) at (node kind mark first end (join ts us))
unfolding shapes
arrow_row sheet at place {kind} {mark} {first} {end} {ts} k p n (sole {t} e) = go k
  where
    made : AllFormed (join ts (one t))
    made = formed_join p.are_formed (all_cons e.well.formed all_nil)

    go : IsArrow kind → Term sheet (of is_assignment) at (node kind mark first end (join ts (one t)))
    go (is_plain q) = rw q (term_of (make refl (then_rest (arrow_middle p.are_parameters (body_fits sheet place n e))) made) refl refl)
    go (is_async q) = rw q (term_of (make refl (then_rest (arrow_middle p.are_parameters (body_fits sheet place n e))) made) refl refl)

-- LEVELS
-- `??`, `||` and `&&` have the levels 1 to 3, and all other operators levels above
logical_level : (k : ℕ) → between Question2 Amp2 k ≡ true → expression_level k ≤ 3
unfolding expression_level level
logical_level k e = go (ℕ_discrete k Question2) (ℕ_discrete k Pipe2)
  where
    above : Question2 ≤ k
    above = leb-true _ _ (and_left (leb Question2 k) _ e)

    below : k ≤ Amp2
    below = leb-true _ _ (and_right (leb Question2 k) _ e)

    go : Dec (k ≡ Question2) → Dec (k ≡ Pipe2) → expression_level k ≤ 3
    go (yes q) d = rw q (omega arith)
    go (no q) (yes p) = rw p (omega arith)
    go (no q) (no p) = let a : k ≡ Amp2 = omega (arith, above, below) in rw a (omega arith)

least_level : (l : ℕ) (tiers : List (List ℕ)) (k : ℕ) → 1 ≤ level_from l tiers k → l ≤ level_from l tiers k
least_level l [] k h = absurd (omega arith)
least_level l (tier ∷ tiers) k h = go (among tier k) h (least_level (suc l) tiers k)
  where
    go : (b : Bool) → 1 ≤ (if b then l else level_from (suc l) tiers k) → (1 ≤ level_from (suc l) tiers k → suc l ≤ level_from (suc l) tiers k)
        → l ≤ (if b then l else level_from (suc l) tiers k)
    go true h f = omega arith
    go false h f = omega (arith, f h)

binary_level : (k : ℕ) → between Question2 Amp2 k ≡ false → 1 ≤ expression_level k → 4 ≤ expression_level k
unfolding expression_level level
binary_level k e h = go (k is As or k is Satisfies) h
  where
    differs : (a : ℕ) → between Question2 Amp2 a ≡ true → eqb k a ≡ false
    differs a t = ne_eqb k a (λ q. let w : between Question2 Amp2 k ≡ true = rw q t in let z : ◌≡◌ {A = ℕ} 0 1 = cc in omega arith)

    go : (b : Bool) → 1 ≤ (if b then 0 else level_from 1 tiers k) → 4 ≤ (if b then 0 else level_from 1 tiers k)
    go true h = absurd (omega arith)
    go false h = rw (differs Question2 refl, differs Pipe2 refl, differs Amp2 refl) (least_level 4 (drop 3 tiers) k (rw (differs Question2 refl, differs Pipe2 refl, differs Amp2 refl) at h))

right_below : (k : ℕ) → right_floor k ≤ expression_level k
unfolding right_floor
right_below k = either_way (λ n. n ≤ expression_level k) (k is Star2) (λ _. omega arith) (λ _. omega arith)

right_above : (k : ℕ) → 4 ≤ expression_level k → 3 ≤ right_floor k
unfolding right_floor
right_above k h = either_way (λ n. 3 ≤ n) (k is Star2) (λ _. omega arith) (λ _. omega arith)

-- the row of an operator, and that the operands after it may go on
operation_row : (sheet : Sheet) (floor first at end : ℕ) (left : Tree) (right : Forest) → floor < expression_level (token sheet at)
    → Operand sheet floor first left → (3 < expression_level (token sheet at) → In (of is_binary) left)
    → Sole (Operand sheet (right_floor (token sheet at)) (at + 1)) right → expression_level (token sheet end) ≤ right_floor (token sheet at)
    → Fit sheet (operators floor first end (node (operation_kind (token sheet at)) at first end (cons left right)))
unfolding shapes operation_kind
operation_row sheet floor first at end left right l o b r n = go (between Question2 Amp2 (token sheet at)) refl
  where
    go : (q : Bool) → between Question2 Amp2 (token sheet at) ≡ q → Fit sheet (operators floor first end (node (if q then Row.Logical else Row.Binary) at first end (cons left right)))
    go true q =
        let v = logical_level (token sheet at) q in
        let w = right_below (token sheet at) in
        let row = row_of_tree_and refl refl o.term.well (sole_so r (λ t p. p.term.well)) in
        (record { term = term_of row refl refl; bare = λ h. absurd (omega arith) }, λ h. absurd (omega arith))
    go false q =
        let v = binary_level (token sheet at) q (omega arith) in
        let w = right_above (token sheet at) v in
        let left_is : Well (of is_binary) left = record { formed = o.term.well.formed; fits = b (omega arith) } in
        let right_is : Sole (Well (of is_binary)) right = sole_so r (λ t p. record { formed = p.term.well.formed; fits = p.bare w }) in
        (record { term = term_of (row_of_tree_and refl refl left_is right_is) refl refl; bare = λ h. record { holds = refl } }, λ h. record { holds = refl })

sole_count : {P : Tree → Type 0} {ts : Forest} → Sole P ts → count ts ≡ 1
unfolding count
sole_count (sole p) = refl

-- THE PRODUCTIONS
abbrev Is : Sheet → Job → Meaning
Is sheet job end trees records = Gives sheet job end trees

module _ {N : Type 0} (policy : Policy N) (sheet : Sheet) {ask : Asks N} (h : Answers (Fit sheet) (Is sheet) Nothing ask) where
  asked : (job : Job) → Fit sheet job → Reads (Is sheet job) Nothing (ask job)
  asked job fit = h.with job fit

  wells : {class : Class} {at : ℕ} {ts : Forest} → Sole (Term sheet class at) ts → Sole (Well class) ts
  wells s = sole_so s (λ t e. e.well)

  -- 13.15 and 13.14
  parameter_leaf : (at : ℕ) → Parameters (one (leaf Row.BindingName at))
  unfolding shapes
  parameter_leaf at = record { are_formed = all_cons (leaf_row refl refl) all_nil; are_parameters = one_more (record { holds = refl }) (no_more no_ending) }

  turn_to : (role : Role) (class : Class) (at : ℕ) (left : Tree) → ((t : Tree) → Converted role left t → In class t) → Formed left
      → Reads {N = N} (λ end trees records. Sole (Well class) trees) Nothing (converted role at left)
  turn_to role class at left c f =
      converts role at left
      (λ t records e. let k = converted_formed left role f e in sole (record { formed = k.is_formed; fits = c t k }))
      (λ cause e. tt)

  turn_left : (plain : Bool) (at : ℕ) (left : Tree) → Formed left
      → Reads {N = N} (λ end trees records. Sole (Well (if plain then (of is_target) else (of is_simple_target))) trees) Nothing (converted (if plain then any else simple) at left)
  turn_left true at left f = turn_to any (of is_target) at left (λ t c. c.is_after) f
  turn_left false at left f = turn_to simple (of is_simple_target) at left (λ t c. c.is_after) f

  assign_row : (plain : Bool) {first at mark end : ℕ} {ts us : Forest} → Sole (Well (if plain then (of is_target) else (of is_simple_target))) ts → Sole (Well (of is_assignment)) us
      → Term sheet (of is_assignment) first (node (if plain then Row.Assign else Row.CompoundAssign) at mark end (join ts us))
  unfolding shapes
  assign_row true w v = term_of (row_of_two refl refl w v) refl refl
  assign_row false w v = term_of (row_of_two refl refl w v) refl refl

  -- 13.6 to 13.13
  operand : {floor at : ℕ} {t : Tree} → Term sheet (of is_unary) at t → Operand sheet floor at t
  unfolding shapes
  operand e = record { term = term_so e (λ i. wider (λ k e. or_left _ _ (or_left _ _ e)) i); bare = λ l. wider (λ k. or_left _ _) e.well.fits }

  -- another part, or a spread, and if it has dots a Spread
  or_spread : (class : Class) (at : ℕ) (other : Job) → ((last : ℕ) → in_class class Row.Spread last ≡ true) → Reads (λ end trees records. Sole (Well class) trees) Nothing (ask other)
      → (dots : Bool) → Reads (λ end trees records. Sole (Well class) trees × (dots ≡ true → Sole (Well (of (only Row.Spread))) trees)) Nothing (ask (if dots then spread at else other))
  or_spread class at other s o true = so (asked (spread at) tt) (λ end trees records b. (sole_so b (λ t w. well_so w (spread_in s)), λ e. b))
  or_spread class at other s o false = so o (λ end trees records b. (b, λ e. let z : ◌≡◌ {A = ℕ} 0 1 = cc in absurd (omega arith)))

  assigned : {kinds : Kinds} (at : ℕ) → ((k : ℕ) → is_assignment k ≡ true → kinds k ≡ true) → Reads (λ end trees records. Sole (Well (of kinds)) trees) Nothing (ask (assignment at))
  assigned at f = so (asked (assignment at) tt) (λ end trees records b. sole_so b (λ t e. well_so e.well (wider f)))

  array_goes_on : (first : ℕ) (dots : Bool) {so_far trees : Forest} → All (Well (of is_element)) so_far → Sole (Well (of is_element)) trees → (dots ≡ true → Sole (Well (of (only Row.Spread))) trees)
      → Closes sheet first (if dots then Row.ArrayRestComma else Row.Array) (join so_far trees)
  array_goes_on first true a s d = array_comma_closes sheet first a (d refl)
  array_goes_on first false a s d = array_closes sheet first (all_join a (all_sole s))

  object_goes_on : (first : ℕ) (dots : Bool) {so_far trees : Forest} → token sheet first ≡ LCurly → All (Well (within (may_end Row.Object) is_property)) so_far → Sole (Well (within (may_end Row.Object) is_property)) trees
      → (dots ≡ true → Sole (Well (of (only Row.Spread))) trees) → Closes sheet first (if dots then Row.ObjectRestComma else Row.Object) (join so_far trees)
  object_goes_on first true t a s d = object_comma_closes sheet first t a (d refl)
  object_goes_on first false t a s d = object_closes sheet first t (all_join a (all_sole s))

  -- a Property, whose class depends on its value
  property_row : {mark first end : ℕ} {ts us : Forest} → Sole (Well (of is_key)) ts → Sole (Well (of is_assignment)) us → Well (within (may_end Row.Object) is_property) (node Row.Property mark first end (join ts us))
  unfolding shapes join
  property_row (sole k) (sole w) =
      well_of (row_of_two refl refl (sole k) (sole (well_so w (wider (λ k. or_left _ _))))) w.fits.holds

  rest_over_sole : {mark first end : ℕ} {ts : Forest} → Sole (Well (of is_parameter)) ts → Rest (node Row.BindingRest mark first end ts)
  rest_over_sole (sole w) = rest_over w

  rest_well : {ts : Forest} → Sole Rest ts → Sole (Well (of (only Row.BindingRest))) ts
  unfolding shapes
  rest_well (sole (rest_over w)) = sole (well_of (row_of_one refl refl (sole w)) refl)

  name_rest_well : {ts : Forest} → Sole Rest ts → kind_of (argument_of (first_tree ts)) is Row.BindingName ≡ true → Sole (Well (within (may_end Row.BindingObject) (only Row.BindingRest))) ts
  unfolding shapes first_tree
  name_rest_well (sole (rest_over w)) e = sole (well_of (row_of_one refl refl (sole w)) e)

  array_element : {so_far trees : Forest} → All (Well (of is_binding_element)) so_far → Sole (Well (of is_parameter)) trees → All (Well (of is_binding_element)) (join so_far trees)
  array_element a s = all_join a (all_sole (sole_so s (λ t w. well_so w (wider (λ k. or_left _ _)))))

  binding_property_row : {mark first end : ℕ} {ts us : Forest} → Sole (Well (of is_key)) ts → Sole (Well (of is_parameter)) us
      → Well (within (may_end Row.BindingObject) is_binding_property) (node Row.Property mark first end (join ts us))
  unfolding shapes join
  binding_property_row (sole k) (sole w) = well_of (row_of_two refl refl (sole k) (sole (well_so w (wider (λ k e. rw e (or_right (is_assignment k))))))) w.fits.holds

  -- 15.3 and 15.9
  parameters_are : {ts : Forest} → All (Well (of is_parameter)) ts → Parameters ts
  unfolding free is_binding is_parameter
  parameters_are a = record { are_formed = all_formed a; are_parameters = all_middle (all_held Row.Arrow refl a) }

  parameters_and_rest : {ts us : Forest} → All (Well (of is_parameter)) ts → Sole (Well (of (only Row.BindingRest))) us → Parameters (join ts us)
  unfolding free only is_binding is_parameter
  parameters_and_rest a (sole w) =
      record {
        are_formed = formed_join (all_formed a) (all_cons w.formed all_nil);
        are_parameters = all_many (all_held Row.Arrow refl a) (one_closing (held Row.Arrow refl w.fits) no_ending);
      }

  parenthesized_head_well : (at : ℕ) → Reads (Is sheet (head at)) Nothing (parenthesized_head_of sheet ask at)
  unfolding productions
  parenthesized_head_well at =
      wants sheet _ _ _ tt (λ t. follows (asked (parameters (at + 1) nil) no_tree) (λ list rs b. wants sheet _ _ _ tt (λ t. yields _ _ b)))

  arrow_kind : (async : Bool) → IsArrow (if async then Row.AsyncArrow else Row.Arrow)
  arrow_kind async = either_way IsArrow async (λ _. is_async refl) (λ _. is_plain refl)

  -- every production
  step_well : (job : Job) → Fit sheet job → Reads (Is sheet job) Nothing (step policy sheet ask job)
  unfolding productions shapes fee
  -- 13.16
  step_well (expression at) fit =
      follows (asked (assignment at) tt)
      (λ part rs b. token_test sheet _ _
      (λ t. asked (sequence at part.end part.end part.trees) (all_sole (wells b), omega (arith, sole_count b, fee_comma t.kind_is)))
      (yields _ _ (sole_so b (λ t e. well_so e.well (wider (λ k. or_left _ _))))))
  step_well (sequence first comma at so_far) fit =
      test (token sheet at is Comma)
      (λ t. follows (asked (assignment (at + 1)) tt)
      (λ part rs b. asked (sequence first comma part.end (join so_far part.trees))
      (all_join fit.0 (all_sole (wells b)), omega (arith, count_join so_far part.trees, sole_count b, fit.1, fee_one (token sheet part.end)))))
      (λ f. let l = rw f at fit.1 in yields _ _ (sole (sequence_row fit.0 (omega arith))))
  step_well (assignment at) fit =
      heads policy sheet ask at (asked (value at) tt) (asked (head at) tt) (λ list rs b. asked (body _ at list.end list.trees) (arrow_kind (token sheet at is Async), b))
  step_well (value at) fit =
      test (is_async_name sheet at)
      (λ t. asked (body Row.AsyncArrow at (at + 2) (one (leaf Row.BindingName (at + 1)))) (is_async refl, parameter_leaf (at + 1)))
      (λ _. follows (asked (binary 0 at) tt)
      (λ left rs b. test (kind_of (tree left) is Row.Identifier and token sheet left.end is Arrow)
      (λ t. asked (body Row.Arrow at left.end (one (leaf Row.BindingName at))) (is_plain refl, parameter_leaf at))
      (λ _. test (is_assignment_operator (token sheet left.end))
      (λ t. asked (assign at left.end (tree left)) (sole_first b.0).term.well.formed)
      (λ _. token_test sheet _ _ (λ t. asked (conditional at left.end (tree left)) (sole_first b.0).term.well)
      (yields _ _ (sole_so b.0 (λ t o. term_so o.term (wider (λ k. or_left _ _)))))))))
  step_well (assign first at left) f =
      follows (turn_left (token sheet at is Eq) at left f)
      (λ target rs b. follows (asked (assignment (at + 1)) tt) (λ right more c. yields _ _ (sole (assign_row (token sheet at is Eq) b (wells c)))))
  step_well (conditional first at left) w =
      follows (asked (assignment (at + 1)) tt)
      (λ if_true rs b. wants sheet _ _ _ tt
      (λ t. follows (asked (assignment (if_true.end + 1)) tt) (λ if_false more c. yields _ _ (sole (term_of (row_of_three refl refl w (wells b) (wells c)) refl refl)))))
  step_well (binary floor at) fit =
      follows (asked (unary at) tt)
      (λ left rs b. asked (operators floor at left.end (tree left)) (operand (sole_first b), λ l. wider (λ k. or_left _ _) (sole_first b).well.fits))
  step_well (operators floor first at left) fit =
      test (ltb floor (expression_level (token sheet at)))
      (λ t. follows (asked (binary (right_floor (token sheet at)) (at + 1)) tt)
      (λ right rs b. says _ (asked (operators floor first right.end (node (operation_kind (token sheet at)) at first right.end (cons left right.trees)))
      (operation_row sheet floor first at right.end left right.trees (ltb-true _ _ t) fit.0 fit.1 b.0 b.1))))
      (λ f. yields _ _ (sole fit.0, ltb-false _ _ f))
  -- 13.5 and 13.4
  step_well (unary at) fit =
      test (is_unary_operator (token sheet at))
      (λ t. follows (asked (unary (at + 1)) tt) (λ operand rs b. yields _ _ (sole (term_of (row_of_one refl refl (wells b)) refl refl))))
      (λ _. test (is_update_operator (token sheet at))
      (λ t. follows (asked (unary (at + 1)) tt)
      (λ operand rs b. follows (turn_to simple (of is_simple_target) operand.end (tree operand) (λ t c. c.is_after) (sole_first b).well.formed)
      (λ target more c. yields _ _ (sole (term_of (row_of_one refl refl c) refl refl)))))
      (λ _. asked (postfix at) tt))
  step_well (postfix at) fit =
      follows (asked (left_hand_side at) tt)
      (λ operand rs b. test (is_update_operator (token sheet operand.end) and not (break_before sheet operand.end))
      (λ t. follows (turn_to simple (of is_simple_target) operand.end (tree operand) (λ t c. c.is_after) (sole_first b).well.formed)
      (λ target more c. yields _ _ (sole (term_of (row_of_one refl refl c) refl refl))))
      (λ _. yields _ _ (sole_so b (λ t e. term_so e (wider (λ k. or_left _ _))))))
  -- 13.3
  step_well (left_hand_side at) fit = follows (asked (primary at) tt) (λ base rs b. asked (links at base.end (tree base)) (sole_first b))
  step_well (links first at left) fit =
      token_test sheet _ _
      (λ t. test (is_word (token sheet (at + 1)))
      (λ w. asked (links first (at + 2) (node Row.Member (at + 1) first (at + 2) (one left))) (term_of (row_of_one refl refl (sole fit.well)) refl refl))
      (λ _. refuses _ tt))
      (token_test sheet _ _
      (λ t. follows (asked (expression (at + 1)) tt)
      (λ inner rs b. wants sheet _ _ _ tt
      (λ t. asked (links first (inner.end + 1) (node Row.Index first first (inner.end + 1) (cons left inner.trees))) (term_of (row_of_tree_and refl refl fit.well b) refl refl))))
      (token_test sheet _ _
      (λ t. follows (asked (arguments first (at + 1) (one left)) (called fit.well no_tree)) (λ call rs b. asked (links first call.end (tree call)) (sole_first b)))
      (yields _ _ (sole fit))))
  step_well (arguments first at so_far) fit =
      token_test sheet _ _ (λ t. yields _ _ (sole (call_row sheet fit)))
      (follows (or_spread (of is_argument) at (assignment at) (λ _. refl) (assigned at (λ k. or_left _ _)) (token sheet at is Dot3))
      (λ argument rs b. token_test sheet _ _ (λ t. asked (arguments first (argument.end + 1) (join so_far argument.trees)) (call_join fit b.0))
      (wants sheet _ _ _ tt (λ t. yields _ _ (sole (call_row sheet (call_join fit b.0)))))))
  -- 13.2
  step_well (primary at) fit =
      test (is_name (token sheet at)) (λ t. yields _ _ (sole (term_of (leaf_row refl refl) refl refl)))
      (λ _. token_test sheet _ _ (λ t. yields _ _ (sole (term_of (leaf_row refl refl) refl refl)))
      (test (is_literal (token sheet at)) (λ t. yields _ _ (sole (term_of (leaf_row refl refl) refl refl)))
      (λ _. token_test sheet _ _
      (λ t. follows (asked (expression (at + 1)) tt)
      (λ inner rs b. wants sheet _ _ _ tt (λ t. yields _ _ (sole (term_of (row_of_one refl refl b) refl refl)))))
      (token_test sheet _ _ (λ t. asked (elements at (at + 1) Row.Array nil) (no_tree, array_closes sheet at no_tree))
      (wants sheet _ _ _ tt (λ t. asked (properties at (at + 1) Row.Object nil) (no_tree, object_closes sheet at t.kind_is no_tree, t.kind_is)))))))
  step_well (elements first at kind so_far) fit =
      token_test sheet _ _ (λ t. yields _ _ (sole (fit.1 (at + 1))))
      (token_test sheet _ _
      (λ t. let a = all_join fit.0 (all_sole (sole (well_of (leaf_row refl refl) refl))) in asked (elements first (at + 1) Row.Array (join so_far (one (leaf Row.Hole at)))) (a, array_closes sheet first a))
      (follows (or_spread (of is_element) at (assignment at) (λ _. refl) (assigned at (λ k. or_left _ _)) (token sheet at is Dot3))
      (λ element rs b. token_test sheet _ _
      (λ t. asked (elements first (element.end + 1) (if token sheet at is Dot3 then Row.ArrayRestComma else Row.Array) (join so_far element.trees))
      (all_join fit.0 (all_sole b.0), array_goes_on first (token sheet at is Dot3) fit.0 b.0 b.1))
      (wants sheet _ _ _ tt (λ t. yields _ _ (sole (array_closes sheet first (all_join fit.0 (all_sole b.0)) (element.end + 1))))))))
  step_well (properties first at kind so_far) fit =
      token_test sheet _ _ (λ t. yields _ _ (sole (fit.1 (at + 1))))
      (follows (or_spread (within (may_end Row.Object) is_property) at (property at) (λ _. refl) (asked (property at) tt) (token sheet at is Dot3))
      (λ part rs b. token_test sheet _ _
      (λ t. asked (properties first (part.end + 1) (if token sheet at is Dot3 then Row.ObjectRestComma else Row.Object) (join so_far part.trees))
      (all_join fit.0 (all_sole b.0), object_goes_on first (token sheet at is Dot3) fit.2 fit.0 b.0 b.1, fit.2))
      (wants sheet _ _ _ tt (λ t. yields _ _ (sole (object_closes sheet first fit.2 (all_join fit.0 (all_sole b.0)) (part.end + 1)))))))
  step_well (property at) fit =
      test (is_name (token sheet at) and not (token sheet (at + 1) is Colon))
      (λ n. token_test sheet _ _
      (λ t. follows (asked (assignment (at + 2)) tt)
      (λ initializer rs b. yields _ _ (sole (well_of (row_of_tree_and refl refl (well_of (leaf_row refl refl) refl) (wells b)) refl))))
      (yields _ _ (sole (well_of (row_of_one refl refl (sole (well_of (leaf_row refl refl) refl))) refl))))
      (λ _. follows (asked (key at) tt)
      (λ name rs b. wants sheet _ _ _ tt
      (λ t. follows (asked (assignment (name.end + 1)) tt) (λ content more c. yields _ _ (sole (property_row b (wells c)))))))
  step_well (key at) fit =
      test (is_word (token sheet at) or token sheet at is Str or token sheet at is Number) (λ t. yields _ _ (sole (well_of (leaf_row refl refl) refl)))
      (λ _. wants sheet _ _ _ tt (λ t. follows (asked (assignment (at + 1)) tt)
      (λ inner rs b. wants sheet _ _ _ tt (λ t. yields _ _ (sole (well_of (row_of_one refl refl (wells b)) refl))))))
  step_well (spread at) fit = follows (asked (assignment (at + 1)) tt) (λ argument rs b. yields _ _ (sole (well_of (row_of_one refl refl (wells b)) refl)))
  -- 14.3.3
  step_well (binding at) fit =
      test (is_name (token sheet at)) (λ t. yields _ _ (sole (well_of (leaf_row refl refl) refl)))
      (λ _. token_test sheet _ _ (λ t. asked (binding_elements at (at + 1) nil) no_tree)
      (wants sheet _ _ _ tt (λ t. asked (binding_properties at (at + 1) nil) no_tree)))
  step_well (binding_element at) fit =
      follows (asked (binding at) tt)
      (λ target rs b. token_test sheet _ _
      (λ t. follows (asked (assignment (target.end + 1)) tt) (λ initializer more c. yields _ _ (sole (well_of (row_of_two refl refl b (wells c)) refl))))
      (yields _ _ (sole_so b (λ t w. well_so w (wider (λ k. or_left _ _))))))
  step_well (binding_elements first at so_far) a =
      token_test sheet _ _ (λ t. yields _ _ (sole (well_of (row_closable refl refl (all_held Row.BindingArray refl a)) refl)))
      (token_test sheet _ _
      (λ t. asked (binding_elements first (at + 1) (join so_far (one (leaf Row.Hole at)))) (all_join a (all_sole (sole (well_of (leaf_row refl refl) refl)))))
      (token_test sheet _ _
      (λ t. follows (asked (binding_rest at) tt)
      (λ rest rs b. wants sheet _ _ _ tt (λ t. yields _ _ (sole (well_of (row_closed refl refl (all_held Row.BindingArray refl a) (sole_so (rest_well b) (λ t w. well_held Row.BindingArray refl w))) refl)))))
      (follows (asked (binding_element at) tt)
      (λ element rs b. token_test sheet _ _ (λ t. asked (binding_elements first (element.end + 1) (join so_far element.trees)) (array_element a b))
      (wants sheet _ _ _ tt (λ t. yields _ _ (sole (well_of (row_closable refl refl (all_held Row.BindingArray refl (array_element a b))) refl))))))))
  step_well (binding_properties first at so_far) a =
      token_test sheet _ _ (λ t. yields _ _ (sole (well_of (row_closable refl refl a) refl)))
      (token_test sheet _ _
      (λ t. follows (asked (binding_rest at) tt)
      (λ rest rs b. wants sheet _ _ _ tt (λ t. test (kind_of (argument_of (tree rest)) is Row.BindingName)
      (λ e. yields _ _ (sole (well_of (row_closed refl refl a (name_rest_well b e)) refl)))
      (λ _. refuses _ tt))))
      (follows (asked (binding_property at) tt)
      (λ part rs b. token_test sheet _ _ (λ t. asked (binding_properties first (part.end + 1) (join so_far part.trees)) (all_join a (all_sole b)))
      (wants sheet _ _ _ tt (λ t. yields _ _ (sole (well_of (row_closable refl refl (all_join a (all_sole b))) refl)))))))
  step_well (binding_property at) fit =
      test (is_name (token sheet at) and not (token sheet (at + 1) is Colon))
      (λ n. token_test sheet _ _
      (λ t. follows (asked (assignment (at + 2)) tt)
      (λ initializer rs b. yields _ _ (sole (well_of (row_of_tree_and refl refl (well_of (leaf_row refl refl) refl) (wells b)) refl))))
      (yields _ _ (sole (well_of (row_of_one refl refl (sole (well_of (leaf_row refl refl) refl))) refl))))
      (λ _. follows (asked (key at) tt)
      (λ name rs b. wants sheet _ _ _ tt
      (λ t. follows (asked (binding_element (name.end + 1)) tt) (λ content more c. yields _ _ (sole (binding_property_row b c))))))
  step_well (binding_rest at) fit = follows (asked (binding_element (at + 1)) tt) (λ argument rs b. says _ (yields _ _ (sole (rest_over_sole b))))
  step_well (head at) fit =
      token_test sheet _ _ (λ t. test (not (break_before sheet (at + 1))) (λ _. parenthesized_head_well (at + 1)) (λ _. refuses _ tt))
      (parenthesized_head_well at)
  step_well (parameters at so_far) a =
      token_test sheet _ _ (λ t. yields _ _ (parameters_are a))
      (token_test sheet _ _
      (λ t. follows (asked (binding_rest at) tt) (λ rest rs b. wants sheet _ _ _ tt (λ t. yields _ _ (parameters_and_rest a (rest_well b)))))
      (follows (asked (binding_element at) tt)
      (λ parameter rs b. token_test sheet _ _ (λ t. asked (parameters (parameter.end + 1) (join so_far parameter.trees)) (all_join a (all_sole b)))
      (wants sheet _ _ _ tt (λ t. yields _ _ (parameters_are (all_join a (all_sole b))))))))
  step_well (body kind first at so_far) fit =
      says _ (test (not (token sheet (at + 1) is LCurly))
      (λ n. follows (asked (assignment (at + 1)) tt)
      (λ inner rs b. yields _ _ (sole (arrow_row sheet first (at + 1) fit.0 fit.1 (not-true _ n) b))))
      (λ _. refuses _ tt))

one_tree : {class : Class} {trees : Forest} → Sole (Well class) trees → OneTree class trees
one_tree (sole {t} w) = record { root = t; is_root = refl; root_well_formed = is_well_formed w.formed; root_in_class = w.fits }

module _ {N : Type 0} (policy : Policy N) (sheet : Sheet) where
  preserved : Preserved policy sheet (Fit sheet) (Is sheet) Nothing
  preserved = record { with = λ ask h. record { with = λ job fit. step_well policy sheet h job fit } }

  -- a nonterminal that is done gives trees of its class
  pub formed_at : (steps : ℕ) (job : Job) → Fit sheet job → (notes : N) {end : ℕ} {trees : Forest} {records : List Record} {after : N}
      → read policy sheet steps job notes ≡ done end trees records after → Gives sheet job end trees
  formed_at steps job fit notes e = good_done policy sheet (Fit sheet) (Is sheet) Nothing steps (good policy sheet (Fit sheet) (Is sheet) Nothing preserved steps) job fit notes e

  -- a list that is read as a whole is one well-formed Expression
  pub whole_is_well_formed : (notes : N) {trees : Forest} {records : List Record} {after : N} → reading policy sheet (expression 0) notes ≡ whole trees records after
      → OneTree (of is_expression) trees
  whole_is_well_formed notes e = one_tree (formed_at (plenty sheet) (expression 0) tt notes (came policy sheet (expression 0) notes e).done_at_end)

  -- and a pattern one well-formed Binding, with or without an initializer
  pub pattern_is_well_formed : (notes : N) {trees : Forest} {records : List Record} {after : N} → reading policy sheet (binding_element 0) notes ≡ whole trees records after
      → OneTree (of is_parameter) trees
  pattern_is_well_formed notes e = one_tree (formed_at (plenty sheet) (binding_element 0) tt notes (came policy sheet (binding_element 0) notes e).done_at_end)
