-- The members of the cycle meet their contracts: laws of proofs/Steps, one file a member, put to use.
use Rattle.std.specs.Prelude.{Ok, Err, Result, if◌then◌else◌}
use Rattle.std.specs.Result.{IsErrAnd}
use Rattle.std.proofs.lemmas.Result.{err_from_is_err_and}
use Prim.Native.Nat.{ℕ, ◌+◌, ◌*◌, ◌/◌}
use mathlib.Core.Path.{◌≡◌, refl, sym, ap, ◌∙◌}
use mathlib.Core.Bool.{true}
use mathlib.Core.List.{List}
use Rattle.std.proofs.Common.{rules}
use native.Mathlib.Omega.{arith}
use lib.ListN.{length, get_or}
use Rattle.tokens.specs.Bool.{◌is◌}
use Rattle.tokens.specs.Kind.{Async, Dot3}
use Rattle.tokens.specs.declared.cause.Cause.{Cause}
use Rattle.tokens.proofs.Stands.{stands}
use Rattle.rows.specs.Tree.{Tree, nil, one}
use Rattle.rows.specs.Row as Row
use Rattle.rows.specs.Post.{Grown}
use Rattle.grammar.specs.Sheet.{sheet_of}
use Rattle.grammar.specs.Assignment.{is_async_name}
use Rattle.grammar.specs.Job.{Job, assignment, spread, arguments, elements, binding_elements, binding_properties, properties}
use Rattle.laws.proofs.Good.{and_left}
use Rattle.heads.specs.Heads.{arrow_kind}
use Rattle.build.specs.Post.{cursor, Met}
use Rattle.build.specs.declared.cursor.Cursor.{Cursor}
use Rattle.build.proofs.Ends.{is_fail, moved}
use Rattle.build.proofs.Steps.Inside.{closed_read, inside_fails, inside_opens, inside_done}
use denote.Enum.Bare.{Bare, same_true, same_false, differs_true, differs_false}
use lib.Seq.{length-take-le}
use Rattle.heads.specs.contracts.Way.{the_type as way_type}
use Rattle.waiting.proofs.Value.{async_stands}
use Rattle.waiting.proofs.Assign.{is_tried, tried_stands, past_none, past_given_up, Past}
use Rattle.waiting.proofs.Starts.{whole_of, looping_starts, top_inside, Stepped, start_fits, stepped, looping_again, looping_less, start_opens, start_commits}
use Rattle.waiting.proofs.Starts.{start_asyncs, passed_part, passed_operand, start_operand, start_fails, Passed}
use Rattle.parse.proofs.Steps.Singles.{assign_stands, item_singles, assign_singles, primary_stands, primary_singles, unary_stands, unary_singles}
use Rattle.parse.proofs.Steps.Spread.{starts as spread_starts, item_fails, item_plain, item_spreads, spread_refused, spread_read}
use Rattle.parse.proofs.Steps.Cursors.{leafed_now, topped_now}
use Rattle.parse.proofs.Steps.Binding.{binding_names, binding_arrays, binding_objects, binding_nones, name_stands}
use Rattle.parse.proofs.Steps.Key.{shorthand_stands, key_stands, key_words, key_nones, key_refuses, key_opens, key_dones}
use Rattle.parse.proofs.Steps.Bproperty.{bproperty_shorthands, bproperty_inits, bproperty_refuses, bproperty_opens, bproperty_fails_after, bproperty_dones}
use Rattle.parse.proofs.Steps.Comma.{comma_starts, comma_stops, comma_one, comma_ends, comma_marks, comma_again, comma_some}
use Rattle.parse.proofs.Steps.Element.{element_refused, element_stops, element_fails_after, element_done}
use Rattle.parse.proofs.Steps.Head.{opens_plain, opens_async, head_breaks, head_no_parens, head_refused, head_no_arrows, head_dones, is_not_listed, Opens}
use Rattle.parse.proofs.Steps.Init.{init_fails, init_done}
use Rattle.parse.proofs.Steps.Rest.{closed_refused, closed_open, closed_done, one_to, said_to, rest_refused, rest_bare, rest_initialized}
use Rattle.parse.proofs.Steps.Primary.{primary_refuses, primary_parens, primary_arrays, primary_objects, primary_nones}
use Rattle.parse.proofs.Steps.Property.{property_shorthands, property_refuses, property_opens, keyed_name, keyed_key, keyed_as, property_fails_after, property_dones, Keyed}
use Rattle.parse.proofs.Steps.Unary.{skips_one, skips_inside, unary_operand_fails, unary_update_fails, operand_fits, prefixes_fit, unary_ends}
use borrow.Author.Tests.{ne_eqb}
use Rattle.build.proofs.Rules.{elements_hole, binding_elements_hole, binding_elements_rest_fails, binding_elements_rest_open, binding_elements_rest}
use Rattle.build.proofs.Rules.{binding_properties_rest_fails, binding_properties_rest_open, parameters_rest_fails, parameters_rest_open, parameters_rest}
use Rattle.parse.proofs.Steps.Left.{left_turns, left_linked, word_stands, left_refuses, left_ends, left_no_word, left_member, left_index_refuses, left_index}
use Rattle.parse.proofs.Steps.Left.{left_operand, left_call_refuses, left_call_reaches, left_call}
use Rattle.parse.proofs.Steps.Listing.{Ended, ended, over_left, starts_over, ends, refuses, moves, opens, closes, turns, topped, arguments_list, starts, holes}
use Rattle.parse.proofs.Steps.Listing.{elements_list, rest_refuses, rest_closes, closed_after, binding_elements_list, gives_up_past, binding_properties_list}
use Rattle.parse.proofs.Steps.Listing.{rest_rows, rest_no_name, rest_named, properties_list, listed, parameters_list}
use Rattle.parse.proofs.+expressions.Goals as goal
use Rattle.parse.proofs.+expressions.Goals.{args-Joined-kind_at-eq-R_PAREN, args-then-kind_at-eq-R_PAREN, args-else-kind_at-eq-R_PAREN+then-next-eq-R_PAREN}
use Rattle.parse.proofs.+expressions.Goals.{array-Joined-k-eq-R_BRACK, array-then-k-eq-R_BRACK, array-else-k-eq-R_BRACK+else-k-eq-COMMA+then-next-eq-R_BRACK}
use Rattle.parse.proofs.+expressions.Goals.{barray-Joined-k-eq-R_BRACK, barray-then-k-eq-R_BRACK, barray-else-k-eq-R_BRACK+else-k-eq-COMMA+then-k-eq-DOT3+in_ok-c}
use Rattle.parse.proofs.+expressions.Goals.{barray-else-k-eq-R_BRACK+else-k-eq-COMMA+else-k-eq-DOT3+in_ok-c-2+then-next-eq-R_BRACK, bobject-Joined-k-eq-R_CURLY}
use Rattle.parse.proofs.+expressions.Goals.{bobject-then-k-eq-R_CURLY, bobject-else-k-eq-R_CURLY+then-k-eq-DOT3+in_ok-c+else-row_word-ne-BINDING_NAME}
use Rattle.parse.proofs.+expressions.Goals.{bobject-else-k-eq-R_CURLY+else-k-eq-DOT3+in_ok-c-2+then-next-eq-R_CURLY, object-Joined-k-eq-R_CURLY}
use Rattle.parse.proofs.+expressions.Goals.{object-then-k-eq-R_CURLY, object-else-k-eq-R_CURLY+in_ok-c+then-next-eq-R_CURLY, assign-After-after_start}
use Rattle.parse.proofs.+expressions.Goals.{start-Joined-ne, start-Joined-part, start-then-part+else-is_async_name, start-then-ne+in-Err-2, start-else-ne}
use Rattle.parse.proofs.+expressions.Goals.{start-else-part, args-Joined-single_part, args-in-Some, args-in-None+in_ok-c-in-None, array-Joined-single_part}
use Rattle.parse.proofs.+expressions.Goals.{array-in-Some, array-in-None+in_ok-c-in-None, element-Joined-single_part, head-Joined-kind_at-eq-ASYNC}
use Rattle.parse.proofs.+expressions.Goals.{init-Joined-single_part, property-Joined-is_shorthand, property-Joined-single_part, element-in-Some}
use Rattle.parse.proofs.+expressions.Goals.{element-in-None+in_ok-e-in-None, head-then-kind_at-eq-ASYNC+else-flag_at-eq1, head-else-kind_at-eq-ASYNC, init-in-Some}
use Rattle.parse.proofs.+expressions.Goals.{init-in-None+in_ok-d-in-None, property-then-is_shorthand+else-kind_at-ne-EQ}
use Rattle.parse.proofs.+expressions.Goals.{property-else-is_shorthand+in_ok-name+else-kind_at-ne-COLON, property-in-Some, property-in-None+in_ok-e-in-None}

-- What the exit of a `?` returns: the callee's refusal.
exits : {T : Type 0} {cause : Cause} (x : Result T Cause) → IsErrAnd x (λ e. e ≡ cause) → x ≡ Err cause
exits x h = let p = err_from_is_err_and x h in p.1 ∙ ap Err p.2

-- Where two ways join, what was read on the way that was taken was read.
joined : {ks fs r₀ s₀ m₀ r s m r' s' m' : List ℕ} {job : Job} {n k : ℕ} {d d' : Cursor} → r ≡ r' → s ≡ s' → m ≡ m' → d ≡ d'
    → Met ks fs r₀ s₀ m₀ r' s' m' job n k (Ok d') → Met ks fs r₀ s₀ m₀ r s m job n k (Ok d)
joined e e' e'' q h = rw (e, e', e'', q) h

-- `binding`
pub binding-leaf-requires : goal.binding-leaf-requires
binding-leaf-requires t c = omega (arith, name_stands c.args.sheet.now.kinds.now c.kind_at-k.ensures c.if-is_name.ensures)

pub binding-returns-then-is_name : goal.binding-returns-then-is_name
binding-returns-then-is_name t c = binding_names c.kind_at-k.ensures c.if-is_name.ensures c.leaf.ensures

pub binding-returns-in-20 : goal.binding-returns-in-20
binding-returns-in-20 t c = binding_arrays c.kind_at-k.ensures c.in-20.is c.barray.ensures

pub binding-returns-in-22 : goal.binding-returns-in-22
binding-returns-in-22 t c = binding_objects c.kind_at-k.ensures c.in-22.is c.bobject.ensures

pub binding-returns-in_default : goal.binding-returns-in_default
binding-returns-in_default t c = binding_nones c.kind_at-k.ensures c.if-is_name.ensures (omega arith) (omega arith)

-- `bproperty`
pub bproperty-over-requires : goal.bproperty-over-requires
bproperty-over-requires t c = omega (arith, shorthand_stands c.requires.room c.if-is_shorthand.ensures, leafed_now c.leaf-d.ensures)

pub bproperty-returns-then-kind_at-ne-EQ : goal.bproperty-returns-then-kind_at-ne-EQ
bproperty-returns-then-kind_at-ne-EQ t c =
    bproperty_shorthands c.requires.room c.if-is_shorthand.ensures c.leaf-d.ensures c.kind_at.ensures c.if-kind_at-ne-EQ.true c.over.ensures

pub bproperty-returns-then-is_shorthand : goal.bproperty-returns-then-is_shorthand
bproperty-returns-then-is_shorthand t c =
    bproperty_inits c.requires.room c.if-is_shorthand.ensures c.leaf-d.ensures c.kind_at.ensures c.if-kind_at-ne-EQ.false c.init.ensures

pub bproperty-returns-in_err-d : goal.bproperty-returns-in_err-d
bproperty-returns-in_err-d t c =
    rw (exits _ c.from_residual.ensures.1) (bproperty_refuses c.requires.room c.if-is_shorthand.ensures c.in_err-d.ensures)

pub bproperty-returns-then-kind_at-ne-COLON : goal.bproperty-returns-then-kind_at-ne-COLON
bproperty-returns-then-kind_at-ne-COLON t c =
    bproperty_opens c.requires.room c.if-is_shorthand.ensures c.in_ok-d.ensures c.kind_at-2.ensures c.if-kind_at-ne-COLON.true

pub bproperty-element-requires : goal.bproperty-element-requires
bproperty-element-requires t c =
    omega (arith, moved _ (c.in_ok-d.ensures.done_to _ refl) refl, stands c.args.sheet.now.kinds.now (sym c.kind_at-2.ensures ∙ c.if-kind_at-ne-COLON.false))

pub bproperty-returns-in_err-e : goal.bproperty-returns-in_err-e
bproperty-returns-in_err-e t c =
    rw (exits _ c.from_residual-in_err-e.ensures.1)
    (bproperty_fails_after c.requires.room c.if-is_shorthand.ensures c.in_ok-d.ensures c.kind_at-2.ensures c.if-kind_at-ne-COLON.false
    c.in_err-e.ensures)

pub bproperty-over-requires-2 : goal.bproperty-over-requires-2
bproperty-over-requires-2 t c = omega (arith, moved _ (c.in_ok-d.ensures.done_to _ refl) refl, moved _ (c.in_ok-e.ensures.done_to _ refl) refl)

pub bproperty-returns : goal.bproperty-returns
bproperty-returns t c =
    bproperty_dones c.requires.room c.if-is_shorthand.ensures c.in_ok-d.ensures c.kind_at-2.ensures c.if-kind_at-ne-COLON.false c.in_ok-e.ensures
    c.over-2.ensures

-- `comma`
pub comma-loop-d-init : goal.comma-loop-d-init
comma-loop-d-init t c = comma_starts c.requires refl

pub comma-returns-in_err-d : goal.comma-returns-in_err-d
comma-returns-in_err-d t c = rw (exits _ c.from_residual.ensures.1) (comma_stops c.loop-d.invariant c.requires c.in_err-d.ensures)

pub comma-returns-then-kids-eq1 : goal.comma-returns-then-kids-eq1
comma-returns-then-kids-eq1 t c = comma_one c.loop-d.invariant c.in_ok-d.ensures c.kind_at.ensures c.if-kind_at-ne-COMMA.true c.if-kids-eq1.true

pub comma-over-requires : goal.comma-over-requires
comma-over-requires t c = omega (arith, c.loop-d.invariant, moved _ (c.in_ok-d.ensures.done_to _ refl) refl, comma_some c.loop-d.kids c.if-kids-eq1.false)

pub comma-returns-then-kind_at-ne-COMMA : goal.comma-returns-then-kind_at-ne-COMMA
comma-returns-then-kind_at-ne-COMMA t c =
    comma_ends c.loop-d.invariant c.in_ok-d.ensures c.kind_at.ensures c.if-kind_at-ne-COMMA.true c.if-kids-eq1.false c.over.ensures

pub comma-loop-d-smaller-then-kids-eq1-2 : goal.comma-loop-d-smaller-then-kids-eq1-2
comma-loop-d-smaller-then-kids-eq1-2 t c = omega (arith, c.loop-d.invariant, moved _ (c.in_ok-d.ensures.done_to _ refl) refl)

pub comma-loop-d-preserved-then-kids-eq1-2 : goal.comma-loop-d-preserved-then-kids-eq1-2
comma-loop-d-preserved-then-kids-eq1-2 t c =
    comma_marks c.loop-d.invariant c.in_ok-d.ensures c.kind_at.ensures c.if-kind_at-ne-COMMA.false c.if-kids-eq1-2.true c.assign.auto.rows c.assign.auto.records

pub comma-loop-d-smaller : goal.comma-loop-d-smaller
comma-loop-d-smaller t c = omega (arith, c.loop-d.invariant, moved _ (c.in_ok-d.ensures.done_to _ refl) refl)

pub comma-loop-d-preserved : goal.comma-loop-d-preserved
comma-loop-d-preserved t c =
    comma_again c.loop-d.invariant c.in_ok-d.ensures c.kind_at.ensures c.if-kind_at-ne-COMMA.false c.if-kids-eq1-2.false c.assign.auto.rows c.assign.auto.records

-- `element`
element-value : (t : ℕ) (c : element-Joined-single_part t)
    → Met c.args.sheet.now.kinds.now c.args.sheet.now.flags.now c.binding.new.rows c.binding.new.records c.binding.new.notes c.match-single_part.rows
    c.match-single_part.records c.match-single_part.notes (assignment (c.in_ok-d.d.at + 1)) c.in_ok-d.d.rows c.in_ok-d.d.records (Ok c.match-single_part.e)
element-value t c =
    elim c.match-single_part.branch [
      | element-in-Some w ↦ joined w.rows-is w.records-is w.notes-is w.e-is (assign_singles w.leaf-e.ensures w.in-Some.ensures)
      | element-in-None+in_ok-e-in-None w ↦ joined w.rows-is w.records-is w.notes-is w.e-is w.in_ok-e-in-None.ensures
    ]

pub element-returns-in_err-d : goal.element-returns-in_err-d
element-returns-in_err-d t c = rw (exits _ c.from_residual.ensures.1) (element_refused c.requires c.in_err-d.ensures)

pub element-returns-then-kind_at-ne-EQ : goal.element-returns-then-kind_at-ne-EQ
element-returns-then-kind_at-ne-EQ t c = element_stops c.requires c.in_ok-d.ensures c.kind_at.ensures c.if-kind_at-ne-EQ.true

pub element-leaf-e-requires : goal.element-leaf-e-requires
element-leaf-e-requires t c =
    omega (arith, moved _ (c.in_ok-d.ensures.done_to _ refl) refl, assign_stands c.args.sheet.now.kinds.now _ c.in-Some.ensures)

pub element-assign-requires : goal.element-assign-requires
element-assign-requires t c =
    omega (arith, moved _ (c.in_ok-d.ensures.done_to _ refl) refl, stands c.args.sheet.now.kinds.now (sym c.kind_at.ensures ∙ c.if-kind_at-ne-EQ.false))

pub element-returns-in_err-e-in-None : goal.element-returns-in_err-e-in-None
element-returns-in_err-e-in-None t c =
    rw (exits _ c.from_residual-in_err-e-in-None.ensures.1)
    (element_fails_after c.requires c.in_ok-d.ensures c.kind_at.ensures c.if-kind_at-ne-EQ.false c.in_err-e-in-None.ensures)

pub element-over-requires : goal.element-over-requires
element-over-requires t c =
    let value = (element-value t (goal.at.element-over-requires t c).Joined-single_part).done_to _ refl in
    omega (arith, moved _ (c.in_ok-d.ensures.done_to _ refl) refl, moved _ value refl)

pub element-returns : goal.element-returns
element-returns t c =
    element_done c.requires c.in_ok-d.ensures c.kind_at.ensures c.if-kind_at-ne-EQ.false (element-value t (goal.at.element-returns t c).Joined-single_part)
    c.over.ensures

-- `head`
head-opens : (t : ℕ) (c : head-Joined-kind_at-eq-ASYNC t) → Opens c.args.sheet.now.kinds.now c.args.sheet.now.flags.now c.args.here.at c.if-kind_at-eq-ASYNC.open
head-opens t c =
    elim c.if-kind_at-eq-ASYNC.branch [
      | head-then-kind_at-eq-ASYNC+else-flag_at-eq1 w ↦ opens_async c.kind_at.ensures w.if-kind_at-eq-ASYNC.true w.flag_at.ensures w.if-flag_at-eq1.false w.open-is
      | head-else-kind_at-eq-ASYNC w ↦ opens_plain c.kind_at.ensures w.if-kind_at-eq-ASYNC.false w.open-is
    ]

pub head-returns-then-flag_at-eq1 : goal.head-returns-then-flag_at-eq1
head-returns-then-flag_at-eq1 t c = head_breaks c.requires c.kind_at.ensures c.if-kind_at-eq-ASYNC.true c.flag_at.ensures c.if-flag_at-eq1.true

pub head-returns-then-kind_at-ne-L_PAREN : goal.head-returns-then-kind_at-ne-L_PAREN
head-returns-then-kind_at-ne-L_PAREN t c =
    head_no_parens c.requires (head-opens t (goal.at.head-returns-then-kind_at-ne-L_PAREN t c).Joined-kind_at-eq-ASYNC) c.kind_at-2.ensures c.if-kind_at-ne-L_PAREN.true

pub head-returns-in_err-d : goal.head-returns-in_err-d
head-returns-in_err-d t c =
    let opens = head-opens t (goal.at.head-returns-in_err-d t c).Joined-kind_at-eq-ASYNC in
    rw (exits _ c.from_residual.ensures.1) (head_refused c.requires opens c.kind_at-2.ensures c.if-kind_at-ne-L_PAREN.false c.in_err-d.ensures)

pub head-returns-then-kind_at-ne-ARROW : goal.head-returns-then-kind_at-ne-ARROW
head-returns-then-kind_at-ne-ARROW t c =
    let opens = head-opens t (goal.at.head-returns-then-kind_at-ne-ARROW t c).Joined-kind_at-eq-ASYNC in
    head_no_arrows c.requires opens c.kind_at-2.ensures c.if-kind_at-ne-L_PAREN.false c.in_ok-d.ensures c.kind_at-3.ensures c.if-kind_at-ne-ARROW.true

pub head-returns : goal.head-returns
head-returns t c =
    let opens = head-opens t (goal.at.head-returns t c).Joined-kind_at-eq-ASYNC in
    head_dones c.requires opens c.kind_at-2.ensures c.if-kind_at-ne-L_PAREN.false c.in_ok-d.ensures c.kind_at-3.ensures c.if-kind_at-ne-ARROW.false

-- `init`
init-value : (t : ℕ) (c : init-Joined-single_part t)
    → Met c.args.sheet.now.kinds.now c.args.sheet.now.flags.now c.args.rows.now c.args.records.now c.args.notes.now c.match-single_part.rows c.match-single_part.records
    c.match-single_part.notes (assignment (c.args.here.at + 1)) c.args.here.rows c.args.here.records (Ok c.match-single_part.d)
init-value t c =
    elim c.match-single_part.branch [
      | init-in-Some w ↦ joined w.rows-is w.records-is w.notes-is w.d-is (assign_singles w.leaf-d.ensures w.in-Some.ensures)
      | init-in-None+in_ok-d-in-None w ↦ joined w.rows-is w.records-is w.notes-is w.d-is w.in_ok-d-in-None.ensures
    ]

pub init-returns-in_err-d-in-None : goal.init-returns-in_err-d-in-None
init-returns-in_err-d-in-None t c = rw (exits _ c.from_residual.ensures.1) (init_fails c.requires.room c.in_err-d-in-None.ensures)

pub init-over-requires : goal.init-over-requires
init-over-requires t c =
    let value = (init-value t (goal.at.init-over-requires t c).Joined-single_part).done_to _ refl in
    omega (arith, moved _ value refl)

pub init-returns : goal.init-returns
init-returns t c = init_done c.requires.room (init-value t (goal.at.init-returns t c).Joined-single_part) c.over.ensures

-- `inside`
pub inside-returns-in_err-d : goal.inside-returns-in_err-d
inside-returns-in_err-d t c = rw (exits _ c.from_residual.ensures.1) (inside_fails c.requires.room c.in_err-d.ensures refl)

pub inside-returns-then-kind_at-close : goal.inside-returns-then-kind_at-close
inside-returns-then-kind_at-close t c = inside_opens c.requires.room c.in_ok-d.ensures refl c.kind_at.ensures c.if-kind_at-close.true

pub inside-overflow_add-result : goal.inside-overflow_add-result
inside-overflow_add-result t c = omega (arith, moved _ (c.in_ok-d.ensures.done_to _ refl) refl)

pub inside-returns : goal.inside-returns
inside-returns t c = inside_done c.requires.room c.in_ok-d.ensures refl c.kind_at.ensures c.if-kind_at-close.false

-- `item`
pub item-assign-requires : goal.item-assign-requires
item-assign-requires t c = omega (arith, spread_starts _ _ c.part_start-start.ensures c.requires.inside)

pub item-returns-in_err-d : goal.item-returns-in_err-d
item-returns-in_err-d t c = rw (exits _ c.from_residual.ensures.1) (item_fails _ c.part_start-start.ensures c.in_err-d.ensures)

pub item-returns-then-start-here : goal.item-returns-then-start-here
item-returns-then-start-here t c = item_plain _ c.part_start-start.ensures c.in_ok-d.ensures c.if-start-here.true

pub item-over-requires : goal.item-over-requires
item-over-requires t c = omega (arith, spread_starts _ _ c.part_start-start.ensures c.requires.inside, moved _ (c.in_ok-d.ensures.done_to _ refl) refl)

pub item-returns : goal.item-returns
item-returns t c = item_spreads _ c.part_start-start.ensures c.in_ok-d.ensures c.if-start-here.false c.over.ensures

-- `key`
pub key-leaf-requires : goal.key-leaf-requires
key-leaf-requires t c = omega (arith, key_stands c.requires c.kind_at-k.ensures c.if-is_key.ensures)

pub key-returns-then-is_key : goal.key-returns-then-is_key
key-returns-then-is_key t c = key_words c.requires c.kind_at-k.ensures c.if-is_key.ensures c.leaf.ensures

pub key-returns-then-k-ne-L_BRACK : goal.key-returns-then-k-ne-L_BRACK
key-returns-then-k-ne-L_BRACK t c = key_nones c.requires c.kind_at-k.ensures c.if-is_key.ensures c.if-k-ne-L_BRACK.true

pub key-returns-in_err-d : goal.key-returns-in_err-d
key-returns-in_err-d t c = rw (exits _ c.from_residual.ensures.1) (key_refuses c.requires c.kind_at-k.ensures c.if-k-ne-L_BRACK.false c.in_err-d.ensures)

pub key-returns-then-kind_at-ne-R_BRACK : goal.key-returns-then-kind_at-ne-R_BRACK
key-returns-then-kind_at-ne-R_BRACK t c =
    key_opens c.requires c.kind_at-k.ensures c.if-k-ne-L_BRACK.false c.in_ok-d.ensures c.kind_at.ensures c.if-kind_at-ne-R_BRACK.true

pub key-over-requires : goal.key-over-requires
key-over-requires t c =
    omega (arith, moved _ (c.in_ok-d.ensures.done_to _ refl) refl, stands c.args.sheet.now.kinds.now (sym c.kind_at.ensures ∙ c.if-kind_at-ne-R_BRACK.false))

pub key-returns : goal.key-returns
key-returns t c = key_dones c.requires c.kind_at-k.ensures c.if-k-ne-L_BRACK.false c.in_ok-d.ensures c.kind_at.ensures c.if-kind_at-ne-R_BRACK.false c.over.ensures

-- `last`
pub last-returns-in_err-d : goal.last-returns-in_err-d
last-returns-in_err-d t c = rw (exits _ c.from_residual.ensures.1) (closed_refused c.requires.room c.in_err-d.ensures)

pub last-returns-then-kind_at-close : goal.last-returns-then-kind_at-close
last-returns-then-kind_at-close t c = closed_open c.requires.room c.in_ok-d.ensures c.kind_at.ensures c.if-kind_at-close.true

pub last-overflow_add-result : goal.last-overflow_add-result
last-overflow_add-result t c = omega (arith, moved _ (c.in_ok-d.ensures.done_to _ refl) refl)

pub last-returns : goal.last-returns
last-returns t c = closed_done c.requires.room c.in_ok-d.ensures c.kind_at.ensures c.if-kind_at-close.false

-- `primary`
pub primary-leaf-requires : goal.primary-leaf-requires
primary-leaf-requires t c = omega (arith, primary_stands c.args.sheet.now.kinds.now c.args.here.at c.kind_at-k.ensures c.in-Some.ensures)

pub primary-returns-in-Some : goal.primary-returns-in-Some
primary-returns-in-Some t c = primary_singles c.leaf.ensures c.kind_at-k.ensures c.in-Some.ensures

pub primary-returns-in_err-d-in-18 : goal.primary-returns-in_err-d-in-18
primary-returns-in_err-d-in-18 t c = rw (exits _ c.from_residual.ensures.1) (primary_refuses c.requires c.kind_at-k.ensures c.in-18.is c.in_err-d-in-18.ensures)

pub primary-over-requires : goal.primary-over-requires
primary-over-requires t c =
    let inside = c.in_ok-d-in-18.ensures.closed_to _ refl in
    omega (arith, inside.past, stands c.args.sheet.now.kinds.now inside.token, moved _ (closed_read inside) refl)

pub primary-returns-in_ok-d-in-18 : goal.primary-returns-in_ok-d-in-18
primary-returns-in_ok-d-in-18 t c = primary_parens c.requires c.kind_at-k.ensures c.in-18.is c.in_ok-d-in-18.ensures c.over.ensures

pub primary-returns-in-20 : goal.primary-returns-in-20
primary-returns-in-20 t c = primary_arrays c.requires c.kind_at-k.ensures c.in-20.is c.array.ensures

pub primary-returns-in-22 : goal.primary-returns-in-22
primary-returns-in-22 t c = primary_objects c.requires c.kind_at-k.ensures c.in-22.is c.object.ensures

pub primary-returns-in_default-k : goal.primary-returns-in_default-k
primary-returns-in_default-k t c = primary_nones c.requires c.kind_at-k.ensures (sym (cc)) (omega arith) (omega arith) (omega arith)

-- `property`
property-keyed : (t : ℕ) (c : property-Joined-is_shorthand t)
    → Keyed c.args.sheet.now.kinds.now c.args.sheet.now.flags.now c.args.rows.now c.args.records.now c.args.notes.now c.args.here c.if-is_shorthand.rows
    c.if-is_shorthand.records
    c.if-is_shorthand.notes c.if-is_shorthand.d c.if-is_shorthand.kind c.if-is_shorthand.mark
property-keyed t c =
    elim c.if-is_shorthand.branch [
      | property-then-is_shorthand+else-kind_at-ne-EQ w ↦
          keyed_as w.rows-is w.records-is w.notes-is w.d-is w.kind-is w.mark-is
          (keyed_name c.requires.room w.if-is_shorthand.ensures w.leaf-d.ensures w.kind_at.ensures w.if-kind_at-ne-EQ.false
          (omega (arith, w.leaf-d.auto)))
      | property-else-is_shorthand+in_ok-name+else-kind_at-ne-COLON w ↦
          keyed_as w.rows-is w.records-is w.notes-is w.d-is w.kind-is w.mark-is
          (keyed_key c.requires.room w.if-is_shorthand.ensures w.in_ok-name.ensures w.kind_at-else-is_shorthand.ensures w.if-kind_at-ne-COLON.false
          (omega (arith, w.key.auto)) (omega (arith, w.key.auto)))
    ]

property-value : (t : ℕ) (c : property-Joined-single_part t)
    → Met c.args.sheet.now.kinds.now c.args.sheet.now.flags.now c.if-is_shorthand.rows c.if-is_shorthand.records c.if-is_shorthand.notes c.match-single_part.rows
    c.match-single_part.records c.match-single_part.notes (assignment (c.if-is_shorthand.d.at + 1)) c.if-is_shorthand.d.rows c.if-is_shorthand.d.records
    (Ok c.match-single_part.e)
property-value t c =
    elim c.match-single_part.branch [
      | property-in-Some w ↦ joined w.rows-is w.records-is w.notes-is w.e-is (assign_singles w.leaf-e.ensures w.in-Some.ensures)
      | property-in-None+in_ok-e-in-None w ↦ joined w.rows-is w.records-is w.notes-is w.e-is w.in_ok-e-in-None.ensures
    ]

pub property-over-requires : goal.property-over-requires
property-over-requires t c = omega (arith, shorthand_stands c.requires.room c.if-is_shorthand.ensures, leafed_now c.leaf-d.ensures)

pub property-returns-then-kind_at-ne-EQ : goal.property-returns-then-kind_at-ne-EQ
property-returns-then-kind_at-ne-EQ t c =
    property_shorthands c.requires.room c.if-is_shorthand.ensures c.leaf-d.ensures c.kind_at.ensures c.if-kind_at-ne-EQ.true c.over.ensures

pub property-returns-in_err-name : goal.property-returns-in_err-name
property-returns-in_err-name t c =
    rw (exits _ c.from_residual.ensures.1) (property_refuses c.requires.room c.if-is_shorthand.ensures c.in_err-name.ensures)

pub property-returns-then-kind_at-ne-COLON : goal.property-returns-then-kind_at-ne-COLON
property-returns-then-kind_at-ne-COLON t c =
    property_opens c.requires.room c.if-is_shorthand.ensures c.in_ok-name.ensures c.kind_at-else-is_shorthand.ensures c.if-kind_at-ne-COLON.true

pub property-leaf-e-requires : goal.property-leaf-e-requires
property-leaf-e-requires t c =
    omega (arith, property-keyed t (goal.at.property-leaf-e-requires t c).Joined-is_shorthand, assign_stands c.args.sheet.now.kinds.now _ c.in-Some.ensures)

pub property-assign-requires : goal.property-assign-requires
property-assign-requires t c = omega (arith, property-keyed t (goal.at.property-assign-requires t c).Joined-is_shorthand)

pub property-returns-in_err-e-in-None : goal.property-returns-in_err-e-in-None
property-returns-in_err-e-in-None t c =
    rw (exits _ c.from_residual-in_err-e-in-None.ensures.1)
    (property_fails_after (property-keyed t (goal.at.property-returns-in_err-e-in-None t c).Joined-is_shorthand) c.requires.room c.in_err-e-in-None.ensures)

pub property-over-requires-2 : goal.property-over-requires-2
property-over-requires-2 t c =
    let keyed = property-keyed t (goal.at.property-over-requires-2 t c).Joined-is_shorthand in
    let value = (property-value t (goal.at.property-over-requires-2 t c).Joined-single_part).done_to _ refl in
    omega (arith, keyed, moved _ value refl)

pub property-returns : goal.property-returns
property-returns t c =
    property_dones (property-keyed t (goal.at.property-returns t c).Joined-is_shorthand) (property-value t (goal.at.property-returns t c).Joined-single_part)
    c.over-2.ensures

-- `rest`
pub rest-returns-in_err-d : goal.rest-returns-in_err-d
rest-returns-in_err-d t c = rw (exits _ c.from_residual.ensures.1) (rest_refused c.requires.room c.requires.at_in_bounds c.in_err-d.ensures)

pub rest-overflow_sub-root : goal.rest-overflow_sub-root
rest-overflow_sub-root t c = omega (arith, (one_to _ (c.in_ok-d.ensures.done_to _ refl) refl).some)

pub rest-over-requires : goal.rest-over-requires
rest-over-requires t c = omega (arith, moved _ (c.in_ok-d.ensures.done_to _ refl) refl, (one_to _ (c.in_ok-d.ensures.done_to _ refl) refl).some)

pub rest-returns-then-row_word-ne-BINDING_DEFAULT : goal.rest-returns-then-row_word-ne-BINDING_DEFAULT
rest-returns-then-row_word-ne-BINDING_DEFAULT t c =
    rest_bare c.requires.room c.requires.at_in_bounds c.in_ok-d.ensures c.row_word.ensures c.if-row_word-ne-BINDING_DEFAULT.true c.over.ensures

pub rest-say-e-requires : goal.rest-say-e-requires
rest-say-e-requires t c = omega (arith, moved _ (c.in_ok-d.ensures.done_to _ refl) refl, c.row_word-mark.type_inv)

pub rest-over-requires-2 : goal.rest-over-requires-2
rest-over-requires-2 t c =
    omega (arith, moved _ (c.in_ok-d.ensures.done_to _ refl) refl, (one_to _ (c.in_ok-d.ensures.done_to _ refl) refl).some, said_to c.say-e.ensures)

pub rest-returns : goal.rest-returns
rest-returns t c =
    rest_initialized c.requires.room c.requires.at_in_bounds c.in_ok-d.ensures c.row_word.ensures c.if-row_word-ne-BINDING_DEFAULT.false c.row_word-mark.ensures
    c.say-e.ensures
    c.over-2.ensures

-- `spread`
pub spread-returns-in_err-d : goal.spread-returns-in_err-d
spread-returns-in_err-d t c = rw (exits _ c.from_residual.ensures.1) (spread_refused c.requires.at_in_bounds c.in_err-d.ensures)

pub spread-over-requires : goal.spread-over-requires
spread-over-requires t c = omega (arith, moved _ (c.in_ok-d.ensures.done_to _ refl) refl)

pub spread-returns : goal.spread-returns
spread-returns t c = spread_read c.requires.at_in_bounds c.in_ok-d.ensures c.over.ensures

-- `unary`
pub unary-leaf-requires : goal.unary-leaf-requires
unary-leaf-requires t c = omega (arith, unary_stands c.args.sheet.now.kinds.now c.args.here.at c.in-Some.ensures)

pub unary-returns-in-Some : goal.unary-returns-in-Some
unary-returns-in-Some t c = unary_singles c.leaf.ensures c.in-Some.ensures

pub unary-loop-start-smaller : goal.unary-loop-start-smaller
unary-loop-start-smaller t c = omega (arith, skips_inside c.loop-start.invariant c.kind_at.ensures c.loop-start-test.ensures)

pub unary-loop-start-preserved : goal.unary-loop-start-preserved
unary-loop-start-preserved t c = skips_one c.loop-start.invariant c.kind_at.ensures c.loop-start-test.ensures

pub unary-returns-in_err-d : goal.unary-returns-in_err-d
unary-returns-in_err-d t c =
    rw (exits _ c.from_residual.ensures.1)
    (unary_operand_fails c.requires c.loop-start.invariant c.kind_at.ensures c.loop-start-test.ensures c.in_err-d.ensures)

pub unary-postfix-requires-clause-operand_fits : goal.unary-postfix-requires-clause-operand_fits
unary-postfix-requires-clause-operand_fits t c =
    operand_fits c.requires c.loop-start.invariant c.kind_at.ensures c.loop-start-test.ensures c.in_ok-d.ensures c.left.auto.rows
    c.left.auto.records

pub unary-returns-in_err-e : goal.unary-returns-in_err-e
unary-returns-in_err-e t c =
    rw (exits _ c.from_residual-in_err-e.ensures.1)
    (unary_update_fails c.requires c.loop-start.invariant c.kind_at.ensures c.loop-start-test.ensures c.in_ok-d.ensures c.left.auto.rows
    c.left.auto.records c.in_err-e.ensures)

pub unary-prefixes-requires : goal.unary-prefixes-requires
unary-prefixes-requires t c =
    prefixes_fit c.requires c.loop-start.invariant c.kind_at.ensures c.loop-start-test.ensures c.in_ok-d.ensures c.left.auto.rows
    c.left.auto.records
    c.in_ok-e.ensures c.postfix.auto.rows c.postfix.auto.records

pub unary-returns : goal.unary-returns
unary-returns t c =
    unary_ends c.requires c.loop-start.invariant c.kind_at.ensures c.loop-start-test.ensures c.in_ok-d.ensures c.left.auto.rows
    c.left.auto.records
    c.in_ok-e.ensures c.postfix.auto.rows c.postfix.auto.records c.prefixes.ensures

-- `args`
args-read : (t : ℕ) (c : args-Joined-single_part t)
    → Met c.args.sheet.now.kinds.now c.args.sheet.now.flags.now c.loop-place.rows c.loop-place.records c.loop-place.notes c.match-single_part.rows
    c.match-single_part.records
    c.match-single_part.notes (if get_or c.args.sheet.now.kinds.now c.loop-place.c.at 0 is Dot3 then spread c.loop-place.c.at else assignment c.loop-place.c.at)
    c.loop-place.c.rows
    c.loop-place.c.records (Ok c.match-single_part.c)
args-read t c =
    elim c.match-single_part.branch [
      | args-in-Some w ↦ joined w.rows-is w.records-is w.notes-is w.c-is (item_singles w.leaf-c.ensures w.in-Some.ensures)
      | args-in-None+in_ok-c-in-None w ↦ joined w.rows-is w.records-is w.notes-is w.c-is w.in_ok-c-in-None.ensures
    ]

pub args-loop-place-init : goal.args-loop-place-init
args-loop-place-init t c =
    over_left _ c.requires.operand.stands
    (λ left g. starts_over (arguments_list c.args.sheet.now.kinds.now c.args.sheet.now.flags.now c.args.first) (omega (arith, c.requires)) (omega (arith, c.requires))
    (omega (arith, c.requires)) g)

pub args-returns-in_err-c-in-None : goal.args-returns-in_err-c-in-None
args-returns-in_err-c-in-None t c =
    rw (exits _ c.from_residual.ensures.1)
    (record {
      over_one = λ left g. is_fail refl (refuses (c.loop-place.invariant.over left g) c.kind_at.ensures c.if-kind_at-eq-R_PAREN.false
          c.in_err-c-in-None.ensures);
    })

pub args-returns-then-next-ne-COMMA : goal.args-returns-then-next-ne-COMMA
args-returns-then-next-ne-COMMA t c =
    let read = args-read t (goal.at.args-returns-then-next-ne-COMMA t c).Joined-single_part in
    record {
      over_one = λ left g.
          is_fail refl (opens (c.loop-place.invariant.over left g) c.kind_at.ensures c.if-kind_at-eq-R_PAREN.false read c.kind_at-next.ensures c.if-next-eq-R_PAREN.false
          c.if-next-ne-COMMA.true);
    }

pub args-loop-place-smaller : goal.args-loop-place-smaller
args-loop-place-smaller t c =
    let so_far = c.loop-place.invariant.over c.requires.operand.left c.requires.operand.stands in
    let more = moves so_far c.kind_at.ensures c.if-kind_at-eq-R_PAREN.false (args-read t (goal.at.args-loop-place-smaller t c).Joined-single_part) in
    omega (arith, stands c.args.sheet.now.kinds.now (sym c.kind_at-next.ensures ∙ c.if-next-ne-COMMA.false))

pub args-loop-place-preserved : goal.args-loop-place-preserved
args-loop-place-preserved t c =
    let read = args-read t (goal.at.args-loop-place-preserved t c).Joined-single_part in
    over_left _ c.requires.operand.stands
    (λ left g. turns (c.loop-place.invariant.over left g) c.kind_at.ensures c.if-kind_at-eq-R_PAREN.false read c.kind_at-next.ensures c.if-next-ne-COMMA.false refl
    c.match-single_part.auto.rows c.match-single_part.auto.records)

args-ended : (t : ℕ) (c : args-Joined-kind_at-eq-R_PAREN t) (left : Tree) → Grown c.args.rows.now c.args.from c.args.rows.now c.args.here.rows (one left)
    → Ended c.args.sheet.now.kinds.now c.args.sheet.now.flags.now c.args.rows.now c.args.records.now c.args.notes.now c.if-kind_at-eq-R_PAREN.rows
    c.if-kind_at-eq-R_PAREN.records
    c.if-kind_at-eq-R_PAREN.notes (arguments c.args.first (c.args.here.at + 1) (one left)) c.args.from
    (cursor (c.args.here.at + 1) c.args.here.rows c.args.here.records)
    Row.Call c.args.first c.if-kind_at-eq-R_PAREN.end c.if-kind_at-eq-R_PAREN.c c.if-kind_at-eq-R_PAREN.kids
args-ended t c left g =
    let so_far = c.loop-place.invariant.over left g in
    elim c.if-kind_at-eq-R_PAREN.branch [
      | args-then-kind_at-eq-R_PAREN w ↦
          ended w.rows-is w.records-is w.notes-is w.c-is w.kids-is refl w.end-is (ends so_far c.kind_at.ensures w.if-kind_at-eq-R_PAREN.true)
          (omega (arith, stands c.args.sheet.now.kinds.now (sym c.kind_at.ensures ∙ w.if-kind_at-eq-R_PAREN.true)))
      | args-else-kind_at-eq-R_PAREN+then-next-eq-R_PAREN w ↦
          let read : Met c.args.sheet.now.kinds.now c.args.sheet.now.flags.now c.loop-place.rows c.loop-place.records c.loop-place.notes w.match-single_part.rows
          w.match-single_part.records
          w.match-single_part.notes (if get_or c.args.sheet.now.kinds.now c.loop-place.c.at 0 is Dot3 then spread c.loop-place.c.at else assignment c.loop-place.c.at)
          c.loop-place.c.rows
          c.loop-place.c.records (Ok w.match-single_part.c) =
          elim w.match-single_part.branch [
            | args-in-Some v ↦ joined v.rows-is v.records-is v.notes-is v.c-is (item_singles v.leaf-c.ensures v.in-Some.ensures)
            | args-in-None+in_ok-c-in-None v ↦ joined v.rows-is v.records-is v.notes-is v.c-is v.in_ok-c-in-None.ensures
          ] in
          let more = moves so_far c.kind_at.ensures w.if-kind_at-eq-R_PAREN.false read in
          ended w.rows-is w.records-is w.notes-is w.c-is w.kids-is refl w.end-is
          (closes so_far c.kind_at.ensures w.if-kind_at-eq-R_PAREN.false read w.kind_at-next.ensures w.if-next-eq-R_PAREN.true)
          (omega (arith, stands c.args.sheet.now.kinds.now (sym w.kind_at-next.ensures ∙ w.if-next-eq-R_PAREN.true)))
    ]

pub args-over-requires : goal.args-over-requires
args-over-requires t c = omega (arith, args-ended t (goal.at.args-over-requires t c).Joined-kind_at-eq-R_PAREN c.requires.operand.left c.requires.operand.stands)

pub args-returns : goal.args-returns
args-returns t c = record { over_one = λ left g. topped (args-ended t (goal.at.args-returns t c).Joined-kind_at-eq-R_PAREN left g).closed c.over.ensures }

-- `array`
array-read : (t : ℕ) (c : array-Joined-single_part t)
    → Met c.args.sheet.now.kinds.now c.args.sheet.now.flags.now c.loop-place.rows c.loop-place.records c.loop-place.notes c.match-single_part.rows
    c.match-single_part.records
    c.match-single_part.notes (if get_or c.args.sheet.now.kinds.now c.loop-place.c.at 0 is Dot3 then spread c.loop-place.c.at else assignment c.loop-place.c.at)
    c.loop-place.c.rows
    c.loop-place.c.records (Ok c.match-single_part.c)
array-read t c =
    elim c.match-single_part.branch [
      | array-in-Some w ↦ joined w.rows-is w.records-is w.notes-is w.c-is (item_singles w.leaf-c-in-Some.ensures w.in-Some.ensures)
      | array-in-None+in_ok-c-in-None w ↦ joined w.rows-is w.records-is w.notes-is w.c-is w.in_ok-c-in-None.ensures
    ]

pub array-loop-place-preserved-then-k-eq-COMMA : goal.array-loop-place-preserved-then-k-eq-COMMA
array-loop-place-preserved-then-k-eq-COMMA t c =
    holes c.loop-place.invariant c.kind_at-k.ensures c.if-k-eq-COMMA.true c.leaf-c.ensures c.leaf-c.auto.rows
    (λ out. elements_hole (sym c.kind_at-k.ensures ∙ c.if-k-eq-COMMA.true))

array-ended : (t : ℕ) (c : array-Joined-k-eq-R_BRACK t)
    → Ended c.args.sheet.now.kinds.now c.args.sheet.now.flags.now c.args.rows.now c.args.records.now c.args.notes.now c.if-k-eq-R_BRACK.rows c.if-k-eq-R_BRACK.records
    c.if-k-eq-R_BRACK.notes
    (elements c.args.here.at (c.args.here.at + 1) Row.Array nil) c.args.here.rows (cursor (c.args.here.at + 1) c.args.here.rows c.args.here.records)
    c.if-k-eq-R_BRACK.kind c.args.here.at
    c.if-k-eq-R_BRACK.end c.if-k-eq-R_BRACK.c c.if-k-eq-R_BRACK.kids
array-ended t c =
    elim c.if-k-eq-R_BRACK.branch [
      | array-then-k-eq-R_BRACK w ↦
          ended w.rows-is w.records-is w.notes-is w.c-is w.kids-is w.kind-is w.end-is (ends c.loop-place.invariant c.kind_at-k.ensures w.if-k-eq-R_BRACK.true)
          (omega (arith, stands c.args.sheet.now.kinds.now (sym c.kind_at-k.ensures ∙ w.if-k-eq-R_BRACK.true)))
      | array-else-k-eq-R_BRACK+else-k-eq-COMMA+then-next-eq-R_BRACK w ↦
          let read : Met c.args.sheet.now.kinds.now c.args.sheet.now.flags.now c.loop-place.rows c.loop-place.records c.loop-place.notes w.match-single_part.rows
          w.match-single_part.records
          w.match-single_part.notes (if get_or c.args.sheet.now.kinds.now c.loop-place.c.at 0 is Dot3 then spread c.loop-place.c.at else assignment c.loop-place.c.at)
          c.loop-place.c.rows
          c.loop-place.c.records (Ok w.match-single_part.c) =
          elim w.match-single_part.branch [
            | array-in-Some v ↦ joined v.rows-is v.records-is v.notes-is v.c-is (item_singles v.leaf-c-in-Some.ensures v.in-Some.ensures)
            | array-in-None+in_ok-c-in-None v ↦ joined v.rows-is v.records-is v.notes-is v.c-is v.in_ok-c-in-None.ensures
          ] in
          let more = moves c.loop-place.invariant c.kind_at-k.ensures (w.if-k-eq-R_BRACK.false, w.if-k-eq-COMMA.false) read in
          ended w.rows-is w.records-is w.notes-is w.c-is w.kids-is w.kind-is w.end-is
          (closes c.loop-place.invariant c.kind_at-k.ensures (w.if-k-eq-R_BRACK.false, w.if-k-eq-COMMA.false) read w.kind_at-next.ensures w.if-next-eq-R_BRACK.true)
          (omega (arith, stands c.args.sheet.now.kinds.now (sym w.kind_at-next.ensures ∙ w.if-next-eq-R_BRACK.true)))
    ]

pub array-loop-place-init : goal.array-loop-place-init
array-loop-place-init t c =
    starts (elements_list c.args.sheet.now.kinds.now c.args.sheet.now.flags.now c.args.here.at) (omega (arith, c.requires)) (omega (arith, c.requires))
    (omega (arith, c.requires))

pub array-over-requires : goal.array-over-requires
array-over-requires t c = omega (arith, array-ended t (goal.at.array-over-requires t c).Joined-k-eq-R_BRACK)

pub array-returns : goal.array-returns
array-returns t c = topped (array-ended t (goal.at.array-returns t c).Joined-k-eq-R_BRACK).closed c.over.ensures

pub array-returns-in_err-c-in-None : goal.array-returns-in_err-c-in-None
array-returns-in_err-c-in-None t c =
    rw (exits _ c.from_residual.ensures.1) (is_fail refl (refuses c.loop-place.invariant c.kind_at-k.ensures (c.if-k-eq-R_BRACK.false, c.if-k-eq-COMMA.false)
    c.in_err-c-in-None.ensures))

pub array-returns-then-next-ne-COMMA : goal.array-returns-then-next-ne-COMMA
array-returns-then-next-ne-COMMA t c =
    let read = array-read t (goal.at.array-returns-then-next-ne-COMMA t c).Joined-single_part in
    is_fail refl (opens c.loop-place.invariant c.kind_at-k.ensures (c.if-k-eq-R_BRACK.false, c.if-k-eq-COMMA.false) read c.kind_at-next.ensures
    c.if-next-eq-R_BRACK.false c.if-next-ne-COMMA.true)

pub array-loop-place-smaller-then-k-eq-DOT3 : goal.array-loop-place-smaller-then-k-eq-DOT3
array-loop-place-smaller-then-k-eq-DOT3 t c =
    let read = array-read t (goal.at.array-loop-place-smaller-then-k-eq-DOT3 t c).Joined-single_part in
    omega (
      arith,
      moves c.loop-place.invariant c.kind_at-k.ensures (c.if-k-eq-R_BRACK.false, c.if-k-eq-COMMA.false) read,
      stands c.args.sheet.now.kinds.now
          (sym c.kind_at-next.ensures ∙ c.if-next-ne-COMMA.false),
    )

pub array-loop-place-preserved-then-k-eq-DOT3 : goal.array-loop-place-preserved-then-k-eq-DOT3
array-loop-place-preserved-then-k-eq-DOT3 t c =
    let read = array-read t (goal.at.array-loop-place-preserved-then-k-eq-DOT3 t c).Joined-single_part in
    turns c.loop-place.invariant c.kind_at-k.ensures (c.if-k-eq-R_BRACK.false, c.if-k-eq-COMMA.false) read c.kind_at-next.ensures c.if-next-ne-COMMA.false
    (rw (sym c.kind_at-k.ensures ∙ c.if-k-eq-DOT3.true))
    c.match-single_part.auto.rows c.match-single_part.auto.records

pub array-loop-place-smaller : goal.array-loop-place-smaller
array-loop-place-smaller t c =
    let read = array-read t (goal.at.array-loop-place-smaller t c).Joined-single_part in
    omega (
      arith,
      moves c.loop-place.invariant c.kind_at-k.ensures (c.if-k-eq-R_BRACK.false, c.if-k-eq-COMMA.false) read,
      stands c.args.sheet.now.kinds.now
          (sym c.kind_at-next.ensures ∙ c.if-next-ne-COMMA.false),
    )

pub array-loop-place-preserved : goal.array-loop-place-preserved
array-loop-place-preserved t c =
    let read = array-read t (goal.at.array-loop-place-preserved t c).Joined-single_part in
    turns c.loop-place.invariant c.kind_at-k.ensures (c.if-k-eq-R_BRACK.false, c.if-k-eq-COMMA.false) read c.kind_at-next.ensures c.if-next-ne-COMMA.false
    (rw (ne_eqb _ _ (λ q. c.if-k-eq-DOT3.false (c.kind_at-k.ensures ∙ q))))
    c.match-single_part.auto.rows c.match-single_part.auto.records

-- `barray`
pub barray-loop-place-preserved-then-k-eq-COMMA : goal.barray-loop-place-preserved-then-k-eq-COMMA
barray-loop-place-preserved-then-k-eq-COMMA t c =
    holes c.loop-place.invariant c.kind_at-k.ensures c.if-k-eq-COMMA.true c.leaf-c.ensures c.leaf-c.auto.rows
    (λ out. binding_elements_hole (sym c.kind_at-k.ensures ∙ c.if-k-eq-COMMA.true))

pub barray-returns-in_err-c : goal.barray-returns-in_err-c
barray-returns-in_err-c t c =
    rw (exits _ c.from_residual.ensures.1)
    (is_fail refl (rest_refuses c.loop-place.invariant c.in_err-c.ensures (λ q. binding_elements_rest_fails (sym c.kind_at-k.ensures ∙ c.if-k-eq-DOT3.true))
    (λ i ts rs. binding_elements_rest_open (sym c.kind_at-k.ensures ∙ c.if-k-eq-DOT3.true))))

barray-ended : (t : ℕ) (c : barray-Joined-k-eq-R_BRACK t)
    → Ended c.args.sheet.now.kinds.now c.args.sheet.now.flags.now c.args.rows.now c.args.records.now c.args.notes.now c.if-k-eq-R_BRACK.rows c.if-k-eq-R_BRACK.records
    c.if-k-eq-R_BRACK.notes
    (binding_elements c.args.here.at (c.args.here.at + 1) nil) c.args.here.rows (cursor (c.args.here.at + 1) c.args.here.rows c.args.here.records) Row.BindingArray
    c.args.here.at
    c.if-k-eq-R_BRACK.end c.if-k-eq-R_BRACK.c c.if-k-eq-R_BRACK.kids
barray-ended t c =
    elim c.if-k-eq-R_BRACK.branch [
      | barray-then-k-eq-R_BRACK w ↦
          ended w.rows-is w.records-is w.notes-is w.c-is w.kids-is refl w.end-is (ends c.loop-place.invariant c.kind_at-k.ensures w.if-k-eq-R_BRACK.true)
          (omega (arith, stands c.args.sheet.now.kinds.now (sym c.kind_at-k.ensures ∙ w.if-k-eq-R_BRACK.true)))
      | barray-else-k-eq-R_BRACK+else-k-eq-COMMA+then-k-eq-DOT3+in_ok-c w ↦
          let rest = w.in_ok-c.ensures.closed_to _ refl in
          ended w.rows-is w.records-is w.notes-is w.c-is w.kids-is refl w.end-is
          (rest_closes c.loop-place.invariant w.in_ok-c.ensures (binding_elements_rest (sym c.kind_at-k.ensures ∙ w.if-k-eq-DOT3.true) rest.comes rest.token))
          (omega (arith, closed_after rest (omega arith)))
      | barray-else-k-eq-R_BRACK+else-k-eq-COMMA+else-k-eq-DOT3+in_ok-c-2+then-next-eq-R_BRACK w ↦
          let more = moves c.loop-place.invariant c.kind_at-k.ensures (w.if-k-eq-R_BRACK.false, w.if-k-eq-COMMA.false, w.if-k-eq-DOT3.false) w.in_ok-c-2.ensures in
          ended w.rows-is w.records-is w.notes-is w.c-is w.kids-is refl w.end-is
          (closes c.loop-place.invariant c.kind_at-k.ensures (w.if-k-eq-R_BRACK.false, w.if-k-eq-COMMA.false, w.if-k-eq-DOT3.false) w.in_ok-c-2.ensures
          w.kind_at-next.ensures w.if-next-eq-R_BRACK.true)
          (omega (arith, stands c.args.sheet.now.kinds.now (sym w.kind_at-next.ensures ∙ w.if-next-eq-R_BRACK.true)))
    ]

pub barray-loop-place-init : goal.barray-loop-place-init
barray-loop-place-init t c =
    starts (binding_elements_list c.args.sheet.now.kinds.now c.args.sheet.now.flags.now c.args.here.at) (omega (arith, c.requires)) (omega (arith, c.requires))
    (omega (arith, c.requires))

pub barray-over-requires : goal.barray-over-requires
barray-over-requires t c = omega (arith, barray-ended t (goal.at.barray-over-requires t c).Joined-k-eq-R_BRACK)

pub barray-returns : goal.barray-returns
barray-returns t c = topped (barray-ended t (goal.at.barray-returns t c).Joined-k-eq-R_BRACK).closed c.over.ensures

pub barray-returns-in_err-c-2 : goal.barray-returns-in_err-c-2
barray-returns-in_err-c-2 t c =
    rw (exits _ c.from_residual-in_err-c-2.ensures.1) (is_fail refl (refuses c.loop-place.invariant c.kind_at-k.ensures
    (c.if-k-eq-R_BRACK.false, c.if-k-eq-COMMA.false, c.if-k-eq-DOT3.false) c.in_err-c-2.ensures))

pub barray-returns-then-next-ne-COMMA : goal.barray-returns-then-next-ne-COMMA
barray-returns-then-next-ne-COMMA t c =
    is_fail refl (opens c.loop-place.invariant c.kind_at-k.ensures (c.if-k-eq-R_BRACK.false, c.if-k-eq-COMMA.false, c.if-k-eq-DOT3.false) c.in_ok-c-2.ensures
    c.kind_at-next.ensures c.if-next-eq-R_BRACK.false c.if-next-ne-COMMA.true)

pub barray-loop-place-smaller : goal.barray-loop-place-smaller
barray-loop-place-smaller t c =
    omega (
      arith,
      moves c.loop-place.invariant c.kind_at-k.ensures (c.if-k-eq-R_BRACK.false, c.if-k-eq-COMMA.false, c.if-k-eq-DOT3.false) c.in_ok-c-2.ensures,
      stands
          c.args.sheet.now.kinds.now (sym c.kind_at-next.ensures ∙ c.if-next-ne-COMMA.false),
    )

pub barray-loop-place-preserved : goal.barray-loop-place-preserved
barray-loop-place-preserved t c =
    turns c.loop-place.invariant c.kind_at-k.ensures (c.if-k-eq-R_BRACK.false, c.if-k-eq-COMMA.false, c.if-k-eq-DOT3.false) c.in_ok-c-2.ensures c.kind_at-next.ensures
    c.if-next-ne-COMMA.false refl
    c.element.auto.rows c.element.auto.records

-- `bobject`
pub bobject-returns-in_err-c : goal.bobject-returns-in_err-c
bobject-returns-in_err-c t c =
    rw (exits _ c.from_residual.ensures.1)
    (is_fail refl (rest_refuses c.loop-place.invariant c.in_err-c.ensures (λ q. binding_properties_rest_fails (sym c.kind_at-k.ensures ∙ c.if-k-eq-DOT3.true))
    (λ i ts rs. binding_properties_rest_open (sym c.kind_at-k.ensures ∙ c.if-k-eq-DOT3.true))))

pub bobject-overflow_sub-c : goal.bobject-overflow_sub-c
bobject-overflow_sub-c t c = omega (arith, rest_rows (c.in_ok-c.ensures.closed_to _ refl))

pub bobject-returns-then-row_word-ne-BINDING_NAME : goal.bobject-returns-then-row_word-ne-BINDING_NAME
bobject-returns-then-row_word-ne-BINDING_NAME t c =
    let rest = c.in_ok-c.ensures.closed_to _ refl in
    let after = closed_after rest (omega arith) in
    is_fail refl (gives_up_past c.loop-place.invariant (rest_no_name rest (omega (arith, rest_rows rest)) c.row_word.ensures
    (sym c.kind_at-k.ensures ∙ c.if-k-eq-DOT3.true) c.if-row_word-ne-BINDING_NAME.true) rest.made)

bobject-ended : (t : ℕ) (c : bobject-Joined-k-eq-R_CURLY t)
    → Ended c.args.sheet.now.kinds.now c.args.sheet.now.flags.now c.args.rows.now c.args.records.now c.args.notes.now c.if-k-eq-R_CURLY.rows c.if-k-eq-R_CURLY.records
    c.if-k-eq-R_CURLY.notes
    (binding_properties c.args.here.at (c.args.here.at + 1) nil) c.args.here.rows (cursor (c.args.here.at + 1) c.args.here.rows c.args.here.records) Row.BindingObject
    c.args.here.at
    c.if-k-eq-R_CURLY.end c.if-k-eq-R_CURLY.c c.if-k-eq-R_CURLY.kids
bobject-ended t c =
    elim c.if-k-eq-R_CURLY.branch [
      | bobject-then-k-eq-R_CURLY w ↦
          ended w.rows-is w.records-is w.notes-is w.c-is w.kids-is refl w.end-is (ends c.loop-place.invariant c.kind_at-k.ensures w.if-k-eq-R_CURLY.true)
          (omega (arith, stands c.args.sheet.now.kinds.now (sym c.kind_at-k.ensures ∙ w.if-k-eq-R_CURLY.true)))
      | bobject-else-k-eq-R_CURLY+then-k-eq-DOT3+in_ok-c+else-row_word-ne-BINDING_NAME w ↦
          let rest = w.in_ok-c.ensures.closed_to _ refl in
          let after = closed_after rest (omega arith) in
          ended w.rows-is w.records-is w.notes-is w.c-is w.kids-is refl w.end-is
          (rest_closes c.loop-place.invariant w.in_ok-c.ensures (rest_named rest (omega (arith, rest_rows rest)) w.row_word.ensures
          (sym c.kind_at-k.ensures ∙ w.if-k-eq-DOT3.true) w.if-row_word-ne-BINDING_NAME.false))
          (omega arith)
      | bobject-else-k-eq-R_CURLY+else-k-eq-DOT3+in_ok-c-2+then-next-eq-R_CURLY w ↦
          let more = moves c.loop-place.invariant c.kind_at-k.ensures (w.if-k-eq-R_CURLY.false, w.if-k-eq-DOT3.false) w.in_ok-c-2.ensures in
          ended w.rows-is w.records-is w.notes-is w.c-is w.kids-is refl w.end-is
          (closes c.loop-place.invariant c.kind_at-k.ensures (w.if-k-eq-R_CURLY.false, w.if-k-eq-DOT3.false) w.in_ok-c-2.ensures w.kind_at-next.ensures
          w.if-next-eq-R_CURLY.true)
          (omega (arith, stands c.args.sheet.now.kinds.now (sym w.kind_at-next.ensures ∙ w.if-next-eq-R_CURLY.true)))
    ]

pub bobject-loop-place-init : goal.bobject-loop-place-init
bobject-loop-place-init t c =
    starts (binding_properties_list c.args.sheet.now.kinds.now c.args.sheet.now.flags.now c.args.here.at) (omega (arith, c.requires)) (omega (arith, c.requires))
    (omega (arith, c.requires))

pub bobject-over-requires : goal.bobject-over-requires
bobject-over-requires t c = omega (arith, bobject-ended t (goal.at.bobject-over-requires t c).Joined-k-eq-R_CURLY)

pub bobject-returns : goal.bobject-returns
bobject-returns t c = topped (bobject-ended t (goal.at.bobject-returns t c).Joined-k-eq-R_CURLY).closed c.over.ensures

pub bobject-returns-in_err-c-2 : goal.bobject-returns-in_err-c-2
bobject-returns-in_err-c-2 t c =
    rw (exits _ c.from_residual-in_err-c-2.ensures.1) (is_fail refl (refuses c.loop-place.invariant c.kind_at-k.ensures (c.if-k-eq-R_CURLY.false, c.if-k-eq-DOT3.false)
    c.in_err-c-2.ensures))

pub bobject-returns-then-next-ne-COMMA : goal.bobject-returns-then-next-ne-COMMA
bobject-returns-then-next-ne-COMMA t c =
    is_fail refl (opens c.loop-place.invariant c.kind_at-k.ensures (c.if-k-eq-R_CURLY.false, c.if-k-eq-DOT3.false) c.in_ok-c-2.ensures c.kind_at-next.ensures
    c.if-next-eq-R_CURLY.false c.if-next-ne-COMMA.true)

pub bobject-loop-place-smaller : goal.bobject-loop-place-smaller
bobject-loop-place-smaller t c =
    omega (
      arith,
      moves c.loop-place.invariant c.kind_at-k.ensures (c.if-k-eq-R_CURLY.false, c.if-k-eq-DOT3.false) c.in_ok-c-2.ensures,
      stands
          c.args.sheet.now.kinds.now (sym c.kind_at-next.ensures ∙ c.if-next-ne-COMMA.false),
    )

pub bobject-loop-place-preserved : goal.bobject-loop-place-preserved
bobject-loop-place-preserved t c =
    turns c.loop-place.invariant c.kind_at-k.ensures (c.if-k-eq-R_CURLY.false, c.if-k-eq-DOT3.false) c.in_ok-c-2.ensures c.kind_at-next.ensures c.if-next-ne-COMMA.false
    refl
    c.bproperty.auto.rows c.bproperty.auto.records

-- `left`
pub left-returns-in_err-c : goal.left-returns-in_err-c
left-returns-in_err-c t c = rw (exits _ c.from_residual.ensures.1) (left_refuses c.requires c.in_err-c.ensures)

pub left-returns-then-not-is_word : goal.left-returns-then-not-is_word
left-returns-then-not-is_word t c =
    left_no_word (left_linked c.requires c.in_ok-c.ensures c.loop-rows.invariant) c.kind_at.ensures c.in-27.is c.kind_at-in-27.ensures c.if-not-is_word.ensures

pub left-over-c-requires : goal.left-over-c-requires
left-over-c-requires t c =
    omega (
      arith,
      left_linked c.requires c.in_ok-c.ensures c.loop-rows.invariant,
      word_stands c.args.sheet.now.kinds.now c.kind_at-in-27.ensures
          c.if-not-is_word.ensures,
    )

pub left-loop-rows-preserved-in-27 : goal.left-loop-rows-preserved-in-27
left-loop-rows-preserved-in-27 t c =
    left_turns c.loop-rows.invariant c.over-c.auto.rows refl
    (λ r₀ s₀ m₀ k w. left_member w c.kind_at.ensures c.in-27.is c.kind_at-in-27.ensures c.if-not-is_word.ensures c.over-c.ensures)

pub left-inside-requires : goal.left-inside-requires
left-inside-requires t c =
    omega (arith, left_linked c.requires c.in_ok-c.ensures c.loop-rows.invariant, stands c.args.sheet.now.kinds.now (sym c.kind_at.ensures ∙ c.in-20.is))

pub left-returns-in_err-d-in-20 : goal.left-returns-in_err-d-in-20
left-returns-in_err-d-in-20 t c =
    rw (exits _ c.from_residual-in_err-d-in-20.ensures.1) (left_index_refuses (left_linked c.requires c.in_ok-c.ensures c.loop-rows.invariant) c.kind_at.ensures
    c.in-20.is c.in_err-d-in-20.ensures)

pub left-over-c-requires-in-20 : goal.left-over-c-requires-in-20
left-over-c-requires-in-20 t c =
    let inside = c.in_ok-d-in-20.ensures.closed_to _ refl in
    omega (
      arith,
      left_linked c.requires c.in_ok-c.ensures c.loop-rows.invariant,
      inside.past,
      stands c.args.sheet.now.kinds.now inside.token,
      moved _
          (closed_read inside) refl,
    )

pub left-loop-rows-smaller-in-20 : goal.left-loop-rows-smaller-in-20
left-loop-rows-smaller-in-20 t c =
    let inside = c.in_ok-d-in-20.ensures.closed_to _ refl in
    omega (arith, inside.past, stands c.args.sheet.now.kinds.now inside.token, moved _ (closed_read inside) refl, topped_now c.over-c-in-20.ensures)

pub left-loop-rows-preserved-in-20 : goal.left-loop-rows-preserved-in-20
left-loop-rows-preserved-in-20 t c =
    left_turns c.loop-rows.invariant (omega arith) c.inside.auto.records
    (λ r₀ s₀ m₀ k w. left_index w c.kind_at.ensures c.in-20.is c.in_ok-d-in-20.ensures c.over-c-in-20.ensures)

pub left-args-requires : goal.left-args-requires
left-args-requires t c =
    let linked = left_linked c.requires c.in_ok-c.ensures c.loop-rows.invariant in
    let within = stands c.args.sheet.now.kinds.now (sym c.kind_at.ensures ∙ c.in-18.is) in
    (omega arith, (omega arith, left_operand linked c.kind_at.ensures (omega arith) c.in-18.is (omega (arith, c.requires))))

pub left-returns-in_err-c-in-18 : goal.left-returns-in_err-c-in-18
left-returns-in_err-c-in-18 t c =
    rw (exits _ c.from_residual-in_err-c-in-18.ensures.1) (left_call_refuses (left_linked c.requires c.in_ok-c.ensures c.loop-rows.invariant) c.kind_at.ensures
    c.in-18.is c.in_err-c-in-18.ensures)

pub left-loop-rows-smaller : goal.left-loop-rows-smaller
left-loop-rows-smaller t c =
    let linked = left_linked c.requires c.in_ok-c.ensures c.loop-rows.invariant in
    omega (arith, left_call_reaches linked c.kind_at.ensures c.in-18.is c.in_ok-c-in-18.ensures)

pub left-loop-rows-preserved : goal.left-loop-rows-preserved
left-loop-rows-preserved t c =
    left_turns c.loop-rows.invariant c.args-in-18.auto.rows c.args-in-18.auto.records
    (λ r₀ s₀ m₀ k w. left_call w c.kind_at.ensures c.in-18.is c.in_ok-c-in-18.ensures)

pub left-returns-in_default : goal.left-returns-in_default
left-returns-in_default t c = left_ends (left_linked c.requires c.in_ok-c.ensures c.loop-rows.invariant) c.kind_at.ensures (omega arith) (omega arith) (omega arith)

-- `object`
object-ended : (t : ℕ) (c : object-Joined-k-eq-R_CURLY t)
    → Ended c.args.sheet.now.kinds.now c.args.sheet.now.flags.now c.args.rows.now c.args.records.now c.args.notes.now c.if-k-eq-R_CURLY.rows c.if-k-eq-R_CURLY.records
    c.if-k-eq-R_CURLY.notes
    (properties c.args.here.at (c.args.here.at + 1) Row.Object nil) c.args.here.rows (cursor (c.args.here.at + 1) c.args.here.rows c.args.here.records)
    c.if-k-eq-R_CURLY.kind c.args.here.at
    c.if-k-eq-R_CURLY.end c.if-k-eq-R_CURLY.c c.if-k-eq-R_CURLY.kids
object-ended t c =
    elim c.if-k-eq-R_CURLY.branch [
      | object-then-k-eq-R_CURLY w ↦
          ended w.rows-is w.records-is w.notes-is w.c-is w.kids-is w.kind-is w.end-is (ends c.loop-place.invariant c.kind_at-k.ensures w.if-k-eq-R_CURLY.true)
          (omega (arith, stands c.args.sheet.now.kinds.now (sym c.kind_at-k.ensures ∙ w.if-k-eq-R_CURLY.true)))
      | object-else-k-eq-R_CURLY+in_ok-c+then-next-eq-R_CURLY w ↦
          let more = moves c.loop-place.invariant c.kind_at-k.ensures w.if-k-eq-R_CURLY.false w.in_ok-c.ensures in
          ended w.rows-is w.records-is w.notes-is w.c-is w.kids-is w.kind-is w.end-is
          (closes c.loop-place.invariant c.kind_at-k.ensures w.if-k-eq-R_CURLY.false w.in_ok-c.ensures w.kind_at-next.ensures w.if-next-eq-R_CURLY.true)
          (omega (arith, stands c.args.sheet.now.kinds.now (sym w.kind_at-next.ensures ∙ w.if-next-eq-R_CURLY.true)))
    ]

pub object-loop-place-init : goal.object-loop-place-init
object-loop-place-init t c =
    starts (properties_list c.args.sheet.now.kinds.now c.args.sheet.now.flags.now c.args.here.at) (omega (arith, c.requires)) (omega (arith, c.requires))
    (omega (arith, c.requires))

pub object-over-requires : goal.object-over-requires
object-over-requires t c = omega (arith, object-ended t (goal.at.object-over-requires t c).Joined-k-eq-R_CURLY)

pub object-returns : goal.object-returns
object-returns t c = topped (object-ended t (goal.at.object-returns t c).Joined-k-eq-R_CURLY).closed c.over.ensures

pub object-returns-in_err-c : goal.object-returns-in_err-c
object-returns-in_err-c t c =
    rw (exits _ c.from_residual.ensures.1) (is_fail refl (refuses c.loop-place.invariant c.kind_at-k.ensures c.if-k-eq-R_CURLY.false c.in_err-c.ensures))

pub object-returns-then-next-ne-COMMA : goal.object-returns-then-next-ne-COMMA
object-returns-then-next-ne-COMMA t c =
    is_fail refl (opens c.loop-place.invariant c.kind_at-k.ensures c.if-k-eq-R_CURLY.false c.in_ok-c.ensures c.kind_at-next.ensures c.if-next-eq-R_CURLY.false
    c.if-next-ne-COMMA.true)

pub object-loop-place-smaller-then-k-eq-DOT3 : goal.object-loop-place-smaller-then-k-eq-DOT3
object-loop-place-smaller-then-k-eq-DOT3 t c =
    omega (
      arith,
      moves c.loop-place.invariant c.kind_at-k.ensures c.if-k-eq-R_CURLY.false c.in_ok-c.ensures,
      stands c.args.sheet.now.kinds.now
          (sym c.kind_at-next.ensures ∙ c.if-next-ne-COMMA.false),
    )

pub object-loop-place-preserved-then-k-eq-DOT3 : goal.object-loop-place-preserved-then-k-eq-DOT3
object-loop-place-preserved-then-k-eq-DOT3 t c =
    turns c.loop-place.invariant c.kind_at-k.ensures c.if-k-eq-R_CURLY.false c.in_ok-c.ensures c.kind_at-next.ensures c.if-next-ne-COMMA.false
    (rw (sym c.kind_at-k.ensures ∙ c.if-k-eq-DOT3.true))
    c.part.auto.rows c.part.auto.records

pub object-loop-place-smaller : goal.object-loop-place-smaller
object-loop-place-smaller t c =
    omega (
      arith,
      moves c.loop-place.invariant c.kind_at-k.ensures c.if-k-eq-R_CURLY.false c.in_ok-c.ensures,
      stands c.args.sheet.now.kinds.now
          (sym c.kind_at-next.ensures ∙ c.if-next-ne-COMMA.false),
    )

pub object-loop-place-preserved : goal.object-loop-place-preserved
object-loop-place-preserved t c =
    turns c.loop-place.invariant c.kind_at-k.ensures c.if-k-eq-R_CURLY.false c.in_ok-c.ensures c.kind_at-next.ensures c.if-next-ne-COMMA.false
    (rw (ne_eqb _ _ (λ q. c.if-k-eq-DOT3.false (c.kind_at-k.ensures ∙ q))))
    c.part.auto.rows c.part.auto.records

-- `params`
pub params-returns-in_err-c : goal.params-returns-in_err-c
params-returns-in_err-c t c =
    rw (exits _ c.from_residual.ensures.1)
    (is_not_listed refl (rest_refuses c.loop-c.invariant c.in_err-c.ensures (λ q. parameters_rest_fails (sym c.kind_at-k.ensures ∙ c.if-k-eq-DOT3.true))
    (λ i ts rs. parameters_rest_open (sym c.kind_at-k.ensures ∙ c.if-k-eq-DOT3.true))))

pub params-returns-in_ok-c : goal.params-returns-in_ok-c
params-returns-in_ok-c t c =
    let rest = c.in_ok-c.ensures.closed_to _ refl in
    listed (rest_closes c.loop-c.invariant c.in_ok-c.ensures (parameters_rest (sym c.kind_at-k.ensures ∙ c.if-k-eq-DOT3.true) rest.comes rest.token))

pub params-overflow_add-c-in-loop-c : goal.params-overflow_add-c-in-loop-c
params-overflow_add-c-in-loop-c t c = omega (arith, moves c.loop-c.invariant c.kind_at-k.ensures (c.if-k-eq-R_PAREN.false, c.if-k-eq-DOT3.false) c.in_ok-c-2.ensures)

pub params-loop-c-init : goal.params-loop-c-init
params-loop-c-init t c =
    starts (parameters_list c.args.sheet.now.kinds.now c.args.sheet.now.flags.now) (omega (arith, c.requires)) (omega (arith, c.requires)) (omega (arith, c.requires))

pub params-returns-then-k-eq-R_PAREN : goal.params-returns-then-k-eq-R_PAREN
params-returns-then-k-eq-R_PAREN t c = listed (ends c.loop-c.invariant c.kind_at-k.ensures c.if-k-eq-R_PAREN.true)

pub params-returns-in_err-c-2 : goal.params-returns-in_err-c-2
params-returns-in_err-c-2 t c =
    rw (exits _ c.from_residual-in_err-c-2.ensures.1) (is_not_listed refl (refuses c.loop-c.invariant c.kind_at-k.ensures
    (c.if-k-eq-R_PAREN.false, c.if-k-eq-DOT3.false) c.in_err-c-2.ensures))

pub params-returns-then-next-eq-R_PAREN : goal.params-returns-then-next-eq-R_PAREN
params-returns-then-next-eq-R_PAREN t c =
    listed (closes c.loop-c.invariant c.kind_at-k.ensures (c.if-k-eq-R_PAREN.false, c.if-k-eq-DOT3.false) c.in_ok-c-2.ensures c.kind_at-next.ensures
    c.if-next-eq-R_PAREN.true)

pub params-returns-then-next-ne-COMMA : goal.params-returns-then-next-ne-COMMA
params-returns-then-next-ne-COMMA t c =
    is_not_listed refl (opens c.loop-c.invariant c.kind_at-k.ensures (c.if-k-eq-R_PAREN.false, c.if-k-eq-DOT3.false) c.in_ok-c-2.ensures c.kind_at-next.ensures
    c.if-next-eq-R_PAREN.false c.if-next-ne-COMMA.true)

pub params-loop-c-smaller : goal.params-loop-c-smaller
params-loop-c-smaller t c =
    omega (
      arith,
      moves c.loop-c.invariant c.kind_at-k.ensures (c.if-k-eq-R_PAREN.false, c.if-k-eq-DOT3.false) c.in_ok-c-2.ensures,
      stands c.args.sheet.now.kinds.now
          (sym c.kind_at-next.ensures ∙ c.if-next-ne-COMMA.false),
    )

pub params-loop-c-preserved : goal.params-loop-c-preserved
params-loop-c-preserved t c =
    turns c.loop-c.invariant c.kind_at-k.ensures (c.if-k-eq-R_PAREN.false, c.if-k-eq-DOT3.false) c.in_ok-c-2.ensures c.kind_at-next.ensures c.if-next-ne-COMMA.false
    refl
    c.element.auto.rows c.element.auto.records

-- `assign`
assign-stepped : (t : ℕ) (c : assign-After-after_start t)
    → Stepped c.args.sheet.now.kinds.now c.args.sheet.now.flags.now (whole_of c.args.rows.now c.args.records.now c.args.notes.now c.args.here) c.start-got.new.notes
    c.loop-d.spot.here.at (length c.args.rows.now) (length c.args.records.now) c.after_start.new.rows c.after_start.new.records (length c.args.rows.now / 6)
    c.after_start.result
assign-stepped t c =
    stepped c.loop-d.invariant c.start-got.new.rows c.start-got.new.records c.start-got.new.notes
    (c.start-got.auto.rows ∙ length-take-le (6 * c.loop-d.spot.top) c.loop-d.rows (top_inside c.loop-d.invariant.awaits)) c.start-got.auto.records c.start-got.ensures
    c.after_start.ensures c.after_start.auto.rows c.after_start.auto.records

pub assign-leaf-requires : goal.assign-leaf-requires
assign-leaf-requires t c = omega (arith, assign_stands c.args.sheet.now.kinds.now c.args.here.at c.in-Some.ensures)

pub assign-returns-in-Some : goal.assign-returns-in-Some
assign-returns-in-Some t c = assign_singles c.leaf.ensures c.in-Some.ensures

pub assign-loop-d-init : goal.assign-loop-d-init
assign-loop-d-init t c = looping_starts c.requires refl

pub assign-after_start-requires : goal.assign-after_start-requires
assign-after_start-requires t c =
    start_fits c.loop-d.invariant c.start-got.new.rows c.start-got.new.records c.start-got.new.notes
    (c.start-got.auto.rows ∙ length-take-le (6 * c.loop-d.spot.top) c.loop-d.rows (top_inside c.loop-d.invariant.awaits)) c.start-got.auto.records c.start-got.ensures

pub assign-returns-in_err-d : goal.assign-returns-in_err-d
assign-returns-in_err-d t c =
    rw (exits _ c.from_residual.ensures.1) ((assign-stepped t (goal.at.assign-returns-in_err-d t c).After-after_start).goes.refused _ c.in_err-d.was)

pub assign-returns-in-Ended : goal.assign-returns-in-Ended
assign-returns-in-Ended t c = (assign-stepped t (goal.at.assign-returns-in-Ended t c).After-after_start).goes.ended _ (c.in_ok-d.was ∙ ap Ok c.in-Ended.is)

pub assign-loop-d-smaller : goal.assign-loop-d-smaller
assign-loop-d-smaller t c =
    looping_less c.loop-d.invariant (assign-stepped t (goal.at.assign-loop-d-smaller t c).After-after_start) (c.in_ok-d.was ∙ ap Ok c.in-Read.is)

pub assign-loop-d-preserved : goal.assign-loop-d-preserved
assign-loop-d-preserved t c =
    looping_again c.loop-d.invariant (assign-stepped t (goal.at.assign-loop-d-preserved t c).After-after_start) (c.in_ok-d.was ∙ ap Ok c.in-Read.is)

-- `start`
arrow_async : (ks fs : List ℕ) (at : ℕ) → is_async_name (sheet_of ks fs) at ≡ true → arrow_kind ks at ≡ Row.AsyncArrow
unfolding is_async_name arrow_kind
arrow_async ks fs at e = rw (and_left (get_or ks at 0 is Async) _ e)

-- a way by itself has nothing with it, so that one test tells it from the others
ways_bare : Bare way_type.parts
ways_bare = search rules

start-past : (t : ℕ) (c : start-Joined-ne t)
    → Past c.args.sheet.now.kinds.now c.args.sheet.now.flags.now c.args.rows.now c.args.records.now c.args.notes.now c.if-ne.rows c.if-ne.records c.if-ne.notes
    c.if-ne.kept c.args.here
start-past t c =
    elim c.if-ne.branch [
      | start-then-ne+in-Err-2 w ↦
          past_given_up c.way_at-way.ensures (is_tried _ (differs_true way_type _ _ (sym w.if-ne.ensures)) (same_false way_type _ _ (sym w.if-eq.ensures)))
          w.in-Err.ensures refl
          w.drop_head-kept.ensures w.head.auto.rows w.head.auto.records w.rows-is w.records-is w.notes-is w.kept-is
      | start-else-ne w ↦ past_none c.way_at-way.ensures (differs_false way_type ways_bare _ _ (sym w.if-ne.ensures)) w.rows-is w.records-is w.notes-is w.kept-is
    ]

start-passed : (t : ℕ) (c : start-Joined-part t)
    → Passed c.args.sheet.now.kinds.now c.args.sheet.now.flags.now c.args.rows.now c.args.records.now c.args.notes.now c.if-part.rows c.if-part.records c.if-part.notes
    c.args.part
    c.if-part.kept c.args.here
start-passed t c =
    elim c.if-part.branch [
      | start-then-part+else-is_async_name v ↦
          let past : Past c.args.sheet.now.kinds.now c.args.sheet.now.flags.now c.args.rows.now c.args.records.now c.args.notes.now v.if-ne.rows v.if-ne.records
          v.if-ne.notes
          v.if-ne.kept c.args.here =
          elim v.if-ne.branch [
            | start-then-ne+in-Err-2 w ↦
                past_given_up v.way_at-way.ensures (is_tried _ (differs_true way_type _ _ (sym w.if-ne.ensures)) (same_false way_type _ _ (sym w.if-eq.ensures)))
                w.in-Err.ensures refl
                w.drop_head-kept.ensures w.head.auto.rows w.head.auto.records w.rows-is w.records-is w.notes-is w.kept-is
            | start-else-ne w ↦ past_none v.way_at-way.ensures (differs_false way_type ways_bare _ _ (sym w.if-ne.ensures)) w.rows-is w.records-is w.notes-is w.kept-is
          ] in
          passed_part v.if-part.true past v.is_async_name.ensures v.if-is_async_name.false v.rows-is v.records-is v.notes-is v.kept-is
      | start-else-part v ↦ passed_operand v.if-part.false v.rows-is v.records-is v.notes-is v.kept-is
    ]

pub start-returns-in-Ok : goal.start-returns-in-Ok
start-returns-in-Ok t c =
    start_opens c.requires c.way_at-way.result c.if-part.true c.way_at-way.ensures (differs_true way_type _ _ (sym c.if-ne.ensures)) c.in-Ok.ensures refl
    c.head_of-head.ensures

pub start-returns-in-Err : goal.start-returns-in-Err
start-returns-in-Err t c =
    start_commits c.requires c.if-part.true c.way_at-way.ensures (same_true way_type ways_bare _ _ (sym c.if-eq.ensures)) c.in-Err.ensures refl

pub start-drop_head-kept-requires : goal.start-drop_head-kept-requires
start-drop_head-kept-requires t c =
    let tried = is_tried c.way_at-way.result (differs_true way_type _ _ (sym c.if-ne.ensures)) (same_false way_type _ _ (sym c.if-eq.ensures)) in
    omega (arith, tried_stands c.args.sheet.now.kinds.now c.args.sheet.now.flags.now c.args.notes.now c.args.here.at c.way_at-way.ensures tried)

pub start-leaf-requires : goal.start-leaf-requires
start-leaf-requires t c =
    omega (
      arith,
      start-past t (goal.at.start-leaf-requires t c).Joined-ne,
      async_stands c.args.sheet.now.kinds.now c.args.sheet.now.flags.now c.args.here.at c.is_async_name.ensures c.if-is_async_name.true,
    )

pub start-returns-then-is_async_name : goal.start-returns-then-is_async_name
start-returns-then-is_async_name t c =
    start_asyncs c.requires c.if-part.true (start-past t (goal.at.start-returns-then-is_async_name t c).Joined-ne) c.is_async_name.ensures c.if-is_async_name.true
    c.leaf.ensures
    (rw (arrow_async c.args.sheet.now.kinds.now c.args.sheet.now.flags.now c.args.here.at (sym c.is_async_name.ensures ∙ c.if-is_async_name.true)) at
    c.head_of-head-then-is_async_name.ensures)

pub start-returns-in_err-d : goal.start-returns-in_err-d
start-returns-in_err-d t c =
    rw (exits _ c.from_residual.ensures.1) (start_fails c.requires (start-passed t (goal.at.start-returns-in_err-d t c).Joined-part) c.in_err-d.ensures refl)

pub start-returns : goal.start-returns
start-returns t c = start_operand c.requires (start-passed t (goal.at.start-returns t c).Joined-part) c.in_ok-d.ensures refl
