-- The measures of the cycle: tokens left, and the order in which its members call each other at one place. What holds at each turn of their loops.
use Prim.Native.Nat.{◌-◌, ◌+◌, ◌*◌}
use lib.ListN.{length}
use Rattle.rows.specs.Row as Row
use Rattle.parse.proofs.Steps.Listing.{OverSoFar, arguments_list, SoFar, elements_list, binding_elements_list, binding_properties_list, properties_list, parameters_list}
use Rattle.rows.specs.Tree.{nil}
use Rattle.grammar.specs.Job as Job
use Rattle.waiting.proofs.Starts.{Looping}
use Rattle.parse.proofs.Steps.Comma.{CommaSoFar}
use Rattle.parse.proofs.Steps.Left.{Linking}
use Rattle.parse.proofs.Steps.Unary.{Skipped}
use Rattle.parse.proofs.+expressions.Given as goal

abbrev pub decreases-args : goal.decreases-args
decreases-args l = 32 * (length l.sheet.now.kinds.now - l.here.at) + 1

abbrev pub decreases-array : goal.decreases-array
decreases-array l = 32 * (length l.sheet.now.kinds.now - l.here.at) + 1

abbrev pub decreases-assign : goal.decreases-assign
decreases-assign l = 32 * (length l.sheet.now.kinds.now - l.here.at) + 11

abbrev pub decreases-barray : goal.decreases-barray
decreases-barray l = 32 * (length l.sheet.now.kinds.now - l.here.at) + 1

abbrev pub decreases-binding : goal.decreases-binding
decreases-binding l = 32 * (length l.sheet.now.kinds.now - l.here.at) + 2

abbrev pub decreases-bobject : goal.decreases-bobject
decreases-bobject l = 32 * (length l.sheet.now.kinds.now - l.here.at) + 1

abbrev pub decreases-bproperty : goal.decreases-bproperty
decreases-bproperty l = 32 * (length l.sheet.now.kinds.now - l.here.at) + 4

abbrev pub decreases-comma : goal.decreases-comma
decreases-comma l = 32 * (length l.sheet.now.kinds.now - l.here.at) + 13

abbrev pub decreases-element : goal.decreases-element
decreases-element l = 32 * (length l.sheet.now.kinds.now - l.here.at) + 3

abbrev pub decreases-head : goal.decreases-head
decreases-head l = 32 * (length l.sheet.now.kinds.now - l.here.at) + 5

abbrev pub decreases-init : goal.decreases-init
decreases-init l = 32 * (length l.sheet.now.kinds.now - l.here.at) + 1

abbrev pub decreases-inside : goal.decreases-inside
decreases-inside l = 32 * (length l.sheet.now.kinds.now - l.here.at) + 1

abbrev pub decreases-item : goal.decreases-item
decreases-item l = 32 * (length l.sheet.now.kinds.now - l.here.at) + 12

abbrev pub decreases-key : goal.decreases-key
decreases-key l = 32 * (length l.sheet.now.kinds.now - l.here.at) + 2

abbrev pub decreases-last : goal.decreases-last
decreases-last l = 32 * (length l.sheet.now.kinds.now - l.here.at) + 2

abbrev pub decreases-left : goal.decreases-left
decreases-left l = 32 * (length l.sheet.now.kinds.now - l.here.at) + 6

abbrev pub decreases-object : goal.decreases-object
decreases-object l = 32 * (length l.sheet.now.kinds.now - l.here.at) + 1

abbrev pub decreases-params : goal.decreases-params
decreases-params l = 32 * (length l.sheet.now.kinds.now - l.here.at) + 4

abbrev pub decreases-part : goal.decreases-part
decreases-part l = 32 * (length l.sheet.now.kinds.now - l.here.at) + 5

abbrev pub decreases-primary : goal.decreases-primary
decreases-primary l = 32 * (length l.sheet.now.kinds.now - l.here.at) + 5

abbrev pub decreases-property : goal.decreases-property
decreases-property l = 32 * (length l.sheet.now.kinds.now - l.here.at) + 4

abbrev pub decreases-rest : goal.decreases-rest
decreases-rest l = 32 * (length l.sheet.now.kinds.now - l.here.at) + 1

abbrev pub decreases-spread : goal.decreases-spread
decreases-spread l = 32 * (length l.sheet.now.kinds.now - l.here.at) + 1

abbrev pub decreases-start : goal.decreases-start
decreases-start l = 32 * (length l.sheet.now.kinds.now - l.here.at) + 10

abbrev pub decreases-unary : goal.decreases-unary
decreases-unary l = 32 * (length l.sheet.now.kinds.now - l.here.at) + 8

abbrev pub invariant-args-loop-place : goal.invariant-args-loop-place
invariant-args-loop-place l =
    OverSoFar (arguments_list l.sheet.kinds.now l.sheet.flags.now l.first) l.initial.rows l.initial.records l.initial.notes l.from l.initial.c l.rows l.records l.notes
    l.c l.kids Row.Call

abbrev pub decreases-args-loop-place : goal.decreases-args-loop-place
decreases-args-loop-place l = length l.sheet.kinds.now - l.c.at

abbrev pub invariant-array-loop-place : goal.invariant-array-loop-place
invariant-array-loop-place l =
    SoFar (elements_list l.sheet.kinds.now l.sheet.flags.now l.here.at) l.initial.rows l.initial.records l.initial.notes
    (Job.elements l.here.at (l.here.at + 1) Row.Array nil) l.here.rows l.initial.c l.rows l.records l.notes l.c l.kids l.kind

abbrev pub decreases-array-loop-place : goal.decreases-array-loop-place
decreases-array-loop-place l = length l.sheet.kinds.now - l.c.at

abbrev pub invariant-assign-loop-d : goal.invariant-assign-loop-d
invariant-assign-loop-d l =
    Looping l.sheet.kinds.now l.sheet.flags.now l.initial.rows l.initial.records l.initial.notes l.initial.spot.here l.base l.rows l.records l.notes l.spot

abbrev pub decreases-assign-loop-d : goal.decreases-assign-loop-d
decreases-assign-loop-d l = length l.sheet.kinds.now - l.spot.here.at

abbrev pub invariant-barray-loop-place : goal.invariant-barray-loop-place
invariant-barray-loop-place l =
    SoFar (binding_elements_list l.sheet.kinds.now l.sheet.flags.now l.here.at) l.initial.rows l.initial.records l.initial.notes
    (Job.binding_elements l.here.at (l.here.at + 1) nil) l.here.rows l.initial.c l.rows l.records l.notes l.c l.kids Row.BindingArray

abbrev pub decreases-barray-loop-place : goal.decreases-barray-loop-place
decreases-barray-loop-place l = length l.sheet.kinds.now - l.c.at

abbrev pub invariant-bobject-loop-place : goal.invariant-bobject-loop-place
invariant-bobject-loop-place l =
    SoFar (binding_properties_list l.sheet.kinds.now l.sheet.flags.now l.here.at) l.initial.rows l.initial.records l.initial.notes
    (Job.binding_properties l.here.at (l.here.at + 1) nil) l.here.rows l.initial.c l.rows l.records l.notes l.c l.kids Row.BindingObject

abbrev pub decreases-bobject-loop-place : goal.decreases-bobject-loop-place
decreases-bobject-loop-place l = length l.sheet.kinds.now - l.c.at

abbrev pub invariant-comma-loop-d : goal.invariant-comma-loop-d
invariant-comma-loop-d l =
    CommaSoFar l.sheet.kinds.now l.sheet.flags.now l.initial.rows l.initial.records l.initial.notes l.here l.rows l.records l.notes l.c l.kids l.mark

abbrev pub decreases-comma-loop-d : goal.decreases-comma-loop-d
decreases-comma-loop-d l = length l.sheet.kinds.now - l.c.at

abbrev pub invariant-left-loop-rows : goal.invariant-left-loop-rows
invariant-left-loop-rows l =
    Linking l.sheet.kinds.now l.sheet.flags.now l.initial.rows l.initial.records l.initial.notes l.here.at l.here.rows l.initial.c l.rows l.records l.notes l.c

abbrev pub decreases-left-loop-rows : goal.decreases-left-loop-rows
decreases-left-loop-rows l = length l.sheet.kinds.now - l.c.at

abbrev pub invariant-object-loop-place : goal.invariant-object-loop-place
invariant-object-loop-place l =
    SoFar (properties_list l.sheet.kinds.now l.sheet.flags.now l.here.at) l.initial.rows l.initial.records l.initial.notes
    (Job.properties l.here.at (l.here.at + 1) Row.Object nil) l.here.rows l.initial.c l.rows l.records l.notes l.c l.kids l.kind

abbrev pub decreases-object-loop-place : goal.decreases-object-loop-place
decreases-object-loop-place l = length l.sheet.kinds.now - l.c.at

abbrev pub invariant-params-loop-c : goal.invariant-params-loop-c
invariant-params-loop-c l =
    SoFar (parameters_list l.sheet.kinds.now l.sheet.flags.now) l.initial.rows l.initial.records l.initial.notes (Job.parameters l.initial.c.at nil) l.initial.c.rows
    l.initial.c l.rows l.records l.notes l.c l.kids 0

abbrev pub decreases-params-loop-c : goal.decreases-params-loop-c
decreases-params-loop-c l = length l.sheet.kinds.now - l.c.at

abbrev pub invariant-unary-loop-start : goal.invariant-unary-loop-start
invariant-unary-loop-start l = Skipped l.sheet.kinds.now l.here.at l.start

abbrev pub decreases-unary-loop-start : goal.decreases-unary-loop-start
decreases-unary-loop-start l = length l.sheet.kinds.now - l.start
