-- `shape::may_be` meets its contract: what the table's numbers say at each place.
use Rattle.std.proofs.Common.{◌∙◌, arith}
use Rattle.trees.proofs.Shapes.{in_front, at_end, between_them, closing_has}
use Rattle.trees.proofs.shape.may_be.Goals as goal

pub returns-then-before-front : goal.returns-then-before-front
returns-then-before-front c = c.holds.ensures ∙ in_front c.front.ensures.is c.requires c.args.after c.front.ensures.few c.if-before-front.true c.front_kinds.ensures

pub returns-then-after-end : goal.returns-then-after-end
returns-then-after-end c = c.holds-then-after-end.ensures ∙ at_end c.front.ensures.is c.requires c.ending-end.ensures.is c.if-before-front.false c.ending-end.ensures.few c.if-after-end.true c.last.ensures

pub returns-then-holds : goal.returns-then-holds
returns-then-holds c =
    let e = between_them c.front.ensures.is c.requires c.ending-end.ensures.is c.if-before-front.false c.if-after-end.false c.many.ensures in
    grind (arith, e)

pub returns-then-after-end-2 : goal.returns-then-after-end-2
returns-then-after-end-2 c =
    let e = between_them c.front.ensures.is c.requires c.ending-end.ensures.is c.if-before-front.false c.if-after-end.false c.many.ensures in
    grind (arith, e, closing_has c.closing.ensures c.requires)

pub returns-else-after-end-2 : goal.returns-else-after-end-2
returns-else-after-end-2 c =
    let e = between_them c.front.ensures.is c.requires c.ending-end.ensures.is c.if-before-front.false c.if-after-end.false c.many.ensures in
    grind (arith, e)
