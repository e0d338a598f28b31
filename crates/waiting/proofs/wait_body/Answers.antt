-- `waiting::wait_body` meets its contract.
use mathlib.Core.Path.{refl, sym, ◌∙◌}
use Rattle.waiting.proofs.Value.{breaks, no_break}
use Rattle.waiting.proofs.Groups.{body_goes}
use Rattle.waiting.proofs.wait_body.Goals as goal
use Rattle.waiting.proofs.wait_body.Goals.{then-flag_at-eq1, else-flag_at-eq1}

pub returns : goal.returns
returns c = body_goes (sym c.is_block.ensures ∙ c.if-is_block.false) refl
    (elim c.if-flag_at-eq1.branch [
      | then-flag_at-eq1 w ↦ breaks c.flag_at.ensures w.if-flag_at-eq1.true w.say-c.ensures w.say-c.auto.records w.records-is w.c-is
      | else-flag_at-eq1 w ↦ no_break c.flag_at.ensures w.if-flag_at-eq1.false w.records-is w.c-is
    ])
    c.push_row.ensures
