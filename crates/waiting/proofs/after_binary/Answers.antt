-- `waiting::after_binary` meets its contract.
use Rattle.waiting.proofs.Groups.{name_awaits, right_operand, right_awaits, choice_awaits, part_at}
use Rattle.waiting.proofs.after_binary.Goals as goal

pub returns-then-opens_body : goal.returns-then-opens_body
returns-then-opens_body c = record { goes = λ all m ws p i none. name_awaits ws p i none (cc) c.name_body.ensures c.name_body.auto.rows }

pub wait_right-requires-clause-operand : goal.wait_right-requires-clause-operand
wait_right-requires-clause-operand c = right_operand c.requires.grouping.ws c.requires.grouping.at c.requires.no_operand c.requires.no_operator (cc)

pub returns-then-is_assignment_operator : goal.returns-then-is_assignment_operator
returns-then-is_assignment_operator c = record { goes = λ all m ws p i none. right_awaits ws p i none (cc) c.wait_right.ensures c.wait_right.auto.rows c.wait_right.auto.records }

pub returns-then-operator-eq-QUESTION : goal.returns-then-operator-eq-QUESTION
returns-then-operator-eq-QUESTION c = record { goes = λ all m ws p i none. choice_awaits ws p i none (cc) c.wait_choice.ensures c.wait_choice.auto.rows }

pub finish_parts-requires : goal.finish_parts-requires
finish_parts-requires c =
    let e = c.requires.grouping in
    record { fs = c.args.sheet.now.flags.now; all = e.all; m = e.m; s = c.args.records.now; ws = e.ws; at = part_at e.ws e.at c.requires.no_operand c.requires.no_operator (cc) (cc) (λ z. c.if-operator-eq-QUESTION.false (cc)) }

pub returns : goal.returns
returns c =
    record { goes = λ all m ws p i none. c.finish_parts.ensures.goes c.args.sheet.now.flags.now all m c.args.records.now ws (part_at ws p i none (cc) (cc) (λ z. c.if-operator-eq-QUESTION.false (cc))) }
