-- `frame::finish` meets its contract.
use native.Mathlib.Omega.{arith}
use Rattle.reader.proofs.Finishing.{finish_fails, finish_follows, last_room, finish_reads}
use Rattle.reader.proofs.frame.finish.Goals as goal

pub returns-then-end-kinds : goal.returns-then-end-kinds
returns-then-end-kinds c = finish_follows c.in-Ok.is c.if-end-kinds.true c.refuse-then-end-kinds.ensures

pub unconverted-used-requires : goal.unconverted-used-requires
unconverted-used-requires c = last_room c.requires.ready c.requires.came_out c.in-Ok.is

pub overflow_mul-n : goal.overflow_mul-n
overflow_mul-n c = omega (arith, last_room c.requires.ready c.requires.came_out c.in-Ok.is)

pub overflow_mul-used : goal.overflow_mul-used
overflow_mul-used c = omega (arith, last_room c.requires.ready c.requires.came_out c.in-Ok.is, c.unconverted-used.ensures)

pub noted-requires : goal.noted-requires
noted-requires c =
    let done = c.requires.came_out.came.done_to _ c.in-Ok.is in
    record { fine = done.fine; within = rw c.if-end-kinds.false done.within; tokens_bound = omega (arith, c.requires.ready, c.if-end-kinds.false) }

pub returns-in-Err : goal.returns-in-Err
returns-in-Err c = finish_fails c.in-Err.is c.refuse.ensures

pub returns-else-end-kinds : goal.returns-else-end-kinds
returns-else-end-kinds c =
    finish_reads c.in-Ok.is c.if-end-kinds.false c.unconverted-used.ensures c.unconverted-used.auto.records c.clear_from.ensures c.clear_from-in-Ok.ensures c.noted.ensures
