-- `baxhiso_carry::fst_carry_arrays`: what carrying gave back is the definition's answer, and the arrays hold its reading.
-- Assumes nothing.
use Rattle.stream_arrays.specs.Arrays.{held}
use Rattle.baxhiso.specs.ResultLaws.{code_is}
use Rattle.baxhiso_carry.proofs.CarryResults.{carry_refused, carry_carried}
use Rattle.baxhiso_carry.proofs.fst_carry_arrays.Goals as goal

-- it is refused, and the arrays are as they were
pub returns-in-Err : goal.returns-in-Err
returns-in-Err c =
    let x = c.args in
    let h = held x.head.now x.bound.now x.addrs.now x.inps.now x.trans.now x.outs.now in
    carry_refused x.old.now x.new.now h x.keys c.reading_of-reading.ensures c.carry-carried.ensures _ _ c.in-Err.is (code_is c.code.result c.code.type_inv c.code.ensures)

-- the arrays hold the carried reading
pub returns-in-Ok : goal.returns-in-Ok
returns-in-Ok c =
    let x = c.args in
    let h = held x.head.now x.bound.now x.addrs.now x.inps.now x.trans.now x.outs.now in
    carry_carried x.old.now x.new.now h x.keys c.reading_of-reading.ensures c.carry-carried.ensures c.in-Ok.after c.in-Ok.is _ c.put.ensures
