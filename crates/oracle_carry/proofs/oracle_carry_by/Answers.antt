-- `oracle_carry::oracle_carry_by`: what carrying gave back is the definition's answer, and the arrays hold its reading.
-- Assumes nothing.
use Rattle.std.proofs.Common.{false, replicate}
use Rattle.patterned_fit.specs.Positions.{pattern_is}
use Rattle.stream_arrays.specs.Arrays.{held}
use Rattle.oracle_carry.proofs.TellingCarry.{carry_by_refused, carry_by_carried}
use Rattle.oracle_carry.proofs.oracle_carry_by.Goals as goal

-- it is refused, and the arrays are as they were
pub returns-in-Err : goal.returns-in-Err
returns-in-Err c =
    let x = c.args in
    let h = held x.head.now x.bound.now x.addrs.now x.inps.now x.trans.now x.outs.now in
    rw (c.from-in-Err.ensures, c.from.ensures)
    (carry_by_refused x.old.now x.new.now h (pattern_is x.len false (replicate 255 0)) c.reading_of-reading.ensures c.carry_by-carried.ensures _ c.in-Err.is)

-- the arrays hold the carried reading
pub returns-in-Ok : goal.returns-in-Ok
returns-in-Ok c =
    let x = c.args in
    let h = held x.head.now x.bound.now x.addrs.now x.inps.now x.trans.now x.outs.now in
    carry_by_carried x.old.now x.new.now h (pattern_is x.len false (replicate 255 0)) c.reading_of-reading.ensures c.carry_by-carried.ensures c.in-Ok.after c.in-Ok.is _ c.put.ensures
