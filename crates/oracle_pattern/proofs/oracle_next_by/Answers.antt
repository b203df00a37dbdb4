-- `oracle_pattern::oracle_next_by`: what next answered is the definition's answer, the arrays hold the reading after the call, and the number tells the answer.
-- Assumes nothing.
use lib.Dec.{ltb}
use Rattle.std.proofs.Common.{length, get_or}
use Rattle.patterned_fit.specs.Positions.{pattern_is}
use Rattle.stream_arrays.specs.Arrays.{held}
use Rattle.oracle_pattern.proofs.TellingBy.{step_by, next_by_told}
use Rattle.oracle_pattern.proofs.oracle_next_by.Goals as goal

pub returns : goal.returns
returns c =
    let x = c.args in
    let h = held x.head.now x.bound.now x.addrs.now x.inps.now x.trans.now x.outs.now in
    let p = pattern_is (get_or x.pattern.now 0 0) (ltb 0 (get_or x.pattern.now 1 0)) x.positions.now in
    next_by_told (step_by x.file.now p (length x.key.now) h c.reading_of-reading.ensures c.next-step.ensures) _ c.put.ensures _ c.told.ensures
