-- `oracle_stream::oracle_next`: what next answered is the definition's answer, the arrays hold the reading after the call, and the number tells the answer.
-- Assumes nothing.
use Rattle.std.proofs.Common.{length}
use Rattle.stream_arrays.specs.Arrays.{held}
use Rattle.stream_arrays.specs.ArraysLaws.{next_of}
use Rattle.oracle_stream.proofs.Telling.{next_told}
use Rattle.oracle_stream.proofs.oracle_next.Goals as goal

pub returns : goal.returns
returns c =
    let x = c.args in
    let h = held x.head.now x.bound.now x.addrs.now x.inps.now x.trans.now x.outs.now in
    next_told (next_of x.file.now (length x.key.now) h x.keys.now c.reading_of-reading.ensures c.next-step.ensures) _ _ c.put_plain.ensures _ c.told.ensures
