-- `oracle_stream::oracle_start`: what start answered is the definition's answer, and the arrays hold its reading.
-- Assumes nothing.
use Rattle.stream_arrays.specs.ArraysLaws.{start_bounds}
use Rattle.oracle_stream.proofs.Telling.{start_refused, start_told}
use Rattle.oracle_stream.proofs.oracle_start.Goals as goal

-- the start is refused
pub returns-in-Err : goal.returns-in-Err
returns-in-Err c =
    let x = c.args in
    rw (c.from-in-Err.ensures, c.from.ensures)
    (start_refused c.start.result (start_bounds x.file.now x.lower.now x.upper.now x.counts.now x.lower_kind x.upper_kind c.bound_with-from.ensures c.bound_with-to.ensures c.start.ensures)
    _ _ _ c.in-Err.is)

-- a reading begins, and the arrays hold it
pub returns-in-Ok : goal.returns-in-Ok
returns-in-Ok c =
    let x = c.args in
    start_told c.start.result (start_bounds x.file.now x.lower.now x.upper.now x.counts.now x.lower_kind x.upper_kind c.bound_with-from.ensures c.bound_with-to.ensures c.start.ensures)
    _ _ _ _ _ c.in-Ok.is c.put_plain.ensures
