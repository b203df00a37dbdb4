-- `baxhiso_readings::fst_start_arrays` meets its contract: what start answered is the definition's answer, and the arrays hold its reading.
-- Assumes nothing.
use Rattle.stream_arrays.specs.ArraysLaws.{start_bounds}
use Rattle.baxhiso.specs.ResultLaws.{code_is}
use Rattle.baxhiso_readings.proofs.ReadingResults.{start_refused, start_began}
use Rattle.baxhiso_readings.proofs.fst_start_arrays.Goals as goal

-- the start is refused
pub returns-in-Err : goal.returns-in-Err
returns-in-Err c =
    let x = c.args in
    start_refused c.start.result
    (start_bounds x.file.now x.lower.now x.upper.now x.counts.now x.lower_kind x.upper_kind c.bound_with-low.ensures c.bound_with-high.ensures
    c.start.ensures)
    _ _ _ _ c.in-Err.is (code_is c.code.result c.code.type_inv c.code.ensures)

-- a reading begins, and the arrays hold it
pub returns-in-Ok : goal.returns-in-Ok
returns-in-Ok c =
    let x = c.args in
    start_began c.start.result
    (start_bounds x.file.now x.lower.now x.upper.now x.counts.now x.lower_kind x.upper_kind c.bound_with-low.ensures c.bound_with-high.ensures
    c.start.ensures)
    _ _ _ _ _ c.in-Ok.is c.put_plain.ensures
