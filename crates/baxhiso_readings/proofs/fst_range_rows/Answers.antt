-- `baxhiso_readings::fst_range_rows` meets its contract: what range answered is the definition's answer, its stop the result and its count written.
-- Assumes nothing.
use Rattle.std.proofs.Common.{length}
use Rattle.baxhiso.specs.ResultLaws.{result_back}
use Rattle.baxhiso_readings.specs.RangeResultLaws.{range_leaves}
use Rattle.baxhiso_readings.proofs.ReadingResults.{range_bounds}
use Rattle.baxhiso_readings.proofs.fst_range_rows.Goals as goal

-- the rows and values are as range left them
pub returns : goal.returns
returns c =
    let x = c.args in
    range_leaves
    (range_bounds x.file.now x.lower.now x.upper.now x.lower_kind x.upper_kind x.most (length x.rows.now) (length x.values.now) c.bound_with-from.ensures
    c.bound_with-to.ensures c.range-ranged.ensures)
    _ _ (result_back c.stopped.result c.stopped.type_inv) c.stopped.ensures
