-- `baxhiso_find::fst_find_rows` meets its contract: what find answered is the definition's answer, its stop the result and its count written.
-- Assumes nothing.
use Rattle.baxhiso.specs.ResultLaws.{result_back}
use Rattle.baxhiso_readings.specs.RangeResultLaws.{range_leaves}
use Rattle.baxhiso_find.proofs.fst_find_rows.Goals as goal

-- the rows and values are as find left them
pub returns : goal.returns
returns c =
    let h = rw (c.bound_with-from.ensures, c.bound_with-to.ensures) at c.find-found.ensures in
    range_leaves h _ _ (result_back c.stopped.result c.stopped.type_inv) c.stopped.ensures
