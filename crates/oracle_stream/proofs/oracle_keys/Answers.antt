-- `oracle_stream::oracle_keys`: a refused start hands out no key; a reading that begins has its keys counted.
-- Assumes nothing.
use Rattle.stream_arrays.specs.ArraysLaws.{start_bounds}
use Rattle.oracle_stream.proofs.Telling.{keys_refused, keys_told}
use Rattle.oracle_stream.proofs.oracle_keys.Goals as goal

pub returns-in-Err : goal.returns-in-Err
returns-in-Err c =
    let x = c.args in
    keys_refused x.most x.file.now c.start.result (start_bounds x.file.now x.lower.now x.upper.now x.counts.now x.lower_kind x.upper_kind c.bound_with-from.ensures c.bound_with-to.ensures c.start.ensures)
    _ x.key.now c.in-Err.is

pub returns-in-Ok : goal.returns-in-Ok
returns-in-Ok c =
    let x = c.args in
    keys_told x.most x.file.now c.start.result (start_bounds x.file.now x.lower.now x.upper.now x.counts.now x.lower_kind x.upper_kind c.bound_with-from.ensures c.bound_with-to.ensures c.start.ensures)
    _ x.key.now _ _ c.in-Ok.is c.keys_from.ensures
