-- The pattern stays beside the reading, and has the positions that it states.
-- Assumes nothing.
use Rattle.std.proofs.Common.{◌≡◌, Err, arith}
use Rattle.patterned_fit.specs.PositionLaws.{positions_length}
use Rattle.carry.proofs.CarryCases.{patterned_refused, patterned_carried}
use Rattle.carry.proofs.carry_by.Goals as goal

pub returns-in_err-reading : goal.returns-in_err-reading
returns-in_err-reading c =
    let p = c.args.patterned in
    let told : c.from_residual.result ≡ Err c.in_err-reading.field-0.0 = grind arith in
    rw (told, positions_length p.pattern.len p.pattern.positions) (patterned_refused p c.carry_reading.ensures _ c.in_err-reading.was)

pub returns : goal.returns
returns c =
    let p = c.args.patterned in
    rw (positions_length p.pattern.len p.pattern.positions) (patterned_carried p c.carry_reading.ensures c.in_ok-reading.reading c.in_ok-reading.was)
