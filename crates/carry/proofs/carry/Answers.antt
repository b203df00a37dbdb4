-- The number of keys to come stays beside the reading.
-- Assumes nothing.
use Rattle.std.proofs.Common.{◌≡◌, Err, arith}
use Rattle.carry.proofs.CarryCases.{plain_refused, plain_carried}
use Rattle.carry.proofs.carry.Goals as goal

pub returns-in_err-reading : goal.returns-in_err-reading
returns-in_err-reading c =
    let told : c.from_residual.result ≡ Err c.in_err-reading.field-0.0 = grind arith in
    rw told (plain_refused c.args.plain c.carry_reading.ensures _ c.in_err-reading.was)

pub returns : goal.returns
returns c = plain_carried c.args.plain c.carry_reading.ensures c.in_ok-reading.reading c.in_ok-reading.was
