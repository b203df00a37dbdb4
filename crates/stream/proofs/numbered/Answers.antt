-- A start without the number, and then the number.
use Rattle.std.proofs.Common.{◌≡◌, Err, arith}
use Rattle.stream.proofs.StartCases.{then_refused, then_halted, then_begun}
use Rattle.stream.proofs.numbered.Goals as goal

-- the start is refused
pub returns-in_err-reading : goal.returns-in_err-reading
returns-in_err-reading c =
    let told : c.from_residual.result ≡ Err c.in_err-reading.field-0.0 = grind arith in
    rw told (then_refused c.start.result c.start.ensures _ _ c.in_err-reading.was)

-- the number is
pub returns-in_err-keys : goal.returns-in_err-keys
returns-in_err-keys c =
    let told : c.from_residual-in_err-keys.result ≡ Err c.in_err-keys.field-0.0 = grind arith in
    rw told (then_halted c.start.result c.start.ensures _ c.in_ok-reading.was c.number.result c.number.ensures _ c.in_err-keys.was)

pub returns : goal.returns
returns c = then_begun c.start.result c.start.ensures _ c.in_ok-reading.was c.number.result c.number.ensures _ c.in_ok-keys.was
