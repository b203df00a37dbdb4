-- The levels are refused, or the reading stands at its new addresses.
-- Assumes nothing.
use Rattle.std.proofs.Common.{◌≡◌, Err, length, arith}
use Rattle.carry.proofs.CarryCases.{levels_halted, levels_all}
use Rattle.carry.proofs.carry_opened.Goals as goal

pub returns-in_err-carry_levels : goal.returns-in_err-carry_levels
returns-in_err-carry_levels c =
    let told : c.from_residual.result ≡ Err c.in_err-carry_levels.field-0.0 = grind arith in
    rw told (levels_halted c.args.reading c.carry_levels.ensures (length c.args.new.bytes.now) _ c.in_err-carry_levels.was)

pub returns : goal.returns
returns c = levels_all c.args.reading c.carry_levels.ensures (length c.args.new.bytes.now) c.in_ok-carry_levels.was
