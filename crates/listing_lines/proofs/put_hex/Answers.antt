-- `listing_lines::put_hex` meets its contract: no byte is written yet; one more is, as two digits; all are.
-- Assumes nothing.
use Rattle.std.proofs.Common.{length, arith}
use Rattle.std.proofs.Math.Seq.{take-length}
use Rattle.listing_lines.proofs.Hexes.{hex_none, hex_step, hex_all}
use Rattle.listing_lines.proofs.put_hex.Goals as goal

pub loop-i-init : goal.loop-i-init
loop-i-init c = hex_none c.args.line.now c.args.at c.args.key.now (length c.args.key.now)

pub loop-i-preserved : goal.loop-i-preserved
loop-i-preserved c =
    hex_step c.hex_digit.result c.hex_digit-in-loop-i.result (omega arith) c.requires (omega arith) c.hex_digit.ensures c.hex_digit-in-loop-i.ensures c.loop-i.invariant

pub returns : goal.returns
returns c = rw (take-length c.args.key.now) at (hex_all (omega arith) (omega arith) c.loop-i.invariant)
