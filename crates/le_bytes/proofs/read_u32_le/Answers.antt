-- Each of the four bytes has its weight.
use Rattle.std.proofs.Common.{arith}
use Rattle.le_bytes.proofs.Weights.{le_four}
use Rattle.le_bytes.proofs.read_u32_le.Goals as goal

pub returns : goal.returns
returns c = omega (arith, le_four c.args.slice.now c.requires)
