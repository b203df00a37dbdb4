-- Each of the eight bytes is added with its weight.
use Rattle.std.proofs.Common.{arith}
use Rattle.le_bytes.proofs.Weights.{le_eight}
use Rattle.le_bytes.proofs.read_u64_le.Goals as goal

pub returns : goal.returns
returns c = omega (arith, le_eight c.args.slice.now c.requires)
