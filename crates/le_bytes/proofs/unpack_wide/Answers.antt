-- Eight bytes are read, and the pair of shifts is the rest of the division by 256 ^ nbytes, which is the number of the nbytes lowest.
use Rattle.std.proofs.Common.{arith}
use Rattle.le_bytes.proofs.Weights.{cut_eight}
use Rattle.le_bytes.proofs.unpack_wide.Goals as goal

-- the shifts drop the bytes above
pub returns : goal.returns
returns c = rw c.read_u64_le.ensures (cut_eight c.args.slice.now c.args.nbytes _ c.requires.0 (omega arith) c.requires.1 (λ i. (c.type_inv.slice i).fits))
