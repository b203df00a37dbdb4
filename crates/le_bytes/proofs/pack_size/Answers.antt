-- The count from the leading zero bits is the least that holds the number, as the packer's is.
use Rattle.std.proofs.Common.{arith}
use Rattle.le_bytes.proofs.SizeLaws.{size_zero, size_is, packed_in}
use Rattle.le_bytes.proofs.pack_size.Goals as goal

-- zero
pub returns-then-n-eq0 : goal.returns-then-n-eq0
returns-then-n-eq0 c = rw c.if-n-eq0.true (packed_in (omega arith) size_zero)

-- any other number
pub returns : goal.returns
returns c = packed_in c.ranges.n.fits (size_is c.args.n (omega arith) c.ranges.n.fits)
