-- The bytes stand before zeros, and zeros add nothing.
use Rattle.le_bytes.proofs.Weights.{le_padded}
use Rattle.le_bytes.proofs.unpack_short.Goals as goal

-- all eight are read
pub returns : goal.returns
returns c = rw (c.read_u64_le.ensures, c.copy_front.ensures) (le_padded c.args.slice.now c.args.nbytes c.requires.0 c.requires.1)
