-- The bytes before the index are written, and m is what they leave of n.
use Rattle.le_bytes.proofs.Writing.{Writing}
use Rattle.le_bytes.proofs.pack_uint_in.Given as goal

abbrev pub invariant-loop-byte : goal.invariant-loop-byte
invariant-loop-byte l = Writing l.n l.nbytes l.byte-items l.m l.byte-index
