-- A turn writes the lowest byte of m; after the last one the bytes of n stand in the buffer from at on.
use Rattle.std.proofs.Common.{arith}
use Rattle.buffers.specs.PutLaws.{put_part}
use Rattle.format.specs.Laws.BytesLaws.{length_bytes_of}
use Rattle.le_bytes.proofs.Writing.{writing_step, writing_all}
use Rattle.le_bytes.proofs.pack_uint_in.Goals as goal

pub loop-byte-preserved : goal.loop-byte-preserved
loop-byte-preserved c = writing_step (omega arith) c.loop-byte.invariant

pub returns : goal.returns
returns c =
    put_part _ _ _ _ _ (writing_all (omega arith) c.loop-byte.invariant) (omega (arith, length_bytes_of c.args.nbytes c.args.n))
