-- One byte more is written, from the last on back.
use Rattle.std.proofs.Common.{arith}
use Rattle.node_parts.proofs.Storing.{bytes_none, bytes_room, bytes_step, bytes_all}
use Rattle.node_parts.proofs.put_bytes.Goals as goal

pub loop-i-init : goal.loop-i-init
loop-i-init c = bytes_none c.args.out.now c.args.at c.args.bytes.now

-- the buffer has room for the bytes that are left
pub bounds-out-p : goal.bounds-out-p
bounds-out-p c = bytes_room c.requires (omega arith) c.loop-i.invariant

pub loop-i-preserved : goal.loop-i-preserved
loop-i-preserved c = bytes_step c.requires (omega arith) c.loop-i.invariant

pub returns : goal.returns
returns c = bytes_all (omega arith) c.loop-i.invariant
