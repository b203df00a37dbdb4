-- A byte is a number of one byte.
use Rattle.std.proofs.Common.{◌+◌, ◌-◌, arith}
use Rattle.node_deltas.proofs.Targets.{at_most_more, byte_is}
use Rattle.node_deltas.proofs.most1.Goals as goal

pub loop-d-preserved : goal.loop-d-preserved
loop-d-preserved c =
    at_most_more _ c.max-most.result (byte_is c.args.file.now c.args.at (c.args.at + c.args.n - c.args.at) c.loop-d.d-index (omega arith) (omega arith)) (omega arith) (omega arith) c.loop-d.invariant
