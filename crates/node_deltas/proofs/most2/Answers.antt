-- Two bytes are a number of two bytes.
use Rattle.std.proofs.Common.{arith}
use Rattle.node_deltas.proofs.Targets.{at_most_more, two_is}
use Rattle.node_deltas.proofs.most2.Goals as goal

pub loop-i-preserved : goal.loop-i-preserved
loop-i-preserved c =
    at_most_more _ c.max-most.result
    (two_is c.args.file.now c.args.at c.loop-i.i c.from.result c.from-in-loop-i.result (omega arith) c.from.ensures c.from-in-loop-i.ensures)
    (omega arith) (omega arith) c.loop-i.invariant
