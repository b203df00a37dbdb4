-- One number more is seen, and after the last turn all are.
use Rattle.std.proofs.Common.{refl}
use Rattle.node_compile.proofs.Largest.{largest_none, largest_step, largest_all}
use Rattle.node_compile.proofs.largest_of.Goals as goal

pub loop-n-init : goal.loop-n-init
loop-n-init c = largest_none c.args.numbers.now

pub loop-n-preserved : goal.loop-n-preserved
loop-n-preserved c = largest_step c.max-most.result _ c.loop-n-test.true refl c.max-most.ensures c.loop-n.invariant

pub returns : goal.returns
returns c = largest_all c.loop-n-test.false c.loop-n.invariant
