-- More inputs than entries have no index, and after the last turn every byte is probed.
use Rattle.std.proofs.Common.{arith}
use Rattle.buffers.specs.DecideLaws.{decides_false}
use Rattle.node_inputs.proofs.Index.{placed_all, probed_few}
use Rattle.node_inputs.proofs.probes.Goals as goal

pub returns-then-n-gt256 : goal.returns-then-n-gt256
returns-then-n-gt256 c =
    decides_false (probed_few c.args.file.now c.args.at c.args.n c.args.index c.if-n-gt256.true (λ i. (c.type_inv.file i).fits))

pub returns : goal.returns
returns c = placed_all (omega arith) (omega arith) (λ i. (c.type_inv.file i).fits) c.loop-b.invariant.1
