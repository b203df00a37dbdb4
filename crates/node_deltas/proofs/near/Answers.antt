-- Numbers of one byte are below 256, and of two below 65536.
use Rattle.std.proofs.Common.{arith}
use Rattle.node_deltas.proofs.Targets.{at_most_size}
use Rattle.node_deltas.proofs.near.Goals as goal

pub returns-then-reach-ge65535 : goal.returns-then-reach-ge65535
returns-then-reach-ge65535 c =
    λ _. rw c.in-2.is
    (at_most_size c.args.file.now c.args.at 2 c.args.n c.args.reach (λ i. (c.type_inv.file i).fits) (rw c.in-2.is at c.requires) (omega arith))

pub returns-then-reach-ge255 : goal.returns-then-reach-ge255
returns-then-reach-ge255 c =
    λ _. rw c.in-1.is
    (at_most_size c.args.file.now c.args.at 1 c.args.n c.args.reach (λ i. (c.type_inv.file i).fits) (rw c.in-1.is at c.requires) (omega arith))
