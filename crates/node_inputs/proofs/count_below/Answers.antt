-- Every byte is below 256, and the entries are two halves.
use Rattle.std.proofs.Common.{arith}
use Rattle.node_inputs.proofs.Index.{below_every, below_halves}
use Rattle.node_inputs.proofs.count_below.Goals as goal

pub returns-then-all_below : goal.returns-then-all_below
returns-then-all_below c =
    below_every c.args.file.now c.args.index c.args.n c.requires (λ i. (c.type_inv.file i).fits) (omega (arith, c.if-all_below.true))

pub returns : goal.returns
returns c = omega (arith, below_halves c.args.file.now c.args.index c.args.n)
