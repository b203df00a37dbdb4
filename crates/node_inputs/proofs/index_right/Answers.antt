-- Where each input's entry is its place, the count of the entries below n decides.
use Rattle.buffers.specs.DecideLaws.{decides_false}
use Rattle.node_inputs.specs.Inputs.{Probed}
use Rattle.node_inputs.proofs.Index.{index_decides}
use Rattle.node_inputs.proofs.index_right.Goals as goal

pub returns-then-probes : goal.returns-then-probes
returns-then-probes c =
    index_decides c.args.file.now c.args.at c.args.n c.args.index c.count_below.result c.requires.1 (λ i. (c.type_inv.file i).fits)
    (c.probes.ensures.yes c.if-probes.true) c.count_below.ensures

-- an input's entry is not its place
pub returns-else-probes : goal.returns-else-probes
unfolding Probed
returns-else-probes c = rw c.if-probes.false (decides_false (λ right. c.probes.ensures.no c.if-probes.false (λ i l. right.present i l)))
