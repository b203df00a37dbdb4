-- `counting::zeros_to` meets its contract: zeros from the given address on, up to the next that has an entry in the depths. Assumes nothing.
use Rattle.counting.proofs.Passing.{zeros_put}
use Rattle.counting.proofs.zeros_to.Goals as goal

pub returns : goal.returns
returns c =
    zeros_put c.args.depths.now c.args.counts.now c.fill.new.self c.args.n c.args.from c.marked_from-to.result c.requires.2 c.marked_from-to.ensures
    (c.fill.ensures.after (λ y e. e))
