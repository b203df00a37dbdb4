-- All deltas are right where each is.
use Rattle.buffers.specs.DecideLaws.{decides_true, decides_false}
use Rattle.node_deltas.proofs.Targets.{right_all, not_right}
use Rattle.node_deltas.proofs.targets_slow.Goals as goal

pub returns-then-not-target_right : goal.returns-then-not-target_right
returns-then-not-target_right c =
    decides_false
    (not_right c.args.file.now c.args.at c.args.size c.args.n c.args.first c.loop-i.i c.number_of.result c.number_of.ensures c.loop-i-test.true
    (c.target_right.ensures.no c.if-not-target_right.true))

pub returns : goal.returns
returns c = decides_true (right_all _ _ _ _ _ _ c.loop-i-test.false c.loop-i.invariant)
