-- Deltas within reach are right.
use Rattle.buffers.specs.DecideLaws.{decides_true}
use Rattle.node_deltas.proofs.Targets.{near_right}
use Rattle.node_deltas.proofs.targets_right.Goals as goal

pub returns-then-near : goal.returns-then-near
returns-then-near c = rw c.if-near.true (decides_true (near_right c.requires.2 (c.near.ensures c.if-near.true)))
