-- The target, from the delta that was read.
use Rattle.node.specs.AccessorLaws.{delta_le, target_is}
use Rattle.node.proofs.transition_addr.Goals as goal

-- no delta is above the first byte
pub target_of-requires : goal.target_of-requires
target_of-requires c = delta_le c.args.file.now c.args.node c.requires.0 c.args.i c.requires.1 c.delta-d.result c.delta-d.ensures

pub returns : goal.returns
returns c = target_is c.args.file.now c.args.node c.requires.0 c.args.i c.requires.1 c.delta-d.result c.delta-d.ensures c.target_of.result c.target_of.ensures
