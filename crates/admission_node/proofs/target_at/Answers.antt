-- The target, from the delta that was read.
use Rattle.std.proofs.Common.{◌∙◌}
use Rattle.node.specs.AccessorLaws.{delta_le, target_is}
use Rattle.admission_node.proofs.Numbers.{any_delta}
use Rattle.admission_node.proofs.target_at.Goals as goal

-- no delta is above the first byte
pub target_of-requires : goal.target_of-requires
target_of-requires c =
    delta_le c.args.file.now c.args.node c.requires.0 c.args.i c.requires.2 c.number-d.result (c.number-d.ensures ∙ any_delta c.args.file.now c.args.node c.args.i c.requires.1)

pub returns : goal.returns
returns c =
    target_is c.args.file.now c.args.node c.requires.0 c.args.i c.requires.2 c.number-d.result (c.number-d.ensures ∙ any_delta c.args.file.now c.args.node c.args.i c.requires.1) c.target_of.result
    c.target_of.ensures
