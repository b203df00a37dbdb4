-- The number that was read is the output.
use Rattle.std.proofs.Common.{◌∙◌}
use Rattle.node.specs.AccessorLaws.{output_is}
use Rattle.node.proofs.output.Goals as goal

pub returns : goal.returns
returns c = c.number_of.ensures ∙ output_is c.args.file.now c.args.node c.requires.0 c.args.i c.requires.1
