-- Number i of n stands behind the n - 1 - i numbers after it, and where 8 bytes are there its bytes are the first of them.
use Rattle.std.proofs.Common.{◌∙◌}
use Rattle.admission_node.proofs.Numbers.{eight_is}
use Rattle.admission_node.proofs.number.Goals as goal

pub returns-then-wide : goal.returns-then-wide
returns-then-wide c =
    c.unpack_uint.ensures ∙ eight_is c.args.file.now c.args.at c.args.size c.args.n c.args.i c.requires.1 c.requires.2
