-- Number i of n stands behind the n - 1 - i numbers after it, and the file is lent on from its first byte.
use Rattle.std.proofs.Common.{◌∙◌, sym}
use Rattle.format.specs.Laws.StoredLaws.{get_d_numbers_down, part_rest}
use Rattle.le_bytes.proofs.number_of.Goals as goal

pub returns : goal.returns
returns c =
    c.unpack_uint.ensures ∙ (rw part_rest) ∙ sym (get_d_numbers_down c.args.file.now c.args.at c.args.size c.args.n c.args.i c.requires.2)
