-- The file tells whether 8 bytes are there.
use Rattle.admission_node.proofs.Numbers.{wide_true, wide_false}
use Rattle.admission_node.proofs.mark_any.Goals as goal

pub mark_targets-requires : goal.mark_targets-requires
mark_targets-requires c = (c.requires.0, c.requires.1, wide_true _ c.is_wide.ensures c.if-is_wide.true, c.requires.2, c.requires.3)

pub mark_targets-requires-else-is_wide : goal.mark_targets-requires-else-is_wide
mark_targets-requires-else-is_wide c = (c.requires.0, c.requires.1, wide_false _ _, c.requires.2, c.requires.3)
