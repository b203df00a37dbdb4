-- The file tells whether 8 bytes are there.
use Rattle.admission_node.proofs.Numbers.{wide_true, wide_false}
use Rattle.admission_node.proofs.survey_any.Goals as goal

pub survey_node-requires : goal.survey_node-requires
survey_node-requires c = (c.requires.0, c.requires.1, wide_true _ c.is_wide.ensures c.if-is_wide.true, c.requires.2)

pub survey_node-requires-else-is_wide : goal.survey_node-requires-else-is_wide
survey_node-requires-else-is_wide c = (c.requires.0, c.requires.1, wide_false _ _, c.requires.2)
