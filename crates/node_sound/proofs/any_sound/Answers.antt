-- The node is sound where it has parts.
use Rattle.node_sound.specs.JudgingLaws.{judged_decides}
use Rattle.node_sound.proofs.any_sound.Goals as goal

pub returns : goal.returns
returns c = rw c.is_some.ensures (judged_decides c.any_parts.result c.any_parts.ensures)
