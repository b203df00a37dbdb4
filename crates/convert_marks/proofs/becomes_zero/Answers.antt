use Rattle.node.specs.ReadLaws.{length_node_transitions, answer_sound}
use Rattle.convert_marks.proofs.becomes_zero.Goals as goal

pub returns-in-Ok : goal.returns-in-Ok
returns-in-Ok c =
    rw (
      answer_sound c.node_at.ensures c.in-Ok.m c.in-Ok.is,
      length_node_transitions c.args.fst.bytes.now c.in-Ok.m (c.node_at.ensures.readable _ c.in-Ok.is),
      c.packs_to_nothing.ensures,
    )
