-- Each part that was read is the definition's.
use Rattle.std.proofs.Common.{refl, arith}
use Rattle.node_sound.specs.ShapesLaws.{shape_one}
use Rattle.node_sound.proofs.one_shape.Goals as goal

pub returns : goal.returns
returns c = (
  shape_one c.args.fst.bytes.now c.args.fst.version c.args.addr c.head_len-len.result _ c.requires.2 c.head_len-len.ensures.is refl,
  omega (arith, c.head_len-len.ensures.low),
  omega (arith, c.head_len-len.ensures.high),
)
