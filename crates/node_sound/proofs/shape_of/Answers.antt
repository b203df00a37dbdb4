-- Each part that was read is the definition's.
use Rattle.std.proofs.Common.{refl}
use Rattle.node_sound.specs.ShapesLaws.{shape_any}
use Rattle.node_sound.proofs.shape_of.Goals as goal

pub returns : goal.returns
returns c = (
  shape_any c.args.file.now c.args.version c.args.addr _ c.head_len-len.result c.ntrans_of-ntrans.result _ c.end_len_of-end_len.result
      c.index_len_of-index_len.result refl c.requires.2 c.head_len-len.ensures.is c.ntrans_of-ntrans.ensures.0 refl
      c.end_len_of-end_len.ensures.0 c.index_len_of-index_len.ensures.0,
  c.end_len_of-end_len.ensures.0,
)
