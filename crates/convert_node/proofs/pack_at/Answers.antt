-- By the node's form.
use Rattle.std.proofs.Common.{refl}
use Rattle.std.specs.Prelude.{get_or}
use Rattle.convert_size.specs.SingleLaws.{state_single, judged_kept}
use Rattle.convert_node.proofs.Packing.{judged_packable}
use Rattle.convert_node.proofs.pack_at.Goals as goal

pub pack-requires : goal.pack-requires
pack-requires c = let j = c.node_of-node.ensures.0 in (j.readable _ refl, judged_packable j c.requires.1)

pub pack_single-requires : goal.pack_single-requires
pack_single-requires c =
    let j = c.node_of-node.ensures.0 in
    (j.readable _ refl, judged_kept j c.requires.0 (state_single (get_or c.args.fst.bytes.now c.args.a 0) c.node_of-node.ensures.1 c.in-OneTrans.is) c.kept_of.ensures.0, judged_packable j c.requires.1)
