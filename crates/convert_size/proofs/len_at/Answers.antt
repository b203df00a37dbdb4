-- By the node's form.
use Rattle.std.proofs.Common.{refl}
use Rattle.std.specs.Prelude.{get_or}
use Rattle.convert_size.specs.SingleLaws.{state_single, judged_sizable, judged_kept}
use Rattle.convert_size.proofs.len_at.Goals as goal

pub len_any-requires : goal.len_any-requires
len_any-requires c = let j = c.node_of-node.ensures.0 in (j.readable _ refl, judged_sizable j c.requires.1)

pub len_single-requires : goal.len_single-requires
len_single-requires c =
    let j = c.node_of-node.ensures.0 in
    (j.readable _ refl, judged_kept j c.requires.0 (state_single (get_or c.args.fst.bytes.now c.args.a 0) c.node_of-node.ensures.1 c.in-OneTrans.is) c.kept_of.ensures.0, judged_sizable j c.requires.1)
