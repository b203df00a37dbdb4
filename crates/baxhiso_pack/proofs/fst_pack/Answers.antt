-- What packing answers is what the function for C leaves.
-- Assumes nothing.
use Rattle.std.proofs.Common.{◌∙◌}
use Rattle.baxhiso.specs.ResultLaws.{result_back}
use Rattle.baxhiso_pack.proofs.PackResults.{pack_leaves}
use Rattle.baxhiso_pack.proofs.fst_pack.Goals as goal

pub returns : goal.returns
returns c = pack_leaves c.args.len.now _ _ (result_back c.length_told.result c.length_told.type_inv ∙ c.length_told.ensures.0) c.length_told.ensures.1 _ c.pack-answer.ensures
