-- `baxhiso::fst_admit` meets its contract. Assumes nothing.
use Rattle.std.proofs.Common.{◌∙◌}
use Rattle.baxhiso.specs.ResultLaws.{result_back}
use Rattle.baxhiso.proofs.Results.{done_leaves}
use Rattle.baxhiso.proofs.fst_admit.Goals as goal

-- the result is the answer's, and the tables are as admission left them
pub returns : goal.returns
returns c = rw (result_back c.done.result c.done.type_inv ∙ c.done.ensures) (done_leaves _ _ _ _ _ c.admit-answer.result c.admit-answer.ensures)
