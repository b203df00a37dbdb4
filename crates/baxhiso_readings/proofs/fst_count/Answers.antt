-- `baxhiso_readings::fst_count` meets its contract: filling's answer is the result, and the tables are as it left them.
-- Assumes nothing.
use Rattle.std.proofs.Common.{◌∙◌}
use Rattle.baxhiso.specs.ResultLaws.{result_back}
use Rattle.baxhiso_readings.proofs.ReadingResults.{count_leaves}
use Rattle.baxhiso_readings.proofs.fst_count.Goals as goal

-- the result is the answer's
pub returns : goal.returns
returns c = rw (result_back c.done.result c.done.type_inv ∙ c.done.ensures) (count_leaves _ _ _ _ _ _ _ c.count_keys-answer.result c.count_keys-answer.ensures)
