-- `baxhiso_results::answered` meets its contract: the result, the length and the value are those of the answer.
-- Assumes nothing.
use Rattle.baxhiso.specs.ResultLaws.{code_is}
use Rattle.baxhiso_results.proofs.AnswerResults.{no_leaves}
use Rattle.baxhiso_results.proofs.answered.Goals as goal

-- a refusal
pub returns-in-Err : goal.returns-in-Err
returns-in-Err c = no_leaves _ _ _ _ _ c.in-Err.is (code_is c.code.result c.code.type_inv c.code.ensures)
