-- `stream_upto::at_end` meets its contract: the last node is judged, and its own key added.
-- Assumes nothing.
use Rattle.std.proofs.lemmas.Result.{err_from_is_err_and}
use Rattle.format.specs.Paths.{fst_with}
use Rattle.node.specs.Read.{meaning}
use Rattle.node.specs.ReadLaws.{answer_sound, answer_unsound}
use Rattle.stream_upto.proofs.Walking.{end_unsound, end_sound}
use Rattle.stream_upto.proofs.at_end.Goals as goal

-- the node is not sound
pub returns-in_err-last : goal.returns-in_err-last
returns-in_err-last c =
    let a = c.args in
    let p = err_from_is_err_and c.from_residual.result c.from_residual.ensures.1 in
    λ d n e. rw (p.1, p.2) (end_unsound (fst_with a.fst.bytes.now a.fst.version a.fst.root) a.own a.addr (answer_unsound c.node_at.ensures _ c.in_err-last.was) d n)

-- it is sound
pub returns : goal.returns
returns c =
    let a = c.args in
    let m = c.in_ok-last.last in
    λ d n e.
    end_sound (fst_with a.fst.bytes.now a.fst.version a.fst.root) a.own a.addr (meaning a.fst.bytes.now m) (answer_sound c.node_at.ensures m c.in_ok-last.was)
    _ c.own_key-k.ensures a.total _ c.added.ensures d n e
