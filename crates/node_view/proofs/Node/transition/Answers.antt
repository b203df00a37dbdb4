-- `node_view::Node::transition` meets its contract: a sound node has the transitions below its count.
-- Assumes nothing.
use Rattle.node_view.proofs.ViewAnswers.{ok_is, transition_in_at, transition_in_past}
use Rattle.node_view.proofs.Node.transition.Goals as goal

-- the node has transition i
pub returns-then-i-n : goal.returns-then-i-n
returns-then-i-n c =
    let m = c.in_ok-m in
    transition_in_at c.judged.ensures m.m (ok_is c.judged.result m.m m.ensures.value) _ _ c.if-i-n.true c.transition.ensures

-- the node has no transition i
pub returns : goal.returns
returns c =
    let m = c.in_ok-m in
    transition_in_past c.judged.ensures m.m (ok_is c.judged.result m.m m.ensures.value) _ c.if-i-n.false
