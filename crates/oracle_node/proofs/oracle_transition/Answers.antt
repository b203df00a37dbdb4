-- What is told of transition i: nothing where there is none or no room for it. Assumes nothing.
use Rattle.std.proofs.Common.{sym, ◌∙◌}
use Rattle.oracle_node.proofs.NodeTold.{transition_no_room, transition_told}
use Rattle.oracle_node.proofs.oracle_transition.Goals as goal

pub returns-then-out-lt3 : goal.returns-then-out-lt3
returns-then-out-lt3 c = transition_no_room _ c.args.i _ c.args.out.now (sym c.transition_at.ensures ∙ c.in-Some.is) c.if-out-lt3.true

pub returns : goal.returns
returns c = transition_told _ c.args.i _ c.args.out.now _ (sym c.transition_at.ensures ∙ c.in-Some.is) c.if-out-lt3.false c.put.ensures
