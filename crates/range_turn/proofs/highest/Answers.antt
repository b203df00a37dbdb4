-- `range_turn::highest` meets its contract: a level that has a transition left, one that is popped, and no level left.
-- Assumes nothing.
use Rattle.std.proofs.Common.{refl}
use Rattle.range_turn.proofs.TopLaws.{topping_end, topping_at, topping_on}
use Rattle.range_turn.proofs.highest.Goals as goal

-- the highest level has a transition left
pub returns-then-stack-top : goal.returns-then-stack-top
returns-then-stack-top c = topping_at c.loop-top.invariant c.loop-top-test.true refl c.count_of-count.ensures c.if-stack-top.true

-- the highest level has no transition left: it is popped
pub loop-top-preserved : goal.loop-top-preserved
loop-top-preserved c = topping_on c.loop-top.invariant c.loop-top-test.true refl c.count_of-count.ensures c.if-stack-top.false

-- every level is popped
pub returns : goal.returns
returns c = topping_end c.loop-top.invariant c.loop-top-test.false
