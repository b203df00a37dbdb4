-- `patterned_walk::pop_by` meets its contract: an unsound node, a level that can go on, one that is popped, and no level left.
-- Assumes nothing.
use Rattle.std.proofs.Common.{◌≡◌, Err, arith, sym, ◌∙◌}
use Rattle.node.specs.ReadLaws.{answer_sound, answer_unsound}
use Rattle.patterned_walk.proofs.PopByLaws.{popping_end, popping_bad, popping_at, popping_on}
use Rattle.patterned_walk.proofs.pop_by.Goals as goal

-- the node of the highest level is not sound
pub returns-in_err-m : goal.returns-in_err-m
returns-in_err-m c =
    let told : c.from_residual.result ≡ Err c.in_err-m.field-0.0 = grind arith in
    rw told
    (popping_bad c.loop-top.invariant c.loop-top-test.true c.in_err-m.field-0.0
    (answer_unsound c.node_at.ensures c.in_err-m.field-0.0 c.in_err-m.was))

-- the highest level can go on
pub returns-then-live : goal.returns-then-live
returns-then-live c =
    popping_at c.loop-top.invariant c.loop-top-test.true c.in_ok-m.m (answer_sound c.node_at.ensures c.in_ok-m.m c.in_ok-m.was)
    (c.node_at.ensures.readable c.in_ok-m.m c.in_ok-m.was) c.from.ensures (sym c.live.ensures ∙ c.if-live.true)

-- it cannot: it is popped
pub loop-top-preserved : goal.loop-top-preserved
loop-top-preserved c =
    popping_on c.loop-top.invariant c.loop-top-test.true c.in_ok-m.m (answer_sound c.node_at.ensures c.in_ok-m.m c.in_ok-m.was)
    (c.node_at.ensures.readable c.in_ok-m.m c.in_ok-m.was) c.from.ensures (sym c.live.ensures ∙ c.if-live.false)

-- every level is popped
pub returns : goal.returns
returns c = popping_end c.loop-top.invariant c.loop-top-test.false
