-- `stream_pop::highest`: an unsound node, a level that has a transition left, one that is popped, and no level left.
use Rattle.std.proofs.Common.{◌≡◌, Err, arith}
use Rattle.node.specs.ReadLaws.{answer_sound, answer_unsound}
use Rattle.stream_pop.proofs.PopLaws.{popping_end, popping_bad, popping_at, popping_on}
use Rattle.stream_pop.proofs.highest.Goals as goal

-- the node of the highest level is not sound
pub returns-in_err-m : goal.returns-in_err-m
returns-in_err-m c =
    let told : c.from_residual.result ≡ Err c.in_err-m.field-0.0 = grind arith in
    rw told (popping_bad c.loop-top.invariant c.loop-top-test.true (answer_unsound c.node_at.ensures c.in_err-m.field-0.0 c.in_err-m.was) c.in_err-m.field-0.0)

-- the highest level has a transition left
pub returns-then-from-m : goal.returns-then-from-m
returns-then-from-m c =
    popping_at c.loop-top.invariant c.loop-top-test.true c.in_ok-m.m (answer_sound c.node_at.ensures c.in_ok-m.m c.in_ok-m.was)
    (c.node_at.ensures.readable c.in_ok-m.m c.in_ok-m.was) (omega (arith, c.from.ensures, c.if-from-m.true))

-- the highest level has no transition left: it is popped
pub loop-top-preserved : goal.loop-top-preserved
loop-top-preserved c =
    popping_on c.loop-top.invariant c.loop-top-test.true c.in_ok-m.m (answer_sound c.node_at.ensures c.in_ok-m.m c.in_ok-m.was)
    (c.node_at.ensures.readable c.in_ok-m.m c.in_ok-m.was) (omega (arith, c.from.ensures, c.if-from-m.false))

-- every level is popped
pub returns : goal.returns
returns c = popping_end c.loop-top.invariant c.loop-top-test.false
