-- `stream_descend::descend` meets its contract: each way out of a turn, and one level more.
-- Assumes nothing.
use Rattle.std.proofs.Common.{◌≡◌, sym, Err, ◌∙◌, arith}
use Rattle.format.specs.Limits.{SUM}
use Rattle.stream_descend.proofs.GoingLaws.{going_deep, going_halted, going_passed, going_final, going_final_past, going_on}
use Rattle.stream_descend.proofs.descend.Goals as goal

-- the transition is refused
pub returns-in_err-n : goal.returns-in_err-n
returns-in_err-n c =
    let told : c.from_residual.result ≡ Err c.in_err-n.field-0.0 = grind arith in
    rw told (going_halted c.loop-k.invariant c.loop-k-test.true c.follow.ensures _ c.in_err-n.was)

-- the key of the new level passes the upper bound
pub returns-then-exceeded : goal.returns-then-exceeded
returns-then-exceeded c =
    going_passed c.loop-k.invariant c.loop-k-test.true c.in_ok-n.n (c.follow.ensures.to c.in_ok-n.n c.in_ok-n.was) c.counted-t.ensures
    (sym c.exceeded.ensures ∙ c.if-exceeded.true)

-- the new level's node is final: a key ends here, whose value does not fit
pub returns-in_err-value : goal.returns-in_err-value
returns-in_err-value c =
    let told : c.from_residual-in_err-value.result ≡ Err SUM = grind arith in
    rw told
    (going_final_past c.loop-k.invariant c.loop-k-test.true c.in_ok-n.n (c.follow.ensures.to c.in_ok-n.n c.in_ok-n.was) c.counted-t.ensures
    (sym c.exceeded.ensures ∙ c.if-exceeded.false) c.if-n.true (grind arith))

-- or does
pub returns-then-n : goal.returns-then-n
returns-then-n c =
    going_final c.loop-k.invariant c.loop-k-test.true c.in_ok-n.n (c.follow.ensures.to c.in_ok-n.n c.in_ok-n.was) c.counted-t.ensures
    (sym c.exceeded.ensures ∙ c.if-exceeded.false) c.if-n.true (grind arith) (grind arith)

-- one transition more is followed, and its target is judged
pub loop-k-preserved : goal.loop-k-preserved
loop-k-preserved c =
    going_on c.loop-k.invariant c.loop-k-test.true c.in_ok-n.n (c.follow.ensures.to c.in_ok-n.n c.in_ok-n.was) c.counted-t.ensures
    (sym c.exceeded.ensures ∙ c.if-exceeded.false) c.if-n.false

-- no room for another level: DEEP
pub returns : goal.returns
returns c = going_deep c.loop-k.invariant c.loop-k-test.false
