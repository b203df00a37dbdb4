-- `patterned_descend::descend_by` meets its contract: each way out of a turn, and one level more.
-- Assumes nothing.
use Rattle.std.proofs.Common.{◌≡◌, Bool, List, ℕ, ◌+◌, ◌-◌, take, drop, Err, arith, sym, ◌∙◌}
use Rattle.format.specs.Limits.{SUM}
use Rattle.format.specs.Strings.{Bound}
use Rattle.reading.specs.Reading.{passes_test}
use Rattle.stream_start.specs.Views.{bound_of}
use Rattle.patterned_fit.specs.Positions.{held_is}
use Rattle.patterned_fit.specs.PositionLaws.{positions_length}
use Rattle.patterned_descend.proofs.GoingByLaws.{going_none, going_deep, going_halted, going_passed, going_key, going_heavy, going_stuck, going_on}
use Rattle.patterned_descend.proofs.descend_by.Goals as goal

-- the bytes of the levels after the first
taken : (hi : Bound) {r v : Bool} (is : List ℕ) (k : ℕ) → r ≡ passes_test hi (take (k + 1 + 1 - 1) (drop 1 is)) → r ≡ v
    → passes_test hi (take (k + 1) (drop 1 is)) ≡ v
taken hi is k e q = let z : k + 1 + 1 - 1 ≡ k + 1 = omega arith in sym (rw z at e) ∙ q

-- no transition is followed yet
pub loop-k-init : goal.loop-k-init
loop-k-init c =
    let a = c.args in
    let s = a.stack.now in
    going_none a.fst.bytes.now a.fst.version a.fst.root (held_is a.pattern.now) (bound_of a.upper) s.addrs s.inps s.trans s.outs a.top a.node a.total
    c.requires.top_lt_max_levels.0 c.are_arrays.ensures c.requires.top_lt_max_levels.2 c.requires.inps_value

-- the transition is refused
pub returns-in_err-n : goal.returns-in_err-n
returns-in_err-n c =
    let told : c.from_residual.result ≡ Err c.in_err-n.field-0.0 = grind arith in
    rw told (going_halted c.loop-k.invariant c.loop-k-test.true c.follow.ensures _ c.in_err-n.was)

-- the key of the new level passes the upper bound
pub returns-then-exceeded : goal.returns-then-exceeded
returns-then-exceeded c =
    going_passed c.loop-k.invariant c.loop-k-test.true c.in_ok-n.n (c.follow.ensures.to c.in_ok-n.n c.in_ok-n.was) c.counted-t.ensures
    (taken _ c.follow.new.stack.inps c.loop-k.k c.exceeded.ensures c.if-exceeded.true)

-- a key that fits ends at the new level, and its value fits
pub returns-then-is_key : goal.returns-then-is_key
returns-then-is_key c =
    going_key c.loop-k.invariant c.loop-k-test.true c.in_ok-n.n (c.follow.ensures.to c.in_ok-n.n c.in_ok-n.was) c.counted-t.ensures
    c.fit_after-fit.ensures (positions_length c.args.pattern.now.len c.args.pattern.now.positions) (taken _ c.follow.new.stack.inps c.loop-k.k c.exceeded.ensures c.if-exceeded.false)
    (sym c.is_key.ensures ∙ c.if-is_key.true) (grind arith) (grind arith)

-- its value does not fit
pub returns-in_err-value : goal.returns-in_err-value
returns-in_err-value c =
    let told : c.from_residual-in_err-value.result ≡ Err SUM = grind arith in
    rw told
    (going_heavy c.loop-k.invariant c.loop-k-test.true c.in_ok-n.n (c.follow.ensures.to c.in_ok-n.n c.in_ok-n.was) c.counted-t.ensures
    c.fit_after-fit.ensures (positions_length c.args.pattern.now.len c.args.pattern.now.positions) (taken _ c.follow.new.stack.inps c.loop-k.k c.exceeded.ensures c.if-exceeded.false)
    (sym c.is_key.ensures ∙ c.if-is_key.true) (grind arith))

-- the new level cannot go on
pub returns-then-not-live : goal.returns-then-not-live
returns-then-not-live c =
    going_stuck c.loop-k.invariant c.loop-k-test.true c.in_ok-n.n (c.follow.ensures.to c.in_ok-n.n c.in_ok-n.was) c.counted-t.ensures
    c.fit_after-fit.ensures (positions_length c.args.pattern.now.len c.args.pattern.now.positions) (taken _ c.follow.new.stack.inps c.loop-k.k c.exceeded.ensures c.if-exceeded.false)
    (sym c.is_key.ensures ∙ c.if-is_key.false) (sym c.live.ensures ∙ c.if-not-live.true)

-- the new level can go on
pub loop-k-preserved : goal.loop-k-preserved
loop-k-preserved c =
    going_on c.loop-k.invariant c.loop-k-test.true c.in_ok-n.n (c.follow.ensures.to c.in_ok-n.n c.in_ok-n.was) c.counted-t.ensures
    c.fit_after-fit.ensures (positions_length c.args.pattern.now.len c.args.pattern.now.positions) (taken _ c.follow.new.stack.inps c.loop-k.k c.exceeded.ensures c.if-exceeded.false)
    (sym c.is_key.ensures ∙ c.if-is_key.false) (sym c.live.ensures ∙ c.if-not-live.false)

-- no room for another level: DEEP
pub returns : goal.returns
returns c = going_deep c.loop-k.invariant c.loop-k-test.false
