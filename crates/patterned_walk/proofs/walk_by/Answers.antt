-- `patterned_walk::walk_by` meets its contract: each way out of a turn, and the levels that a descent leaves.
-- Assumes nothing.
use Rattle.std.proofs.Common.{◌≡◌, refl, Ok, Err, Some, None, ap, ◌∙◌, arith}
use Rattle.std.proofs.lemmas.Result.{err_from_is_err_and}
use Rattle.patterned_fit.specs.Positions.{held_is}
use Rattle.patterned_fit.specs.PositionLaws.{positions_length}
use Rattle.stream_start.specs.Views.{view_is}
use Rattle.patterned_walk.proofs.WalkingLaws.{walking_none, walking_end, walking_empty, walking_bad, top_low, top_fits, walking_done, walking_halted, walking_on, walking_less}
use Rattle.patterned_walk.proofs.walk_by.Goals as goal

-- no level is popped yet
pub loop-n-init : goal.loop-n-init
loop-n-init c =
    let a = c.args in
    let r = a.reading.now in
    let s = a.stack.now in
    walking_none a.fst.bytes.now a.fst.version a.fst.root (held_is a.pattern.now) (view_is r).bound s.addrs s.inps s.trans s.outs r.levels r.total
    c.fit_of-fit.result c.requires.levels_le_max_levels.0 c.are_arrays.ensures c.fit_of-fit.ensures

-- no level can go on
pub returns-in_default : goal.returns-in_default
returns-in_default c = let e : c.pop_by.result ≡ Ok None = grind arith in walking_empty c.loop-n.invariant (positions_length c.args.pattern.now.len c.args.pattern.now.positions) refl c.pop_by.ensures e

-- the node of a level is not sound
pub returns-in_err-top : goal.returns-in_err-top
returns-in_err-top c =
    let p = err_from_is_err_and c.from_residual.result c.from_residual.ensures.1 in
    rw (p.1, p.2) (walking_bad c.loop-n.invariant (positions_length c.args.pattern.now.len c.args.pattern.now.positions) refl c.pop_by.ensures _ c.in_err-top.was)

-- the level found is one of 256, and its node is judged
pub descend_by-requires-clause-top_lt_max_levels : goal.descend_by-requires-clause-top_lt_max_levels
descend_by-requires-clause-top_lt_max_levels c =
    let e : c.pop_by.result ≡ Ok (Some (c.in-Some.top, c.in-Some.m)) = grind arith in
    (top_low c.loop-n.invariant (positions_length c.args.pattern.now.len c.args.pattern.now.positions) refl c.pop_by.ensures c.in-Some.top c.in-Some.m e, c.requires.levels_le_max_levels.1, c.pop_by.ensures.ready c.in-Some.top c.in-Some.m e)

-- its bytes fit
pub descend_by-requires-clause-inps_value : goal.descend_by-requires-clause-inps_value
descend_by-requires-clause-inps_value c =
    let e : c.pop_by.result ≡ Ok (Some (c.in-Some.top, c.in-Some.m)) = grind arith in
    top_fits c.loop-n.invariant (positions_length c.args.pattern.now.len c.args.pattern.now.positions) refl c.pop_by.ensures c.in-Some.top c.in-Some.m e

-- the descent is refused
pub returns-in_err-followed : goal.returns-in_err-followed
returns-in_err-followed c =
    let e : c.pop_by.result ≡ Ok (Some (c.in-Some.top, c.in-Some.m)) = grind arith in
    let told : c.from_residual-in_err-followed.result ≡ Err c.in_err-followed.field-0.0 = grind arith in
    rw told (walking_halted c.loop-n.invariant (positions_length c.args.pattern.now.len c.args.pattern.now.positions) refl c.pop_by.ensures c.in-Some.top c.in-Some.m e (rw c.upper.ensures at c.descend_by.ensures) _ c.in_err-followed.was)

-- a key is found, or the upper bound is passed
pub returns-in-Done : goal.returns-in-Done
returns-in-Done c =
    let e : c.pop_by.result ≡ Ok (Some (c.in-Some.top, c.in-Some.m)) = grind arith in
    walking_done c.loop-n.invariant (positions_length c.args.pattern.now.len c.args.pattern.now.positions) refl c.pop_by.ensures c.in-Some.top c.in-Some.m e
    (rw c.upper.ensures at c.descend_by.ensures) c.in-Done.followed (c.in_ok-followed.was ∙ ap Ok c.in-Done.is)

-- the levels below one that cannot go on are left
pub loop-n-preserved : goal.loop-n-preserved
loop-n-preserved c =
    let e : c.pop_by.result ≡ Ok (Some (c.in-Some.top, c.in-Some.m)) = grind arith in
    walking_on c.loop-n.invariant (positions_length c.args.pattern.now.len c.args.pattern.now.positions) refl c.pop_by.ensures c.in-Some.top c.in-Some.m e
    (rw c.upper.ensures at c.descend_by.ensures) c.in-Stuck.k c.in-Stuck.total (c.in_ok-followed.was ∙ ap Ok c.in-Stuck.is)

-- a transition was followed, and a level popped
pub loop-n-smaller : goal.loop-n-smaller
loop-n-smaller c =
    let e : c.pop_by.result ≡ Ok (Some (c.in-Some.top, c.in-Some.m)) = grind arith in
    walking_less c.loop-n.invariant (positions_length c.args.pattern.now.len c.args.pattern.now.positions) refl c.pop_by.ensures c.in-Some.top c.in-Some.m e
    (rw c.upper.ensures at c.descend_by.ensures) c.in-Stuck.k c.in-Stuck.total (c.in_ok-followed.was ∙ ap Ok c.in-Stuck.is)

-- no level is left
pub returns : goal.returns
returns c = walking_end c.loop-n.invariant c.loop-n-test.false
