-- Two keys in a row lie in the list; a turn compares them, and two that do not ascend decide.
-- Assumes nothing.
use Rattle.std.proofs.Common.{arith}
use Rattle.pack_list.proofs.Ascents.{ascended_none, ascended_step, ascended_not, ascended_all, bounds}
use Rattle.pack_list.proofs.keys_ascend.Goals as goal

pub loop-i-init : goal.loop-i-init
loop-i-init c = ascended_none _ _

pub returns-then-not-comes_before : goal.returns-then-not-comes_before
returns-then-not-comes_before c =
    ascended_not c.requires.0 c.requires.1 c.loop-i.invariant (omega arith) _ _ _ c.begin_at-from.ensures.0 c.end_at-middle.ensures.0 c.end_at-to.ensures.0
    _ c.comes_before.ensures c.if-not-comes_before.true

pub loop-i-preserved : goal.loop-i-preserved
loop-i-preserved c =
    ascended_step c.requires.0 c.requires.1 c.loop-i.invariant (omega arith) _ _ _ c.begin_at-from.ensures.0 c.end_at-middle.ensures.0 c.end_at-to.ensures.0
    _ c.comes_before.ensures c.if-not-comes_before.false

pub returns : goal.returns
returns c = ascended_all (omega arith) c.loop-i.invariant

pub slice_bounds-comes_before-end : goal.slice_bounds-comes_before-end
slice_bounds-comes_before-end c =
    let w = bounds c.requires.0 c.requires.1 c.loop-i.invariant (omega arith) _ _ _ c.begin_at-from.ensures.0 c.end_at-middle.ensures.0 c.end_at-to.ensures.0 in
    omega arith

pub slice_bounds-comes_before-end-in-loop-i : goal.slice_bounds-comes_before-end-in-loop-i
slice_bounds-comes_before-end-in-loop-i c =
    let w = bounds c.requires.0 c.requires.1 c.loop-i.invariant (omega arith) _ _ _ c.begin_at-from.ensures.0 c.end_at-middle.ensures.0 c.end_at-to.ensures.0 in
    omega arith
