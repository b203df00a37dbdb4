-- A turn takes base from a number more, which is not less.
-- Assumes nothing.
use Rattle.std.proofs.Common.{◌≡◌, ◌+◌, inr, rules, arith}
use Rattle.pack_finish.specs.LeastLaws.{lessened_none, lessened_step, lessened_all}
use Rattle.pack_finish.proofs.subtract.Goals as goal

pub loop-number-init : goal.loop-number-init
loop-number-init c = lessened_none _ _ _

pub overflow_sub-number : goal.overflow_sub-number
overflow_sub-number c =
    let same = c.loop-number.invariant.rest c.loop-number.number-index (inr (omega arith)) in
    let high = c.requires.high c.loop-number.number-index (omega arith) in
    search rules

pub loop-number-preserved : goal.loop-number-preserved
loop-number-preserved c =
    let e : 0 + c.loop-number.number-index ≡ c.loop-number.number-index = omega arith in
    rw e at (lessened_step c.loop-number.invariant (omega arith))

pub returns : goal.returns
returns c = lessened_all (omega arith) c.loop-number.invariant
