-- No key is left, or one is found.
-- Assumes nothing.
use Rattle.std.proofs.Common.{◌+◌, ◌-◌, ◌∙◌, arith, sym}
use Rattle.patterned_pending.proofs.StepByCases.{ended_is, found_is, walks_is, inputs_copied, after_ended, after_found}
use Rattle.patterned_pending.proofs.walk.Goals as goal

pub returns-in_default : goal.returns-in_default
returns-in_default c =
    let a = c.args in
    let g = c.in-Ok.walked in
    let h = walks_is c.walk_by.ensures (c.in-Ok.is ∙ ended_is g c.in_default.is) in
    after_ended a.reading _ a.key.now g.total (sym h.seen) c.ended.result (c.ended.ensures a.key.now)

pub returns : goal.returns
returns c =
    let a = c.args in
    let g = c.in-Ok.walked in
    let k = c.in-Some.k in
    let h = walks_is c.walk_by.ensures (c.in-Ok.is ∙ found_is g _ c.in-Some.is) in
    rw c.found.ensures
    (after_found a.reading _ k c.in-Some.value g.total _ a.key.now _ (sym h.seen) (omega (arith, h.low, h.inps_len))
    (inputs_copied c.walk_by.new.stack.inps c.copy_from_slice.new.self (k + 1 - 1) k a.key.now (omega arith) c.copy_from_slice.ensures.after))
