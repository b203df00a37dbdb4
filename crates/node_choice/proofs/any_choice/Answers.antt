-- As many outputs as fit lead, and the last of them is the transition: its place is below the number of transitions.
use Rattle.std.proofs.Common.{refl, arith, ◌-◌}
use Rattle.node.specs.AccessorLaws.{input_any, delta_le}
use Rattle.node_choice.specs.FitOfLaws.{choice_none, choice_to}
use Rattle.node_choice.proofs.any_choice.Goals as goal

pub returns-then-count-eq0 : goal.returns-then-count-eq0
returns-then-count-eq0 c = choice_none c.args.file.now _ c.requires c.args.left c.fitting-count.result c.if-count-eq0.true c.fitting-count.ensures.leading

pub target_of-addr-requires : goal.target_of-addr-requires
target_of-addr-requires c =
    delta_le c.args.file.now _ c.requires (c.fitting-count.result - 1) (omega arith) c.number_of-delta.result (rw c.deltas.ensures at c.number_of-delta.ensures)

pub returns : goal.returns
returns c =
    let a = c.args in
    let s = a.file.now in
    let k = c.fitting-count.result in
    let is_delta = rw c.deltas.ensures at c.number_of-delta.ensures in
    choice_to s _ c.requires a.left k _ c.number_of-out.result c.target_of-addr.result c.if-count-eq0.false c.fitting-count.ensures.leading
    (rw c.inputs.ensures (input_any s _ c.requires (k - 1) (omega arith) refl)) c.number_of-out.ensures (rw (← is_delta) c.target_of-addr.ensures)
