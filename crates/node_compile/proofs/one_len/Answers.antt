use Rattle.std.proofs.Common.{arith, sym, ◌∙◌}
use Rattle.format.specs.Laws.PackedLaws.{output_size_le}
use Rattle.node_compile.specs.StateLaws.{length_state, length_one}
use Rattle.node_compile.proofs.one_len.Goals as goal

pub overflow_add-result : goal.overflow_add-result
overflow_add-result c = omega (arith, output_size_le c.args.output, c.pack_size.ensures.high)

pub overflow_add-result-2 : goal.overflow_add-result-2
overflow_add-result-2 c = omega (arith, output_size_le c.args.output, c.pack_size.ensures.high)

pub overflow_add-result-3 : goal.overflow_add-result-3
overflow_add-result-3 c = omega (arith, output_size_le c.args.output, c.pack_size.ensures.high)

-- the form 11
pub returns-then-leads_next : goal.returns-then-leads_next
returns-then-leads_next c =
    let k = c.args.kept in
    rw (sym c.if-leads_next.ensures) (c.state_len-head.ensures.0 ∙ length_state 0 k.idx 0 192 k.input)

-- the form 10
pub returns : goal.returns
returns c =
    let a = c.args in
    let k = a.kept in
    let head = length_state 0 k.idx 0 128 k.input in
    rw (sym c.leads_next.ensures ∙ c.if-leads_next.false, ← c.delta_of-delta.ensures)
    (omega (arith, length_one k.idx k.input a.output c.delta_of-delta.result, c.pack_size.ensures.is))
