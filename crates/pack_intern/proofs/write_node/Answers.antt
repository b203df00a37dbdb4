-- The packer's answer decides.
-- Assumes nothing.
use Rattle.std.proofs.Common.{◌≡◌, ◌+◌, ◌≤◌, length, rules, arith}
use Rattle.std.specs.Prelude.{Ok}
use Rattle.std.proofs.lemmas.List.{get_or_default}
use Rattle.node_compile.specs.Compile.{builder_is}
use Rattle.pack_intern.specs.InterningLaws.{fitted_len, wrote, has_no_len}
use Rattle.pack_intern.proofs.write_node.Goals as goal

-- what was written lies within the output
pub overflow_add-next : goal.overflow_add-next
overflow_add-next c =
    let a = c.args in
    let e : c.compile_record.result ≡ Ok c.in_ok-len.len = grind arith in
    let p = fitted_len a.output.now a.first a.cells.now c.requires.ready (builder_is a.node)
    _ c.compile_record.result c.in_ok-len.len c.compile_record.ensures e in
    let w : a.first + c.in_ok-len.len ≤ length a.output.now = omega (arith, p.0, p.1, c.requires.ready.laid.high) in
    search rules

pub returns : goal.returns
returns c =
    let a = c.args in
    let e : c.compile_record.result ≡ Ok c.in_ok-len.len = grind arith in
    wrote a.output.now a.first a.cells.now c.requires.ready (builder_is a.node) a.i a.own_hash c.requires
    _ c.compile_record.result c.in_ok-len.len c.compile_record.ensures e (get_or_default a.cells.now a.i _ _ (omega (arith, c.requires.low))) c.put_row.auto.cells c.put_row.ensures

pub returns-in_err-len : goal.returns-in_err-len
returns-in_err-len c =
    let a = c.args in
    rw c.from_residual.ensures
    (has_no_len a.output.now a.first a.cells.now c.requires.ready (builder_is a.node) _ c.compile_record.result c.compile_record.ensures c.in_err-len.ensures.value)
