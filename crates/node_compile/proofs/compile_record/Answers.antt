-- Each form's function answers for the record's bytes.
use Rattle.std.specs.Prelude.{get_or}
use Rattle.std.proofs.Common.{[], refl, sym, arith}
use Rattle.format.specs.CommonInputs.{common_idx}
use Rattle.buffers.specs.PutLaws.{put_nil}
use Rattle.format.specs.Laws.PackedLaws.{packed_nothing, packed_any_is, one_means}
use Rattle.node_compile.specs.Compile.{builder_is}
use Rattle.node_compile.specs.CompileLaws.{fitted_written, fitted_same}
use Rattle.node_compile.specs.OneLaws.{bytes_packed, code_of}
use Rattle.node_compile.proofs.Record.{targets_le}
use Rattle.node_compile.proofs.compile_record.Goals as goal

-- no bytes
pub returns-then-packs_to_nothing : goal.returns-then-packs_to_nothing
returns-then-packs_to_nothing c =
    let a = c.args in
    fitted_same (sym (packed_nothing a.first (builder_is a.node) (sym c.if-packs_to_nothing.ensures)))
    (fitted_written [] a.out.now a.out.now 0 refl (omega arith) (sym (put_nil a.out.now 0)))

-- F is 16 at least, and the target is not above it
pub compile_one-requires : goal.compile_one-requires
compile_one-requires c =
    let a = c.args in
    let one = (one_means (builder_is a.node) (sym c.if-has_one.ensures)).1 in
    (c.requires.first_low, targets_le a.first a.node.targets.now c.requires.targets_ok 0 (omega (arith, one, c.requires.targets_len)))

-- one transition, and not final
pub returns-then-has_one : goal.returns-then-has_one
returns-then-has_one c =
    let a = c.args in
    let b = builder_is a.node in
    fitted_same
    (bytes_packed a.first b (common_idx (get_or b.inputs 0 0)) (get_or b.inputs 0 0) (get_or b.outputs 0 0) (get_or b.targets 0 0) (sym c.if-has_one.ensures)
    (code_of (get_or b.inputs 0 0)) refl refl)
    c.compile_one.ensures

-- the forms 00 and 01
pub returns : goal.returns
returns c =
    let a = c.args in
    fitted_same
    (sym (packed_any_is a.first (builder_is a.node) (sym c.if-packs_to_nothing.ensures) (sym c.if-has_one.ensures)))
    c.compile_any.ensures
