-- RECORD is judged first, and then the record's bytes decide.
use Rattle.std.proofs.Common.{refl}
use Rattle.format.specs.Packed.{packed}
use Rattle.node_compile.specs.Compile.{builder_is}
use Rattle.node_compile.specs.Parts.{fits_of}
use Rattle.node_compile.specs.CompileLaws.{compiles_record, compiles_fitted}
use Rattle.node_compile.proofs.compile.Goals as goal

-- RECORD
pub returns-then-not-record_ok : goal.returns-then-not-record_ok
returns-then-not-record_ok c =
    let a = c.args in
    compiles_record a.first (builder_is a.node) a.out.now
    (c.record_ok.ensures.no c.if-not-record_ok.true)

-- RECORD has nothing to refuse
pub compile_record-requires : goal.compile_record-requires
compile_record-requires c = fits_of (c.record_ok.ensures.yes c.if-not-record_ok.false)

pub returns : goal.returns
returns c =
    let a = c.args in
    let node = builder_is a.node in
    compiles_fitted a.first node a.out.now (packed a.first node) c.compile_record.new.out c.compile_record.result
    (record { input_lt = λ i l. c.are_numbers.ensures.1 i; output_lt = λ i l. c.are_numbers.ensures.2 i; final_lt = c.are_numbers.ensures.0 })
    (c.record_ok.ensures.yes c.if-not-record_ok.false) refl c.compile_record.ensures
