-- `patterned::start` meets its contract: over 255 positions, or a start without pattern.
-- Assumes nothing.
use Rattle.std.proofs.Common.{◌≡◌, Err, arith, ap, sym, ◌∙◌}
use Rattle.fst.specs.Open.{meta_is, opening_is}
use Rattle.stream_start.specs.Views.{bound_of}
use Rattle.patterned.proofs.StartByLaws.{refused_open, refused_many, refused_start, started_by}
use Rattle.patterned.proofs.start.Goals as goal

-- the file does not open
pub returns-in_err-open : goal.returns-in_err-open
returns-in_err-open c =
    let a = c.args in
    let told : c.from_residual.result ≡ Err c.in_err-open.field-0.0 = grind arith in
    rw told (refused_open a.file.now a.positions.now a.rest (bound_of a.lower) (bound_of a.upper) _ (sym c.open.ensures ∙ ap opening_is c.in_err-open.was))

-- over 255 positions
pub returns-then-too_many : goal.returns-then-too_many
returns-then-too_many c =
    let a = c.args in
    refused_many a.file.now a.positions.now a.rest (bound_of a.lower) (bound_of a.upper) (meta_is c.in_ok-open.field-0)
    (sym c.open.ensures ∙ ap opening_is c.in_ok-open.was) (omega arith)

-- a start without pattern is refused
pub returns-in_err-reading : goal.returns-in_err-reading
returns-in_err-reading c =
    let a = c.args in
    let told : c.from_residual-in_err-reading.result ≡ Err c.in_err-reading.field-0.0 = grind arith in
    rw told (refused_start a.file.now a.positions.now a.rest (bound_of a.lower) (bound_of a.upper) (omega arith) c.start.result c.start.ensures _ c.in_err-reading.was)

-- the positions are held beside the reading of a start without pattern
pub returns : goal.returns
returns c =
    let a = c.args in
    started_by a.file.now a.positions.now a.rest (bound_of a.lower) (bound_of a.upper) (omega arith) c.start.result c.start.ensures c.in_ok-reading.reading c.in_ok-reading.was
    c.hold.result c.hold.ensures
