-- A list that is refused is refused before any key is opened; otherwise keys are opened until a node is due.
-- Assumes nothing.
use Rattle.std.proofs.Common.{length, refl}
use Rattle.std.proofs.lemmas.Result.{err_from_is_err_and}
use Rattle.pack_blank.specs.PackBlank.{tables_test}
use Rattle.pack_step.specs.StandingLaws.{begin_refused, begin_started, begin_asked, begin_stands}
use Rattle.pack_step.proofs.begin.Goals as goal

pub returns-in_err-judged : goal.returns-in_err-judged
returns-in_err-judged c =
    let a = c.args in
    let p = err_from_is_err_and c.from_residual.result c.from_residual.ensures.1 in
    (rw (p.1, p.2) (begin_refused a.list.now (tables_test (length a.tables.now.inputs.now) (length a.tables.now.leasts.now) (length a.tables.now.targets.now)) a.cells a.room c.judged.ensures c.in_err-judged.was), refl)

pub ahead-way-requires : goal.ahead-way-requires
ahead-way-requires c =
    let a = c.args in
    let z = c.judged.ensures.sound c.in_ok-judged.was in
    (z.0.list, begin_started a.list.now a.cells a.room a.tables.now.inputs.now a.tables.now.leasts.now a.tables.now.targets.now a.tables.now.nodes z.0 z.1 c.requires)

pub row_next-row-requires : goal.row_next-row-requires
row_next-row-requires c =
    let a = c.args in
    let z = c.judged.ensures.sound c.in_ok-judged.was in
    begin_asked a.list.now a.cells a.room a.tables.now.inputs.now a.tables.now.leasts.now a.tables.now.targets.now a.tables.now.nodes z.0 z.1 c.requires c.ahead-way.ensures

pub returns : goal.returns
returns c =
    let a = c.args in
    let z = c.judged.ensures.sound c.in_ok-judged.was in
    (begin_stands a.list.now a.cells a.room a.tables.now.inputs.now a.tables.now.leasts.now a.tables.now.targets.now a.tables.now.nodes z.0 z.1 c.requires c.ahead-way.ensures c.row_next-row.ensures, refl)
