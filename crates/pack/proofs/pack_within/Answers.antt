-- What the end leaves is what packing leaves: the cells are emptied after a refusal, and else stay.
-- Assumes nothing.
use Rattle.std.proofs.Common.{length, refl, sym, ◌∙◌}
use Rattle.pack_blank.specs.PackBlank.{tables_test}
use Rattle.pack.specs.PackListLaws.{packs_cells}
use Rattle.pack.proofs.pack_within.Goals as goal

pub returns-then-is_err : goal.returns-then-is_err
returns-then-is_err c =
    let a = c.args in
    packs_cells a.limit a.list.now (tables_test (length a.inputs.now) (length a.leasts.now) (length a.targets.now)) (length a.cells.now)
    (length a.output.now) c.empty_cells.auto.cells c.fill.auto.self c.run-root.new.cells c.empty_cells-then-is_err.new.cells (length c.run-root.new.inputs)
    (length c.run-root.new.leasts) (length c.run-root.new.targets) c.run-root.ensures c.run-root.auto.output c.finish-answer.ensures
    (sym c.if-is_err.true ∙ c.is_err.ensures.value) c.empty_cells-then-is_err.ensures
    c.empty_cells-then-is_err.auto.cells (c.fill-2.ensures.after (λ y e. e)) (c.fill-3.ensures.after (λ y e. e)) (c.fill-4.ensures.after (λ y e. e))

pub returns-else-is_err : goal.returns-else-is_err
returns-else-is_err c =
    let a = c.args in
    packs_cells a.limit a.list.now (tables_test (length a.inputs.now) (length a.leasts.now) (length a.targets.now)) (length a.cells.now)
    (length a.output.now) c.empty_cells.auto.cells c.fill.auto.self c.run-root.new.cells c.run-root.new.cells (length c.run-root.new.inputs)
    (length c.run-root.new.leasts) (length c.run-root.new.targets) c.run-root.ensures c.run-root.auto.output c.finish-answer.ensures
    (sym c.if-is_err.false ∙ c.is_err.ensures.value) refl
    refl (c.fill-2.ensures.after (λ y e. e)) (c.fill-3.ensures.after (λ y e. e)) (c.fill-4.ensures.after (λ y e. e))
