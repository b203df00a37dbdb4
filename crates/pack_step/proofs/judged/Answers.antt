-- What is judged before the run, in its order.
-- Assumes nothing.
use Rattle.std.proofs.Common.{length, sym, ◌∙◌, arith}
use Rattle.pack_blank.specs.PackBlank.{tables_test}
use Rattle.pack_step.specs.StandingLaws.{judged_list, judged_tables, judged_cells, judged_room}
use Rattle.pack_step.proofs.judged.Goals as goal
use Rattle.pack_step.proofs.judged.Goals.{then-not-tables_fit-via-then-not-tables_fit, then-not-tables_fit-via-else-not-tables_fit+then-cells-lt2, then-not-tables_fit-via-else-not-tables_fit+else-cells-lt2+then-room-lt32}

pub returns-then-not-judge_list : goal.returns-then-not-judge_list
returns-then-not-judge_list c =
    let a = c.args in
    judged_list a.list.now (tables_test (length a.tables.now.inputs.now) (length a.tables.now.leasts.now) (length a.tables.now.targets.now)) a.cells a.room (c.judge_list.ensures.no c.if-not-judge_list.true)

pub returns-then-not-tables_fit : goal.returns-then-not-tables_fit
returns-then-not-tables_fit c =
    let a = c.args in
    let ok = c.judge_list.ensures.yes c.if-not-judge_list.false in
    let T = tables_test (length a.tables.now.inputs.now) (length a.tables.now.leasts.now) (length a.tables.now.targets.now) in
    elim c.then-not-tables_fit.branch [
      | then-not-tables_fit-via-then-not-tables_fit w ↦ judged_tables a.list.now T a.cells a.room ok (sym c.tables_fit.ensures ∙ w.if-not-tables_fit.true)
      | then-not-tables_fit-via-else-not-tables_fit+then-cells-lt2 w ↦
          judged_cells a.list.now T a.cells a.room ok (sym c.tables_fit.ensures ∙ w.if-not-tables_fit.false) w.if-cells-lt2.true
      | then-not-tables_fit-via-else-not-tables_fit+else-cells-lt2+then-room-lt32 w ↦
          judged_room a.list.now T a.cells a.room ok (sym c.tables_fit.ensures ∙ w.if-not-tables_fit.false) (omega (arith, w.if-cells-lt2.false)) w.if-room-lt32.true
    ]
