-- `marks_by::next_marked_by` meets its contract: what is judged first refuses, or next answers. Assumes nothing.
use Rattle.std.proofs.Common.{sym, ◌∙◌, length}
use Rattle.marks_held.specs.MarkViews.{marks_is}
use Rattle.marks_by.proofs.MarkByCases.{next_by_refused, next_by_goes}
use Rattle.marks_by.proofs.next_marked_by.Goals as goal

pub returns-in-Err : goal.returns-in-Err
returns-in-Err c =
    let a = c.args in
    next_by_refused a.file.now a.patterned (marks_is a.marks) (length a.key.now) c.in-Err.why (sym c.in-Err.is ∙ c.judge_marks.ensures) a.key.now c.refused.result c.refused.ensures

pub returns-in-Ok : goal.returns-in-Ok
returns-in-Ok c =
    let a = c.args in
    next_by_goes a.file.now a.patterned (marks_is a.marks) (length a.key.now) (sym c.in-Ok.is ∙ c.judge_marks.ensures) c.next.ensures
