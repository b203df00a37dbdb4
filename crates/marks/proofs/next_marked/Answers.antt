-- `marks::next_marked` meets its contract: what is judged first refuses, or next answers. Assumes nothing.
use Rattle.std.proofs.Common.{sym, ◌∙◌, length}
use Rattle.marks_held.specs.MarkViews.{marks_is}
use Rattle.marks.proofs.MarkCases.{next_refused, next_goes}
use Rattle.marks.proofs.next_marked.Goals as goal

pub returns-in-Err : goal.returns-in-Err
returns-in-Err c =
    let a = c.args in
    next_refused a.file.now a.reading (marks_is a.marks) (length a.key.now) c.in-Err.why (sym c.in-Err.is ∙ c.judge_marks.ensures) a.key.now _ (search c.refused.ensures)

pub returns-in-Ok : goal.returns-in-Ok
returns-in-Ok c =
    let a = c.args in
    next_goes a.file.now a.reading (marks_is a.marks) (length a.key.now) (sym c.in-Ok.is ∙ c.judge_marks.ensures) c.next.ensures
