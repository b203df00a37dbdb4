-- `marks_by::mark_by` meets its contract: what is judged first refuses, or the mark is set. Assumes nothing.
use Rattle.std.proofs.Common.{◌≡◌, Err, sym, ap, ◌∙◌, arith}
use Rattle.plain.specs.Plain.{plain_with}
use Rattle.stream_start.specs.Views.{view_is}
use Rattle.patterned_held.specs.HeldPatterns.{held_is}
use Rattle.marks_held.specs.MarkViews.{marks_is}
use Rattle.marks.specs.MarkAnswers.{set_in}
use Rattle.marks.specs.MarkAnswersLaws.{judged_few}
use Rattle.marks_by.proofs.MarkByCases.{passed_by, mark_by_refused, mark_by_set}
use Rattle.marks_by.proofs.mark_by.Goals as goal

pub returns-in_err-judge : goal.returns-in_err-judge
returns-in_err-judge c =
    let a = c.args in
    let told : c.from_residual.result ≡ Err c.in_err-judge.field-0.0 = grind arith in
    rw told (mark_by_refused a.file.now (held_is a.patterned.pattern) (view_is a.patterned.reading) (marks_is a.marks) a.name.now _ (sym c.in_err-judge.was ∙ c.judge.ensures))

pub set_mark-requires : goal.set_mark-requires
set_mark-requires c =
    let a = c.args in
    judged_few a.file.now (plain_with (view_is a.patterned.reading) 0) a.marks
    (passed_by a.file.now (held_is a.patterned.pattern) (view_is a.patterned.reading) (marks_is a.marks) (sym c.in_ok-judge.was ∙ c.judge.ensures))

pub returns : goal.returns
returns c =
    let a = c.args in
    c.set_mark.ensures ∙ ap (λ p. set_in p (marks_is a.marks) a.name.now) c.inside.ensures
    ∙ mark_by_set a.file.now (held_is a.patterned.pattern) (view_is a.patterned.reading) (marks_is a.marks) a.name.now (sym c.in_ok-judge.was ∙ c.judge.ensures)
