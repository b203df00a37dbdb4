-- `marks_by::go_back_by` meets its contract: what is judged first refuses, the name does, or the reading stands beside the pattern. Assumes nothing.
use Rattle.std.proofs.Common.{◌≡◌, Err, sym, ap, ◌∙◌, arith}
use Rattle.plain.specs.Plain.{plain_with}
use Rattle.stream_start.specs.Views.{view_is}
use Rattle.patterned_held.specs.HeldPatterns.{held_is}
use Rattle.marks_held.specs.MarkViews.{marks_is}
use Rattle.marks.specs.MarkAnswers.{return_is}
use Rattle.marks.specs.MarkAnswersLaws.{judged_few}
use Rattle.marks_by.proofs.MarkByCases.{passed_by, back_by_refused, back_by_taken, return_refused, returned}
use Rattle.marks_by.proofs.go_back_by.Goals as goal

pub returns-in_err-judge : goal.returns-in_err-judge
returns-in_err-judge c =
    let a = c.args in
    let told : c.from_residual.result ≡ Err c.in_err-judge.field-0.0 = grind arith in
    rw told (return_refused a.patterned _ (back_by_refused a.file.now (held_is a.patterned.pattern) (view_is a.patterned.reading) (marks_is a.marks) a.name.now _ (sym c.in_err-judge.was ∙ c.judge.ensures)))

pub take_back-requires : goal.take_back-requires
take_back-requires c =
    let a = c.args in
    judged_few a.file.now (plain_with (view_is a.patterned.reading) 0) a.marks
    (passed_by a.file.now (held_is a.patterned.pattern) (view_is a.patterned.reading) (marks_is a.marks) (sym c.in_ok-judge.was ∙ c.judge.ensures))

pub returns-in_err-back : goal.returns-in_err-back
returns-in_err-back c =
    let a = c.args in
    let told : c.from_residual-in_err-back.result ≡ Err c.in_err-back.field-0.0 = grind arith in
    rw told
    (return_refused a.patterned _
    (sym (ap return_is c.in_err-back.was) ∙ c.take_back.ensures ∙ back_by_taken a.file.now (held_is a.patterned.pattern) (view_is a.patterned.reading) (marks_is a.marks) a.name.now (sym c.in_ok-judge.was ∙ c.judge.ensures)))

pub returns : goal.returns
returns c =
    let a = c.args in
    returned a.patterned c.in_ok-back.back
    (sym (ap return_is c.in_ok-back.was) ∙ c.take_back.ensures ∙ back_by_taken a.file.now (held_is a.patterned.pattern) (view_is a.patterned.reading) (marks_is a.marks) a.name.now (sym c.in_ok-judge.was ∙ c.judge.ensures))
