-- `marks::judge` meets its contract: what is judged of the marks alone refuses, or the reading is right or wrong. Assumes nothing.
use Rattle.std.proofs.Common.{◌≡◌, Err, true, false, sym, ◌∙◌, arith}
use Rattle.stream.specs.Plains.{plain_is}
use Rattle.marks_held.specs.MarkViews.{marks_is}
use Rattle.marks.specs.MarkAnswersLaws.{judged_no, judged_as}
use Rattle.marks.proofs.MarkCases.{state_is_lem}
use Rattle.marks.proofs.judge.Goals as goal

-- the file does not open, or a mark is wrong
pub returns-in_err-judge_marks : goal.returns-in_err-judge_marks
returns-in_err-judge_marks c =
    let a = c.args in
    let told : c.from_residual.result ≡ Err c.in_err-judge_marks.field-0.0 = grind arith in
    rw told (judged_no a.file.now (plain_is a.reading) (marks_is a.marks) _ (sym c.in_err-judge_marks.was ∙ c.judge_marks.ensures))

-- the reading is right too
pub returns-then-state_right : goal.returns-then-state_right
returns-then-state_right c =
    let a = c.args in
    judged_as a.file.now (plain_is a.reading) (marks_is a.marks) true (sym c.in_ok-judge_marks.was ∙ c.judge_marks.ensures)
    (state_is_lem a.reading.reading _ ∙ sym c.state_right.ensures ∙ c.if-state_right.true)

-- it is wrong: STATE
pub returns : goal.returns
returns c =
    let a = c.args in
    judged_as a.file.now (plain_is a.reading) (marks_is a.marks) false (sym c.in_ok-judge_marks.was ∙ c.judge_marks.ensures)
    (state_is_lem a.reading.reading _ ∙ sym c.state_right.ensures ∙ c.if-state_right.false)
