-- `marks::judge_marks` meets its contract: the file does not open, or the marks are right or wrong. Assumes nothing.
use Rattle.std.proofs.Common.{◌≡◌, Err, true, false, refl, sym, ap, ◌∙◌, arith}
use Rattle.fst.specs.Open.{opening_is}
use Rattle.marks_held.specs.MarkViews.{marks_is}
use Rattle.marks.specs.MarkAnswersLaws.{marks_judged_as}
use Rattle.marks.proofs.judge_marks.Goals as goal

-- the file does not open
pub returns-in_err-open : goal.returns-in_err-open
returns-in_err-open c =
    let a = c.args in
    let told : c.from_residual.result ≡ Err c.in_err-open.field-0.0 = grind arith in
    rw told (marks_judged_as a.file.now (marks_is a.marks) _ _ (sym c.open.ensures ∙ ap opening_is c.in_err-open.was) refl)

-- the marks are right
pub returns-then-marks_right : goal.returns-then-marks_right
returns-then-marks_right c =
    let a = c.args in
    marks_judged_as a.file.now (marks_is a.marks) _ true (sym c.open.ensures ∙ ap opening_is c.in_ok-open.was) (sym c.marks_right.ensures ∙ c.if-marks_right.true)

-- one is wrong: STATE
pub returns : goal.returns
returns c =
    let a = c.args in
    marks_judged_as a.file.now (marks_is a.marks) _ false (sym c.open.ensures ∙ ap opening_is c.in_ok-open.was) (sym c.marks_right.ensures ∙ c.if-marks_right.false)
