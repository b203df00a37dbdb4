-- `marks_carry::judge` meets its contract: the old file does not open, the new one does not, the marks are right or wrong. Assumes nothing.
use Rattle.std.proofs.Common.{◌≡◌, Err, true, false, refl, sym, ap, ◌∙◌, arith}
use Rattle.fst.specs.Open.{opening_is}
use Rattle.marks_held.specs.MarkViews.{marks_is}
use Rattle.marks_carry.specs.MarksCarryLaws.{judged_as}
use Rattle.marks_carry.proofs.judge.Goals as goal

-- the old file does not open
pub returns-in_err-open : goal.returns-in_err-open
returns-in_err-open c =
    let a = c.args in
    let told : c.from_residual.result ≡ Err c.in_err-open.field-0.0 = grind arith in
    rw told (judged_as a.old.now a.new.now (marks_is a.marks) _ _ _ (sym c.open.ensures ∙ ap opening_is c.in_err-open.was) refl refl)

-- the new file does not open
pub returns-in_err-open-2 : goal.returns-in_err-open-2
returns-in_err-open-2 c =
    let a = c.args in
    let told : c.from_residual-in_err-open-2.result ≡ Err c.in_err-open-2.field-0.0 = grind arith in
    rw told (judged_as a.old.now a.new.now (marks_is a.marks) _ _ _ (sym c.open.ensures ∙ ap opening_is c.in_ok-open.was) (sym c.open-2.ensures ∙ ap opening_is c.in_err-open-2.was) refl)

-- the marks are right
pub returns-then-marks_right : goal.returns-then-marks_right
returns-then-marks_right c =
    let a = c.args in
    judged_as a.old.now a.new.now (marks_is a.marks) _ _ true (sym c.open.ensures ∙ ap opening_is c.in_ok-open.was) (sym c.open-2.ensures ∙ ap opening_is c.in_ok-open-2.was)
    (sym c.marks_right.ensures ∙ c.if-marks_right.true)

-- the marks are wrong: STATE
pub returns : goal.returns
returns c =
    let a = c.args in
    judged_as a.old.now a.new.now (marks_is a.marks) _ _ false (sym c.open.ensures ∙ ap opening_is c.in_ok-open.was) (sym c.open-2.ensures ∙ ap opening_is c.in_ok-open-2.was)
    (sym c.marks_right.ensures ∙ c.if-marks_right.false)
