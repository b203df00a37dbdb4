-- `marks_by::judge` meets its contract: what marks::judge refuses, then the pattern. Assumes nothing.
use Rattle.std.proofs.Common.{◌≡◌, Err, true, false, refl, sym, ap, ◌∙◌, arith}
use Rattle.stream_start.specs.Views.{view_is}
use Rattle.patterned_held.specs.HeldPatterns.{held_is}
use Rattle.marks_held.specs.MarkViews.{marks_is}
use Rattle.marks.specs.MarkAnswers.{judging}
use Rattle.marks_by.proofs.MarkByCases.{pattern_right, pattern_wrong, judged_by}
use Rattle.marks_by.proofs.judge.Goals as goal

pub returns-in_err-judge : goal.returns-in_err-judge
returns-in_err-judge c =
    let a = c.args in
    let told : c.from_residual.result ≡ Err c.in_err-judge.field-0.0 = grind arith in
    rw told (judged_by a.file.now (held_is a.patterned.pattern) (view_is a.patterned.reading) (marks_is a.marks) _ _ refl (sym c.in_err-judge.was ∙ c.judge.ensures ∙ ap (λ p. judging a.file.now p (marks_is a.marks)) c.inside.ensures))

pub returns-then-patterned-gt-MAX_KEY : goal.returns-then-patterned-gt-MAX_KEY
returns-then-patterned-gt-MAX_KEY c =
    let a = c.args in
    judged_by a.file.now (held_is a.patterned.pattern) (view_is a.patterned.reading) (marks_is a.marks) false _ (pattern_wrong a.patterned.pattern c.if-patterned-gt-MAX_KEY.true)
    (sym c.in_ok-judge.was ∙ c.judge.ensures ∙ ap (λ p. judging a.file.now p (marks_is a.marks)) c.inside.ensures)

pub returns : goal.returns
returns c =
    let a = c.args in
    judged_by a.file.now (held_is a.patterned.pattern) (view_is a.patterned.reading) (marks_is a.marks) true _ (pattern_right a.patterned.pattern c.if-patterned-gt-MAX_KEY.false)
    (sym c.in_ok-judge.was ∙ c.judge.ensures ∙ ap (λ p. judging a.file.now p (marks_is a.marks)) c.inside.ensures)
