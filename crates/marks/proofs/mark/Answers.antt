-- `marks::mark` meets its contract: what is judged first refuses, or the name decides. Assumes nothing.
use Rattle.std.proofs.Common.{◌≡◌, Err, sym, ◌∙◌, arith}
use Rattle.stream.specs.Plains.{plain_is}
use Rattle.marks_held.specs.MarkViews.{marks_is}
use Rattle.marks.specs.MarkAnswersLaws.{judged_few}
use Rattle.marks.proofs.MarkCases.{mark_refused, mark_set}
use Rattle.marks.proofs.mark.Goals as goal

pub returns-in_err-judge : goal.returns-in_err-judge
returns-in_err-judge c =
    let a = c.args in
    let told : c.from_residual.result ≡ Err c.in_err-judge.field-0.0 = grind arith in
    rw told (mark_refused a.file.now (plain_is a.reading) (marks_is a.marks) a.name.now _ (sym c.in_err-judge.was ∙ c.judge.ensures))

pub set_mark-requires : goal.set_mark-requires
set_mark-requires c = judged_few c.args.file.now (plain_is c.args.reading) c.args.marks (sym c.in_ok-judge.was ∙ c.judge.ensures)

pub returns : goal.returns
returns c =
    let a = c.args in
    c.set_mark.ensures ∙ mark_set a.file.now (plain_is a.reading) (marks_is a.marks) a.name.now (sym c.in_ok-judge.was ∙ c.judge.ensures)
