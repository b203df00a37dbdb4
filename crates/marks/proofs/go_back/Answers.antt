-- `marks::go_back` meets its contract: what is judged first refuses, or the name decides. Assumes nothing.
use Rattle.std.proofs.Common.{◌≡◌, Err, sym, ◌∙◌, arith}
use Rattle.stream.specs.Plains.{plain_is}
use Rattle.marks_held.specs.MarkViews.{marks_is}
use Rattle.marks.specs.MarkAnswersLaws.{judged_few}
use Rattle.marks.proofs.MarkCases.{back_refused, back_taken}
use Rattle.marks.proofs.go_back.Goals as goal

pub returns-in_err-judge : goal.returns-in_err-judge
returns-in_err-judge c =
    let a = c.args in
    let told : c.from_residual.result ≡ Err c.in_err-judge.field-0.0 = grind arith in
    rw told (back_refused a.file.now (plain_is a.reading) (marks_is a.marks) a.name.now _ (sym c.in_err-judge.was ∙ c.judge.ensures))

pub take_back-requires : goal.take_back-requires
take_back-requires c = judged_few c.args.file.now (plain_is c.args.reading) c.args.marks (sym c.in_ok-judge.was ∙ c.judge.ensures)

pub returns : goal.returns
returns c =
    let a = c.args in
    c.take_back.ensures ∙ back_taken a.file.now (plain_is a.reading) (marks_is a.marks) a.name.now (sym c.in_ok-judge.was ∙ c.judge.ensures)
