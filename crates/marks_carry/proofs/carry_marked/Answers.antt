-- `marks_carry::carry_marked` meets its contract: what was judged refuses, or the reading is carried. Assumes nothing.
use Rattle.std.proofs.Common.{◌≡◌, Err, arith, sym, ◌∙◌}
use Rattle.marks_held.specs.MarkViews.{marks_is}
use Rattle.marks_carry.proofs.MarkCarryCases.{plain_refused, plain_right}
use Rattle.marks_carry.proofs.carry_marked.Goals as goal

pub returns-in_err-judge : goal.returns-in_err-judge
returns-in_err-judge c =
    let a = c.args in
    let told : c.from_residual.result ≡ Err c.in_err-judge.field-0.0 = grind arith in
    rw told (plain_refused a.old.now a.new.now (marks_is a.marks) a.reading _ (sym c.in_err-judge.was ∙ c.judge.ensures))

pub returns : goal.returns
returns c =
    let a = c.args in
    plain_right a.old.now a.new.now (marks_is a.marks) a.reading (sym c.in_ok-judge.was ∙ c.judge.ensures) _ c.carry.ensures
