-- `marks_carry::carry_marked_by` meets its contract: what was judged refuses, or the reading is carried. Assumes nothing.
use Rattle.std.proofs.Common.{◌≡◌, Err, arith, sym, ◌∙◌}
use Rattle.marks_held.specs.MarkViews.{marks_is}
use Rattle.marks_carry.proofs.MarkCarryCases.{patterned_refused, patterned_right}
use Rattle.marks_carry.proofs.carry_marked_by.Goals as goal

pub returns-in_err-judge : goal.returns-in_err-judge
returns-in_err-judge c =
    let a = c.args in
    let told : c.from_residual.result ≡ Err c.in_err-judge.field-0.0 = grind arith in
    rw told (patterned_refused a.old.now a.new.now (marks_is a.marks) a.patterned _ (sym c.in_err-judge.was ∙ c.judge.ensures))

pub returns : goal.returns
returns c =
    let a = c.args in
    patterned_right a.old.now a.new.now (marks_is a.marks) a.patterned (sym c.in_ok-judge.was ∙ c.judge.ensures) _ c.carry_by.ensures
