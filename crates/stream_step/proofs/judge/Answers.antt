-- The file does not open, the reading cannot go on with it, or it can.
use Rattle.std.proofs.Common.{◌≡◌, Err, sym, ap, ◌∙◌, arith}
use Rattle.fst.specs.Open.{meta_is, opening_is}
use Rattle.stream_step.specs.JudgedLaws.{judged_shut, judged_state, judged_right}
use Rattle.stream_step.proofs.judge.Goals as goal

-- the file does not open
pub returns-in_err-m : goal.returns-in_err-m
returns-in_err-m c =
    let a = c.args in
    let told : c.from_residual.result ≡ Err c.in_err-m.field-0.0 = grind arith in
    rw told (judged_shut a.file.now a.reading.now _ (sym c.open.ensures ∙ ap opening_is c.in_err-m.was))

-- the reading cannot go on with this file
pub returns-then-not-state_right : goal.returns-then-not-state_right
returns-then-not-state_right c =
    let a = c.args in
    judged_state a.file.now a.reading.now (meta_is c.in_ok-m.m) (sym c.open.ensures ∙ ap opening_is c.in_ok-m.was) (sym c.state_right.ensures ∙ c.if-not-state_right.true)

pub returns : goal.returns
returns c =
    let a = c.args in
    rw c.over.ensures
    (judged_right a.file.now a.reading.now (meta_is c.in_ok-m.m) (sym c.open.ensures ∙ ap opening_is c.in_ok-m.was) (sym c.state_right.ensures ∙ c.if-not-state_right.false))
