-- `ops_turn::step_cards` meets its contract: one card more has its part.
-- Assumes nothing.
use Rattle.std.specs.Prelude.{Err}
use Rattle.std.proofs.Common.{◌≡◌, refl, arith}
use Rattle.ops_turn.specs.PartsLaws.{at_file}
use Rattle.ops_turn.proofs.StepLoop.{going_step, going_skip, going_halted, going_long, going_all, going_as}
use Rattle.ops_turn.proofs.step_cards.Goals as goal
use Rattle.ops_turn.proofs.step_cards.Goals.{then-is_used+in_ok-step, else-is_used+else-is_long}

pub returns-in_err-step : goal.returns-in_err-step
returns-in_err-step c =
    let l = c.loop-i in
    let step = c.step_seen in
    let by = at_file c.args.files c.args.space l.i _ l.keys _ step.result _ step.ensures refl in
    let told : c.from_residual.result ≡ Err c.in_err-step.field-0.0 = grind arith in
    rw told (going_halted l.invariant c.requires c.loop-i-test.true _ _ (c.is_used.ensures.yes c.if-is_used.true) _ step.result by _ c.in_err-step.was)

pub returns-then-is_long : goal.returns-then-is_long
returns-then-is_long c = going_long c.loop-i.invariant c.requires c.loop-i-test.true _ (c.is_long.ensures.yes c.if-is_long.true)

pub loop-i-preserved : goal.loop-i-preserved
loop-i-preserved c =
    let l = c.loop-i in
    elim c.if-is_used.branch [
      | then-is_used+in_ok-step w ↦
          let step = w.step_seen in
          let by = at_file c.args.files c.args.space l.i _ l.keys _ step.result _ step.ensures refl in
          going_as w.cards-is w.keys-is w.seen-is w.moved-is
          (going_step l.invariant c.requires c.loop-i-test.true _ _ (c.is_used.ensures.yes w.if-is_used.true) _ step.result by _ w.in_ok-step.was)
      | else-is_used+else-is_long w ↦
          going_as w.cards-is w.keys-is w.seen-is w.moved-is
          (going_skip l.invariant c.requires c.loop-i-test.true _ (c.is_used.ensures.no w.if-is_used.false) (w.is_long.ensures.no w.if-is_long.false))
    ]

pub returns : goal.returns
returns c = going_all c.loop-i.invariant c.requires c.loop-i-test.false
