-- `ops_lives::step_lives` meets its contract: one reading more has its part.
-- Assumes nothing.
use Rattle.std.specs.Prelude.{Err}
use Rattle.std.proofs.Common.{◌≡◌, List, ℕ, map, refl, sym, subst, get_or, get_or-set_same, rules, arith}
use Rattle.stream_start.specs.Views.{bound_of}
use Rattle.ops_live.specs.Lives.{Fit, StepGave}
use Rattle.ops_lives.proofs.LiveLoop.{beyond, going_as, going_none, going_step, going_skip, going_halted, going_all, going_fit, at_file}
use Rattle.ops_lives.proofs.step_lives.Goals as goal
use Rattle.ops_lives.proofs.step_lives.Goals.{then-is_used+in_ok-came, else-is_used}

pub loop-i-init : goal.loop-i-init
loop-i-init c =
    let a = c.args in
    going_none (map (λ f. f.now) a.files) a.count (bound_of a.upper) a.lives.now a.keys.now a.seen.now (search rules)

-- the reading can be gone on from
pub step-requires : goal.step-requires
step-requires c =
    let a = c.args in
    let l = c.loop-i in
    subst (λ (f : List ℕ). Fit f (bound_of a.upper) (get_or l.lives l.i beyond)) (at_file a.files l.i _ refl)
    (going_fit l.invariant c.requires.0 c.loop-i-test.true beyond c.requires.1.cards c.requires.1.stand)

-- its step is refused
pub returns-in_err-came : goal.returns-in_err-came
returns-in_err-came c =
    let a = c.args in
    let l = c.loop-i in
    let told : c.from_residual.result ≡ Err c.in_err-came.field-0.0 = grind arith in
    rw told (going_halted l.invariant c.requires.0 c.loop-i-test.true beyond _ (c.is_used.ensures.yes c.if-is_used.true) c.step.new.self c.step.result
    (λ t. subst (λ (f : List ℕ). StepGave f (bound_of a.upper) t (get_or l.lives l.i beyond) c.step.new.self c.step.result) (sym (at_file a.files l.i _ refl)) (c.step.ensures t))
    c.in_err-came.field-0.0 c.in_err-came.was _)

pub loop-i-preserved : goal.loop-i-preserved
loop-i-preserved c =
    let a = c.args in
    let l = c.loop-i in
    elim c.if-is_used.branch [
      | then-is_used+in_ok-came w ↦
          going_as w.lives-is w.keys-is w.seen-is w.moved-is
          (going_step l.invariant c.requires.0 c.loop-i-test.true beyond _ (c.is_used.ensures.yes w.if-is_used.true) w.step.new.self w.step.result
          (λ t. subst (λ (f : List ℕ). StepGave f (bound_of a.upper) t (get_or l.lives l.i beyond) w.step.new.self w.step.result) (sym (at_file a.files l.i _ refl)) (w.step.ensures t))
          w.in_ok-came.came w.in_ok-came.was _ w.put_key-key.result
          (rw (get_or-set_same l.lives l.i w.step.new.self _ (omega (arith, l.invariant.eight, c.loop-i-test.true, c.requires.0))) at w.put_key-key.ensures)
          w.slot_after-slot.result w.slot_after-slot.ensures)
      | else-is_used w ↦
          going_as w.lives-is w.keys-is w.seen-is w.moved-is (going_skip l.invariant c.requires.0 c.loop-i-test.true beyond _ (c.is_used.ensures.no w.if-is_used.false))
    ]

pub returns : goal.returns
returns c = going_all c.loop-i.invariant c.requires.0 c.loop-i-test.false
