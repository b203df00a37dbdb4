-- `Live::step` meets its contract: by the answer of the turn, and whether a key is to come.
-- Assumes nothing.
use Rattle.std.specs.Prelude.{Err}
use Rattle.std.proofs.Common.{◌≡◌, arith}
use Rattle.stream_start.specs.Views.{bound_of}
use Rattle.ops_live.proofs.StepCases.{step_stops, step_over, step_none_left, step_key}
use Rattle.ops_live.proofs.Live.step.Goals as goal

-- the turn is refused
pub returns-in_err-value : goal.returns-in_err-value
returns-in_err-value c =
    let a = c.args in
    let told : c.from_residual.result ≡ Err c.in_err-value.field-0.0 = grind arith in
    rw told (λ t. step_stops a.file.now (bound_of a.upper) t a.self.now _ c.in_err-value.field-0.0 (rw c.in_err-value.was at c.turn.ensures t))

-- no key is left
pub returns-in_default : goal.returns-in_default
returns-in_default c = λ t.
    let a = c.args in
    step_over a.file.now (bound_of a.upper) t a.self.now _ (rw (c.in_ok-value.was, c.in_default.is) at c.turn.ensures t)

-- a key, and none is to come
pub returns-then-self-eq0 : goal.returns-then-self-eq0
returns-then-self-eq0 c = λ t.
    let a = c.args in
    step_none_left a.file.now (bound_of a.upper) t a.self.now _ c.in-Some.value (rw (c.in_ok-value.was, c.in-Some.is) at c.turn.ensures t) c.if-self-eq0.true

-- a key
pub returns : goal.returns
returns c = λ t.
    let a = c.args in
    step_key a.file.now (bound_of a.upper) t a.self.now _ c.in-Some.value (rw (c.in_ok-value.was, c.in-Some.is) at c.turn.ensures t) c.if-self-eq0.false
