-- `ops_turn::step_seen` meets its contract: by the answer of the call of next.
-- Assumes nothing.
use Rattle.std.specs.Prelude.{Err}
use Rattle.std.proofs.Common.{◌≡◌, arith}
use Rattle.ops_turn.specs.PartsLaws.{step_goes_as, step_halts}
use Rattle.ops_turn.proofs.step_seen.Goals as goal

pub returns-in_err-came : goal.returns-in_err-came
returns-in_err-came c =
    let a = c.args in
    let g = c.step_used-step in
    let told : c.from_residual.result ≡ Err c.in_err-came.field-0.0 = grind arith in
    rw told (step_halts a.file.now a.space a.reading g.result g.ensures a.keys.now _ c.in_err-came.was)

pub returns : goal.returns
returns c =
    let a = c.args in
    let g = c.step_used-step in
    let k = c.put_bytes-key in
    step_goes_as a.file.now a.space a.reading g.result g.ensures a.i a.keys.now _ k.result k.ensures _ c.in_ok-came.was c.slot_after-slot.result c.slot_after-slot.ensures
