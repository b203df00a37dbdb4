-- The node is not sound, or the answer is that of the node with these parts.
use Rattle.std.proofs.Common.{◌≡◌, arith}
use Rattle.std.specs.Prelude.{Err}
use Rattle.node_way.specs.FormLaws.{any_judged, any_readable}
use Rattle.node_way.specs.StepOfLaws.{step_no, step_yes}
use Rattle.node_step.proofs.any_step.Goals as goal

-- it is not sound
pub returns-in_err-parts : goal.returns-in_err-parts
returns-in_err-parts c =
    let a = c.args in
    let told : c.from_residual.result ≡ Err c.in_err-parts.field-0.0 = grind arith in
    rw told (step_no a.fst.bytes.now a.fst.version a.fst.root a.addr a.b (λ z. omega (arith, c.requires.0.low)) (c.any_parts.ensures.none c.in_err-parts.ensures.ok_part))

-- a sound node can be read
pub any_way-requires : goal.any_way-requires
any_way-requires c =
    let a = c.args in
    let told = c.any_parts.ensures.some _ c.in_ok-parts.ensures.ok_part in
    rw told.1 (any_readable a.fst.bytes.now a.fst.version a.fst.root a.addr c.requires.1 told.0)

pub returns : goal.returns
returns c =
    let a = c.args in
    let told = c.any_parts.ensures.some _ c.in_ok-parts.ensures.ok_part in
    step_yes a.fst.bytes.now a.fst.version a.fst.root a.addr a.b _ c.any_way.result (any_judged a.fst.bytes.now a.fst.version a.fst.root a.addr c.requires.1 told.0)
    (rw told.1 at c.any_way.ensures)
