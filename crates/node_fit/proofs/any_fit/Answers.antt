-- The node is not sound, or the answer is that of the node with these parts.
use Rattle.std.proofs.Common.{◌≡◌, sym, arith}
use Rattle.std.specs.Prelude.{Err}
use Rattle.node_way.specs.FormLaws.{any_judged, any_readable}
use Rattle.node_choice.specs.FitOfLaws.{fit_no, fit_ends, fit_goes}
use Rattle.node_fit.proofs.any_fit.Goals as goal

-- it is not sound
pub returns-in_err-parts : goal.returns-in_err-parts
returns-in_err-parts c =
    let a = c.args in
    let told : c.from_residual.result ≡ Err c.in_err-parts.field-0.0 = grind arith in
    rw told (fit_no a.fst.bytes.now a.fst.version a.fst.root a.addr a.left (λ z. omega (arith, c.requires.0.low)) (c.any_parts.ensures.none c.in_err-parts.ensures.ok_part))

-- a sound node can be read
pub any_choice-requires : goal.any_choice-requires
any_choice-requires c =
    let a = c.args in
    let told = c.any_parts.ensures.some _ c.in_ok-parts.ensures.ok_part in
    rw told.1 (any_readable a.fst.bytes.now a.fst.version a.fst.root a.addr c.requires.1 told.0)

-- nothing is left, and the node is final
pub returns-then-ends : goal.returns-then-ends
returns-then-ends c =
    let a = c.args in
    let told = c.any_parts.ensures.some _ c.in_ok-parts.ensures.ok_part in
    fit_ends a.fst.bytes.now a.fst.version a.fst.root a.addr a.left _ (any_judged a.fst.bytes.now a.fst.version a.fst.root a.addr c.requires.1 told.0)
    (rw told.1 at (sym c.if-ends.ensures))

pub returns : goal.returns
returns c =
    let a = c.args in
    let told = c.any_parts.ensures.some _ c.in_ok-parts.ensures.ok_part in
    fit_goes a.fst.bytes.now a.fst.version a.fst.root a.addr a.left _ _ (any_judged a.fst.bytes.now a.fst.version a.fst.root a.addr c.requires.1 told.0)
    (rw told.1 at (sym c.if-ends.ensures)) (rw told.1 at c.any_choice.ensures)
