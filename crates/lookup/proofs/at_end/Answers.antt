-- `lookup::at_end` meets its contract: each way out is an equation of `get_from` at the key's end.
-- Assumes nothing.
use Rattle.std.proofs.Common.{◌≡◌, [], ◌+◌, ◌<◌, sym, ap, ◌∙◌, arith}
use Rattle.std.specs.Prelude.{Err}
use Rattle.std.proofs.lemmas.Result.{err_from_is_err_and}
use Rattle.std.proofs.lemmas.Bool.{not-true, not-false}
use Rattle.format.specs.Limits.{max_sum, SUM}
use Rattle.format.specs.Lookup.{Answer}
use Rattle.node.specs.ReadLaws.{answer_sound, answer_unsound}
use Rattle.format.specs.Laws.LookupLaws.{get_from_unsound, get_from_end_value, get_from_end_sum, get_from_end_none}
use Rattle.node.specs.Read.{meaning}
use Rattle.format.specs.View.{fst_is}
use Rattle.lookup.proofs.at_end.Goals as goal

-- the node is not sound
pub returns-in_err-m : goal.returns-in_err-m
returns-in_err-m c =
    let a = c.args in
    let p = err_from_is_err_and c.from_residual.result c.from_residual.ensures.1 in
    rw (p.1, p.2) (sym (get_from_unsound (fst_is a.fst) [] a.last a.sum (answer_unsound c.node_at.ensures _ c.in_err-m.was)))

-- the node is not final
pub returns-then-not-m : goal.returns-then-not-m
returns-then-not-m c =
    let a = c.args in
    let s = a.fst.bytes.now in
    let m = c.in_ok-m.m in
    sym (get_from_end_none (fst_is a.fst) a.last a.sum (meaning s m) (answer_sound c.node_at.ensures m c.in_ok-m.was) (omega (arith, c.ranges.sum)) (not-true m.is_final c.if-not-m.true))

-- the node is final, and the sum with its final output fits
pub returns : goal.returns
returns c =
    let a = c.args in
    let s = a.fst.bytes.now in
    let m = c.in_ok-m.m in
    let fits = rw c.in_ok-value.ensures.ok_part at c.checked_add.ensures in
    ap Answer.value fits.1
    ∙ sym (get_from_end_value (fst_is a.fst) a.last a.sum (meaning s m) (answer_sound c.node_at.ensures m c.in_ok-m.was) (omega (arith, c.ranges.sum)) (not-false m.is_final c.if-not-m.false) (omega (arith, fits.0)))

-- the node is final, and the sum with its final output does not fit
pub returns-in_err-value : goal.returns-in_err-value
returns-in_err-value c =
    let a = c.args in
    let s = a.fst.bytes.now in
    let m = c.in_ok-m.m in
    let none = rw c.in_err-value.ensures.ok_part at c.checked_add.ensures in
    let past : max_sum < a.sum + m.final_output = omega (arith, none) in
    let told : c.from_residual-in_err-value.result ≡ Err SUM = grind arith in
    rw told (sym (get_from_end_sum (fst_is a.fst) a.last a.sum (meaning s m) (answer_sound c.node_at.ensures m c.in_ok-m.was) (omega (arith, c.ranges.sum)) (not-false m.is_final c.if-not-m.false) past))
