-- No byte is looked at yet; one more fits; one does not.
-- Assumes nothing.
use Rattle.std.proofs.Common.{◌≡◌, ℕ, ◌+◌, ◌-◌, take, drop, get_or, arith, ap, sym, ◌∙◌}
use Rattle.patterned_fit.specs.Positions.{positions_is}
use Rattle.patterned_fit.proofs.CountOfLaws.{fitted_none, fitted_step, fitted_not, inputs_length}
use Rattle.patterned_fit.proofs.Pattern.count_of.Goals as goal

pub loop-i-init : goal.loop-i-init
loop-i-init c = let a = c.args in fitted_none (positions_is a.self.now.len a.self.now.positions) (take a.k (drop 1 a.stack.now.inps))

pub returns-then-not-fits_place : goal.returns-then-not-fits_place
returns-then-not-fits_place c =
    let a = c.args in
    let i = c.loop-i.i in
    fitted_not c.loop-i.invariant (omega (arith, inputs_length a.k a.stack.now.inps (grind arith) c.requires.0)) (get_or (take (a.k + 1 - 1) (drop 1 a.stack.now.inps)) i 0)
    (let same : a.k + 1 - 1 ≡ a.k = omega arith in ap (λ (j : ℕ). get_or (take j (drop 1 a.stack.now.inps)) i 0) same) (sym c.fits_place.ensures ∙ c.if-not-fits_place.true)

pub loop-i-preserved : goal.loop-i-preserved
loop-i-preserved c =
    let a = c.args in
    let i = c.loop-i.i in
    fitted_step c.loop-i.invariant (omega (arith, inputs_length a.k a.stack.now.inps (grind arith) c.requires.0)) (get_or (take (a.k + 1 - 1) (drop 1 a.stack.now.inps)) i 0)
    (let same : a.k + 1 - 1 ≡ a.k = omega arith in ap (λ (j : ℕ). get_or (take j (drop 1 a.stack.now.inps)) i 0) same) (sym c.fits_place.ensures ∙ c.if-not-fits_place.false)
