-- A place that has a position, or one past them.
-- Assumes nothing.
use Rattle.std.proofs.Common.{arith, sym, ◌∙◌}
use Rattle.patterned_fit.specs.PositionLaws.{place_at, place_past}
use Rattle.patterned_fit.proofs.Pattern.fits_place.Goals as goal

pub returns-then-i-self : goal.returns-then-i-self
returns-then-i-self c =
    let a = c.args in
    c.fits_at.ensures ∙ sym (place_at a.self.now.len a.self.now.positions (omega arith) a.i a.b c.if-i-self.true)

pub returns : goal.returns
returns c = let a = c.args in sym (place_past a.self.now.len a.self.now.positions (omega arith) a.i a.b c.if-i-self.false)
