-- No level has no byte.
-- Assumes nothing.
use Rattle.std.proofs.Common.{◌≡◌}
use Rattle.pattern.specs.FitCount.{fit_count}
use Rattle.patterned_fit.proofs.Pattern.fit_of.Goals as goal

pub returns-then-levels-eq0 : goal.returns-then-levels-eq0
unfolding fit_count
returns-then-levels-eq0 c = let e : c.args.levels ≡ 0 = c.if-levels-eq0.true in rw e
