-- The end is a reading with no level left.
use Rattle.std.proofs.Common.{refl, ap}
use Rattle.stream_start.specs.Views.{stack_is, view_is}
use Rattle.stream_step.proofs.ended.Goals as goal

pub returns : goal.returns
unfolding stack_is
returns c = λ buf. record { answer = refl; reading = ap view_is c.placed.ensures; buffer = refl }
