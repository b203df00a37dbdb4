-- The pattern is given back beside the reading of the step.
-- Assumes nothing.
use Rattle.std.proofs.Common.{refl}
use Rattle.patterned.proofs.next.Goals as goal

pub returns : goal.returns
returns c = let e = c.step-stepped.ensures in record { answer = e.answer; reading = e.reading; pattern = refl; buffer = e.buffer }
