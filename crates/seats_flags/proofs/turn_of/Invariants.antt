-- The turn is the first that waits of the seats that are left.
-- Assumes nothing.
use Rattle.std.proofs.Common.{ℕ, List}
use Rattle.plain.specs.Plain as P
use Rattle.seats_flags.proofs.FlagScans.{TurnLeft}
use Rattle.seats_flags.proofs.turn_of.Given as goal

abbrev pub invariant-loop-looked : goal.invariant-loop-looked
invariant-loop-looked l = (t : List ℕ) (plains : ℕ → P.Plain) → TurnLeft l.last t l.waiting plains l.looked
