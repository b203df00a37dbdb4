-- The turn is the first that waits of the seats that are left.
-- Assumes nothing.
use Rattle.std.proofs.Common.{◌≡◌, ◌+◌, ◌-◌, ◌%◌}
use Rattle.turns.specs.Turns as T
use Rattle.seats_turn.specs.SeatViews.{seats_is}
use Rattle.seats_turn.proofs.turn_of.Given as goal

abbrev pub invariant-loop-looked : goal.invariant-loop-looked
invariant-loop-looked l = T.turn (seats_is l.seats) ≡ T.turn_from (8 - l.looked) (seats_is l.seats) ((l.seats.last + l.looked) % 8)
