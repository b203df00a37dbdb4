-- `seats::new` meets its contract. Assumes nothing.
use mathlib.Core.Path.{ap, ◌∙◌}
use Rattle.seats_turn.specs.SeatViews.{seats_is}
use Rattle.seats_turn.specs.SeatViewsLaws.{new_is}
use Rattle.seats.proofs.new.Goals as goal

pub returns : goal.returns
returns c = ap seats_is c.no_seats.ensures ∙ new_is
