-- The seat that was put is seen in its place. Assumes nothing.
use Rattle.std.proofs.Common.{List, ap}
use Rattle.turns.specs.Turns as T
use Rattle.seats_turn.specs.SeatViewsLaws.{seats_put}
use Rattle.seats_turn.proofs.put_seat.Goals as goal

pub returns : goal.returns
returns c =
    let a = c.args in
    ap (λ (l : List T.Seat). record { last = a.last; seats = l }) (seats_put a.seats.seats a.number a.seat)
