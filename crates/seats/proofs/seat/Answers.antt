-- `seats::seat` meets its contract: a law of SeatCases for each way. Assumes nothing.
use mathlib.Core.Path.{refl, sym, ◌∙◌}
use Rattle.stream.specs.Plains.{plain_is}
use Rattle.seats_turn.specs.SeatViews.{seats_is}
use Rattle.seats.proofs.SeatCases.{seat_number, seat_wrong, seat_told}
use borrow.Author.Rules.{rules}
use native.Mathlib.Omega.{arith}
use Rattle.seats.proofs.seat.Goals.{then-number-gt-LAST_SEAT-via-then-number-gt-LAST_SEAT, then-number-gt-LAST_SEAT-via-else-number-gt-LAST_SEAT+then-not-seats_right}
use Rattle.seats.proofs.seat.Goals as goal

-- no seat has the number, or the seats are not right
pub returns-then-number-gt-LAST_SEAT : goal.returns-then-number-gt-LAST_SEAT
returns-then-number-gt-LAST_SEAT c =
    let a = c.args in
    elim c.then-number-gt-LAST_SEAT.branch [
      | then-number-gt-LAST_SEAT-via-then-number-gt-LAST_SEAT w ↦ sym (seat_number (seats_is a.seats) a.number (plain_is a.reading) w.if-number-gt-LAST_SEAT.true)
      | then-number-gt-LAST_SEAT-via-else-number-gt-LAST_SEAT+then-not-seats_right w ↦
          sym (seat_wrong (seats_is a.seats) a.number (plain_is a.reading) (omega (arith, w.if-number-gt-LAST_SEAT.false)) (sym w.seats_right.ensures ∙ w.if-not-seats_right.true))
    ]

pub returns : goal.returns
returns c =
    let a = c.args in
    seat_told a.seats (search rules) a.number _ (omega arith) a.reading _ (sym c.seats_right.ensures ∙ c.if-not-seats_right.false) c.put_seat.ensures
