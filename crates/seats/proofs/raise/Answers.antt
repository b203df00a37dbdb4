-- `seats::raise` meets its contract: a law of SeatCases for each way. Assumes nothing.
use mathlib.Core.Path.{refl, sym, ap, ◌∙◌}
use mathlib.Core.Bool.{not}
use Rattle.seats_turn.specs.SeatViews.{seats_is}
use Rattle.seats.proofs.SeatCases.{raise_number, raise_wrong, raise_empty, raise_told}
use borrow.Author.Rules.{rules}
use native.Mathlib.Omega.{arith}
use Rattle.seats.proofs.raise.Goals.{then-number-gt-LAST_SEAT-via-then-number-gt-LAST_SEAT, then-number-gt-LAST_SEAT-via-else-number-gt-LAST_SEAT+then-not-seats_right}
use Rattle.seats.proofs.raise.Goals as goal

-- no seat has the number, or the seats are not right
pub returns-then-number-gt-LAST_SEAT : goal.returns-then-number-gt-LAST_SEAT
returns-then-number-gt-LAST_SEAT c =
    let a = c.args in
    elim c.then-number-gt-LAST_SEAT.branch [
      | then-number-gt-LAST_SEAT-via-then-number-gt-LAST_SEAT w ↦ sym (raise_number (seats_is a.seats) a.number w.if-number-gt-LAST_SEAT.true)
      | then-number-gt-LAST_SEAT-via-else-number-gt-LAST_SEAT+then-not-seats_right w ↦
          sym (raise_wrong (seats_is a.seats) a.number (omega (arith, w.if-number-gt-LAST_SEAT.false)) (sym w.seats_right.ensures ∙ w.if-not-seats_right.true))
    ]

pub returns-then-is_none : goal.returns-then-is_none
returns-then-is_none c =
    let a = c.args in
    sym (raise_empty a.seats (search rules) a.number _ (omega arith) (sym c.seats_right.ensures ∙ c.if-not-seats_right.false) (c.is_none.ensures ∙ ap not c.if-is_none.true))

pub returns : goal.returns
returns c =
    let a = c.args in
    raise_told a.seats (search rules) a.number _ (omega arith) _ (sym c.seats_right.ensures ∙ c.if-not-seats_right.false) (c.is_none.ensures ∙ ap not c.if-is_none.false) c.put_seat.ensures
