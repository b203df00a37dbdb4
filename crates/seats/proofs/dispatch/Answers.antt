-- `seats::dispatch` meets its contract: seats that are not right, nobody waiting, or the seat whose turn it is. Assumes nothing.
use mathlib.Core.Path.{refl, sym, ap, ◌∙◌}
use Rattle.turns.proofs.TurnsLaws.{right_last}
use Rattle.seats_turn.specs.SeatViews.{seats_is, turn_is}
use Rattle.seats.proofs.SeatCases.{told_wrong, told_nobody}
use Rattle.seats.proofs.dispatch.Goals as goal

pub returns-then-not-seats_right : goal.returns-then-not-seats_right
returns-then-not-seats_right c =
    told_wrong c.args.file.now (seats_is c.args.seats) c.args.key.now (sym c.seats_right.ensures ∙ c.if-not-seats_right.true)

pub turn_of-requires : goal.turn_of-requires
turn_of-requires c = right_last (seats_is c.args.seats) (sym c.seats_right.ensures ∙ c.if-not-seats_right.false)

pub serve-requires : goal.serve-requires
serve-requires c =
    (sym c.seats_right.ensures ∙ c.if-not-seats_right.false, sym c.turn_of.ensures ∙ ap turn_is c.in-Some.is)

pub returns-in-None : goal.returns-in-None
returns-in-None c =
    told_nobody c.args.file.now c.args.seats c.args.key.now (sym c.seats_right.ensures ∙ c.if-not-seats_right.false) (sym c.turn_of.ensures ∙ ap turn_is c.in-None.is)
