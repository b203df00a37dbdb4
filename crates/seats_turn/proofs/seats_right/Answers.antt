-- Where the seat served last is one of the eight, each seat is judged.
-- Assumes nothing.
use Rattle.std.proofs.Common.{rules, ◌∙◌}
use borrow.Author.Tests.{tests}
use Rattle.std.proofs.lemmas.Iterator.{YieldsList-from_slice}
use Rattle.std.proofs.lemmas.Iterator.Search.{all_from_yields_List}
use Rattle.seats_turn.proofs.SeatScans.{seat_passes, right_is}
use Rattle.seats_turn.proofs.seats_right.Goals as goal

pub returns-then-seats-le-LAST_SEAT : goal.returns-then-seats-le-LAST_SEAT
returns-then-seats-le-LAST_SEAT c =
    let s = c.args.seats in
    all_from_yields_List seat_passes _ _ _ c.all.ensures.ran (YieldsList-from_slice s.seats cc) (λ x b q k. search (rules, tests)) ∙ right_is s c.if-seats-le-LAST_SEAT.true
