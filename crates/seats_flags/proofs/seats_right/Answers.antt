-- A seat served last that is none; else each seat is judged by its two numbers.
-- Assumes nothing.
use Rattle.std.proofs.Common.{◌<◌, rules, ◌∙◌, arith}
use borrow.Author.Tests.{tests, lt-leb}
use Rattle.std.proofs.lemmas.Iterator.{YieldsList-from_slice, YieldsList-from_zip}
use Rattle.std.proofs.lemmas.Iterator.Search.{all_from_yields_List}
use Rattle.seats_flags.proofs.FlagScans.{seat_passes, right_over, right_is}
use Rattle.seats_flags.proofs.seats_right.Goals as goal

pub returns-else-last-le-LAST_SEAT : goal.returns-else-last-le-LAST_SEAT
returns-else-last-le-LAST_SEAT c =
    let a = c.args in
    let over : 7 < a.last = omega (arith, c.if-last-le-LAST_SEAT.false) in
    λ plains. lt-leb a.last 7 over ∙ right_over a.last a.taken a.waiting plains over

pub returns-then-last-le-LAST_SEAT : goal.returns-then-last-le-LAST_SEAT
returns-then-last-le-LAST_SEAT c =
    let a = c.args in
    λ plains.
    all_from_yields_List seat_passes c.all.new.self _ _ c.all.ensures.ran (YieldsList-from_zip (YieldsList-from_slice a.taken cc) (YieldsList-from_slice a.waiting cc)) (λ x b q k. search (rules, tests))
    ∙ right_is a.last a.taken a.waiting plains (search rules) (search rules) c.if-last-le-LAST_SEAT.true
