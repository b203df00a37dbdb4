-- `baxhiso_seats::fst_raise_arrays` meets its contract: a law of SeatResults for each way.
-- Assumes nothing.
use mathlib.Core.Path.{sym, ◌∙◌}
use Rattle.seats_arrays.specs.SeatArrays.{plain_at}
use Rattle.baxhiso.specs.ResultLaws.{code_is}
use Rattle.baxhiso_seats.proofs.SeatResults.{raise_number, raise_wrong, raise_empty, raise_done}
use Rattle.baxhiso_seats.proofs.fst_raise_arrays.Goals as goal

pub returns-then-number-gt-LAST_SEAT : goal.returns-then-number-gt-LAST_SEAT
returns-then-number-gt-LAST_SEAT c =
    let x = c.args in
    λ r. raise_number x.last x.taken.now x.waiting.now x.number r _ c.if-number-gt-LAST_SEAT.true (code_is c.code.result c.code.type_inv c.code.ensures)

pub returns-then-not-seats_right : goal.returns-then-not-seats_right
returns-then-not-seats_right c =
    let x = c.args in
    λ r. raise_wrong x.last x.taken.now x.waiting.now x.number r _ c.if-number-gt-LAST_SEAT.false (sym (c.seats_right.ensures (plain_at r)) ∙ c.if-not-seats_right.true)
    (code_is c.code-then-not-seats_right.result c.code-then-not-seats_right.type_inv c.code-then-not-seats_right.ensures)

pub returns-then-empty : goal.returns-then-empty
returns-then-empty c =
    let x = c.args in
    λ r. raise_empty x.last x.taken.now x.waiting.now x.number r _ c.if-number-gt-LAST_SEAT.false (sym (c.seats_right.ensures (plain_at r)) ∙ c.if-not-seats_right.false)
    c.if-empty.true (code_is c.code-then-empty.result c.code-then-empty.type_inv c.code-then-empty.ensures)

pub returns : goal.returns
returns c =
    let x = c.args in
    λ r. raise_done x.last x.taken.now x.waiting.now x.number r _ c.put_flag.ensures c.if-number-gt-LAST_SEAT.false
    (sym (c.seats_right.ensures (plain_at r)) ∙ c.if-not-seats_right.false) c.if-empty.false
