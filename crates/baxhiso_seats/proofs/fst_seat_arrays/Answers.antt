-- `baxhiso_seats::fst_seat_arrays` meets its contract: a law of SeatResults for each way.
-- Assumes nothing.
use mathlib.Core.Path.{sym, ◌∙◌}
use Rattle.stream_arrays.specs.Arrays.{held}
use Rattle.seats_arrays.specs.SeatArrays.{rows, plain_at}
use Rattle.baxhiso.specs.ResultLaws.{code_is}
use Rattle.baxhiso_seats.proofs.SeatResults.{seat_number, seat_wrong, seat_done}
use Rattle.baxhiso_seats.proofs.fst_seat_arrays.Goals as goal

pub returns-then-number-gt-LAST_SEAT : goal.returns-then-number-gt-LAST_SEAT
returns-then-number-gt-LAST_SEAT c =
    let x = c.args in
    let before = rows x.heads.now x.bounds.now x.addrs.now x.inps.now x.trans.now x.outs.now x.keys.now in
    let one = held x.head.now x.bound.now x.addr.now x.inp.now x.tran.now x.out.now in
    seat_number x.last x.taken.now x.waiting.now x.number before one x.to_come _ c.if-number-gt-LAST_SEAT.true (code_is c.code.result c.code.type_inv c.code.ensures)

pub returns-then-not-seats_right : goal.returns-then-not-seats_right
returns-then-not-seats_right c =
    let x = c.args in
    let before = rows x.heads.now x.bounds.now x.addrs.now x.inps.now x.trans.now x.outs.now x.keys.now in
    let one = held x.head.now x.bound.now x.addr.now x.inp.now x.tran.now x.out.now in
    seat_wrong x.last x.taken.now x.waiting.now x.number before one x.to_come _ c.if-number-gt-LAST_SEAT.false
    (sym (c.seats_right.ensures (plain_at before)) ∙ c.if-not-seats_right.true) (code_is c.code-then-not-seats_right.result c.code-then-not-seats_right.type_inv c.code-then-not-seats_right.ensures)

pub returns : goal.returns
returns c =
    let x = c.args in
    let before = rows x.heads.now x.bounds.now x.addrs.now x.inps.now x.trans.now x.outs.now x.keys.now in
    let one = held x.head.now x.bound.now x.addr.now x.inp.now x.tran.now x.out.now in
    seat_done x.last x.taken.now x.waiting.now x.number before one x.to_come _ c.put_flag.ensures c.if-number-gt-LAST_SEAT.false
    (sym (c.seats_right.ensures (plain_at before)) ∙ c.if-not-seats_right.false) _ c.put_rows.ensures
