-- `baxhiso_seats::fst_dispatch_arrays` meets its contract: seats that are not right, nobody waiting, or one call of the reading of the seat whose turn it is.
-- Assumes nothing.
use mathlib.Core.Path.{sym, ap, ◌∙◌}
use Rattle.turns.proofs.TurnsLaws.{right_last}
use Rattle.seats_turn.specs.SeatViews.{turn_is}
use Rattle.seats_arrays.specs.SeatArrays.{rows, plain_at, flat, flat_is}
use Rattle.baxhiso.specs.ResultLaws.{code_is, result_back}
use Rattle.baxhiso_seats.proofs.DispatchResults.{dispatch_unright, dispatch_none, turn_number, dispatch_serves}
use Rattle.baxhiso_seats.proofs.fst_dispatch_arrays.Goals as goal

-- the seats are not right
pub returns-then-not-seats_right : goal.returns-then-not-seats_right
returns-then-not-seats_right c =
    let x = c.args in
    let held = rows x.heads.now x.bounds.now x.addrs.now x.inps.now x.trans.now x.outs.now x.keys.now in
    dispatch_unright x.file.now x.last.now x.taken.now x.waiting.now held x.key.now _ x.seat.now x.len.now x.value.now
    (sym (c.seats_right.ensures (plain_at held)) ∙ c.if-not-seats_right.true) (code_is c.code.result c.code.type_inv c.code.ensures)

pub turn_of-turn-requires : goal.turn_of-turn-requires
turn_of-turn-requires c =
    let x = c.args in
    let held = rows x.heads.now x.bounds.now x.addrs.now x.inps.now x.trans.now x.outs.now x.keys.now in
    right_last (flat_is (flat x.last.now x.taken.now x.waiting.now held)) (sym (c.seats_right.ensures (plain_at held)) ∙ c.if-not-seats_right.false)

pub serve-requires : goal.serve-requires
serve-requires c =
    let x = c.args in
    let held = rows x.heads.now x.bounds.now x.addrs.now x.inps.now x.trans.now x.outs.now x.keys.now in
    turn_number x.file.now x.last.now x.taken.now x.waiting.now held x.key.now _
    (sym (c.turn_of-turn.ensures x.taken.now (plain_at held)) ∙ ap turn_is c.in-Some.is)

-- nobody waits
pub returns-in-None : goal.returns-in-None
returns-in-None c =
    let x = c.args in
    let held = rows x.heads.now x.bounds.now x.addrs.now x.inps.now x.trans.now x.outs.now x.keys.now in
    dispatch_none x.file.now x.last.now x.taken.now x.waiting.now held x.key.now x.seat.now x.len.now x.value.now
    (sym (c.seats_right.ensures (plain_at held)) ∙ c.if-not-seats_right.false) (sym (c.turn_of-turn.ensures x.taken.now (plain_at held)) ∙ ap turn_is c.in-None.is)

-- the seat whose turn it is
pub returns-in-Some : goal.returns-in-Some
returns-in-Some c =
    let x = c.args in
    let held = rows x.heads.now x.bounds.now x.addrs.now x.inps.now x.trans.now x.outs.now x.keys.now in
    dispatch_serves x.file.now x.last.now x.taken.now x.waiting.now held x.key.now _ (sym (c.seats_right.ensures (plain_at held)) ∙ c.if-not-seats_right.false)
    (sym (c.turn_of-turn.ensures x.taken.now (plain_at held)) ∙ ap turn_is c.in-Some.is) _ _ _ _ x.seat.now _ x.len.now _ x.value.now _ _ _
    (result_back c.serve.result c.serve.type_inv) c.serve.ensures
