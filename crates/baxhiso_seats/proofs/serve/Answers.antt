-- `baxhiso_seats::serve` meets its contract: what next answered is kept in the rows of the seat, unless it was refused.
-- Assumes nothing.
use Rattle.seats_arrays.specs.SeatArrays.{rows}
use Rattle.baxhiso.specs.ResultLaws.{result_back}
use Rattle.baxhiso_seats.proofs.DispatchResults.{serve_refused, serve_kept}
use Rattle.baxhiso_seats.proofs.serve.Goals as goal

-- the call is refused, and nothing else is written
pub returns-then-refused : goal.returns-then-refused
returns-then-refused c =
    let x = c.args in
    serve_refused x.file.now x.number (rows x.heads.now x.bounds.now x.addrs.now x.inps.now x.trans.now x.outs.now x.keys.now) x.key.now _ c.plain_at-plain.result c.plain_at-plain.ensures _ c.next-step.ensures
    x.last.now x.waiting.now x.seat.now x.len.now _ x.value.now _ _ _ (result_back c.answered.result c.answered.type_inv) c.answered.ensures _ c.is_err-refused.ensures.value c.if-refused.true

pub keep-requires : goal.keep-requires
keep-requires c = c.requires

-- the reading after the call is kept
pub returns : goal.returns
returns c =
    let x = c.args in
    serve_kept x.file.now x.number (rows x.heads.now x.bounds.now x.addrs.now x.inps.now x.trans.now x.outs.now x.keys.now) x.key.now _ c.plain_at-plain.result c.plain_at-plain.ensures _ c.next-step.ensures
    x.last.now x.waiting.now x.seat.now x.len.now _ x.value.now _ _ _ (result_back c.answered-2.result c.answered-2.type_inv) c.answered-2.ensures _ c.is_err-refused.ensures.value c.if-refused.false _ _ _ _ c.keep.ensures
