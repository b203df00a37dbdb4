-- Each array is written in its row. Assumes nothing.
use Rattle.stream_arrays.specs.Arrays.{held}
use Rattle.seats_arrays.specs.SeatArrays.{rows}
use Rattle.seats_arrays.specs.SeatArraysLaws.{row_set_lem}
use Rattle.seats_arrays.proofs.put_rows.Goals as goal

pub returns : goal.returns
returns c =
    let x = c.args in
    row_set_lem (rows x.heads.now x.bounds.now x.addrs.now x.inps.now x.trans.now x.outs.now x.keys.now) x.number
    (held x.head.now x.bound.now x.addr.now x.inp.now x.tran.now x.out.now) x.to_come c.requires
