-- The reading is put into its rows, and then the number. Assumes nothing.
use Rattle.std.proofs.Common.{refl}
use Rattle.seats_arrays.specs.SeatArrays.{rows}
use Rattle.seats_arrays.specs.SeatArraysLaws.{row_put}
use Rattle.seats_arrays.proofs.put_plain.Goals as goal

pub returns : goal.returns
returns c =
    let x = c.args in
    row_put (rows x.heads.now x.bounds.now x.addrs.now x.inps.now x.trans.now x.outs.now x.keys.now) x.number
    _ x.plain.keys c.requires x.plain c.put.ensures refl
