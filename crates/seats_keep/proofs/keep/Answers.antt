-- The reading is put into the rows of the seat, and then the three numbers are written. Assumes nothing.
use Rattle.std.proofs.Common.{refl}
use Rattle.seats_keep.proofs.keep.Goals as goal

pub returns : goal.returns
returns c = record { last_is = refl; waits = c.put_flag.ensures; row = c.put_plain.ensures; seat_is_lem = refl }
