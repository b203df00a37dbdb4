-- The reading is that of the arrays' rows. Assumes nothing.
use Rattle.std.proofs.Common.{get_or, ap}
use Rattle.stream_start.specs.declared.Reading.{Reading}
use Rattle.seats_arrays.proofs.plain_at.Goals as goal

pub returns : goal.returns
returns c = ap (λ (r : Reading). record { reading = r; keys = get_or c.args.keys.now c.args.number 0 }) c.reading_of-reading.ensures
