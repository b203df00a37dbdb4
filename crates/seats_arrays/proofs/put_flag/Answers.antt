-- The number is written. Assumes nothing.
use Rattle.seats_arrays.specs.SeatArraysLaws.{flag_put}
use Rattle.seats_arrays.proofs.put_flag.Goals as goal

pub returns : goal.returns
returns c = flag_put c.args.number c.args.flag c.args.flags.now c.requires
