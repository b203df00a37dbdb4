-- `range_bound::stand`: the first i bytes agree.
-- Assumes nothing.
use Rattle.reading.specs.Reading.{bound_bytes}
use Rattle.stream_start.specs.Views.{bound_of}
use Rattle.range_bound.proofs.Standings.{Agreeing}
use Rattle.range_bound.proofs.stand.Given as goal

abbrev pub invariant-loop-i : goal.invariant-loop-i
invariant-loop-i l = Agreeing (bound_of l.upper) (bound_bytes (bound_of l.upper)) l.stack.inps l.k l.i
