-- `range_down::descend`: from level k on, the answer is the one that is wanted, and every level up to k is that of a judged node.
-- Assumes nothing.
use Rattle.format.specs.View.{fst_is}
use Rattle.reading.specs.Reading.{bound_bytes}
use Rattle.stream_start.specs.Views.{bound_of}
use Rattle.range_down.specs.Downs.{down_from}
use Rattle.range_down.proofs.GoingDown.{Going}
use Rattle.range_down.proofs.descend.Given as goal

abbrev pub invariant-loop-k : goal.invariant-loop-k
invariant-loop-k l =
    Going (fst_is l.fst) (bound_of l.upper) (bound_bytes (bound_of l.upper))
    (down_from (fst_is l.fst) (bound_of l.upper) l.initial.stack.addrs l.initial.stack.inps l.initial.stack.trans l.initial.stack.outs l.top)
    l.stack.addrs l.stack.inps l.stack.trans l.stack.outs l.k l.standing.same l.standing.over
