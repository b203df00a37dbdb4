-- The loop's invariant: the keys from the targets of the first i transitions are added.
use Rattle.node.specs.Read.{transitions_in}
use Rattle.stream_upto.proofs.Summing.{SummedTo}
use Rattle.stream_upto.proofs.below.Given as goal

abbrev pub invariant-loop-i : goal.invariant-loop-i
invariant-loop-i l = SummedTo l.counts (transitions_in l.file l.node) l.fn.total l.i l.sum
