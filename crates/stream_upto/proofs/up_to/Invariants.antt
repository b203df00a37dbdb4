-- The loop's invariant: the total so far, and what is left of the string from the node at addr, decide the answer.
use Rattle.format.specs.Paths.{fst_with}
use Rattle.stream_upto.proofs.Walking.{Walking}
use Rattle.stream_upto.proofs.up_to.Given as goal

abbrev pub invariant-loop-b : goal.invariant-loop-b
invariant-loop-b l = Walking (fst_with l.fst.bytes.now l.fst.version l.fst.root) l.counts l.own l.x l.b-index l.addr l.total
