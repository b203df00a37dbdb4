-- `most` is the largest of the numbers before the index.
use Rattle.node_compile.proofs.Largest.{LargestTo}
use Rattle.node_compile.proofs.largest_of.Given as goal

abbrev pub invariant-loop-n : goal.invariant-loop-n
invariant-loop-n l = LargestTo l.numbers l.most l.n-index
