-- `most` is the largest of the deltas before the index.
use Rattle.std.proofs.Common.{map}
use Rattle.format.specs.Packed.{delta_of}
use Rattle.node_compile.proofs.Largest.{LargestTo}
use Rattle.node_compile.proofs.largest_delta.Given as goal

abbrev pub invariant-loop-target : goal.invariant-loop-target
invariant-loop-target l = LargestTo (map (delta_of l.first) l.targets) l.most l.target-index
