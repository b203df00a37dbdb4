-- The first i inputs have their places in the index.
use Rattle.node_parts.proofs.Marking.{Marked}
use Rattle.node_parts.proofs.index_of.Given as goal

abbrev pub invariant-loop-i : goal.invariant-loop-i
invariant-loop-i l = Marked l.inputs l.index l.i
