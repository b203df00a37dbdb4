-- The loop's invariant: the addresses below `a` have their entries, and `a` is the file's end or has one in the depths, as `AtNode` says.
-- The measure is what is left of the file.
use Rattle.std.proofs.Common.{◌-◌, length}
use Rattle.format.specs.Paths.{fst_with}
use Rattle.admission_node.specs.Entries.{Kept}
use Rattle.counting.proofs.Passing.{AtNode}
use Rattle.counting.proofs.fill.Given as goal

abbrev pub invariant-loop-a : goal.invariant-loop-a
invariant-loop-a l = Kept (length l.fst.bytes.now) l.fn.counts l.counts × AtNode (fst_with l.fst.bytes.now l.fst.version l.fst.root) l.depths l.counts l.a

abbrev pub decreases-loop-a : goal.decreases-loop-a
decreases-loop-a l = length l.fst.bytes.now - l.a
