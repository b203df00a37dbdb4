-- The loop's invariant: the targets of the transitions passed have at least the mark, and no entry is lowered or raised otherwise.
use Rattle.std.proofs.Common.{length}
use Rattle.node.specs.Read.{transitions_in}
use Rattle.admission_node.proofs.Marking.{MarkedTo}
use Rattle.admission_node.proofs.mark_targets.Given as goal

abbrev pub invariant-loop-i : goal.invariant-loop-i
invariant-loop-i l = MarkedTo (length l.file) l.mark (transitions_in l.file l.node) l.initial.depths l.depths l.i
