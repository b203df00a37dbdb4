-- The loop's invariant: `total` is the node's own key and those of the transitions passed.
use Rattle.node.specs.Read.{transitions_in}
use Rattle.counting_node.proofs.Adding.{CountedTo}
use Rattle.counting_node.proofs.count_any.Given as goal

abbrev pub invariant-loop-i : goal.invariant-loop-i
invariant-loop-i l = CountedTo l.counts l.node.is_final (transitions_in l.file l.node) l.i l.total
