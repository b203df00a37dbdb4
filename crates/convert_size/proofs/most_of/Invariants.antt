-- The loop's invariant: `output` and `delta` are the largest of the transitions from i on.
use Rattle.node.specs.Read.{meaning}
use Rattle.convert_size.proofs.Sizing.{Seen}
use Rattle.convert_size.proofs.most_of.Given as goal

abbrev pub invariant-loop-i : goal.invariant-loop-i
invariant-loop-i l = Seen (meaning l.file l.node) l.first l.moved l.output l.delta l.i
