-- The bytes before the index are at most `most`.
use Rattle.node_deltas.specs.Deltas.{AtMost}
use Rattle.node_deltas.proofs.most1.Given as goal

abbrev pub invariant-loop-d : goal.invariant-loop-d
invariant-loop-d l = AtMost l.file l.at 1 l.d-index l.most
