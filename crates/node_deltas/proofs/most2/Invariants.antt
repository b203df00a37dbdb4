-- The first i numbers are at most `most`.
use Rattle.node_deltas.specs.Deltas.{AtMost}
use Rattle.node_deltas.proofs.most2.Given as goal

abbrev pub invariant-loop-i : goal.invariant-loop-i
invariant-loop-i l = AtMost l.file l.at 2 l.i l.most
