-- The first numbers are at most most / 256: four a turn, and then one a turn.
use Rattle.std.proofs.Common.{◌*◌}
use Rattle.node_deltas.proofs.Targets.{Most3}
use Rattle.node_deltas.proofs.most3.Given as goal

abbrev pub invariant-loop-i : goal.invariant-loop-i
invariant-loop-i l = Most3 l.file l.at (l.i * 4) l.most

abbrev pub invariant-loop-i-2 : goal.invariant-loop-i-2
invariant-loop-i-2 l = Most3 l.file l.at l.i l.most
