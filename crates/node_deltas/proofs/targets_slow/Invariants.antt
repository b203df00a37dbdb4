-- The first i deltas are right.
use Rattle.std.proofs.Common.{ℕ, ◌<◌, get_or}
use Rattle.format.specs.Node.{numbers_down, TargetRight}
use Rattle.node_deltas.proofs.targets_slow.Given as goal

abbrev pub invariant-loop-i : goal.invariant-loop-i
invariant-loop-i l = (j : ℕ) → j < l.i → TargetRight l.first (get_or (numbers_down l.file l.at l.size l.n) j 0)
