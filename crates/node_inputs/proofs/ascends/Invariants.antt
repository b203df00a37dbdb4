-- The flag says whether the last 16 pairs and the first j fall.
use Rattle.std.proofs.Common.{◌+◌, ◌≤◌}
use Rattle.buffers.specs.Decide.{Decides}
use Rattle.node_inputs.specs.AscentLaws.{Grouped}
use Rattle.node_inputs.proofs.ascends.Given as goal

abbrev pub invariant-loop-j : goal.invariant-loop-j
invariant-loop-j l = (l.j ≤ l.pairs) × Decides l.good (Grouped l.file l.at (l.at + l.last) 16 l.j)
