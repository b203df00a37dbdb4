-- The flag says whether each byte before the index has the entry that its place asks for, and i is the place of the one before.
use Rattle.std.proofs.Common.{◌≡◌, ◌+◌}
use Rattle.buffers.specs.Decide.{Decides}
use Rattle.node_inputs.proofs.Index.{PlacedTo}
use Rattle.node_inputs.proofs.probes.Given as goal

abbrev pub invariant-loop-b : goal.invariant-loop-b
invariant-loop-b l = (l.i + l.b-index ≡ l.n) × Decides l.good (PlacedTo l.file l.at l.n l.index l.b-index)
