-- No more bytes are found than are asked.
use Rattle.std.proofs.Common.{◌≤◌}
use Rattle.replay_node.proofs.all_found.Given as goal

abbrev pub invariant-loop-b : goal.invariant-loop-b
invariant-loop-b l = l.n ≤ l.b
