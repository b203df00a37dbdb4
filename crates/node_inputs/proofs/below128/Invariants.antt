-- Of the entries before the index as many as count are below m.
use Rattle.std.proofs.Common.{◌≡◌, ◌≤◌, take}
use Rattle.node_inputs.specs.Inputs.{below}
use Rattle.node_inputs.proofs.below128.Given as goal

abbrev pub invariant-loop-entry : goal.invariant-loop-entry
invariant-loop-entry l = (l.count ≤ l.entry-index) × (l.count ≡ below l.m (take l.entry-index l.entry-items))
