-- The flag is 0 exactly where the first j pairs fall.
use Rattle.std.proofs.Common.{nat_eq}
use Rattle.buffers.specs.Decide.{Decides}
use Rattle.node_inputs.specs.Inputs.{Falls}
use Rattle.node_inputs.proofs.falls.Given as goal

abbrev pub invariant-loop-j : goal.invariant-loop-j
invariant-loop-j l = Decides (nat_eq l.bad 0) (Falls l.file l.at l.j)
