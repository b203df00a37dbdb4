-- The loop's invariant: the transitions passed stand at the fronts of the buffers.
use Rattle.node.specs.Read.{transitions_in}
use Rattle.convert_node.proofs.Gathering.{Gathering}
use Rattle.convert_node.proofs.Buffers.gather.Given as goal

abbrev pub invariant-loop-i : goal.invariant-loop-i
invariant-loop-i l = Gathering (transitions_in l.file l.node) l.moved l.initial.self.inputs l.initial.self.outputs l.initial.self.targets l.self.inputs l.self.outputs l.self.targets l.i
