-- The deltas from i on are written, last first, up to place p.
use Rattle.std.proofs.Common.{map}
use Rattle.format.specs.Packed.{delta_of}
use Rattle.node_compile.proofs.Storing.{NumbersFrom}
use Rattle.node_compile.proofs.put_deltas.Given as goal

abbrev pub invariant-loop-i : goal.invariant-loop-i
invariant-loop-i l = NumbersFrom l.initial.out l.at (map (delta_of l.first) l.targets) l.size l.out l.p l.i
