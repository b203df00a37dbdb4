-- The numbers from i on are written, last first, up to place p.
use Rattle.node_compile.proofs.Storing.{NumbersFrom}
use Rattle.node_compile.proofs.put_numbers.Given as goal

abbrev pub invariant-loop-i : goal.invariant-loop-i
invariant-loop-i l = NumbersFrom l.initial.out l.at l.numbers l.size l.out l.p l.i
