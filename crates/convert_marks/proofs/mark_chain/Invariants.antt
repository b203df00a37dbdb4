-- The addresses above `a` are marked, the last of them `up` above it, and the chain goes on from there. The address falls.
use Rattle.std.proofs.Common.{List, ℕ}
use Rattle.format.specs.View.{fst_is}
use Rattle.format.specs.Admitted.{Chain}
use Rattle.convert_marks.proofs.Marking.{Marking}
use Rattle.convert_marks.proofs.mark_chain.Given as goal

abbrev pub invariant-loop-a : goal.invariant-loop-a
invariant-loop-a l = (nodes : List ℕ) × Marking (fst_is l.fst) nodes l.initial.depths l.depths l.a l.up × Chain (fst_is l.fst) l.fst.root nodes

abbrev pub decreases-loop-a : goal.decreases-loop-a
decreases-loop-a l = l.a
