-- The loop's invariant: the addresses passed have their marks and their links and lie above `a`, and what is left of the chain is the chain from `a`.
-- The measure is `a`, since the next node lies below.
use Rattle.std.proofs.Common.{List, ℕ, length}
use Rattle.format.specs.View.{fst_is}
use Rattle.admission_node.specs.Entries.{Kept}
use Rattle.admission_walk.specs.Walks.{marks_in}
use Rattle.admission_walk.proofs.Walking.{Walking}
use Rattle.admission_walk.proofs.Linking.{Linking}
use Rattle.admission_walk.proofs.walk.Given as goal

abbrev pub invariant-loop-first : goal.invariant-loop-first
invariant-loop-first l =
    Kept (length l.fst.bytes.now) l.fn.depths l.depths
    × ((passed : List ℕ) × (Walking (fst_is l.fst) (marks_in l.depths) l.a passed × Linking (length l.fst.bytes.now) l.depths l.a passed l.link))

abbrev pub decreases-loop-first : goal.decreases-loop-first
decreases-loop-first l = l.a
