-- The loop's invariant: the addresses below `a` are filled in at the marks of the entry, as `Filling` says, with the two flags, and a node stands at `a`,
-- or `a` is the file's length.
use Rattle.std.proofs.Common.{◌≡◌, ◌-◌, ◌≤◌, ◌<◌, length}
use Rattle.std.specs.Prelude.{get_or}
use Rattle.format.specs.Paths.{fst_with}
use Rattle.admission_fill.proofs.Filling.{Filling}
use Rattle.admission_fill.proofs.fill.Given as goal

abbrev pub invariant-loop-a : goal.invariant-loop-a
invariant-loop-a l =
    Filling (fst_with l.fst.bytes.now l.fst.version l.fst.root) l.initial.depths l.initial.sums l.depths l.sums l.deep l.heavy l.a
    × (l.a ≤ length l.fst.bytes.now) × (l.a < length l.fst.bytes.now → ¬ (get_or l.initial.depths l.a 0 ≡ 0))

abbrev pub decreases-loop-a : goal.decreases-loop-a
decreases-loop-a l = l.n - l.a
