-- The addresses below `a` are laid out up to `next`, as `Laying` says, and `a` is marked or the file's end. What is left of the file falls.
use Rattle.std.proofs.Common.{◌≡◌, ◌-◌, ◌+◌, ◌≤◌, ◌<◌, length, get_or}
use Rattle.format.specs.Limits.{max_len}
use Rattle.format.specs.View.{fst_is}
use Rattle.convert_layout.proofs.Laying.{Laying}
use Rattle.convert_layout.proofs.lay_marked.Given as goal

abbrev pub invariant-loop-a : goal.invariant-loop-a
invariant-loop-a l =
    Laying (fst_is l.fst) l.depths l.initial.sums l.sums l.next l.a × (l.next ≤ max_len + 4619)
    × (l.a < length l.fst.bytes.now → ¬ (get_or l.depths l.a 0 ≡ 0))

abbrev pub decreases-loop-a : goal.decreases-loop-a
decreases-loop-a l = length l.fst.bytes.now - l.a
