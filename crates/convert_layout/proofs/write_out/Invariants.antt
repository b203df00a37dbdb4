-- The nodes below `a` are written up to `next`, as `Writes` says, and `a` is marked or the file's end. What is left of the file falls.
use Rattle.std.proofs.Common.{◌≡◌, ◌-◌, ◌<◌, length, get_or}
use Rattle.format.specs.View.{fst_is}
use Rattle.convert_layout.proofs.Laying.{Writes}
use Rattle.convert_layout.proofs.write_out.Given as goal

abbrev pub invariant-loop-a : goal.invariant-loop-a
invariant-loop-a l =
    Writes (fst_is l.fst) l.depths l.initial.out l.out l.next l.a × (l.a < length l.fst.bytes.now → ¬ (get_or l.depths l.a 0 ≡ 0))

abbrev pub decreases-loop-a : goal.decreases-loop-a
decreases-loop-a l = length l.fst.bytes.now - l.a
