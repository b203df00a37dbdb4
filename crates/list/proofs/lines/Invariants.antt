-- The reading is on its way, and the line buffer has its length. The measure is what is left to visit.
use Rattle.std.proofs.Common.{◌≡◌, length}
use Rattle.stream.specs.Plains.{plain_is}
use Rattle.list.specs.Stands.{Stands}
use Rattle.list.proofs.WayLaws.{left_in}
use Rattle.list.proofs.lines.Given as goal

abbrev pub invariant-loop-listed : goal.invariant-loop-listed
invariant-loop-listed g l = Stands l.file (plain_is l.plain).view × (length l.line ≡ 532)

abbrev pub decreases-loop-listed : goal.decreases-loop-listed
decreases-loop-listed g l = left_in l.file (plain_is l.plain).view
