-- The loop's invariant: the entries passed stand at the front of the table.
use Rattle.std.proofs.Common.{length}
use Rattle.buffers.specs.CopyLaws.{Copied}
use Rattle.convert_layout.proofs.put_table.Given as goal

abbrev pub invariant-loop-i : goal.invariant-loop-i
invariant-loop-i l = Copied l.sums (length l.sums) l.initial.table l.table l.i
