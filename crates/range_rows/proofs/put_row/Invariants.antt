-- `range_rows::put_row`: the length's byte and the first i bytes of the key are written.
-- Assumes nothing.
use Rattle.range_rows.proofs.RowWrites.{KeyCopied}
use Rattle.range_rows.proofs.put_row.Given as goal

abbrev pub invariant-loop-i : goal.invariant-loop-i
invariant-loop-i l = KeyCopied l.initial.rows l.first l.key l.rows l.i
