-- The bytes from i on are written, last first, up to place p.
use Rattle.node_parts.proofs.Storing.{BytesFrom}
use Rattle.node_parts.proofs.put_bytes.Given as goal

abbrev pub invariant-loop-i : goal.invariant-loop-i
invariant-loop-i l = BytesFrom l.initial.out l.at l.bytes l.out l.p l.i
