-- `listing_lines::put_hex`: the first bytes are written.
-- Assumes nothing.
use Rattle.std.proofs.Common.{length}
use Rattle.listing_lines.proofs.Hexes.{HexTo}
use Rattle.listing_lines.proofs.put_hex.Given as goal

abbrev pub invariant-loop-i : goal.invariant-loop-i
invariant-loop-i l = HexTo l.initial.line l.at l.key (length l.key) l.line l.i
