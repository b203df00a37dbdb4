-- The least key of the cards from i on is found.
use Rattle.std.proofs.Common.{length}
use Rattle.ops_item.proofs.CardLoops.{Leasting}
use Rattle.ops_item.proofs.least_key.Given as goal

abbrev pub invariant-loop-i : goal.invariant-loop-i
invariant-loop-i l = Leasting l.keys (length l.cards) l.cards l.least l.i
