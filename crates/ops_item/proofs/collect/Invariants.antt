-- The values of the cards from i on are gathered.
use Rattle.std.proofs.Common.{length}
use Rattle.ops_item.proofs.CardLoops.{Collecting}
use Rattle.ops_item.proofs.collect.Given as goal

abbrev pub invariant-loop-i : goal.invariant-loop-i
invariant-loop-i l = Collecting l.keys (length l.cards) l.cards l.key l.pairs l.i
