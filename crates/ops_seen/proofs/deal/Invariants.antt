-- The first i cards are dealt, the others as given.
use Rattle.ops_seen.proofs.SeeLoops.{Dealing}
use Rattle.ops_seen.proofs.deal.Given as goal

abbrev pub invariant-loop-i : goal.invariant-loop-i
invariant-loop-i l = Dealing l.count l.initial.cards l.seen l.cards l.i
