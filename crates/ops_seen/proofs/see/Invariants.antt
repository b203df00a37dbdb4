-- The first i cards are seen.
use Rattle.ops_seen.proofs.SeeLoops.{Seeing}
use Rattle.ops_seen.proofs.see.Given as goal

abbrev pub invariant-loop-i : goal.invariant-loop-i
invariant-loop-i l = Seeing l.count l.fn.cards l.keys l.seen l.i
