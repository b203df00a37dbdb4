-- The first i cards are looked at, the others as given.
use Rattle.ops_item.proofs.CardLoops.{Using}
use Rattle.ops_item.proofs.use_up.Given as goal

abbrev pub invariant-loop-card : goal.invariant-loop-card
invariant-loop-card l = Using l.keys l.initial.cards l.key l.meant l.cards l.card-index
