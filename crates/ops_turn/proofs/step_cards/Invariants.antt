-- Each call that was on its way has come to the card number i.
use Rattle.std.proofs.Common.{map}
use Rattle.ops_turn.proofs.StepLoop.{Going}
use Rattle.ops_turn.proofs.step_cards.Given as goal

abbrev pub invariant-loop-i : goal.invariant-loop-i
invariant-loop-i l = Going (map (λ f. f.now) l.files) l.space l.count l.initial.cards l.initial.keys l.initial.seen l.cards l.keys l.seen l.i l.moved
