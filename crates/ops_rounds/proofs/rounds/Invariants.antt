-- The call from the cards given goes on, and a round begins. The measure is what the cards have still to do.
use Rattle.std.proofs.Common.{map}
use Rattle.ops_decide.specs.Verdicts.{op_is}
use Rattle.ops_turn.specs.Parts.{to_do}
use Rattle.ops_rounds.proofs.RoundsLaws.{Rounds}
use Rattle.ops_rounds.proofs.rounds.Given as goal

abbrev pub invariant-loop-stepped : goal.invariant-loop-stepped
invariant-loop-stepped l = Rounds (map (λ f. f.now) l.files) (op_is l.op) l.count l.space l.initial.cards l.cards l.keys l.seen 0 l.moved

abbrev pub decreases-loop-stepped : goal.decreases-loop-stepped
decreases-loop-stepped l = to_do (map (λ f. f.now) l.files) l.count l.cards l.seen 0
