-- `range_turn::highest`: the first `top` levels decide.
-- Assumes nothing.
use Rattle.format.specs.View.{fst_is}
use Rattle.range_turn.proofs.TopLaws.{Topping}
use Rattle.range_turn.proofs.highest.Given as goal

abbrev pub invariant-loop-top : goal.invariant-loop-top
invariant-loop-top l = Topping (fst_is l.fst) l.stack.addrs l.stack.trans l.levels l.top
