-- The first i bytes fit.
-- Assumes nothing.
use Rattle.std.proofs.Common.{take, drop}
use Rattle.patterned_fit.specs.Positions.{positions_is}
use Rattle.patterned_fit.proofs.CountOfLaws.{Fitted}
use Rattle.patterned_fit.proofs.Pattern.count_of.Given as goal

abbrev pub invariant-loop-i : goal.invariant-loop-i
invariant-loop-i l = Fitted (positions_is l.self.len l.self.positions) (take l.k (drop 1 l.stack.inps)) l.i
