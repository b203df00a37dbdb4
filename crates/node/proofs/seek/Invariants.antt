-- Of the first bytes `over` are above b, and they stand first.
use Rattle.std.proofs.Common.{length}
use Rattle.node.proofs.InputSearch.{Over}
use Rattle.node.proofs.seek.Given as goal

abbrev pub invariant-loop-input : goal.invariant-loop-input
invariant-loop-input l = Over l.inputs 0 (length l.inputs) l.b l.over l.input-index
