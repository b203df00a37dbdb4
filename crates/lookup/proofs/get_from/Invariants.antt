-- What is left of the key, from the node at addr with the running sum, decides the answer.
use Rattle.std.proofs.Common.{◌≤◌}
use Rattle.format.specs.Limits.{max_sum}
use Rattle.format.specs.View.{fst_is}
use Rattle.lookup.proofs.LookupWalks.{Looking}
use Rattle.lookup.proofs.get_from.Given as goal

abbrev pub invariant-loop-b : goal.invariant-loop-b
invariant-loop-b l = (l.sum ≤ max_sum) × Looking (fst_is l.fst) l.key l.b-index l.addr l.sum
