-- The first n bytes of path, then what the node at addr gives for what is left, is the answer; the measure is the room for bytes.
use Rattle.std.proofs.Common.{◌-◌}
use Rattle.format.specs.View.{fst_is}
use Rattle.lookup_search.proofs.Searching.{SearchTo}
use Rattle.lookup_search.proofs.find_key.Given as goal

abbrev pub invariant-loop-choice : goal.invariant-loop-choice
invariant-loop-choice l = SearchTo (fst_is l.fst) l.value l.path l.addr l.left l.n

abbrev pub decreases-loop-choice : goal.decreases-loop-choice
decreases-loop-choice l = 255 - l.n
