-- The keys so far end in order, and none is too long.
-- Assumes nothing.
use Rattle.pack_list.proofs.Ends.{Rose}
use Rattle.pack_list.proofs.ends_ok.Given as goal

abbrev pub invariant-loop-i : goal.invariant-loop-i
invariant-loop-i l = Rose l.list l.n l.last l.i
