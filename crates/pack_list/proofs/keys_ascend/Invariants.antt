-- Of the keys so far each comes before the next.
-- Assumes nothing.
use Rattle.pack_list.proofs.Ascents.{Ascended}
use Rattle.pack_list.proofs.keys_ascend.Given as goal

abbrev pub invariant-loop-i : goal.invariant-loop-i
invariant-loop-i l = Ascended l.list l.n l.keys l.i
