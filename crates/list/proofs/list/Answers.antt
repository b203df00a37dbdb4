-- What began is on its way. Assumes nothing.
use Rattle.list.proofs.WayLaws.{way_begins}
use Rattle.list.proofs.list.Goals as goal

-- the reading that began is on its way
pub lines-requires : goal.lines-requires
lines-requires g c = way_begins _ c.begin-begun.ensures c.in-Ok.is
