-- After a key's line the reading is still on its way, with fewer visits to come. Assumes nothing.
use Rattle.std.proofs.Common.{rules}
use Rattle.list.proofs.WayLaws.{way_on}
use Rattle.list.proofs.lines.Goals as goal

-- a key that is handed out leaves fewer visits to come
pub loop-listed-smaller : goal.loop-listed-smaller
loop-listed-smaller g c = (way_on _ _ _ _ _ c.in-Ok.listed _ c.loop-listed.invariant.0 c.next_line.ensures c.in-Ok.is c.in-Key.is).less

-- after a key the reading is still on its way
pub loop-listed-preserved : goal.loop-listed-preserved
loop-listed-preserved g c =
    ((way_on _ _ _ _ _ c.in-Ok.listed _ c.loop-listed.invariant.0 c.next_line.ensures c.in-Ok.is c.in-Key.is).stands, search rules)
