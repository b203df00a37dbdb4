-- A key passes an included bound whose bytes come before it, and an excluded one that it does not come before.
use Rattle.stream_bounds.proofs.OrderLaws.{above_is, from_is}
use Rattle.stream_bounds.proofs.exceeded.Goals as goal

pub returns-in-Included : goal.returns-in-Included
returns-in-Included c = rw c.in-Included.is (above_is c.args.key.now c.in-Included.bytes.now _ c.gt.ensures)

pub returns-in-Excluded : goal.returns-in-Excluded
returns-in-Excluded c = rw c.in-Excluded.is (from_is c.args.key.now c.in-Excluded.bytes.now _ c.ge.ensures)
