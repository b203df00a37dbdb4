-- By the bound's kind.
use Rattle.plain.specs.Numbers.{below_lower}
use Rattle.stream_number.proofs.below_lower.Goals as goal

pub returns-in-Unbounded : goal.returns-in-Unbounded
unfolding below_lower
returns-in-Unbounded c = rw c.in-Unbounded.is

pub returns-in-Included : goal.returns-in-Included
unfolding below_lower
returns-in-Included c = rw c.in-Included.is c.up_to.ensures

pub returns-in-Excluded : goal.returns-in-Excluded
unfolding below_lower
returns-in-Excluded c = rw c.in-Excluded.is c.up_to-in-Excluded.ensures
