-- By the bound's kind. The root's entry fits, as every entry of the table does.
use Rattle.std.proofs.Common.{arith}
use Rattle.format.specs.View.{fst_is}
use Rattle.plain.specs.Numbers.{within}
use Rattle.stream_number.proofs.NumberCases.{within_free}
use Rattle.stream_number.proofs.within.Goals as goal

-- no upper bound
pub returns-in-Unbounded : goal.returns-in-Unbounded
returns-in-Unbounded c =
    let a = c.args in
    rw c.in-Unbounded.is (within_free (fst_is a.fst) a.counts.now (omega (arith, c.type_inv.counts a.fst.root)) _ c.keys_at.ensures)

pub returns-in-Included : goal.returns-in-Included
unfolding within
returns-in-Included c = rw c.in-Included.is c.up_to.ensures

pub returns-in-Excluded : goal.returns-in-Excluded
unfolding within
returns-in-Excluded c = rw c.in-Excluded.is c.up_to-in-Excluded.ensures
