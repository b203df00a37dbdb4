-- The kinds of the bounds and the order of their bytes decide.
use Rattle.stream_number.proofs.Comparing.{below_is, upto_is}
use Rattle.stream_number.proofs.NumberCases.{cross_past}
use Rattle.stream_number.proofs.crosses.Goals.{in_default-via-in-Included+in_default, in_default-via-in_default+in_default}
use Rattle.stream_number.proofs.crosses.Goals as goal

-- both included: they cross where the upper's bytes come first
pub returns-in-Included-Included : goal.returns-in-Included-Included
returns-in-Included-Included c =
    let w = c.in-Included-Included in
    rw (w.is-0, w.is-1) (below_is w.high.now w.low.now _ c.lt.ensures)

-- either excluded: they cross unless the lower's bytes come first
pub returns-in_default : goal.returns-in_default
returns-in_default c =
    let is = rw (c.bytes_of.ensures, c.bytes_of-in_default.ensures) at (upto_is c.bytes_of.result.now c.bytes_of-in_default.result.now _ c.le.ensures) in
    elim c.in_default.branch [
      | in_default-via-in-Included+in_default w ↦ rw (w.in_default.is-0, w.in_default.is-1) (rw (w.in_default.is-0, w.in_default.is-1) at is)
      | in_default-via-in_default+in_default w ↦ rw w.in_default.is-0 (cross_past c.args.upper _ w.in_default.not-Unbounded-1 _ (rw w.in_default.is-0 at is))
    ]
