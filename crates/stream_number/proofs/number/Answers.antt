-- `stream_number::number` meets its contract: nothing is read of a file without bytes, or where the bounds cross; else the two walks decide.
-- Assumes nothing.
use Rattle.std.proofs.Common.{sym, ◌∙◌}
use Rattle.format.specs.Paths.{fst_with}
use Rattle.plain.specs.Numbers as N
use Rattle.stream_start.specs.Views.{bound_of}
use Rattle.stream_number.proofs.NumberCases.{number_blank, number_crossed, number_read}
use Rattle.stream_number.proofs.number.Goals as goal

-- the file has no bytes
pub returns-then-is_empty : goal.returns-then-is_empty
returns-then-is_empty c =
    let a = c.args in
    number_blank (fst_with a.fst.bytes.now a.fst.version a.fst.root) a.counts.now (bound_of a.lower) (bound_of a.upper) (sym c.is_empty.ensures ∙ c.if-is_empty.true)

-- the bounds cross
pub returns-then-crosses : goal.returns-then-crosses
returns-then-crosses c =
    let a = c.args in
    number_crossed (fst_with a.fst.bytes.now a.fst.version a.fst.root) a.counts.now (bound_of a.lower) (bound_of a.upper)
    (sym c.is_empty.ensures ∙ c.if-is_empty.false) (sym c.crosses.ensures ∙ c.if-crosses.true)

-- the keys within, less those before
pub returns : goal.returns
returns c =
    let a = c.args in
    let f = fst_with a.fst.bytes.now a.fst.version a.fst.root in
    let lo = bound_of a.lower in
    let hi = bound_of a.upper in
    number_read f a.counts.now lo hi (sym c.is_empty.ensures ∙ c.if-is_empty.false) (sym c.crosses.ensures ∙ c.if-crosses.false) _
    (c.less.ensures (N.within f a.counts.now hi) (N.below_lower f a.counts.now lo) c.within-w.ensures c.below_lower-b.ensures)
