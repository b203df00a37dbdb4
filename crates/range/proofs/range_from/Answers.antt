-- `range::range_from` meets its contract: the refusal of the walk along the lower bound, or the rows from its levels on. Assumes nothing.
use Rattle.std.proofs.Common.{sym, ap, arith}
use Rattle.format.specs.Laws.OpeningLaws.{root_fits}
use Rattle.paging.specs.Paging.{page_from}
use Rattle.stream_start.specs.Views.{bound_of, empty_is}
use Rattle.range_fill.specs.FillLaws.{ranged_as, refused_by}
use Rattle.range.proofs.RangeCases.{short_both, blank_told, start_halted, start_began, start_ready}
use Rattle.range.proofs.range_from.Goals as goal

-- version 0 stands for no bytes
pub pending_at-empty-requires : goal.pending_at-empty-requires
pending_at-empty-requires c = blank_told c.requires.opens_as.0

-- the root fits, and the lower bound has at most 255 bytes
pub start_levels-requires : goal.start_levels-requires
start_levels-requires c =
    let a = c.args in
    let o = c.requires.opens_as.0 in (
      omega (arith, root_fits a.fst.bytes.now o.meta o.opens, o.root_is),
      blank_told o,
      (short_both (bound_of a.lower) (bound_of a.upper) c.requires.opens_as.1).0,
    )

-- the levels of the start can be gone on from
pub fill_all-requires-clause-ready : goal.fill_all-requires-clause-ready
fill_all-requires-clause-ready c =
    let a = c.args in
    start_ready c.requires.opens_as.0 (bound_of a.lower) (bound_of a.upper) c.requires.opens_as.1 (empty_is c.pending_at-empty.result) c.pending_at-empty.ensures
    _ _ _ _ _ (rw c.in-Ok.is at c.start_levels.ensures.found)

-- the walk along the lower bound is refused
pub returns-in-Err : goal.returns-in-Err
returns-in-Err c =
    let a = c.args in
    refused_by _ a.rows.now a.values.now
    (ap (page_from a.fst.bytes.now a.most)
    (start_halted c.requires.opens_as.0 (bound_of a.lower) (bound_of a.upper) c.requires.opens_as.1 (empty_is c.pending_at-empty.result) c.pending_at-empty.ensures _
    (rw c.in-Err.is at c.start_levels.ensures.found)))
    c.refused.ensures

-- the rows from its levels on
pub returns-in-Ok : goal.returns-in-Ok
returns-in-Ok c =
    let a = c.args in
    ranged_as
    (ap (page_from a.fst.bytes.now a.most)
    (sym (start_began c.requires.opens_as.0 (bound_of a.lower) (bound_of a.upper) c.requires.opens_as.1 (empty_is c.pending_at-empty.result)
    c.pending_at-empty.ensures _ (rw c.in-Ok.is at c.start_levels.ensures.found))))
    c.fill_all.ensures
