-- `ops_page::items_from` meets its contract: a refused start, or the calls on the readings at their starts. Assumes nothing.
use Rattle.std.proofs.Common.{sym, ap}
use Rattle.ops_paging.specs.ItemPaging.{page_from}
use Rattle.ops_decide.specs.Verdicts.{op_is}
use Rattle.ops_page.specs.PageLaws.{paged_as, refused_by}
use Rattle.ops_page.proofs.items_from.Goals as goal

pub returns-in-Err : goal.returns-in-Err
returns-in-Err c =
    let a = c.args in
    refused_by _ a.rows.now a.counts.now a.numbers.now a.values.now (ap (page_from (op_is a.op) a.most) (rw c.in-Err.is at c.starts.ensures)) c.refused.ensures

pub fill-requires-clause-began : goal.fill-requires-clause-began
fill-requires-clause-began c =
    let s = rw c.in-Ok.is at c.starts.ensures in
    record { cards = s.all; begun = s.begun }

pub returns-in-Ok : goal.returns-in-Ok
returns-in-Ok c =
    let a = c.args in
    let s = rw c.in-Ok.is at c.starts.ensures in
    paged_as (sym (ap (page_from (op_is a.op) a.most) s.is)) (c.fill.ensures s.all s.begun)
