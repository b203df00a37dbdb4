-- `baxhiso_ops::fst_items_rows` meets its contract: what the page answered is the definition's answer, its stop the result and its count written.
-- Assumes nothing.
use Rattle.std.proofs.Common.{[], ◌∷◌, length}
use Rattle.baxhiso.specs.ResultLaws.{result_back}
use Rattle.baxhiso_ops.proofs.ItemResults.{items_asked, items_leaves}
use Rattle.baxhiso_ops.proofs.fst_items_rows.Goals as goal

pub returns : goal.returns
returns c =
    let x = c.args in
    items_leaves
    (items_asked (x.a.now ∷ x.b.now ∷ x.c.now ∷ x.d.now ∷ x.e.now ∷ x.f.now ∷ x.g.now ∷ x.h.now ∷ []) x.count x.most (length x.rows.now) (length x.counts.now)
    (length x.numbers.now) (length x.values.now) c.op_of-operation.ensures c.bound_with-from.ensures c.bound_with-to.ensures c.items-paged.ensures)
    _ _ (result_back c.stopped.result c.stopped.type_inv) c.stopped.ensures
