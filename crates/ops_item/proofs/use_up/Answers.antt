-- `ops_item::use_up` meets its contract: one card more is looked at.
-- Assumes nothing.
use Rattle.std.proofs.Common.{arith}
use Rattle.ops_item.proofs.CardLoops.{using_none, using_on, using_all}
use Rattle.ops_item.proofs.use_up.Goals as goal

pub loop-card-init : goal.loop-card-init
loop-card-init c = let a = c.args in using_none a.keys.now a.cards.now a.key a.meant c.requires.0

pub used_up-requires : goal.used_up-requires
used_up-requires c = (c.requires.1, c.loop-card.invariant.few _ _ (omega arith))

pub loop-card-preserved : goal.loop-card-preserved
loop-card-preserved c =
    let l = c.loop-card in
    let a = c.args in
    using_on a.keys.now a.cards.now a.key a.meant l.cards l.card-index l.invariant _ c.used_up.result (omega arith) c.used_up.ensures

pub returns : goal.returns
returns c =
    let l = c.loop-card in
    let a = c.args in
    using_all a.keys.now a.cards.now a.key a.meant l.cards l.card-index l.invariant (omega arith)
