-- `ops_seen::deal` meets its contract: one card more is dealt.
-- Assumes nothing.
use Rattle.std.proofs.Common.{refl, rules}
use Rattle.ops_seen.proofs.SeeLoops.{dealing_none, dealing_on, dealing_all}
use Rattle.ops_seen.proofs.deal.Goals as goal

pub loop-i-init : goal.loop-i-init
loop-i-init c = dealing_none c.args.count c.args.cards.now c.args.seen.now (search rules)

pub loop-i-preserved : goal.loop-i-preserved
loop-i-preserved c =
    let l = c.loop-i in
    let a = c.args in
    dealing_on a.count a.cards.now a.seen.now l.cards l.i _ _ _ c.requires l.invariant c.loop-i-test.true refl (search rules)

pub returns : goal.returns
returns c =
    let l = c.loop-i in
    dealing_all c.args.count c.args.cards.now c.args.seen.now l.cards l.i c.loop-i-test.false l.invariant
