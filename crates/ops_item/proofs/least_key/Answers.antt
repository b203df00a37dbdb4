-- `ops_item::least_key` meets its contract: the cards are looked at from the last to the first.
-- Assumes nothing.
use Rattle.std.proofs.Common.{length, arith}
use Rattle.ops_item.proofs.CardLoops.{leasting_none, leasting_on, leasting_all}
use Rattle.ops_item.proofs.least_key.Goals as goal

pub loop-i-init : goal.loop-i-init
loop-i-init c = let a = c.args in leasting_none a.keys.now (length a.cards.now) a.cards.now

pub lesser-least-requires : goal.lesser-least-requires
lesser-least-requires c = let l = c.loop-i in (l.invariant.few, c.requires.few _ _ (omega arith))

pub loop-i-preserved : goal.loop-i-preserved
loop-i-preserved c =
    let l = c.loop-i in
    let a = c.args in
    leasting_on a.keys.now (length a.cards.now) a.cards.now l.least l.i _ c.lesser-least.result (omega arith) l.invariant c.lesser-least.ensures

pub returns : goal.returns
returns c =
    let l = c.loop-i in
    let a = c.args in
    leasting_all a.keys.now (length a.cards.now) a.cards.now l.least l.i (omega arith) l.invariant
