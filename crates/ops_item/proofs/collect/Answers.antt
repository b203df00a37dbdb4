-- `ops_item::collect` meets its contract: the cards are looked at from the last to the first.
-- Assumes nothing.
use Rattle.std.proofs.Common.{length, arith}
use Rattle.ops_item.proofs.CardLoops.{collecting_none, collecting_room, collecting_on, collecting_all}
use Rattle.ops_item.proofs.collect.Goals as goal

pub loop-i-init : goal.loop-i-init
loop-i-init c = let a = c.args in collecting_none a.keys.now (length a.cards.now) a.cards.now a.key c.none-pairs.result c.none-pairs.ensures

pub gather-pairs-requires : goal.gather-pairs-requires
gather-pairs-requires c =
    let l = c.loop-i in
    let a = c.args in
    (c.requires.2, c.requires.1.few _ _ (omega arith), collecting_room a.keys.now (length a.cards.now) a.cards.now a.key l.pairs l.i c.requires.1 c.requires.0 (omega arith) l.invariant)

pub loop-i-preserved : goal.loop-i-preserved
loop-i-preserved c =
    let l = c.loop-i in
    let a = c.args in
    collecting_on a.keys.now (length a.cards.now) a.cards.now a.key l.pairs l.i _ c.gather-pairs.result (omega arith) l.invariant c.gather-pairs.ensures

pub returns : goal.returns
returns c =
    let l = c.loop-i in
    let a = c.args in
    collecting_all a.keys.now (length a.cards.now) a.cards.now a.key l.pairs l.i (omega arith) l.invariant
