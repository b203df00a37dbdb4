-- `ops_decide::at_key` meets its contract: a key that belongs is the item, another asks for a round.
-- Assumes nothing.
use Rattle.ops_decide.proofs.DecideCases.{key_this, key_another}
use Rattle.ops_decide.proofs.at_key.Goals as goal

pub returns-then-takes : goal.returns-then-takes
returns-then-takes c = λ X S.
    let a = c.args in
    key_this a.keys.now a.op a.cards.now a.key c.collect-pairs.result _ c.takes.result c.collect-pairs.ensures c.use_up.ensures c.takes.ensures X S c.if-takes.true c.requires.2

pub returns-else-takes : goal.returns-else-takes
returns-else-takes c = λ X S.
    let a = c.args in
    key_another a.keys.now a.op a.cards.now a.key c.collect-pairs.result _ c.takes.result c.collect-pairs.ensures c.use_up.ensures c.takes.ensures X S c.if-takes.false
