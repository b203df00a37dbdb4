-- `ops_decide::difference` meets its contract: the first card holds a key.
-- Assumes nothing.
use Rattle.ops_decide.proofs.DecideCases.{difference_held}
use Rattle.ops_decide.proofs.difference.Goals as goal

pub returns-in-Holds : goal.returns-in-Holds
returns-in-Holds c = λ X S.
    let a = c.args in
    difference_held a.keys.now a.cards.now _ c.requires.0 X S _ c.at_first.result _ c.in-Holds.is (c.at_first.ensures X S)
