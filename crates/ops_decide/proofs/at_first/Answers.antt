-- `ops_decide::at_first` meets its contract: a card that holds a lesser key asks for a round.
-- Assumes nothing.
use Rattle.std.proofs.Common.{sym, ◌∙◌}
use Rattle.ops_decide.proofs.DecideCases.{first_less}
use Rattle.ops_decide.proofs.at_first.Goals as goal

pub returns-then-is_lt : goal.returns-then-is_lt
returns-then-is_lt c = λ X S.
    let a = c.args in
    first_less a.keys.now a.cards.now c.least_key.result c.least_key.ensures X S a.key _ c.in-Some.is c.compare-order.result c.compare-order.ensures _
    (sym c.is_lt.ensures ∙ c.if-is_lt.true) c.use_up.ensures
