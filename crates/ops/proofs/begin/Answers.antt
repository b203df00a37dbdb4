-- `ops::begin` meets its contract: each reading has a card that is still to be stepped.
-- Assumes nothing.
use Rattle.std.proofs.Common.{refl, rules}
use Rattle.ops.proofs.MergeCases.{count_wrong, begun_as, begun_none}
use Rattle.ops.proofs.begin.Goals as goal

pub returns-then-not-is_count : goal.returns-then-not-is_count
returns-then-not-is_count c =
    let a = c.args in
    begun_none a.op a.count a.readings _ (count_wrong a.count (c.is_count.ensures.no c.if-not-is_count.true)) refl

pub returns : goal.returns
returns c =
    let a = c.args in
    let items = c.map-cards.ensures.items in
    let counted = c.is_count.ensures.yes c.if-not-is_count.false in
    begun_as a.op a.count a.readings c.map-cards.result (search rules) items.long counted.0 counted.1
    (λ i d e h. let t = (items.at i d e h).2 in search rules)
