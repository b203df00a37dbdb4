-- `range_bound::Standing::follow` meets its contract: a byte before this one decides, or this one.
-- Assumes nothing.
use Rattle.std.proofs.Common.{◌∙◌}
use Rattle.range_bound.specs.BesideLaws.{longer_set, beside_over, beside_keep, beside_along}
use Rattle.range_bound.proofs.Reaches.{followed_past, followed_within}
use Rattle.range_bound.proofs.Standing.follow.Goals as goal

-- a byte before it is past the bound
pub returns-then-self : goal.returns-then-self
returns-then-self c = λ is room g. followed_past (beside_over (longer_set is c.args.k c.args.x room) g c.if-self-k.true ∙ c.if-self.true)

-- a byte before it is below the bound
pub returns-then-self-k : goal.returns-then-self-k
returns-then-self-k c =
    λ is room g.
    let l = longer_set is c.args.k c.args.x room in
    followed_within c.args.self.same (beside_over l g c.if-self-k.true ∙ c.if-self.false, beside_keep l g c.if-self-k.true)

-- it agrees too
pub returns-in-Along : goal.returns-in-Along
returns-in-Along c =
    λ is room g.
    followed_within _ (beside_along (longer_set is c.args.k c.args.x room) g c.if-self-k.false c.side_of.ensures c.in-Along.is)
