-- `range_bound::against` meets its contract: one law for each side.
-- Assumes nothing.
use Rattle.std.proofs.Common.{sym, ◌∙◌, arith}
use mathlib.Core.Bool.{true≢false}
use mathlib.Core.Logic.{inl, inr}
use Rattle.range_bound.proofs.Sides.{past_end, past_high, past_own, below_low, along_same}
use Rattle.range_bound.proofs.against.Goals as goal

-- the bound has ended
pub returns-in_default : goal.returns-in_default
returns-in_default c = let a = c.args in past_end a.excluded a.bound.now a.k a.x (grind arith)

pub returns-in-Less : goal.returns-in-Less
returns-in-Less c = let a = c.args in below_low a.excluded a.bound.now a.k a.x (grind arith) (grind arith)

pub returns-in-Greater : goal.returns-in-Greater
returns-in-Greater c = let a = c.args in past_high a.excluded a.bound.now a.k a.x (grind arith) (grind arith)

-- the bound's own key, which is excluded
pub returns-then-excluded : goal.returns-then-excluded
returns-then-excluded c = let a = c.args in past_own a.excluded a.bound.now a.k a.x (grind arith) (grind arith) (grind arith) (omega arith) c.if-excluded.true

-- the bound has more bytes, or is included
pub returns-else-k-bound : goal.returns-else-k-bound
returns-else-k-bound c = let a = c.args in along_same a.excluded a.bound.now a.k a.x (grind arith) (grind arith) (grind arith)
    (λ e whole. elim c.else-k-bound.either [ inl w ↦ absurd (true≢false (sym e ∙ w.1)) | inr w ↦ w whole ])
