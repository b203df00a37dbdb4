-- The inputs after the first, compared with a bound one by one.
--     Agreeing hi b is k i     the first i of k agree
-- Assumes nothing.
use mathlib.Core.Bool.{false}
use mathlib.Core.List.{List}
use Prim.Native.Nat.{ℕ, ◌≤◌}
use lib.ListN.{drop}
use Rattle.format.specs.Strings as S
use Rattle.range_bound.specs.Besides.{Beside}

pub record Agreeing (hi : S.Bound) (b is : List ℕ) (k i : ℕ) : Type 0 where
  pub within : i ≤ k
  pub beside : Beside hi b (drop 1 is) i i false
