-- The ways out of `number` and of its parts.
--     cross_past                  an excluded lower bound that crosses the upper
--     within_free                 the keys within no upper bound
--     number-..                   no bytes; crossed bounds; any other
-- Assumes nothing.
use Rattle.std.specs.Prelude.{Some, Ok}
use Rattle.std.specs.Borrow.{Bor}
use Rattle.std.specs.declared.ops.Bound.{Bound}
use Rattle.std.specs.declared.ops.Bound.TheVariants.{Included, Excluded, Unbounded}
use mathlib.Core.Path.{◌≡◌, refl, ap, ◌∙◌}
use mathlib.Core.Bool.{Bool, true, false, not}
use mathlib.Core.List.{List}
use Prim.Native.Nat.{ℕ, ◌≤◌}
use native.Mathlib.Decide.{ℕ_discrete}
use native.Mathlib.Omega.{arith}
use borrow.Author.Tests.{le-leb}
use lib.Dec.{eqb}
use lib.ListN.{length, get_or}
use Rattle.format.specs.Limits.{max_sum}
use Rattle.format.specs.Paths.{Fst}
use Rattle.format.specs.Strings as S
use Rattle.format.specs.Strings.{before_test, unbounded, excluded}
use Rattle.format.specs.Tables.{keys_at}
use Rattle.reading.specs.Reading.{bound_bytes}
use Rattle.stream_start.specs.Views.{bound_of}
use Rattle.plain.specs.Numbers.{Tally, comes_to, less, crosses, within, below_lower, number}
use Rattle.stream_upto.specs.Counts.{total_as, walked_as}
use Rattle.stream_upto.specs.CountsLaws.{keys_zero, keys_entry}

-- ---- the table

total_le : (n : ℕ) → n ≤ max_sum → Some n ≡ total_as n
total_le n h = rw (le-leb n max_sum h)

keys_fit : (c : List ℕ) (a : ℕ) → get_or c a 0 ≤ max_sum → keys_at c a ≤ max_sum
keys_fit c a h = elim (ℕ_discrete a 0) [ yes z ↦ omega (arith, keys_zero c a z) | no ne ↦ omega (arith, keys_entry c a ne) ]

-- ---- the kinds of the bounds

-- an excluded lower bound
pub cross_past : (l : Bound (Bor (List ℕ))) (x : List ℕ) → ¬ (l ≡ Unbounded) → (r : Bool) → r ≡ not (before_test x (bound_bytes (bound_of l)))
    → r ≡ crosses (excluded x) (bound_of l)
cross_past (Included y) x some r is = is
cross_past (Excluded y) x some r is = is
cross_past Unbounded x some r is = absurd (some refl)

module _ (f : Fst) (c : List ℕ) where
  pub within_free : get_or c f.root 0 ≤ max_sum → (n : ℕ) → n ≡ keys_at c f.root → Ok (Some n) ≡ walked_as (within f c unbounded)
  unfolding within
  within_free fits n is = ap Ok (ap Some is ∙ total_le (keys_at c f.root) (keys_fit c f.root fits))

-- ---- the number

module _ (f : Fst) (c : List ℕ) (lo hi : S.Bound) where
  pub number_blank : eqb (length f.bytes) 0 ≡ true → comes_to 0 ≡ number f c lo hi
  unfolding number
  number_blank z = rw z

  module _ (some : eqb (length f.bytes) 0 ≡ false) where
    pub number_crossed : crosses lo hi ≡ true → comes_to 0 ≡ number f c lo hi
    unfolding number
    number_crossed e = rw (some, e)

    pub number_read : crosses lo hi ≡ false → (r : Tally) → r ≡ less (within f c hi) (below_lower f c lo) → r ≡ number f c lo hi
    unfolding number
    number_read e r is = rw (some, e) is
