-- What is told of a range: one law for each way that it stops.
-- Assumes nothing.
use mathlib.Core.Path.{◌≡◌, refl, ap, ◌∙◌}
use mathlib.Core.List.{List, [], ◌∷◌}
use Prim.Native.Nat.{ℕ}
use Rattle.paging.specs.Paging as P
use Rattle.paging.specs.Paging.{Page, ended, more}
use Rattle.range_fill.specs.declared.Ranged.{Ranged}
use Rattle.range_fill.specs.RangedRows.{stop_as, RangedBy}
use Rattle.oracle_range.specs.RangeTold.{stop_told, stop_number, RangeTold}

stop_as_lem : (w : P.Stop) → stop_told (stop_as w) ≡ stop_number w
stop_as_lem ended = refl
stop_as_lem more = refl
stop_as_lem (P.Stop.refused n) = refl

pub range_told : {w : Page} {rows₀ rows values₀ values : List ℕ} {r : Ranged} → RangedBy w rows₀ rows values₀ values r → (count : List ℕ) → count ≡ r.count ∷ []
    → (n : ℕ) → n ≡ stop_told r.stop → RangeTold w rows₀ rows values₀ values count n
range_told {w} {r = r} h count is n told =
    record {
      answer = told ∙ ap stop_told h.stop ∙ stop_as_lem w.stop;
      count_is = is ∙ ap (λ (n : ℕ). n ∷ []) h.count;
      rows_are = h.rows_are;
      values_are = h.values_are;
    }
