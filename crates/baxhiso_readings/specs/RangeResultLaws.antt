-- From what a page of rows answers to what the functions for C leave: the ranges here, and other pages of rows.
-- Assumes nothing.
use Rattle.std.specs.Prelude.{◌≡◌, refl, List, ℕ, ℤ}
use Rattle.std.proofs.Common.{ap, ◌∙◌}
use Rattle.paging.specs.Paging as G
use Rattle.paging.specs.Paging.{Page, ended, more}
use Rattle.range_fill.specs.declared.Ranged.{Ranged}
use Rattle.range_fill.specs.RangedRows.{stop_as, RangedBy}
use Rattle.baxhiso_readings.specs.Readings.{range_result, stop_of, RangeLeaves}

stop_is : (w : G.Stop) → stop_of (stop_as w) ≡ range_result w
stop_is ended = refl
stop_is more = refl
stop_is (G.Stop.refused n) = refl

pub range_leaves : {w : Page} {rows₀ rows values₀ values : List ℕ} {g : Ranged} → RangedBy w rows₀ rows values₀ values g → (r z : ℤ) → r ≡ z
    → z ≡ stop_of g.stop → RangeLeaves w rows₀ rows values₀ values g.count r
range_leaves {w} h r z same is =
    record { result = same ∙ is ∙ ap stop_of h.stop ∙ stop_is w.stop; count_is = h.count; rows_are = h.rows_are; values_are = h.values_are }
