-- Results of the function over several files, read back from their bits, and what a page leaves.
-- Assumes nothing.
use mathlib.Core.Path.{◌≡◌, refl, ap, ◌∙◌}
use mathlib.Core.List.{List}
use Prim.Native.Nat.{ℕ}
use lib.IntN.{ℤ}
use Rattle.paging.specs.Paging as G
use Rattle.paging.specs.Paging.{ended, more}
use Rattle.format.specs.Strings.{Bound}
use Rattle.ops_decide.specs.declared.Op.{Op}
use Rattle.ops_decide.specs.Verdicts.{op_is}
use Rattle.ops_paging.specs.ItemPaging.{ItemPage, items}
use Rattle.range_fill.specs.declared.Ranged.{Ranged}
use Rattle.ops_page.specs.PagedItems.{stop_as, PagedBy}
use Rattle.baxhiso_readings.specs.Readings.{range_result}
use Rattle.baxhiso_ops.specs.Items.{stop_of, ItemsLeaves}

-- the operation and the bounds are those that the numbers stand for
pub items_asked : (fs : List (List ℕ)) {o p : Op} {k l lo hi : Bound} (count most a b c d : ℕ) {rows₀ rows counts₀ counts numbers₀ numbers values₀ values : List ℕ}
    {g : Ranged} → o ≡ p → k ≡ lo → l ≡ hi → PagedBy (items (op_is o) count fs k l most a b c d) rows₀ rows counts₀ counts numbers₀ numbers values₀ values g
    → PagedBy (items (op_is p) count fs lo hi most a b c d) rows₀ rows counts₀ counts numbers₀ numbers values₀ values g
items_asked fs count most a b c d x p q h = rw (← x, ← p, ← q) h

stop_is : (w : G.Stop) → stop_of (stop_as w) ≡ range_result w
stop_is ended = refl
stop_is more = refl
stop_is (G.Stop.refused n) = refl

pub items_leaves : {w : ItemPage} {rows₀ rows counts₀ counts numbers₀ numbers values₀ values : List ℕ} {g : Ranged}
    → PagedBy w rows₀ rows counts₀ counts numbers₀ numbers values₀ values g → (r z : ℤ) → r ≡ z → z ≡ stop_of g.stop
    → ItemsLeaves w rows₀ rows counts₀ counts numbers₀ numbers values₀ values g.count r
items_leaves {w} h r z same is =
    record {
      result = same ∙ is ∙ ap stop_of h.stop ∙ stop_is w.stop;
      found_is = h.count;
      rows_are = h.rows_are;
      counts_are = h.counts_are;
      numbers_are = h.numbers_are;
      values_are = h.values_are;
    }
