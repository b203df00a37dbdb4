-- What a page of items gives back, against `items` (crate ops_paging).
--     stop_as w                  the stop that stands for one of the definition: that of a range
--     HasRoom most ..           the four buffers have room for `most` items
--     PagedBy w ..              the answer and the four buffers of a call whose definition answers w
-- Assumes nothing.
use Rattle.std.specs.Prelude.{◌≡◌, List, ℕ, ◌*◌, ◌≤◌, length}
use Rattle.paging.specs.Paging.{row_len, rows_after, values_after}
use Rattle.ops_paging.specs.ItemPaging.{ItemPage, lines_of, eights_after, index_of, value_of}
pub use Rattle.range_fill.specs.RangedRows.{stop_as}
use Rattle.range_fill.specs.declared.Ranged.{Ranged}

pub record HasRoom (most : ℕ) (rows counts numbers values : List ℕ) : Type 0 where
  pub row : row_len * most ≤ length rows
  pub count : most ≤ length counts
  pub number : 8 * most ≤ length numbers
  pub value : 8 * most ≤ length values

pub record PagedBy (w : ItemPage) (rows₀ rows counts₀ counts numbers₀ numbers values₀ values : List ℕ) (r : Ranged) : Type 0 where
  pub count : r.count ≡ length w.items
  pub stop : r.stop ≡ stop_as w.stop
  pub rows_are : rows ≡ rows_after (lines_of w.items) rows₀
  pub counts_are : counts ≡ values_after (lines_of w.items) counts₀
  pub numbers_are : numbers ≡ eights_after index_of w.items numbers₀
  pub values_are : values ≡ eights_after value_of w.items values₀
