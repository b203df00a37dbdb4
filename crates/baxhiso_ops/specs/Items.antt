-- What the function over several files for C answers, and what it leaves in each buffer and number, in every case (include/baxhiso.h).
--     op_of n, stop_of s       the operation of a number, the stop of a page as a result: those of the crates below
--     ItemsLeaves w ..        a page of items that answers w: the result, the four buffers and how many
-- A name with ₀ is what the caller handed in. Assumes nothing.
use Rattle.std.specs.Prelude.{◌≡◌, List, ℕ, ℤ, length}
use Rattle.paging.specs.Paging.{rows_after, values_after}
use Rattle.ops_paging.specs.ItemPaging.{ItemPage, lines_of, eights_after, index_of, value_of}
pub use Rattle.ops_decide.specs.Verdicts.{op_of}
pub use Rattle.baxhiso_results.specs.Results.{stop_of}
use Rattle.baxhiso_readings.specs.Readings.{range_result}

-- the items that were found stand in their places, also beside a refusal, and the rest as given
pub record ItemsLeaves (w : ItemPage) (rows₀ rows counts₀ counts numbers₀ numbers values₀ values : List ℕ) (found : ℕ) (r : ℤ) : Type 0 where
  pub result : r ≡ range_result w.stop
  pub found_is : found ≡ length w.items
  pub rows_are : rows ≡ rows_after (lines_of w.items) rows₀
  pub counts_are : counts ≡ values_after (lines_of w.items) counts₀
  pub numbers_are : numbers ≡ eights_after index_of w.items numbers₀
  pub values_are : values ≡ eights_after value_of w.items values₀
