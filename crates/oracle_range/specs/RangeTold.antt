-- What the exported range answers: a number, and what the lent buffers hold afterwards.
--     stop_number w                                           1000 for the end, 1001 for more, or 2000 and the refusal
--     stop_told s                                             the same of a stop of the code
--     RangeTold w rows₀ rows values₀ values count r          what is told of the page w
-- Assumes nothing.
use Rattle.std.specs.Prelude.{◌≡◌, List, [], ◌∷◌, ℕ, ◌+◌, length, Ok, Err, Result}
use Rattle.format.specs.declared.Refusal.{Refusal}
use Rattle.format.specs.Limits.{number}
use Rattle.paging.specs.Paging as P
use Rattle.paging.specs.Paging.{Page, ended, more, rows_after, values_after}
use Rattle.range_fill.specs.declared.Stop.{Stop}
use Rattle.range_fill.specs.declared.Stop.TheVariants.{End, More}

abbrev pub stop_number : P.Stop → ℕ
stop_number ended = 1000
stop_number more = 1001
stop_number (P.Stop.refused n) = 2000 + number n

abbrev pub stop_told : Result Stop Refusal → ℕ
stop_told (Ok End) = 1000
stop_told (Ok More) = 1001
stop_told (Err n) = 2000 + number n

pub record RangeTold (w : Page) (rows₀ rows values₀ values count : List ℕ) (r : ℕ) : Type 0 where
  pub answer : r ≡ stop_number w.stop
  pub count_is : count ≡ length w.entries ∷ []
  pub rows_are : rows ≡ rows_after w.entries rows₀
  pub values_are : values ≡ values_after w.entries values₀
