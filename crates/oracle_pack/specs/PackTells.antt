-- What the exported packing answers: a number, and what the lent slices hold afterwards.
--     PackTold ..    the answer, and the number that stands for it
-- Assumes nothing.
use Rattle.std.specs.Prelude.{◌≡◌, List, ℕ, Result}
use Rattle.format.specs.declared.Refusal.{Refusal}
use Rattle.packing.specs.Packing.{Answer}
use Rattle.pack_cell.specs.declared.Cell.{Cell}
use Rattle.pack.specs.PackList.{PacksBy}
use Rattle.oracle_numbers.specs.Numbers.{number_as}

pub record PackTold (A : Answer) (out : List ℕ) (cells : List Cell) (inputs leasts targets : List ℕ) (r : ℕ) : Type 0 where
  pub answer : Result ℕ Refusal
  pub packs : PacksBy A out cells inputs leasts targets answer
  pub number : r ≡ number_as answer
