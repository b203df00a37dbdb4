-- What packing a list answers and leaves in every lent slice (document 02, N4), by `pack_answer`, `output_after` and `cells_after`.
--     Settled              a refusal empties output and cells
--     PacksBy              what the entry point answers and leaves
-- Assumes nothing.
use Rattle.std.specs.Prelude.{◌≡◌, List, ℕ, length, replicate, Ok, Err, Result}
use Rattle.format.specs.declared.Refusal.{Refusal}
use Rattle.packing.specs.Packing.{Answer, output_after, cells_after}
use Rattle.pack_cell.specs.Cells.{empty}
use Rattle.pack_cell.specs.declared.Cell.{Cell}
use Rattle.pack_intern.specs.Interning.{cells_is}
use Rattle.pack_blank.specs.PackBlank.{answer_as}

-- a refusal empties both
pub record Settled (a : Result ℕ Refusal) (out₀ : List ℕ) (cells₀ : List Cell) (out : List ℕ) (cells : List Cell) (r : Result ℕ Refusal) : Type 0 where
  pub same : r ≡ a
  pub kept : (n : ℕ) → a ≡ Ok n → (out ≡ out₀) × (cells ≡ cells₀)
  pub emptied : (k : Refusal) → a ≡ Err k → (out ≡ replicate (length out₀) 0) × (cells ≡ replicate (length cells₀) empty)

pub record PacksBy (A : Answer) (out : List ℕ) (cells : List Cell) (inputs leasts targets : List ℕ) (r : Result ℕ Refusal) : Type 0 where
  pub answer : r ≡ answer_as A
  pub output : out ≡ output_after A (length out)
  pub cells_left : cells_is cells ≡ cells_after A (length cells)
  pub inputs_zero : inputs ≡ replicate (length inputs) 0
  pub leasts_zero : leasts ≡ replicate (length leasts) 0
  pub targets_zero : targets ≡ replicate (length targets) 0
