-- A row of the working tables finished (document 02, N4).
--     Lessened d₀ d at n base  the n numbers from place at on have lost base
--     row_node ..               the record of a row
--     Finishable               what finishing a row asks
-- Assumes nothing.
use Rattle.std.specs.Prelude.{◌≡◌, Bool, true, cond, ◌⊎◌, List, map, ℕ, ◌+◌, ◌-◌, ◌*◌, ◌≤◌, ◌<◌, length, get_or}
use Rattle.format.specs.Packed.{BuilderNode}
use Rattle.node_compile.specs.Compile.{builder_with}
use Rattle.node_compile.specs.Parts.{RecordFits}
use Rattle.packing_rows.specs.WorkTables.{row_in}
use Rattle.pack_cell.specs.declared.Cell.{Cell}
use Rattle.pack_intern.specs.Interning.{Ready}

pub record Lessened (d₀ d : List ℕ) (at n base : ℕ) : Type 0 where
  pub long : length d ≡ length d₀
  pub done : (j : ℕ) → at ≤ j → j < at + n → get_or d j 0 ≡ get_or d₀ j 0 - base
  pub rest : (j : ℕ) → (j < at) ⊎ (at + n ≤ j) → get_or d j 0 ≡ get_or d₀ j 0

-- no number is less than base
pub record EachAtLeast (base : ℕ) (numbers : List ℕ) : Type 0 where
  pub high : (j : ℕ) → j < length numbers → base ≤ get_or numbers j 0

-- nor is one of the n numbers from place at on
pub record AllAtLeast (base : ℕ) (d : List ℕ) (at n : ℕ) : Type 0 where
  pub within : at + n ≤ length d
  pub high : (j : ℕ) → at ≤ j → j < at + n → base ≤ get_or d j 0

-- the record of the first n entries of row d, with its outputs counted from base
abbrev pub row_node : Bool → ℕ → List ℕ → List ℕ → List ℕ → ℕ → ℕ → ℕ → BuilderNode
row_node final v inputs leasts targets d n base =
    builder_with final (cond final (v - base) 0) (row_in inputs d n) (map (λ (m : ℕ). m - base) (row_in leasts d n)) (row_in targets d n)

pub record Finishable (out : List ℕ) (first : ℕ) (cells : List Cell) (final : Bool) (v : ℕ) (inputs leasts targets : List ℕ) (d n base : ℕ) : Type 0 where
  pub ready : Ready out first cells
  pub fits : RecordFits first (row_node final v inputs leasts targets d n base)
  pub low : d < 256
  pub few : n ≤ 256
  pub inputs_long : 65536 ≤ length inputs
  pub leasts_long : 65536 ≤ length leasts
  pub targets_long : 65536 ≤ length targets
  pub high : AllAtLeast base leasts (256 * d) n
  pub value_high : final ≡ true → base ≤ v
