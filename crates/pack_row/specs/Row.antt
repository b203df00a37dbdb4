-- A record interned in the two cells of its row, taken out of the table and put back (document 02, N4).
--     pair_at cells i       the two cells of the row that begins at i, as a table of one row
--     put_pair cells i row  the first two cells of the table row are stored there
--     back_in cells i R     what interning in the row alone gave, seen in the whole table
--     TakenFrom            a table of one row is the row at i of the table cells
--     RowGiven             what finding a node's row asks
-- Assumes nothing.
use Rattle.std.specs.Prelude.{◌≡◌, List, [], ◌∷◌, true, false, ℕ, ◌+◌, ◌*◌, ◌≤◌, ◌<◌, length, get_or, set}
use Rattle.packing.specs.Registry.{Cell, cell_at, row_set, Interned}
use Rattle.packing_rows.specs.WorkTables.{Tables, count_at}
use Rattle.pack_cell.specs.Cells.{at}
use Rattle.pack_cell.specs.declared.Cell as code
use Rattle.pack_finish.specs.FinishRow.{AllAtLeast}
use Rattle.pack_close.specs.Closing.{RowsFit}

abbrev pub pair_at : List Cell → ℕ → List Cell
pair_at cells i = cell_at cells i ∷ cell_at cells (i + 1) ∷ []

abbrev pub back_in : List Cell → ℕ → Interned → Interned
back_in cells i R = record {
  build = record { nodes = R.build.nodes; cells = row_set cells i (cell_at R.build.cells 0) (cell_at R.build.cells 1) };
  addr = R.addr;
}

-- of lent cells
abbrev pub put_pair : List code.Cell → ℕ → List code.Cell → List code.Cell
put_pair cells i row = set (set cells i (at row 0)) (i + 1) (at row 1)

pub record TakenFrom (cells : List code.Cell) (i : ℕ) (row : List code.Cell) : Type 0 where
  pub within : i + 1 < length cells
  pub is : row ≡ at cells i ∷ at cells (i + 1) ∷ []

-- ---- the row of a node

pub record RowGiven (cells d base : ℕ) (T : Tables) : Type 0 where
  pub two : 2 ≤ cells
  pub fits : RowsFit T d
  pub high : AllAtLeast base T.leasts (256 * d) (count_at T d)
  pub value_high : get_or T.finals d false ≡ true → base ≤ get_or T.values d 0
