-- The deepest open node finished in its row alone (document 02, N4).
--     ClosesInRow          what finishing the node leaves, the row as a table of cells
-- Assumes nothing.
use Rattle.std.specs.Prelude.{Option, List, ℕ, ◌+◌}
use Rattle.packing_rows.specs.WorkTables.{Tables}
use Rattle.pack_cell.specs.declared.Cell.{Cell}
use Rattle.pack_intern.specs.Interning.{build_is}
use Rattle.pack_close.specs.Closing.{closed_to, ClosesTo}

abbrev pub ClosesInRow : List ℕ → ℕ → List Cell → Tables → ℕ → List ℕ → List Cell → Tables → Option ℕ → Type 0
ClosesInRow out first row T e = ClosesTo (closed_to (build_is out first row) T e (e + 1)) T e
