-- The cells as the code has them.
--     empty        a cell that is empty: address 1, hash 0
--     at           the cell at a place
-- Assumes nothing.
use Rattle.std.specs.Prelude.{List, ℕ, get_or}
use Rattle.pack_cell.specs.declared.Cell.{Cell}

abbrev pub empty : Cell
empty = record { addr = 1; hash = 0 }

abbrev pub at : List Cell → ℕ → Cell
at cells i = get_or cells i empty
