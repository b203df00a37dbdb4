-- A node that is not the root, finished in its row, and keys opened until the next node has to be finished (document 02, N4).
--     hash_next             the hash of the node to be finished, at depth d
--     NodeAt               a node is to be finished, and its row is known
--     NodeAsked, NodeSteps what finishing it asks of some table of cells, and leaves of every table
-- Assumes nothing.
use Rattle.std.specs.Prelude.{◌≡◌, Option, Some, None, ◌⊎◌, List, ℕ, ◌+◌, ◌*◌, ◌/◌, ◌%◌, ◌≤◌, ◌<◌, length}
use Rattle.packing.specs.Lists.{IsList, count_in, pairs_of}
use Rattle.packing.specs.Registry.{hash_of}
use Rattle.packing.specs.Packing.{pack_nodes}
use Rattle.packing_rows.specs.WorkTables.{Tables}
use Rattle.pack_cell.specs.declared.Cell.{Cell}
use Rattle.pack_row.specs.Row.{put_pair, TakenFrom}
use Rattle.pack_ahead.specs.declared.Way.{Way}
use Rattle.pack_ahead.specs.Ahead.{Underway, way_left, row_next}
use Rattle.pack_node.specs.declared.Due.{Due}

abbrev pub hash_next : Tables → ℕ → ℕ
hash_next T d = hash_of (row_next T d)

pub record NodeAt (s : List ℕ) (cells : ℕ) (out : List ℕ) (table : List Cell) (T : Tables) (next : ℕ) (w : Way) (row : ℕ) : Type 0 where
  pub list : IsList s
  pub two : 2 ≤ cells
  pub count : length table ≡ cells
  pub underway : Underway s cells out table T next w
  -- there is a node below where the next key leaves, or no key is left
  pub node : (w.to < w.depth) ⊎ (count_in s ≤ w.keys)
  pub row_is : row ≡ 2 * (hash_next T w.depth % (cells / 2))
  pub within : row + 1 < cells

-- the two cells are those of the node's row, in some table
pub record NodeAsked (s : List ℕ) (cells : ℕ) (out : List ℕ) (pair : List Cell) (T : Tables) (next : ℕ) (w : Way) : Type 0 where
  pub table : List Cell
  pub row : ℕ
  pub at : NodeAt s cells out table T next w row
  pub taken : TakenFrom table row pair
  pub low : 0 < w.depth

-- in every table that has them there
pub record NodeSteps (s : List ℕ) (cells : ℕ) (out : List ℕ) (pair : List Cell) (T : Tables) (next : ℕ) (w : Way) (out' : List ℕ) (back : List Cell) (T' : Tables) (r : Option Due) : Type 0 where
  pub at : (n : Due) → r ≡ Some n → (table : List Cell) (row : ℕ) → NodeAt s cells out table T next w row → TakenFrom table row pair
      → NodeAt s cells out' (put_pair table row back) T' n.next n.way n.row
  -- the nodes have no room
  pub full : r ≡ None → (table : List Cell) (row : ℕ) → NodeAt s cells out table T next w row → TakenFrom table row pair
      → length out' < 16 + length (pack_nodes (pairs_of s) cells).build.nodes
  pub less : (n : Due) → r ≡ Some n → way_left s n.way < way_left s w
