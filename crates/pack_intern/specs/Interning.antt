-- Records interned in the lent output and the lent cells (document 02, N4), by the definition's `intern`.
--     nodes_in out first        the nodes so far: they stand from 16 on, and the next is to stand at first
--     cells_is                   the lent cells as the definition's
--     build_is out first cells  the nodes and the cells so far
--     Laid out first           the output: 16 bytes 0, the nodes, and zeros from first on
--     CellsFit first cells     every cell is empty or has an address of a node
--     Ready                    what interning asks of output, cells and record
--     InternIs                 what it answers and leaves, where the definition gives R
-- Assumes nothing.
use Rattle.std.specs.Prelude.{◌≡◌, Option, None, Some, ◌⊎◌, false, List, ◌++◌, map, ℕ, ◌+◌, ◌-◌, ◌≤◌, ◌<◌, length, take, drop, replicate}
use Rattle.format.specs.Packed.{BuilderNode, TargetOk, packed, packs_to_nothing}
use Rattle.node_compile.specs.Parts.{RecordFits}
use Rattle.packing.specs.Registry.{hash_of, Cell, Build, cell_at, row_of, Interned, write_node}
use Rattle.pack_cell.specs.declared.Cell as code
use Rattle.registry.specs.Matching.{cell_of}
use Rattle.pack_intern.specs.declared.Placed.{Placed}

abbrev pub nodes_in : List ℕ → ℕ → List ℕ
nodes_in out first = take (first - 16) (drop 16 out)

abbrev pub cells_is : List code.Cell → List Cell
cells_is cells = map cell_of cells

abbrev pub build_is : List ℕ → ℕ → List code.Cell → Build
build_is out first cells = record { nodes = nodes_in out first; cells = cells_is cells }

pub record Laid (out : List ℕ) (first : ℕ) : Type 0 where
  pub low : 16 ≤ first
  pub high : first ≤ length out
  pub head : take 16 out ≡ replicate 16 0
  pub rest : drop first out ≡ replicate (length out - first) 0

-- empty, or the address of a node
abbrev pub CellFit : ℕ → Cell → Type 0
CellFit first c = (c.addr ≡ 1) ⊎ ((16 ≤ c.addr) × (c.addr < first))

pub record CellsFit (first : ℕ) (cells : List code.Cell) : Type 0 where
  pub fit : (i : ℕ) → CellFit first (cell_at (cells_is cells) i)

pub record Ready (out : List ℕ) (first : ℕ) (cells : List code.Cell) : Type 0 where
  pub laid : Laid out first
  pub cells_fit : CellsFit first cells
  pub two : 2 ≤ length cells

-- what writing a record asks: its row begins at i
pub record Writable (out : List ℕ) (first : ℕ) (cells : List code.Cell) (i hash : ℕ) (b : BuilderNode) : Type 0 where
  pub ready : Ready out first cells
  pub fits : RecordFits first b
  pub some : packs_to_nothing b ≡ false
  pub row : i ≡ row_of (cells_is cells) b
  pub low : i + 1 < length cells
  pub hash_is : hash ≡ hash_of b

-- the record written after the nodes
abbrev pub write_of : Build → BuilderNode → Interned
write_of B b = write_node B b (B.nodes ++ packed (16 + length B.nodes) b)

abbrev pub interned_with : Build → ℕ → Interned
interned_with B a = record { build = B; addr = a }

abbrev pub placed : ℕ → ℕ → Placed
placed a n = record { addr = a; next = n }

-- the record's address, and the place past the nodes
pub record AtIs (R : Interned) (first : ℕ) (out : List ℕ) (cells : List code.Cell) (a next : ℕ) : Type 0 where
  pub is : R ≡ interned_with (build_is out next cells) a
  pub ready : Ready out next cells
  pub grown : first ≤ next
  pub target : TargetOk next a

pub record InternIs (R : Interned) (first : ℕ) (out : List ℕ) (cells : List code.Cell) (r : Option Placed) : Type 0 where
  pub at : (p : Placed) → r ≡ Some p → AtIs R first out cells p.addr p.next
  -- the nodes have no room
  pub full : r ≡ None → length out < 16 + length R.build.nodes
