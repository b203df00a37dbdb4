-- The run over a whole list (document 02, N4): its keys in their order, then the root.
--     Blank                what the run asks of output and cells
--     RunAt, Runs          what the run leaves, where the definition gives R
-- Assumes nothing.
use Rattle.std.specs.Prelude.{◌≡◌, Option, None, Some, List, ℕ, ◌+◌, ◌≤◌, ◌<◌, length, replicate}
use Rattle.packing.specs.Registry.{empty_cell, Interned}
use Rattle.pack_cell.specs.declared.Cell.{Cell}
use Rattle.pack_intern.specs.Interning.{cells_is, build_is, Laid, interned_with}
use Rattle.pack_intern.specs.declared.Placed.{Placed}

-- all zeros, and every cell empty
pub record Blank (out : List ℕ) (cells : List Cell) : Type 0 where
  pub room : 32 ≤ length out
  pub zeros : out ≡ replicate (length out) 0
  pub empty : cells_is cells ≡ replicate (length cells) empty_cell
  pub two : 2 ≤ length cells

pub record RunAt (R : Interned) (out : List ℕ) (cells : List Cell) (a next : ℕ) : Type 0 where
  pub is : R ≡ interned_with (build_is out next cells) a
  pub laid : Laid out next

pub record Runs (R : Interned) (out : List ℕ) (cells : List Cell) (r : Option Placed) : Type 0 where
  pub at : (p : Placed) → r ≡ Some p → RunAt R out cells p.addr p.next
  pub full : r ≡ None → length out < 16 + length R.build.nodes
