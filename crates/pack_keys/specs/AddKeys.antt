-- The keys of a list added in their order (document 02, N4).
--     BuildsTo, Builds     what adding all keys leaves, where the definition's state is t; None where the output has no room
--     Building             where the loop stands
-- Assumes nothing.
use Rattle.std.specs.Prelude.{◌≡◌, Option, None, Some, List, ℕ, ◌+◌, ◌-◌, ◌≤◌, ◌<◌, length}
use Rattle.packing.specs.Lists.{count_in, key_at, pairs_from}
use Rattle.packing.specs.Packing.{State, insert_all}
use Rattle.packing_rows.specs.WorkTables.{Tables}
use Rattle.pack_cell.specs.declared.Cell.{Cell}
use Rattle.pack_intern.specs.Interning.{build_is}
use Rattle.pack_close.specs.Closing.{Closable}
use Rattle.pack_insert.specs.Inserting.{last_key, state_of, Between}

-- the place past the nodes is next, and the deepest open node is at depth k
pub record BuildsTo (t : State) (out : List ℕ) (cells : List Cell) (T : Tables) (next k : ℕ) : Type 0 where
  pub is : t ≡ state_of (build_is out next cells) T k
  pub closable : Closable out next cells T k

pub record Builds (t : State) (out : List ℕ) (cells : List Cell) (T : Tables) (r : Option (ℕ × ℕ)) : Type 0 where
  pub at : (next k : ℕ) → r ≡ Some (next, k) → BuildsTo t out cells T next k
  pub full : r ≡ None → length out < 16 + length t.build.nodes

-- where the loop stands: i keys have been added
pub record Building (t : State) (s : List ℕ) (out : List ℕ) (cells : List Cell) (T : Tables) (next k i : ℕ) : Type 0 where
  pub within : i ≤ count_in s
  pub is : t ≡ insert_all (state_of (build_is out next cells) T k) (pairs_from s i (count_in s - i))
  pub between : Between out next cells T k
  pub first : i ≡ 0 → k ≡ 0
  pub last : 0 < i → last_key T.led k ≡ key_at s (i - 1)
