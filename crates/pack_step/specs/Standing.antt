-- Packing that stops at each finished node (document 02, N4), over the whole table of cells, each cell an address and a hash.
--     Judged               LIST and SPACE, as they are judged before the run
--     Going                a node is to be finished, and its row is known
--     Ended                no node is to be finished: every node is placed, or packing is refused with any limit
--     Standing             one of the two; ended_as how a turn says the second
--     turn_left             a number that falls with each step
--     StepAsked, Steps     what a step asks of some table, and leaves of every table
-- Assumes nothing.
use Rattle.std.specs.Prelude.{◌≡◌, ⊤, Bool, true, ◌⊎◌, List, ℕ, ◌+◌, ◌*◌, ◌/◌, ◌%◌, ◌≤◌, ◌<◌, length, Ok, Err, Result}
use Rattle.format.specs.declared.Refusal.{Refusal}
use Rattle.packing.specs.Lists.{IsList, count_in, pairs_of}
use Rattle.packing.specs.Packing.{pack_nodes, refused, pack_answer}
use Rattle.packing_rows.specs.WorkTables.{Tables}
use Rattle.pack_cell.specs.declared.Cell.{Cell}
use Rattle.pack_intern.specs.declared.Placed.{Placed}
use Rattle.pack_row.specs.Row.{put_pair, TakenFrom}
use Rattle.pack_run.specs.Running.{RunAt}
use Rattle.pack_ahead.specs.Ahead.{Underway, way_left}
use Rattle.pack_node.specs.NodeSteps.{hash_next}
use Rattle.pack_node.specs.declared.Due.{Due}
use Rattle.pack_step.specs.declared.Turn.{Turn}
use Rattle.pack_step.specs.declared.Turn.TheVariants.{Next, Done}

-- ---- before the run

-- what the run asks
pub record Sound (s : List ℕ) (tables : Bool) (cells : ℕ) : Type 0 where
  pub list : IsList s
  pub fit : tables ≡ true
  pub two : 2 ≤ cells

pub record Judged (s : List ℕ) (tables : Bool) (cells room : ℕ) (r : Result ⊤ Refusal) : Type 0 where
  pub sound : r ≡ Ok tt → Sound s tables cells × (32 ≤ room)
  pub refuses : (why : Refusal) → r ≡ Err why → (limit : ℕ) → pack_answer limit s tables cells room ≡ refused why

-- ---- where packing stands

pub record Going (s : List ℕ) (tables : Bool) (cells : ℕ) (out : List ℕ) (table : List Cell) (T : Tables) (n : Due) : Type 0 where
  pub sound : Sound s tables cells
  pub underway : Underway s cells out table T n.next n.way
  -- there is a node below where the next key leaves, or no key is left
  pub node : (n.way.to < n.way.depth) ⊎ (count_in s ≤ n.way.keys)
  pub row : n.row ≡ 2 * (hash_next T n.way.depth % (cells / 2))
  pub within : n.row + 1 < cells

pub record Ended (s : List ℕ) (tables : Bool) (cells room : ℕ) (out : List ℕ) (table : List Cell) (r : Result Placed Refusal) : Type 0 where
  pub done : (p : Placed) → r ≡ Ok p → Sound s tables cells × RunAt (pack_nodes (pairs_of s) cells) out table p.addr p.next
  pub refuses : (why : Refusal) → r ≡ Err why → (limit : ℕ) → pack_answer limit s tables cells room ≡ refused why

abbrev pub ended_as : Result Placed Refusal → Result Turn Refusal
ended_as (Ok p) = Ok (Done p)
ended_as (Err why) = Err why

-- room is the output's length, tables whether the working tables have their sizes
pub record Standing (s : List ℕ) (tables : Bool) (cells room : ℕ) (out : List ℕ) (table : List Cell) (T : Tables) (t : Result Turn Refusal) : Type 0 where
  pub long : length out ≡ room
  pub count : length table ≡ cells
  pub on : (n : Due) → t ≡ Ok (Next n) → Going s tables cells out table T n
  pub ended : (r : Result Placed Refusal) → t ≡ ended_as r → Ended s tables cells room out table r

-- ---- a step

abbrev pub turn_left : List ℕ → Result Turn Refusal → ℕ
turn_left s (Ok (Next n)) = way_left s n.way + 1
turn_left s (Ok (Done p)) = 0
turn_left s (Err why) = 0

-- the two cells are those of the turn's row, in some table
pub record StepAsked (s : List ℕ) (cells : ℕ) (out : List ℕ) (pair : List Cell) (T : Tables) (n : Due) : Type 0 where
  pub tables : Bool
  pub table : List Cell
  pub standing : Standing s tables cells (length out) out table T (Ok (Next n))
  pub taken : TakenFrom table n.row pair

-- in every table that has them there
pub record Steps (s : List ℕ) (cells : ℕ) (out : List ℕ) (pair : List Cell) (T : Tables) (n : Due) (out' : List ℕ) (back : List Cell) (T' : Tables) (t : Result Turn Refusal) : Type 0 where
  pub stands : (tables : Bool) (table : List Cell) → Standing s tables cells (length out) out table T (Ok (Next n)) → TakenFrom table n.row pair
      → Standing s tables cells (length out) out' (put_pair table n.row back) T' t
  pub less : turn_left s t < turn_left s (Ok (Next n))
