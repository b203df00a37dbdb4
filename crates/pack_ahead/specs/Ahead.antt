-- Keys opened until a node has to be finished (document 02, N4).
--     whole s cells        the definition's state after every key of the list
--     LeavesAt             where key i leaves the open nodes, the deepest of which is at depth k
--     OpensKey             what opening key i leaves
--     Underway             some nodes are finished since the last key was opened
--     way_left              a number that falls with each node finished and each key opened
--     Started, GoesAhead   what opening keys asks, and what it leaves; GoneTo: on the way
--     row_next, RowAsked    the record of the node to be finished next, and what finding its row asks
-- Assumes nothing.
use Rattle.std.specs.Prelude.{◌≡◌, cond, ◌⊎◌, List, ℕ, ◌+◌, ◌-◌, ◌*◌, ◌≤◌, ◌<◌, eqb, length, get_or, replicate}
use Rattle.format.specs.Packed.{BuilderNode}
use Rattle.packing.specs.Lists.{count_in, key_at, value_at, pairs_of}
use Rattle.packing.specs.Registry.{empty_cell}
use Rattle.packing.specs.Packing.{State, insert_all, start}
use Rattle.packing_rows.specs.WorkTables.{Tables}
use Rattle.pack_cell.specs.declared.Cell.{Cell}
use Rattle.pack_intern.specs.Interning.{build_is}
use Rattle.pack_close.specs.Closing.{RowsFit, node_from, least_in, closed_to, ClosingTo}
use Rattle.pack_close.specs.OpenNodes.{tables_of}
use Rattle.pack_close.specs.declared.Open.{Open}
use Rattle.pack_insert.specs.Inserting.{CommonIs, Opened}
use Rattle.pack_keys.specs.AddKeys.{Building}
use Rattle.pack_ahead.specs.declared.Way.{Way}

abbrev pub whole : List ℕ → ℕ → State
whole s cells = insert_all (start (replicate cells empty_cell)) (pairs_of s)

abbrev pub way_with : ℕ → ℕ → ℕ → Way
way_with d m i = record { depth = d; to = m; keys = i }

pub record LeavesAt (s led : List ℕ) (k i m : ℕ) : Type 0 where
  pub low : m ≤ k
  pub on : i < count_in s → CommonIs (key_at s i) led k m
  pub last : count_in s ≤ i → m ≡ 0

-- it leaves the open nodes at depth m
pub record OpensKey (s : List ℕ) (i m : ℕ) (T T' : Tables) (r : Way) : Type 0 where
  pub opened : Opened (key_at s i) m (value_at s i) T T'
  pub bytes : (j : ℕ) → get_or (key_at s i) j 0 < 256
  pub depth : r.depth ≡ length (key_at s i)
  pub more : r.keys ≡ i + 1
  pub leaves : LeavesAt s T'.led r.depth r.keys r.to

-- the state when the last key was opened, with its deepest node at depth k, and what has been finished since
pub record Underway (s : List ℕ) (cells : ℕ) (out : List ℕ) (table : List Cell) (T : Tables) (next : ℕ) (w : Way) : Type 0 where
  pub out₀ : List ℕ
  pub table₀ : List Cell
  pub T₀ : Tables
  pub next₀ : ℕ
  pub k : ℕ
  pub building : Building (whole s cells) s out₀ table₀ T₀ next₀ k w.keys
  pub closing : ClosingTo (closed_to (build_is out₀ next₀ table₀) T₀ w.to k) T₀ w.to out table T next w.depth
  pub led_kept : T.led ≡ T₀.led
  pub leaves : LeavesAt s T₀.led k w.keys w.to

abbrev pub way_left : List ℕ → Way → ℕ
way_left s w = (count_in s - w.keys) * 256 + w.depth

-- for some output, cells and working tables
pub record Started (s : List ℕ) (o : Open) (w : Way) : Type 0 where
  pub cells : ℕ
  pub out : List ℕ
  pub table : List Cell
  pub inputs : List ℕ
  pub leasts : List ℕ
  pub targets : List ℕ
  pub next : ℕ
  pub underway : Underway s cells out table (tables_of inputs leasts targets o) next w

-- for all of them
pub record GoneTo (s : List ℕ) (o : Open) (w : Way) (o' : Open) (r : Way) : Type 0 where
  pub on : (cells : ℕ) (out : List ℕ) (table : List Cell) (inputs leasts targets : List ℕ) (next : ℕ)
      → Underway s cells out table (tables_of inputs leasts targets o) next w
      → Underway s cells out table (tables_of inputs leasts targets o') next r
  pub less : way_left s r ≤ way_left s w

-- and a node is to be finished before the next key is opened, or there is no key left
pub record GoesAhead (s : List ℕ) (o : Open) (w : Way) (o' : Open) (r : Way) : Type 0 where
  pub gone : GoneTo s o w o' r
  pub stops : (r.to < r.depth) ⊎ (count_in s ≤ r.keys)

-- ---- the row of the node to be finished

-- the number from which its outputs are counted
abbrev pub base_next : Tables → ℕ → ℕ
base_next T d = cond (eqb d 0) 0 (least_in T d)

abbrev pub row_next : Tables → ℕ → BuilderNode
row_next T d = node_from T d (base_next T d)

pub record RowAsked (cells d : ℕ) (T : Tables) : Type 0 where
  pub two : 2 ≤ cells
  pub fits : RowsFit T d
