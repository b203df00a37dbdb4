-- Open nodes finished, deepest first, in the working tables (document 02, N4).
--     Closable out first cells T k     output, cells and tables are ready, with open nodes down to depth k
--     node_at, node_from   the record of the node at depth d; with its outputs counted from base
--     CanFinish, RowFinished    what interning it asks and leaves
--     StepIs                   what finishing the deepest node leaves
--     closed_to B T m k         the open nodes down to depth k, those below depth m finished into it
--     ClosesTo                 what that leaves
-- Assumes nothing.
use Rattle.std.specs.Prelude.{◌≡◌, Option, None, Some, false, List, ℕ, ◌+◌, ◌-◌, ◌*◌, ◌≤◌, ◌<◌, length, get_or}
use Rattle.format.specs.Packed.{BuilderNode}
use Rattle.node_compile.specs.Compile.{builder_with}
use Rattle.packing.specs.Registry.{Build, intern}
use Rattle.packing_rows.specs.WorkTables.{Tables, tables_with, row_in, count_at, least_from, open_at, levels, Joined, joined, close_into, Sized, Orderly}
use Rattle.pack_cell.specs.declared.Cell.{Cell}
use Rattle.pack_intern.specs.Interning.{build_is, Ready, InternIs}
use Rattle.pack_intern.specs.declared.Placed.{Placed}
use Rattle.pack_finish.specs.FinishRow.{Lessened, row_node, Finishable}

pub record Closable (out : List ℕ) (first : ℕ) (cells : List Cell) (T : Tables) (k : ℕ) : Type 0 where
  pub ready : Ready out first cells
  pub sized : Sized T
  pub orderly : Orderly first T k
  pub low : k < 256

abbrev pub closed_to : Build → Tables → ℕ → ℕ → Joined
closed_to B T m k = close_into B (open_at T m) (levels (open_at T) (m + 1) (k - m))

-- ---- one node

-- row d lies within the tables
pub record RowsFit (T : Tables) (d : ℕ) : Type 0 where
  pub low : d < 256
  pub few : count_at T d ≤ 256
  pub inputs_long : 65536 ≤ length T.inputs
  pub leasts_long : 65536 ≤ length T.leasts
  pub targets_long : 65536 ≤ length T.targets

-- the record of the node at depth d as its row stands, with this final output
abbrev pub node_at : Tables → ℕ → ℕ → BuilderNode
node_at T d final_output =
    builder_with (get_or T.finals d false) final_output (row_in T.inputs d (count_at T d)) (row_in T.leasts d (count_at T d)) (row_in T.targets d (count_at T d))

-- and with its outputs counted from base
abbrev pub node_from : Tables → ℕ → ℕ → BuilderNode
node_from T d base = row_node (get_or T.finals d false) (get_or T.values d 0) T.inputs T.leasts T.targets d (count_at T d) base

-- the least value of the keys at it
abbrev pub least_in : Tables → ℕ → ℕ
least_in T d = least_from (get_or T.finals d false) (get_or T.values d 0) (row_in T.leasts d (count_at T d))

abbrev pub CanFinish : List ℕ → ℕ → List Cell → Tables → ℕ → ℕ → Type 0
CanFinish out first cells T d base = Finishable out first cells (get_or T.finals d false) (get_or T.values d 0) T.inputs T.leasts T.targets d (count_at T d) base

-- the tables with other least values
abbrev pub with_leasts : Tables → List ℕ → Tables
with_leasts T leasts = tables_with T.inputs leasts T.targets T.counts T.led T.finals T.values

-- the least values of row d have lost base, and nothing else of the tables has changed
pub record RowFinished (out : List ℕ) (first : ℕ) (cells : List Cell) (T : Tables) (d base : ℕ) (out' : List ℕ) (cells' : List Cell) (T' : Tables) (r : Option Placed) : Type 0 where
  pub less : Lessened T.leasts T'.leasts (256 * d) (count_at T d) base
  pub rest : T' ≡ with_leasts T T'.leasts
  pub interned : InternIs (intern (build_is out first cells) (node_from T d base)) first out' cells' r

-- the node at depth e + 1 has become a transition of the node at depth e
pub record StepTo (B : Build) (first : ℕ) (T : Tables) (e : ℕ) (out : List ℕ) (cells : List Cell) (T' : Tables) (next : ℕ) : Type 0 where
  pub is : (m : ℕ) → m ≤ e → closed_to B T m (e + 1) ≡ closed_to (build_is out next cells) T' m e
  pub same : (j : ℕ) → j < e → open_at T' j ≡ open_at T j
  pub closable : Closable out next cells T' e

pub record StepIs (B : Build) (first : ℕ) (T : Tables) (e : ℕ) (out : List ℕ) (cells : List Cell) (T' : Tables) (r : Option ℕ) : Type 0 where
  pub at : (next : ℕ) → r ≡ Some next → StepTo B first T e out cells T' next
  pub full : r ≡ None → (m : ℕ) → m ≤ e → length out < 16 + length (closed_to B T m (e + 1)).build.nodes

-- nodes below depth m are finished, and all is as the definition says; or the output is full
pub record JoinedAt (J : Joined) (T₀ : Tables) (m : ℕ) (out : List ℕ) (cells : List Cell) (T : Tables) (next : ℕ) : Type 0 where
  pub is : J ≡ joined (build_is out next cells) (open_at T m)
  pub same : (j : ℕ) → j < m → open_at T j ≡ open_at T₀ j
  pub closable : Closable out next cells T m

pub record ClosesTo (J : Joined) (T₀ : Tables) (m : ℕ) (out : List ℕ) (cells : List Cell) (T : Tables) (r : Option ℕ) : Type 0 where
  pub at : (next : ℕ) → r ≡ Some next → JoinedAt J T₀ m out cells T next
  pub full : r ≡ None → length out < 16 + length J.build.nodes

-- where a run down several depths stands: the nodes below depth e are finished
pub record ClosingTo (J : Joined) (T₀ : Tables) (m : ℕ) (out : List ℕ) (cells : List Cell) (T : Tables) (next e : ℕ) : Type 0 where
  pub is : J ≡ closed_to (build_is out next cells) T m e
  pub same : (j : ℕ) → j < m → open_at T j ≡ open_at T₀ j
  pub closable : Closable out next cells T e
  pub low : m ≤ e
