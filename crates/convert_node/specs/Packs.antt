-- What the second pass of a conversion does at one node: its record is gathered into `Buffers` where it may have several
-- transitions, and it is packed.
--     Gatherable, Gathered       what gathering a node's transitions asks, and leaves in the three arrays
--     no_record                  what they hold at first
--     Packable m F t room        what packing the node m at F asks, with its targets by the table t, into a buffer of room bytes
--     PackedFront bs out₀ out r  the bytes bs stand at the front of out, its other bytes are those of out₀, and r is their number
--     PackableAt, PackedAt       the same of the node at an address
-- Assumes nothing.
use Rattle.std.specs.Prelude.{◌≡◌, ℕ, ◌≤◌, ◌<◌, length, take, drop, replicate}
use mathlib.Core.List.{List, ◌++◌, map, Memᴰ}
use Rattle.format.specs.declared.Transition.{Transition}
use Rattle.format.specs.Limits.{max_trans}
use Rattle.format.specs.Node.{Node, sound}
use Rattle.format.specs.Packed.{packed}
use Rattle.format.specs.Paths.{Fst, node_in}
use Rattle.converting.specs.Converting.{record_by}
use Rattle.convert_size.specs.Sizes.{entry_in, Sizable}
use Rattle.convert_node.specs.declared.Buffers.{Buffers}

-- ---- the record

-- each target has an entry, and a node has no more transitions than the arrays have entries
pub record Gatherable (ts : List Transition) (moved : ℕ) : Type 0 where
  pub in_moved : (t : Transition) → Memᴰ t ts → t.addr < moved
  pub few : length ts ≤ max_trans

pub record Gathered (ts : List Transition) (moved inputs outputs targets : List ℕ) : Type 0 where
  pub inputs_are : take (length ts) inputs ≡ map (λ (t : Transition). t.inp) ts
  pub outputs_are : take (length ts) outputs ≡ map (λ (t : Transition). t.out) ts
  pub targets_are : take (length ts) targets ≡ map (λ (t : Transition). entry_in moved t.addr) ts

-- nothing is gathered yet
abbrev pub no_record : Buffers
no_record = record { inputs = replicate 256 0; outputs = replicate 256 0; targets = replicate 256 0 }

-- ---- the node

pub record Packable (m : Node) (first : ℕ) (moved : List ℕ) (room : ℕ) : Type 0 where
  pub sizable : Sizable m first moved
  -- SPACE has nothing to refuse
  pub fits : length (packed first (record_by (entry_in moved) m)) ≤ room

pub record PackedFront (bs out₀ out : List ℕ) (r : ℕ) : Type 0 where
  pub buffer : out ≡ bs ++ drop (length bs) out₀
  pub count : r ≡ length bs

pub record PackableAt (f : Fst) (a first : ℕ) (moved : List ℕ) (room : ℕ) : Type 0 where
  pub each : (m : Node) → node_in f a ≡ sound m → Packable m first moved room

pub record PackedAt (f : Fst) (a first : ℕ) (moved out₀ out : List ℕ) (r : ℕ) : Type 0 where
  pub each : (m : Node) → node_in f a ≡ sound m → PackedFront (packed first (record_by (entry_in moved) m)) out₀ out r
