-- The two passes of a conversion over the marked nodes, from the lowest up: where each goes, and its bytes.
--     laid_to f d a            the layout of the nodes of f that are marked in d below a
--     MarkedSound f d         each marked node is sound, and is not address 0
--     Layable, Lays           what the first pass asks and answers: where the layout ends, or that the new file passes the limit
--     Zeros                   a cleared table
--     Writable                what the second pass asks: the new addresses, and room for the new file
--     Narrow, addr_of          what the table asks; a node's address, by its first byte and its length
-- Assumes nothing.
use Rattle.std.specs.Prelude.{◌≡◌, cond, List, ℕ, ◌+◌, ◌-◌, ◌≤◌, ◌<◌, eqb, length, get_or, Option, Some, None}
use Rattle.format.specs.Limits.{max_len}
use Rattle.format.specs.Node.{Node, sound}
use Rattle.format.specs.Paths.{Fst, node_in}
use Rattle.converting.specs.Converting.{new_addr, Laid, lay_out}
use Rattle.convert_marks.specs.Marks.{marked, Hops}

abbrev pub laid_to : Fst → List ℕ → ℕ → Laid
laid_to f d a = lay_out f (marked d a)

-- a node of no bytes is address 0; any other has the address of its last byte
abbrev pub addr_of : ℕ → ℕ → ℕ
addr_of next len = cond (eqb len 0) 0 (next + len - 1)

pub record MarkedSound (f : Fst) (d : List ℕ) : Type 0 where
  pub each : (j : ℕ) → j < length f.bytes → ¬ (get_or d j 0 ≡ 0) → (m : Node) × (node_in f j ≡ sound m)
  pub low : (j : ℕ) → j < length f.bytes → ¬ (get_or d j 0 ≡ 0) → 16 ≤ j

-- ---- the first pass

pub record Layable (f : Fst) (d s : List ℕ) (limit : ℕ) : Type 0 where
  pub room_depths : length f.bytes ≤ length d
  pub room_sums : length f.bytes ≤ length s
  pub sounds : MarkedSound f d
  pub hops : Hops (length f.bytes) d
  pub limit_le : limit ≤ max_len

-- the first n entries are 0
pub record Zeros (n : ℕ) (s : List ℕ) : Type 0 where
  pub each : (j : ℕ) → j < n → get_or s j 0 ≡ 0

-- each entry below the file's length is a new address
pub record Entered (f : Fst) (d s : List ℕ) : Type 0 where
  pub entry : (j : ℕ) → j < length f.bytes → get_or s j 0 ≡ new_addr (laid_to f d (length f.bytes)).moved j

pub record LaidOut (f : Fst) (d s : List ℕ) (limit next : ℕ) : Type 0 where
  pub next_is : next ≡ 16 + length (laid_to f d (length f.bytes)).nodes
  -- with the trailer
  pub fits : next + 16 ≤ limit
  pub entered : Entered f d s

abbrev pub Lays : Fst → List ℕ → List ℕ → ℕ → Option ℕ → Type 0
Lays f d s limit (Some next) = LaidOut f d s limit next
Lays f d s limit None = limit < 32 + length (laid_to f d (length f.bytes)).nodes

-- ---- the second pass

pub record Writable (f : Fst) (d s out : List ℕ) : Type 0 where
  pub room_depths : length f.bytes ≤ length d
  pub room_sums : length f.bytes ≤ length s
  pub sounds : MarkedSound f d
  pub hops : Hops (length f.bytes) d
  pub entered : Entered f d s
  pub fits : 32 + length (laid_to f d (length f.bytes)).nodes ≤ max_len
  pub room_out : 32 + length (laid_to f d (length f.bytes)).nodes ≤ length out

-- ---- the table

-- the first n entries have 32 bits
pub record Narrow (n : ℕ) (s table : List ℕ) : Type 0 where
  pub in_sums : n ≤ length s
  pub in_table : n ≤ length table
  pub small : (j : ℕ) → j < n → get_or s j 0 ≤ max_len
