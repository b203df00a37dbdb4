-- How long a node is when it is packed with its targets replaced by a table's entries.
--     entry_in t x                the entry of the table t at x
--     Sizable m F t              what working it out for the node m at F asks, with its targets by the table t
--     first_input m              the input of the first transition of m
--     OneKept m idx rare         m has one transition and is not final, and idx is what is kept of its input, which is rare where that is 0
--     Mosts m F t r              the largest output of m and its largest delta
--     SizableAt, SizedAt         the same of the node at an address, and the length
-- Assumes nothing.
use Rattle.std.specs.Prelude.{◌≡◌, false, ℕ, ◌<◌, length, get_or}
use mathlib.Core.List.{List, ◌∷◌, map, Memᴰ}
use Rattle.format.specs.declared.Transition.{Transition}
use Rattle.format.specs.Bytes.{largest}
use Rattle.format.specs.Node.{Node, sound, transition_at}
use Rattle.format.specs.Packed.{delta_of, packed}
use Rattle.format.specs.Paths.{Fst, node_in}
use Rattle.converting.specs.Converting.{record_by}
use Rattle.node_compile.specs.Parts.{RecordFits, Code}
use Rattle.convert_size.specs.declared.Most.{Most}

abbrev pub entry_in : List ℕ → ℕ → ℕ
entry_in t x = get_or t x 0

pub record Sizable (m : Node) (first : ℕ) (moved : List ℕ) : Type 0 where
  pub in_moved : (t : Transition) → Memᴰ t m.transitions → t.addr < length moved
  pub fits : RecordFits first (record_by (entry_in moved) m)

abbrev pub first_input : Node → ℕ
first_input m = (transition_at m.transitions 0).inp

-- what the forms for one transition ask of a node
pub record OneKept (m : Node) (idx rare : ℕ) : Type 0 where
  pub final : m.final ≡ false
  pub one : length m.transitions ≡ 1
  pub code : Code (first_input m) idx rare

pub record Mosts (m : Node) (first : ℕ) (moved : List ℕ) (r : Most) : Type 0 where
  pub output_is : r.output ≡ largest (m.final_output ∷ (record_by (entry_in moved) m).outputs)
  pub delta_is : r.delta ≡ largest (map (delta_of first) (record_by (entry_in moved) m).targets)

pub record SizableAt (f : Fst) (a first : ℕ) (moved : List ℕ) : Type 0 where
  pub each : (m : Node) → node_in f a ≡ sound m → Sizable m first moved

pub record SizedAt (f : Fst) (a first : ℕ) (moved : List ℕ) (r : ℕ) : Type 0 where
  pub each : (m : Node) → node_in f a ≡ sound m → r ≡ length (packed first (record_by (entry_in moved) m))
