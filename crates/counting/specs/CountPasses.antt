-- What the inner functions ask and promise; what filling the table itself promises is in `CountOutcomes`. Nothing of `CountOutcomes` says how the
-- reached nodes are found: here it is by the entries of the depths that are not 0.
--     HasEntry d j            the address j has an entry in the depths d
--     ZerosTo                 zeros up to the next address that has one
--     Countable, Passed       what the pass asks and answers
--     Leaves                  the same, with the table wiped where a number does not fit
-- Assumes nothing.
use Rattle.std.specs.Prelude.{◌≡◌, ℕ, ◌≤◌, ◌<◌, length, get_or, Ok, Err, Result, ⊤}
use Rattle.format.specs.declared.Refusal.{Refusal}
use mathlib.Core.List.{List, Memᴰ}
use Rattle.format.specs.declared.Transition.{Transition}
use Rattle.format.specs.Limits.{max_sum, COUNT}
use Rattle.format.specs.Node.{Node, sound, SoundAt}
use Rattle.format.specs.Paths.{Fst, node_in}
use Rattle.format.specs.Tables.{keys_from}
use Rattle.admission_node.specs.Entries.{Kept, FirstMarked}
use Rattle.admission.specs.Outcome.{Wiped}

-- ---- the pass

abbrev pub HasEntry : List ℕ → ℕ → Type 0
HasEntry d j = ¬ (get_or d j 0 ≡ 0)

-- zeros at the addresses from `from` below r, which is the first one that has an entry in the depths, or n
pub record ZerosTo (d : List ℕ) (n from : ℕ) (c₀ c : List ℕ) (r : ℕ) : Type 0 where
  pub first : FirstMarked d from n r
  pub kept : Kept n c₀ c
  pub zeros : (j : ℕ) → from ≤ j → j < r → get_or c j 0 ≡ 0
  pub below : (j : ℕ) → j < from → get_or c j 0 ≡ get_or c₀ j 0

-- a node with an entry is sound, and each of its targets has an entry too, but for address 0
pub record Countable (f : Fst) (d c : List ℕ) : Type 0 where
  pub room_depths : length f.bytes ≤ length d
  pub room_counts : length f.bytes ≤ length c
  pub sounds : (j : ℕ) → j < length f.bytes → HasEntry d j → SoundAt f.bytes f.version f.root j
  pub targets : (j : ℕ) (m : Node) (t : Transition) → j < length f.bytes → HasEntry d j → node_in f j ≡ sound m → Memᴰ t m.transitions
      → ¬ (t.addr ≡ 0) → HasEntry d t.addr

-- what the entry for j is to be
pub record KeysEntry (f : Fst) (d : List ℕ) (j x : ℕ) : Type 0 where
  pub off : get_or d j 0 ≡ 0 → x ≡ 0
  pub on : HasEntry d j → x ≡ keys_from f j
  pub low : HasEntry d j → keys_from f j ≤ max_sum

pub record OverOne (f : Fst) (d : List ℕ) : Type 0 where
  pub at : ℕ
  pub inside : at < length f.bytes
  pub entered : HasEntry d at
  pub over : max_sum < keys_from f at

-- a number that does not fit is refused as COUNT
pub record Over (f : Fst) (d : List ℕ) (r : Refusal) : Type 0 where
  pub is : r ≡ COUNT
  pub one : OverOne f d

abbrev pub PassCase : Fst → List ℕ → List ℕ → Result ⊤ Refusal → Type 0
PassCase f d c (Ok tt) = (j : ℕ) → j < length f.bytes → KeysEntry f d j (get_or c j 0)
PassCase f d c (Err r) = Over f d r

pub record Passed (f : Fst) (d c₀ c : List ℕ) (r : Result ⊤ Refusal) : Type 0 where
  pub kept : Kept (length f.bytes) c₀ c
  pub found : PassCase f d c r

-- ---- the pass with its refusal

pub record NotCounted (f : Fst) (d c₀ c : List ℕ) (r : Refusal) : Type 0 where
  pub is : r ≡ COUNT
  pub one : OverOne f d
  pub wiped : Wiped (length f.bytes) c₀ c

abbrev pub Leaves : Fst → List ℕ → List ℕ → List ℕ → Result ⊤ Refusal → Type 0
Leaves f d c₀ c (Ok tt) = Passed f d c₀ c (Ok tt)
Leaves f d c₀ c (Err r) = NotCounted f d c₀ c r
