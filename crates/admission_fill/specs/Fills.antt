-- What the pass up the file ensures; what admission itself promises is in admission `Outcome`. The reached nodes are those with the mark 4
-- (admission_walk `Walks`).
--     NoneLost d i r          whether no mark is left at an address that is none of the chain, of the first i
--     Leads, NextOf           a link and where it leads
--     Filled                  the pass's answer, by the marks at entry without their links
-- Assumes nothing.
use Rattle.std.specs.Prelude.{◌≡◌, Bool, true, false, ◌⊎◌, ℕ, ◌+◌, ◌/◌, ◌≤◌, ◌<◌, length, get_or, Ok, Err, Result, ⊤}
use mathlib.Core.List.{List, Memᴰ}
use Rattle.format.specs.declared.Transition.{Transition}
use Rattle.format.specs.declared.Refusal.{Refusal}
use Rattle.format.specs.Limits.{max_path, max_sum, NODE, DEEP, SUM}
use Rattle.format.specs.Node.{Node, sound, SoundAt}
use Rattle.format.specs.Paths.{Fst, node_in}
use Rattle.format.specs.Tables.{longest, largest_sum}
use Rattle.admission_node.specs.Entries.{Kept, FirstMarked}
use Rattle.admission_walk.specs.Walks.{Hit, Live, marks_in}

-- no mark 1 or 2 stands below a: every address that a node leads to is passed
pub record AllPassed (d : List ℕ) (a : ℕ) : Type 0 where
  pub each : (j : ℕ) → j < a → 1 ≤ get_or d j 0 → 3 ≤ get_or d j 0

-- the entries for j, once they are filled in at the marks of d₀
pub record DepthEntry (f : Fst) (d₀ : List ℕ) (j x : ℕ) : Type 0 where
  pub off : ¬ Live d₀ j → x ≡ 0
  pub on : Live d₀ j → x ≡ longest f j + 1
  pub low : Live d₀ j → longest f j ≤ max_path

pub record SumEntry (f : Fst) (d₀ : List ℕ) (j x : ℕ) : Type 0 where
  pub off : ¬ Live d₀ j → x ≡ 0
  pub on : Live d₀ j → x ≡ largest_sum f j
  pub low : Live d₀ j → largest_sum f j ≤ max_sum

-- ---- from node to node

-- whether none of the first i entries is 1 or 2
pub record NoneLost (d : List ℕ) (i : ℕ) (r : Bool) : Type 0 where
  pub yes : r ≡ true → (j : ℕ) → j < i → (get_or d j 0 ≡ 0) ⊎ (3 ≤ get_or d j 0)
  pub no : r ≡ false → (j : ℕ) × ((j < length d) × (1 ≤ get_or d j 0) × (get_or d j 0 ≤ 2))

-- the next node of the chain stands k above j, and both below n
pub record Leads (n : ℕ) (d : List ℕ) (j k : ℕ) : Type 0 where
  pub inside : j + k < n
  pub marked : 3 ≤ get_or (marks_in d) (j + k) 0
  pub none : (i : ℕ) → j < i → i < j + k → get_or (marks_in d) i 0 < 3

-- a link that is not 0 leads to the first marked address above a
pub record NextOf (d : List ℕ) (a link n : ℕ) : Type 0 where
  pub room : n ≤ length d
  pub inside : a < n
  pub next : ¬ (link ≡ 0) → FirstMarked d (a + 1) n (a + link)

-- ---- the marks at entry

-- a target of a reached node is 0 or has a reached mark, and the nodes of the chain are linked
pub record Fillable (f : Fst) (d s : List ℕ) : Type 0 where
  pub room_depths : length f.bytes ≤ length d
  pub room_sums : length f.bytes ≤ length s
  pub zero : get_or d 0 0 ≡ 0
  pub high : (j : ℕ) → j < length f.bytes → get_or (marks_in d) j 0 ≤ 4
  pub sounds : (j : ℕ) → j < length f.bytes → Live (marks_in d) j → SoundAt f.bytes f.version f.root j
  pub hits : (j : ℕ) (m : Node) (t : Transition) → j < length f.bytes → Live (marks_in d) j → node_in f j ≡ sound m → Memᴰ t m.transitions → ¬ (t.addr ≡ 0)
      → Hit (get_or (marks_in d) t.addr 0)
  pub off : (j : ℕ) → j < length f.bytes → get_or (marks_in d) j 0 < 3 → get_or d j 0 ≤ 2
  pub links : (j : ℕ) → j < length f.bytes → 3 ≤ get_or (marks_in d) j 0 → (get_or d j 0 / 8 ≡ 0) ⊎ Leads (length f.bytes) d j (get_or d j 0 / 8)
  pub zeros : (j : ℕ) → j < length f.bytes → get_or s j 0 ≡ 0

-- ---- the answer

-- an address that a node leads to, and that is none of the chain
pub record LostOne (f : Fst) (d₀ : List ℕ) : Type 0 where
  pub at : ℕ
  pub inside : at < length f.bytes
  pub led : 1 ≤ get_or d₀ at 0
  pub lost : get_or d₀ at 0 < 3

pub record DeepOne (f : Fst) (d₀ : List ℕ) : Type 0 where
  pub at : ℕ
  pub inside : at < length f.bytes
  pub live : Live d₀ at
  pub deep : max_path < longest f at

pub record HeavyOne (f : Fst) (d₀ : List ℕ) : Type 0 where
  pub at : ℕ
  pub inside : at < length f.bytes
  pub live : Live d₀ at
  pub heavy : max_sum < largest_sum f at

pub record GoodAll (f : Fst) (d₀ d s : List ℕ) : Type 0 where
  pub passed : AllPassed d₀ (length f.bytes)
  pub depths : (j : ℕ) → j < length f.bytes → DepthEntry f d₀ j (get_or d j 0)
  pub sums : (j : ℕ) → j < length f.bytes → SumEntry f d₀ j (get_or s j 0)

pub record HeavyCase (f : Fst) (d₀ : List ℕ) : Type 0 where
  pub passed : AllPassed d₀ (length f.bytes)
  pub low : (j : ℕ) → j < length f.bytes → Live d₀ j → longest f j ≤ max_path
  pub one : HeavyOne f d₀

-- NODE at a target that is no node of the chain, then DEEP and SUM, each decided over the whole file
pub data FillRefused (f : Fst) (d₀ : List ℕ) (r : Refusal) : Type 0 where
  lost : r ≡ NODE → LostOne f d₀ → FillRefused f d₀ r
  deep : r ≡ DEEP → AllPassed d₀ (length f.bytes) → DeepOne f d₀ → FillRefused f d₀ r
  heavy : r ≡ SUM → HeavyCase f d₀ → FillRefused f d₀ r

abbrev pub FillCase : Fst → List ℕ → List ℕ → List ℕ → Result ⊤ Refusal → Type 0
FillCase f d₀ d s (Ok tt) = GoodAll f d₀ d s
FillCase f d₀ d s (Err r) = FillRefused f d₀ r

pub record Filled (f : Fst) (d₀ s₀ d s : List ℕ) (v : Result ⊤ Refusal) : Type 0 where
  pub depths_kept : Kept (length f.bytes) d₀ d
  pub sums_kept : Kept (length f.bytes) s₀ s
  pub found : FillCase f (marks_in d₀) d s v
