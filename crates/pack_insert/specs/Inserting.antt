-- A key more in the working tables (document 02, N4).
--     CommonIs key led k m     the first m bytes of the key lead along the open nodes, of which the deepest is at depth k, and no more
--     OpenedTo, Opened         the open nodes below depth m are those of the key: down to depth d, and all of them
--     last_key led k            the bytes that lead to the deepest open node
--     state_of B T k            the definition's state
--     Insertable, Inserts      what adding a key asks, and what it leaves
-- Assumes nothing.
use Rattle.std.specs.Prelude.{◌≡◌, Option, None, Some, Bool, true, false, ◌⊎◌, List, [], ℕ, ◌+◌, ◌-◌, ◌≤◌, ◌<◌, length, get_or, take, drop}
use Rattle.format.specs.Strings.{Before}
use Rattle.packing.specs.Registry.{Build}
use Rattle.packing.specs.Packing.{State, state_with}
use Rattle.packing_rows.specs.WorkTables.{Tables, count_at, open_at, levels}
use Rattle.pack_cell.specs.declared.Cell.{Cell}
use Rattle.pack_intern.specs.Interning.{build_is}
use Rattle.pack_close.specs.Closing.{Closable}

pub record CommonIs (key led : List ℕ) (k m : ℕ) : Type 0 where
  pub low : m ≤ k
  pub within : m ≤ length key
  pub agree : (j : ℕ) → j < m → get_or led (j + 1) 0 ≡ get_or key j 0
  pub leaves : (m ≡ k) ⊎ ((m ≡ length key) ⊎ ¬ (get_or led (m + 1) 0 ≡ get_or key m 0))

-- the arrays before and after, down to depth d; those of depth m and above stay
pub record OpenedTo (key : List ℕ) (m d : ℕ) (counts₀ led₀ : List ℕ) (finals₀ : List Bool) (counts led : List ℕ) (finals : List Bool) : Type 0 where
  pub low : m ≤ d
  pub within : d ≤ length key
  pub counts_long : length counts ≡ 256
  pub led_long : length led ≡ 256
  pub finals_long : length finals ≡ 256
  pub counts_same : (j : ℕ) → j ≤ m → get_or counts j 0 ≡ get_or counts₀ j 0
  pub led_same : (j : ℕ) → j ≤ m → get_or led j 0 ≡ get_or led₀ j 0
  pub finals_same : (j : ℕ) → j ≤ m → get_or finals j false ≡ get_or finals₀ j false
  pub counts_new : (j : ℕ) → m < j → j ≤ d → get_or counts j 0 ≡ 0
  pub led_new : (j : ℕ) → m < j → j ≤ d → get_or led j 0 ≡ get_or key (j - 1) 0
  pub finals_new : (j : ℕ) → m < j → j ≤ d → get_or finals j false ≡ false

-- and the key ends at the deepest
pub record Opened (key : List ℕ) (m v : ℕ) (T T' : Tables) : Type 0 where
  pub finals₁ : List Bool
  pub opened : OpenedTo key m (length key) T.counts T.led T.finals T'.counts T'.led finals₁
  pub final_here : get_or T'.finals (length key) false ≡ true
  pub final_else : (j : ℕ) → ¬ (j ≡ length key) → get_or T'.finals j false ≡ get_or finals₁ j false
  pub value_here : get_or T'.values (length key) 0 ≡ v
  pub value_else : (j : ℕ) → ¬ (j ≡ length key) → get_or T'.values j 0 ≡ get_or T.values j 0
  pub finals_long : length T'.finals ≡ 256
  pub values_long : length T'.values ≡ 256
  pub inputs_same : T'.inputs ≡ T.inputs
  pub leasts_same : T'.leasts ≡ T.leasts
  pub targets_same : T'.targets ≡ T.targets

abbrev pub last_key : List ℕ → ℕ → List ℕ
last_key led k = take k (drop 1 led)

abbrev pub state_of : Build → Tables → ℕ → State
state_of B T k = state_with B (open_at T 0) (levels (open_at T) 1 k)

-- between two keys: the deepest open node has no transition yet
pub record Between (out : List ℕ) (first : ℕ) (cells : List Cell) (T : Tables) (k : ℕ) : Type 0 where
  pub closable : Closable out first cells T k
  pub bare : count_at T k ≡ 0

-- the key comes after the last one, or is the first and empty
abbrev pub Follows : List ℕ → List ℕ → Type 0
Follows last key = (Before last key) ⊎ ((last ≡ []) × (key ≡ []))

pub record Insertable (out : List ℕ) (first : ℕ) (cells : List Cell) (T : Tables) (k : ℕ) (key : List ℕ) : Type 0 where
  pub between : Between out first cells T k
  pub short : length key < 256
  pub follows : Follows (last_key T.led k) key

pub record InsertedAt (t : State) (key : List ℕ) (out : List ℕ) (cells : List Cell) (T : Tables) (next : ℕ) : Type 0 where
  pub is : t ≡ state_of (build_is out next cells) T (length key)
  pub between : Between out next cells T (length key)
  pub last : last_key T.led (length key) ≡ key

pub record Inserts (t : State) (key : List ℕ) (out : List ℕ) (cells : List Cell) (T : Tables) (r : Option ℕ) : Type 0 where
  pub at : (next : ℕ) → r ≡ Some next → InsertedAt t key out cells T next
  pub full : r ≡ None → length out < 16 + length t.build.nodes
