-- The chain of a file, marked in the depths' table, so that it can be walked upward.
--     marked d n             the addresses below n with an entry other than 0, from the highest down
--     FirstIs f a first      the node at a starts at first
--     Markable f d           what marking asks: an entry other than 0 stands only at an address of the chain
--     HopAt, Hops            a mark reaches no further than the next marked address
--     MarksList, MarksNodes  the marks of the chain's addresses; of the nodes that are laid out
-- Assumes nothing.
use Rattle.std.specs.Prelude.{◌≡◌, cond, ℕ, zero, suc, ◌+◌, ◌≤◌, ◌<◌, eqb, length, get_or}
use mathlib.Core.List.{List, [], ◌∷◌, Memᴰ}
use Rattle.format.specs.Node.{Node, sound}
use Rattle.format.specs.Paths.{Fst, node_in}
use Rattle.format.specs.Admitted.{Chain, RootChain}
use Rattle.admission_node.specs.Entries.{Kept}
use Rattle.converting.specs.Converting.{chain_of}

unfoldable pub marked : List ℕ → ℕ → List ℕ
marked d zero = []
marked d (suc n) = cond (eqb (get_or d n 0) 0) (marked d n) (n ∷ marked d n)

-- asks nothing where there is none
pub record FirstIs (f : Fst) (a first : ℕ) : Type 0 where
  pub each : (m : Node) → node_in f a ≡ sound m → first ≡ m.first

pub record Markable (f : Fst) (d : List ℕ) : Type 0 where
  pub nodes : List ℕ
  pub chain : RootChain f nodes
  pub room : length f.bytes ≤ length d
  pub inside : 0 < length f.bytes
  pub off : (j : ℕ) → j < length f.bytes → ¬ Memᴰ j nodes → get_or d j 0 ≡ 0

-- the chain from the root, which is not 0
pub record ChainMarkable (f : Fst) (d : List ℕ) : Type 0 where
  pub nodes : List ℕ
  pub chain : Chain f f.root nodes
  pub room : length f.bytes ≤ length d

-- the mark x of the address j leads past no address of l, nor past n
pub record HopAt (n : ℕ) (l : List ℕ) (j x : ℕ) : Type 0 where
  pub some : ¬ (x ≡ 0)
  pub end : j + x ≤ n
  pub gap : (i : ℕ) → j < i → i < j + x → ¬ Memᴰ i l

-- a mark leads past no other mark, nor past n
pub record Hops (n : ℕ) (d : List ℕ) : Type 0 where
  pub end : (j : ℕ) → j < n → ¬ (get_or d j 0 ≡ 0) → j + get_or d j 0 ≤ n
  pub gap : (j : ℕ) → j < n → ¬ (get_or d j 0 ≡ 0) → (i : ℕ) → j < i → i < j + get_or d j 0 → get_or d i 0 ≡ 0

-- each address of l has an entry, and no other entry is changed
pub record MarksList (n : ℕ) (l d₀ d : List ℕ) : Type 0 where
  pub on : (j : ℕ) → Memᴰ j l → HopAt n l j (get_or d j 0)
  pub off : (j : ℕ) → ¬ Memᴰ j l → get_or d j 0 ≡ get_or d₀ j 0
  pub kept : Kept n d₀ d

pub record MarksChain (f : Fst) (d₀ d : List ℕ) : Type 0 where
  pub each : (l : List ℕ) → Chain f f.root l → MarksList (length f.bytes) l d₀ d

-- the nodes that are laid out are marked: none where the root vanishes
pub record MarksNodes (f : Fst) (d₀ d : List ℕ) : Type 0 where
  pub kept : Kept (length f.bytes) d₀ d
  pub each : (l : List ℕ) → RootChain f l → marked d (length f.bytes) ≡ chain_of f l
  pub hops : Hops (length f.bytes) d
