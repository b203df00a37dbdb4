-- What the pass down the chain ensures; what admission itself promises is in admission `Outcome`. No definition of `Outcome` says how the
-- reached nodes are found; here it is by marks in the depths (admission_node `Entries`).
--     Hit x, Live d a         the mark of a reached address; the mark 4 at a
--     Entered f d l           the marks once the nodes of l are passed
--     marks_in d              the marks of a table, without the links
--     Above l j k             of the nodes of l the next one above j stands k above it
--     Linked n d l            the links of the nodes of l, and no link elsewhere
--     Walked                  the pass's answer
-- Assumes nothing.
use Rattle.std.specs.Prelude.{Ok, Err, Result, ⊤, ◌≡◌, ◌⊎◌, ℕ, ◌+◌, ◌/◌, ◌%◌, ◌≤◌, ◌<◌, length, get_or, map}
use mathlib.Core.List.{List, Memᴰ}
use Rattle.format.specs.declared.Transition.{Transition}
use Rattle.format.specs.Node.{Node, sound}
use Rattle.format.specs.Paths.{Fst, node_in, Reached}
use Rattle.format.specs.Admitted.{Chain}
use Rattle.node.specs.declared.Unsound.{Unsound}
use Rattle.admission_node.specs.Entries.{TargetIn}

-- ---- the marks

-- of a reached address, passed or not
pub record Hit (x : ℕ) : Type 0 where
  pub low : 2 ≤ x
  pub used : ¬ (x ≡ 3)

-- of a node of the chain that is passed and reached
abbrev pub Live : List ℕ → ℕ → Type 0
Live d a = get_or d a 0 ≡ 4

-- a node of l leads to j
pub record Source (f : Fst) (l : List ℕ) (j : ℕ) : Type 0 where
  pub at : ℕ
  pub node : Node
  pub on : Memᴰ at l
  pub judged : node_in f at ≡ sound node
  pub leads : TargetIn node.transitions j

pub record Entered (f : Fst) (d l : List ℕ) : Type 0 where
  pub on : (j : ℕ) → Memᴰ j l → 3 ≤ get_or d j 0
  pub off : (j : ℕ) → j < length f.bytes → ¬ Memᴰ j l → get_or d j 0 ≤ 2
  pub high : (j : ℕ) → j < length f.bytes → get_or d j 0 ≤ 4
  pub reached : (j : ℕ) → j < length f.bytes → Hit (get_or d j 0) → Reached f j
  pub source : (j : ℕ) → j < length f.bytes → ¬ Memᴰ j l → 1 ≤ get_or d j 0 → (j ≡ f.root) ⊎ Source f l j
  pub targets : (j : ℕ) (m : Node) (t : Transition) → Memᴰ j l → node_in f j ≡ sound m → Memᴰ t m.transitions → 1 ≤ get_or d t.addr 0
  pub hits : (j : ℕ) (m : Node) (t : Transition) → Memᴰ j l → Live d j → node_in f j ≡ sound m → Memᴰ t m.transitions → Hit (get_or d t.addr 0)
  pub top : Hit (get_or d f.root 0)

-- ---- the links

-- the marks 1 and 2 stand alone; above 3 and 4 stands the link
abbrev pub marks_in : List ℕ → List ℕ
marks_in d = map (λ x. x % 8) d

-- a distance as a link, or 0 where it does not fit
pub record LinkOf (gap r : ℕ) : Type 0 where
  pub small : r < 8192
  pub is : (r ≡ 0) ⊎ (r ≡ gap)

pub record Above (l : List ℕ) (j k : ℕ) : Type 0 where
  pub on : Memᴰ (j + k) l
  pub none : (i : ℕ) → j < i → i < j + k → ¬ Memᴰ i l

pub record Linked (n : ℕ) (d l : List ℕ) : Type 0 where
  pub off : (j : ℕ) → j < n → ¬ Memᴰ j l → get_or d j 0 ≤ 2
  pub link : (j : ℕ) → Memᴰ j l → (get_or d j 0 / 8 ≡ 0) ⊎ Above l j (get_or d j 0 / 8)

-- ---- the walk down the chain

pub record Walkable (f : Fst) (d : List ℕ) : Type 0 where
  pub room : length f.bytes ≤ length d
  pub not_zero : ¬ (f.root ≡ 0)
  pub inside : f.root < length f.bytes
  pub zeros : (j : ℕ) → j < length f.bytes → get_or d j 0 ≡ 0

pub record ChainMarked (f : Fst) (d l : List ℕ) : Type 0 where
  pub chain : Chain f f.root l
  pub marks : Entered f (marks_in d) l
  pub links : Linked (length f.bytes) d l

abbrev pub Walked : Fst → List ℕ → Result ⊤ Unsound → Type 0
Walked f d (Ok tt) = (l : List ℕ) × ChainMarked f d l
Walked f d (Err _) = (l : List ℕ) → ¬ Chain f f.root l
