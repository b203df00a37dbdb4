-- An admitted file (document 01's word, "An admitted file"; docs/FORMAT.md, "Admission"): its conditions in the paper's order, over
-- the chain of its nodes and over paths. No table and no algorithm enters here.
--     Chain f a l          from the node at a, each F - 1 is the next node's address until F is exactly 16; l are the addresses
--     Nodes f l            the file's chain, of sound nodes, with every non-zero target on it
--     Shallow, Light       no path from a reached node is longer than 255; no path sum from one, final output included, passes 2^64 - 1
--     Admitted s           the bytes s are an admitted file
-- Assumes nothing.
use Rattle.std.specs.Prelude.{◌≡◌, ℕ, ◌+◌, ◌-◌, ◌^◌, ◌≤◌, ◌<◌, length}
use mathlib.Core.List.{List, [], ◌∷◌, Memᴰ}
use Rattle.format.specs.declared.Transition.{Transition}
use Rattle.format.specs.Limits.{first_node, max_path, max_sum}
use Rattle.format.specs.Node.{Node, sound}
use Rattle.format.specs.Opening.{Meta, opened, opening}
use Rattle.format.specs.Paths.{Fst, fst_of, node_in, Path, Reached}

pub data Chain (f : Fst) : ℕ → List ℕ → Type 0 where
  last : {a : ℕ} (m : Node) → node_in f a ≡ sound m → m.first ≡ first_node → Chain f a (a ∷ [])
  next : {a : ℕ} {l : List ℕ} (m : Node) → node_in f a ≡ sound m → ¬ (m.first ≡ first_node) → Chain f (m.first - 1) l → Chain f a (a ∷ l)

-- root 0 has no chain
pub data RootChain (f : Fst) : List ℕ → Type 0 where
  empty : f.root ≡ 0 → RootChain f []
  rooted : {l : List ℕ} → ¬ (f.root ≡ 0) → Chain f f.root l → RootChain f l

pub record Nodes (f : Fst) (l : List ℕ) : Type 0 where
  pub chain : RootChain f l
  pub closed : (a : ℕ) (m : Node) (t : Transition) → Memᴰ a l → node_in f a ≡ sound m → Memᴰ t m.transitions → ¬ (t.addr ≡ 0) → Memᴰ t.addr l

-- these two ask nothing of the nodes of the chain that no path from the root reaches
unfoldable pub Shallow : Fst → Type 0
Shallow f = (a : ℕ) (k : List ℕ) (sum b : ℕ) → Reached f a → Path f a k sum b → length k ≤ max_path

unfoldable pub Light : Fst → Type 0
Light f = (a : ℕ) (k : List ℕ) (sum b : ℕ) (m : Node) → Reached f a → Path f a k sum b → node_in f b ≡ sound m → sum + m.final_output ≤ max_sum

pub record Admitted (s : List ℕ) : Type 0 where
  pub meta : Meta
  pub nodes : List ℕ
  pub opens : opening s ≡ opened meta
  pub chained : Nodes (fst_of s meta) nodes
  pub shallow : Shallow (fst_of s meta)
  pub light : Light (fst_of s meta)
