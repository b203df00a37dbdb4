-- What is promised of a packed list (document 02, N4).
--     Bytes k, Listed ps   every element of k is a byte; the pairs are as a list has them: keys ascend, of bytes, not too long, values of 64 bits
--     pair_with             a key with its value
--     SameNodes f a b      the nodes at a and b say the same
--     InCell, CellOf       an address stands in some cell; a cell has the address of a node and its hash
--     PackRight ps n A     the file of the pairs ps, admitted as A, says what it is and holds exactly the pairs; its cells; that it is minimal
-- Proved for every list whose file is not too large: `pack_right` in PackLaws, `list_listed` in ListLaws.
-- Assumes nothing.
use Prim.{Unit}
use Rattle.std.specs.Prelude.{◌≡◌, ◌⊎◌, ℕ, ◌≤◌, ◌<◌, length}
use mathlib.Core.List.{List, [], ◌∷◌, map, Memᴰ}
use Rattle.format.specs.Limits.{max_path, max_sum}
use Rattle.format.specs.Node.{Node, sound}
use Rattle.format.specs.Paths.{Fst, fst_of, node_in, Held}
use Rattle.format.specs.Admitted.{Admitted}
use Rattle.format.specs.Strings.{Rising}
use Rattle.packing.specs.Lists.{Pair}
use Rattle.packing.specs.Registry.{hash_node, Cell, empty_cell, cell_at}
use Rattle.packing.specs.Packing.{pack_file, pack_cells}

abbrev pub Bytes : List ℕ → Type 0
Bytes [] = Unit {0}
Bytes (b ∷ k) = (b < 256) × Bytes k

-- what is asked of a pair
pub record PairOk (n : ℕ) (p : Pair) : Type 0 where
  pub bytes : Bytes p.key
  pub short : length p.key ≤ n
  pub fits : p.value ≤ max_sum

pub record Listed (ps : List Pair) : Type 0 where
  pub rising : Rising (map (λ (p : Pair). p.key) ps)
  pub pairs : (p : Pair) → Memᴰ p ps → PairOk max_path p

abbrev pub pair_with : List ℕ → ℕ → Pair
pair_with k v = record { key = k; value = v }

pub record SameNodes (f : Fst) (a b : ℕ) : Type 0 where
  pub first : Node
  pub second : Node
  pub judged : node_in f a ≡ sound first
  pub judged' : node_in f b ≡ sound second
  pub final : first.final ≡ second.final
  pub final_output : first.final_output ≡ second.final_output
  pub transitions : first.transitions ≡ second.transitions

abbrev pub InCell : List Cell → ℕ → Type 0
InCell cells a = (i : ℕ) × ((cell_at cells i).addr ≡ a)

-- a cell with the address of a node of the chain l, and the hash of what is read there
pub record CellOf (f : Fst) (l : List ℕ) (c : Cell) : Type 0 where
  pub node : Node
  pub on : Memᴰ c.addr l
  pub judged : node_in f c.addr ≡ sound node
  pub hash_is : c.hash ≡ hash_node node.final node.final_output node.transitions

-- of the file of the pairs ps, with n cells
pub record PackRight (ps : List Pair) (n : ℕ) (A : Admitted (pack_file ps n)) : Type 0 where
  pub version : A.meta.version ≡ 2
  pub ty : A.meta.ty ≡ 0
  pub count : A.meta.len ≡ length ps
  pub held : (k : List ℕ) (v : ℕ) → Held (fst_of (pack_file ps n) A.meta) k v → Memᴰ (pair_with k v) ps
  pub holds : (k : List ℕ) (v : ℕ) → Memᴰ (pair_with k v) ps → Held (fst_of (pack_file ps n) A.meta) k v
  pub cells : (i : ℕ) → (cell_at (pack_cells ps n) i ≡ empty_cell) ⊎ CellOf (fst_of (pack_file ps n) A.meta) A.nodes (cell_at (pack_cells ps n) i)
  -- where every node still stands in a cell, no two are the same
  pub minimal : ((a : ℕ) → Memᴰ a A.nodes → InCell (pack_cells ps n) a) → (a b : ℕ) → Memᴰ a A.nodes → Memᴰ b A.nodes
      → SameNodes (fst_of (pack_file ps n) A.meta) a b → a ≡ b
