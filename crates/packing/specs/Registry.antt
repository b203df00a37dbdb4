-- Equal nodes shared through a table of cells (document 02, N4; src/raw/registry.rs, `Registry` and `RegistryCache`), on lists.
--     fnv_step, hash_node    FNV-1a over 64-bit words; the hash of a node, that of `Registry` before its remainder; hash_of b of the record b
--     Cell, empty_cell      an address with its node's hash; a cell is empty when its address is 1
--     Build                the bytes of the nodes so far (from 16 on), and the cells
--     stored_at nodes a     the node that stands at a among the nodes so far
--     matches nodes b c    the cell c is not empty, its hash is b's, and the node at its address is the record b
--     intern s b           the address of the record b: 0, that of an equal node in b's row, or its own after it is written
-- Assumes nothing.
use Rattle.std.specs.Prelude.{◌≡◌, Bool, true, false, cond, ◌&&◌, not, List, [], ◌∷◌, ◌++◌, ℕ, zero, suc, ◌+◌, ◌*◌, ◌/◌, ◌%◌, ◌^◌, eqb, length, get_or, set, replicate}
use Rattle.std.specs.Int.Bits.{bit_xor}
use Rattle.format.specs.declared.Transition.{Transition}
use Rattle.format.specs.Node.{Node, Judgement, sound, unsound, transitions_of, node_at}
use Rattle.format.specs.Packed.{BuilderNode, packed, packs_to_nothing}

-- ---- the hash

-- the product modulo 2^64
unfoldable pub fnv_step : ℕ → ℕ → ℕ
fnv_step h x = (bit_xor h x * 1099511628211) % 2 ^ 64

-- input, output and target of each transition
unfoldable pub hash_transitions : ℕ → List Transition → ℕ
unfolding fnv_step
hash_transitions h [] = h
hash_transitions h (t ∷ ts) = hash_transitions (fnv_step (fnv_step (fnv_step h t.inp) t.out) t.addr) ts

-- final (0 or 1), final output, then the transitions
unfoldable pub hash_node : Bool → ℕ → List Transition → ℕ
unfolding hash_transitions fnv_step
hash_node final final_output ts = hash_transitions (fnv_step (fnv_step 14695981039346656037 (cond final 1 0)) final_output) ts

abbrev pub transitions_in : BuilderNode → List Transition
transitions_in b = transitions_of b.inputs b.outputs b.targets

unfoldable pub hash_of : BuilderNode → ℕ
unfolding hash_node
hash_of b = hash_node b.final b.final_output (transitions_in b)

-- ---- the cells

pub record Cell : Type 0 where
  pub addr : ℕ
  pub hash : ℕ

abbrev pub empty_cell : Cell
empty_cell = record { addr = 1; hash = 0 }

pub record Build : Type 0 where
  pub nodes : List ℕ
  pub cells : List Cell

abbrev pub cell_at : List Cell → ℕ → Cell
cell_at cells i = get_or cells i empty_cell

-- the first cell of the record's row; rows are pairs of cells, and an odd last cell is in none
unfoldable pub row_of : List Cell → BuilderNode → ℕ
unfolding hash_of
row_of cells b = 2 * (hash_of b % (length cells / 2))

-- ---- whether a stored node is a record

unfoldable pub same_transitions : List Transition → List Transition → Bool
same_transitions [] [] = true
same_transitions [] (u ∷ us) = false
same_transitions (t ∷ ts) [] = false
same_transitions (t ∷ ts) (u ∷ us) = eqb t.inp u.inp && (eqb t.out u.out && (eqb t.addr u.addr && same_transitions ts us))

abbrev pub same_bool : Bool → Bool → Bool
same_bool true b = b
same_bool false b = not b

abbrev pub same_node : Judgement → BuilderNode → Bool
same_node (sound m) b =
    same_bool m.final b.final
    && (eqb m.final_output b.final_output && same_transitions m.transitions (transitions_in b))
same_node unsound b = false

-- the first 16 bytes carry no node, and the last node ends the bytes
abbrev pub stored_at : List ℕ → ℕ → Judgement
stored_at nodes a = node_at (replicate 16 0 ++ nodes) 2 (15 + length nodes) a

-- equal hashes prove nothing: the nodes are compared
unfoldable pub matches : List ℕ → BuilderNode → Cell → Bool
unfolding hash_of same_transitions
matches nodes b c = not (eqb c.addr 1) && (eqb c.hash (hash_of b) && same_node (stored_at nodes c.addr) b)

-- ---- a record's address

pub record Interned : Type 0 where
  pub build : Build
  pub addr : ℕ

-- the two cells of a row
abbrev pub row_set : List Cell → ℕ → Cell → Cell → List Cell
row_set cells i first second = set (set cells i first) (i + 1) second

-- written after the others; it goes to the first cell of its row, what was first becomes second, what was second is overwritten
abbrev pub write_node : Build → BuilderNode → List ℕ → Interned
write_node s b nodes = record {
  build = record { nodes = nodes; cells = row_set s.cells (row_of s.cells b) (record { addr = 15 + length nodes; hash = hash_of b }) (cell_at s.cells (row_of s.cells b)) };
  addr = 15 + length nodes;
}

-- the second cell matches: the two change places
abbrev pub promote : Build → ℕ → Interned
promote s i = record {
  build = record { nodes = s.nodes; cells = row_set s.cells i (cell_at s.cells (i + 1)) (cell_at s.cells i) };
  addr = (cell_at s.cells (i + 1)).addr;
}

-- a final record without transitions and with output 0 is address 0, and is not looked up
unfoldable pub intern : Build → BuilderNode → Interned
unfolding matches row_of packed
intern s b =
    cond (packs_to_nothing b) (record { build = s; addr = 0 })
    (cond (matches s.nodes b (cell_at s.cells (row_of s.cells b)))
    (record { build = s; addr = (cell_at s.cells (row_of s.cells b)).addr })
    (cond (matches s.nodes b (cell_at s.cells (row_of s.cells b + 1))) (promote s (row_of s.cells b))
    (write_node s b (s.nodes ++ packed (16 + length s.nodes) b))))
