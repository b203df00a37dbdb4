-- A cell against a record, by the file as the code has it: 16 bytes 0 and the nodes so far.
--     Paired b              the record b has an output and a target for each input
--     cell_with a h         the cell of an address and a hash
--     cell_of c             the cell that the code's c is
--     matches_in file b c   the cell c is not empty, its hash is b's, and the node at its address is the record b
--     matches_in_lem           this is `matches` of the nodes
--     Choice               what a row's two cells say: the first matches, or the second, or none
--     chosen x y           the choice, where the first cell matches by x and the second by y
--     intern_chosen        a record's address by the choice
-- Assumes nothing.
use Rattle.std.specs.Prelude.{◌≡◌, ℕ, ◌+◌, ◌-◌, Bool, true, false, cond, not, ◌&&◌, List, ◌++◌, length, replicate, ◌==◌, refl}
use Rattle.std.proofs.Common.{ap, arith, length-append}
use Rattle.std.proofs.lemmas.List.{length-replicate}
use Rattle.format.specs.Node.{node_at}
use Rattle.format.specs.Packed.{BuilderNode, packed, packs_to_nothing}
use Rattle.packing.specs.Registry.{hash_of, Cell, Build, cell_at, row_of, same_node, matches, Interned, write_node, promote, intern}
use Rattle.pack_cell.specs.declared.Cell as code
use Rattle.registry.specs.declared.Choice.{Choice}
use Rattle.registry.specs.declared.Choice.TheVariants.{First, Second, Write}

pub record Paired (b : BuilderNode) : Type 0 where
  pub outputs_len : length b.outputs ≡ length b.inputs
  pub targets_len : length b.targets ≡ length b.inputs

abbrev pub cell_with : ℕ → ℕ → Cell
cell_with a h = record { addr = a; hash = h }

abbrev pub cell_of : code.Cell → Cell
cell_of c = cell_with c.addr c.hash

abbrev pub matches_in : List ℕ → BuilderNode → Cell → Bool
matches_in file b c = not (c.addr == 1) && (c.hash == hash_of b && same_node (node_at file 2 (length file - 1) c.addr) b)

pub matches_in_lem : (nodes : List ℕ) (b : BuilderNode) (c : Cell) → matches_in (replicate 16 0 ++ nodes) b c ≡ matches nodes b c
unfolding matches
matches_in_lem nodes b c =
    let e : length (replicate 16 0 ++ nodes) - 1 ≡ 15 + length nodes = omega (arith, length-append (replicate 16 0) nodes, length-replicate {A = ℕ} 16 0) in
    ap (λ (n : ℕ). not (c.addr == 1) && (c.hash == hash_of b && same_node (node_at (replicate 16 0 ++ nodes) 2 n c.addr) b)) e

-- the first before the second
abbrev pub chosen : Bool → Bool → Choice
chosen x y = cond x First (cond y Second Write)

-- the address and what is left, of a record that does not pack to nothing
abbrev pub intern_by : Build → BuilderNode → Choice → Interned
intern_by s b First = record { build = s; addr = (cell_at s.cells (row_of s.cells b)).addr }
intern_by s b Second = promote s (row_of s.cells b)
intern_by s b Write = write_node s b (s.nodes ++ packed (16 + length s.nodes) b)

pub intern_chosen : (s : Build) (b : BuilderNode) → packs_to_nothing b ≡ false
    → intern s b
    ≡ intern_by s b (chosen (matches s.nodes b (cell_at s.cells (row_of s.cells b))) (matches s.nodes b (cell_at s.cells (row_of s.cells b + 1))))
unfolding intern
intern_chosen s b some =
    go (packs_to_nothing b) some (matches s.nodes b (cell_at s.cells (row_of s.cells b))) (matches s.nodes b (cell_at s.cells (row_of s.cells b + 1)))
  where
    go : (z : Bool) → z ≡ false → (x y : Bool)
        → cond z (record { build = s; addr = 0 }) (cond x (record { build = s; addr = (cell_at s.cells (row_of s.cells b)).addr })
        (cond y (promote s (row_of s.cells b)) (write_node s b (s.nodes ++ packed (16 + length s.nodes) b))))
        ≡ intern_by s b (chosen x y)
    go true e x y = absurd (let w : ◌≡◌ {A = ℕ} 0 1 = cc in omega arith)
    go false e true y = refl
    go false e false true = refl
    go false e false false = refl
