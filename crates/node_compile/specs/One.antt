-- A node with one transition, packed from what its state byte keeps of the input.
--     one_bytes F idx rare out t    the bytes of a node at F that leads to t: of the form 11 where it can be
-- Assumes nothing.
use Rattle.std.specs.Prelude.{cond, ◌&&◌, List, ℕ, eqb}
use Rattle.format.specs.Packed.{delta_of, last_addr}
use Rattle.node_compile.specs.Parts.{state_for, one_for}

abbrev pub one_bytes : ℕ → ℕ → ℕ → ℕ → ℕ → List ℕ
one_bytes first idx rare out target =
    cond (eqb target (last_addr first) && eqb out 0) (state_for 192 idx rare) (one_for idx rare out (delta_of first target))
