-- Whether the run overwrote a filled cell (document 02, N4: "where no filled cell was overwritten, no two of its nodes are equal").
--     keeps B b                interning the record b overwrites no filled cell: b is not written, or its row's second cell is empty
--     close_keeps, insert_keeps, insert_all_keeps, root_keeps      the same of all records that `close`, `insert`, `insert_all`, `close_root` intern
--     pack_keeps ps n           the same of the whole run
--     KeptSeen y cells l       y says exactly whether every address of l stands in some cell
-- Proved of the run, with two cells or more, and the addresses of the result's nodes: `pack_kept` in PackLaws.
-- Assumes nothing.
use Rattle.std.specs.Prelude.{◌≡◌, Bool, true, cond, ◌&&◌, ℕ, ◌+◌, eqb, replicate}
use mathlib.Core.List.{List, [], ◌∷◌, Memᴰ}
use Rattle.format.specs.Packed.{BuilderNode, packs_to_nothing}
use Rattle.packing.specs.Lists.{Pair}
use Rattle.packing.specs.Registry.{Cell, empty_cell, Build, cell_at, row_of, matches}
use Rattle.packing.specs.Packing.{Open, least_at, record_of, with_arc, Closed, close, State, insert_pair, insert_all, start}
use Rattle.packing.specs.Promise.{InCell}

unfoldable pub keeps : Build → BuilderNode → Bool
unfolding matches row_of
keeps s b =
    cond (packs_to_nothing b) true
    (cond (matches s.nodes b (cell_at s.cells (row_of s.cells b))) true
    (cond (matches s.nodes b (cell_at s.cells (row_of s.cells b + 1))) true
    (eqb (cell_at s.cells (row_of s.cells b + 1)).addr 1)))

-- the node o, where those below it are finished as c
abbrev pub finish_keeps : Open → Closed → Bool
finish_keeps o c = keeps c.build (record_of (with_arc o c.arc) (least_at (with_arc o c.arc)))

unfoldable pub close_keeps : Build → Open → List Open → Bool
unfolding keeps close record_of least_at
close_keeps B o [] = keeps B (record_of o (least_at o))
close_keeps B o (p ∷ s) = close_keeps B p s && finish_keeps o (close B p s)

unfoldable pub insert_keeps : Build → Open → List Open → List ℕ → Bool
unfolding close_keeps
insert_keeps B o s [] = true
insert_keeps B o [] (b ∷ k) = true
insert_keeps B o (p ∷ s) (b ∷ k) = cond (eqb p.inp b) (insert_keeps B p s k) (close_keeps B p s)

unfoldable pub insert_all_keeps : State → List Pair → Bool
unfolding insert_keeps
insert_all_keeps t [] = true
insert_all_keeps t (p ∷ ps) = insert_keeps t.build t.top t.below p.key && insert_all_keeps (insert_pair t p) ps

abbrev pub root_keeps : Build → Open → List Open → Bool
root_keeps B o [] = keeps B (record_of o 0)
root_keeps B o (p ∷ s) = go (close B p s)
  where
    go : Closed → Bool
    go c = close_keeps B p s && keeps c.build (record_of (with_arc o c.arc) 0)

abbrev pub end_keeps : State → Bool
end_keeps t = root_keeps t.build t.top t.below

unfoldable pub pack_keeps : List Pair → ℕ → Bool
unfolding insert_all_keeps insert_all keeps close_keeps
pack_keeps ps n = insert_all_keeps (start (replicate n empty_cell)) ps && end_keeps (insert_all (start (replicate n empty_cell)) ps)

pub record KeptSeen (y : Bool) (cells : List Cell) (l : List ℕ) : Type 0 where
  pub kept : y ≡ true → (a : ℕ) → Memᴰ a l → InCell cells a
  pub seen : ((a : ℕ) → Memᴰ a l → InCell cells a) → y ≡ true
