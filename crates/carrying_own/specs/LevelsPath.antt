-- The levels of a reading that a start and calls of next on a file gave, on any file that opens.
--     LedTo f l s          the level l over the levels s: at the root with nothing summed, or where a transition of the node below leads by its byte
--     OnPath f l s         and its node is sound
--     LevelsPath f s       each level, so that they are a path from the root
--     Own s m r            a reading of the file s that says m: what a start gives and every call keeps (LevelsPathLaws)
-- Assumes nothing.
use Prim.{Unit}
use Rattle.std.specs.Prelude.{◌≡◌, ℕ, ◌+◌, ◌≤◌, length}
use mathlib.Core.List.{List, [], ◌∷◌, Memᴰ}
use Rattle.format.specs.declared.Transition.{Transition}
use Rattle.format.specs.Limits.{max_path, max_levels}
use Rattle.format.specs.Node.{Node, sound}
use Rattle.format.specs.Opening.{Meta}
use Rattle.format.specs.Paths.{Fst, fst_of, node_in}
use Rattle.reading.specs.Reading.{Level, View}

pub data LedTo (f : Fst) (l : Level) : List Level → Type 0 where
  from_root : l.addr ≡ f.root → l.out ≡ 0 → LedTo f l []
  by_byte : {k : Level} {s : List Level} (n : Node) (t : Transition) → node_in f k.addr ≡ sound n → Memᴰ t n.transitions
      → l.inp ≡ t.inp → l.addr ≡ t.addr → l.out ≡ k.out + t.out → LedTo f l (k ∷ s)

pub record OnPath (f : Fst) (l : Level) (s : List Level) : Type 0 where
  pub node : Node
  pub judged : node_in f l.addr ≡ sound node
  pub led : LedTo f l s

abbrev pub LevelsPath : Fst → List Level → Type 0
LevelsPath f [] = Unit {0}
LevelsPath f (l ∷ s) = OnPath f l s × LevelsPath f s

pub record Own (s : List ℕ) (m : Meta) (r : View) : Type 0 where
  pub len_is : r.len ≡ length s
  pub bound_le : r.bound_len ≤ max_path
  pub levels_le : length r.levels ≤ max_levels
  pub path : LevelsPath (fst_of s m) r.levels
