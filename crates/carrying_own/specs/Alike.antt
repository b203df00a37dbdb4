-- Levels and readings of one file and of another that has its nodes at other addresses.
--     level_there, levels_there, view_there     a level, levels and a reading at the new addresses ren; the reading has the other file's length
--     Imaged f g ren l                       the level's node stands in g at its new address, with its targets replaced
-- Assumes nothing.
use Prim.{Unit}
use Rattle.std.specs.Prelude.{◌≡◌, List, [], ◌∷◌, map, ℕ}
use Rattle.format.specs.Node.{Node, sound}
use Rattle.format.specs.Paths.{Fst, node_in}
use Rattle.reading.specs.Reading.{Level, View}
use Rattle.converting.specs.Mirror.{renamed}
use Rattle.carrying.specs.Carry.{level_at, carried_to}

abbrev pub level_there : (ℕ → ℕ) → Level → Level
level_there ren l = level_at (ren l.addr) l

abbrev pub levels_there : (ℕ → ℕ) → List Level → List Level
levels_there ren s = map (level_there ren) s

abbrev pub view_there : (ℕ → ℕ) → ℕ → View → View
view_there ren n r = carried_to n r (levels_there ren r.levels)

pub record Imaged (f g : Fst) (ren : ℕ → ℕ) (l : Level) : Type 0 where
  pub old : Node
  pub new : Node
  pub judged : node_in f l.addr ≡ sound old
  pub stands : node_in g (ren l.addr) ≡ sound new
  pub transitions_are : new.transitions ≡ map (renamed ren) old.transitions

abbrev pub AllImaged : Fst → Fst → (ℕ → ℕ) → List Level → Type 0
AllImaged f g ren [] = Unit {0}
AllImaged f g ren (l ∷ s) = Imaged f g ren l × AllImaged f g ren s
