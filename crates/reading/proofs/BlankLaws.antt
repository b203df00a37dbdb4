-- A blank card has no node (document 02, N3), so a reading that holds a level on it is refused there.
--     blank_level     a made reading with a level and nothing pending, of the right length and with room: NODE
-- Assumes nothing.
use Rattle.std.specs.Prelude.{◌≡◌, refl, List, [], ◌∷◌, ℕ, ◌≤◌, length}
use Rattle.std.proofs.Math.Option.{none}
use Rattle.std.proofs.Common.{le-leb, eq-eqb}
use Rattle.format.specs.Limits.{max_path, max_levels, NODE}
use Rattle.format.specs.Opening.{meta_of}
use Rattle.format.specs.Laws.OpeningLaws.{opening_blank}
use Rattle.format.specs.Laws.NodeLaws.{no_node}
use Rattle.reading.specs.Reading.{Level, View, pop, next, refuse}

pub blank_level : (r : View) (l : Level) (ls : List Level) (space : ℕ) → r.levels ≡ l ∷ ls → r.empty ≡ none
    → length r.levels ≤ max_levels → r.bound_len ≤ max_path → r.len ≡ 0 → max_path ≤ space → next [] r space ≡ refuse r NODE
unfolding pop next
blank_level r l ls space is idle few short len room =
    rw (
      opening_blank [] refl,
      le-leb (length r.levels) max_levels few,
      le-leb r.bound_len max_path short,
      eq-eqb r.len 0 len,
      le-leb max_path space room,
      idle,
      is,
      no_node (meta_of []).version (meta_of []).root l.addr,
    )
