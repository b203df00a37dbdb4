-- What a pattern stands for (document 02, N1).
--     held_is q              the pattern that a reading holds; it has the positions that it states
--     given_is xs rest       the pattern that a start is given
-- Assumes nothing.
use Rattle.std.specs.Prelude.{Bool, List, map, ℕ}
use Rattle.pattern.specs.Pattern as P
use Rattle.patterned_fit.specs.Positions.{position_is}
pub use Rattle.patterned_fit.specs.Positions.{held_is}

abbrev pub given_is : List ℕ → Bool → P.Pattern
given_is xs rest = record { positions = map position_is xs; rest = rest }
