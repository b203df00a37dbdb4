-- The walk of a call of next by pattern where nothing is pending.
--     walk_of f p r          the walk from a reading, by definition
-- Assumes nothing.
use Rattle.format.specs.Paths.{Fst}
use Rattle.reading.specs.Reading as R
use Rattle.pattern.specs.Pattern as P
use Rattle.pattern.specs.Pattern.{walk_by, after_walk}

abbrev pub walk_of : Fst → P.Pattern → R.View → R.Step
walk_of f p r = after_walk r (walk_by f p r.bound r.levels r.total)
