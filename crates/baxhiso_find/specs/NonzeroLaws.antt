-- No refusal of a page by pattern has the number 0, so that no result of fst_find is FST_OK.
--     find_nonzero        the claim
-- Assumes nothing.
use Rattle.std.specs.Prelude.{List, ℕ}
use Rattle.format.specs.Strings.{Bound}
use Rattle.pattern.specs.Pattern.{Pattern}
use Rattle.finding.specs.Finding.{find}
use Rattle.baxhiso_readings.specs.ReadingsLaws.{StopNonzero, stop_nonzero}

pub find_nonzero : (s : List ℕ) (p : Pattern) (lo hi : Bound) (most a b : ℕ) → StopNonzero (find s p lo hi most a b).stop
find_nonzero s p lo hi most a b = stop_nonzero (find s p lo hi most a b).stop
