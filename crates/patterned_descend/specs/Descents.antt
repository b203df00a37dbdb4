-- What the descent by pattern answers, and what it leans on.
--     found_seen, down_seen .. r   what the walk and the descent answered, read against the four arrays
--     DescendsBy            what the descent answers: the walk from its levels, with less to do where it goes on
-- Assumes nothing.
use Rattle.std.specs.Prelude.{◌≡◌, true, List, ◌∷◌, ℕ, ◌-◌, ◌<◌, take, drop, Ok, Err, Some, None, Result, Option}
use Rattle.format.specs.declared.Refusal.{Refusal}
use Rattle.format.specs.Limits.{max_levels}
use Rattle.format.specs.Paths.{Fst}
use Rattle.format.specs.Strings as S
use Rattle.reading.specs.Reading.{Level}
use Rattle.reading.specs.Visits.{left}
use Rattle.stream_start.specs.Views.{Arrays, level_at, stack_is}
use Rattle.pattern.specs.Pattern.{Pattern, start_test, WentBy, found, ended, halted, walk_by}
use Rattle.patterned_descend.specs.declared.Down.{Down}
use Rattle.patterned_descend.specs.declared.Down.TheVariants.{Done, Stuck}
use Rattle.stream_descend.specs.Descent.{place_of}

abbrev pub found_seen : List ℕ → List ℕ → List ℕ → List ℕ → Option (ℕ × ℕ) → ℕ → WentBy
found_seen xs is ps os (Some (k, v)) t = found (level_at k xs is ps os ∷ stack_is k xs is ps os) v t
found_seen xs is ps os None t = ended t

abbrev pub down_seen : Fst → Pattern → S.Bound → List ℕ → List ℕ → List ℕ → List ℕ → Result Down Refusal → WentBy
down_seen f p hi xs is ps os (Ok (Done r)) = found_seen xs is ps os r.found r.total
down_seen f p hi xs is ps os (Err n) = halted n
down_seen f p hi xs is ps os (Ok (Stuck k t)) = walk_by f p hi (stack_is k xs is ps os) t

abbrev pub down_at : Result Down Refusal → ℕ
down_at (Ok (Done r)) = place_of r.found
down_at (Err n) = 0
down_at (Ok (Stuck k t)) = k

-- from the levels, with the total t
pub record DescendsBy (f : Fst) (p : Pattern) (hi : S.Bound) (levels : List Level) (t : ℕ) (xs is ps os : List ℕ) (r : Result Down Refusal) : Type 0 where
  pub low : down_at r < max_levels
  pub arrays : Arrays xs is ps os
  pub seen : down_seen f p hi xs is ps os r ≡ walk_by f p hi levels t
  -- where it goes on there is less to do, and the bytes of the levels that are left fit the pattern's start
  pub less : (k u : ℕ) → r ≡ Ok (Stuck k u) → left f (stack_is k xs is ps os) < left f levels
  pub fits : (k u : ℕ) → r ≡ Ok (Stuck k u) → start_test p.positions p.rest (take (k - 1) (drop 1 is)) ≡ true
