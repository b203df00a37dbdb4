-- What the descent of a range answers: as that of a reading, but that it counts no transitions.
--     went_seen .. t r       what the descent answered, read against the four arrays, with the total t
--     went_at r              the level where a key was found; 0 where none was
--     down_from              the descent by definition, over arrays, from a total
--     found_at ..            a key's value with the final output, or SUM
--     DescendsOn ..         the contract: for every total; the arrays hold the levels of judged nodes after it too
-- Assumes nothing.
use Rattle.std.specs.Prelude.{◌≡◌, false, cond, List, ◌∷◌, ℕ, ◌+◌, ◌-◌, ◌<◌, leb, get_or, drop, Ok, Err, Some, None, Result, Option}
use Rattle.format.specs.declared.Refusal.{Refusal}
use Rattle.format.specs.Limits.{max_path, max_levels, max_sum, NODE, SUM}
use Rattle.format.specs.Paths.{Fst, node_in}
use Rattle.format.specs.Strings as S
use Rattle.reading.specs.Reading as R
use Rattle.reading.specs.Reading.{on_node, found, passed, descend}
use Rattle.stream_start.specs.Views.{Arrays, level_at, stack_is}
use Rattle.range_bound.specs.Besides.{Beside}
use Rattle.range_node.specs.Entries.{SoundTo}
use Rattle.range_down.specs.declared.Next.{Next}

abbrev pub went_seen : List ℕ → List ℕ → List ℕ → List ℕ → ℕ → Result (Option Next) Refusal → R.Went
went_seen xs is ps os t (Ok (Some q)) = found (level_at q.level xs is ps os ∷ stack_is q.level xs is ps os) q.value t
went_seen xs is ps os t (Ok None) = passed t
went_seen xs is ps os t (Err n) = R.Went.halted n

abbrev pub went_at : Result (Option Next) Refusal → ℕ
went_at (Ok (Some q)) = q.level
went_at (Ok None) = 0
went_at (Err n) = 0

-- from level k down, as its node is judged
abbrev pub down_from : Fst → S.Bound → List ℕ → List ℕ → List ℕ → List ℕ → ℕ → ℕ → R.Went
down_from f hi xs is ps os k t =
    on_node (node_in f (get_or xs k 0)) (λ m. descend (max_path - k) f hi (level_at k xs is ps os) m (stack_is k xs is ps os) t) (R.Went.halted NODE)

abbrev pub found_at : ℕ → ℕ → ℕ → ℕ → Result (Option Next) Refusal
found_at k sum end s = cond (leb (sum + end) max_sum) (Ok (Some (record { level = k; value = sum + end; same = s }))) (Err SUM)

-- a total after the descent, for each before it
pub record SeenFrom (want : ℕ → R.Went) (xs is ps os : List ℕ) (r : Result (Option Next) Refusal) (t : ℕ) : Type 0 where
  pub total : ℕ
  pub seen : went_seen xs is ps os total r ≡ want t

pub record DescendsOn (f : Fst) (hi : S.Bound) (b : List ℕ) (want : ℕ → R.Went) (xs is ps os : List ℕ) (r : Result (Option Next) Refusal) : Type 0 where
  pub low : went_at r < max_levels
  pub arrays : Arrays xs is ps os
  pub sound : SoundTo f xs (went_at r + 1)
  -- how a key that was found stands to the upper bound
  pub beside : (q : Next) → r ≡ Ok (Some q) → Beside hi b (drop 1 is) q.level q.same false
  pub from : (t : ℕ) → SeenFrom want xs is ps os r t
