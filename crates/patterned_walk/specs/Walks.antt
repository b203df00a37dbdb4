-- What the walk by pattern answers, and what it leans on.
--     Told                  what a number tells of each level
--     PopsBy                what the pops answer: the walk from the level that they find is the walk from all levels
--     walked_seen, WalksBy   what the walk answered, read against the four arrays; its contract
-- Assumes nothing.
use Rattle.std.specs.Prelude.{◌≡◌, Bool, true, List, ◌∷◌, ℕ, ◌-◌, ◌≤◌, ◌<◌, length, get_or, take, drop, Ok, Err, Some, None, Result, Option}
use Rattle.format.specs.declared.Refusal.{Refusal}
use Rattle.format.specs.Limits.{max_levels, NODE}
use Rattle.format.specs.Paths.{Fst, fst_with}
use Rattle.format.specs.Strings as S
use Rattle.node.specs.declared.Node.{Node}
use Rattle.node.specs.declared.Unsound.{Unsound}
use Rattle.reading.specs.Visits.{left}
use Rattle.stream_start.specs.Views.{level_at, stack_is}
use Rattle.stream_pop.specs.Pops.{Ready}
use Rattle.pattern.specs.Pattern.{Pattern, WentBy, ended, halted, walk_by}
use Rattle.pattern.specs.FitCount.{goes_on, Tells}
use Rattle.stream_descend.specs.declared.Followed.{Followed}
use Rattle.stream_descend.specs.Descent.{down_at}
use Rattle.patterned_descend.specs.Descents.{found_seen}

-- ---- the pops

abbrev pub pop_seen : Fst → Pattern → S.Bound → ℕ → List ℕ → List ℕ → List ℕ → List ℕ → Result (Option (ℕ × Node)) Unsound → WentBy
pop_seen f p hi t xs is ps os (Ok (Some (k, m))) = walk_by f p hi (level_at k xs is ps os ∷ stack_is k xs is ps os) t
pop_seen f p hi t xs is ps os (Ok None) = ended t
pop_seen f p hi t xs is ps os (Err u) = halted NODE

-- a pattern of so many positions; the number fit tells of each level whether its bytes fit the pattern's start
pub record Told (n : ℕ) (rest : Bool) (levels fit : ℕ) (is : List ℕ) (p : Pattern) : Type 0 where
  pub inps_len : length is ≡ max_levels
  pub count : length p.positions ≡ n
  pub any_rest_lem : p.rest ≡ rest
  pub tells : Tells p (take (levels - 1) (drop 1 is)) fit

-- the pops see neither the inputs nor the sums
pub record PopsBy (s : List ℕ) (v root n : ℕ) (rest : Bool) (xs ps : List ℕ) (levels fit : ℕ) (r : Result (Option (ℕ × Node)) Unsound) : Type 0 where
  pub seen : (is os : List ℕ) (p : Pattern) → Told n rest levels fit is p → (hi : S.Bound) (t : ℕ)
      → pop_seen (fst_with s v root) p hi t xs is ps os r ≡ walk_by (fst_with s v root) p hi (stack_is levels xs is ps os) t
  pub low : (k : ℕ) (m : Node) → r ≡ Ok (Some (k, m)) → k < levels
  pub ready : (k : ℕ) (m : Node) → r ≡ Ok (Some (k, m)) → Ready s v root (get_or xs k 0) (get_or ps k 0) m
  pub fits : (k : ℕ) (m : Node) → r ≡ Ok (Some (k, m)) → goes_on fit n rest k ≡ true
  pub less : (k : ℕ) (m : Node) → r ≡ Ok (Some (k, m)) → (is os : List ℕ)
      → left (fst_with s v root) (level_at k xs is ps os ∷ stack_is k xs is ps os) ≤ left (fst_with s v root) (stack_is levels xs is ps os)

-- ---- the walk

abbrev pub walked_seen : List ℕ → List ℕ → List ℕ → List ℕ → Result Followed Refusal → WentBy
walked_seen xs is ps os (Ok r) = found_seen xs is ps os r.found r.total
walked_seen xs is ps os (Err n) = halted n

pub record WalksBy (want : WentBy) (xs is ps os : List ℕ) (r : Result Followed Refusal) : Type 0 where
  pub low : down_at r < max_levels
  pub inps_len : length is ≡ max_levels
  pub seen : walked_seen xs is ps os r ≡ want
