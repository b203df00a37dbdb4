-- What following a transition and the descent answer, and what they lean on.
--     Pushed, Follows        the levels after a transition is followed; what following one answers
--     Refuses                why a transition is not followed
--     went_seen .., down_seen .. r     what a walk came to, and what the descent answered, read against the four arrays
--     place_of, down_at      the level where a key was found; 0 where none was
--     down_from              the descent by definition, over arrays
--     Descends ..           the descent's contract
-- Assumes nothing.
use Rattle.std.specs.Prelude.{◌≡◌, List, ◌∷◌, ◌⊎◌, ℕ, ◌+◌, ◌-◌, ◌≤◌, ◌<◌, length, Ok, Err, Some, None, Result, Option}
use Rattle.format.specs.declared.Refusal.{Refusal}
use Rattle.format.specs.Limits.{max_path, max_levels, max_sum, NODE, SUM}
use Rattle.format.specs.Node as F
use Rattle.format.specs.Node.{sound, unsound}
use Rattle.format.specs.Paths.{Fst, fst_with, node_in}
use Rattle.format.specs.Strings as S
use Rattle.node.specs.declared.Node.{Node}
use Rattle.node.specs.Read.{meaning, Readable}
use Rattle.reading.specs.Reading.{Level, Went, found, passed, descend, next_trans, child, stepped}
use Rattle.stream_descend.specs.declared.Followed.{Followed}
use Rattle.stream_start.specs.Views.{Arrays, level_at, stack_is}

-- ---- one transition

-- the level of the target stands above the level l, which has moved on
pub record Pushed (s : List ℕ) (v root k : ℕ) (l : Level) (m : F.Node) (below : List Level) (xs is ps os : List ℕ) (n : Node) : Type 0 where
  pub arrays : Arrays xs is ps os
  pub top : level_at (k + 1) xs is ps os ≡ child l m
  pub under : stack_is (k + 1) xs is ps os ≡ stepped l ∷ below
  pub light : l.out + (next_trans l m).out ≤ max_sum
  pub node : node_in (fst_with s v root) (next_trans l m).addr ≡ sound (meaning s n)
  pub readable : Readable s n

-- the running sum does not fit; or it does, and the target is not sound
abbrev pub Refuses : Fst → Level → F.Node → Refusal → Type 0
Refuses f l m why =
    ((why ≡ SUM) × (max_sum < l.out + (next_trans l m).out))
    ⊎ ((why ≡ NODE) × (l.out + (next_trans l m).out ≤ max_sum) × (node_in f (next_trans l m).addr ≡ unsound))

pub record Follows (s : List ℕ) (v root k : ℕ) (l : Level) (m : F.Node) (below : List Level) (xs is ps os : List ℕ) (r : Result Node Refusal) : Type 0 where
  pub to : (n : Node) → r ≡ Ok n → Pushed s v root k l m below xs is ps os n
  pub stops : (why : Refusal) → r ≡ Err why → Refuses (fst_with s v root) l m why
  pub kept : Arrays xs is ps os

-- ---- the descent

abbrev pub went_seen : List ℕ → List ℕ → List ℕ → List ℕ → Option (ℕ × ℕ) → ℕ → Went
went_seen xs is ps os (Some (k, v)) t = found (level_at k xs is ps os ∷ stack_is k xs is ps os) v t
went_seen xs is ps os None t = passed t

abbrev pub down_seen : List ℕ → List ℕ → List ℕ → List ℕ → Result Followed Refusal → Went
down_seen xs is ps os (Ok r) = went_seen xs is ps os r.found r.total
down_seen xs is ps os (Err n) = Went.halted n

abbrev pub place_of : Option (ℕ × ℕ) → ℕ
place_of (Some (k, v)) = k
place_of None = 0

abbrev pub down_at : Result Followed Refusal → ℕ
down_at (Ok r) = place_of r.found
down_at (Err n) = 0

-- from level k, whose node m is judged, down
abbrev pub down_from : List ℕ → ℕ → ℕ → S.Bound → List ℕ → List ℕ → List ℕ → List ℕ → ℕ → Node → ℕ → Went
down_from s v root hi xs is ps os k m t = descend (max_path - k) (fst_with s v root) hi (level_at k xs is ps os) (meaning s m) (stack_is k xs is ps os) t

pub record Descends (want : Went) (xs is ps os : List ℕ) (r : Result Followed Refusal) : Type 0 where
  pub low : down_at r < max_levels
  pub len : length is ≡ max_levels
  pub seen : down_seen xs is ps os r ≡ want
