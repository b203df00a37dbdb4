-- The levels of a walk as the four arrays of a `Stack` hold them.
--     Arrays xs is ps os             four arrays of 256 entries
--     level_at k .., stack_is k ..     level k of the four arrays; the first k levels, highest first
--     stack_of k s, no_levels        the same of a Stack; one whose entries are all 0
--     LevelPut k l s ..              after level k is written: l over the levels s
--     LevelsEnd n s ..               the first n levels of the arrays are s
-- Assumes nothing.
use Rattle.std.specs.Prelude.{◌≡◌, List, [], ◌∷◌, ℕ, zero, suc, ◌+◌, length, get_or, replicate}
use Rattle.format.specs.Limits.{max_levels}
use Rattle.reading.specs.Reading.{Level, level_with}
use Rattle.stream_levels.specs.declared.Stack.{Stack}

pub record Arrays (xs is ps os : List ℕ) : Type 0 where
  pub addrs_len : length xs ≡ max_levels
  pub inps_len : length is ≡ max_levels
  pub trans_len : length ps ≡ max_levels
  pub outs_len : length os ≡ max_levels

abbrev pub level_at : ℕ → List ℕ → List ℕ → List ℕ → List ℕ → Level
level_at k xs is ps os = level_with (get_or xs k 0) (get_or is k 0) (get_or ps k 0) (get_or os k 0)

unfoldable pub stack_is : ℕ → List ℕ → List ℕ → List ℕ → List ℕ → List Level
stack_is zero xs is ps os = []
stack_is (suc k) xs is ps os = level_at k xs is ps os ∷ stack_is k xs is ps os

abbrev pub stack_of : ℕ → Stack → List Level
stack_of k s = stack_is k s.addrs s.inps s.trans s.outs

abbrev pub no_levels : Stack
no_levels = record {
  addrs = replicate max_levels 0;
  inps = replicate max_levels 0;
  trans = replicate max_levels 0;
  outs = replicate max_levels 0;
}

pub record LevelPut (k : ℕ) (l : Level) (s : List Level) (xs is ps os : List ℕ) : Type 0 where
  pub arrays : Arrays xs is ps os
  pub place : get_or ps k 0 ≡ l.trans
  pub levels : stack_is (k + 1) xs is ps os ≡ l ∷ s

pub record LevelsEnd (n : ℕ) (s : List Level) (xs is ps os : List ℕ) : Type 0 where
  pub arrays : Arrays xs is ps os
  pub levels : stack_is n xs is ps os ≡ s
