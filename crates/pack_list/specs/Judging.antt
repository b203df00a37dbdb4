-- What the functions under `judge_list` decide, in the words of `Lists`.
--     EndsOk s n total     no end of the n is less than the one before, no key is too long, the last end is the total
--     Ascend s n           each of the n keys comes before the next
--     Sized s n total      the list has the length that its numbers say
-- Assumes nothing.
use Rattle.std.specs.Prelude.{◌≡◌, List, ℕ, ◌+◌, ◌-◌, ◌*◌, ◌≤◌, ◌<◌, length}
use Rattle.format.specs.Limits.{max_path}
use Rattle.format.specs.Strings.{Before}
use Rattle.packing.specs.Lists.{count_in, end_at, begin_at, key_at}

pub record EndsOk (s : List ℕ) (n total : ℕ) : Type 0 where
  pub rise : (i : ℕ) → i < n → begin_at s i ≤ end_at s i
  pub whole : begin_at s n ≡ total
  pub short : (i : ℕ) → i < n → end_at s i - begin_at s i ≤ max_path

abbrev pub Ascend : List ℕ → ℕ → Type 0
Ascend s n = (i : ℕ) → i < n - 1 → Before (key_at s i) (key_at s (i + 1))

pub record Sized (s : List ℕ) (n total : ℕ) : Type 0 where
  pub few : n < 4294967296
  pub count_is : n ≡ count_in s
  pub length_is : length s ≡ 8 + 12 * n + total
