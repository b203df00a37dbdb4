-- What the bounds of a node's deltas say.
--     AtMost s at k n m       n numbers of k bytes from place at on are at most m
-- Assumes nothing.
use Rattle.std.specs.Prelude.{List, ℕ, ◌+◌, ◌*◌, ◌≤◌, ◌<◌, take, drop}
use Rattle.format.specs.Bytes.{le}

-- n numbers of k bytes from place at on are at most m
pub record AtMost (s : List ℕ) (at k n m : ℕ) : Type 0 where
  pub each : (j : ℕ) → j < n → le (take k (drop (at + j * k) s)) ≤ m
