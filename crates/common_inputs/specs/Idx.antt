-- What `common_idx` answers.
--     Idx b r       r is what the state byte keeps of the input b, and fits six bits
-- Assumes nothing.
use Rattle.std.specs.Prelude.{◌≡◌, ℕ, ◌<◌}
use Rattle.format.specs.CommonInputs.{common_idx}

pub record Idx (b r : ℕ) : Type 0 where
  pub is : r ≡ common_idx b
  pub lt : r < 64
