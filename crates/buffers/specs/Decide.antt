-- Answers of tests, and tests that compute.
--     Decides r P       the answer r is true where P holds, and false where it does not
--     implies a b       b is asked only where a holds
--     all_below f n      f holds at each number below n
-- Assumes nothing.
use Rattle.std.specs.Prelude.{◌≡◌, Bool, true, false, ◌&&◌, ℕ, zero, suc}

pub record Decides (r : Bool) (P : Type 0) : Type 0 where
  pub yes : r ≡ true → P
  pub no : r ≡ false → ¬ P

abbrev pub implies : Bool → Bool → Bool
implies true b = b
implies false b = true

abbrev pub all_below : (ℕ → Bool) → ℕ → Bool
all_below f zero = true
all_below f (suc n) = f n && all_below f n
