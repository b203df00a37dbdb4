-- What the exported conversion answers: a number, and what the lent buffers hold afterwards.
--     ConvertTold ..   the answer, and the number that stands for it
-- Assumes nothing.
use Rattle.std.specs.Prelude.{◌≡◌, List, ℕ, Result}
use Rattle.format.specs.declared.Refusal.{Refusal}
use Rattle.convert.specs.Convert.{Converts}
use Rattle.oracle_numbers.specs.Numbers.{number_as}

pub record ConvertTold (limit : ℕ) (s d₀ t₀ out₀ table₀ d t out table : List ℕ) (r : ℕ) : Type 0 where
  pub answer : Result ℕ Refusal
  pub converts : Converts limit s d₀ t₀ out₀ table₀ d t out table answer
  pub number : r ≡ number_as answer
