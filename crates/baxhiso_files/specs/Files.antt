-- What the functions that write files for C answer, and what they leave in each buffer and number, in every case (include/baxhiso.h).
--     ConvertLeaves s ..            converting the bytes s: the result, the length, and every lent buffer
-- A name with ₀ is what the caller handed in. Assumes nothing.
use Rattle.std.specs.Prelude.{◌≡◌, List, ℕ, ℤ, Result}
use Rattle.format.specs.declared.Refusal.{Refusal}
use Rattle.format.specs.Limits.{max_len}
use Rattle.convert.specs.Convert.{Converts}
use Rattle.baxhiso.specs.Exports.{result_of, len_of}

-- ---- conversion

-- the answer is the conversion's, which fixes the four buffers (`Converts`)
pub record ConvertLeaves (s d₀ t₀ out₀ table₀ d t out table : List ℕ) (n₀ n : ℕ) (r : ℤ) : Type 0 where
  pub answer : Result ℕ Refusal
  pub converts : Converts max_len s d₀ t₀ out₀ table₀ d t out table answer
  pub result : r ≡ result_of answer
  pub len_is : n ≡ len_of answer n₀
