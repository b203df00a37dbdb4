-- What a start's number answers, against `Numbers` (document 02, N11), and what it asks of the table.
--     TableLent s root c   an entry for each byte of the file s, and the root is one of these
--     tally_is r            what the number's answer says
--     difference_is d       the same of a difference of two totals
-- Assumes nothing.
use Rattle.std.specs.Prelude.{List, ℕ, ◌≤◌, ◌<◌, length, Option, Some, None, Ok, Err, Result}
use Rattle.format.specs.declared.Refusal.{Refusal}
use Rattle.format.specs.Limits.{COUNT}
use Rattle.plain.specs.Numbers.{Tally, comes_to, refused}

pub record TableLent (s : List ℕ) (root : ℕ) (c : List ℕ) : Type 0 where
  pub long : length s ≤ length c
  pub root_inside : 0 < length s → root < length s

abbrev pub tally_is : Result ℕ Refusal → Tally
tally_is (Ok n) = comes_to n
tally_is (Err n) = refused n

abbrev pub difference_is : Option ℕ → Tally
difference_is (Some n) = comes_to n
difference_is None = refused COUNT
