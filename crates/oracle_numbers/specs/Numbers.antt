-- What the comparison is told, and its replay lists have, where more than one of its crates tells it so: numbers, and what a lent buffer holds afterwards.
--     front v out      out with v at its front where it has room for v, else out as it was
--     done_number a    the number that stands for an answer without a value: 0, or the refusal
--     number_as r      the length that is answered, or 2 ^ 32 plus the refusal
--     key_number_as r  the length of a found key, 1000 for none, or 2000 plus the refusal
-- Assumes nothing.
use Rattle.std.specs.Prelude.{cond, List, ◌++◌, ℕ, ◌+◌, leb, length, drop, Ok, Err, Some, None, Result, Option, ⊤}
use Rattle.format.specs.Limits.{number}
use Rattle.format.specs.declared.Refusal.{Refusal}

unfoldable pub front : List ℕ → List ℕ → List ℕ
front v out = cond (leb (length v) (length out)) (v ++ drop (length v) out) out

-- the number of a refusal is never 0
abbrev pub done_number : Result ⊤ Refusal → ℕ
done_number (Ok tt) = 0
done_number (Err k) = number k

abbrev pub number_as : Result ℕ Refusal → ℕ
number_as (Ok n) = n
number_as (Err k) = 4294967296 + number k

abbrev pub key_number_as : Result (Option ℕ) Refusal → ℕ
key_number_as (Ok (Some n)) = n
key_number_as (Ok None) = 1000
key_number_as (Err k) = 2000 + number k
