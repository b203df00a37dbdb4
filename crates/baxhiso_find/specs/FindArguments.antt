-- What an argument of the page by pattern for C stands for. What a call leaves is `RangeLeaves` of crate `baxhiso`.
--     rest_is n     any rest may follow, unless the number is 0: no number is wrong
-- Assumes nothing.
use Rattle.std.specs.Prelude.{Bool, ℕ, ltb}

abbrev pub rest_is : ℕ → Bool
rest_is n = ltb 0 n
