-- What the numbers of a pattern stand for.
--     position_is x             below 256 the byte x, any other number any byte
--     positions_is n xs         the n positions of a pattern: entries past them carry no meaning, and those that are stated and not held are any byte
--     pattern_is n rest xs      the pattern
--     held_is q                 the pattern that a reading holds; it has the positions that it states
-- Assumes nothing.
use Rattle.std.specs.Prelude.{Bool, cond, List, [], ◌∷◌, ℕ, zero, suc, ltb}
use Rattle.std.proofs.Math.Option.{Option, none, some}
use Rattle.pattern.specs.Pattern as P
use Rattle.patterned_fit.specs.declared.Pattern.{Pattern}

abbrev pub position_is : ℕ → Option ℕ
position_is x = cond (ltb x 256) (some x) none

unfoldable pub positions_is : ℕ → List ℕ → List (Option ℕ)
positions_is zero xs = []
positions_is (suc n) [] = none ∷ positions_is n []
positions_is (suc n) (x ∷ xs) = position_is x ∷ positions_is n xs

abbrev pub pattern_is : ℕ → Bool → List ℕ → P.Pattern
pattern_is n rest xs = record { positions = positions_is n xs; rest = rest }

abbrev pub held_is : Pattern → P.Pattern
held_is q = pattern_is q.len q.rest q.positions
