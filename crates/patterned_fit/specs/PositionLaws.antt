-- Laws of `positions_is`.
--     positions_length         a pattern of n positions has n
--     positions_front          a list that is held whole
--     place_at, place_past     the test of a byte at a position, and past them
-- Assumes nothing.
use Rattle.std.specs.Prelude.{◌≡◌, refl, true, List, [], ◌∷◌, ◌++◌, map, ℕ, zero, suc, ◌<◌, ◌≤◌, length, get_or}
use Rattle.std.proofs.Common.{◌∙◌, ap, arith}
use Rattle.std.proofs.Math.Option.{Option, none}
use Rattle.pattern.specs.Pattern.{at_test}
use Rattle.pattern.specs.FitCount.{place_test}
use Rattle.patterned_fit.specs.Positions.{position_is, positions_is}

pub positions_length : (n : ℕ) (xs : List ℕ) → length (positions_is n xs) ≡ n
unfolding positions_is
positions_length zero xs = refl
positions_length (suc n) [] = ap suc (positions_length n [])
positions_length (suc n) (x ∷ xs) = ap suc (positions_length n xs)

-- a list that is held whole, whatever comes after it
pub positions_front : (xs ys : List ℕ) → positions_is (length xs) (xs ++ ys) ≡ map position_is xs
unfolding positions_is
positions_front [] ys = refl
positions_front (x ∷ xs) ys = ap (λ (ps : List (Option ℕ)). position_is x ∷ ps) (positions_front xs ys)

-- ---- a test at a place of a list of positions

test_at : (ps : List (Option ℕ)) (i b : ℕ) → i < length ps → place_test ps i b ≡ at_test (get_or ps i none) b
test_at [] i b h = absurd (omega arith)
test_at (p ∷ ps) zero b h = refl
test_at (p ∷ ps) (suc i) b h = test_at ps i b (omega arith)

test_past : (ps : List (Option ℕ)) (i b : ℕ) → length ps ≤ i → place_test ps i b ≡ true
test_past [] i b h = refl
test_past (p ∷ ps) zero b h = absurd (omega arith)
test_past (p ∷ ps) (suc i) b h = test_past ps i b (omega arith)

position_at : (n : ℕ) (xs : List ℕ) (i : ℕ) → n ≤ length xs → i < n → get_or (positions_is n xs) i none ≡ position_is (get_or xs i 0)
unfolding positions_is
position_at zero xs i h g = absurd (omega arith)
position_at (suc n) [] i h g = absurd (omega arith)
position_at (suc n) (x ∷ xs) zero h g = refl
position_at (suc n) (x ∷ xs) (suc i) h g = position_at n xs i (omega arith) (omega arith)

module _ (n : ℕ) (xs : List ℕ) (h : n ≤ length xs) (i b : ℕ) where
  pub place_at : i < n → place_test (positions_is n xs) i b ≡ at_test (position_is (get_or xs i 0)) b
  place_at g =
      test_at (positions_is n xs) i b (rw (positions_length n xs) g)
      ∙ ap (λ (o : Option ℕ). at_test o b) (position_at n xs i h g)

  pub place_past : n ≤ i → place_test (positions_is n xs) i b ≡ true
  place_past g = test_past (positions_is n xs) i b (rw (positions_length n xs) g)
