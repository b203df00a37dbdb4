-- How much of a key fits a pattern, by one number, from which both tests of a walk are told (CountLaws).
--     fit_count ps k         how many leading bytes of k fit their positions; a byte that has no position fits
--     place_test ps i b      whether the byte b fits at place i
--     goes_on, key_fits       the two tests by that number, for n positions: a level with i bytes can go on; a key of i bytes fits
--     Tells p k fit         the number fit tells of each beginning of k whether it fits the pattern's start
-- Assumes nothing.
use Rattle.std.specs.Prelude.{◌≡◌, Bool, true, cond, ◌&&◌, ◌||◌, List, [], ◌∷◌, ℕ, zero, suc, ◌≤◌, leb, length, take}
use Rattle.std.proofs.Math.Option.{Option}
use Rattle.pattern.specs.Pattern.{Pattern, at_test, start_test}

unfoldable pub fit_count : List (Option ℕ) → List ℕ → ℕ
fit_count ps [] = 0
fit_count [] (b ∷ k) = suc (length k)
fit_count (p ∷ ps) (b ∷ k) = cond (at_test p b) (suc (fit_count ps k)) 0

abbrev pub place_test : List (Option ℕ) → ℕ → ℕ → Bool
place_test [] i b = true
place_test (p ∷ ps) zero b = at_test p b
place_test (p ∷ ps) (suc i) b = place_test ps i b

abbrev pub goes_on : ℕ → ℕ → Bool → ℕ → Bool
goes_on fit n rest i = leb i fit && (leb i n || rest)

abbrev pub key_fits : ℕ → ℕ → Bool → ℕ → Bool
key_fits fit n rest i = leb n i && goes_on fit n rest i

pub record Tells (p : Pattern) (k : List ℕ) (fit : ℕ) : Type 0 where
  pub each : (i : ℕ) → i ≤ length k → start_test p.positions p.rest (take i k) ≡ goes_on fit (length p.positions) p.rest i
