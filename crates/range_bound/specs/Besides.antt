-- How a key stands to the upper bound hi, whose bytes are b.
--     end_at excluded b               a bound with bytes
--     SideOf hi b k x r              the byte x after the bound's first k bytes
--     Beside hi b path k same over   the first k bytes of path: `same` of them agree with the bound, and what comes after the first that does not
--                                    decides nothing
--     Followed hi b path k over r    the same after one byte more
--     CutTo same over top ..         the same of fewer bytes
-- Assumes nothing.
use Rattle.std.specs.Prelude.{◌≡◌, Bool, true, false, cond, Option, Some, None, List, [], ◌∷◌, ◌++◌, ℕ, ◌+◌, ◌≤◌, ◌<◌, length, get_or, take}
use Rattle.format.specs.Strings as S
use Rattle.format.specs.Strings.{included, excluded}
use Rattle.reading.specs.Reading.{passes_test}
use Rattle.range_bound.specs.declared.Side.{Side}
use Rattle.range_bound.specs.declared.Side.TheVariants.{Below, Along, Past}

abbrev pub end_at : Bool → List ℕ → S.Bound
end_at x b = cond x (excluded b) (included b)

pub record SideOf (hi : S.Bound) (b : List ℕ) (k x : ℕ) (r : Side) : Type 0 where
  pub below : r ≡ Below → (more : List ℕ) → passes_test hi (take k b ++ (x ∷ more)) ≡ false
  pub past : r ≡ Past → (more : List ℕ) → passes_test hi (take k b ++ (x ∷ more)) ≡ true
  pub along : r ≡ Along → (k < length b) × (get_or b k 0 ≡ x) × (passes_test hi (take k b ++ (x ∷ [])) ≡ false)

pub record Beside (hi : S.Bound) (b path : List ℕ) (k same : ℕ) (over : Bool) : Type 0 where
  pub low : same ≤ k
  pub agrees : take same path ≡ take same b
  pub decided : same < k → (more : List ℕ) → passes_test hi (take (same + 1) path ++ more) ≡ over
  pub undecided : same ≡ k → over ≡ false

pub record Followed (hi : S.Bound) (b path : List ℕ) (k : ℕ) (over : Bool) (r : Option ℕ) : Type 0 where
  pub past : r ≡ None → passes_test hi (take k path) ≡ true
  pub within : (s : ℕ) → r ≡ Some s → (passes_test hi (take k path) ≡ false) × Beside hi b path k s over

-- whatever the bound and the key were
abbrev pub CutTo : ℕ → Bool → ℕ → ℕ → Bool → Type 0
CutTo same over top same' over' =
    (hi : S.Bound) (b path : List ℕ) (k : ℕ) → top ≤ k → Beside hi b path k same over → Beside hi b path top same' over'
