-- Strings and bounds, in the words of document 01 ("A reading": the words of demand 3).
--     Before s t           s comes before t: byte by byte, and a string before every longer one that it begins
--     Begins s t           s begins t; every string begins itself
--     Bound                a bound: unbounded, included or excluded
--     MeetsLower b s       s meets the lower bound b: there is none, s is greater, or s is equal and the bound included
--     PassesUpper b s      s passes the upper bound b: there is one, and s is greater, or equal and the bound excluded
--     Between lo hi s      s lies between the bounds: it meets the lower and does not pass the upper
--     AllAfter k, Rising   strings that all come after k; each string comes before all that follow
--     NumberOf P n         n is the number of different strings such that P
-- Assumes nothing.
use Prim.{Unit}
use Rattle.std.specs.Prelude.{◌≡◌, Bool, true, false, cond, not, ◌||◌, ◌⊎◌, ℕ, ◌<◌, ltb, length}
use mathlib.Core.List.{List, [], ◌∷◌, Memᴰ}

pub data Before : List ℕ → List ℕ → Type 0 where
  shorter : {y : ℕ} {t : List ℕ} → Before [] (y ∷ t)
  lower : {x y : ℕ} {s t : List ℕ} → x < y → Before (x ∷ s) (y ∷ t)
  later : {x : ℕ} {s t : List ℕ} → Before s t → Before (x ∷ s) (x ∷ t)

pub data Begins : List ℕ → List ℕ → Type 0 where
  nothing : {t : List ℕ} → Begins [] t
  byte : {x : ℕ} {s t : List ℕ} → Begins s t → Begins (x ∷ s) (x ∷ t)

pub data Bound : Type 0 where
  unbounded : Bound
  included : List ℕ → Bound
  excluded : List ℕ → Bound

pub data MeetsLower : Bound → List ℕ → Type 0 where
  no_lower : {s : List ℕ} → MeetsLower unbounded s
  from_on : {b s : List ℕ} → (Before b s) ⊎ (s ≡ b) → MeetsLower (included b) s
  beyond : {b s : List ℕ} → Before b s → MeetsLower (excluded b) s

pub data PassesUpper : Bound → List ℕ → Type 0 where
  above : {b s : List ℕ} → Before b s → PassesUpper (included b) s
  from_off : {b s : List ℕ} → (Before b s) ⊎ (s ≡ b) → PassesUpper (excluded b) s

pub record Between (lo hi : Bound) (s : List ℕ) : Type 0 where
  pub meets : MeetsLower lo s
  pub within : ¬ PassesUpper hi s

-- ---- strings, and their number

-- each string comes before all that follow
abbrev pub AllAfter : List ℕ → List (List ℕ) → Type 0
AllAfter k [] = Unit {0}
AllAfter k (l ∷ ls) = Before k l × AllAfter k ls

abbrev pub Rising : List (List ℕ) → Type 0
Rising [] = Unit {0}
Rising (k ∷ ks) = AllAfter k ks × Rising ks

-- n is the number of different strings such that P
pub record NumberOf (P : List ℕ → Type 0) (n : ℕ) : Type 0 where
  pub strings : List (List ℕ)
  pub rising : Rising strings
  pub such : (x : List ℕ) → Memᴰ x strings → P x
  pub all : (x : List ℕ) → P x → Memᴰ x strings
  pub number : length strings ≡ n

-- ---- the order as a test that computes; StringLaws, `decides_before`

unfoldable pub before_test : List ℕ → List ℕ → Bool
before_test [] [] = false
before_test [] (y ∷ t) = true
before_test (x ∷ s) [] = false
before_test (x ∷ s) (y ∷ t) = cond (ltb x y) true (cond (ltb y x) false (before_test s t))
