-- Laws of the tests of bounds in `Reading`: they decide document 01's words, and a string that comes later keeps what it meets or passes.
--     decides_from                        not before a bound: beyond it, or the bound itself
--     decides_meets, decides_passes       the tests and the words
--     meets_up, passes_up                 from a string to one that comes after it
-- Assumes nothing.
use Rattle.std.specs.Prelude.{◌≡◌, true, not, ◌⊎◌, List, ℕ}
use Rattle.std.proofs.Common.{inl, inr, ⊎_elim}
use Rattle.buffers.specs.Decide.{Decides}
use Rattle.buffers.specs.DecideLaws.{decides_true, decides_false, decides_not, decides_iff, true_of}
use Rattle.format.specs.Strings.{Before, Bound, unbounded, included, excluded, MeetsLower, no_lower, from_on, beyond, PassesUpper, above, from_off, before_test}
use Rattle.format.specs.Laws.StringLaws.{before_irrefl, before_trans, before_asym, before_total, decides_before}
use Rattle.reading.specs.Reading.{meets_test, passes_test}

-- ---- the words taken apart

meets_included : {b k : List ℕ} → MeetsLower (included b) k → (Before b k) ⊎ (k ≡ b)
meets_included (from_on h) = h

meets_excluded : {b k : List ℕ} → MeetsLower (excluded b) k → Before b k
meets_excluded (beyond h) = h

passes_unbounded : {k : List ℕ} → ¬ PassesUpper unbounded k
passes_unbounded h = elim h [ ]

passes_included : {b k : List ℕ} → PassesUpper (included b) k → Before b k
passes_included (above h) = h

passes_excluded : {b k : List ℕ} → PassesUpper (excluded b) k → (Before b k) ⊎ (k ≡ b)
passes_excluded (from_off h) = h

-- ---- the tests decide them

decides_from : (b k : List ℕ) → Decides (not (before_test k b)) ((Before b k) ⊎ (k ≡ b))
decides_from b k =
    decides_iff
    (λ n. ⊎_elim (λ e. inr e) (λ h. ⊎_elim (λ l. absurd (n l)) (λ l. inl l) h) (before_total k b))
    (λ h l. ⊎_elim (λ g. before_asym g l) (λ e. before_irrefl b (rw e at l)) h)
    (decides_not (before_test k b) (decides_before k b))

pub decides_meets : (b : Bound) (k : List ℕ) → Decides (meets_test b k) (MeetsLower b k)
decides_meets unbounded k = decides_true no_lower
decides_meets (included b) k = decides_iff from_on meets_included (decides_from b k)
decides_meets (excluded b) k = decides_iff beyond meets_excluded (decides_before b k)

pub decides_passes : (b : Bound) (k : List ℕ) → Decides (passes_test b k) (PassesUpper b k)
decides_passes unbounded k = decides_false passes_unbounded
decides_passes (included b) k = decides_iff above passes_included (decides_before b k)
decides_passes (excluded b) k = decides_iff from_off passes_excluded (decides_from b k)

-- ---- a string that comes later

from_up : {b k l : List ℕ} → Before k l → (Before b k) ⊎ (k ≡ b) → (Before b l) ⊎ (l ≡ b)
from_up h g = inl (⊎_elim (λ p. before_trans p h) (λ e. rw e at h) g)

meets_later : (b : Bound) (k l : List ℕ) → Before k l → MeetsLower b k → MeetsLower b l
meets_later unbounded k l h m = no_lower
meets_later (included b) k l h m = from_on (from_up h (meets_included m))
meets_later (excluded b) k l h m = beyond (before_trans (meets_excluded m) h)

passes_later : (b : Bound) (k l : List ℕ) → Before k l → PassesUpper b k → PassesUpper b l
passes_later unbounded k l h p = absurd (passes_unbounded p)
passes_later (included b) k l h p = above (before_trans (passes_included p) h)
passes_later (excluded b) k l h p = from_off (from_up h (passes_excluded p))

pub meets_up : (b : Bound) (k l : List ℕ) → Before k l → meets_test b k ≡ true → meets_test b l ≡ true
meets_up b k l h e = true_of (meets_test b l) (decides_meets b l) (meets_later b k l h ((decides_meets b k).yes e))

pub passes_up : (b : Bound) (k l : List ℕ) → Before k l → passes_test b k ≡ true → passes_test b l ≡ true
passes_up b k l h e = true_of (passes_test b l) (decides_passes b l) (passes_later b k l h ((decides_passes b k).yes e))
