-- Laws of the tests of `Pattern`.
--     fits_decides, start_decides     the tests decide `Fits` and `FitsStart`
--     fits_viable                     a string that fits is viable
--     viable_decides                  the test of a visit decides `StartFits`
-- Assumes nothing.
use Rattle.std.specs.Prelude.{◌≡◌, refl, Bool, true, false, List, [], ◌∷◌, ◌++◌, ℕ, zero, suc, ◌≤◌, ◌<◌, length, get_or}
use Rattle.std.proofs.Common.{sym, ◌∙◌, ap, true≢false, inl, inr, ⊎_elim, arith}
use Rattle.std.proofs.Math.Option.{Option, none, some}
use Rattle.buffers.specs.Decide.{Decides}
use Rattle.buffers.specs.DecideLaws.{decides_true, decides_false, decides_iff, decides_and, decides_eq, true_of}
use Rattle.pattern.specs.Pattern.{Pattern, FitsAt, any_byte, this_byte, FitsStart, Fits, at_test, start_test, fits_test}
use Rattle.pattern.specs.PatternDemand.{StartFits}
use Rattle.pattern.proofs.ViableLaws.{most, most_snoc, viable, dead_on}

at_is : {x b : ℕ} → FitsAt (some x) b → x ≡ b
at_is this_byte = refl

pub at_decides : (p : Option ℕ) (b : ℕ) → Decides (at_test p b) (FitsAt p b)
at_decides none b = decides_true any_byte
at_decides (some x) b = decides_iff (λ (e : x ≡ b). rw e this_byte) at_is (decides_eq x b)

-- ---- one position and one byte more

abbrev with : List (Option ℕ) → Bool → Pattern
with ps r = record { positions = ps; rest = r }

start_nil : (p : Pattern) → FitsStart p []
start_nil p = record { short = inl (omega arith); bytes = λ i h g. absurd (omega arith) }

module _ (p : Option ℕ) (ps : List (Option ℕ)) (r : Bool) (b : ℕ) (s : List ℕ) where
  start_one : FitsAt p b × FitsStart (with ps r) s → FitsStart (with (p ∷ ps) r) (b ∷ s)
  start_one h = record { short = ⊎_elim (λ (le : length s ≤ length ps). inl (omega arith)) (λ e. inr e) h.1.short; bytes = at }
    where
      at : (i : ℕ) → i < suc (length s) → i < suc (length ps) → FitsAt (get_or (p ∷ ps) i none) (get_or (b ∷ s) i 0)
      at zero l g = h.0
      at (suc i) l g = h.1.bytes i (omega arith) (omega arith)

  one_start : FitsStart (with (p ∷ ps) r) (b ∷ s) → FitsAt p b × FitsStart (with ps r) s
  one_start h = (
    h.bytes 0 (omega arith) (omega arith),
    record {
      short = ⊎_elim (λ (le : suc (length s) ≤ suc (length ps)). inl (omega arith)) (λ e. inr e) h.short;
      bytes = λ i l g. h.bytes (suc i) (omega arith) (omega arith);
    },
  )

decides_starts : (ps : List (Option ℕ)) (r : Bool) (s : List ℕ) → Decides (start_test ps r s) (FitsStart (with ps r) s)
unfolding start_test
decides_starts ps r [] = decides_true (start_nil (with ps r))
decides_starts [] true (b ∷ s) = decides_true (record { short = inr refl; bytes = λ i h g. absurd (omega arith) })
decides_starts [] false (b ∷ s) =
    decides_false (λ (h : FitsStart (with [] false) (b ∷ s)). ⊎_elim (λ (le : suc (length s) ≤ 0). omega arith) (λ e. true≢false (sym e)) h.short)
decides_starts (p ∷ ps) r (b ∷ s) =
    decides_iff (start_one p ps r b s) (one_start p ps r b s) (decides_and (at_test p b) (start_test ps r s) (at_decides p b) (decides_starts ps r s))

decides_fits : (ps : List (Option ℕ)) (r : Bool) (s : List ℕ) → Decides (fits_test ps r s) (Fits (with ps r) s)
unfolding fits_test
decides_fits [] r [] = decides_true (record { start = start_nil (with [] r); whole = omega arith })
decides_fits [] true (b ∷ s) =
    decides_true (record { start = record { short = inr refl; bytes = λ i h g. absurd (omega arith) }; whole = omega arith })
decides_fits [] false (b ∷ s) =
    decides_false (λ (h : Fits (with [] false) (b ∷ s)). ⊎_elim (λ (le : suc (length s) ≤ 0). omega arith) (λ e. true≢false (sym e)) h.start.short)
decides_fits (p ∷ ps) r [] = decides_false (λ (h : Fits (with (p ∷ ps) r) []). omega (arith, h.whole))
decides_fits (p ∷ ps) r (b ∷ s) =
    decides_iff to from (decides_and (at_test p b) (fits_test ps r s) (at_decides p b) (decides_fits ps r s))
  where
    to : FitsAt p b × Fits (with ps r) s → Fits (with (p ∷ ps) r) (b ∷ s)
    to h = record { start = start_one p ps r b s (h.0, h.1.start); whole = omega (arith, h.1.whole) }

    from : Fits (with (p ∷ ps) r) (b ∷ s) → FitsAt p b × Fits (with ps r) s
    from h = let w = one_start p ps r b s h.start in (w.0, record { start = w.1; whole = omega (arith, h.whole) })

-- ---- the tests decide

pub start_decides : (p : Pattern) (s : List ℕ) → Decides (start_test p.positions p.rest s) (FitsStart p s)
start_decides p s = decides_starts p.positions p.rest s

pub fits_decides : (p : Pattern) (s : List ℕ) → Decides (fits_test p.positions p.rest s) (Fits p s)
fits_decides p s = decides_fits p.positions p.rest s

-- ---- strings less their last byte

pub record Snoc (k : List ℕ) : Type 0 where
  pub last : ℕ
  pub is : k ≡ most k ++ (last ∷ [])

pub snoc_of : (k : List ℕ) → ¬ (k ≡ []) → Snoc k
snoc_of [] h = absurd (h refl)
snoc_of (x ∷ []) h = record { last = x; is = refl }
snoc_of (x ∷ y ∷ k) h =
    let w = snoc_of (y ∷ k) (λ e. let z : ◌≡◌ {A = ℕ} 0 1 = cc in omega arith) in
    record { last = w.last; is = ap (λ (r : List ℕ). x ∷ r) w.is }

module _ (p : Pattern) where
  start_of_snoc : (k : List ℕ) (x : ℕ) → start_test p.positions p.rest (k ++ (x ∷ [])) ≡ true → start_test p.positions p.rest k ≡ true
  start_of_snoc k x h = by (start_test p.positions p.rest k) refl
    where
      by : (b : Bool) → start_test p.positions p.rest k ≡ b → b ≡ true
      by true e = refl
      by false e = absurd (true≢false (sym h ∙ dead_on p.positions p.rest k (x ∷ []) e))

  pub fits_viable : (k : List ℕ) → ¬ (k ≡ []) → Fits p k → viable p k ≡ true
  fits_viable k ne h =
      let w = snoc_of k ne in
      start_of_snoc (most k) w.last
      (ap (start_test p.positions p.rest) (sym w.is) ∙ true_of _ (start_decides p k) h.start)

  pub viable_decides : (k : List ℕ) → ¬ (k ≡ []) → Decides (viable p k) (StartFits p k)
  viable_decides k ne = decides_iff to from (start_decides p (most k))
    where
      to : FitsStart p (most k) → StartFits p k
      to h = let w = snoc_of k ne in record { most = most k; last = w.last; is = w.is; fits = h }

      from : StartFits p k → FitsStart p (most k)
      from h = let e : most k ≡ h.most = ap most h.is ∙ most_snoc h.most h.last in rw e h.fits
