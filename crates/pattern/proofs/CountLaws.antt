-- Laws of `FitCount`: both tests of a pattern by one number.
--     start_by_count                  a level with i bytes can go on exactly where i is not over the count, and not over the positions or any rest may follow
--     fits_by_count                   the same for a whole key
--     count_snoc_on, count_snoc_off   the count after a follow, where every byte before it fits, and where one does not
--     count_take                      the count after a pop
--     tells_count, tells_take         the count of a key tells of its beginnings, and of theirs; so does any number that is not below
--     tells_all, tells_last           the length of a string that fits the start; what a number tells of the whole string
--     count_on                        a byte is put behind a string that fits the start
-- Assumes nothing.
use Rattle.std.specs.Prelude.{◌≡◌, refl, Bool, true, false, cond, ◌&&◌, ◌||◌, List, [], ◌∷◌, ◌++◌, ℕ, zero, suc, ◌<◌, ◌≤◌, leb}
use Rattle.std.proofs.Common.{sym, ◌∙◌, ap, arith, length-take-le, take-take, take_all, le-leb, leb-true, leb-false}
use Rattle.std.proofs.Math.Option.{Option}
use lib.ListN.{length, take}
use Rattle.std.proofs.lemmas.Bool.{and_parts, lt-leb}
use Rattle.pattern.specs.Pattern.{Pattern, at_test, start_test, fits_test}
use Rattle.pattern.specs.FitCount.{fit_count, place_test, goes_on, key_fits, Tells}

pub count_le : (ps : List (Option ℕ)) (k : List ℕ) → fit_count ps k ≤ length k
unfolding fit_count
count_le ps [] = omega arith
count_le [] (b ∷ k) = omega arith
count_le (p ∷ ps) (b ∷ k) = by (at_test p b) (count_le ps k)
  where
    by : (a : Bool) → fit_count ps k ≤ length k → cond a (suc (fit_count ps k)) 0 ≤ suc (length k)
    by true h = omega arith
    by false h = omega arith

leb_suc : (i n : ℕ) → leb (suc i) (suc n) ≡ leb i n
leb_suc i n = by (leb i n) refl
  where
    by : (b : Bool) → leb i n ≡ b → leb (suc i) (suc n) ≡ b
    by true e = le-leb (suc i) (suc n) (omega (arith, leb-true i n e))
    by false e = lt-leb (suc i) (suc n) (omega (arith, leb-false i n e))

-- the test of a level with i bytes of the key
pub start_by_count : (ps : List (Option ℕ)) (r : Bool) (k : List ℕ) (i : ℕ) → i ≤ length k
    → start_test ps r (take i k) ≡ goes_on (fit_count ps k) (length ps) r i
unfolding start_test fit_count
start_by_count ps r k zero h = rw (le-leb 0 (fit_count ps k) (omega arith), le-leb 0 (length ps) (omega arith))
start_by_count ps r [] (suc i) h = absurd (omega arith)
start_by_count [] r (b ∷ k) (suc i) h = rw (le-leb (suc i) (suc (length k)) h, lt-leb (suc i) 0 (omega arith))
start_by_count (p ∷ ps) r (b ∷ k) (suc i) h = by (at_test p b) (start_by_count ps r k i (omega arith))
  where
    by : (a : Bool) → start_test ps r (take i k) ≡ (leb i (fit_count ps k) && (leb i (length ps) || r))
        → (a && start_test ps r (take i k)) ≡ (leb (suc i) (cond a (suc (fit_count ps k)) 0) && (leb (suc i) (suc (length ps)) || r))
    by true ih = rw (leb_suc i (fit_count ps k), leb_suc i (length ps)) ih
    by false ih = rw (lt-leb (suc i) 0 (omega arith))

-- a whole key
pub fits_by_count : (ps : List (Option ℕ)) (r : Bool) (k : List ℕ)
    → fits_test ps r k ≡ key_fits (fit_count ps k) (length ps) r (length k)
unfolding fits_test fit_count
fits_by_count [] r [] = rw (le-leb 0 0 (omega arith))
fits_by_count [] r (b ∷ k) =
    rw (le-leb 0 (suc (length k)) (omega arith), le-leb (suc (length k)) (suc (length k)) (omega arith), lt-leb (suc (length k)) 0 (omega arith))
fits_by_count (p ∷ ps) r [] = rw (lt-leb (suc (length ps)) 0 (omega arith))
fits_by_count (p ∷ ps) r (b ∷ k) = by (at_test p b) (fits_by_count ps r k)
  where
    none_left : (a : Bool) → (a && false) ≡ false
    none_left true = refl
    none_left false = refl

    by : (a : Bool) → fits_test ps r k ≡ (leb (length ps) (length k) && (leb (length k) (fit_count ps k) && (leb (length k) (length ps) || r)))
        → (a && fits_test ps r k)
        ≡ (leb (suc (length ps)) (suc (length k)) && (leb (suc (length k)) (cond a (suc (fit_count ps k)) 0) && (leb (suc (length k)) (suc (length ps)) || r)))
    by true ih = rw (leb_suc (length ps) (length k), leb_suc (length k) (fit_count ps k), leb_suc (length k) (length ps)) ih
    by false ih = rw (lt-leb (suc (length k)) 0 (omega arith)) (sym (none_left (leb (suc (length ps)) (suc (length k)))))

-- ---- one byte more

pub count_snoc_on : (ps : List (Option ℕ)) (k : List ℕ) (b : ℕ) → fit_count ps k ≡ length k
    → fit_count ps (k ++ (b ∷ [])) ≡ cond (place_test ps (length k) b) (suc (length k)) (length k)
unfolding fit_count
count_snoc_on [] [] b h = refl
count_snoc_on (p ∷ ps) [] b h = refl
count_snoc_on [] (x ∷ k) b h = ap suc (lib.ListN.length-append k (b ∷ []) ∙ omega arith)
count_snoc_on (p ∷ ps) (x ∷ k) b h = by (at_test p x) h (λ g. count_snoc_on ps k b g)
  where
    out : (c : Bool) → suc (cond c (suc (length k)) (length k)) ≡ cond c (suc (suc (length k))) (suc (length k))
    out true = refl
    out false = refl

    by : (a : Bool) → cond a (suc (fit_count ps k)) 0 ≡ suc (length k)
        → (fit_count ps k ≡ length k → fit_count ps (k ++ (b ∷ [])) ≡ cond (place_test ps (length k) b) (suc (length k)) (length k))
        → cond a (suc (fit_count ps (k ++ (b ∷ [])))) 0 ≡ cond (place_test ps (length k) b) (suc (suc (length k))) (suc (length k))
    by true g ih = ap suc (ih (omega arith)) ∙ out (place_test ps (length k) b)
    by false g ih = absurd (omega arith)

pub count_snoc_off : (ps : List (Option ℕ)) (k : List ℕ) (b : ℕ) → fit_count ps k < length k → fit_count ps (k ++ (b ∷ [])) ≡ fit_count ps k
unfolding fit_count
count_snoc_off ps [] b h = absurd (omega arith)
count_snoc_off [] (x ∷ k) b h = absurd (omega arith)
count_snoc_off (p ∷ ps) (x ∷ k) b h = by (at_test p x) h (λ g. count_snoc_off ps k b g)
  where
    by : (a : Bool) → cond a (suc (fit_count ps k)) 0 < suc (length k) → (fit_count ps k < length k → fit_count ps (k ++ (b ∷ [])) ≡ fit_count ps k)
        → cond a (suc (fit_count ps (k ++ (b ∷ [])))) 0 ≡ cond a (suc (fit_count ps k)) 0
    by true g ih = ap suc (ih (omega arith))
    by false g ih = refl

-- a pop: the count of a key's beginning
pub count_take : (ps : List (Option ℕ)) (k : List ℕ) (i : ℕ) → i ≤ length k → fit_count ps (take i k) ≡ cond (leb i (fit_count ps k)) i (fit_count ps k)
unfolding fit_count
count_take ps k zero h = rw (le-leb 0 (fit_count ps k) (omega arith))
count_take ps [] (suc i) h = absurd (omega arith)
count_take [] (x ∷ k) (suc i) h = rw (le-leb (suc i) (suc (length k)) h) (ap suc (lib.ListN.length-take i k ∙ omega arith))
count_take (p ∷ ps) (x ∷ k) (suc i) h = by (at_test p x) (count_take ps k i (omega arith))
  where
    out : (c : Bool) → suc (cond c i (fit_count ps k)) ≡ cond c (suc i) (suc (fit_count ps k))
    out true = refl
    out false = refl

    by : (a : Bool) → fit_count ps (take i k) ≡ cond (leb i (fit_count ps k)) i (fit_count ps k)
        → cond a (suc (fit_count ps (take i k))) 0 ≡ cond (leb (suc i) (cond a (suc (fit_count ps k)) 0)) (suc i) (cond a (suc (fit_count ps k)) 0)
    by true ih = rw (leb_suc i (fit_count ps k)) (ap suc ih ∙ out (leb i (fit_count ps k)))
    by false ih = rw (lt-leb (suc i) 0 (omega arith))

-- ---- what a number tells of each beginning of a key

module _ (p : Pattern) (k : List ℕ) where
  pub tells_count : Tells p k (fit_count p.positions k)
  tells_count = record { each = λ i h. start_by_count p.positions p.rest k i h }

  pub tells_take : (fit j : ℕ) → j ≤ length k → Tells p k fit → Tells p (take j k) fit
  tells_take fit j h t = record {
    each = λ i g.
        let e : i ≤ j = rw (length-take-le j k h) at g in
        ap (start_test p.positions p.rest) (take-take i j k e) ∙ t.each i (omega arith);
  }

  pub tells_last : {fit : ℕ} → Tells p k fit → start_test p.positions p.rest k ≡ goes_on fit (length p.positions) p.rest (length k)
  tells_last t = ap (start_test p.positions p.rest) (sym (take_all (length k) k (omega arith))) ∙ t.each (length k) (omega arith)

  module _ (live : start_test p.positions p.rest k ≡ true) where
    count_whole : fit_count p.positions k ≡ length k
    count_whole =
        let h = leb-true (length k) (fit_count p.positions k) (and_parts _ _ (sym (tells_last tells_count) ∙ live)).0 in
        omega (arith, count_le p.positions k)

    pub tells_all : (fit : ℕ) → length k ≤ fit → Tells p k fit
    tells_all fit h = record {
      each = λ i g.
          start_by_count p.positions p.rest k i g
          ∙ rw (count_whole, le-leb i (length k) g, le-leb i fit (omega arith));
    }

    pub count_on : (b : ℕ) → fit_count p.positions (k ++ (b ∷ [])) ≡ cond (place_test p.positions (length k) b) (suc (length k)) (length k)
    count_on b = count_snoc_on p.positions k b count_whole
