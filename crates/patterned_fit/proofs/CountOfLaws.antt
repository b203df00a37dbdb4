-- The count of the leading bytes that fit, byte by byte.
--     Fitted ps key i      the first i bytes of key fit
--     fitted-..            none is looked at yet; one more fits; one does not
-- Assumes nothing.
use mathlib.Core.Path.{◌≡◌, refl, sym, ◌∙◌, ap}
use mathlib.Core.Bool.{Bool, true, false, cond}
use mathlib.Core.Option.{Option}
use mathlib.Core.List.{List, [], ◌∷◌, ◌++◌}
use Prim.Native.Nat.{ℕ, suc, ◌+◌, ◌<◌, ◌≤◌}
use native.Mathlib.Omega.{arith}
use native.Mathlib.Numerals.{add-one}
use lib.Dec.{leb}
use lib.ListN.{length, take, drop, get_or, length-drop}
use lib.Seq.{length-take-le, take-suc}
use Rattle.pattern.specs.FitCount.{fit_count, place_test}
use Rattle.pattern.proofs.CountLaws.{count_snoc_on, count_take}

pub record Fitted (ps : List (Option ℕ)) (key : List ℕ) (i : ℕ) : Type 0 where
  pub within : i ≤ length key
  pub all : fit_count ps (take i key) ≡ i

pub fitted_none : (ps : List (Option ℕ)) (key : List ℕ) → Fitted ps key 0
unfolding fit_count
fitted_none ps key = record { within = omega arith; all = refl }

module _ {ps : List (Option ℕ)} {key : List ℕ} {i : ℕ} (w : Fitted ps key i) where
  module _ (more : i < length key) (b : ℕ) (eb : b ≡ get_or key i 0) where
    one_more : fit_count ps (take (suc i) key) ≡ cond (place_test ps i b) (suc i) i
    one_more =
        let e : length (take i key) ≡ i = length-take-le i key w.within in
        ap (fit_count ps) (take-suc key i 0 more)
        ∙ ap (λ (x : ℕ). fit_count ps (take i key ++ (x ∷ []))) (sym eb)
        ∙ count_snoc_on ps (take i key) b (w.all ∙ sym e)
        ∙ ap (λ (n : ℕ). cond (place_test ps n b) (suc n) n) e

    pub fitted_step : place_test ps i b ≡ true → Fitted ps key (i + 1)
    fitted_step t = record { within = omega arith; all = rw (add-one i) (one_more ∙ rw t) }

    pub fitted_not : place_test ps i b ≡ false → i ≡ fit_count ps key
    fitted_not t = by (leb (suc i) (fit_count ps key)) (sym (one_more ∙ rw t) ∙ count_take ps key (suc i) more)
      where
        by : (c : Bool) → i ≡ cond c (suc i) (fit_count ps key) → i ≡ fit_count ps key
        by true e = absurd (omega arith)
        by false e = e

-- ---- the inputs after the first

pub inputs_length : (k : ℕ) (is : List ℕ) → length is ≡ 256 → k < 256 → length (take k (drop 1 is)) ≡ k
inputs_length k is e h = length-take-le k (drop 1 is) (simp length-drop (omega arith))
