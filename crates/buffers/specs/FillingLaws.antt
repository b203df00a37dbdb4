-- Laws of a loop that fills a whole slice with one value.
--     Filling v d₀ d i     the first i elements are v, the others as they were
-- Assumes nothing.
use Rattle.std.specs.Prelude.{◌≡◌, refl, List, [], ◌∷◌, ◌++◌, ℕ, zero, suc, ◌+◌, ◌≤◌, ◌<◌, length, set, drop, replicate}
use Rattle.std.proofs.Common.{sym, ap, ◌∙◌, append-nil, add-one, arith, drop_of_length-le, length-append, length-drop}
use Rattle.std.proofs.lemmas.List.{length-replicate}

pub record Filling {A : Type 0} (v : A) (d₀ d : List A) (i : ℕ) : Type 0 where
  pub low : i ≤ length d₀
  pub is : d ≡ replicate i v ++ drop i d₀

fill_suc : {A : Type 0} (n : ℕ) (v : A) (d : List A) → n < length d → set (replicate n v ++ drop n d) n v ≡ replicate (suc n) v ++ drop (suc n) d
fill_suc zero v [] l = absurd (omega arith)
fill_suc (suc n) v [] l = absurd (omega arith)
fill_suc zero v (x ∷ d) l = refl
fill_suc {A} (suc n) v (x ∷ d) l = ap (λ (t : List A). v ∷ t) (fill_suc n v d (omega arith))

pub filling_none : {A : Type 0} (v : A) (d : List A) → Filling v d d 0
filling_none v d = record { low = omega arith; is = refl }

pub filling_step : {A : Type 0} {v : A} {d₀ d : List A} {i : ℕ} → Filling v d₀ d i → i < length d₀ → Filling v d₀ (set d i v) (i + 1)
filling_step {A} {v} {d₀} {d} {i} f l = record {
  low = omega arith;
  is = ap (λ (x : List A). set x i v) f.is ∙ fill_suc i v d₀ l ∙ ap (λ (n : ℕ). replicate n v ++ drop n d₀) (sym (add-one i));
}

pub filling_length : {A : Type 0} {v : A} {d₀ d : List A} {i : ℕ} → Filling v d₀ d i → length d ≡ length d₀
filling_length {A} {v} {d₀} {d} {i} f =
    ap length f.is ∙ length-append (replicate i v) (drop i d₀)
    ∙ (omega (arith, length-replicate i v, length-drop i d₀, f.low))

pub filling_all : {A : Type 0} {v : A} {d₀ d : List A} {i : ℕ} → Filling v d₀ d i → length d₀ ≤ i → d ≡ replicate (length d₀) v
filling_all {A} {v} {d₀} {d} {i} f l =
    let e : i ≡ length d₀ = omega (arith, f.low) in
    f.is ∙ ap (λ (x : List A). replicate i v ++ x) (drop_of_length-le d₀ {i = i} l) ∙ append-nil (replicate i v) ∙ ap (λ (n : ℕ). replicate n v) e
