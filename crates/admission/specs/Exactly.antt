-- The answers of admission exclude each other: where both tables have room, a file is admitted by the answer exactly when it is
-- admitted by the definition.
--     is_admitted     the answer Ok is given only to an admitted file
--     admitted_is     an admitted file is refused only for want of room
--     exactly         both, as one claim
-- Assumes nothing.
use Rattle.std.specs.Prelude.{◌≡◌, refl, List, ℕ, ◌≤◌, length, Ok, Err, Result, ⊤}
use Rattle.std.proofs.Common.{subst, ⊎_elim, arith}
use Rattle.format.specs.declared.Refusal.{Refusal}
use Rattle.format.specs.Opening.{Meta, opened, opening}
use Rattle.format.specs.Paths.{Fst, fst_of}
use Rattle.format.specs.Admitted.{Nodes, Shallow, Light, Admitted}
use Rattle.admission.specs.Outcome.{LongPath, LargeSum, RefusedFor, not_opened, no_space, no_nodes, too_deep, too_heavy, Outcome}

-- ---- what is too long or too large from one reached node is so for the file

shallow_not_long : {f : Fst} → Shallow f → ¬ LongPath f
unfolding Shallow
shallow_not_long shallow p = omega (arith, p.long, shallow p.from p.key p.sum p.to p.reached p.path)

light_not_large : {f : Fst} → Light f → ¬ LargeSum f
unfolding Light
light_not_large light p = omega (arith, p.large, light p.from p.key p.sum p.to p.last p.reached p.path p.ends)

-- ---- what opens, opens in one way

same_meta : (s : List ℕ) {m m' : Meta} → opening s ≡ opened m → opening s ≡ opened m' → m ≡ m'
same_meta s e e' = cc

-- ---- an admitted file is not refused

pub not_refused : {s d₀ s₀ d t : List ℕ} {r : Refusal} → length s ≤ length d₀ → length s ≤ length s₀ → Admitted s → ¬ RefusedFor s d₀ s₀ d t r
not_refused h g a (not_opened e p q) = let o = a.opens in let z : ◌≡◌ {A = ℕ} 0 1 = cc in omega arith
not_refused h g a (no_space m o e short p q) = ⊎_elim (λ x. omega arith) (λ x. omega arith) short
not_refused {s} h g a (no_nodes m o rd rs e none p q) =
    none a.nodes (subst (λ x. Nodes (fst_of s x) a.nodes) (same_meta s a.opens o) a.chained)
not_refused {s} h g a (too_deep m l o rd rs e n long p q) =
    shallow_not_long (subst (λ x. Shallow (fst_of s x)) (same_meta s a.opens o) a.shallow) long
not_refused {s} h g a (too_heavy m l o rd rs e n shallow large p q) =
    light_not_large (subst (λ x. Light (fst_of s x)) (same_meta s a.opens o) a.light) large

pub is_admitted : {s d₀ s₀ d t : List ℕ} → Outcome s d₀ s₀ d t (Ok tt) → Admitted s
is_admitted o = o.admitted

pub admitted_is : (s d₀ s₀ d t : List ℕ) (r : Result ⊤ Refusal) → length s ≤ length d₀ → length s ≤ length s₀ → Outcome s d₀ s₀ d t r → Admitted s → r ≡ Ok tt
admitted_is s d₀ s₀ d t (Ok tt) h g o a = refl
admitted_is s d₀ s₀ d t (Err n) h g o a = absurd (not_refused h g a o)

pub exactly : (s d₀ s₀ d t : List ℕ) (r : Result ⊤ Refusal) → length s ≤ length d₀ → length s ≤ length s₀ → Outcome s d₀ s₀ d t r
    → (r ≡ Ok tt → Admitted s) × (Admitted s → r ≡ (Ok tt))
exactly s d₀ s₀ d t r h g o =
    (λ e. is_admitted (subst (λ x. Outcome s d₀ s₀ d t x) e o), admitted_is s d₀ s₀ d t r h g o)
