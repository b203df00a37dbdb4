-- Laws of `Decide`: one for each connective, so that a test's law has the shape of the test.
-- Assumes nothing.
use Rattle.std.specs.Prelude.{◌≡◌, refl, Bool, true, false, not, ◌&&◌, ◌||◌, ◌⊎◌, ℕ, zero, suc, ◌≤◌, ◌<◌, ltb, leb, eqb}
use Rattle.std.proofs.Common.{sym, true≢false, inl, inr, not-le_of_lt, eq-or-lt_of_le, le_of_suc-le-suc, le_refl, arith, ltb-true, ltb-false, leb-true, leb-false, eqb-true}
use Rattle.std.proofs.lemmas.Bool.{false≢true, eqb-false}
use Rattle.buffers.specs.Decide.{Decides, implies, all_below}

pub decides_true : {P : Type 0} → P → Decides true P
decides_true p = record { yes = λ _. p; no = λ e. absurd (true≢false e) }

pub decides_false : {P : Type 0} → ¬ P → Decides false P
decides_false not_p = record { yes = λ e. absurd (false≢true e); no = λ _. not_p }

pub decides_lt : (a b : ℕ) → Decides (ltb a b) (a < b)
decides_lt a b = record { yes = ltb-true a b; no = λ e h. not-le_of_lt h (ltb-false a b e) }

pub decides_le : (a b : ℕ) → Decides (leb a b) (a ≤ b)
decides_le a b = record { yes = leb-true a b; no = λ e h. not-le_of_lt (leb-false a b e) h }

pub decides_eq : (a b : ℕ) → Decides (eqb a b) (a ≡ b)
decides_eq a b = record { yes = eqb-true a b; no = eqb-false a b }

pub decides_iff : {P Q : Type 0} {r : Bool} → (P → Q) → (Q → P) → Decides r P → Decides r Q
decides_iff to from d = record { yes = λ e. to (d.yes e); no = λ e q. d.no e (from q) }

-- a test of a Bool that is itself the claim
pub decides_self : (r : Bool) → Decides r (r ≡ true)
decides_self true = decides_true refl
decides_self false = decides_false false≢true

pub decides_and : {P Q : Type 0} (r s : Bool) → Decides r P → Decides s Q → Decides (r && s) (P × Q)
decides_and true s p q = record { yes = λ e. (p.yes refl, q.yes e); no = λ e h. q.no e h.1 }
decides_and false s p q = decides_false (λ h. p.no refl h.0)

pub decides_or : {P Q : Type 0} (r s : Bool) → Decides r P → Decides s Q → Decides (r || s) (P ⊎ Q)
decides_or true s p q = decides_true (inl (p.yes refl))
decides_or false true p q = decides_true (inr (q.yes refl))
decides_or {P} {Q} false false p q = decides_false none
  where
    none : ¬ (P ⊎ Q)
    none (inl h) = p.no refl h
    none (inr h) = q.no refl h

pub decides_not : {P : Type 0} (r : Bool) → Decides r P → Decides (not r) (¬ P)
decides_not true d = decides_false (λ h. h (d.yes refl))
decides_not false d = decides_true (d.no refl)

pub decides_implies : {P Q : Type 0} (r s : Bool) → Decides r P → Decides s Q → Decides (implies r s) (P → Q)
decides_implies true s p q = record { yes = λ e _. q.yes e; no = λ e h. q.no e (h (p.yes refl)) }
decides_implies false s p q = decides_true (λ h. absurd (p.no refl h))

pub decides_below : (f : ℕ → Bool) (P : ℕ → Type 0) → ((i : ℕ) → Decides (f i) (P i)) → (n : ℕ)
    → Decides (all_below f n) ((i : ℕ) → i < n → P i)
decides_below f P d zero = decides_true (λ i l. absurd (omega arith))
decides_below f P d (suc n) =
    decides_iff (λ h i l. go h i (eq-or-lt_of_le (le_of_suc-le-suc l))) (λ h. (h n (le_refl (suc n)), λ i l. h i (omega arith)))
    (decides_and (f n) (all_below f n) (d n) (decides_below f P d n))
  where
    go : P n × ((i : ℕ) → i < n → P i) → (i : ℕ) → (i ≡ n) ⊎ (i < n) → P i
    go h i (inl e) = rw e h.0
    go h i (inr l) = h.1 i l

-- the two ways of a test, as an equation
pub true_of : {P : Type 0} (r : Bool) → Decides r P → P → r ≡ true
true_of true d p = refl
true_of false d p = absurd (d.no refl p)

pub false_of : {P : Type 0} (r : Bool) → Decides r P → ¬ P → r ≡ false
false_of true d not_p = absurd (not_p (d.yes refl))
false_of false d not_p = refl

-- two tests of one claim answer alike
pub decides_same : {P : Type 0} (r s : Bool) → Decides r P → Decides s P → r ≡ s
decides_same true s d e = sym (true_of s e (d.yes refl))
decides_same false s d e = sym (false_of s e (d.no refl))
