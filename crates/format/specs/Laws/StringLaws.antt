-- Laws of `Strings`: the order is strict and total, and a string that begins another does not come after it.
-- Assumes nothing.
use Rattle.std.specs.Prelude.{◌≡◌, refl, Bool, true, false, cond, ◌⊎◌, List, [], ◌∷◌, ◌++◌, ℕ, ◌≤◌, ◌<◌, ltb}
use Rattle.std.proofs.Common.{sym, ap, ap₂, ◌∙◌, inl, inr, ⊎_elim, lt_irrefl, lt_trans, arith, ltb-true, ltb-false}
use Rattle.buffers.specs.Decide.{Decides}
use Rattle.buffers.specs.DecideLaws.{decides_true, decides_false, decides_iff}
use Rattle.format.specs.Strings.{Before, shorter, lower, later, Begins, nothing, byte, before_test}

-- ---- the order, taken apart

before_not_nil : {s t : List ℕ} → Before s t → ¬ (t ≡ [])
before_not_nil shorter e = let z : ◌≡◌ {A = ℕ} 0 1 = cc in omega arith
before_not_nil (lower l) e = let z : ◌≡◌ {A = ℕ} 0 1 = cc in omega arith
before_not_nil (later h) e = let z : ◌≡◌ {A = ℕ} 0 1 = cc in omega arith

pub before_nil : (s : List ℕ) → ¬ Before s []
before_nil s h = before_not_nil h refl

pub before_cons : {x y : ℕ} {s t : List ℕ} → Before (x ∷ s) (y ∷ t) → (x < y) ⊎ ((x ≡ y) × Before s t)
before_cons (lower l) = inl l
before_cons (later h) = inr (refl, h)

pub before_irrefl : (s : List ℕ) → ¬ Before s s
before_irrefl [] h = before_nil [] h
before_irrefl (x ∷ s) h = ⊎_elim (λ l. lt_irrefl x l) (λ q. before_irrefl s q.1) (before_cons h)

pub before_trans : {s t u : List ℕ} → Before s t → Before t u → Before s u
before_trans {s} {t} {u} p q = go s t u p q
  where
    go : (s t u : List ℕ) → Before s t → Before t u → Before s u
    go s t [] p q = absurd (before_nil t q)
    go s [] (z ∷ u) p q = absurd (before_nil s p)
    go [] (y ∷ t) (z ∷ u) p q = shorter
    go (x ∷ s) (y ∷ t) (z ∷ u) p q = ⊎_elim
        (λ a. ⊎_elim (λ b. lower (omega arith)) (λ b. lower (omega (arith, b.0))) (before_cons q))
        (λ a. ⊎_elim (λ b. lower (omega (arith, a.0))) (λ b. rw (a.0, b.0) (later (go s t u a.1 b.1))) (before_cons q))
        (before_cons p)

pub before_asym : {s t : List ℕ} → Before s t → ¬ Before t s
before_asym {s} p q = before_irrefl s (before_trans p q)

-- two strings are equal, or one comes before the other
pub before_total : (s t : List ℕ) → (s ≡ t) ⊎ ((Before s t) ⊎ (Before t s))
before_total [] [] = inl refl
before_total [] (y ∷ t) = inr (inl shorter)
before_total (x ∷ s) [] = inr (inr shorter)
before_total (x ∷ s) (y ∷ t) = go (ltb x y) refl (ltb y x) refl (before_total s t)
  where
    go : (a : Bool) → ltb x y ≡ a → (b : Bool) → ltb y x ≡ b → (s ≡ t) ⊎ ((Before s t) ⊎ (Before t s)) → (x ∷ s ≡ y ∷ t) ⊎ ((Before (x ∷ s) (y ∷ t)) ⊎ (Before (y ∷ t) (x ∷ s)))
    go true p b q r = inr (inl (lower (ltb-true x y p)))
    go false p true q r = inr (inr (lower (ltb-true y x q)))
    go false p false q r =
        let e : x ≡ y = omega (arith, ltb-false x y p, ltb-false y x q) in
        ⊎_elim (λ same. inl (ap₂ ◌∷◌ e same)) (λ h. ⊎_elim (λ l. inr (inl (rw e (later l)))) (λ l. inr (inr (rw e (later l)))) h) r

-- the test computes the order
pub decides_before : (s t : List ℕ) → Decides (before_test s t) (Before s t)
unfolding before_test
decides_before [] [] = decides_false (before_nil [])
decides_before [] (y ∷ t) = decides_true shorter
decides_before (x ∷ s) [] = decides_false (before_nil (x ∷ s))
decides_before (x ∷ s) (y ∷ t) = go (ltb x y) refl (ltb y x) refl (before_test s t) (decides_before s t)
  where
    go : (a : Bool) → ltb x y ≡ a → (b : Bool) → ltb y x ≡ b → (r : Bool) → Decides r (Before s t)
        → Decides (cond a true (cond b false r)) (Before (x ∷ s) (y ∷ t))
    go true p b q r d = decides_true (lower (ltb-true x y p))
    go false p true q r d =
        let l = ltb-true y x q in
        decides_false (λ h. ⊎_elim (λ m. omega arith) (λ m. omega (arith, m.0)) (before_cons h))
    go false p false q r d =
        let e : x ≡ y = omega (arith, ltb-false x y p, ltb-false y x q) in
        decides_iff (λ h. rw e (later h)) (λ h. ⊎_elim (λ m. absurd (omega arith)) (λ m. m.1) (before_cons h)) d

-- ---- a string that begins another

pub begins_refl : (s : List ℕ) → Begins s s
begins_refl [] = nothing
begins_refl (x ∷ s) = byte (begins_refl s)

pub begins_append : (s t : List ℕ) → Begins s (s ++ t)
begins_append [] t = nothing
begins_append (x ∷ s) t = byte (begins_append s t)

-- it is that string, or comes before it
pub begins_not_after : {s t : List ℕ} → Begins s t → (s ≡ t) ⊎ Before s t
begins_not_after (nothing {t = t}) = go t
  where
    go : (t : List ℕ) → ([] ≡ t) ⊎ Before [] t
    go [] = inl refl
    go (y ∷ t) = inr shorter
begins_not_after (byte h) = ⊎_elim (λ e. inl (rw e)) (λ l. inr (later l)) (begins_not_after h)
