-- Laws of lists ordered by a string of each member, as entries are by their keys.
--     rising_append         two in a row, where each of the first comes before each of the second
--     rising_unique         two with the same members are one list
-- Assumes nothing.
use Prim.{tt}
use Rattle.std.specs.Prelude.{◌≡◌, refl, ℕ}
use Rattle.std.proofs.Common.{sym, ◌∙◌, ap₂, subst, ⊎_elim}
use mathlib.Core.List.Memᴰ
use mathlib.Core.List.{List, [], ◌∷◌, ◌++◌, map, Memᴰ}
use Rattle.format.specs.Strings.{Before, AllAfter, Rising}
use Rattle.format.specs.Laws.StringLaws.{before_irrefl, before_asym}

-- ordered by k
module _ {A : Type 0} (k : A → List ℕ) where
  after_mem : (a : List ℕ) (xs : List A) → AllAfter a (map k xs) → (y : A) → Memᴰ y xs → Before a (k y)
  after_mem a [] h y on = absurd (Memᴰ.not-nil on)
  after_mem a (x ∷ xs) h y on =
      ⊎_elim (λ (e : y ≡ x). subst (λ (z : A). Before a (k z)) (sym e) h.0) (λ (g : Memᴰ y xs). after_mem a xs h.1 y g) (Memᴰ.cases_cons on)

  after_append : (a : List ℕ) (xs ys : List A) → AllAfter a (map k xs) → ((y : A) → Memᴰ y ys → Before a (k y)) → AllAfter a (map k (xs ++ ys))
  after_append a [] [] h b = tt
  after_append a [] (y ∷ ys) h b = (b y (Memᴰ.head refl), after_append a [] ys tt (λ z on. b z (Memᴰ.tail on)))
  after_append a (x ∷ xs) ys h b = (h.0, after_append a xs ys h.1 b)

  pub rising_append : (xs ys : List A) → Rising (map k xs) → Rising (map k ys) → ((x y : A) → Memᴰ x xs → Memᴰ y ys → Before (k x) (k y))
      → Rising (map k (xs ++ ys))
  rising_append [] ys h g b = g
  rising_append (x ∷ xs) ys h g b = (
    after_append (k x) xs ys h.0 (λ y on. b x y (Memᴰ.head refl) on),
    rising_append xs ys h.1 g (λ u v mu mv. b u v (Memᴰ.tail mu) mv),
  )

  -- of two ascending lists with the same members, the heads are one
  heads_same : (x y : A) (xs ys : List A) → AllAfter (k x) (map k xs) → AllAfter (k y) (map k ys) → Memᴰ x (y ∷ ys) → Memᴰ y (x ∷ xs) → x ≡ y
  heads_same x y xs ys h g mx my =
      ⊎_elim
      (λ (e : x ≡ y). e)
      (λ (on : Memᴰ x ys).
      ⊎_elim
      (λ (e : y ≡ x). sym e)
      (λ (in_xs : Memᴰ y xs). absurd (before_asym (after_mem (k x) xs h y in_xs) (after_mem (k y) ys g x on)))
      (Memᴰ.cases_cons my))
      (Memᴰ.cases_cons mx)

  -- a member of the one tail is a member of the other
  tail_in : (x y : A) (xs ys : List A) → AllAfter (k x) (map k xs) → x ≡ y → ((z : A) → Memᴰ z (x ∷ xs) → Memᴰ z (y ∷ ys))
      → (z : A) → Memᴰ z xs → Memᴰ z ys
  tail_in x y xs ys h e to z on =
      ⊎_elim
      (λ (q : z ≡ y). absurd (before_irrefl (k x) (subst (λ (u : A). Before (k x) (k u)) (q ∙ sym e) (after_mem (k x) xs h z on))))
      (λ (g : Memᴰ z ys). g)
      (Memᴰ.cases_cons (to z (Memᴰ.tail on)))

  pub rising_unique : (xs ys : List A) → Rising (map k xs) → Rising (map k ys) → ((z : A) → Memᴰ z xs → Memᴰ z ys)
      → ((z : A) → Memᴰ z ys → Memᴰ z xs) → xs ≡ ys
  rising_unique [] [] h g to from = refl
  rising_unique [] (y ∷ ys) h g to from = absurd (Memᴰ.not-nil (from y (Memᴰ.head refl)))
  rising_unique (x ∷ xs) [] h g to from = absurd (Memᴰ.not-nil (to x (Memᴰ.head refl)))
  rising_unique (x ∷ xs) (y ∷ ys) h g to from =
      let e = heads_same x y xs ys h.0 g.0 (to x (Memᴰ.head refl)) (from y (Memᴰ.head refl)) in
      ap₂ ◌∷◌ e (rising_unique xs ys h.1 g.1 (tail_in x y xs ys h.0 e to) (tail_in y x ys xs g.0 (sym e) from))
