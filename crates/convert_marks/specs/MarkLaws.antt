-- Laws of `marked`: it is the one descending list of the addresses that have an entry.
--     marked_on, marked_off     one address more
--     marked_gap                several more, none of them with an entry
--     member_marked, marked_member    what is on the list
--     Falls, falls_same         a strictly descending list, and two of them with the same members
--     marked_list, marked_none  the list of marks where the marks are those of a descending list; where there is none
-- Assumes nothing.
use Rattle.std.specs.Prelude.{◌≡◌, refl, ℕ, zero, suc, ◌+◌, ◌≤◌, ◌<◌, get_or}
use Rattle.std.proofs.Common.{sym, ap, ap₂, ◌∙◌, ⊎_elim, arith, add-one, eq-eqb, ne_eqb}
use mathlib.Core.List.Memᴰ
use mathlib.Core.List.{List, [], ◌∷◌, Memᴰ}
use Rattle.std.proofs.Math.Decide.{ℕ_discrete}
use Rattle.format.specs.Paths.{Fst}
use Rattle.format.specs.Admitted.{Chain, last, next}
use Rattle.format.specs.Laws.ChainLaws.{chain_not_zero, chain_le, dec_mem}
use Rattle.format.specs.Laws.NodeFacts.{node_first_le, node_first_low}
use Rattle.convert_marks.specs.Marks.{marked}

-- ---- one address more

pub marked_zero : (d : List ℕ) → marked d 0 ≡ []
unfolding marked
marked_zero d = refl

pub marked_on : (d : List ℕ) (n : ℕ) → ¬ (get_or d n 0 ≡ 0) → marked d (n + 1) ≡ n ∷ marked d n
unfolding marked
marked_on d n ne = rw add-one (rw (ne_eqb (get_or d n 0) 0 ne) refl)

pub marked_off : (d : List ℕ) (n : ℕ) → get_or d n 0 ≡ 0 → marked d (n + 1) ≡ marked d n
unfolding marked
marked_off d n z = rw add-one (rw (eq-eqb (get_or d n 0) 0 z) refl)

-- addresses without an entry add nothing
pub marked_gap : (d : List ℕ) (a k : ℕ) → ((i : ℕ) → a ≤ i → i < a + k → get_or d i 0 ≡ 0) → marked d (a + k) ≡ marked d a
marked_gap d a zero zeros = let e : a + 0 ≡ a = omega arith in ap (marked d) e
marked_gap d a (suc k) zeros =
    let e : a + suc k ≡ a + k + 1 = omega arith in
    ap (marked d) e ∙ marked_off d (a + k) (zeros (a + k) (omega arith) (omega arith)) ∙ marked_gap d a k (λ i l m. zeros i l (omega arith))

-- ---- members

pub marked_member : (d : List ℕ) (n j : ℕ) → j < n → ¬ (get_or d j 0 ≡ 0) → Memᴰ j (marked d n)
marked_member d zero j l ne = absurd (omega arith)
marked_member d (suc n) j l ne = go (marked_member d n j) (ℕ_discrete j n) (ℕ_discrete (get_or d n 0) 0)
  where
    go : (j < n → ¬ (get_or d j 0 ≡ 0) → Memᴰ j (marked d n)) → Dec (j ≡ n) → Dec (get_or d n 0 ≡ 0) → Memᴰ j (marked d (suc n))
    go below (yes e) (yes z) = absurd (ne (rw e z))
    go below (yes e) (no z) = rw (← add-one, marked_on d n z) (Memᴰ.head e)
    go below (no e) (yes z) = rw (← add-one, marked_off d n z) (below (omega arith) ne)
    go below (no e) (no z) = rw (← add-one, marked_on d n z) (Memᴰ.tail (below (omega arith) ne))

pub member_marked : (d : List ℕ) (n j : ℕ) → Memᴰ j (marked d n) → (j < n) × ¬ (get_or d j 0 ≡ 0)
member_marked d zero j mem = absurd (Memᴰ.not-nil (rw (marked_zero d) at mem))
member_marked d (suc n) j mem = go (member_marked d n j) (ℕ_discrete (get_or d n 0) 0)
  where
    up : (j < n) × ¬ (get_or d j 0 ≡ 0) → (j < suc n) × ¬ (get_or d j 0 ≡ 0)
    up h = (omega (arith, h.0), h.1)

    go : (Memᴰ j (marked d n) → (j < n) × ¬ (get_or d j 0 ≡ 0)) → Dec (get_or d n 0 ≡ 0) → (j < suc n) × ¬ (get_or d j 0 ≡ 0)
    go below (yes z) = up (below (rw (← add-one, marked_off d n z) at mem))
    go below (no z) =
        ⊎_elim (λ e. (omega (arith, e), λ q. z (ap (λ i. get_or d i 0) (sym e) ∙ q))) (λ k. up (below k)) (Memᴰ.cases_cons (rw (← add-one, marked_on d n z) at mem))

-- ---- descending lists

pub data Falls : List ℕ → Type 0 where
  falls_none : Falls []
  falls_more : {a : ℕ} {l : List ℕ} → ((j : ℕ) → Memᴰ j l → j < a) → Falls l → Falls (a ∷ l)

-- members of the one list below its head are members of the other below its own, the same head
tail_in : {a b : ℕ} {l k : List ℕ} → a ≡ b → ((j : ℕ) → Memᴰ j l → j < a) → ((j : ℕ) → Memᴰ j (a ∷ l) → Memᴰ j (b ∷ k)) → (j : ℕ) → Memᴰ j l
    → Memᴰ j k
tail_in e low there j mem = ⊎_elim (λ q. absurd (omega (arith, low j mem, q, e))) (λ x. x) (Memᴰ.cases_cons (there j (Memᴰ.tail mem)))

pub falls_same : {l k : List ℕ} → Falls l → Falls k → ((j : ℕ) → Memᴰ j l → Memᴰ j k) → ((j : ℕ) → Memᴰ j k → Memᴰ j l) → l ≡ k
falls_same falls_none falls_none there back = refl
falls_same falls_none (falls_more {a = b} low g) there back = absurd (Memᴰ.not-nil (back b (Memᴰ.head refl)))
falls_same (falls_more {a = a} low f) falls_none there back = absurd (Memᴰ.not-nil (there a (Memᴰ.head refl)))
falls_same (falls_more {a = a} {l = l} low f) (falls_more {a = b} {l = k} low' g) there back =
    let e : a ≡ b =
    ⊎_elim (λ q. q) (λ m. ⊎_elim (λ q. sym q) (λ m'. absurd (omega (arith, low b m', low' a m))) (Memᴰ.cases_cons (back b (Memᴰ.head refl))))
    (Memᴰ.cases_cons (there a (Memᴰ.head refl))) in
    ap₂ ◌∷◌ e (falls_same f g (tail_in e low there) (tail_in (sym e) low' back))

pub marked_falls : (d : List ℕ) (n : ℕ) → Falls (marked d n)
marked_falls d zero = rw (marked_zero d) falls_none
marked_falls d (suc n) = go (marked_falls d n) (ℕ_discrete (get_or d n 0) 0)
  where
    go : Falls (marked d n) → Dec (get_or d n 0 ≡ 0) → Falls (marked d (suc n))
    go below (yes z) = rw (← add-one, marked_off d n z) below
    go below (no z) = rw (← add-one, marked_on d n z) (falls_more (λ j mem. (member_marked d n j mem).0) below)

pub chain_falls : {f : Fst} {a : ℕ} {l : List ℕ} → Chain f a l → Falls l
chain_falls {a = a} (last m e done) = falls_more {a = a} (λ j mem. absurd (Memᴰ.not-nil mem)) falls_none
chain_falls {f} {a} (next m e more c) =
    let ne = chain_not_zero (next m e more c) in
    falls_more {a = a} (λ j mem. omega (arith, chain_le c j mem, node_first_le f a m e ne, node_first_low f a m e ne)) (chain_falls c)

-- ---- the list of marks

pub marked_list : (d : List ℕ) (n : ℕ) (l : List ℕ) → Falls l → ((j : ℕ) → Memᴰ j l → (j < n) × ¬ (get_or d j 0 ≡ 0))
    → ((j : ℕ) → j < n → ¬ Memᴰ j l → get_or d j 0 ≡ 0) → marked d n ≡ l
marked_list d n l falls on off =
    falls_same (marked_falls d n) falls
    (λ j mem. let h = member_marked d n j mem in elim (dec_mem j l) [ yes m ↦ m | no m ↦ absurd (h.1 (off j h.0 m)) ])
    (λ j mem. let h = on j mem in marked_member d n j h.0 h.1)

pub marked_none : (d : List ℕ) (n : ℕ) → ((j : ℕ) → j < n → get_or d j 0 ≡ 0) → marked d n ≡ []
marked_none d n zeros = marked_list d n [] falls_none (λ j mem. absurd (Memᴰ.not-nil mem)) (λ j l _. zeros j l)
