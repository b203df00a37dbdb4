-- Laws of a node's list of transitions: its length, the transition at a place, and the place of an input.
--     search_at, search_absent   what the search for a byte answers among inputs that ascend, and exactly when
-- Assumes nothing.
use Rattle.std.specs.Prelude.{◌≡◌, refl, Bool, true, false, cond, ◌⊎◌, ℕ, zero, suc, ◌+◌, ◌-◌, ◌≤◌, ◌<◌, ltb, eqb, length, get_or}
use Rattle.std.proofs.Common.{sym, ap, ◌∙◌, inl, inr, zero-add, arith, eq-eqb, ne_eqb, eqb-true, lt-ltb, le-ltb}
use mathlib.Core.List.Memᴰ
use mathlib.Core.List.{List, [], ◌∷◌, Memᴰ}
use Rattle.std.proofs.Math.Decide.{dec_lt}
use Rattle.std.proofs.lemmas.Bool.{eqb-false}
use Rattle.format.specs.declared.Transition.{Transition}
use Rattle.format.specs.Node.{transitions_of, Ascending, Absent, Place, at, absent, find_from, first_above, Search, search_of, find_input, Gap, transition_at}

-- three lists of one length
pub length_transitions_of : (bs os ts : List ℕ) → length os ≡ length bs → length ts ≡ length bs → length (transitions_of bs os ts) ≡ length bs
unfolding transitions_of
length_transitions_of [] os ts o t = refl
length_transitions_of (b ∷ bs) [] ts o t = absurd (omega arith)
length_transitions_of (b ∷ bs) (o ∷ os) [] p t = absurd (omega arith)
length_transitions_of (b ∷ bs) (o ∷ os) (t ∷ ts) p q = ap suc (length_transitions_of bs os ts (omega arith) (omega arith))

pub transition_at_of : (bs os ts : List ℕ) (i : ℕ) → length os ≡ length bs → length ts ≡ length bs → i < length bs
    → transition_at (transitions_of bs os ts) i ≡ record { inp = get_or bs i 0; out = get_or os i 0; addr = get_or ts i 0 }
unfolding transitions_of
transition_at_of [] os ts i o t l = absurd (omega arith)
transition_at_of (b ∷ bs) [] ts i o t l = absurd (omega arith)
transition_at_of (b ∷ bs) (o ∷ os) [] i p q l = absurd (omega arith)
transition_at_of (b ∷ bs) (o ∷ os) (t ∷ ts) zero p q l = refl
transition_at_of (b ∷ bs) (o ∷ os) (t ∷ ts) (suc i) p q l = transition_at_of bs os ts i (omega arith) (omega arith) (omega arith)

-- the first place of an input that there is
find_from_at : (k : ℕ) (ts : List Transition) (b j : ℕ) → j < length ts → (transition_at ts j).inp ≡ b
    → ((i : ℕ) → i < j → ¬ ((transition_at ts i).inp ≡ b)) → find_from k ts b ≡ at (k + j)
unfolding find_from
find_from_at k [] b j l is none = absurd (omega arith)
find_from_at k (t ∷ ts) b zero l is none = let e : k ≡ k + 0 = omega arith in rw (eq-eqb t.inp b is) (ap Place.at e)
find_from_at k (t ∷ ts) b (suc j) l is none =
    let e : k + 1 + j ≡ k + suc j = omega arith in
    rw (ne_eqb t.inp b (none 0 (omega arith))) (find_from_at (k + 1) ts b j (omega arith) is (λ i m. none (suc i) (omega arith)) ∙ rw e)

find_from_absent : (k : ℕ) (ts : List Transition) (b : ℕ) → ((i : ℕ) → i < length ts → ¬ ((transition_at ts i).inp ≡ b)) → find_from k ts b ≡ absent
unfolding find_from
find_from_absent k [] b none = refl
find_from_absent k (t ∷ ts) b none = rw (ne_eqb t.inp b (none 0 (omega arith))) (find_from_absent (k + 1) ts b (λ i m. none (suc i) (omega arith)))

-- strictly ascending bytes, some places apart
pub ascends_by : (bs : List ℕ) → Ascending bs → (i d : ℕ) → i + d < length bs → get_or bs i 0 + d ≤ get_or bs (i + d) 0
unfolding Ascending
ascends_by bs asc i zero h = let e : i + 0 ≡ i = omega arith in rw e (omega arith)
ascends_by bs asc i (suc d) h =
    let e : i + suc d ≡ i + d + 1 = omega arith in
    rw e (omega (arith, ascends_by bs asc i d (omega arith), asc (i + d) (omega arith)))

pub ascends_lt : (bs : List ℕ) → Ascending bs → (i j : ℕ) → i < j → j < length bs → get_or bs i 0 < get_or bs j 0
ascends_lt bs asc i j h l = let e : i + (j - i) ≡ j = omega arith in omega (arith, rw e at (ascends_by bs asc i (j - i) (omega arith)))

-- ---- members and places

pub member_at : {t : Transition} {ts : List Transition} → Memᴰ t ts → (i : ℕ) × (i < length ts) × (transition_at ts i ≡ t)
member_at (Memᴰ.head e) = (0, omega arith, sym e)
member_at (Memᴰ.tail m) = let r = member_at m in (suc r.0, omega (arith, r.1), r.2)

pub at_member : (ts : List Transition) (i : ℕ) → i < length ts → Memᴰ (transition_at ts i) ts
at_member [] i h = absurd (omega arith)
at_member (t ∷ ts) zero h = Memᴰ.head refl
at_member (t ∷ ts) (suc i) h = Memᴰ.tail (at_member ts i (omega arith))

-- where the place of an input is given, the transition there takes that input
find_from_member : (k : ℕ) (ts : List Transition) (b i : ℕ) → find_from k ts b ≡ at i
    → (k ≤ i) × (i < k + length ts) × ((transition_at ts (i - k)).inp ≡ b)
unfolding find_from
find_from_member k [] b i e = absurd (let z : ◌≡◌ {A = ℕ} 0 1 = cc in omega arith)
find_from_member k (t ∷ ts) b i e = go (eqb t.inp b) refl (find_from_member (k + 1) ts b i) e
  where
    go : (z : Bool) → eqb t.inp b ≡ z
        → (find_from (k + 1) ts b ≡ at i → (k + 1 ≤ i) × (i < k + 1 + length ts) × ((transition_at ts (i - (k + 1))).inp ≡ b))
        → cond z (at k) (find_from (k + 1) ts b) ≡ at i
        → (k ≤ i) × (i < k + suc (length ts)) × ((transition_at (t ∷ ts) (i - k)).inp ≡ b)
    go true z rest e =
        let q : k ≡ i = cc in
        let first : i - k ≡ 0 = omega arith in
        (omega arith, omega arith, rw first (eqb-true t.inp b z))
    go false z rest e =
        let r = rest e in
        let next : i - k ≡ suc (i - (k + 1)) = omega (arith, r.0) in
        (omega (arith, r.0), omega (arith, r.1), rw next r.2)

find_from_none : (k : ℕ) (ts : List Transition) (b : ℕ) → find_from k ts b ≡ absent → (t : Transition) → Memᴰ t ts → ¬ (t.inp ≡ b)
unfolding find_from
find_from_none k [] b e t m is = Memᴰ.not-nil m
find_from_none k (u ∷ ts) b e t m is = go (eqb u.inp b) refl (find_from_none (k + 1) ts b) e (Memᴰ.cases_cons m)
  where
    go : (z : Bool) → eqb u.inp b ≡ z → (find_from (k + 1) ts b ≡ absent → (t : Transition) → Memᴰ t ts → ¬ (t.inp ≡ b))
        → cond z (at k) (find_from (k + 1) ts b) ≡ absent → (t ≡ u) ⊎ Memᴰ t ts → ⊥
    go true z rest e c = let q : ◌≡◌ {A = ℕ} 0 1 = cc in omega arith
    go false z rest e (inl q) = eqb-false u.inp b z (ap (λ (x : Transition). x.inp) (sym q) ∙ is)
    go false z rest e (inr m) = rest e t m is

-- ---- what a search answers

search_at_from : (q : Place) (p i : ℕ) → search_of q p ≡ Search.at i → q ≡ at i
search_at_from (Place.at j) p i e = let same : j ≡ i = cc in ap Place.at same
search_at_from Place.absent p i e = absurd (let z : ◌≡◌ {A = ℕ} 0 1 = cc in omega arith)

search_absent_from : (q : Place) (p r : ℕ) → search_of q p ≡ Search.absent r → (q ≡ absent) × (p ≡ r)
search_absent_from (Place.at j) p r e = absurd (let z : ◌≡◌ {A = ℕ} 0 1 = cc in omega arith)
search_absent_from Place.absent p r e = (refl, cc)

pub find_input_member : (ts : List Transition) (b i : ℕ) → find_input ts b ≡ Search.at i → (i < length ts) × ((transition_at ts i).inp ≡ b)
find_input_member ts b i e =
    let r = find_from_member 0 ts b i (search_at_from (find_from 0 ts b) (first_above ts b) i e) in
    let z : i - 0 ≡ i = omega arith in
    (omega (arith, r.1), rw z at r.2)

pub find_input_none : (ts : List Transition) (b : ℕ) {p : ℕ} → find_input ts b ≡ Search.absent p → (t : Transition) → Memᴰ t ts → ¬ (t.inp ≡ b)
find_input_none ts b {p} e t m = find_from_none 0 ts b (search_absent_from (find_from 0 ts b) (first_above ts b) p e).0 t m

first_le : (ts : List Transition) (b : ℕ) → first_above ts b ≤ length ts
unfolding first_above
first_le [] b = omega arith
first_le (t ∷ ts) b = go (ltb b t.inp) (first_le ts b)
  where
    go : (z : Bool) → first_above ts b ≤ length ts → cond z 0 (suc (first_above ts b)) ≤ suc (length ts)
    go true h = omega arith
    go false h = omega arith

pub find_input_le : (ts : List Transition) (b p : ℕ) → find_input ts b ≡ Search.absent p → p ≤ length ts
find_input_le ts b p e = omega (arith, (search_absent_from (find_from 0 ts b) (first_above ts b) p e).1, first_le ts b)

-- ---- transitions whose inputs ascend

abbrev pub Ascend : List Transition → Type 0
Ascend ts = (i j : ℕ) → i < j → j < length ts → (transition_at ts i).inp < (transition_at ts j).inp

abbrev pub AllAbove : ℕ → List Transition → Type 0
AllAbove x ts = (i : ℕ) → i < length ts → x < (transition_at ts i).inp

-- b would stand at place p of ts
abbrev pub GapIn : List Transition → ℕ → ℕ → Type 0
GapIn ts b p = Gap (length ts) (λ i. (transition_at ts i).inp) b p

module _ (t : Transition) (ts : List Transition) where
  pub ascend_tail : Ascend (t ∷ ts) → Ascend ts
  ascend_tail asc i j h l = asc (suc i) (suc j) (omega arith) (omega arith)

  pub ascend_head : Ascend (t ∷ ts) → AllAbove t.inp ts
  ascend_head asc i l = asc 0 (suc i) (omega arith) (omega arith)

  pub above_tail : (x : ℕ) → AllAbove x (t ∷ ts) → AllAbove x ts
  above_tail x h i l = h (suc i) (omega arith)

  pub above_all : (x : ℕ) → x < t.inp → Ascend (t ∷ ts) → AllAbove x (t ∷ ts)
  above_all x h asc zero l = h
  above_all x h asc (suc i) l = omega (arith, ascend_head asc i (omega arith))

  gap_tail : (b p : ℕ) → GapIn (t ∷ ts) b (suc p) → GapIn ts b p
  gap_tail b p g =
      record {
        within = omega (arith, g.within);
        below = λ i l. g.below (suc i) (omega arith);
        above = λ i l h. g.above (suc i) (omega arith) (omega arith);
      }

-- none of the inputs is a byte that would stand between two of them
pub gap_none : {n b p : ℕ} {x : ℕ → ℕ} → Gap n x b p → (i : ℕ) → i < n → ¬ (x i ≡ b)
gap_none {n} {b} {p} {x} g i l is =
    elim (dec_lt i p) [
      | yes h ↦ omega (arith, g.below i h)
      | no h ↦ omega (arith, g.above i (omega arith) l)
    ]

gap_first : (ts : List Transition) (b p : ℕ) → GapIn ts b p → first_above ts b ≡ p
unfolding first_above
gap_first [] b p g = omega (arith, g.within)
gap_first (t ∷ ts) b zero g = rw (lt-ltb b t.inp (g.above 0 (omega arith) (omega arith)))
gap_first (t ∷ ts) b (suc p) g =
    let low : t.inp < b = g.below 0 (omega arith) in
    rw (le-ltb b t.inp (omega arith)) (ap suc (gap_first ts b p (gap_tail t ts b p g)))

first_gap : (ts : List Transition) (b : ℕ) → Ascend ts → ((i : ℕ) → i < length ts → ¬ ((transition_at ts i).inp ≡ b)) → GapIn ts b (first_above ts b)
unfolding first_above
first_gap [] b asc none = record { within = omega arith; below = λ i l. absurd (omega arith); above = λ i l h. absurd (omega arith) }
first_gap (t ∷ ts) b asc none = go (dec_lt b t.inp) (first_gap ts b (ascend_tail t ts asc) (λ i l. none (suc i) (omega arith)))
  where
    go : Dec (b < t.inp) → GapIn ts b (first_above ts b) → GapIn (t ∷ ts) b (first_above (t ∷ ts) b)
    go (yes h) g =
        rw (lt-ltb b t.inp h)
        (record { within = omega arith; below = λ i l. absurd (omega arith); above = λ i l m. above_all t ts b h asc i m })
    go (no h) g =
        rw (le-ltb b t.inp (omega arith))
        (record { within = omega (arith, g.within); below = low; above = high })
      where
        low : (i : ℕ) → i < suc (first_above ts b) → (transition_at (t ∷ ts) i).inp < b
        low zero l = omega (arith, none 0 (omega arith))
        low (suc i) l = g.below i (omega arith)

        high : (i : ℕ) → suc (first_above ts b) ≤ i → i < length (t ∷ ts) → b < (transition_at (t ∷ ts) i).inp
        high zero l m = absurd (omega arith)
        high (suc i) l m = g.above i (omega arith) (omega arith)

-- a byte that is an input, exactly
pub search_at : (ts : List Transition) → Ascend ts → (b i : ℕ)
    → (find_input ts b ≡ Search.at i → (i < length ts) × ((transition_at ts i).inp ≡ b)) × (i < length ts → (transition_at ts i).inp ≡ b → find_input ts b ≡ Search.at i)
search_at ts asc b i = (
  λ e. find_input_member ts b i e,
  λ l is.
      let found : find_from 0 ts b ≡ at i = find_from_at 0 ts b i l is (λ j m e. omega (arith, asc j i m l)) ∙ ap Place.at (zero-add i) in
      rw found,
)

-- a byte that is none, exactly: where it would stand
pub search_absent : (ts : List Transition) → Ascend ts → (b p : ℕ)
    → (find_input ts b ≡ Search.absent p → GapIn ts b p) × (GapIn ts b p → find_input ts b ≡ Search.absent p)
search_absent ts asc b p = (
  λ e.
      let r = search_absent_from (find_from 0 ts b) (first_above ts b) p e in
      rw r.1 at (first_gap ts b asc (λ i l. find_input_none ts b e (transition_at ts i) (at_member ts i l))),
  λ g. rw (find_from_absent 0 ts b (gap_none g), gap_first ts b p g),
)

pub search_none : (b : ℕ) → find_input [] b ≡ Search.absent 0
unfolding find_from first_above
search_none b = refl

-- ---- the same of three lists of one length

module _ (bs os ts : List ℕ) (b : ℕ) (o : length os ≡ length bs) (t : length ts ≡ length bs) (asc : Ascending bs) where
  inp_at : (i : ℕ) → i < length bs → (transition_at (transitions_of bs os ts) i).inp ≡ get_or bs i 0
  inp_at i l = ap (λ (x : Transition). x.inp) (transition_at_of bs os ts i o t l)

  len : length (transitions_of bs os ts) ≡ length bs
  len = length_transitions_of bs os ts o t

  ascend_of : Ascend (transitions_of bs os ts)
  ascend_of i j h l = rw (inp_at i (omega (arith, len)), inp_at j (omega (arith, len))) (ascends_lt bs asc i j h (omega (arith, len)))

  pub find_input_at : (j : ℕ) → j < length bs → get_or bs j 0 ≡ b → find_input (transitions_of bs os ts) b ≡ Search.at j
  find_input_at j l is = (search_at (transitions_of bs os ts) ascend_of b j).1 (omega (arith, len)) (inp_at j l ∙ is)

  pub find_input_absent : (p : ℕ) → Gap (length bs) (λ i. get_or bs i 0) b p → find_input (transitions_of bs os ts) b ≡ Search.absent p
  find_input_absent p g =
      (search_absent (transitions_of bs os ts) ascend_of b p).1
      (record {
        within = omega (arith, g.within, len);
        below = λ i l. rw (inp_at i (omega (arith, g.within))) (g.below i l);
        above = λ i l h. rw (inp_at i (omega (arith, len))) (g.above i l (omega (arith, len)));
      })
