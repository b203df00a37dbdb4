-- Laws of `Lookup`: its definitions step by step, each answer by what leads to it, so that nothing above opens them.
--     get-from-..           a key's rest from a node: `-sum` with a running sum that is too large, `-end-..` at the key's end
--     get_opened, ..        the whole lookup, by what opening answers
--     fitting-..            the last of the leading transitions that fit, by a scan from place 0 up
--     get-key-from-..       the search by value from a node; key-goes-on-..: why it does not end there
--     get_key_opened, ..    the whole search, by what opening answers
-- Assumes nothing.
use Rattle.std.specs.Prelude.{◌≡◌, refl, Bool, true, false, ◌&&◌, ◌⊎◌, leb, eqb, length}
use Rattle.std.proofs.Common.{sym, ap, ◌∙◌, inl, inr, ⊎_elim, zero-add, add-one, arith}
use Rattle.std.proofs.Math.Bool.{cond}
use mathlib.Core.List.{List, [], ◌∷◌}
use Prim.Native.Nat.{ℕ, zero, suc, ◌+◌, ◌-◌, ◌≤◌, ◌<◌}
use Rattle.std.proofs.Math.Decide.{ℕ_discrete, dec_le}
use Rattle.format.specs.declared.Refusal.{Refusal}
use borrow.Author.Tests.{le-leb, lt-leb, eq-eqb, ne_eqb}
use Rattle.format.specs.declared.Transition.{Transition}
use Rattle.format.specs.Limits.{max_path, max_sum, NODE, DEEP, SUM, SPACE}
use Rattle.format.specs.Node.{Node, Judgement, sound, unsound, Place, at, absent, Search, find_input, transition_at}
use Rattle.format.specs.Opening.{Meta, Opening, opened, opening}
use Rattle.format.specs.Opening as Opening
use Rattle.format.specs.Paths.{Fst, fst_of, node_in}
use Rattle.format.specs.Lookup.{past_sum, Answer, get_from, get, KeyAnswer, fitting_from, last_fitting, with_byte, get_key_from, key_opened_as, get_key}

-- ---- by key, from a node

pub get_from_unsound : (f : Fst) (k : List ℕ) (a sum : ℕ) → node_in f a ≡ unsound → get_from f k a sum ≡ Answer.refused NODE
unfolding get_from
get_from_unsound f [] a sum e = rw e
get_from_unsound f (b ∷ k) a sum e = rw e

module _ (f : Fst) (a sum : ℕ) (m : Node) (e : node_in f a ≡ sound m) where
  pub get_from_sum : (k : List ℕ) → max_sum < sum → get_from f k a sum ≡ Answer.refused SUM
  unfolding get_from
  get_from_sum [] h = rw (e, lt-leb sum max_sum h)
  get_from_sum (b ∷ k) h = rw (e, lt-leb sum max_sum h)

  module _ (fits : sum ≤ max_sum) where
    pub get_from_end_value : m.final ≡ true → sum + m.final_output ≤ max_sum → get_from f [] a sum ≡ Answer.value (sum + m.final_output)
    unfolding get_from
    get_from_end_value is h = rw (e, le-leb sum max_sum fits, is, le-leb (sum + m.final_output) max_sum h)

    pub get_from_end_sum : m.final ≡ true → max_sum < sum + m.final_output → get_from f [] a sum ≡ Answer.refused SUM
    unfolding get_from
    get_from_end_sum is h = rw (e, le-leb sum max_sum fits, is, lt-leb (sum + m.final_output) max_sum h)

    pub get_from_end_none : m.final ≡ false → get_from f [] a sum ≡ Answer.none
    unfolding get_from
    get_from_end_none is = rw (e, le-leb sum max_sum fits, is)

    pub get_from_absent : (b : ℕ) (k : List ℕ) {p : ℕ} → find_input m.transitions b ≡ Search.absent p → get_from f (b ∷ k) a sum ≡ Answer.none
    unfolding get_from
    get_from_absent b k none = rw (e, le-leb sum max_sum fits, none)

    pub get_from_step : (b : ℕ) (k : List ℕ) (i : ℕ) → find_input m.transitions b ≡ Search.at i
        → get_from f (b ∷ k) a sum ≡ get_from f k (transition_at m.transitions i).addr (sum + (transition_at m.transitions i).out)
    unfolding get_from
    get_from_step b k i is = rw (e, le-leb sum max_sum fits, is)

pub get_from_past : (f : Fst) (k : List ℕ) (a sum : ℕ) → max_sum < sum → get_from f k a sum ≡ Answer.refused (past_sum (node_in f a))
get_from_past f k a sum h = by (node_in f a) refl
  where
    by : (j : Judgement) → node_in f a ≡ j → get_from f k a sum ≡ Answer.refused (past_sum (node_in f a))
    by (sound m) e = rw e (get_from_sum f a sum m e k h)
    by unsound e = rw e (get_from_unsound f k a sum e)

-- ---- by key

pub get_opened : (s k : List ℕ) (m : Meta) → opening s ≡ opened m → 0 < length s → get s k ≡ get_from (fst_of s m) k m.root 0
unfolding get
get_opened s k m e pos = let ne : ¬ (length s ≡ 0) = λ z. omega arith in rw (e, ne_eqb (length s) 0 ne)

pub get_blank : (s k : List ℕ) (m : Meta) → opening s ≡ opened m → length s ≡ 0 → get s k ≡ Answer.none
unfolding get
get_blank s k m e z = rw (e, eq-eqb (length s) 0 z)

pub get_refused : (s k : List ℕ) (n : Refusal) → opening s ≡ Opening.refused n → get s k ≡ Answer.refused n
unfolding get
get_refused s k n e = rw e

-- ---- the last of the leading transitions that fit

-- the first transition does not fit, or there is none
fitting_from_none : (k : ℕ) (last : Place) (ts : List Transition) (v : ℕ) → (length ts ≡ 0) ⊎ (v < (transition_at ts 0).out) → fitting_from k last ts v ≡ last
unfolding fitting_from
fitting_from_none k last [] v h = refl
fitting_from_none k last (t ∷ ts) v (inl h) = absurd (omega arith)
fitting_from_none k last (t ∷ ts) v (inr h) = rw (lt-leb t.out v h)

fitting_from_some : (k : ℕ) (last : Place) (ts : List Transition) (v i : ℕ) → i < length ts → ((j : ℕ) → j ≤ i → (transition_at ts j).out ≤ v)
    → (length ts ≡ suc i) ⊎ (v < (transition_at ts (suc i)).out) → fitting_from k last ts v ≡ at (k + i)
unfolding fitting_from
fitting_from_some k last [] v i l fit stop = absurd (omega arith)
fitting_from_some k last (t ∷ ts) v zero l fit stop =
    let e : k ≡ k + 0 = omega arith in
    rw (le-leb t.out v (fit 0 (omega arith))) (fitting_from_none (k + 1) (at k) ts v (⊎_elim (λ h. inl (omega arith)) inr stop) ∙ ap at e)
fitting_from_some k last (t ∷ ts) v (suc i) l fit stop =
    let e : k + 1 + i ≡ k + suc i = omega arith in
    rw (le-leb t.out v (fit 0 (omega arith)))
    (fitting_from_some (k + 1) (at k) ts v i (omega arith) (λ j h. fit (suc j) (omega arith)) (⊎_elim (λ h. inl (omega arith)) inr stop) ∙ ap at e)

-- what a place says: the outputs up to it fit, and the next one does not
pub record Fitting (ts : List Transition) (v i : ℕ) : Type 0 where
  pub within : i < length ts
  pub fit : (j : ℕ) → j ≤ i → (transition_at ts j).out ≤ v
  pub stop : (length ts ≡ i + 1) ⊎ (v < (transition_at ts (i + 1)).out)

pub fitting_at : (ts : List Transition) (v i : ℕ) → Fitting ts v i → last_fitting ts v ≡ at i
unfolding last_fitting
fitting_at ts v i h = fitting_from_some 0 absent ts v i h.within h.fit (rw add-one at h.stop) ∙ rw zero-add

pub fitting_absent : (ts : List Transition) (v : ℕ) → (length ts ≡ 0) ⊎ (v < (transition_at ts 0).out) → last_fitting ts v ≡ absent
unfolding last_fitting
fitting_absent ts v h = fitting_from_none 0 absent ts v h

-- one of the two holds, so an answer says which
fits_or_not : (ts : List Transition) (v : ℕ) → ((length ts ≡ 0) ⊎ (v < (transition_at ts 0).out)) ⊎ ((i : ℕ) × Fitting ts v i)
fits_or_not [] v = inl (inl refl)
fits_or_not (t ∷ ts) v = go (fits_or_not ts v) (dec_le t.out v)
  where
    go : ((length ts ≡ 0) ⊎ (v < (transition_at ts 0).out)) ⊎ ((i : ℕ) × Fitting ts v i) → Dec (t.out ≤ v)
        → ((length (t ∷ ts) ≡ 0) ⊎ (v < t.out)) ⊎ ((i : ℕ) × Fitting (t ∷ ts) v i)
    go rest (no h) = inl (inr (omega arith))
    go (inl h) (yes fit) =
        inr (
          0,
          record {
            within = omega arith;
            fit = λ j l. let z : j ≡ 0 = omega arith in rw z fit;
            stop = ⊎_elim (λ z. inl (omega arith)) inr h;
          },
        )
    go (inr (i, h)) (yes fit) =
        inr (
          suc i,
          record {
            within = omega (arith, h.within);
            fit = fit_cons h.fit fit;
            stop = rw (add-one (suc i)) (⊎_elim (λ z. inl (omega arith)) (λ l. inr (rw add-one at l)) h.stop);
          },
        )
      where
        fit_cons : ((j : ℕ) → j ≤ i → (transition_at ts j).out ≤ v) → t.out ≤ v → (j : ℕ) → j ≤ suc i → (transition_at (t ∷ ts) j).out ≤ v
        fit_cons rest first zero l = first
        fit_cons rest first (suc j) l = rest j (omega arith)

pub at_fitting : (ts : List Transition) (v i : ℕ) → last_fitting ts v ≡ at i → Fitting ts v i
at_fitting ts v i e = go (fits_or_not ts v)
  where
    go : ((length ts ≡ 0) ⊎ (v < (transition_at ts 0).out)) ⊎ ((j : ℕ) × Fitting ts v j) → Fitting ts v i
    go (inl h) = let n = fitting_absent ts v h in absurd (let z : ◌≡◌ {A = ℕ} 0 1 = cc in omega arith)
    go (inr (j, h)) = let q = fitting_at ts v j h in let same : j ≡ i = cc in rw same at h

pub absent_fitting : (ts : List Transition) (v : ℕ) → last_fitting ts v ≡ absent → (length ts ≡ 0) ⊎ (v < (transition_at ts 0).out)
absent_fitting ts v e = go (fits_or_not ts v)
  where
    go : ((length ts ≡ 0) ⊎ (v < (transition_at ts 0).out)) ⊎ ((j : ℕ) × Fitting ts v j) → (length ts ≡ 0) ⊎ (v < (transition_at ts 0).out)
    go (inl h) = h
    go (inr (j, h)) = let q = fitting_at ts v j h in absurd (let z : ◌≡◌ {A = ℕ} 0 1 = cc in omega arith)

-- a scan from place 0 up has passed i transitions, all of which fit
pub record Scanned (ts : List Transition) (v i : ℕ) : Type 0 where
  pub within : i ≤ length ts
  pub fit : (j : ℕ) → j < i → (transition_at ts j).out ≤ v

pub scanned_none : (ts : List Transition) (v : ℕ) → Scanned ts v 0
scanned_none ts v = record { within = omega arith; fit = λ j h. absurd (omega arith) }

pub scanned_step : {ts : List Transition} {v i : ℕ} → i < length ts → (transition_at ts i).out ≤ v → Scanned ts v i → Scanned ts v (i + 1)
scanned_step {ts} {v} {i} l fits h =
    record {
      within = omega arith;
      fit = λ j k. elim (ℕ_discrete j i) [ yes e ↦ rw e fits | no ne ↦ h.fit j (omega arith) ];
    }

-- where it stops, the answer is the transition that it passed last
pub fitting_last : {ts : List Transition} {v i : ℕ} → Scanned ts v i → (i ≡ length ts) ⊎ (v < (transition_at ts i).out) → 0 < i → last_fitting ts v ≡ at (i - 1)
fitting_last {ts} {v} {i} h stop pos =
    let e : i - 1 + 1 ≡ i = omega arith in
    fitting_at ts v (i - 1) (record {
      within = omega (arith, h.within);
      fit = λ j l. h.fit j (omega arith);
      stop = rw e (⊎_elim (λ z. inl (sym z)) inr stop);
    })

pub fitting_none : {ts : List Transition} {v i : ℕ} → Scanned ts v i → (i ≡ length ts) ⊎ (v < (transition_at ts i).out) → i ≡ 0 → last_fitting ts v ≡ absent
fitting_none {ts} {v} {i} h stop z = fitting_absent ts v (⊎_elim (λ e. inl (sym e ∙ z)) (λ l. inr (rw z at l)) stop)

-- ---- by value, from a node

pub get_key_from_unsound : (f : Fst) (room a v : ℕ) → node_in f a ≡ unsound → get_key_from room f a v ≡ KeyAnswer.refused NODE
unfolding get_key_from
get_key_from_unsound f zero a v e = rw e
get_key_from_unsound f (suc room) a v e = rw e

-- the key does not end at a node where something is left, or that is not final
pub key_goes_on_value : (v : ℕ) (final : Bool) → ¬ (v ≡ 0) → (eqb v 0 && final) ≡ false
key_goes_on_value v final ne = rw (ne_eqb v 0 ne)

pub key_goes_on_final : (v : ℕ) (final : Bool) → final ≡ false → (eqb v 0 && final) ≡ false
key_goes_on_final v final e = go (eqb v 0) final e
  where
    go : (t final : Bool) → final ≡ false → (t && final) ≡ false
    go true final e = e
    go false final e = refl

module _ (f : Fst) (a v : ℕ) (m : Node) (e : node_in f a ≡ sound m) where
  pub get_key_from_end : (room : ℕ) → v ≡ 0 → m.final ≡ true → get_key_from room f a v ≡ KeyAnswer.found []
  unfolding get_key_from
  get_key_from_end zero z is = rw (e, eq-eqb v 0 z, is)
  get_key_from_end (suc room) z is = rw (e, eq-eqb v 0 z, is)

  module _ (on : (eqb v 0 && m.final) ≡ false) where
    pub get_key_from_none : (room : ℕ) → last_fitting m.transitions v ≡ absent → get_key_from room f a v ≡ KeyAnswer.none
    unfolding get_key_from
    get_key_from_none zero none = rw (e, on, none)
    get_key_from_none (suc room) none = rw (e, on, none)

    pub get_key_from_deep : (i : ℕ) → last_fitting m.transitions v ≡ at i → get_key_from zero f a v ≡ KeyAnswer.refused DEEP
    unfolding get_key_from
    get_key_from_deep i is = rw (e, on, is)

    pub get_key_from_step : (room i : ℕ) → last_fitting m.transitions v ≡ at i
        → get_key_from (suc room) f a v
        ≡ with_byte (transition_at m.transitions i).inp
        (get_key_from room f (transition_at m.transitions i).addr (v - (transition_at m.transitions i).out))
    unfolding get_key_from
    get_key_from_step room i is = rw (e, on, is)

-- ---- by value

-- over any search, so that no 255 steps of one are computed
key_opened_as_lem : (o : Opening) (m : Meta) (go : Meta → KeyAnswer) → o ≡ opened m → key_opened_as o go ≡ go m
key_opened_as_lem o m go e = rw e

key_refused_as : (o : Opening) (n : Refusal) (go : Meta → KeyAnswer) → o ≡ Opening.refused n → key_opened_as o go ≡ KeyAnswer.refused n
key_refused_as o n go e = rw e

cond_true : (t : Bool) (x y : KeyAnswer) → t ≡ true → cond t x y ≡ x
cond_true t x y e = rw e

cond_false : (t : Bool) (x y : KeyAnswer) → t ≡ false → cond t x y ≡ y
cond_false t x y e = rw e

module _ (s : List ℕ) (v space : ℕ) where
  -- the search once the file has opened and the buffer is long enough
  unfoldable search : Meta → KeyAnswer
  search m = cond (eqb (length s) 0) KeyAnswer.none (get_key_from max_path (fst_of s m) m.root v)

  pub get_key_refused : (n : Refusal) → opening s ≡ Opening.refused n → get_key s v space ≡ KeyAnswer.refused n
  unfolding get_key search
  get_key_refused n e = key_refused_as (opening s) n (λ m. cond (leb max_path space) (search m) (KeyAnswer.refused SPACE)) e

  module _ (m : Meta) (e : opening s ≡ opened m) where
    pub get_key_space : space < max_path → get_key s v space ≡ KeyAnswer.refused SPACE
    unfolding get_key search
    get_key_space h =
        key_opened_as_lem (opening s) m (λ m. cond (leb max_path space) (search m) (KeyAnswer.refused SPACE)) e
        ∙ cond_false (leb max_path space) (search m) (KeyAnswer.refused SPACE) (lt-leb max_path space h)

    key_search : max_path ≤ space → get_key s v space ≡ search m
    unfolding get_key search
    key_search h =
        key_opened_as_lem (opening s) m (λ m. cond (leb max_path space) (search m) (KeyAnswer.refused SPACE)) e
        ∙ cond_true (leb max_path space) (search m) (KeyAnswer.refused SPACE) (le-leb max_path space h)

    pub get_key_opened : max_path ≤ space → 0 < length s → get_key s v space ≡ get_key_from max_path (fst_of s m) m.root v
    unfolding search
    get_key_opened h pos =
        key_search h
        ∙ cond_false (eqb (length s) 0) KeyAnswer.none (get_key_from max_path (fst_of s m) m.root v) (ne_eqb (length s) 0 (λ z. omega arith))

    pub get_key_blank : max_path ≤ space → length s ≡ 0 → get_key s v space ≡ KeyAnswer.none
    unfolding search
    get_key_blank h z =
        key_search h
        ∙ cond_true (eqb (length s) 0) KeyAnswer.none (get_key_from max_path (fst_of s m) m.root v) (eq-eqb (length s) 0 z)
