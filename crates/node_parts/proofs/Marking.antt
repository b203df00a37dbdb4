-- The index filled with 255 and then marked, one input after the other.
--     run v bs k      v after the loop's first k turns: the loop itself, as a function on lists
-- Assumes nothing.
use mathlib.Core.Path.{◌≡◌, refl, sym, ◌∙◌}
use mathlib.Core.Bool.{Bool, true, false}
use mathlib.Core.Logic.{◌⊎◌, inl, inr, ⊎_elim}
use mathlib.Core.List.{List}
use Prim.Native.Nat.{ℕ, zero, suc, ◌+◌, ◌≤◌, ◌<◌}
use native.Mathlib.Nat.{eq-or-lt_of_le, le_of_suc-le-suc, le_refl, zero-add}
use native.Mathlib.Numerals.{add-one}
use native.Mathlib.Omega.{arith}
use borrow.Author.Tests.{eqb-true, eqb-false}
use lib.Dec.{eqb}
use lib.ListN.{length, get_or, set, replicate, length-set, length-replicate, get_or-replicate}
use lib.Seq.{get_or-set_same, get_or-set_other, ext_get_or}
use Rattle.format.specs.Node.{Ascending, Absent}
use Rattle.format.specs.Laws.TransitionLaws.{ascends_lt}
use Rattle.format.specs.Packed.{index_of}
use Rattle.format.specs.Laws.PackedLaws.{length_index_of, get_d_index_of, place_absent, place_first}

abbrev pub run : List ℕ → List ℕ → ℕ → List ℕ
run v bs zero = v
run v bs (suc k) = set (run v bs k) (get_or bs k 0) k

length_run : (v bs : List ℕ) (k : ℕ) → length (run v bs k) ≡ length v
length_run v bs zero = refl
length_run v bs (suc k) = length-set (run v bs k) (get_or bs k 0) k ∙ length_run v bs k

abbrev pub blank : List ℕ
blank = replicate 256 255

length_blank : length blank ≡ 256
length_blank = length-replicate {A = ℕ} 256 255

-- ---- a turn

pub record Marked (bs index : List ℕ) (i : ℕ) : Type 0 where
  pub within : i ≤ length bs
  pub is : index ≡ run blank bs i

pub marked_none : (bs : List ℕ) → Marked bs blank 0
marked_none bs = record { within = omega arith; is = refl }

pub marked_step : {bs index : List ℕ} {i : ℕ} (x : ℕ) → x ≡ get_or bs i 0 → i < length bs → Marked bs index i → Marked bs (set index x i) (i + 1)
marked_step {bs} {index} {i} x is_x l m = record { within = omega arith; is = rw (add-one, m.is, is_x) }

-- ---- what the loop leaves

run_other : (v bs : List ℕ) (k b : ℕ) → ((j : ℕ) → j < k → ¬ (get_or bs j 0 ≡ b)) → get_or (run v bs k) b 0 ≡ get_or v b 0
run_other v bs zero b h = refl
run_other v bs (suc k) b h =
    get_or-set_other (run v bs k) (get_or bs k 0) b k 0 (λ q. h k (omega arith) (sym q)) ∙ run_other v bs k b (λ j l. h j (omega arith))

-- among the first k bytes, b stands somewhere or nowhere
find_or : (bs : List ℕ) (b k : ℕ) → ((j : ℕ) × (j < k) × (get_or bs j 0 ≡ b)) ⊎ ((j : ℕ) → j < k → ¬ (get_or bs j 0 ≡ b))
find_or bs b zero = inr (λ j l e. omega arith)
find_or bs b (suc k) = go (eqb (get_or bs k 0) b) refl (find_or bs b k)
  where
    go : (t : Bool) → eqb (get_or bs k 0) b ≡ t → ((j : ℕ) × (j < k) × (get_or bs j 0 ≡ b)) ⊎ ((j : ℕ) → j < k → ¬ (get_or bs j 0 ≡ b))
        → ((j : ℕ) × (j < suc k) × (get_or bs j 0 ≡ b)) ⊎ ((j : ℕ) → j < suc k → ¬ (get_or bs j 0 ≡ b))
    go true e r = inl (k, omega arith, eqb-true (get_or bs k 0) b e)
    go false e (inl (j, l, is)) = inl (j, omega arith, is)
    go false e (inr none) =
        inr (λ j l. ⊎_elim (λ q is. eqb-false (get_or bs k 0) b e (rw (← q) is)) (λ m. none j m) (eq-or-lt_of_le (le_of_suc-le-suc l)))

module _ (bs : List ℕ) (asc : Ascending bs) (bytes : (i : ℕ) → i < length bs → get_or bs i 0 < 256) where
  -- no later input overwrites a place
  run_place : (v : List ℕ) (k j : ℕ) → length v ≡ 256 → k ≤ length bs → j < k → get_or (run v bs k) (get_or bs j 0) 0 ≡ j
  run_place v zero j len h l = absurd (omega arith)
  run_place v (suc k) j len h l = go (run_place v k j len (omega arith)) (eq-or-lt_of_le (le_of_suc-le-suc l))
    where
      go : (j < k → get_or (run v bs k) (get_or bs j 0) 0 ≡ j) → (j ≡ k) ⊎ (j < k) → get_or (run v bs (suc k)) (get_or bs j 0) 0 ≡ j
      go ih (inl is) = rw is (get_or-set_same (run v bs k) (get_or bs k 0) k 0 (omega (arith, length_run v bs k, bytes k (omega arith))))
      go ih (inr m) =
          get_or-set_other (run v bs k) (get_or bs k 0) (get_or bs j 0) k 0 (λ q. omega (arith, ascends_lt bs asc j k m (omega arith))) ∙ ih m

  run_all : run blank bs (length bs) ≡ index_of bs
  unfolding Absent
  run_all = ext_get_or 0 (run blank bs (length bs)) (index_of bs) (len ∙ sym (length_index_of bs)) (λ b l. at b (omega (arith, len)) (find_or bs b (length bs)))
    where
      len : length (run blank bs (length bs)) ≡ 256
      len = length_run blank bs (length bs) ∙ length_blank

      at : (b : ℕ) → b < 256 → ((j : ℕ) × (j < length bs) × (get_or bs j 0 ≡ b)) ⊎ ((j : ℕ) → j < length bs → ¬ (get_or bs j 0 ≡ b))
          → get_or (run blank bs (length bs)) b 0 ≡ get_or (index_of bs) b 0
      at b h (inl (j, l, is)) =
          let first = place_first 0 bs b j l is (λ k m q. omega (arith, ascends_lt bs asc k j m l)) in
          let here = run_place blank (length bs) j length_blank (le_refl (length bs)) l in
          (rw is at here) ∙ sym (get_d_index_of bs b h ∙ first ∙ zero-add j)
      at b h (inr none) =
          run_other blank bs (length bs) b none ∙ get_or-replicate 256 b 255 0 h ∙ sym (get_d_index_of bs b h ∙ place_absent 0 bs b none)

  pub marked_all : {index : List ℕ} {i : ℕ} → length bs ≤ i → Marked bs index i → index ≡ index_of bs
  marked_all {index} {i} past m = let e : i ≡ length bs = omega (arith, m.within) in m.is ∙ (rw e) ∙ run_all
