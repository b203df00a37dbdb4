-- The largest of a list, from its front on: what a turn of each loop knows.
-- Assumes nothing.
use Rattle.std.specs.Prelude.{◌≡◌, Bool, true, false, cond, List, ◌∷◌, ℕ, ◌+◌, ◌≤◌, ◌<◌, ltb, length, get_or, drop}
use Rattle.std.proofs.Common.{refl, add-one, max, arith, drop-cons, ltb-true, ltb-false}
use Rattle.std.proofs.lemmas.List.{drop_all}
use Rattle.format.specs.Bytes.{largest}

-- the larger of two, as the definition has it
pub larger_is : (n m : ℕ) → cond (ltb n m) m n ≡ max n m
larger_is n m = go (ltb n m) refl
  where
    go : (t : Bool) → ltb n m ≡ t → cond t m n ≡ max n m
    go true e = let l = ltb-true n m e in omega arith
    go false e = let l = ltb-false n m e in omega arith

pub largest_cons : (n : ℕ) (ns : List ℕ) → largest (n ∷ ns) ≡ max n (largest ns)
unfolding largest
largest_cons n ns = larger_is n (largest ns)

-- m is the largest of the first i numbers
pub record LargestTo (ns : List ℕ) (m i : ℕ) : Type 0 where
  pub is : max m (largest (drop i ns)) ≡ largest ns

pub largest_none : (ns : List ℕ) → LargestTo ns 0 0
largest_none ns = record { is = omega arith }

pub largest_step : {ns : List ℕ} {m i : ℕ} (m' x : ℕ) → i < length ns → x ≡ get_or ns i 0 → m' ≡ max m x → LargestTo ns m i
    → LargestTo ns m' (i + 1)
largest_step {ns} {m} {i} m' x l is_x is_m w =
    let d : drop i ns ≡ x ∷ drop (i + 1) ns = rw (add-one, is_x) (drop-cons ns i 0 l) in
    let e = rw (d, largest_cons) at w.is in
    record { is = omega (arith, e) }

pub largest_all : {ns : List ℕ} {m i : ℕ} → length ns ≤ i → LargestTo ns m i → m ≡ largest ns
unfolding largest
largest_all {ns} {m} {i} past w = let e = rw (drop_all i ns past) at w.is in omega (arith, e)
