-- The largest of a list, from its end down: what a turn of such a loop knows.
-- Assumes nothing.
use mathlib.Core.Path.{◌≡◌, ◌∙◌}
use mathlib.Core.Bool.{cond}
use mathlib.Core.List.{List, ◌∷◌}
use Prim.Native.Nat.{ℕ, suc, ◌-◌, ◌≤◌, ◌<◌}
use native.Mathlib.Omega.{arith}
use lib.Dec.{ltb}
use lib.ListN.{length, get_or, drop}
use lib.Seq.{drop-cons, drop-length}
use Rattle.format.specs.Bytes.{largest}

-- m is the largest of the numbers from i on
pub record LargestFrom (ns : List ℕ) (m i : ℕ) : Type 0 where
  pub within : i ≤ length ns
  pub is : m ≡ largest (drop i ns)

pub largest_none : (ns : List ℕ) (n : ℕ) → n ≡ length ns → LargestFrom ns 0 n
unfolding largest
largest_none ns n all = record { within = omega arith; is = rw (all, drop-length) }

-- x stands before them, and m' is the larger of the two
pub largest_step : {ns : List ℕ} {m i : ℕ} (m' x : ℕ) → 0 < i → x ≡ get_or ns (i - 1) 0 → m' ≡ cond (ltb x m) m x → LargestFrom ns m i
    → LargestFrom ns m' (i - 1)
unfolding largest
largest_step {ns} {m} {i} m' x pos is_x is_m w =
    let within = w.within in
    let e : suc (i - 1) ≡ i = omega arith in
    let d : drop (i - 1) ns ≡ x ∷ drop i ns = drop-cons ns (i - 1) 0 (omega arith) ∙ rw (e, is_x) in
    record { within = omega arith; is = rw (d, ← w.is) is_m }

pub largest_all : {ns : List ℕ} {m i : ℕ} → i ≤ 0 → LargestFrom ns m i → m ≡ largest ns
largest_all {ns} {m} {i} none w = let z : i ≡ 0 = omega arith in w.is ∙ rw z

-- the largest of a number and a list
pub largest_cons : (n : ℕ) (ns : List ℕ) (m l : ℕ) → m ≡ largest ns → l ≡ cond (ltb n m) m n → l ≡ largest (n ∷ ns)
unfolding largest
largest_cons n ns m l is_m is_l = rw (← is_m) is_l
