-- Deltas judged: one by one, or all at once by a bound of them.
-- Assumes nothing.
use mathlib.Core.Path.{◌≡◌, refl, sym}
use mathlib.Core.Bool.{Bool, true, false}
use mathlib.Core.List.{List}
use Prim.Native.Nat.{ℕ, suc, ◌+◌, ◌-◌, ◌*◌, ◌^◌, ◌≤◌, ◌<◌}
use native.Mathlib.Nat.{le_trans, le_refl}
use native.Mathlib.Omega.{arith}
use borrow.Author.Count.{below_more}
use borrow.Author.Tests.{eqb-true, eqb-false}
use lib.Dec.{eqb}
use lib.ListN.{length, get_or, take, drop, length-drop}
use lib.Seq.{get_or-take, get_or-drop, drop-cons, length-take-le}
use Rattle.format.specs.Bytes.{le}
use Rattle.format.specs.Laws.BytesLaws.{le_lt}
use Rattle.format.specs.Node.{numbers_down, target_of, TargetRight, TargetsRight}
use Rattle.format.specs.Laws.StoredLaws.{length_numbers_down, get_d_numbers_down, offset_le}
use Rattle.node_deltas.specs.Deltas.{AtMost}

-- ---- one delta

pub target_near : (first d : ℕ) → 16 ≤ first → d ≤ first - 16 → TargetRight first d
target_near first d low near = go (eqb d 0) refl
  where
    go : (t : Bool) → eqb d 0 ≡ t → TargetRight first d
    go true e =
        let z = eqb-true d 0 e in
        rw z (record { reach = omega arith; low = λ ne. absurd (ne refl); high = λ ne. absurd (ne refl) })
    go false e =
        let is : target_of first d ≡ first - d = rw e in
        let pos : ¬ (d ≡ 0) = eqb-false d 0 e in
        record { reach = omega arith; low = λ _. omega arith; high = λ _. omega arith }

-- ---- all deltas at once

pub near_right : {s : List ℕ} {at k n first : ℕ} → 16 ≤ first → AtMost s at k n (first - 16) → TargetsRight first (numbers_down s at k n)
unfolding TargetsRight
near_right {s} {at} {k} {n} {first} low most i l =
    let few : i < n = omega (arith, length_numbers_down s at k n) in
    rw (get_d_numbers_down s at k n i few) (target_near first (le (take k (drop (at + (n - 1 - i) * k) s))) low (most.each (n - 1 - i) (omega arith)))

-- numbers of k bytes are below 256 ^ k
pub at_most_size : (s : List ℕ) (at k n m : ℕ) → ((i : ℕ) → get_or s i 0 < 256) → at + n * k ≤ length s → 256 ^ k ≤ m + 1 → AtMost s at k n m
at_most_size s at k n m bytes room reach = record { each = each }
  where
    each : (j : ℕ) → j < n → le (take k (drop (at + j * k) s)) ≤ m
    each j l =
        let start : ℕ = at + j * k in
        let part : List ℕ = take k (drop start s) in
        let inside = offset_le j n k l in
        let len : length part ≡ k = length-take-le k (drop start s) (simp length-drop (omega arith)) in
        let small = le_lt part (λ i h. rw (get_or-take k (drop start s) i 0 (omega arith), get_or-drop) (bytes (start + i))) in
        let below : le part < 256 ^ k = rw len at small in
        omega arith

-- ---- the largest, one number after the other

pub at_most_more : {s : List ℕ} {at k i m : ℕ} (d m' : ℕ) → d ≡ le (take k (drop (at + i * k) s)) → m ≤ m' → d ≤ m' → AtMost s at k i m
    → AtMost s at k (i + 1) m'
at_most_more {s} {at} {k} {i} {m} d m' is_d h g a =
    record { each = below_more (λ j. le (take k (drop (at + j * k) s)) ≤ m') i (λ j l. le_trans (a.each j l) h) (rw (← is_d) g) }

-- ---- numbers of a few bytes

-- the byte at p, and those after it
number_step : (s : List ℕ) (p q k : ℕ) → p + suc k ≤ length s → q ≡ p + 1 → le (take (suc k) (drop p s)) ≡ get_or s p 0 + 256 * le (take k (drop q s))
unfolding le
number_step s p q k h is_q = let e : suc p ≡ q = omega arith in rw (drop-cons s p 0 (omega arith), e)

number_zero : (s : List ℕ) (p : ℕ) → le (take 0 (drop p s)) ≡ 0
unfolding le
number_zero s p = refl

pub number_one : (s : List ℕ) (p : ℕ) → p + 1 ≤ length s → le (take 1 (drop p s)) ≡ get_or s p 0
number_one s p h = omega (arith, number_step s p (p + 1) 0 h refl, number_zero s (p + 1))

pub number_two : (s : List ℕ) (p : ℕ) → p + 2 ≤ length s → le (take 2 (drop p s)) ≡ get_or s p 0 + get_or s (p + 1) 0 * 256
number_two s p h = omega (arith, number_step s p (p + 1) 1 h refl, number_one s (p + 1) (omega arith))

-- number i of one byte, and of two, as the code reads them
pub byte_is : (s : List ℕ) (at w i : ℕ) → i < w → at + i < length s → get_or (take w (drop at s)) i 0 ≡ le (take 1 (drop (at + i * 1) s))
byte_is s at w i l h =
    let e : at + i * 1 ≡ at + i = omega arith in
    rw (get_or-take w (drop at s) i 0 l, get_or-drop, e) (sym (number_one s (at + i) (omega arith)))

pub two_is : (s : List ℕ) (at i x y : ℕ) → at + i * 2 + 2 ≤ length s → x ≡ get_or s (at + i * 2) 0 → y ≡ get_or s (at + i * 2 + 1) 0
    → x + y * 256 ≡ le (take 2 (drop (at + i * 2) s))
two_is s at i x y h is_x is_y = omega (arith, number_two s (at + i * 2) h)

-- ---- numbers of 3 bytes, each read with the byte before it

-- the first n numbers are at most most / 256
pub record Most3 (s : List ℕ) (at n most : ℕ) : Type 0 where
  pub each : (j : ℕ) → j < n → le (take 3 (drop (at + j * 3) s)) * 256 ≤ most

-- one number more, which is read from the byte before it
pub most3_more : {s : List ℕ} {at n most : ℕ} (p x most' : ℕ) → p + 1 ≡ at + n * 3 → p + 4 ≤ length s → x ≡ le (take 4 (drop p s)) → most ≤ most'
    → x ≤ most' → Most3 s at n most → Most3 s at (n + 1) most'
most3_more {s} {at} {n} {most} p x most' place room is_x up over m =
    record { each = below_more (λ j. le (take 3 (drop (at + j * 3) s)) * 256 ≤ most') n (λ j l. le_trans (m.each j l) up) last }
  where
    last : le (take 3 (drop (at + n * 3) s)) * 256 ≤ most'
    last = omega (arith, number_step s p (at + n * 3) 3 (omega arith) (omega arith))

pub most3_four : {s : List ℕ} {at n most : ℕ} (p x y z w most' : ℕ) → p + 1 ≡ at + n * 3 → p + 13 ≤ length s → x ≡ le (take 4 (drop p s))
    → y ≡ le (take 4 (drop (p + 3) s)) → z ≡ le (take 4 (drop (p + 6) s)) → w ≡ le (take 4 (drop (p + 9) s)) → most ≤ most' → x ≤ most' → y ≤ most'
    → z ≤ most' → w ≤ most' → Most3 s at n most → Most3 s at (n + 4) most'
most3_four {s} {at} {n} {most} p x y z w most' place room is_x is_y is_z is_w up ox oy oz ow m =
    let a = most3_more p x most' place (omega arith) is_x up ox m in
    let b = most3_more (p + 3) y most' (omega arith) (omega arith) is_y (le_refl most') oy a in
    let c = most3_more (p + 6) z most' (omega arith) (omega arith) is_z (le_refl most') oz b in
    let e : n + 1 + 1 + 1 + 1 ≡ n + 4 = omega arith in
    rw e at (most3_more (p + 9) w most' (omega arith) (omega arith) is_w (le_refl most') ow c)

-- ---- the loop

pub right_all : (s : List ℕ) (at k n first i : ℕ) → n ≤ i → ((j : ℕ) → j < i → TargetRight first (get_or (numbers_down s at k n) j 0))
    → TargetsRight first (numbers_down s at k n)
unfolding TargetsRight
right_all s at k n first i past right j l = right j (omega (arith, length_numbers_down s at k n))

pub not_right : (s : List ℕ) (at k n first i d : ℕ) → d ≡ get_or (numbers_down s at k n) i 0 → i < n → ¬ TargetRight first d
    → ¬ TargetsRight first (numbers_down s at k n)
unfolding TargetsRight
not_right s at k n first i d is_d l ne all = ne (rw is_d (all i (omega (arith, length_numbers_down s at k n))))
