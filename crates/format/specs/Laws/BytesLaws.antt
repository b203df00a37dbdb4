-- Laws of `Bytes`: numbers as bytes, the size of a number, the largest of a list.
-- Assumes nothing.
use Rattle.std.specs.Prelude.{◌≡◌, refl, Bool, true, false, cond, List, [], ◌∷◌, ℕ, zero, suc, ◌+◌, ◌-◌, ◌*◌, ◌/◌, ◌%◌, ◌^◌, ◌≤◌, ◌<◌, ltb, length, get_or, drop}
use Rattle.std.proofs.Common.{sym, ap, ◌∙◌, pow-suc, div-lt_iff_lt-mul, add_comm, zero-lt-suc, mul_comm, sub-add_cancel, le_antisymm, le_trans, not-le_of_lt, lt_of_not-le, add-one, sub-one, arith, ltb-true, ltb-false, drop-cons, pow-add}
use Rattle.std.proofs.Math.Nat.{pow-le-pow_right, div-add-mod}
use Rattle.format.specs.Bytes.{le, bytes_of, size_up_to, pack_size, SizeOf, largest}

-- 256 ^ k: one byte more, and the order
pub pow_256_suc : (k : ℕ) → 256 ^ (k + 1) ≡ 256 * 256 ^ k
pow_256_suc k = rw (add-one, pow-suc, mul_comm)

pub pow_256_le : {j k : ℕ} → j ≤ k → 256 ^ j ≤ 256 ^ k
pow_256_le h = pow-le-pow_right (zero-lt-suc 255) h

pub pow_256_pow_2 : (k : ℕ) → 256 ^ k ≡ 2 ^ (8 * k)
pow_256_pow_2 zero = refl
pow_256_pow_2 (suc k) =
    let e : 8 * suc k ≡ 8 * k + 8 = omega arith in
    rw (e, pow-add 2 (8 * k) 8, pow-suc, pow_256_pow_2 k)

-- the bytes from place i on: the one at i and those after it
pub le_drop : (l : List ℕ) (i : ℕ) → i < length l → le (drop i l) ≡ get_or l i 0 + 256 * le (drop (i + 1) l)
unfolding le
le_drop l i h = rw (drop-cons l i 0, add-one)

-- a number of k bytes is below 256 ^ k
pub le_lt : (l : List ℕ) → ((i : ℕ) → i < length l → get_or l i 0 < 256) → le l < 256 ^ length l
unfolding le
le_lt [] h = omega arith
le_lt (b ∷ bs) h =
    let rest = le_lt bs (λ i l. h (suc i) (omega arith)) in
    let p = pow_256_suc (length bs) in
    let q : 256 ^ suc (length bs) ≡ 256 ^ (length bs + 1) = rw add-one in
    omega (arith, h 0 (omega arith))

pub length_bytes_of : (k n : ℕ) → length (bytes_of k n) ≡ k
unfolding bytes_of
length_bytes_of zero n = refl
length_bytes_of (suc k) n = ap suc (length_bytes_of k (n / 256))

pub bytes_of_step : (k n : ℕ) → 0 < k → bytes_of k n ≡ n % 256 ∷ bytes_of (k - 1) (n / 256)
unfolding bytes_of
bytes_of_step zero n h = absurd (omega arith)
bytes_of_step (suc k) n h = let e : suc k - 1 ≡ k = omega arith in rw e

-- the round trip: k bytes of a number that k bytes hold
pub le_bytes_of : (k n : ℕ) → n < 256 ^ k → le (bytes_of k n) ≡ n
unfolding le bytes_of
le_bytes_of zero n h = omega arith
le_bytes_of (suc k) n h =
    let p = pow_256_suc k in
    let q : 256 ^ suc k ≡ 256 ^ (k + 1) = rw add-one in
    let ih = le_bytes_of k (n / 256) (omega arith) in
    omega arith

-- ---- the size of a number

size_up_to_low : (more n : ℕ) → 1 ≤ size_up_to more n
unfolding size_up_to
size_up_to_low zero n = omega arith
size_up_to_low (suc more) n = go (ltb n 256)
  where
    go : (t : Bool) → 1 ≤ cond t 1 (size_up_to more (n / 256) + 1)
    go true = omega arith
    go false = omega arith

size_up_to_high : (more n : ℕ) → size_up_to more n ≤ more + 1
unfolding size_up_to
size_up_to_high zero n = omega arith
size_up_to_high (suc more) n = go (ltb n 256) (size_up_to_high more (n / 256))
  where
    go : (t : Bool) → size_up_to more (n / 256) ≤ more + 1 → cond t 1 (size_up_to more (n / 256) + 1) ≤ suc more + 1
    go true rest = omega arith
    go false rest = omega arith

-- a number from 256 on takes 2 bytes at least, and without its lowest byte it takes one less
div_256_lt : (n j : ℕ) → 256 ≤ n → n < 256 ^ j → (2 ≤ j) × (n / 256 < 256 ^ (j - 1))
div_256_lt n j big h =
    let two : 2 ≤ j = lt_of_not-le (λ g. not-le_of_lt h (le_trans (pow_256_le {j = j} {k = 1} g) big)) in
    let e : j - 1 + 1 ≡ j = omega arith in
    let p : 256 ^ j ≡ 256 * 256 ^ (j - 1) = rw e at (pow_256_suc (j - 1)) in
    (two, omega arith)

size_up_to_holds : (more n : ℕ) → n < 256 ^ (more + 1) → n < 256 ^ size_up_to more n
unfolding size_up_to
size_up_to_holds zero n h = h
size_up_to_holds (suc more) n h = go (ltb n 256) refl (size_up_to_holds more (n / 256))
  where
    go : (t : Bool) → ltb n 256 ≡ t → (n / 256 < 256 ^ (more + 1) → n / 256 < 256 ^ size_up_to more (n / 256))
        → n < 256 ^ cond t 1 (size_up_to more (n / 256) + 1)
    go true e rest = ltb-true n 256 e
    go false e rest =
        let s : suc more + 1 - 1 ≡ more + 1 = omega arith in
        let holds = rest (rw s at (div_256_lt n (suc more + 1) (ltb-false n 256 e) h).1) in
        omega (arith, pow_256_suc (size_up_to more (n / 256)))

size_up_to_least : (more n j : ℕ) → 1 ≤ j → n < 256 ^ j → size_up_to more n ≤ j
unfolding size_up_to
size_up_to_least zero n j l h = l
size_up_to_least (suc more) n j l h = go (ltb n 256) refl (size_up_to_least more (n / 256) (j - 1))
  where
    go : (t : Bool) → ltb n 256 ≡ t → (1 ≤ j - 1 → n / 256 < 256 ^ (j - 1) → size_up_to more (n / 256) ≤ j - 1)
        → cond t 1 (size_up_to more (n / 256) + 1) ≤ j
    go true e rest = l
    go false e rest =
        let less = div_256_lt n j (ltb-false n 256 e) h in
        let least = rest (omega arith) less.1 in
        omega arith

pub pack_size_low : (n : ℕ) → 1 ≤ pack_size n
unfolding pack_size
pack_size_low n = size_up_to_low 7 n

pub pack_size_high : (n : ℕ) → pack_size n ≤ 8
unfolding pack_size
pack_size_high n = size_up_to_high 7 n

-- the packer's count is the least that holds a number of 64 bits
pub size_of_pack : (n : ℕ) → n < 2 ^ 64 → SizeOf n (pack_size n)
unfolding pack_size
size_of_pack n h =
    record {
      low = size_up_to_low 7 n;
      high = size_up_to_high 7 n;
      holds = size_up_to_holds 7 n h;
      least = size_up_to_least 7 n;
    }

pub size_unique : {n j k : ℕ} → SizeOf n j → SizeOf n k → j ≡ k
size_unique {n} {j} {k} a b = le_antisymm (a.least k b.low b.holds) (b.least j a.low a.holds)

-- ---- the largest of a list

largest_head : (n : ℕ) (ns : List ℕ) → (n ≤ largest (n ∷ ns)) × (largest ns ≤ largest (n ∷ ns))
unfolding largest
largest_head n ns = go (ltb n (largest ns)) refl
  where
    go : (t : Bool) → ltb n (largest ns) ≡ t → (n ≤ cond t (largest ns) n) × (largest ns ≤ cond t (largest ns) n)
    go true e = let l = ltb-true n (largest ns) e in (omega arith, omega arith)
    go false e = let l = ltb-false n (largest ns) e in (omega arith, omega arith)

pub largest_ge : (ns : List ℕ) (i : ℕ) → i < length ns → get_or ns i 0 ≤ largest ns
largest_ge [] i h = absurd (omega arith)
largest_ge (n ∷ ns) zero h = (largest_head n ns).0
largest_ge (n ∷ ns) (suc i) h = omega (arith, largest_ge ns i (omega arith), (largest_head n ns).1)

pub largest_lt : (m : ℕ) (ns : List ℕ) → 0 < m → ((i : ℕ) → i < length ns → get_or ns i 0 < m) → largest ns < m
unfolding largest
largest_lt m [] pos h = pos
largest_lt m (n ∷ ns) pos h = go (ltb n (largest ns)) (largest_lt m ns pos (λ i l. h (suc i) (omega arith)))
  where
    go : (t : Bool) → largest ns < m → cond t (largest ns) n < m
    go true rest = rest
    go false rest = h 0 (omega arith)
