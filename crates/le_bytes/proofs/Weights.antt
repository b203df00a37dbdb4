-- A number of up to 8 bytes, each with its weight: 256 ^ i for byte i.
--     le_take_lt      k bytes stand for a number below 256 ^ k
--     le_snoc         one byte more adds it with its weight
--     le_four         four bytes, each with its weight
--     le_eight        eight bytes, each with its weight
--     cut_eight       eight bytes, shifted up and down again, are the lowest k of them
--     le_padded       bytes before zeros stand for what they stand for alone
-- Assumes nothing.
use mathlib.Core.Path.{◌≡◌, sym, ◌∙◌}
use mathlib.Core.List.{List, [], ◌∷◌, ◌++◌}
use Prim.Native.Nat.{ℕ, zero, suc, ◌+◌, ◌-◌, ◌*◌, ◌/◌, ◌%◌, ◌^◌, ◌≤◌, ◌<◌}
use native.Mathlib.Nat.{pow-suc, mul_assoc, mul_comm, mul-mod_left, mod-eq_of_lt, add-mul-mod_self_left, add-zero}
use native.Mathlib.Omega.{arith}
use lib.ListN.{length, get_or, take, drop, replicate, length-append, length-drop, length-replicate}
use lib.Pow.{mod-pow-add, shl-shr}
use lib.Seq.{get_or-take, length-take-le, take-nil, drop-nil, take-take, take_all, take_at, drop_at}
use Rattle.format.specs.Bytes.{le}
use Rattle.format.specs.Laws.BytesLaws.{le_lt, pow_256_pow_2}

-- k bytes stand for a number below 256 ^ k
pub le_take_lt : (s : List ℕ) (k : ℕ) → k ≤ length s → ((i : ℕ) → get_or s i 0 < 256) → le (take k s) < 256 ^ k
le_take_lt s k h bytes =
    let len = length-take-le k s h in
    rw len at (le_lt (take k s) (λ i l. rw (get_or-take k s i 0 (omega arith)) (bytes i)))

-- one byte more adds it with its weight
pub le_snoc : (s : List ℕ) (i : ℕ) → i < length s → le (take (suc i) s) ≡ le (take i s) + get_or s i 0 * 256 ^ i
unfolding le
le_snoc [] i h = absurd (omega arith)
le_snoc (b ∷ s) zero h = omega arith
le_snoc (b ∷ s) (suc i) h =
    let e = le_snoc s i (omega arith) in
    let p : 256 ^ suc i ≡ 256 ^ i * 256 = pow-suc 256 i in
    let m : get_or s i 0 * (256 ^ i * 256) ≡ get_or s i 0 * 256 ^ i * 256 = sym (mul_assoc (get_or s i 0) (256 ^ i) 256) in
    rw (p, m) (omega (arith, e))

-- eight bytes, each with its weight
pub le_eight : (s : List ℕ) → 8 ≤ length s → le (take 8 s) ≡ get_or s 0 0 + get_or s 1 0 * 2 ^ 8 + get_or s 2 0 * 2 ^ 16 + get_or s 3 0 * 2 ^ 24
    + get_or s 4 0 * 2 ^ 32 + get_or s 5 0 * 2 ^ 40 + get_or s 6 0 * 2 ^ 48 + get_or s 7 0 * 2 ^ 56
unfolding le
le_eight s h =
    let e0 = le_snoc s 0 (omega arith) in
    let e1 = le_snoc s 1 (omega arith) in
    let e2 = le_snoc s 2 (omega arith) in
    let e3 = le_snoc s 3 (omega arith) in
    let e4 = le_snoc s 4 (omega arith) in
    let e5 = le_snoc s 5 (omega arith) in
    let e6 = le_snoc s 6 (omega arith) in
    let e7 = le_snoc s 7 (omega arith) in
    omega arith

-- four bytes, each with its weight
pub le_four : (s : List ℕ) → 4 ≤ length s → le (take 4 s) ≡ get_or s 0 0 + get_or s 1 0 * 2 ^ 8 + get_or s 2 0 * 2 ^ 16 + get_or s 3 0 * 2 ^ 24
unfolding le
le_four s h =
    let e0 = le_snoc s 0 (omega arith) in
    let e1 = le_snoc s 1 (omega arith) in
    let e2 = le_snoc s 2 (omega arith) in
    let e3 = le_snoc s 3 (omega arith) in
    omega arith

-- a shift up by k of a word of j + k bits and back down drops all but the j lowest bits
pub shift_pair : (v j k : ℕ) → (v * 2 ^ k) % 2 ^ (j + k) / 2 ^ k ≡ v % 2 ^ j
shift_pair v j k =
    rw (mod-pow-add (v * 2 ^ k) j k, shl-shr v k, mul-mod_left v (2 ^ k), add-zero) (shl-shr (v % 2 ^ j) k)

-- the bytes before k, and those from k on with their weight
le_split : (l : List ℕ) (k : ℕ) → le l ≡ le (take k l) + 256 ^ k * le (drop k l)
unfolding le
le_split [] k = rw (take-nil k, drop-nil k) (omega arith)
le_split (b ∷ l) zero = omega arith
le_split (b ∷ l) (suc k) =
    let e = le_split l k in
    let p : 256 ^ suc k ≡ 256 * 256 ^ k = pow-suc 256 k ∙ mul_comm (256 ^ k) 256 in
    let m : 256 * 256 ^ k * le (drop k l) ≡ 256 * (256 ^ k * le (drop k l)) = mul_assoc 256 (256 ^ k) (le (drop k l)) in
    rw (p, m) (omega (arith, e))

-- the number of more bytes, cut to k bytes
pub le_cut : (s : List ℕ) (k m : ℕ) → k ≤ m → m ≤ length s → ((i : ℕ) → get_or s i 0 < 256) → le (take m s) % 256 ^ k ≡ le (take k s)
le_cut s k m h l bytes =
    rw (le_split (take m s) k, take-take k m s h, add-mul-mod_self_left (le (take k s)) (256 ^ k) (le (drop k (take m s))))
    (mod-eq_of_lt (le_take_lt s k (omega arith) bytes))

-- eight bytes shifted up and down are the k lowest of them
pub cut_eight : (s : List ℕ) (k above : ℕ) → k ≤ 8 → above ≡ 64 - 8 * k → 8 ≤ length s → ((i : ℕ) → get_or s i 0 < 256)
    → (le (take 8 s) * 2 ^ above) % 2 ^ 64 / 2 ^ above ≡ le (take k s)
cut_eight s k above h ea l bytes =
    let e : 8 * k + above ≡ 64 = omega arith in
    let p = shift_pair (le (take 8 s)) (8 * k) above in
    (rw e at p) ∙ (rw (← pow_256_pow_2 k)) ∙ le_cut s k 8 h l bytes

-- ---- bytes before zeros

zeros_nothing : (n k : ℕ) → le (drop k (replicate n 0)) ≡ 0
unfolding le
zeros_nothing zero k = rw (drop-nil k)
zeros_nothing (suc n) zero = omega (arith, zeros_nothing n 0)
zeros_nothing (suc n) (suc k) = zeros_nothing n k

-- k bytes before zeros, eight in all
pub le_padded : (s : List ℕ) (k : ℕ) → k ≤ 8 → k ≤ length s → le (take 8 (take k s ++ drop k (replicate 8 0))) ≡ le (take k s)
le_padded s k h l =
    let len = length-take-le k s l in
    let whole : length (take k s ++ drop k (replicate 8 0)) ≡ 8 =
    length-append (take k s) (drop k (replicate 8 0)) ∙ rw (len, length-drop, length-replicate) (omega arith) in
    rw (take_all 8 (take k s ++ drop k (replicate 8 0)) (omega arith))
    (rw (le_split (take k s ++ drop k (replicate 8 0)) k)
    (rw (take_at (take k s) (drop k (replicate 8 0)) k len, drop_at (take k s) (drop k (replicate 8 0)) k len, zeros_nothing 8 k) (omega arith)))
