-- A number's decimal digits, counted and then written from the last up.
--     digits k n      the k lowest digits of n, the highest first
-- Assumes nothing.
use mathlib.Core.Path.{◌≡◌, refl, sym, ap, ◌∙◌}
use mathlib.Core.List.{List, [], ◌∷◌, ◌++◌}
use Prim.Native.Nat.{ℕ, zero, suc, ◌+◌, ◌-◌, ◌*◌, ◌/◌, ◌%◌, ◌^◌, ◌≤◌, ◌<◌}
use native.Mathlib.Omega.{arith}
use lib.ListN.{length, set, length-append, length-set}
use Rattle.buffers.specs.Put.{put, PutAt}
use Rattle.buffers.specs.PutLaws.{put_nil}
use Rattle.listing_lines.specs.Lines.{decimal_up_to, decimal}
use Rattle.listing_lines.specs.LinesLaws.{Ways, few, many, ways, decimal_none, decimal_more, decimal_one, pow_10_suc}
use Rattle.listing_lines.proofs.LineParts.{put_before}

-- ---- counted

ten_pos : (j : ℕ) → 1 ≤ 10 ^ j
ten_pos zero = omega arith
ten_pos (suc j) = let p = pow_10_suc j in let rest = ten_pos j in omega arith

-- a number has a digit more than the highest power of ten that is not above it
counted_up_to : (k j n : ℕ) → j < k → n < 10 * 10 ^ j → (0 < j → 10 ^ j ≤ n) → length (decimal_up_to k n) ≡ j + 1
counted_up_to zero j n l high low = absurd (omega arith)
counted_up_to (suc k) zero n l high low = omega (arith, ap length (decimal_one k n (omega arith)))
counted_up_to (suc k) (suc j) n l high low =
    let p = pow_10_suc j in
    let pos : 1 ≤ 10 ^ j = ten_pos j in
    let at : 10 ^ suc j ≤ n = low (omega arith) in
    let rest = counted_up_to k j (n / 10) (omega arith) (omega arith) (λ _. omega arith) in
    omega (arith, ap length (decimal_more k n (omega arith)), length-append (decimal_up_to k (n / 10)) ((48 + n % 10) ∷ []), rest)

pub counted : (j n : ℕ) → j < 20 → n < 10 * 10 ^ j → (0 < j → 10 ^ j ≤ n) → j + 1 ≡ length (decimal n)
unfolding decimal
counted j n l high low = sym (counted_up_to 20 j n l high low)

-- ---- written

unfoldable pub digits : ℕ → ℕ → List ℕ
digits zero n = []
digits (suc k) n = digits k (n / 10) ++ ((48 + n % 10) ∷ [])

length_digits : (k n : ℕ) → length (digits k n) ≡ k
unfolding digits
length_digits zero n = refl
length_digits (suc k) n = omega (arith, length-append (digits k (n / 10)) ((48 + n % 10) ∷ []), length_digits k (n / 10))

decimal_up_to_digits : (k n : ℕ) → digits (length (decimal_up_to k n)) n ≡ decimal_up_to k n
unfolding digits
decimal_up_to_digits zero n = rw (decimal_none n)
decimal_up_to_digits (suc k) n = go (ways n) (decimal_up_to_digits k (n / 10))
  where
    go : Ways n → digits (length (decimal_up_to k (n / 10))) (n / 10) ≡ decimal_up_to k (n / 10)
        → digits (length (decimal_up_to (suc k) n)) n ≡ decimal_up_to (suc k) n
    go (few h) rest = let e : n % 10 ≡ n = omega arith in rw (decimal_one k n h, e)
    go (many h) rest =
        let l : length (decimal_up_to k (n / 10) ++ ((48 + n % 10) ∷ [])) ≡ suc (length (decimal_up_to k (n / 10))) =
        omega (arith, length-append (decimal_up_to k (n / 10)) ((48 + n % 10) ∷ [])) in
        rw (decimal_more k n h, l, rest)

decimal_digits : (n : ℕ) → digits (length (decimal n)) n ≡ decimal n
unfolding decimal
decimal_digits n = decimal_up_to_digits 20 n

digits_step : (k n : ℕ) → 0 < k → digits k n ≡ digits (k - 1) (n / 10) ++ ((48 + n % 10) ∷ [])
unfolding digits
digits_step zero n h = absurd (omega arith)
digits_step (suc k) n h = let e : suc k - 1 ≡ k = omega arith in rw e

-- what is left to write, the `left` lowest digits of rest, makes of out what the whole makes of out₀
pub record Filling (out₀ : List ℕ) (at n : ℕ) (out : List ℕ) (rest left : ℕ) : Type 0 where
  pub len : length out ≡ length out₀
  pub room : at + left ≤ length out
  pub same : put out at (digits left rest) ≡ put out₀ at (decimal n)

pub filling_none : (out₀ : List ℕ) (at n count : ℕ) → count ≡ length (decimal n) → at + length (decimal n) ≤ length out₀
    → Filling out₀ at n out₀ n count
filling_none out₀ at n count is_count fits = record {
  len = refl;
  room = omega arith;
  same = rw (is_count, decimal_digits);
}

pub filling_step : {out₀ : List ℕ} {at n : ℕ} {out : List ℕ} {rest left : ℕ} → 0 < left → Filling out₀ at n out rest left
    → Filling out₀ at n (set out (at + (left - 1)) (48 + rest % 10)) (rest / 10) (left - 1)
filling_step {out₀} {at} {n} {out} {rest} {left} pos w =
    let room = w.room in
    let d : ℕ = 48 + rest % 10 in
    let v : List ℕ = digits (left - 1) (rest / 10) in
    let l : length v ≡ left - 1 = length_digits (left - 1) (rest / 10) in
    let before : put (set out (at + (left - 1)) d) at v ≡ put out at (v ++ (d ∷ [])) =
    rw l at (put_before out at v d (omega arith)) in
    record {
      len = length-set out (at + (left - 1)) d ∙ w.len;
      room = omega (arith, length-set out (at + (left - 1)) d);
      same = before ∙ ap (put out at) (sym (digits_step left rest pos)) ∙ w.same;
    }

pub filling_all : {out₀ : List ℕ} {at n : ℕ} {out : List ℕ} {rest left : ℕ} (count : ℕ) → count ≡ length (decimal n) → left ≤ 0
    → Filling out₀ at n out rest left → PutAt out₀ at (decimal n) out (at + count)
unfolding digits
filling_all {out₀} {at} {n} {out} {rest} {left} count is_count none w =
    let z : left ≡ 0 = omega arith in
    let same : put out at (digits 0 rest) ≡ put out₀ at (decimal n) = rw z at w.same in
    record { is = sym (put_nil out at) ∙ same; next = rw is_count }
