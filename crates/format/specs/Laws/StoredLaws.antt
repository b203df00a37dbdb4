-- Laws of what is stored last first (`Node`: down_from, bytes_down, numbers_down), and of the part of a file from a place on.
-- Assumes nothing.
use Rattle.std.specs.Prelude.{◌≡◌, refl, List, [], ◌∷◌, ℕ, zero, suc, ◌+◌, ◌-◌, ◌*◌, ◌≤◌, ◌<◌, length, get_or, take, drop}
use Rattle.std.proofs.Common.{ap, ◌∙◌, mul-le-mul_right, suc-mul, arith, length-drop, take_all}
use Rattle.format.specs.Bytes.{le}
use Rattle.format.specs.Node.{down_from, bytes_down, numbers_down}

pub length_down_from : (f : ℕ → ℕ) (n : ℕ) → length (down_from f n) ≡ n
unfolding down_from
length_down_from f zero = refl
length_down_from f (suc n) = ap suc (length_down_from f n)

pub get_d_down_from : (f : ℕ → ℕ) (n i : ℕ) → i < n → get_or (down_from f n) i 0 ≡ f (n - 1 - i)
unfolding down_from
get_d_down_from f zero i h = absurd (omega arith)
get_d_down_from f (suc n) zero h = let e : suc n - 1 - 0 ≡ n = omega arith in rw e
get_d_down_from f (suc n) (suc i) h = let e : suc n - 1 - suc i ≡ n - 1 - i = omega arith in get_d_down_from f n i (omega arith) ∙ rw e

pub length_bytes_down : (s : List ℕ) (at n : ℕ) → length (bytes_down s at n) ≡ n
unfolding bytes_down
length_bytes_down s at n = length_down_from (λ j. get_or s (at + j) 0) n

pub get_d_bytes_down : (s : List ℕ) (at n i : ℕ) → i < n → get_or (bytes_down s at n) i 0 ≡ get_or s (at + (n - 1 - i)) 0
unfolding bytes_down
get_d_bytes_down s at n i h = get_d_down_from (λ j. get_or s (at + j) 0) n i h

pub length_numbers_down : (s : List ℕ) (at k n : ℕ) → length (numbers_down s at k n) ≡ n
unfolding numbers_down
length_numbers_down s at k n = length_down_from (λ j. le (take k (drop (at + j * k) s))) n

pub get_d_numbers_down : (s : List ℕ) (at k n i : ℕ) → i < n → get_or (numbers_down s at k n) i 0 ≡ le (take k (drop (at + (n - 1 - i) * k) s))
unfolding numbers_down
get_d_numbers_down s at k n i h = get_d_down_from (λ j. le (take k (drop (at + j * k) s))) n i h

-- number j of n numbers of k bytes ends within them
pub offset_le : (j n k : ℕ) → j < n → j * k + k ≤ n * k
offset_le j n k h = let e = suc-mul j k in let m : suc j * k ≤ n * k = mul-le-mul_right k h in omega arith

-- the part `&s[i..]`, as the code has it
pub part_rest : (s : List ℕ) (i : ℕ) → take (length s - i) (drop i s) ≡ drop i s
part_rest s i = take_all (length s - i) (drop i s) (simp length-drop (omega arith))
