-- The lines of the listing program (document 01, "The lines of the listing program"), as lists of ASCII codes:
-- 10 newline, 32 space, 45 `-`, 48 to 57 `0` to `9`, 97 to 102 `a` to `f`.
--     hex_digit d              the digit of d, a number below 16
--     hex_of k                 the bytes of k in hexadecimal: two digits each, the high one first
--     key_text k               a key as a line has it: `-` for the empty key
--     decimal n               n in decimal, with no zero in front; `0` for 0
--     key_line k v             the line of the key k, whose value is v
--     end_line keys followed   the last line of a listing
--     refused_line why         the only line where the file is refused: `refused` and the refusal's number
--     longest_line             the bytes that the longest line takes
--     Written v out₀ out r    what writing the line v answers and leaves in a lent buffer
-- Read back, for the laws:
--     value_of ds              the number that the decimal digits ds stand for
--     from_hex ds              the bytes that the hexadecimal digits ds stand for
--     key_of t                 the key that a line has as t
--     DecimalOf n ds          ds are decimal digits that stand for n, with no zero in front
--     Bytes k                 every element of k is a byte
-- Assumes nothing.
use Rattle.std.specs.Prelude.{◌≡◌, cond, List, [], ◌∷◌, ◌++◌, ℕ, zero, suc, ◌+◌, ◌-◌, ◌*◌, ◌/◌, ◌%◌, ◌≤◌, ◌<◌, ltb, eqb, length, get_or, drop}
use Rattle.format.specs.declared.Refusal.{Refusal}
use Rattle.format.specs.Limits.{number}

-- ---- keys and numbers

-- 87 + 10 is `a`
unfoldable pub hex_digit : ℕ → ℕ
hex_digit d = cond (ltb d 10) (48 + d) (87 + d)

unfoldable pub hex_of : List ℕ → List ℕ
hex_of [] = []
hex_of (b ∷ bs) = hex_digit (b / 16) ∷ hex_digit (b % 16) ∷ hex_of bs

unfoldable pub key_text : List ℕ → List ℕ
key_text [] = 45 ∷ []
key_text (b ∷ bs) = hex_of (b ∷ bs)

-- n in at most k digits: those of n / 10, then the last one
unfoldable pub decimal_up_to : ℕ → ℕ → List ℕ
decimal_up_to zero n = []
decimal_up_to (suc k) n = cond (ltb n 10) ((48 + n) ∷ []) (decimal_up_to k (n / 10) ++ ((48 + n % 10) ∷ []))

-- 20 digits hold every number of 64 bits
unfoldable pub decimal : ℕ → List ℕ
decimal n = decimal_up_to 20 n

-- ---- lines

unfoldable pub key_line : List ℕ → ℕ → List ℕ
key_line k v = key_text k ++ (32 ∷ (decimal v ++ (10 ∷ [])))

-- `end `
unfoldable pub end_line : ℕ → ℕ → List ℕ
end_line keys followed = 101 ∷ 110 ∷ 100 ∷ 32 ∷ (decimal keys ++ (32 ∷ (decimal followed ++ (10 ∷ []))))

-- `refused `
unfoldable pub refused_line : Refusal → List ℕ
refused_line why = 114 ∷ 101 ∷ 102 ∷ 117 ∷ 115 ∷ 101 ∷ 100 ∷ 32 ∷ (decimal (number why) ++ (10 ∷ []))

-- ---- the buffer

-- 510 digits of a key, a space, 20 digits of a value, a newline
abbrev pub longest_line : ℕ
longest_line = 532

-- the line from the first byte on, the rest as given; no line is longer than the longest
pub record Written (v out₀ out : List ℕ) (r : ℕ) : Type 0 where
  pub buffer : out ≡ v ++ drop (length v) out₀
  pub answer : r ≡ length v
  pub short : r ≤ longest_line

-- ---- read back

-- Horner's rule: what the digits before stand for is taken tenfold
unfoldable pub value_from : ℕ → List ℕ → ℕ
value_from n [] = n
value_from n (d ∷ ds) = value_from (n * 10 + (d - 48)) ds

unfoldable pub value_of : List ℕ → ℕ
value_of ds = value_from 0 ds

-- the number that a hexadecimal digit stands for
unfoldable pub hex_value : ℕ → ℕ
hex_value d = cond (ltb d 97) (d - 48) (d - 87)

unfoldable pub from_hex : List ℕ → List ℕ
from_hex [] = []
from_hex (d ∷ []) = []
from_hex (d ∷ e ∷ ds) = (hex_value d * 16 + hex_value e) ∷ from_hex ds

unfoldable pub key_of : List ℕ → List ℕ
key_of t = cond (eqb (get_or t 0 0) 45) [] (from_hex t)

pub record DecimalOf (n : ℕ) (ds : List ℕ) : Type 0 where
  pub value : value_of ds ≡ n
  pub digit : (i : ℕ) → i < length ds → (48 ≤ get_or ds i 0) × (get_or ds i 0 ≤ 57)
  pub some : 0 < length ds
  pub lead : 1 < length ds → 48 < get_or ds 0 0

abbrev pub Bytes : List ℕ → Type 0
Bytes k = (i : ℕ) → i < length k → get_or k i 0 < 256
