-- Laws of `Lines`: how long its texts are; `decimal` and `hex_of` read back, so that different keys and values have different
-- lines; document 01's listing, computed.
-- Assumes nothing.
use Rattle.std.specs.Prelude.{◌≡◌, refl, Bool, true, false, List, [], ◌∷◌, ◌++◌, ℕ, zero, suc, ◌+◌, ◌-◌, ◌*◌, ◌/◌, ◌%◌, ◌^◌, ◌≤◌, ◌<◌, ltb, length, get_or, take}
use Rattle.std.proofs.Common.{sym, ap, ap₂, ◌∙◌, pow-suc, mul_comm, add-one, arith, lt-ltb, le-ltb, ltb-true, ltb-false, ne_eqb, length-append, take-suc}
use Rattle.format.specs.declared.Refusal.{Refusal}
use Rattle.listing_lines.specs.Lines.{hex_digit, hex_of, key_text, decimal_up_to, decimal, key_line, end_line, refused_line, longest_line}
use Rattle.format.specs.Limits.{max_path, number, RECORD}
use Rattle.listing_lines.specs.Lines.{value_from, value_of, hex_value, from_hex, key_of, DecimalOf, Bytes}

-- ---- lengths

pub length_hex_of : (k : List ℕ) → length (hex_of k) ≡ 2 * length k
unfolding hex_of
length_hex_of [] = refl
length_hex_of (b ∷ bs) = let rest = length_hex_of bs in omega arith

-- a key of at most 255 bytes takes at most 510
pub key_text_le : (k : List ℕ) → length k ≤ max_path → length (key_text k) ≤ 510
unfolding key_text
key_text_le [] h = omega arith
key_text_le (b ∷ bs) h = omega (arith, length_hex_of (b ∷ bs))

-- no digit, a digit more, or one digit
pub decimal_none : (n : ℕ) → decimal_up_to 0 n ≡ []
unfolding decimal_up_to
decimal_none n = refl

pub decimal_more : (k n : ℕ) → 10 ≤ n → decimal_up_to (suc k) n ≡ decimal_up_to k (n / 10) ++ ((48 + n % 10) ∷ [])
unfolding decimal_up_to
decimal_more k n h = rw (le-ltb n 10 h)

pub decimal_one : (k n : ℕ) → n < 10 → decimal_up_to (suc k) n ≡ (48 + n) ∷ []
unfolding decimal_up_to
decimal_one k n h = rw (lt-ltb n 10 h)

-- the two ways of a number
pub data Ways (n : ℕ) : Type 0 where
  few : n < 10 → Ways n
  many : 10 ≤ n → Ways n

pub ways : (n : ℕ) → Ways n
ways n = go (ltb n 10) refl
  where
    go : (t : Bool) → ltb n 10 ≡ t → Ways n
    go true e = few (ltb-true n 10 e)
    go false e = many (ltb-false n 10 e)

length_decimal_up_to : (k n : ℕ) → length (decimal_up_to k n) ≤ k
length_decimal_up_to zero n = omega (arith, ap length (decimal_none n))
length_decimal_up_to (suc k) n = go (ways n) (length_decimal_up_to k (n / 10))
  where
    go : Ways n → length (decimal_up_to k (n / 10)) ≤ k → length (decimal_up_to (suc k) n) ≤ suc k
    go (few h) rest = omega (arith, ap length (decimal_one k n h))
    go (many h) rest = omega (arith, ap length (decimal_more k n h), length-append (decimal_up_to k (n / 10)) ((48 + n % 10) ∷ []))

pub length_decimal : (n : ℕ) → length (decimal n) ≤ 20
unfolding decimal
length_decimal n = length_decimal_up_to 20 n

-- no line is longer than the longest
pub length_key_line : (k : List ℕ) (v : ℕ) → length k ≤ max_path → length (key_line k v) ≤ longest_line
unfolding key_line
length_key_line k v h =
    simp length-append (omega (arith, key_text_le k h, length_decimal v))

pub length_end_line : (keys followed : ℕ) → length (end_line keys followed) ≤ longest_line
unfolding end_line
length_end_line keys followed = simp length-append (omega (arith, length_decimal keys, length_decimal followed))

pub length_refused_line : (why : Refusal) → length (refused_line why) ≤ longest_line
unfolding refused_line
length_refused_line why = simp length-append (omega (arith, length_decimal (number why)))

-- ---- one byte more

pub hex_of_append : (k l : List ℕ) → hex_of (k ++ l) ≡ hex_of k ++ hex_of l
unfolding hex_of
hex_of_append [] l = refl
hex_of_append (b ∷ bs) l = ap (λ (t : List ℕ). hex_digit (b / 16) ∷ hex_digit (b % 16) ∷ t) (hex_of_append bs l)

pub hex_of_take : (k : List ℕ) (i : ℕ) → i < length k
    → hex_of (take (i + 1) k) ≡ hex_of (take i k) ++ (hex_digit (get_or k i 0 / 16) ∷ hex_digit (get_or k i 0 % 16) ∷ [])
unfolding hex_of
hex_of_take k i h = rw (add-one, take-suc k i 0, hex_of_append)

-- ---- the empty key, and any other

pub key_text_none : (k : List ℕ) (n : ℕ) → n ≡ 0 → key_text (take n k) ≡ 45 ∷ []
unfolding key_text
key_text_none k n z = rw z

pub key_text_some : (k : List ℕ) (n : ℕ) → ¬ (n ≡ 0) → n ≤ length k → key_text (take n k) ≡ hex_of (take n k)
unfolding key_text
key_text_some k zero some h = absurd (some refl)
key_text_some [] (suc n) some h = absurd (omega arith)
key_text_some (b ∷ bs) (suc n) some h = refl

-- ---- decimal is right

pub pow_10_suc : (k : ℕ) → 10 ^ suc k ≡ 10 * 10 ^ k
pow_10_suc k = pow-suc 10 k ∙ mul_comm (10 ^ k) 10

-- the last digit counts once, and those before it tenfold
value_from_last : (n : ℕ) (ds : List ℕ) (d : ℕ) → value_from n (ds ++ (d ∷ [])) ≡ value_from n ds * 10 + (d - 48)
unfolding value_from
value_from_last n [] d = refl
value_from_last n (e ∷ ds) d = value_from_last (n * 10 + (e - 48)) ds d

value_up_to : (k n : ℕ) → n < 10 ^ k → value_of (decimal_up_to k n) ≡ n
unfolding value_of value_from
value_up_to zero n h = rw (decimal_none n) (omega arith)
value_up_to (suc k) n h = go (ways n) (value_up_to k (n / 10))
  where
    go : Ways n → (n / 10 < 10 ^ k → value_from 0 (decimal_up_to k (n / 10)) ≡ n / 10) → value_from 0 (decimal_up_to (suc k) n) ≡ n
    go (few l) rest = rw (decimal_one k n l) (omega arith)
    go (many l) rest =
        let high = rest (omega (arith, pow_10_suc k)) in
        rw (decimal_more k n l, value_from_last 0 (decimal_up_to k (n / 10)) (48 + n % 10)) (omega arith)

abbrev Digit : ℕ → Type 0
Digit d = (48 ≤ d) × (d ≤ 57)

digit_last : (ds : List ℕ) (d : ℕ) → ((i : ℕ) → i < length ds → Digit (get_or ds i 0)) → Digit d
    → (i : ℕ) → i < length (ds ++ (d ∷ [])) → Digit (get_or (ds ++ (d ∷ [])) i 0)
digit_last [] d all last zero h = last
digit_last [] d all last (suc i) h = absurd (omega arith)
digit_last (e ∷ ds) d all last zero h = all 0 (omega arith)
digit_last (e ∷ ds) d all last (suc i) h = digit_last ds d (λ j l. all (suc j) (omega arith)) last i (omega arith)

digit_up_to : (k n i : ℕ) → i < length (decimal_up_to k n) → Digit (get_or (decimal_up_to k n) i 0)
digit_up_to zero n i h = absurd (omega (arith, ap length (decimal_none n)))
digit_up_to (suc k) n i h = go (ways n) (digit_up_to k (n / 10))
  where
    go : Ways n → ((j : ℕ) → j < length (decimal_up_to k (n / 10)) → Digit (get_or (decimal_up_to k (n / 10)) j 0))
        → Digit (get_or (decimal_up_to (suc k) n) i 0)
    go (few l) rest =
        let z : i ≡ 0 = omega (arith, ap length (decimal_one k n l)) in
        rw (decimal_one k n l, z) (omega arith, omega arith)
    go (many l) rest =
        rw (decimal_more k n l)
        (digit_last (decimal_up_to k (n / 10)) (48 + n % 10) rest (omega arith, omega arith) i (rw (decimal_more k n l) at h))

-- a list that starts above 48 still does with more behind it
lead_append : (ds es : List ℕ) → 48 < get_or ds 0 0 → 48 < get_or (ds ++ es) 0 0
lead_append [] es h = absurd (omega arith)
lead_append (d ∷ ds) es h = h

lead_up_to : (k n : ℕ) → 0 < n → n < 10 ^ k → 48 < get_or (decimal_up_to k n) 0 0
lead_up_to zero n pos h = absurd (omega arith)
lead_up_to (suc k) n pos h = go (ways n) (lead_up_to k (n / 10))
  where
    go : Ways n → (0 < n / 10 → n / 10 < 10 ^ k → 48 < get_or (decimal_up_to k (n / 10)) 0 0) → 48 < get_or (decimal_up_to (suc k) n) 0 0
    go (few l) rest = rw (decimal_one k n l) (omega arith)
    go (many l) rest =
        rw (decimal_more k n l)
        (lead_append (decimal_up_to k (n / 10)) ((48 + n % 10) ∷ []) (rest (omega arith) (omega (arith, pow_10_suc k))))

some_up_to : (k n : ℕ) → 0 < length (decimal_up_to (suc k) n)
some_up_to k n = go (ways n)
  where
    go : Ways n → 0 < length (decimal_up_to (suc k) n)
    go (few l) = rw (decimal_one k n l) (omega arith)
    go (many l) = rw (decimal_more k n l) (simp length-append (omega arith))

-- only 0 starts with a zero
pub decimal_first : (n : ℕ) → 0 < n → n < 2 ^ 64 → 48 < get_or (decimal n) 0 0
unfolding decimal
decimal_first n pos h = lead_up_to 20 n pos (omega arith)

-- a number below 10 is its one digit, and any other starts above `0`
pub decimal_right : (n : ℕ) → n < 2 ^ 64 → DecimalOf n (decimal n)
unfolding decimal
decimal_right n h = record {
  value = value_up_to 20 n (omega arith);
  digit = digit_up_to 20 n;
  some = some_up_to 19 n;
  lead = λ long. go long (ways n);
}
  where
    go : 1 < length (decimal_up_to 20 n) → Ways n → 48 < get_or (decimal_up_to 20 n) 0 0
    go long (few l) = absurd (omega (arith, ap length (decimal_one 19 n l)))
    go long (many l) = lead_up_to 20 n (omega arith) (omega arith)

pub decimal_inj : (m n : ℕ) → m < 2 ^ 64 → n < 2 ^ 64 → decimal m ≡ decimal n → m ≡ n
decimal_inj m n hm hn e = sym (decimal_right m hm).value ∙ ap value_of e ∙ (decimal_right n hn).value

-- ---- hexadecimal is right

data Letter (d : ℕ) : Type 0 where
  figure : d < 10 → hex_digit d ≡ 48 + d → Letter d
  letter : 10 ≤ d → hex_digit d ≡ 87 + d → Letter d

letter_of : (d : ℕ) → Letter d
unfolding hex_digit
letter_of d = go (ways d)
  where
    go : Ways d → Letter d
    go (few l) = figure l (rw (lt-ltb d 10 l))
    go (many l) = letter l (rw (le-ltb d 10 l))

hex_value_digit : (d : ℕ) → d < 16 → hex_value (hex_digit d) ≡ d
unfolding hex_value
hex_value_digit d h = go (letter_of d)
  where
    go : Letter d → hex_value (hex_digit d) ≡ d
    go (figure l e) = rw (e, lt-ltb (48 + d) 97 (omega arith)) (omega arith)
    go (letter l e) = rw (e, le-ltb (87 + d) 97 (omega arith)) (omega arith)

hex_digit_low : (d : ℕ) → 48 ≤ hex_digit d
hex_digit_low d = go (letter_of d)
  where
    go : Letter d → 48 ≤ hex_digit d
    go (figure l e) = omega arith
    go (letter l e) = omega arith

pub from_hex_of : (k : List ℕ) → Bytes k → from_hex (hex_of k) ≡ k
unfolding from_hex hex_of
from_hex_of [] all = refl
from_hex_of (b ∷ bs) all =
    let byte : b < 256 = all 0 (omega arith) in
    let high = hex_value_digit (b / 16) (omega arith) in
    let low = hex_value_digit (b % 16) (omega arith) in
    let whole : hex_value (hex_digit (b / 16)) * 16 + hex_value (hex_digit (b % 16)) ≡ b = omega arith in
    ap₂ ◌∷◌ whole (from_hex_of bs (λ i l. all (suc i) (omega arith)))

-- a key's text reads back as the key
pub key_of_text : (k : List ℕ) → Bytes k → key_of (key_text k) ≡ k
unfolding key_of key_text hex_of
key_of_text [] all = refl
key_of_text (b ∷ bs) all =
    rw (ne_eqb (hex_digit (b / 16)) 45 (λ e. omega (arith, hex_digit_low (b / 16)))) (from_hex_of (b ∷ bs) all)

-- ---- different keys or values have different lines

-- every element lies above s
abbrev Above : ℕ → List ℕ → Type 0
Above s l = (i : ℕ) → i < length l → s < get_or l i 0

-- where s stands in neither part before it, both parts agree
parts_inj : (s : ℕ) (xs ys a b : List ℕ) → Above s xs → Above s ys → xs ++ (s ∷ a) ≡ ys ++ (s ∷ b) → (xs ≡ ys) × (a ≡ b)
parts_inj s [] [] a b hx hy e = (refl, cc)
parts_inj s [] (y ∷ ys) a b hx hy e = let f : s ≡ y = cc in absurd (omega (arith, hy 0 (omega arith)))
parts_inj s (x ∷ xs) [] a b hx hy e = let f : x ≡ s = cc in absurd (omega (arith, hx 0 (omega arith)))
parts_inj s (x ∷ xs) (y ∷ ys) a b hx hy e =
    let first : x ≡ y = cc in
    let rest : xs ++ (s ∷ a) ≡ ys ++ (s ∷ b) = cc in
    let both = parts_inj s xs ys a b (λ i l. hx (suc i) (omega arith)) (λ i l. hy (suc i) (omega arith)) rest in
    (ap₂ ◌∷◌ first both.0, both.1)

hex_of_above : (k : List ℕ) → Above 32 (hex_of k)
unfolding hex_of
hex_of_above [] i h = absurd (omega arith)
hex_of_above (b ∷ bs) zero h = omega (arith, hex_digit_low (b / 16))
hex_of_above (b ∷ bs) (suc zero) h = omega (arith, hex_digit_low (b % 16))
hex_of_above (b ∷ bs) (suc (suc i)) h = hex_of_above bs i (omega arith)

key_text_above : (k : List ℕ) → Above 32 (key_text k)
unfolding key_text
key_text_above [] zero h = omega arith
key_text_above [] (suc i) h = absurd (omega arith)
key_text_above (b ∷ bs) i h = hex_of_above (b ∷ bs) i h

decimal_above : (n : ℕ) → n < 2 ^ 64 → Above 10 (decimal n)
decimal_above n fits i h = let d = (decimal_right n fits).digit i h in omega arith

pub key_line_inj : (k l : List ℕ) (v w : ℕ) → Bytes k → Bytes l → v < 2 ^ 64 → w < 2 ^ 64 → key_line k v ≡ key_line l w
    → (k ≡ l) × (v ≡ w)
unfolding key_line
key_line_inj k l v w bk bl hv hw e =
    let parts =
    parts_inj 32 (key_text k) (key_text l) (decimal v ++ (10 ∷ [])) (decimal w ++ (10 ∷ [])) (key_text_above k) (key_text_above l) e in
    let values = parts_inj 10 (decimal v) (decimal w) [] [] (decimal_above v hv) (decimal_above w hw) parts.1 in
    (sym (key_of_text k bk) ∙ ap key_of parts.0 ∙ key_of_text l bl, decimal_inj v w hv hw values.0)

-- ---- document 01's listing of D, line by line, and lines that it does not have

-- `61 1`
example_61_1 : key_line (97 ∷ []) 1 ≡ 54 ∷ 49 ∷ 32 ∷ 49 ∷ 10 ∷ []
unfolding hex_digit hex_of key_text decimal_up_to decimal key_line
example_61_1 = refl

-- `6174 3`
example_6174_3 : key_line (97 ∷ 116 ∷ []) 3 ≡ 54 ∷ 49 ∷ 55 ∷ 52 ∷ 32 ∷ 51 ∷ 10 ∷ []
unfolding hex_digit hex_of key_text decimal_up_to decimal key_line
example_6174_3 = refl

-- `65 4`
example_65_4 : key_line (101 ∷ []) 4 ≡ 54 ∷ 53 ∷ 32 ∷ 52 ∷ 10 ∷ []
unfolding hex_digit hex_of key_text decimal_up_to decimal key_line
example_65_4 = refl

-- `end 3 3`
example_end_3_3 : end_line 3 3 ≡ 101 ∷ 110 ∷ 100 ∷ 32 ∷ 51 ∷ 32 ∷ 51 ∷ 10 ∷ []
unfolding decimal_up_to decimal end_line
example_end_3_3 = refl

-- `- 0`, the empty key
example_empty : key_line [] 0 ≡ 45 ∷ 32 ∷ 48 ∷ 10 ∷ []
unfolding key_text decimal_up_to decimal key_line
example_empty = refl

-- `00fa 120`
example_00fa_120 : key_line (0 ∷ 250 ∷ []) 120 ≡ 48 ∷ 48 ∷ 102 ∷ 97 ∷ 32 ∷ 49 ∷ 50 ∷ 48 ∷ 10 ∷ []
unfolding hex_digit hex_of key_text decimal_up_to decimal key_line
example_00fa_120 = refl

-- `refused 10`
example_refused_10 : refused_line RECORD ≡ 114 ∷ 101 ∷ 102 ∷ 117 ∷ 115 ∷ 101 ∷ 100 ∷ 32 ∷ 49 ∷ 48 ∷ 10 ∷ []
unfolding decimal_up_to decimal refused_line
example_refused_10 = refl

-- `18446744073709551615`, where the totals stop
example_largest : decimal 18446744073709551615
    ≡ 49 ∷ 56 ∷ 52 ∷ 52 ∷ 54 ∷ 55 ∷ 52 ∷ 52 ∷ 48 ∷ 55 ∷ 51 ∷ 55 ∷ 48 ∷ 57 ∷ 53 ∷ 53 ∷ 49 ∷ 54 ∷ 49 ∷ 53 ∷ []
unfolding decimal_up_to decimal
example_largest = refl
