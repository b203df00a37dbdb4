-- The list that is packed (document 02, N4; docs/FORMAT.md, "A list"): the number of keys and the total of their bytes (32 bits each), then an
-- end for each key (32 bits), then a value for each key (64 bits), then the key bytes; all little-endian.
--     Pair                 a key with its value
--     count_in, total_in     the number of keys; the total of key bytes
--     end_at, begin_at       where a key ends among the key bytes; where it begins, which is the end of the key before
--     key_at, value_at       the key and the value at a place
--     IsList s             the bytes s are a list: nothing for LIST (13) to refuse
--     list_test s           the same as a test that computes
--     pairs_of s            the pairs of the list, in its order
-- Assumes nothing.
use Rattle.std.specs.Prelude.{◌≡◌, Bool, cond, ◌&&◌, List, [], ◌∷◌, ℕ, zero, suc, ◌+◌, ◌-◌, ◌*◌, ◌≤◌, ◌<◌, leb, eqb, length, take, drop}
use Rattle.buffers.specs.Decide.{all_below}
use Rattle.format.specs.Limits.{max_path}
use Rattle.format.specs.Opening.{number_at}
use Rattle.format.specs.Strings.{Before, before_test}

pub record Pair : Type 0 where
  pub key : List ℕ
  pub value : ℕ

abbrev pub count_in : List ℕ → ℕ
count_in s = number_at s 0 4

abbrev pub total_in : List ℕ → ℕ
total_in s = number_at s 4 4

abbrev pub end_at : List ℕ → ℕ → ℕ
end_at s i = number_at s (8 + 4 * i) 4

-- the first key begins at 0
abbrev pub begin_at : List ℕ → ℕ → ℕ
begin_at s i = cond (eqb i 0) 0 (end_at s (i - 1))

abbrev pub key_at : List ℕ → ℕ → List ℕ
key_at s i = take (end_at s i - begin_at s i) (drop (8 + 12 * count_in s + begin_at s i) s)

abbrev pub value_at : List ℕ → ℕ → ℕ
value_at s i = number_at s (8 + 4 * count_in s + 8 * i) 8

-- begin_at of the number of keys is the last end, and 0 with no keys
pub record IsList (s : List ℕ) : Type 0 where
  pub long : 8 ≤ length s
  pub sized : length s ≡ 8 + 12 * count_in s + total_in s
  pub rise : (i : ℕ) → i < count_in s → begin_at s i ≤ end_at s i
  pub whole : begin_at s (count_in s) ≡ total_in s
  pub short : (i : ℕ) → i < count_in s → end_at s i - begin_at s i ≤ max_path
  pub ascend : (i : ℕ) → i < count_in s - 1 → Before (key_at s i) (key_at s (i + 1))

unfoldable pub list_test : List ℕ → Bool
list_test s =
    leb 8 (length s)
    && (eqb (length s) (8 + 12 * count_in s + total_in s)
    && (all_below (λ i. leb (begin_at s i) (end_at s i)) (count_in s)
    && (eqb (begin_at s (count_in s)) (total_in s)
    && (all_below (λ i. leb (end_at s i - begin_at s i) max_path) (count_in s)
    && all_below (λ i. before_test (key_at s i) (key_at s (i + 1))) (count_in s - 1)))))

abbrev pub pair_at : List ℕ → ℕ → Pair
pair_at s i = record { key = key_at s i; value = value_at s i }

-- n pairs from place i on
unfoldable pub pairs_from : List ℕ → ℕ → ℕ → List Pair
pairs_from s i zero = []
pairs_from s i (suc n) = pair_at s i ∷ pairs_from s (i + 1) n

unfoldable pub pairs_of : List ℕ → List Pair
unfolding pairs_from
pairs_of s = pairs_from s 0 (count_in s)
