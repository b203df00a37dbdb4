-- Stored numbers (document 01: "stored numbers are little-endian"; "a value's byte count, 1 to 8").
--     le bs             the number that the bytes bs stand for, lowest byte first
--     bytes_of k n       the k lowest bytes of n, lowest first
--     pack_size n        how many bytes the packer gives n: 1 for 0, at most 8
--     SizeOf n k        k is the least count of bytes, 1 at least, that holds n
--     largest ns        the largest of ns, 0 for none
-- Assumes nothing.
use Rattle.std.specs.Prelude.{cond, List, [], ◌∷◌, ℕ, zero, suc, ◌+◌, ◌*◌, ◌/◌, ◌%◌, ◌^◌, ◌≤◌, ◌<◌, ltb}

unfoldable pub le : List ℕ → ℕ
le [] = 0
le (b ∷ bs) = b + 256 * le bs

unfoldable pub bytes_of : ℕ → ℕ → List ℕ
bytes_of zero n = []
bytes_of (suc k) n = n % 256 ∷ bytes_of k (n / 256)

-- one byte, and one more for each time that 256 can be divided out, up to `more` times
unfoldable pub size_up_to : ℕ → ℕ → ℕ
size_up_to zero n = 1
size_up_to (suc more) n = cond (ltb n 256) 1 (size_up_to more (n / 256) + 1)

unfoldable pub pack_size : ℕ → ℕ
unfolding size_up_to
pack_size n = size_up_to 7 n

pub record SizeOf (n k : ℕ) : Type 0 where
  pub low : 1 ≤ k
  pub high : k ≤ 8
  pub holds : n < 256 ^ k
  pub least : (j : ℕ) → 1 ≤ j → n < 256 ^ j → k ≤ j

unfoldable pub largest : List ℕ → ℕ
largest [] = 0
largest (n ∷ ns) = cond (ltb n (largest ns)) (largest ns) n
