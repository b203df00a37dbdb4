-- What the tests of a node's inputs and of its index decide, beside the conditions that the format names.
--     Falls s at n            n pairs of bytes from place at on fall
--     Probed bs es            the entry of each byte is its place
--     below n es              how many entries are below n
-- Assumes nothing.
use Rattle.std.specs.Prelude.{◌≡◌, cond, List, [], ◌∷◌, ℕ, ◌+◌, ◌<◌, ltb, length, get_or}

-- each byte of n pairs from place at on is above the next
pub record Falls (s : List ℕ) (at n : ℕ) : Type 0 where
  pub down : (k : ℕ) → k < n → get_or s (at + k + 1) 0 < get_or s (at + k) 0

-- the entry of each byte of bs is its place
unfoldable pub Probed : List ℕ → List ℕ → Type 0
Probed bs es = (i : ℕ) → i < length bs → get_or es (get_or bs i 0) 0 ≡ i

-- how many of es are below n
unfoldable pub below : ℕ → List ℕ → ℕ
below n [] = 0
below n (e ∷ es) = cond (ltb e n) 1 0 + below n es
