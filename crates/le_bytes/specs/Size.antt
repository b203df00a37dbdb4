-- What `pack_size` answers.
--     PackedIn n r      r is the count of bytes that the packer gives n, from 1 to 8
-- Assumes nothing.
use Rattle.std.specs.Prelude.{◌≡◌, ℕ, ◌≤◌}
use Rattle.format.specs.Bytes.{pack_size}

pub record PackedIn (n r : ℕ) : Type 0 where
  pub is : r ≡ pack_size n
  pub low : 1 ≤ r
  pub high : r ≤ 8
