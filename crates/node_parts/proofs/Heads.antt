-- The head of a node with any number of transitions, and the index.
-- Assumes nothing.
use mathlib.Core.Path.{◌≡◌, sym, ap}
use mathlib.Core.Bool.{Bool, true, false, cond, ◌&&◌}
use mathlib.Core.List.{List, [], ◌∷◌}
use Prim.Native.Nat.{ℕ, ◌+◌, ◌≤◌, ◌<◌}
use native.Mathlib.Omega.{arith}
use borrow.Author.Tests.{lt-ltb, le-ltb}
use lib.Dec.{ltb, eqb}
use lib.ListN.{length, set}
use Rattle.format.specs.Limits.{index_threshold}
use Rattle.buffers.specs.DecideLaws.{decides_and, decides_lt, false_of}
use Rattle.buffers.specs.PutLaws.{put_nil}
use Rattle.format.specs.Packed.{index_of, index_bytes, final_flag, head_of}
use Rattle.buffers.specs.Put.{PutAt}
use Rattle.node_parts.specs.ByteLaws.{put_one_byte, put_two_bytes}

-- ---- the head

pub final_flag_le : (final : Bool) → final_flag final ≤ 64
final_flag_le true = omega arith
final_flag_le false = omega arith

module _ (final : Bool) (n : ℕ) where
  -- 1 to 63 go into the state byte
  pub head_short : 0 < n → n < 64 → head_of final n ≡ (final_flag final + n) ∷ []
  unfolding head_of
  head_short pos lt = rw (lt-ltb 0 n pos, lt-ltb n 64 lt)

  pub head_long : ¬ ((0 < n) × (n < 64)) → head_of final n ≡ cond (eqb n 256) 1 n ∷ final_flag final ∷ []
  unfolding head_of
  head_long long = rw (false_of (ltb 0 n && ltb n 64) (decides_and (ltb 0 n) (ltb n 64) (decides_lt 0 n) (decides_lt n 64)) long)

module _ (out : List ℕ) (at : ℕ) (final : Bool) (n : ℕ) (room : at + length (head_of final n) ≤ length out) where
  pub head_short_room : 0 < n → n < 64 → at + 1 ≤ length out
  head_short_room pos lt = omega (arith, ap length (head_short final n pos lt))

  pub head_short_put : 0 < n → n < 64 → (flag : ℕ) → flag ≡ final_flag final → PutAt out at (head_of final n) (set out at (flag + n)) (at + 1)
  head_short_put pos lt flag is = rw (head_short final n pos lt, is) (put_one_byte out at (final_flag final + n) (head_short_room pos lt))

  pub head_long_room : ¬ ((0 < n) × (n < 64)) → at + 2 ≤ length out
  head_long_room long = omega (arith, ap length (head_long final n long))

  pub head_long_put : ¬ ((0 < n) × (n < 64)) → (count flag : ℕ) → count ≡ cond (eqb n 256) 1 n → flag ≡ final_flag final
      → PutAt out at (head_of final n) (set (set out at count) (at + 1) flag) (at + 2)
  head_long_put long count flag is_count is_flag =
      rw (head_long final n long, ← is_count, ← is_flag) (put_two_bytes out at count flag (head_long_room long))

-- ---- the index

pub put_none : (out : List ℕ) (at : ℕ) → PutAt out at [] out at
put_none out at = record { is = sym (put_nil out at); next = omega arith }

module _ (bs : List ℕ) where
  pub index_many : index_threshold < length bs → index_bytes bs ≡ index_of bs
  unfolding index_bytes
  index_many h = rw (lt-ltb index_threshold (length bs) h)

  pub index_few : length bs ≤ index_threshold → index_bytes bs ≡ []
  unfolding index_bytes
  index_few h = rw (le-ltb index_threshold (length bs) h)
