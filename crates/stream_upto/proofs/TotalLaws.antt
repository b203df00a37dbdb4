-- A number of keys that may pass the limit, with so many more.
-- Assumes nothing.
use mathlib.Core.Path.{◌≡◌}
use Prim.Native.Nat.{ℕ, ◌+◌}
use native.Mathlib.Omega.{arith}
use native.Mathlib.Decide.{dec_le}
use borrow.Author.Tests.{le-leb, lt-leb}
use Rattle.format.specs.Limits.{max_sum}
use Rattle.stream_upto.specs.Counts.{total_as, added_to}

pub added_total : (n k : ℕ) → added_to (total_as n) k ≡ total_as (n + k)
added_total n k =
    elim (dec_le n max_sum) [
      | yes p ↦ rw (le-leb n max_sum p)
      | no p ↦ rw (lt-leb n max_sum (omega arith)) (rw (lt-leb (n + k) max_sum (omega arith)))
    ]
