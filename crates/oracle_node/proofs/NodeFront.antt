-- A buffer without room stays as it was.
-- Assumes nothing.
use mathlib.Core.Path.{◌≡◌}
use mathlib.Core.List.{List}
use Prim.Native.Nat.{ℕ, ◌<◌}
use borrow.Author.Tests.{lt-leb}
use lib.ListN.{length}
use Rattle.oracle_numbers.specs.Numbers.{front}

-- no room
pub front_short : (v out : List ℕ) → length out < length v → out ≡ front v out
unfolding front
front_short v out short = rw (lt-leb (length v) (length out) short)
