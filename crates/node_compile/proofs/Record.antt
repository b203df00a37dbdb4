-- A target that RECORD passes does not lie past F, so its delta does not wrap.
-- Assumes nothing.
use mathlib.Core.Logic.{⊎_elim}
use mathlib.Core.List.{List}
use Prim.Native.Nat.{ℕ, ◌≤◌, ◌<◌}
use native.Mathlib.Omega.{arith}
use lib.ListN.{length, get_or}
use Rattle.format.specs.Packed.{TargetOk, TargetsOk}

target_le : (first t : ℕ) → TargetOk first t → t ≤ first
unfolding TargetOk
target_le first t ok = ⊎_elim (λ z. omega arith) (λ q. omega arith) ok

-- what a loop over the targets asks of each
pub targets_le : (first : ℕ) (ts : List ℕ) → TargetsOk first ts → (i : ℕ) → i < length ts → get_or ts i 0 ≤ first
unfolding TargetsOk
targets_le first ts all i l = target_le first (get_or ts i 0) (all i l)
